-- Typed items write no line end, where none stands in the texts of their forms.
use Rattle.std.specs.Prelude.{◌+◌, ◌++◌, ℕ, zero, suc, List, [], ◌∷◌, map, Option}
use Rattle.std.specs.List.{All, AllByRecursion}
use Rattle.std.proofs.lemmas.List.Elements.{All-head, All-tail}
use Rattle.pig_syntax.specs.ExprTrees.{expr_form}
use Rattle.pig_syntax.specs.Formed.{ItemFormed}
use Rattle.pig_syntax.specs.declared.trees.AsNames.{AsNames}
use Rattle.pig_syntax.specs.declared.trees.Item.{Item}
use Rattle.pig_typed.specs.Typed.{TypedItem}
use Rattle.pig_typing.specs.Calls.{fields_from}
use Rattle.pig_typing.specs.Columns.{Place}
use Rattle.pig_items.specs.Items.{Generated, NameForm, Named, named_bare, named_cast, Plain, plain_bare, plain_named, Flat, flat_bare, flat_named, Generates, generates_all, generates_value, generates_flat, AllGenerate, none_generate, more_generate}
use Rattle.pig_typing.specs.Parts.{Typing, typed_of, plain_item}
use Rattle.pig_typing.proofs.NoLineEnds.{IsFree, typing_free}

abbrev pub ItemsAreFree : List TypedItem → Type 0
ItemsAreFree items = AllByRecursion (λ i. IsFree i.value) items

fields_free : (n count : ℕ) → ItemsAreFree (map plain_item (fields_from n count))
fields_free n zero = tt
fields_free n (suc count) = (tt, fields_free (n + 1) count)

named_free : (p : Typing) (f : NameForm) (g : Generated) → IsFree (typed_of p) → Named p f g → ItemsAreFree g.items
named_free p f g h named_bare = (h, tt)
named_free p f g h (named_cast e within t) = (h, tt)

plain_free : (p : Typing) (names : Option AsNames) (g : Generated) → IsFree (typed_of p) → Plain p names g → ItemsAreFree g.items
plain_free p names g h plain_bare = (h, tt)
plain_free p names g h (plain_named {f = f} e k) = named_free p f g h k

flat_free : (p : Typing) (names : Option AsNames) (g : Generated) → IsFree (typed_of p) → Flat p names g → ItemsAreFree g.items
flat_free p names g h (flat_bare e) = (h, tt)
flat_free p names g h (flat_named e k) = (h, tt)

item_free : (s : Place) (i : Item) (g : Generated) → ItemFormed i → Generates s i g → ItemsAreFree g.items
item_free s i g w generates_all = fields_free 0 _
item_free s i g w (generates_value {value = value} {names = names} {p = p} h k) = plain_free p names g (typing_free s (expr_form value) p w.0 h) k
item_free s i g w (generates_flat {value = value} {names = names} {p = p} h k) = flat_free p names g (typing_free s (expr_form value) p w.0 h) k

items_append : (is js : List TypedItem) → ItemsAreFree is → ItemsAreFree js → ItemsAreFree (is ++ js)
items_append [] js h k = k
items_append (i ∷ is) js h k = (h.0, items_append is js h.1 k)

pub items_free : (s : Place) (is : List Item) (g : Generated) → All ItemFormed is → AllGenerate s is g → ItemsAreFree g.items
items_free s is g w none_generate = tt
items_free s is g w (more_generate {i = i} {is = more} {g = k} {h = l} h t) =
    items_append k.items l.items (item_free s i k (All-head ItemFormed i more w) h) (items_free s more l (All-tail ItemFormed i more w) t)
