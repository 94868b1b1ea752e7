-- What holds of items is found, so there is one typing of them, or a refusal, and never both.
use Rattle.std.proofs.Common.{◌≡◌, ◌∙◌, List, refl, sym, true}
use Rattle.std.specs.Prelude.{Option}
use Rattle.std.specs.declared.result.Result.TheVariants.{Ok}
use Rattle.pig_schema.specs.FieldTrees.{FieldTree, tree_kind}
use Rattle.pig_syntax.specs.declared.trees.AsNames.{AsNames}
use Rattle.pig_syntax.specs.declared.trees.Item.{Item}
use Rattle.pig_typing.specs.declared.faults.CheckKind.{CheckKind}
use Rattle.pig_typing.specs.Columns.{Place}
use Rattle.pig_items.specs.Items.{Generated, NameForm, Named, NamedNot, named_bare, named_cast, of_float, of_size, of_no_cast, Renamed, RenamedNot, renamed_bare, renamed_typed, of_float_field, of_field_size, of_other_field, AllRenamed, AllRenamedNot, OneRenamedNot, as_many, none_renamed, one_renamed, another_number, one_renamed_not, here_renamed_not, later_renamed_not, Plain, PlainNot, plain_bare, plain_named, not_one_name, not_named, Flat, FlatNot, flat_bare, flat_named, of_a_map, not_renamed, Generates, GeneratesNot, generates_all, generates_value, generates_flat, untyped_item, no_plain, no_flat, AllGenerate, AllGenerateNot, none_generate, more_generate, here_not, later_not, cast_named, named_of, same_named, renamed_of, each_renamed, all_renamed, plain_of, names_for, flat_of, item_of, items_of}
use Rattle.pig_typing.specs.Limits.{limited}
use Rattle.pig_typing.specs.Parts.{Typing}
use Rattle.pig_typing.specs.Reader.{type_of_cast}
use Rattle.pig_typing.proofs.Found.{found, fails, kept_fails}
use Rattle.pig_typing.proofs.References.{Fails, failed, fails_first, fails_next, not_both}

named_found : {p : Typing} {f : NameForm} {g : Generated} → Named p f g → named_of p f ≡ Ok g
unfolding named_of type_of_cast cast_named
named_found named_bare = refl
named_found (named_cast e within t) = rw (e, within, t) refl

named_fails : {p : Typing} {f : NameForm} {r : CheckKind} → NamedNot p f r → Fails (named_of p f)
unfolding named_of type_of_cast cast_named
named_fails (of_float e) = rw (e) failed
named_fails (of_size e past) = rw (e, past) failed
named_fails (of_no_cast {d = d} e t) = rw (e) (kept_fails d _ (limited (tree_kind d)) (rw (t) failed))

renamed_found : {c d : FieldTree} {f : NameForm} → Renamed c f d → renamed_of c f ≡ Ok d
unfolding renamed_of type_of_cast same_named
renamed_found renamed_bare = refl
renamed_found (renamed_typed e within t) = rw (e, within, t) refl

each_renamed_found : {cs ds : List FieldTree} {fs : List NameForm} → AllRenamed cs fs ds → each_renamed cs fs ≡ Ok ds
unfolding each_renamed
each_renamed_found none_renamed = refl
each_renamed_found (one_renamed h g) = rw (renamed_found h, each_renamed_found g) refl

as_many_found : {cs ds : List FieldTree} {fs : List NameForm} → AllRenamed cs fs ds → as_many cs fs ≡ true
as_many_found none_renamed = refl
as_many_found (one_renamed h g) = as_many_found g

all_renamed_found : {cs ds : List FieldTree} {fs : List NameForm} → AllRenamed cs fs ds → all_renamed cs fs ≡ Ok ds
unfolding all_renamed
all_renamed_found h = rw (as_many_found h) (each_renamed_found h)

plain_found : {p : Typing} {names : Option AsNames} {g : Generated} → Plain p names g → plain_of p names ≡ Ok g
unfolding plain_of
plain_found plain_bare = refl
plain_found (plain_named e h) = rw (e) (named_found h)

flat_found : {p : Typing} {names : Option AsNames} {g : Generated} → Flat p names g → flat_of p names ≡ Ok g
unfolding flat_of names_for
flat_found (flat_bare e) = rw (e) refl
flat_found (flat_named e h) = rw (e, all_renamed_found h) refl

pub item_found : {s : Place} {i : Item} {g : Generated} → Generates s i g → item_of s i ≡ Ok g
unfolding item_of
item_found generates_all = refl
item_found (generates_value h g) = rw (found h) (plain_found g)
item_found (generates_flat h g) = rw (found h) (flat_found g)

pub items_found : {s : Place} {is : List Item} {g : Generated} → AllGenerate s is g → items_of s is ≡ Ok g
unfolding items_of
items_found none_generate = refl
items_found (more_generate h g) = rw (item_found h, items_found g) refl

renamed_fails : {c : FieldTree} {f : NameForm} {r : CheckKind} → RenamedNot c f r → Fails (renamed_of c f)
unfolding renamed_of type_of_cast same_named
renamed_fails (of_float_field e) = rw (e) failed
renamed_fails (of_field_size e past) = rw (e, past) failed
renamed_fails (of_other_field {d = d} e t) = rw (e) (kept_fails d _ (limited (tree_kind d)) (rw (t) failed))

each_renamed_fails : {cs : List FieldTree} {fs : List NameForm} {r : CheckKind} → OneRenamedNot cs fs r → Fails (each_renamed cs fs)
unfolding each_renamed
each_renamed_fails (here_renamed_not h) = fails_first _ (renamed_fails h)
each_renamed_fails (later_renamed_not {c = c} {f = f} h) = fails_next _ (renamed_of c f) (λ d. fails_first _ (each_renamed_fails h))

all_renamed_fails : {cs : List FieldTree} {fs : List NameForm} {r : CheckKind} → AllRenamedNot cs fs r → Fails (all_renamed cs fs)
unfolding all_renamed
all_renamed_fails (another_number e) = rw (e) failed
all_renamed_fails (one_renamed_not e h) = rw (e) (each_renamed_fails h)

plain_fails : {p : Typing} {names : Option AsNames} {r : CheckKind} → PlainNot p names r → Fails (plain_of p names)
unfolding plain_of
plain_fails (not_one_name e) = rw (e) failed
plain_fails (not_named e h) = rw (e) (named_fails h)

flat_fails : {p : Typing} {names : Option AsNames} {r : CheckKind} → FlatNot p names r → Fails (flat_of p names)
unfolding flat_of names_for
flat_fails (of_a_map e) = rw (e) failed
flat_fails (not_renamed e h) = rw (e) (fails_first _ (all_renamed_fails h))

pub item_fails : {s : Place} {i : Item} {r : CheckKind} → GeneratesNot s i r → Fails (item_of s i)
unfolding item_of
item_fails (untyped_item h) = fails_first _ (fails h)
item_fails (no_plain h g) = rw (found h) (plain_fails g)
item_fails (no_flat h g) = rw (found h) (flat_fails g)

pub items_fail : {s : Place} {is : List Item} {r : CheckKind} → AllGenerateNot s is r → Fails (items_of s is)
unfolding items_of
items_fail (here_not h) = fails_first _ (item_fails h)
items_fail {s = s} (later_not {i = i} h) = fails_next _ (item_of s i) (λ g. fails_first _ (items_fail h))

-- ---- so there is one, or a refusal, and never both

pub one_generated : {s : Place} {is : List Item} {g h : Generated} → AllGenerate s is g → AllGenerate s is h → g ≡ h
one_generated h g = let e : Ok _ ≡ Ok _ = sym (items_found h) ∙ items_found g in cc

pub none_generated : {s : Place} {is : List Item} {g : Generated} {r : CheckKind} → AllGenerate s is g → AllGenerateNot s is r → ⊥
none_generated h g = not_both (items_found h) (items_fail g)
