-- What is read is of its kind, and from bytes it is a value.
use Rattle.std.proofs.Common.{◌≡◌, ◌<◌, ℕ, List, [], ◌∷◌, map, refl, sym, ◌∙◌, ap, subst}
use Rattle.std.specs.Bool.{⊤}
use Rattle.std.specs.BTreeMap.{insert_entry}
use Rattle.std.specs.List.{AllByRecursion}
use Rattle.std.specs.Ordering.{match_ordering, ordering_reverse}
use Rattle.std.specs.Str.{IsUtf8}
use Rattle.std.specs.declared.cmp.Ordering.{Ordering}
use Rattle.std.specs.declared.cmp.Ordering.TheVariants.{Less, Equal, Greater}
use Rattle.std.proofs.lemmas.Cmp.{nat_list_cmp_total}
use Rattle.std.proofs.lemmas.List.Elements.{All-from_recursion, recursion_from_All}
use Rattle.pig_value.proofs.LossyTexts.{lossy_is_text}
use Rattle.pig_value.proofs.ReadLaws.{EachOf, HoldsOfForms, PairOf, by_key_keeps, field_read}
use Rattle.pig_value.proofs.TreeLaws.{entries_back}
use Rattle.pig_value.proofs.ValidLaws.{bag_is_value}
use Rattle.pig_value.proofs.list_laws.Bags.{each-sort}
use Rattle.pig_value.specs.FieldReader.{field_value}
use Rattle.pig_value.specs.Fields.{entries_by_key, put_pairs}
use Rattle.pig_value.specs.Kinds.{IsOf, FieldsOf, TuplesOf, EntriesOf}
use Rattle.pig_value.specs.Leaves.{AreBytes}
use Rattle.pig_value.specs.Orders.{bag_of, row_cmp, text_cmp}
use Rattle.pig_value.specs.Trees.{Tree, fields_of, tuples_of, entries_of, KindTree, KindTrees, no_kinds, more_kinds}
use Rattle.pig_value.specs.Valid.{IsValue, AreFields, AreTuples, AreEntries, TextsAscend}

-- of its kind, whatever the bytes are
abbrev Any : {X : Type 0} → X → Type 0
Any x = ⊤

abbrev Of : KindTree → Tree → Type 0
Of k v = IsOf v k

fields_of_kinds : (ks : KindTrees) (row : List Tree) → EachOf Of ks row → FieldsOf (fields_of row) ks
fields_of_kinds no_kinds [] h = tt
fields_of_kinds (more_kinds k ks) (v ∷ row) h = (h.0, fields_of_kinds ks row h.1)
fields_of_kinds no_kinds (v ∷ row) h = h
fields_of_kinds (more_kinds k ks) [] h = h

tuples_of_kinds : (ks : KindTrees) (rows : List (List Tree)) → AllByRecursion (EachOf Of ks) rows → TuplesOf (tuples_of rows) ks
tuples_of_kinds ks [] h = tt
tuples_of_kinds ks (row ∷ rows) h = (fields_of_kinds ks row h.0, tuples_of_kinds ks rows h.1)

entries_of_kind : (k : KindTree) (ps : List (List ℕ × Tree)) → AllByRecursion (PairOf Any (Of k)) ps → EntriesOf (entries_of ps) k
entries_of_kind k [] h = tt
entries_of_kind k (p ∷ ps) h = (h.0.1, entries_of_kind k ps h.1)

kinds_hold : HoldsOfForms Any Any Of
kinds_hold = record {
  null = λ k. tt;
  bool = λ b. tt;
  int = λ z h. tt;
  long = λ z h. tt;
  chars = λ bs h. tt;
  bytes = λ bs h. tt;
  tuple = fields_of_kinds;
  bag = λ ks rows h. tuples_of_kinds ks (bag_of rows) (each-sort row_cmp (EachOf Of ks) rows h);
  key = λ bs h. tt;
  map = λ k ps h. entries_of_kind k (entries_by_key ps) (by_key_keeps Any (Of k) ps h);
}

pub field_of_kind : (k : KindTree) (bs : List ℕ) → IsOf (field_value k bs) k
field_of_kind k bs = field_read Any Any Of kinds_hold k bs (λ i d h. tt)

-- their keys ascend
abbrev pub KeysAscend : List (List ℕ × Tree) → Type 0
KeysAscend es = TextsAscend (map (λ p. p.0) es)

-- the first key, if there is one, stands behind a key
abbrev Behind : List ℕ → List (List ℕ × Tree) → Type 0
Behind key [] = ⊤
Behind key (e ∷ es) = text_cmp key e.0 ≡ Less

ascends_cons : (e : List ℕ × Tree) (es : List (List ℕ × Tree)) → Behind e.0 es → KeysAscend es → KeysAscend (e ∷ es)
ascends_cons e [] first rest = tt
ascends_cons e (f ∷ es) first rest = (first, rest)

pub ascends_rest : (e : List ℕ × Tree) (es : List (List ℕ × Tree)) → KeysAscend (e ∷ es) → Behind e.0 es × KeysAscend es
ascends_rest e [] h = (tt, tt)
ascends_rest e (f ∷ es) h = h

other_way : (a b : List ℕ) → text_cmp a b ≡ Greater → text_cmp b a ≡ Less
other_way a b e = nat_list_cmp_total.antisymm b a ∙ ap ordering_reverse e

behind_insert : (key : List ℕ) (es : List (List ℕ × Tree)) (p : List ℕ × Tree) → text_cmp key p.0 ≡ Less → Behind key es → Behind key (insert_entry text_cmp es p.0 p.1)
behind_insert key [] p first h = first
behind_insert key (e ∷ es) p first h = by_order (text_cmp p.0 e.0)
  where
    by_order : (o : Ordering) → Behind key (match_ordering o ((p.0, p.1) ∷ e ∷ es) ((e.0, p.1) ∷ es) (e ∷ insert_entry text_cmp es p.0 p.1))
    by_order Less = first
    by_order Equal = h
    by_order Greater = h

insert_ascends : (es : List (List ℕ × Tree)) (p : List ℕ × Tree) → KeysAscend es → KeysAscend (insert_entry text_cmp es p.0 p.1)
insert_ascends [] p h = tt
insert_ascends (e ∷ es) p h = by_order (ascends_rest e es h) (insert_ascends es p (ascends_rest e es h).1) (text_cmp p.0 e.0) refl
  where
    by_order : Behind e.0 es × KeysAscend es → KeysAscend (insert_entry text_cmp es p.0 p.1) → (o : Ordering) → text_cmp p.0 e.0 ≡ o → KeysAscend (match_ordering o ((p.0, p.1) ∷ e ∷ es) ((e.0, p.1) ∷ es) (e ∷ insert_entry text_cmp es p.0 p.1))
    by_order rest put Less is = (is, h)
    by_order rest put Equal is = ascends_cons (e.0, p.1) es rest.0 rest.1
    by_order rest put Greater is = ascends_cons e (insert_entry text_cmp es p.0 p.1) (behind_insert e.0 es p (other_way p.0 e.0 is) rest.0) put

put_ascends : (es ps : List (List ℕ × Tree)) → KeysAscend es → KeysAscend (put_pairs es ps)
put_ascends es [] h = h
put_ascends es (p ∷ ps) h = put_ascends (insert_entry text_cmp es p.0 p.1) ps (insert_ascends es p h)

-- a value, where the bytes are bytes
abbrev IsByte : ℕ → Type 0
IsByte b = b < 256

abbrev Valid : KindTree → Tree → Type 0
Valid k v = IsValue v

fields_valid : (ks : KindTrees) (row : List Tree) → EachOf Valid ks row → AreFields (fields_of row)
fields_valid no_kinds [] h = tt
fields_valid (more_kinds k ks) (v ∷ row) h = (h.0, fields_valid ks row h.1)
fields_valid no_kinds (v ∷ row) h = absurd h
fields_valid (more_kinds k ks) [] h = absurd h

tuples_valid : (ks : KindTrees) (rows : List (List Tree)) → AllByRecursion (EachOf Valid ks) rows → AreTuples (tuples_of rows)
tuples_valid ks [] h = tt
tuples_valid ks (row ∷ rows) h = (fields_valid ks row h.0, tuples_valid ks rows h.1)

entries_valid : (ps : List (List ℕ × Tree)) → AllByRecursion (PairOf IsUtf8 IsValue) ps → AreEntries (entries_of ps)
entries_valid [] h = tt
entries_valid (p ∷ ps) h = (h.0.0, h.0.1, entries_valid ps h.1)

values_hold : HoldsOfForms IsByte IsUtf8 Valid
values_hold = record {
  null = λ k. tt;
  bool = λ b. tt;
  int = λ z h. h;
  long = λ z h. h;
  chars = λ bs h. lossy_is_text bs;
  bytes = λ bs h. recursion_from_All IsByte bs h;
  tuple = fields_valid;
  bag = λ ks rows h. bag_is_value rows (tuples_valid ks rows h);
  key = λ bs h. lossy_is_text bs;
  map = λ k ps h. (subst KeysAscend (sym (entries_back (entries_by_key ps))) (put_ascends [] ps tt), entries_valid (entries_by_key ps) (by_key_keeps IsUtf8 IsValue ps h));
}

pub field_is_value : (k : KindTree) (bs : List ℕ) → AreBytes bs → IsValue (field_value k bs)
field_is_value k bs are = field_read IsByte IsUtf8 Valid values_hold k bs (All-from_recursion IsByte bs are)
