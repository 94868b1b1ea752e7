-- Putting a value at a key, seen by the key's bytes.
use Rattle.std.proofs.Common.{◌≡◌, ◌++◌, List, [], ◌∷◌, map, String, string_bytes, refl, sym, ap, ◌∙◌}
use Rattle.std.specs.BTreeMap.{insert_entry}
use Rattle.std.specs.Ordering.{match_ordering}
use Rattle.std.specs.String.{string_cmp}
use Rattle.std.specs.declared.cmp.Ordering.{Ordering}
use Rattle.std.specs.declared.cmp.Ordering.TheVariants.{Less, Equal, Greater}
use Rattle.std.proofs.lemmas.List.{map-append}
use Rattle.pig_value.specs.declared.values.Value.{Value}
use Rattle.pig_value.specs.declared.values.Pair.{Pair}
use Rattle.pig_value.specs.Orders.{text_cmp}
use Rattle.pig_value.proofs.TreeLaws.{entry_is}
use Rattle.pig_value.specs.Trees.{entry_of, tree}
use Rattle.pig_cast.specs.Keyed.{keyed}

map_match : {X Y : Type 0} (f : X → Y) (o : Ordering) (a b c : List X) → map f (match_ordering o a b c) ≡ match_ordering o (map f a) (map f b) (map f c)
map_match f Less a b c = refl
map_match f Equal a b c = refl
map_match f Greater a b c = refl

pub keyed_insert : {A : Type 0} (es : List (String A × Value)) (key : String A) (value : Value) → map keyed (insert_entry string_cmp es key value) ≡ insert_entry text_cmp (map keyed es) (string_bytes key) (tree value)
keyed_insert [] key value = refl
keyed_insert (e ∷ es) key value =
    let o : Ordering = text_cmp (string_bytes key) (string_bytes e.0) in
    map_match keyed o ((key, value) ∷ e ∷ es) ((e.0, value) ∷ es) (e ∷ insert_entry string_cmp es key value)
    ∙ ap (λ l. match_ordering o ((string_bytes key, tree value) ∷ keyed e ∷ map keyed es) ((string_bytes e.0, tree value) ∷ map keyed es) (keyed e ∷ l)) (keyed_insert es key value)

-- one more pair is in order
pub one_more : {A : Type 0} (ordered next : List Pair) (yielded : List (String A × Value)) (pair : Pair) (e : String A × Value) → next ≡ ordered ++ pair ∷ [] → pair.key ≡ string_bytes e.0 → pair.value ≡ e.1 → map entry_of ordered ≡ map keyed yielded → map entry_of next ≡ map keyed (yielded ++ e ∷ [])
one_more ordered next yielded pair e pushed key value so_far =
    let same : entry_of pair ≡ keyed e = entry_is pair ∙ ap (λ k. (k, tree pair.value)) key ∙ ap (λ v. (string_bytes e.0, tree v)) value in
    ap (map entry_of) pushed ∙ (map-append entry_of ordered (pair ∷ []) ∙ (ap (λ l. l ++ entry_of pair ∷ []) so_far ∙ (ap (λ p. map keyed yielded ++ p ∷ []) same ∙ sym (map-append keyed yielded (e ∷ [])))))
