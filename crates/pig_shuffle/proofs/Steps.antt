-- What is held once one more entry came, and a shuffle once it took one more row.
use Rattle.std.proofs.Common.{inl, inr, ◌≡◌, ◌≢◌, ◌+◌, ℕ, List, [], ◌∷◌, ◌++◌, length, refl, sym, ◌∙◌, ap, subst, take}
use Rattle.std.specs.Prelude.{Some, None, slice_get}
use Rattle.std.proofs.lemmas.List.{map-append}
use Rattle.pig_value.specs.Gathering.{Entry}
use Rattle.pig_value.specs.Orders.{tree_cmp}
use Rattle.pig_value.specs.Sorts.{distinct}
use Rattle.pig_value.specs.Trees.{Tree, row_tree, rows_tree}
use Rattle.pig_value.specs.declared.values.Value.{Value}
use Rattle.pig_value.proofs.list_laws.Indexing.{more_taken}
use Rattle.pig_value.specs.declared.operators.Dir.{Dir}
use Rattle.pig_algebra.specs.Cuts.{TypedCut}
use Rattle.pig_plan.specs.Entries.{dirs_of}
use Rattle.pig_runs.specs.Alone.{keys_in}
use Rattle.pig_runs.specs.Entries.{and_entries}
use Rattle.pig_runs.specs.Parts.{pn}
use Rattle.pig_combine.specs.Holdings.{HasAdded, entry_of}
use Rattle.pig_shuffle.specs.Held.{AreKeysOfPart, ChangedAt, EachAt, GotEntry, GotKey, HasAddedPart, Held, HoldKeys, HoldRuns, HoldTables, HoldsOneMore, IsOfPart, Shuffled, TookEntry, TookMore, as_added, entries_in, keys_of_held, runs_of_held, tables_of_held}
use Rattle.pig_shuffle.specs.Taking.{took_onwards}
use Rattle.pig_shuffle.proofs.Entries.{here_more, other_more, same_more}
use Rattle.pig_shuffle.proofs.Places.{each_changed, empty_list}

keys_on : (e : Entry) (n : ℕ) (entries : List Entry) (old new : List (List Tree)) → EachAt (AreKeysOfPart n entries) n old
    → ChangedAt (pn e.key n) (GotKey e.key) old new → EachAt (AreKeysOfPart n (entries ++ e ∷ [])) n new
keys_on e n entries old new held changed =
    each_changed (AreKeysOfPart n entries) (AreKeysOfPart n (entries ++ e ∷ [])) (GotKey e.key) n (pn e.key n) old new held changed
    (λ x y is got.
    ap (distinct tree_cmp) (ap keys_in (here_more n (pn e.key n) e entries refl) ∙ map-append (λ d. d.key) (entries_in n (pn e.key n) entries) (e ∷ []))
    ∙ (same_more (keys_in (entries_in n (pn e.key n) entries)) x (e.key ∷ []) is ∙ got))
    (λ p x other is. ap (λ es. distinct tree_cmp (keys_in es)) (other_more n p e entries (λ q. other (sym q))) ∙ is)

module _ (e : Entry) (old new : Held) (count : new.0 ≡ old.0) (runs : ChangedAt (pn e.key old.0) (GotEntry e) (runs_of_held old) (runs_of_held new))
    (tables : ChangedAt (pn e.key old.0) (TookEntry e.key e.row) (tables_of_held old) (tables_of_held new))
    (keys : ChangedAt (pn e.key old.0) (GotKey e.key) (keys_of_held old) (keys_of_held new)) where
  runs_more : (ds : List Dir) (n : ℕ) (entries : List Entry) → HoldRuns ds n entries old → HoldRuns ds n (entries ++ e ∷ []) new
  runs_more ds n entries h = record {
    count = count ∙ h.count;
    runs =
        each_changed (IsOfPart ds n entries) (IsOfPart ds n (entries ++ e ∷ [])) (GotEntry e) n (pn e.key n) (runs_of_held old) (runs_of_held new) h.runs
        (subst (λ k. ChangedAt (pn e.key k) (GotEntry e) (runs_of_held old) (runs_of_held new)) h.count runs)
        (λ x y is got.
        got ∙ ap (and_entries (e ∷ [])) is ∙ ap (λ es. record { dirs = ds; entries = es }) (sym (here_more n (pn e.key n) e entries refl)))
        (λ p x other is. is ∙ ap (λ es. record { dirs = ds; entries = es }) (sym (other_more n p e entries (λ q. other (sym q)))));
    tables = empty_list (tables_of_held new) (tables.count ∙ ap length h.tables);
    keys = empty_list (keys_of_held new) (keys.count ∙ ap length h.keys);
  }

  tables_more : (cuts : List TypedCut) (n : ℕ) (entries : List Entry) → HoldTables cuts n entries old → HoldTables cuts n (entries ++ e ∷ []) new
  tables_more cuts n entries h = record {
    count = count ∙ h.count;
    runs = empty_list (runs_of_held new) (runs.count ∙ ap length h.runs);
    tables =
        each_changed (HasAddedPart cuts n entries) (HasAddedPart cuts n (entries ++ e ∷ [])) (TookEntry e.key e.row) n (pn e.key n) (tables_of_held old) (tables_of_held new) h.tables
        (subst (λ k. ChangedAt (pn e.key k) (TookEntry e.key e.row) (tables_of_held old) (tables_of_held new)) h.count tables)
        (λ x y is took. (
          took.0 ∙ is.0,
          subst (λ es. HasAdded es y)
              (sym (ap as_added (here_more n (pn e.key n) e entries refl)
              ∙ map-append (λ d. entry_of d.key d.row) (entries_in n (pn e.key n) entries) (e ∷ [])))
              (took.1 (as_added (entries_in n (pn e.key n) entries)) is.1),
        ))
        (λ p x other is. (is.0, subst (λ es. HasAdded (as_added es) x) (sym (other_more n p e entries (λ q. other (sym q)))) is.1));
    keys = empty_list (keys_of_held new) (keys.count ∙ ap length h.keys);
  }

  keys_more : (cuts : List TypedCut) (n : ℕ) (entries : List Entry) → HoldKeys cuts n entries old → HoldKeys cuts n (entries ++ e ∷ []) new
  keys_more cuts n entries h = record {
    one = h.one;
    count = count ∙ h.count;
    runs = empty_list (runs_of_held new) (runs.count ∙ ap length h.runs);
    tables = empty_list (tables_of_held new) (tables.count ∙ ap length h.tables);
    keys =
        keys_on e n entries (keys_of_held old) (keys_of_held new) h.keys
        (subst (λ k. ChangedAt (pn e.key k) (GotKey e.key) (keys_of_held old) (keys_of_held new)) h.count keys);
  }

  pub one_more : HoldsOneMore e old new
  one_more (Some cuts) sorting n entries (inl h) = inl (tables_more cuts n entries h)
  one_more (Some cuts) sorting n entries (inr h) = inr (keys_more cuts n entries h)
  one_more None (Some keys) n entries h = runs_more (dirs_of keys) 1 entries h
  one_more None None n entries h = runs_more [] n entries h

-- the same where there are keys, and the rest stays
module _ (e : Entry) (old new : Held) (some : keys_of_held old ≢ []) (count : new.0 ≡ old.0) (runs : runs_of_held new ≡ runs_of_held old)
    (tables : tables_of_held new ≡ tables_of_held old) (keys : ChangedAt (pn e.key old.0) (GotKey e.key) (keys_of_held old) (keys_of_held new)) where
  pub one_more_key : HoldsOneMore e old new
  one_more_key (Some cuts) sorting n entries (inl h) = absurd (some h.keys)
  one_more_key (Some cuts) sorting n entries (inr h) =
      inr
      (record {
        one = h.one;
        count = count ∙ h.count;
        runs = runs ∙ h.runs;
        tables = tables ∙ h.tables;
        keys =
            keys_on e n entries (keys_of_held old) (keys_of_held new) h.keys
            (subst (λ k. ChangedAt (pn e.key k) (GotKey e.key) (keys_of_held old) (keys_of_held new)) h.count keys);
      })
  one_more_key None (Some keys) n entries h = absurd (some h.keys)
  one_more_key None None n entries h = absurd (some h.keys)

-- the next of some rows
pub took_next : (a b c : Shuffled) (rows : List (List Value)) (at : ℕ) (row : List Value)
    → TookMore a (rows_tree (take at rows)) b → TookMore b (row_tree row ∷ []) c → slice_get rows at ≡ Some row
    → TookMore a (rows_tree (take (at + 1) rows)) c
took_next a b c rows at row so_far more is =
    subst (λ rs. TookMore a rs c) (sym (ap rows_tree (more_taken rows at row is) ∙ map-append row_tree (take at rows) (row ∷ [])))
    (took_onwards a b c (rows_tree (take at rows)) (row_tree row ∷ []) so_far more)
