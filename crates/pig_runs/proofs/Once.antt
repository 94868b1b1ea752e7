-- The keys of sorted entries, each once: the last of those that are the same is taken.
use Rattle.std.proofs.Common.{◌≡◌, ◌<◌, ◌≤◌, ◌+◌, ℕ, zero, suc, true, false, List, [], ◌∷◌, ◌++◌, map, length, drop, refl, sym, ◌∙◌, ap, subst, arith, cond, append-nil, append_assoc, true≢false}
use Rattle.std.specs.Prelude.{⊤, not, Option, Some, None, Result, Ok, Err, OnOk, option_map, slice_get}
use Rattle.std.specs.Cmp.{IsTotalOrder}
use Rattle.std.specs.Coded.{Coded-set, coded_list}
use Rattle.std.specs.List.{AllByRecursion}
use Rattle.std.specs.Ordering.{is_eq, is_gt, is_lt, ordering_then}
use Rattle.std.specs.declared.cmp.Ordering.{Ordering}
use Rattle.std.specs.declared.cmp.Ordering.TheVariants.{Less, Equal, Greater}
use Rattle.std.proofs.Math.Logic.{∥∥₁_elim, ∥∥₁_map}
use Rattle.std.proofs.lemmas.Cmp.{tied_itself}
use Rattle.std.proofs.lemmas.List.{drop_all, map-append}
use Rattle.std.proofs.lemmas.List.Sorted.{IsPermutation-map, IsPermutation-sym}
use Rattle.pig_value.specs.Gathering.{Entry}
use Rattle.pig_value.specs.Orders.{tree_cmp}
use Rattle.pig_value.specs.Sorts.{Ascends, Rises, distinct, put, sort, times}
use Rattle.pig_value.specs.TreeCode.{coded_tree}
use Rattle.pig_value.specs.Trees.{Tree}
use Rattle.pig_value.specs.declared.operators.Dir.{Dir}
use Rattle.pig_value.proofs.OrderLaws.{tree_same, tree_total}
use Rattle.pig_value.proofs.list_laws.Bags.{drop_ascends, either_way, gt_is_lt, put_first, rises_all, sort_map, sort_permutes, sorted_is, times-append, times-cons}
use Rattle.pig_value.proofs.list_laws.Distinct.{distinct_ascends, distinct_permuted, distinct_same, each-distinct}
use Rattle.pig_value.proofs.list_laws.Indexing.{dropped, get-drop, some_at}
use Rattle.pig_value.proofs.list_laws.Listing.{each_at, each_weaker, filter_all, some_same}
use Rattle.pig_value.specs.Valid.{IsRow, IsValue}
use Rattle.pig_keycode.specs.Codes.{code}
use Rattle.pig_keycode.specs.Keys.{IsKey, key_code}
use Rattle.pig_keycode.specs.Reading.{row_code}
use Rattle.std.proofs.lemmas.Option.{slice_get-map}
use Rattle.pig_keycode.proofs.KeyOrder.{one_key}
use Rattle.pig_runs.specs.Alone.{IsKeyCode, SameKeys, TookKey, alone, alone_once, bare, keys_in, with_those_from}
use Rattle.pig_runs.specs.Entries.{AreKeyed, InDirections, IsEntry, and_entries, coded_in_directions, run_cmp, run_of}
use Rattle.pig_runs.specs.Packed.{Held, Packed, packed}
use Rattle.pig_runs.proofs.Lending.{lent_entry}

-- ---- sorted lists

-- not greater, and not less
neither : (r : Ordering) → is_gt r ≡ false → is_lt r ≡ false → r ≡ Equal
neither Less h k = absurd (true≢false k)
neither Equal h k = refl
neither Greater h k = absurd (true≢false h)

not_greater : (r s : Ordering) → is_gt (ordering_then r s) ≡ false → is_gt r ≡ false
not_greater Less s h = refl
not_greater Equal s h = refl
not_greater Greater s h = h

-- the element is not the first of those
abbrev IsNotFirst : {X : Type 0} → X → List X → Type 0
IsNotFirst x [] = ⊤
IsNotFirst x (y ∷ ys) = x ≡ y → ⊥

module _ {X : Type 0} (R : X → X → Ordering) (total : IsTotalOrder R) (tells : (x y : X) → R x y ≡ Equal → x ≡ y) where
  -- what stands before another, and is not that one, is less than all that stand behind it
  less : (x y z : X) → is_gt (R x y) ≡ false → (x ≡ y → ⊥) → is_gt (R y z) ≡ false → is_gt (R x z) ≡ false → R x z ≡ Less
  less x y z low other up far = by (R x z) refl far
    where
      by : (r : Ordering) → R x z ≡ r → is_gt r ≡ false → R x z ≡ Less
      by Less e h = e
      by Equal e h =
          let back : is_gt (R y x) ≡ false = subst (λ w. is_gt (R y w) ≡ false) (sym (tells x z e)) up in
          absurd (other (tells x y (neither (R x y) low (sym (gt_is_lt R total y x) ∙ back))))
      by Greater e h = absurd (true≢false h)

  all_less : (x y : X) (zs : List X) → is_gt (R x y) ≡ false → (x ≡ y → ⊥)
      → AllByRecursion (λ z. is_gt (R y z) ≡ false) zs → AllByRecursion (λ z. is_gt (R x z) ≡ false) zs → AllByRecursion (λ z. R x z ≡ Less) zs
  all_less x y [] low other h k = tt
  all_less x y (z ∷ zs) low other h k = (less x y z low other h.0 k.0, all_less x y zs low other h.1 k.1)

  rest_less : (x : X) (xs : List X) → Ascends R (x ∷ xs) → IsNotFirst x xs → AllByRecursion (λ z. R x z ≡ Less) xs
  rest_less x [] up other = tt
  rest_less x (y ∷ ys) up other =
      let all = rises_all R total x (y ∷ ys) up.0 up.1 in (
        less x y y up.0 other (ap is_gt (tied_itself total y)) up.0,
        all_less x y ys up.0 other (rises_all R total y ys up.1.0 up.1.1) all.1,
      )

  rises_each : (x : X) (ys : List X) → AllByRecursion (λ z. R x z ≡ Less) ys → Rises R x ys
  rises_each x [] h = tt
  rises_each x (y ∷ ys) h = ap is_gt h.0

  -- the first of a sorted list that is not the next one too
  once_more : (x : X) (xs : List X) → Ascends R (x ∷ xs) → IsNotFirst x xs → distinct R (x ∷ xs) ≡ x ∷ distinct R xs
  once_more x xs up other =
      let later = each-distinct R (λ z. R x z ≡ Less) xs (rest_less x xs up other) in
      ap (put R x) (filter_all (λ y. not (is_eq (R x y))) (distinct R xs)
      (each_weaker (λ z. R x z ≡ Less) (λ z. not (is_eq (R x z)) ≡ true) (λ z e. ap (λ r. not (is_eq r)) e) (distinct R xs) later))
      ∙ put_first R x (distinct R xs) (rises_each x (distinct R xs) later)

  -- the first of a list that is the next one too
  once_again : (x : X) (xs : List X) → distinct R (x ∷ x ∷ xs) ≡ distinct R (x ∷ xs)
  once_again x xs =
      distinct_same R total tells (x ∷ x ∷ xs) (x ∷ xs)
      (λ z.
      let two = times-cons R z x (x ∷ xs) in
      let one = times-cons R z x xs in
      either_way (is_eq (R z x))
      (λ e. let here : ◌≡◌ {A = ℕ} (cond (is_eq (R z x)) 1 0) 1 = ap (λ b. cond b 1 0) e in omega arith)
      (λ e. let here : ◌≡◌ {A = ℕ} (cond (is_eq (R z x)) 1 0) 0 = ap (λ b. cond b 1 0) e in omega arith))

-- ---- keys of sorted entries

keys_ascend : (es : List Entry) → Ascends (run_cmp []) es → Ascends tree_cmp (keys_in es)
keys_ascend [] up = tt
keys_ascend (e ∷ []) up = (tt, tt)
keys_ascend (e ∷ f ∷ es) up = (not_greater (tree_cmp e.key f.key) _ up.0, keys_ascend (f ∷ es) up.1)

abbrev key_of_some : Option Entry → Option Tree
key_of_some o = option_map (λ e. e.key) o

-- an entry whose key is that of the next one too
pub took_none : (es : List Entry) (at : ℕ) (found : InDirections) → at < length es → key_of_some (slice_get es at) ≡ key_of_some (slice_get es (at + 1)) → TookKey at es found found
took_none es at found within same = by (slice_get es (at + 1)) refl
  where
    here : (e : Entry) × (slice_get es at ≡ Some e)
    here = some_at es at within

    by : (o : Option Entry) → slice_get es (at + 1) ≡ o → TookKey at es found found
    by None is =
        let wrong : Some here.0.key ≡ None = sym (ap key_of_some here.1) ∙ (same ∙ ap key_of_some is) in
        absurd (cc)
    by (Some next) is =
        let keys : here.0.key ≡ next.key = some_same here.0.key next.key (sym (ap key_of_some here.1) ∙ (same ∙ ap key_of_some is)) in
        let rest = keys_in (drop (at + 1 + 1) es) in
        let behind : keys_in (drop (at + 1) es) ≡ next.key ∷ rest = ap keys_in (dropped es (at + 1) next is) in
        let both : keys_in (drop at es) ≡ here.0.key ∷ next.key ∷ rest = ap keys_in (dropped es at here.0 here.1) ∙ ap (λ ks. here.0.key ∷ ks) behind in
        let once : distinct tree_cmp (keys_in (drop (at + 1) es)) ≡ distinct tree_cmp (keys_in (drop at es)) =
        ap (distinct tree_cmp) behind
        ∙ (sym (once_again tree_cmp tree_total tree_same next.key rest)
        ∙ ((λ i. distinct tree_cmp (sym keys i ∷ next.key ∷ rest)) ∙ sym (ap (distinct tree_cmp) both)))
        in
        record { dirs = refl; keys = ap (λ ks. found.entries ++ map alone ks) once }

-- the key of an entry that is lent
pub lent_key : (ds : List Dir) (es : List Entry) (at : ℕ) (p : Packed) → ds ≡ [] → option_map (packed ds) (slice_get es at) ≡ Some p
    → (e : Entry) × ((slice_get es at ≡ Some e) × (AreKeyed ds es → IsKeyCode p.key e.key))
lent_key ds es at p none is =
    let found = lent_entry ds (slice_get es at) p is in (
      found.0,
      (
        found.1.0,
        λ good. record {
          is = ap (λ d. key_code d found.0.key) (sym none) ∙ ap (λ q. q.key) found.1.1;
          value = subst (λ d. IsKey d found.0.key) none (each_at (IsEntry ds) es at found.0 found.1.0 good).key;
        },
      ),
    )

pub some_key : (ds : List Dir) (es : List Entry) (at : ℕ) (p : Packed) → ds ≡ [] → ∥ AreKeyed ds es ∥₁ → option_map (packed ds) (slice_get es at) ≡ Some p
    → ∥ ((key : Tree) × IsKeyCode p.key key) ∥₁
some_key ds es at p none good is = let found = lent_key ds es at p none is in ∥∥₁_map good (λ h. (found.0.key, found.1.1 h))

-- the next entry has another key
next_differs : (es : List Entry) (at : ℕ) (e : Entry) → slice_get es at ≡ Some e → (key_of_some (slice_get es at) ≡ key_of_some (slice_get es (at + 1)) → ⊥)
    → IsNotFirst e.key (keys_in (drop (at + 1) es))
next_differs es at e here other = by (drop (at + 1) es) refl
  where
    by : (l : List Entry) → drop (at + 1) es ≡ l → IsNotFirst e.key (keys_in l)
    by [] is = tt
    by (f ∷ fs) is =
        let place : at + 1 ≡ at + 1 + 0 = omega arith in
        let next : slice_get es (at + 1) ≡ Some f = ap (slice_get es) place ∙ (sym (get-drop es (at + 1) 0) ∙ ap (λ l. slice_get l 0) is) in
        λ same. other (ap key_of_some here ∙ (ap Some same ∙ sym (ap key_of_some next)))

-- an entry whose key is not that of the next one
pub took_one : {T E : Type 0} (ds : List Dir) (es : List Entry) (at : ℕ) (p : Packed) (old new : InDirections) (r : Result T E) → ds ≡ [] → Ascends (run_cmp []) es
    → ∥ AreKeyed ds es ∥₁ → option_map (packed ds) (slice_get es at) ≡ Some p → (key_of_some (slice_get es at) ≡ key_of_some (slice_get es (at + 1)) → ⊥)
    → ((key : Tree) → IsKeyCode p.key key → OnOk r (new ≡ and_entries (alone key ∷ []) old)) → OnOk r (TookKey at es old new)
took_one ds es at p old new (Err u) none up good is other added = tt
took_one ds es at p old new (Ok u) none up good is other added =
    let found = lent_key ds es at p none is in
    let e = found.0 in
    let rest = keys_in (drop (at + 1) es) in
    let one : new ≡ and_entries (alone e.key ∷ []) old = ∥∥₁_elim good (Coded-set coded_in_directions new (and_entries (alone e.key ∷ []) old)) (λ h. added e.key (found.1.1 h)) in
    let here : drop at es ≡ e ∷ drop (at + 1) es = dropped es at e found.1.0 in
    let rising : Ascends tree_cmp (e.key ∷ rest) = subst (λ l. Ascends tree_cmp (keys_in l)) here (keys_ascend (drop at es) (drop_ascends (run_cmp []) at es up)) in
    let once : distinct tree_cmp (keys_in (drop at es)) ≡ e.key ∷ distinct tree_cmp rest =
    ap (λ l. distinct tree_cmp (keys_in l)) here ∙ once_more tree_cmp tree_total tree_same e.key rest rising (next_differs es at e found.1.0 other)
    in
    record {
      dirs = ap (λ b. b.dirs) one;
      keys = ap (λ b. b.entries ++ alone_once rest) one
          ∙ (append_assoc old.entries (alone e.key ∷ []) (alone_once rest) ∙ ap (λ ks. old.entries ++ map alone ks) (sym once));
    }

-- ---- the run

twice : (r : Ordering) → ordering_then r (ordering_then r Equal) ≡ r
twice Less = refl
twice Equal = refl
twice Greater = refl

alone_cmp : (k l : Tree) → run_cmp [] (alone k) (alone l) ≡ tree_cmp k l
alone_cmp k l = twice (tree_cmp k l)

alone_sorted : (keys : List Tree) → sort (run_cmp []) (alone_once keys) ≡ alone_once keys
alone_sorted keys =
    sort_map tree_cmp (run_cmp []) alone alone_cmp (distinct tree_cmp keys)
    ∙ ap (map alone) (sorted_is tree_cmp (distinct tree_cmp keys) (distinct_ascends tree_cmp tree_total keys))

-- once all entries are taken
pub all_taken : (es : List Entry) (at : ℕ) (found : InDirections) → length es ≤ at → found.dirs ≡ [] → with_those_from at es found ≡ alone_once (keys_in es)
    → found ≡ run_of [] (alone_once (keys_in es))
all_taken es at found over none all =
    let last : with_those_from at es found ≡ found.entries = ap (λ l. found.entries ++ alone_once (keys_in l)) (drop_all at es over) ∙ append-nil found.entries in
    let is : found.entries ≡ sort (run_cmp []) (alone_once (keys_in es)) = sym last ∙ (all ∙ sym (alone_sorted (keys_in es))) in
    λ i. record { dirs = none i; entries = is i }

-- sorted entries have the keys that they had
pub same_once : (ds : List Dir) (es : List Entry) → alone_once (keys_in (sort (run_cmp ds) es)) ≡ alone_once (keys_in es)
same_once ds es =
    ap (map alone)
    (distinct_permuted tree_cmp tree_total tree_same (keys_in (sort (run_cmp ds) es)) (keys_in es)
    (IsPermutation-map (λ e. e.key) (sort (run_cmp ds) es) es (IsPermutation-sym es (sort (run_cmp ds) es) (sort_permutes (run_cmp ds) es))))

-- ---- entries that are added

-- what is written behind nothing
pub written : (key : Tree) (old new bytes : List ℕ) → IsValue key → old ≡ [] → new ≡ old ++ code key → bytes ≡ new → IsKeyCode bytes key
written key old new bytes good none grown same = record { is = sym (same ∙ (grown ∙ ap (λ l. l ++ code key) none)); value = good }

-- the entry of a key with a row that is made of it
module _ (ds : List Dir) (none : ds ≡ []) (bytes row : List ℕ) (made : Tree → List Tree)
    (told : (key : Tree) → IsKeyCode bytes key → IsRow (made key) × (row_code (made key) ≡ row)) where
  abbrev entry_with : Tree → Entry
  entry_with key = record { key = key; input = 0; row = made key }

  pub good_entry : (key : Tree) → IsKeyCode bytes key → IsEntry ds (entry_with key)
  good_entry key is = record { key = subst (λ d. IsKey d key) (sym none) is.value; row = (told key is).0 }

  pub packed_entry : (key : Tree) → IsKeyCode bytes key → packed ds (entry_with key) ≡ record { key = bytes; input = 0; row = row }
  packed_entry key is =
      let first : key_code ds key ≡ bytes = ap (λ d. key_code d key) none ∙ is.is in
      let last = (told key is).1 in
      λ i. record { key = first i; input = 0; row = last i }

  pub one_held : ∥ ((key : Tree) × IsKeyCode bytes key) ∥₁ → ∥ Held ds (record { key = bytes; input = 0; row = row } ∷ []) ∥₁
  one_held some =
      ∥∥₁_map some
      (λ k. (entry_with k.0 ∷ [], (∣ (good_entry k.0 k.1, tt) ∣₁, (let is = packed_entry k.0 k.1 in λ i. is i ∷ []))))

-- a row of the key alone, and one without fields
pub alone_told : (bytes row : List ℕ) → row ≡ 6 ∷ 1 ∷ (bytes ++ 0 ∷ []) → (key : Tree) → IsKeyCode bytes key → IsRow (key ∷ []) × (row_code (key ∷ []) ≡ row)
alone_told bytes row is key told = ((told.value, tt), ap (λ bs. 6 ∷ 1 ∷ (bs ++ 0 ∷ [])) told.is ∙ sym is)

pub bare_told : (bytes : List ℕ) (key : Tree) → IsKeyCode bytes key → IsRow [] × (row_code [] ≡ 6 ∷ 0 ∷ [])
bare_told bytes key told = (tt, refl)

pub and_key : (key : Tree) (b new : InDirections) (keys : List Tree) → keys_in b.entries ≡ keys → new ≡ and_entries (bare key ∷ []) b → keys_in new.entries ≡ keys ++ key ∷ []
and_key key b new keys was is =
    ap (λ c. keys_in c.entries) is ∙ (map-append (λ e. e.key) b.entries (bare key ∷ []) ∙ ap (λ ks. ks ++ key ∷ []) was)

-- ---- a key that stands already

some_times : (keys : List Tree) (at : ℕ) (key z : Tree) → slice_get keys at ≡ Some key → is_eq (tree_cmp z key) ≡ true → 1 ≤ times tree_cmp z keys
some_times [] at key z here same = absurd (let wrong : None ≡ Some key = here in cc)
some_times (k ∷ ks) zero key z here same =
    let count = times-cons tree_cmp z k ks in
    let one : ◌≡◌ {A = ℕ} (cond (is_eq (tree_cmp z k)) 1 0) 1 = ap (λ b. cond b 1 0) (ap (λ l. is_eq (tree_cmp z l)) (some_same k key here) ∙ same) in
    omega arith
some_times (k ∷ ks) (suc at) key z here same =
    let count = times-cons tree_cmp z k ks in
    let more = some_times ks at key z here same in
    omega (arith, count, more)

stands_already : (keys : List Tree) (at : ℕ) (key : Tree) → slice_get keys at ≡ Some key → SameKeys (keys ++ key ∷ []) keys
stands_already keys at key here =
    distinct_same tree_cmp tree_total tree_same (keys ++ key ∷ []) keys
    (λ z.
    let both = times-append tree_cmp z keys (key ∷ []) in
    let last = times-cons tree_cmp z key [] in
    let none : times tree_cmp z [] ≡ 0 = refl in
    either_way (is_eq (tree_cmp z key))
    (λ e.
    let one : ◌≡◌ {A = ℕ} (cond (is_eq (tree_cmp z key)) 1 0) 1 = ap (λ b. cond b 1 0) e in
    let some = some_times keys at key z here e in
    omega (arith, both, last, none, one, some))
    (λ e. let zero_more : ◌≡◌ {A = ℕ} (cond (is_eq (tree_cmp z key)) 1 0) 0 = ap (λ b. cond b 1 0) e in omega (arith, both, last, none, zero_more)))

-- the key of a code that is lent
pub lent_already : (ds : List Dir) (es : List Entry) (at : ℕ) (p : Packed) (bytes : List ℕ) (key : Tree) → ds ≡ [] → ∥ AreKeyed ds es ∥₁
    → option_map (packed ds) (slice_get es at) ≡ Some p → p.key ≡ bytes → IsKeyCode bytes key → SameKeys (keys_in es ++ key ∷ []) (keys_in es)
lent_already ds es at p bytes key none good is same told =
    let found = lent_key ds es at p none is in
    ∥∥₁_elim good (Coded-set (coded_list coded_tree) (distinct tree_cmp (keys_in es ++ key ∷ [])) (distinct tree_cmp (keys_in es)))
    (λ h.
    let own = found.1.1 h in
    let keys : found.0.key ≡ key = one_key [] found.0.key key own.value told.value (own.is ∙ (same ∙ sym told.is)) in
    stands_already (keys_in es) at key (slice_get-map (λ e. e.key) es at ∙ (ap key_of_some found.1.0 ∙ ap Some keys)))

-- and one that is added
pub same_keys_added : (keys others : List Tree) → others ≡ keys → SameKeys keys others
same_keys_added keys others is = ap (distinct tree_cmp) (sym is)
