-- Runs of equal keys at the front of a list: gathering the list by key gives what the run gives, and then what the rest gives.
use Rattle.std.specs.Prelude.{◌≡◌, true, false, not, List, [], ◌∷◌, ◌++◌, map, refl, if◌then◌else◌}
use Rattle.std.proofs.Common.{ap, ◌∙◌, append-nil}
use Rattle.std.specs.Cmp.{IsTotalOrder}
use Rattle.std.specs.List.{filter, flat_map, AllByRecursion}
use Rattle.std.specs.Ordering.{is_eq, is_gt, ordering_reverse}
use Rattle.std.specs.declared.cmp.Ordering.{Ordering}
use Rattle.std.specs.declared.cmp.Ordering.TheVariants.{Less}
use Rattle.std.proofs.lemmas.Cmp.{tied_itself}
use Rattle.std.proofs.lemmas.List.{map-append}
use Rattle.std.proofs.lemmas.List.Elements.{filter-append}
use Rattle.pig_value.specs.Sorts.{put, distinct}
use Rattle.pig_value.proofs.list_laws.Listing.{each_weaker, each-map, filter_all, filter_none, flat_map_each}
use Rattle.pig_value.proofs.list_laws.Bags.{put_first}
use Rattle.pig_value.proofs.list_laws.Distinct.{each-distinct}
use Rattle.pig_value.specs.Gathering.{with_key, by_key, HaveKey, HaveGreater}

-- the keys of a run, before greater ones
module _ {K : Type 0} (C : K → K → Ordering) (total : IsTotalOrder C) (k : K) where
  all_kept : (ks : List K) → AllByRecursion (λ l. C k l ≡ Less) ks → filter (λ y. not (is_eq (C k y))) ks ≡ ks
  all_kept ks h = filter_all (λ y. not (is_eq (C k y))) ks (each_weaker (λ l. C k l ≡ Less) (λ y. not (is_eq (C k y)) ≡ true) (λ y e. ap (λ r. not (is_eq r)) e) ks h)

  put_before : (ks : List K) → AllByRecursion (λ l. C k l ≡ Less) ks → put C k ks ≡ k ∷ ks
  put_before [] h = refl
  put_before (l ∷ ks) h = put_first C k (l ∷ ks) (ap is_gt h.0)

  -- the key once more
  put_again : (ks : List K) → AllByRecursion (λ l. C k l ≡ Less) ks → put C k (filter (λ y. not (is_eq (C k y))) (k ∷ ks)) ≡ k ∷ ks
  put_again ks h =
      ap (λ r. put C k (if not (is_eq r) then k ∷ filter (λ y. not (is_eq (C k y))) ks else filter (λ y. not (is_eq (C k y))) ks)) (tied_itself total k)
      ∙ ap (put C k) (all_kept ks h) ∙ put_before ks h

  -- the distinct keys are the run's, and then the greater ones
  distinct_run : (us ks : List K) → AllByRecursion (λ u. u ≡ k) us → AllByRecursion (λ l. C k l ≡ Less) ks → distinct C (k ∷ us ++ ks) ≡ k ∷ distinct C ks
  distinct_run [] ks h m =
      let later = each-distinct C (λ l. C k l ≡ Less) ks m in
      ap (put C k) (all_kept (distinct C ks) later) ∙ put_before (distinct C ks) later
  distinct_run (u ∷ us) ks h m =
      ap (λ zs. put C k (filter (λ y. not (is_eq (C k y))) zs)) (ap (λ z. distinct C (z ∷ us ++ ks)) h.0 ∙ distinct_run us ks h.1 m)
      ∙ put_again (distinct C ks) (each-distinct C (λ l. C k l ≡ Less) ks m)

module _ {K X : Type 0} (C : K → K → Ordering) (total : IsTotalOrder C) (key : X → K) where
  -- of a run with greater keys behind it, the run alone has its key
  pub with_key_run : (k : K) (run rest : List X) → HaveKey key k run → HaveGreater C key k rest → with_key C key k (run ++ rest) ≡ run
  with_key_run k run rest h m =
      filter-append (λ x. is_eq (C (key x) k)) run rest
      ∙ ap (λ ys. filter (λ x. is_eq (C (key x) k)) run ++ ys) (filter_none (λ x. is_eq (C (key x) k)) rest (each_weaker (λ x. C k (key x) ≡ Less) (λ x. is_eq (C (key x) k) ≡ false) (λ x e. ap is_eq (total.antisymm (key x) k ∙ ap ordering_reverse e)) rest m))
      ∙ append-nil (filter (λ x. is_eq (C (key x) k)) run)
      ∙ filter_all (λ x. is_eq (C (key x) k)) run (each_weaker (λ x. key x ≡ k) (λ x. is_eq (C (key x) k) ≡ true) (λ x e. ap (λ l. is_eq (C l k)) e ∙ ap is_eq (tied_itself total k)) run h)

  -- a greater key finds nothing in the run
  with_key_behind : (k l : K) (run rest : List X) → C k l ≡ Less → HaveKey key k run → with_key C key l (run ++ rest) ≡ with_key C key l rest
  with_key_behind k l run rest e h =
      filter-append (λ x. is_eq (C (key x) l)) run rest
      ∙ ap (λ ys. ys ++ filter (λ x. is_eq (C (key x) l)) rest)
      (filter_none (λ x. is_eq (C (key x) l)) run (each_weaker (λ x. key x ≡ k) (λ x. is_eq (C (key x) l) ≡ false) (λ x s. ap (λ m. is_eq (C m l)) s ∙ ap is_eq e) run h))

  run_keys : (k : K) (x : X) (run rest : List X) → HaveKey key k (x ∷ run) → HaveGreater C key k rest → distinct C (map key (x ∷ run ++ rest)) ≡ k ∷ distinct C (map key rest)
  run_keys k x run rest h m =
      ap (λ l. distinct C (l ∷ map key (run ++ rest))) h.0
      ∙ ap (λ ls. distinct C (k ∷ ls)) (map-append key run rest)
      ∙ distinct_run C total k (map key run) (map key rest) (each-map (λ u. u ≡ k) key run h.1) (each-map (λ l. C k l ≡ Less) key rest m)

-- the run at the front of a list, and then the rest
module _ {K X Y : Type 0} (C : K → K → Ordering) (total : IsTotalOrder C) (key : X → K) (make : K → List X → List Y) where
  pub front : (k : K) (x : X) (run rest : List X) → HaveKey key k (x ∷ run) → HaveGreater C key k rest → by_key C key make (x ∷ run ++ rest) ≡ make k (x ∷ run) ++ by_key C key make rest
  front k x run rest h m =
      ap (flat_map (λ l. make l (with_key C key l (x ∷ run ++ rest)))) (run_keys C total key k x run rest h m)
      ∙ (λ i. make k (with_key_run C total key k (x ∷ run) rest h m i)
      ++ flat_map_each (λ l. make l (with_key C key l (x ∷ run ++ rest))) (λ l. make l (with_key C key l rest)) (distinct C (map key rest))
      (each_weaker (λ l. C k l ≡ Less) (λ l. make l (with_key C key l (x ∷ run ++ rest)) ≡ make l (with_key C key l rest))
      (λ l e. ap (make l) (with_key_behind C total key k l (x ∷ run) rest e h)) (distinct C (map key rest))
      (each-distinct C (λ l. C k l ≡ Less) (map key rest) (each-map (λ l. C k l ≡ Less) key rest m))) i)
