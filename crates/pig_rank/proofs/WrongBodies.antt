-- Wrong results at the worked rows. Each is refused by what the public call promises.
use Rattle.std.specs.Prelude.{◌≡◌, ℕ, pos, false, None, Some, List, [], ◌∷◌, slice_get, refl}
use Rattle.std.proofs.Common.{ap, arith, ◌∙◌}
use Rattle.std.specs.Option.{option_map_or}
use Rattle.pig_value.specs.Trees.{Tree, at, v_long}
use Rattle.pig_rank.specs.Ranks.{AreRanked, AreSorted, PartStart, Rows, start_behind, starts_of}
use Rattle.pig_rank.proofs.Samples.{a, b, c, d, keys, long, of_one_partition, sorted}

in_order : AreSorted keys sorted
in_order = (refl, (refl, (refl, (tt, tt))))

abbrev number : Tree → ℕ
number (v_long (pos n)) = n
number v = 0

abbrev rank_at : ℕ → Rows → ℕ
rank_at i rows = option_map_or (λ row. number (at 0 row)) (slice_get rows i) 0

-- ---- `rank_rows` of (3, c), (1, b) behind (3, a), where (, d) follows

-- ranks that begin anew
begins_anew : AreRanked keys false (start_behind keys (a ∷ [])) (c ∷ b ∷ []) ((long 1 ∷ c) ∷ (long 2 ∷ b) ∷ []) → ⊥
begins_anew promised = let e : ◌≡◌ {A = ℕ} 2 3 = ap (rank_at 1) (promised (a ∷ []) (d ∷ []) in_order refl ∙ of_one_partition) in omega (arith, e)

-- a tie with the row before the partition that gets the next rank
goes_up : AreRanked keys false (start_behind keys (a ∷ [])) (c ∷ b ∷ []) ((long 2 ∷ c) ∷ (long 3 ∷ b) ∷ []) → ⊥
goes_up promised = let e : ◌≡◌ {A = ℕ} 2 1 = ap (rank_at 0) (promised (a ∷ []) (d ∷ []) in_order refl ∙ of_one_partition) in omega (arith, e)

-- ---- `find_starts` of (3, a), of (3, c), and of (1, b), each a partition

abbrev starts_with : PartStart → List PartStart
starts_with third = record { rank = 0; dense = 0; last = None; tail = 0 } ∷ record { rank = 1; dense = 1; last = Some a; tail = 1 } ∷ third ∷ []

abbrev right : PartStart
right = record { rank = 2; dense = 1; last = Some c; tail = 2 }

are_right : starts_of keys ((a ∷ []) ∷ (c ∷ []) ∷ (b ∷ []) ∷ []) ≡ starts_with right
are_right = refl

abbrev third_of : (PartStart → ℕ) → List PartStart → ℕ
third_of field starts = option_map_or field (slice_get starts 2) 0

-- a key that stands in two partitions and counts twice
counts_twice : starts_with (record { rank = 2; dense = 2; last = Some c; tail = 2 }) ≡ starts_of keys ((a ∷ []) ∷ (c ∷ []) ∷ (b ∷ []) ∷ []) → ⊥
counts_twice promised = let e : ◌≡◌ {A = ℕ} 2 1 = ap (third_of (λ s. s.dense)) (promised ∙ are_right) in omega (arith, e)

-- rows of earlier partitions that are forgotten where the key goes on
forgets_the_tail : starts_with (record { rank = 2; dense = 1; last = Some c; tail = 1 }) ≡ starts_of keys ((a ∷ []) ∷ (c ∷ []) ∷ (b ∷ []) ∷ []) → ⊥
forgets_the_tail promised = let e : ◌≡◌ {A = ℕ} 1 2 = ap (third_of (λ s. s.tail)) (promised ∙ are_right) in omega (arith, e)
