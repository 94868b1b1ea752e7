-- Points that cut runs into slices.
use Rattle.std.specs.Prelude.{◌≡◌, zero, suc, ◌+◌, ◌-◌, ◌*◌, ◌/◌, ℕ, Bool, true, false, not, take, drop, ◌&&◌, List, [], ◌∷◌, ◌++◌, map, length, replicate, Option, Some, None, slice_get, refl}
use Rattle.std.specs.List.{AllByRecursion, filter, flat_map, range_with_len}
use Rattle.std.specs.Option.{option_map_or}
use Rattle.std.specs.Ordering.{is_gt, is_lt}
use Rattle.std.specs.declared.cmp.Ordering.{Ordering}
use Rattle.std.specs.declared.cmp.Ordering.TheVariants.{Less, Equal, Greater}
use Rattle.std.specs.Coded.{Coded, code_by, coded×, coded_list, coded_option}
use Rattle.pig_value.specs.Gathering.{Entry}
use Rattle.pig_value.specs.Sorts.{Ascends, sort}
use Rattle.pig_value.specs.declared.operators.Dir.{Dir}
use Rattle.pig_value.specs.contracts.operators.Dir as directions
use Rattle.pig_runs.specs.Entries.{InDirections, coded_entry, run_cmp}

-- a point stands at an entry, or at the end, which is behind every entry
abbrev pub Point : Type 0
Point = Option Entry

-- points, and the directions in which entries are compared with them
pub record Points : Type 0 where
  pub dirs : List Dir
  pub points : List Point

abbrev pub point_cmp : List Dir → Point → Point → Ordering
point_cmp ds None None = Equal
point_cmp ds None (Some f) = Greater
point_cmp ds (Some e) None = Less
point_cmp ds (Some e) (Some f) = run_cmp ds e f

-- the entry stands before the point
abbrev pub stands_before : List Dir → Point → Entry → Bool
stands_before ds point e = is_lt (point_cmp ds (Some e) point)

-- the point numbered k, of those that cut sorted entries into n slices: the entry at place (k + 1) * m / n of m, rounded down
abbrev pub cut_point : ℕ → List Entry → ℕ → Point
cut_point n entries k = slice_get entries (((k + 1) * length entries) / n)

abbrev pub cut_points : ℕ → List Entry → List Point
cut_points n entries = map (cut_point n entries) (range_with_len 0 (n - 1))

-- the entry stands before the point numbered k, where there is one
abbrev pub is_below : List Dir → List Point → ℕ → Entry → Bool
is_below ds points k e = option_map_or (λ point. stands_before ds point e) (slice_get points k) true

-- the entry stands not before the point numbered k - 1, where there is one
abbrev pub is_from : List Dir → List Point → ℕ → Entry → Bool
is_from ds points zero e = true
is_from ds points (suc k) e = option_map_or (λ point. not (stands_before ds point e)) (slice_get points k) true

-- the entries of a slice
abbrev pub in_slice : List Dir → List Point → ℕ → Entry → Bool
in_slice ds points part e = is_below ds points part e && is_from ds points part e

abbrev pub slice_of : List Dir → List Point → ℕ → List Entry → List Entry
slice_of ds points part entries = filter (in_slice ds points part) entries

-- the slices of entries of any lists between ascending points, each sorted and in turn, are all entries sorted
abbrev pub OrderGoesByPoints : Type 0
OrderGoesByPoints = (ds : List Dir) (points : List Point) (lists : List (List Entry)) → Ascends (point_cmp ds) points
    → flat_map (λ part. sort (run_cmp ds) (flat_map (slice_of ds points part) lists)) (range_with_len 0 (length points + 1))
    ≡ sort (run_cmp ds) (flat_map (λ es. es) lists)

-- the directions of runs that have the same
abbrev pub dirs_of_all : List InDirections → List Dir
dirs_of_all [] = []
dirs_of_all (run ∷ runs) = run.dirs

abbrev pub HaveDirections : List Dir → List InDirections → Type 0
HaveDirections ds runs = AllByRecursion (λ run. run.dirs ≡ ds) runs

-- of how two entries stand: whether the first stands before the other, or is no greater
abbrev pub is_up_to : Bool → Ordering → Bool
is_up_to false r = is_lt r
is_up_to true r = not (is_gt r)

-- what a search by halves knows: the entries before `low` stand before an entry of others, or are no greater, and those from `high` on don't
pub record IsHalved (equal : Bool) (ds : List Dir) (es fs : List Entry) (there low high : ℕ) : Type 0 where
  pub first : (f : Entry) → slice_get fs there ≡ Some f → AllByRecursion (λ e. is_up_to equal (run_cmp ds e f) ≡ true) (take low es)
  pub rest : (f : Entry) → slice_get fs there ≡ Some f → AllByRecursion (λ e. is_up_to equal (run_cmp ds e f) ≡ false) (drop high es)

-- the first so many elements pass the test, and none behind them does
pub record Divides {X : Type 0} (p : X → Bool) (xs : List X) (count : ℕ) : Type 0 where
  pub first : AllByRecursion (λ x. p x ≡ true) (take count xs)
  pub rest : AllByRecursion (λ x. p x ≡ false) (drop count xs)

-- no element of the first so many passes the test, and each behind them does
pub record Leads {X : Type 0} (p : X → Bool) (xs : List X) (count : ℕ) : Type 0 where
  pub first : AllByRecursion (λ x. p x ≡ false) (take count xs)
  pub rest : AllByRecursion (λ x. p x ≡ true) (drop count xs)

-- the entries at the first so many of the places that cut entries into n slices
abbrev pub picked : ℕ → List Entry → ℕ → List Entry
picked n entries count = flat_map (λ k. take 1 (drop (((k + 1) * length entries) / n) entries)) (range_with_len 0 count)

-- ---- points kept as entries, and ends behind them

abbrev pub points_at : List Entry → ℕ → List Point
points_at entries ends = map Some entries ++ replicate ends None

abbrev halves : Points → List Dir × List Point
halves p = (p.dirs, p.points)

abbrev whole : List Dir × List Point → Points
whole p = record { dirs = p.0; points = p.1 }

abbrev pub coded_points : Coded Points
coded_points = code_by (List Dir × List Point) (coded× (coded_list directions.the_row.coded) (coded_list (coded_option coded_entry))) halves whole (λ _. refl)
