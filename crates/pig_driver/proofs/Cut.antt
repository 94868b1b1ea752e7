-- Outputs of one run each, cut.
use Rattle.std.specs.Prelude.{◌≡◌, ◌<◌, ◌+◌, ◌-◌, ◌++◌, ℕ, List, [], ◌∷◌, length, map, drop, Option, Some, None, slice_get, refl}
use Rattle.std.proofs.Common.{ap, sym, ◌∙◌, arith, subst}
use Rattle.std.specs.List.{AllByRecursion, range_with_len}
use Rattle.std.proofs.lemmas.List.{append_assoc, length-append, length-map, map-append}
use Rattle.std.proofs.lemmas.List.FromFn.{length-range_with_len}
use Rattle.pig_value.proofs.list_laws.Indexing.{dropped}
use Rattle.pig_value.proofs.list_laws.Listing.{each_weaker}
use Rattle.pig_value.specs.declared.operators.Dir.{Dir}
use Rattle.pig_value.specs.Gathering.{Entry}
use Rattle.pig_value.specs.Sorts.{sort}
use Rattle.pig_runs.specs.Cutting.{Point, cut_point, cut_points, dirs_of_all}
use Rattle.pig_runs.specs.Entries.{InDirections, entries_of_all, run_cmp}
use Rattle.pig_physical.specs.Combining.{only}
use Rattle.pig_physical.specs.Handed.{lone_run, out_of, runs_of_out}
use Rattle.pig_physical.specs.Outs.{Form, o_bytes, o_rows, o_runs, runs_held, runs_in}
use Rattle.pig_physical.specs.Sliced.{slices_of}
use Rattle.pig_physical.specs.declared.outputs.Out as out
use Rattle.pig_physical.specs.declared.outputs.OutRuns as several
use Rattle.pig_physical.specs.declared.outputs.OutRuns.TheVariants as runs
use Rattle.pig_driver.specs.Slicing.{AreSliced, EachSliced, IsNotedAs, form_in, lone_form, note_of, noted, sliced_outs}
use Rattle.pig_driver.specs.declared.slicing.Note.{Note}

one_alone : (found : List InDirections) (run : InDirections) → only found ≡ Some run → found ≡ run ∷ []
one_alone [] run h = absurd (cc)
one_alone (r ∷ []) run h = ap (λ x. x ∷ []) (some_is h)
  where
    some_is : {x y : InDirections} → Some x ≡ Some y → x ≡ y
    some_is h = cc
one_alone (r ∷ q ∷ more) run h = absurd (cc)

runs_are : (found : several.OutRuns) (run : InDirections) → lone_run found ≡ Some run → runs_of_out found ≡ run ∷ []
runs_are (runs.Several found) run h = one_alone found run h
runs_are (runs.Slices found) run h = absurd (cc)

held_are : (form : Form) (found : List InDirections) → Some found ≡ runs_held form → form ≡ o_runs found
held_are (o_rows rows) found h = absurd (cc)
held_are (o_runs held) found h = ap o_runs (sym (some_is h))
  where
    some_is : {x y : List InDirections} → Some x ≡ Some y → x ≡ y
    some_is h = cc
held_are (o_bytes bytes) found h = absurd (cc)

pub is_lone : (form : Form) (found : several.OutRuns) (run : InDirections) → Some (runs_of_out found) ≡ runs_held form → lone_run found ≡ Some run → form ≡ lone_form run
is_lone form found run held one = held_are form (runs_of_out found) held ∙ ap o_runs (runs_are found run one)

-- ---- one more output is cut

pub one_more : (n : ℕ) (points : List Point) (runs rest later : List InDirections) (run : InDirections) (notes : List Note) (note : Note) (news next : List out.Out) (new : out.Out)
    → rest ≡ run ∷ later → slice_get notes (length news) ≡ Some note → IsNotedAs (Some note) (slices_of run points n) new → next ≡ news ++ new ∷ []
    → map out_of news ++ sliced_outs n points rest (map noted (drop (length news) notes)) ≡ sliced_outs n points runs (map noted notes)
    → map out_of next ++ sliced_outs n points later (map noted (drop (length next) notes)) ≡ sliced_outs n points runs (map noted notes)
one_more n points runs rest later run notes note news next new first at is more so_far =
    let size : length next ≡ length news + 1 = ap length more ∙ length-append news (new ∷ []) in
    let left : drop (length news) notes ≡ note ∷ drop (length news + 1) notes = dropped notes (length news) note at in
    (λ i. map out_of (more i) ++ sliced_outs n points later (map noted (drop (size i) notes)))
    ∙ ap (λ outs. outs ++ sliced_outs n points later (map noted (drop (length news + 1) notes))) (map-append out_of news (new ∷ []))
    ∙ append_assoc (map out_of news) (out_of new ∷ []) (sliced_outs n points later (map noted (drop (length news + 1) notes)))
    ∙ ap (λ x. map out_of news ++ x ∷ sliced_outs n points later (map noted (drop (length news + 1) notes))) is
    ∙ sym (λ i. map out_of news ++ sliced_outs n points (first i) (map noted (left i)))
    ∙ so_far

pub one_more_where : (n : ℕ) (points : List Point) (runs rest later : List InDirections) (run : InDirections) (notes : List Note) (found : Option Note) (news next : List out.Out) (new : out.Out)
    → rest ≡ run ∷ later → slice_get notes (length news) ≡ found → IsNotedAs found (slices_of run points n) new → next ≡ news ++ new ∷ []
    → map out_of news ++ sliced_outs n points rest (map noted (drop (length news) notes)) ≡ sliced_outs n points runs (map noted notes)
    → map out_of next ++ sliced_outs n points later (map noted (drop (length next) notes)) ≡ sliced_outs n points runs (map noted notes)
one_more_where n points runs rest later run notes None news next new first at is more so_far = absurd is
one_more_where n points runs rest later run notes (Some note) news next new first at is more so_far = one_more n points runs rest later run notes note news next new first at is more so_far

pub rest_alike : (ds : List Dir) (rest later : List InDirections) (run : InDirections) → rest ≡ run ∷ later → AllByRecursion (λ r. ds ≡ r.dirs) rest → (ds ≡ run.dirs) × AllByRecursion (λ r. ds ≡ r.dirs) later
rest_alike ds rest later run first h = let both = subst (AllByRecursion (λ r. ds ≡ r.dirs)) first h in (both.0, both.1)

-- ---- all of them

pub first_directs : (ds : List Dir) (runs : List InDirections) → AllByRecursion (λ run. run.dirs ≡ ds) runs → AllByRecursion (λ run. run.dirs ≡ dirs_of_all runs) runs
first_directs ds [] h = tt
first_directs ds (run ∷ runs) h = subst (λ d. AllByRecursion (λ r. r.dirs ≡ d) (run ∷ runs)) (sym h.0) h

pub points_direct : (ds : List Dir) (runs : List InDirections) → ds ≡ dirs_of_all runs → AllByRecursion (λ run. run.dirs ≡ dirs_of_all runs) runs → AllByRecursion (λ run. ds ≡ run.dirs) runs
points_direct ds runs is h = each_weaker (λ run. run.dirs ≡ dirs_of_all runs) (λ run. ds ≡ run.dirs) (λ run e. is ∙ sym e) runs h

pub one_less : (n : ℕ) (points : List Point) (es : List Entry) → 0 < n → points ≡ cut_points n es → length points + 1 ≡ n
one_less n points es some is =
    let size = ap length is ∙ length-map (range_with_len 0 (n - 1)) (cut_point n es) ∙ length-range_with_len 0 (n - 1) in omega (arith, size, some)

each_sliced : (n : ℕ) (points : List Point) (outs : List out.Out) (runs : List InDirections) (notes : List Note) → map form_in outs ≡ map lone_form runs → map note_of outs ≡ notes
    → EachSliced n points runs (sliced_outs n points runs (map noted notes)) (map out_of outs)
each_sliced n points [] [] notes are noted_as = tt
each_sliced n points [] (run ∷ runs) notes are noted_as = absurd (cc)
each_sliced n points (o ∷ outs) [] notes are noted_as = absurd (cc)
each_sliced n points (o ∷ outs) (run ∷ runs) [] are noted_as = absurd (cc)
each_sliced n points (o ∷ outs) (run ∷ runs) (note ∷ notes) are noted_as = (
  record { was = first_same are; form = refl; lines = ap (λ x. x.lines) (sym (first_note noted_as)); unmet = ap (λ x. x.unmet) (sym (first_note noted_as)) },
  each_sliced n points outs runs notes (rest_same are) (rest_notes noted_as),
)
  where
    first_same : form_in o ∷ map form_in outs ≡ lone_form run ∷ map lone_form runs → form_in o ≡ lone_form run
    first_same e = cc

    rest_same : form_in o ∷ map form_in outs ≡ lone_form run ∷ map lone_form runs → map form_in outs ≡ map lone_form runs
    rest_same e = cc

    first_note : note_of o ∷ map note_of outs ≡ note ∷ notes → note_of o ≡ note
    first_note e = cc

    rest_notes : note_of o ∷ map note_of outs ≡ note ∷ notes → map note_of outs ≡ notes
    rest_notes e = cc

pub are_sliced : (n : ℕ) (points : List Point) (outs news : List out.Out) (runs : List InDirections) (notes : List Note) → map form_in outs ≡ map lone_form runs → map note_of outs ≡ notes
    → points ≡ cut_points n (sort (run_cmp (dirs_of_all runs)) (entries_of_all runs)) → map out_of news ≡ sliced_outs n points runs (map noted notes)
    → AreSliced n (map out_of outs) (map out_of news)
are_sliced n points outs news runs notes are noted_as points_are is = record {
  runs = runs;
  points = points;
  are = points_are;
  each = subst (λ found. EachSliced n points runs found (map out_of outs)) (sym is) (each_sliced n points outs runs notes are noted_as);
}

pub runs_directed : (outs : List out.Out) (runs : List InDirections) (ds : List Dir) → map form_in outs ≡ map lone_form runs
    → AllByRecursion (λ o. AllByRecursion (λ run. run.dirs ≡ ds) (runs_in o.form)) (map out_of outs) → AllByRecursion (λ run. run.dirs ≡ ds) runs
runs_directed [] [] ds are h = tt
runs_directed [] (run ∷ runs) ds are h = absurd (cc)
runs_directed (o ∷ outs) [] ds are h = tt
runs_directed (o ∷ outs) (run ∷ runs) ds are h = (
  (subst (λ form. AllByRecursion (λ r. r.dirs ≡ ds) (runs_in form)) (first_same are) h.0).0,
  runs_directed outs runs ds (rest_same are) h.1,
)
  where
    first_same : form_in o ∷ map form_in outs ≡ lone_form run ∷ map lone_form runs → form_in o ≡ lone_form run
    first_same e = cc

    rest_same : form_in o ∷ map form_in outs ≡ lone_form run ∷ map lone_form runs → map form_in outs ≡ map lone_form runs
    rest_same e = cc
