-- Which wave is the last to look at outputs, and that these go.
use Rattle.std.specs.Prelude.{◌≡◌, ◌≢◌, ◌<◌, ◌≤◌, ◌+◌, ◌-◌, ◌⊎◌, ℕ, ◌==◌, Bool, true, false, List, [], ◌∷◌, get_or, length, map, min, Option, Some, None, slice_get, slice_set, zero, suc, refl}
use Rattle.std.proofs.Common.{ap, sym, ◌∙◌, arith, inl, inr, subst, true≢false}
use Rattle.std.specs.Option.{option_map, option_map_or}
use Rattle.std.proofs.lemmas.Bool.{cases_lt, eq-eqb, eqb-true}
use Rattle.std.proofs.lemmas.List.{length-set}
use Rattle.std.proofs.lemmas.Option.{slice_get-get_or, slice_get_past, slice_get_within}
use Rattle.pig_value.proofs.list_laws.Indexing.{get_map}
use Rattle.pig_value.proofs.list_laws.Listing.{each_at, some_same}
use Rattle.pig_plan.specs.Valid.{IsPlan}
use Rattle.pig_physical.specs.Handed.{out_of, outs_of}
use Rattle.pig_physical.specs.Outs.{Outs, TaskOut, o_bytes, outs_at}
use Rattle.pig_physical.specs.declared.outputs.Out.{Out}
use Rattle.pig_physical.specs.declared.outputs.OutForm.TheVariants as OutForm
use Rattle.pig_physical.specs.Stages.{Stages, Task, first_wave, heads, t_map, t_rank, t_reduce, tasks_in, tasks_of}
use Rattle.pig_driver.specs.Left.{AreLastLooks, AtLeast, HaveAllLooked, HaveGone, HaveLooked, HaveMarked, IsNamedIn, bare, bared_at, bared_first, bared_where}
use Rattle.pig_driver.specs.Left.{copies_by, copies_in, copies_of, looked, named_wave, note_in, notes_in, set_look}
use Rattle.pig_driver.proofs.Copies.{probe_is}
use Rattle.pig_driver.proofs.Standing.{TaskStands, tasks_stand}

-- ---- numbers at places

set_at : {X : Type 0} (xs : List X) (i v : ℕ) (y found : X) → slice_get (slice_set xs i y) v ≡ Some found → ((v ≡ i) × (found ≡ y)) ⊎ (slice_get xs v ≡ Some found)
set_at [] i v y found h = inr h
set_at (x ∷ xs) zero zero y found h = inl (refl, sym (some_same y found h))
set_at (x ∷ xs) zero (suc v) y found h = inr h
set_at (x ∷ xs) (suc i) zero y found h = inr h
set_at (x ∷ xs) (suc i) (suc v) y found h = elim (set_at xs i v y found h) [
  | inl e ↦ inl (ap suc e.0, e.1)
  | inr e ↦ inr e
]

put_at : (xs : List ℕ) (v y found : ℕ) → slice_get (slice_set xs v y) v ≡ Some found → found ≡ y
put_at [] v y found h = absurd (let e = sym (slice_get_past {X = ℕ} [] v (omega arith)) ∙ h in let f : None ≡ Some found = e in cc)
put_at (x ∷ xs) zero y found h = sym (some_same y found h)
put_at (x ∷ xs) (suc v) y found h = put_at xs v y found h

pub set_keeps : (least v i y : ℕ) (xs : List ℕ) → least ≤ y → AtLeast least v xs → AtLeast least v (slice_set xs i y)
set_keeps least v i y xs less h = λ found at. elim (set_at xs i v y found at) [
  | inl e ↦ (let same = e.1 in omega (arith, less, same))
  | inr e ↦ h found e
]

pub set_here : (least v y : ℕ) (xs : List ℕ) → least ≤ y → AtLeast least v (slice_set xs v y)
set_here least v y xs less = λ found at. let same = put_at xs v y found at in omega (arith, less, same)

-- ---- looks

look_keeps : (least v w : ℕ) (named : Option ℕ) (lasts : List ℕ) → least ≤ w → AtLeast least v lasts → AtLeast least v (set_look named w lasts)
look_keeps least v w None lasts less h = h
look_keeps least v w (Some i) lasts less h = set_keeps least v i w lasts less h

looks_keep : (least v w : ℕ) (tasks : List Task) (lasts : List ℕ) → least ≤ w → AtLeast least v lasts → AtLeast least v (looked tasks w lasts)
looks_keep least v w [] lasts less h = h
looks_keep least v w (task ∷ tasks) lasts less h = looks_keep least v w tasks (set_look (named_wave task) w lasts) less (look_keeps least v w (named_wave task) lasts less h)

looks_name : (v w at : ℕ) (task : Task) (tasks : List Task) (lasts : List ℕ) → slice_get tasks at ≡ Some task → named_wave task ≡ Some v → AtLeast w v (looked tasks w lasts)
looks_name v w at task [] lasts stands names = absurd (let e = sym (slice_get_past {X = Task} [] at (omega arith)) ∙ stands in let f : None ≡ Some task = e in cc)
looks_name v w zero task (t ∷ tasks) lasts stands names =
    let same : t ≡ task = some_same t task stands in
    looks_keep w v w tasks (set_look (named_wave t) w lasts) (omega arith)
    (subst (λ named. AtLeast w v (set_look named w lasts)) (sym (ap named_wave same ∙ names)) (set_here w v w lasts (omega arith)))
looks_name v w (suc at) task (t ∷ tasks) lasts stands names = looks_name v w at task tasks (set_look (named_wave t) w lasts) stands names

pub look_size : (w : ℕ) (named : Option ℕ) (lasts : List ℕ) → length (set_look named w lasts) ≡ length lasts
look_size w None lasts = refl
look_size w (Some v) lasts = length-set lasts v w

pub looked_size : (tasks : List Task) (w : ℕ) (lasts : List ℕ) → length (looked tasks w lasts) ≡ length lasts
looked_size [] w lasts = refl
looked_size (task ∷ tasks) w lasts = looked_size tasks w (set_look (named_wave task) w lasts) ∙ look_size w (named_wave task) lasts

-- a wave with a task that probes copies looks at them
copies_named : (s : Stages) → IsPlan s.plan → (w at v : ℕ) (task : Task) → w < length (heads s.plan) → slice_get (tasks_in s w) at ≡ Some task
    → copies_of s task ≡ Some v → copies_in s w ≡ Some v
copies_named s valid w at v (t_map t) within stands names =
    let probe = probe_is s t v names in
    let next = (each_at (TaskStands s valid w) (tasks_in s w) at (t_map t) stands (tasks_stand s valid w within)).2 probe.o probe.at probe.replicated probe.first in
    let behind = next.0 in
    let before : w - 1 ≡ first_wave s.plan t.node = omega (arith, behind) in
    ap (λ found. option_map_or (λ kind. copies_by kind w) (option_map (λ head. head.kind) found) None) next.1 ∙ ap Some (before ∙ probe.wave)
copies_named s valid w at v (t_reduce t) within stands names = absurd (let e : None ≡ Some v = names in cc)
copies_named s valid w at v (t_rank t) within stands names = absurd (let e : None ≡ Some v = names in cc)

-- the looks of one more wave
pub looked_next : (s : Stages) → IsPlan s.plan → (n : ℕ) (olds news : List ℕ) → n < length (heads s.plan)
    → news ≡ set_look (copies_in s n) n (looked (tasks_in s n) n olds) → HaveLooked s n olds → HaveLooked s (n + 1) news
looked_next s valid n olds news within is h = λ w v less named. subst (AtLeast w v) (sym is) (elim (cases_lt w n) [
  | inl before ↦ look_keeps w v n (copies_in s n) (looked (tasks_in s n) n olds) (omega (arith, before))
      (looks_keep w v n (tasks_in s n) olds (omega (arith, before)) (h w v before named))
  | inr over ↦ (let here : w ≡ n = omega (arith, over, less) in
      subst (λ u. AtLeast u v (set_look (copies_in s n) n (looked (tasks_in s n) n olds))) (sym here)
      (by_name v named.at named.task (ap (λ u. slice_get (tasks_in s u) named.at) (sym here) ∙ named.stands) named.names))
])
  where
    by_name : (v at : ℕ) (task : Task) → slice_get (tasks_in s n) at ≡ Some task → (named_wave task ≡ Some v) ⊎ (copies_of s task ≡ Some v)
        → AtLeast n v (set_look (copies_in s n) n (looked (tasks_in s n) n olds))
    by_name v at task stands (inl names) =
        look_keeps n v n (copies_in s n) (looked (tasks_in s n) n olds) (omega arith) (looks_name v n at task (tasks_in s n) olds stands names)
    by_name v at task stands (inr names) =
        subst (λ named. AtLeast n v (set_look named n (looked (tasks_in s n) n olds))) (sym (copies_named s valid n at v task within stands names))
        (set_here n v n (looked (tasks_in s n) n olds) (omega arith))

pub past_tasks : (s : Stages) (v : ℕ) → length (heads s.plan) ≤ v → tasks_in s v ≡ []
past_tasks s v over = ap (λ found. option_map_or (tasks_of s v) found []) (slice_get_past (heads s.plan) v over)

-- no wave behind the last one looks at anything
pub looked_all : (s : Stages) (lasts : List ℕ) → HaveLooked s (length (heads s.plan)) lasts → (w v : ℕ) → IsNamedIn s w v → AtLeast w v lasts
looked_all s lasts h w v named = elim (cases_lt w (length (heads s.plan))) [
  | inl less ↦ h w v less named
  | inr over ↦ absurd (let none = ap (λ tasks. slice_get tasks named.at) (past_tasks s w over) ∙ slice_get_past {X = Task} [] named.at (omega arith) in
      let e : None ≡ Some named.task = sym none ∙ named.stands in cc)
]

-- ---- what lasts

below : {P : ℕ → Type 0} (n : ℕ) → ((v : ℕ) → v < n → P v) → P n → (v : ℕ) → v < n + 1 → P v
below {P = P} n h here v less = elim (cases_lt v n) [
  | inl before ↦ h v before
  | inr over ↦ (let same : n ≡ v = omega (arith, over, less) in subst P same here)
]

pub marked_none : (s : Stages) (lasts : List ℕ) → HaveMarked s 0 lasts
marked_none s lasts = record { chosen = λ v less is. absurd (omega (arith, less)); last = λ v less is. absurd (omega (arith, less)) }

pub marked_next : (s : Stages) (n : ℕ) (olds : List ℕ) → HaveMarked s n olds → HaveMarked s (n + 1) (slice_set olds n (length (heads s.plan)))
marked_next s n olds h =
    let end = length (heads s.plan) in
    record {
      chosen = below n (λ v less is. set_keeps end v n end olds (omega arith) (h.chosen v less is)) (λ is. set_here end n end olds (omega arith));
      last = below n (λ v less is. set_keeps end v n end olds (omega arith) (h.last v less is)) (λ is. set_here end n end olds (omega arith));
    }

pub looked_still : (s : Stages) (i : ℕ) (lasts : List ℕ) → HaveAllLooked s lasts → HaveAllLooked s (slice_set lasts i (length (heads s.plan)))
looked_still s i lasts h = λ w v less named. set_keeps w v i (length (heads s.plan)) lasts (omega (arith, less)) (h w v less named)

pub last_looks_are : (s : Stages) (lasts : List ℕ) → length lasts ≡ length (heads s.plan) → HaveLooked s (length (heads s.plan)) lasts → HaveMarked s (length (heads s.plan)) lasts → AreLastLooks s lasts
last_looks_are s lasts size looks marks =
    let end = length (heads s.plan) in
    record {
      size = size;
      named = looked_all s lasts looks;
      chosen = λ v is. elim (cases_lt v end) [
        | inl less ↦ marks.chosen v less is
        | inr over ↦ λ found at. absurd (let e : None ≡ Some found = sym (slice_get_past lasts v (omega (arith, size, over))) ∙ at in cc)
      ];
      last = λ v is. marks.last v (let last = is in omega (arith, last)) is;
    }

-- ---- outputs that have gone

-- the outputs of one wave
bared_notes : (outs : List TaskOut) → map note_in (map bare outs) ≡ map note_in outs
bared_notes [] = refl
bared_notes (out ∷ outs) = ap (λ ns. note_in out ∷ ns) (bared_notes outs)

at_notes : (outs : Outs) (at : ℕ) → notes_in (bared_at at outs) ≡ notes_in outs
at_notes [] at = refl
at_notes (out ∷ outs) zero = ap (λ n. n ∷ notes_in outs) (bared_notes out)
at_notes (out ∷ outs) (suc at) = ap (λ ns. map note_in out ∷ ns) (at_notes outs at)

at_here : (outs : Outs) (at : ℕ) → outs_at (bared_at at outs) at ≡ map bare (outs_at outs at)
at_here [] at = here at
  where
    here : (at : ℕ) → outs_at (slice_set [] at (map bare (outs_at [] at))) at ≡ map bare (outs_at [] at)
    here zero = refl
    here (suc at) = refl
at_here (out ∷ outs) zero = refl
at_here (out ∷ outs) (suc at) = at_here outs at

at_other : (outs : Outs) (at v : ℕ) → v ≢ at → outs_at (bared_at at outs) v ≡ outs_at outs v
at_other [] at v other = refl
at_other (out ∷ outs) zero zero other = absurd (other refl)
at_other (out ∷ outs) zero (suc v) other = refl
at_other (out ∷ outs) (suc at) zero other = refl
at_other (out ∷ outs) (suc at) (suc v) other = at_other outs at v (λ e. other (ap suc e))

-- of the first waves the outputs that this wave is the last to look at have gone
pub record HaveGoneTo (lasts : List ℕ) (w n : ℕ) (old new : Outs) : Type 0 where
  pub notes : notes_in new ≡ notes_in old
  pub gone : (v : ℕ) → v < n → slice_get lasts v ≡ Some w → outs_at new v ≡ map bare (outs_at old v)
  pub later : (v : ℕ) → n ≤ v → outs_at new v ≡ outs_at old v
  pub stay : (v : ℕ) → slice_get lasts v ≢ Some w → outs_at new v ≡ outs_at old v

pub gone_one : (lasts : List ℕ) (w n : ℕ) (old mid : Outs) → slice_get lasts n ≡ Some w → HaveGoneTo lasts w n old mid → HaveGoneTo lasts w (n + 1) old (bared_at n mid)
gone_one lasts w n old mid is h = record {
  notes = at_notes mid n ∙ h.notes;
  gone = λ v less e. elim (cases_lt v n) [
    | inl before ↦ at_other mid n v (λ same. omega (arith, before, same)) ∙ h.gone v before e
    | inr over ↦ (let same : n ≡ v = omega (arith, over, less) in
        subst (λ u. outs_at (bared_at n mid) u ≡ map bare (outs_at old u)) same (at_here mid n ∙ ap (map bare) (h.later n (omega arith))))
  ];
  later = λ v over. at_other mid n v (λ same. omega (arith, over, same)) ∙ h.later v (omega (arith, over));
  stay = λ v other. at_other mid n v (λ same. other (ap (slice_get lasts) same ∙ is)) ∙ h.stay v other;
}

pub gone_other : (lasts : List ℕ) (w n last : ℕ) (old mid : Outs) → slice_get lasts n ≡ Some last → last ≢ w → HaveGoneTo lasts w n old mid → HaveGoneTo lasts w (n + 1) old mid
gone_other lasts w n last old mid is other h = record {
  notes = h.notes;
  gone = λ v less e. elim (cases_lt v n) [
    | inl before ↦ h.gone v before e
    | inr over ↦ absurd (let same : v ≡ n = omega (arith, over, less) in other (some_same last w (sym is ∙ ap (slice_get lasts) (sym same) ∙ e)))
  ];
  later = λ v over. h.later v (omega (arith, over));
  stay = h.stay;
}

-- behind the waves that ran there is nothing
none_behind : (outs : Outs) (v : ℕ) → length outs ≤ v → outs_at outs v ≡ map bare (outs_at outs v)
none_behind [] v h = refl
none_behind (out ∷ outs) zero h = absurd (omega (arith, h))
none_behind (out ∷ outs) (suc v) h = none_behind outs v (omega (arith, h))

pub gone_all : (lasts : List ℕ) (w n : ℕ) (old new : Outs) → n ≡ min (length lasts) (length old) → HaveGoneTo lasts w n old new → HaveGone lasts w old new
gone_all lasts w n old new is h = record {
  notes = h.notes;
  gone = λ v e. elim (cases_lt v n) [
    | inl less ↦ h.gone v less e
    | inr over ↦ (let within = slice_get_within lasts v w e in h.later v over ∙ none_behind old v (omega (arith, is, over, within)))
  ];
  stay = h.stay;
}

pub where_size : (goes : Bool) (at : ℕ) (outs : Outs) → length (bared_where goes at outs) ≡ length outs
where_size true at outs = length-set outs at (map bare (outs_at outs at))
where_size false at outs = refl

-- one place more, as its last look says
pub gone_next : (lasts : List ℕ) (w n last : ℕ) (goes : Bool) (old mid new : Outs) → slice_get lasts n ≡ Some last → goes ≡ (last == w) → new ≡ bared_where goes n mid
    → HaveGoneTo lasts w n old mid → HaveGoneTo lasts w (n + 1) old new
gone_next lasts w n last true old mid new at is new_is h =
    subst (HaveGoneTo lasts w (n + 1) old) (sym new_is) (gone_one lasts w n old mid (at ∙ ap Some (eqb-true last w (sym is))) h)
gone_next lasts w n last false old mid new at is new_is h =
    subst (HaveGoneTo lasts w (n + 1) old) (sym new_is)
    (gone_other lasts w n last old mid at (λ same. true≢false (sym (eq-eqb last w same) ∙ sym is)) h)

-- ---- the outputs of one wave, one after the other

pub bared_one : (outs : List TaskOut) (n : ℕ) (out : TaskOut) → slice_get (bared_first n outs) n ≡ Some out → slice_set (bared_first n outs) n (bare out) ≡ bared_first (n + 1) outs
bared_one outs n out at = (let e : n + 1 ≡ suc n = omega arith in by outs n at ∙ ap (λ m. bared_first m outs) (sym e))
  where
    by : (outs : List TaskOut) (n : ℕ) → slice_get (bared_first n outs) n ≡ Some out → slice_set (bared_first n outs) n (bare out) ≡ bared_first (suc n) outs
    by [] zero at = refl
    by [] (suc n) at = refl
    by (o ∷ outs) zero at = ap (λ x. bare x ∷ outs) (sym (some_same o out at))
    by (o ∷ outs) (suc n) at = ap (λ os. bare o ∷ os) (by outs n at)

pub bared_all : (outs : List TaskOut) (n : ℕ) → length outs ≤ n → bared_first n outs ≡ map bare outs
bared_all [] zero h = refl
bared_all [] (suc n) h = refl
bared_all (o ∷ outs) zero h = absurd (omega (arith, h))
bared_all (o ∷ outs) (suc n) h = ap (λ os. bare o ∷ os) (bared_all outs n (omega (arith, h)))

-- ---- outputs as the code holds them

map_set : {X Y : Type 0} (f : X → Y) (xs : List X) (i : ℕ) (x : X) → map f (slice_set xs i x) ≡ slice_set (map f xs) i (f x)
map_set f [] i x = refl
map_set f (y ∷ xs) zero x = refl
map_set f (y ∷ xs) (suc i) x = ap (λ ys. f y ∷ ys) (map_set f xs i x)

pub bared_step : (outs : List TaskOut) (items : List Out) (n : ℕ) (x : Out) (empty : List ℕ) → empty ≡ [] → n < length items → map out_of items ≡ bared_first n outs
    → map out_of (slice_set items n (record (get_or items n x) { form = OutForm.Parts empty })) ≡ bared_first (n + 1) outs
bared_step outs items n x empty none less is =
    let out = out_of (get_or items n x) in
    let there : slice_get (map out_of items) n ≡ Some out = get_map out_of items n ∙ ap (option_map out_of) (slice_get-get_or items n x less) in
    map_set out_of items n (record (get_or items n x) { form = OutForm.Parts empty })
    ∙ ap (λ bytes. slice_set (map out_of items) n (record out { form = o_bytes bytes })) none
    ∙ ap (λ os. slice_set os n (bare out)) is
    ∙ bared_one outs n out (ap (λ os. slice_get os n) (sym is) ∙ there)

pub bared_is : (outs : List (List Out)) (at : ℕ) (empty held news : List Out) → slice_get outs at ≡ Some held → map out_of news ≡ map bare (map out_of held)
    → outs_of (slice_set (slice_set outs at empty) at news) ≡ bared_at at (outs_of outs)
bared_is [] at empty held news there is = absurd (let e : None ≡ Some held = sym (slice_get_past {X = List Out} [] at (omega arith)) ∙ there in cc)
bared_is (out ∷ outs) zero empty held news there is =
    ap (λ os. os ∷ outs_of outs) (is ∙ ap (λ os. map bare (map out_of os)) (sym (some_same out held there)))
bared_is (out ∷ outs) (suc at) empty held news there is = ap (λ os. map out_of out ∷ os) (bared_is outs at empty held news there is)
