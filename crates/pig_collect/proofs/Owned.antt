-- The outputs of the last wave, taken STORE by STORE, are the parts of each STORE, since its tasks stand in this order.
use Rattle.std.specs.Prelude.{◌≡◌, ◌<◌, ◌+◌, ◌==◌, ℕ, zero, suc, Bool, true, false, List, [], ◌∷◌, ◌++◌, drop, get_or, length, map, take, Option, Some, None, slice_get, refl}
use Rattle.std.proofs.Common.{ap, sym, ◌∙◌, arith, append_assoc, append-nil, cond, length-drop, subst, true≢false}
use Rattle.std.specs.List.{AllByRecursion, flat_map}
use Rattle.std.specs.Option.{option_map_or, unwrap_or}
use Rattle.std.proofs.lemmas.Bool.{eq-eqb}
use Rattle.std.proofs.lemmas.Bool.Decides.{nat_tests}
use Rattle.std.proofs.Math.Seq.{drop-append_seam}
use Rattle.std.proofs.lemmas.List.{drop-map, length-append, length-map, map-append}
use Rattle.pig_value.proofs.list_laws.Elementwise.{get-behind}
use Rattle.std.proofs.lemmas.Option.{slice_get-get_or, slice_get_read}
use Rattle.pig_value.proofs.list_laws.Indexing.{drop-add, dropped, more_taken}
use Rattle.pig_value.proofs.list_laws.Listing.{each-map, each_weaker, map_each}
use Rattle.pig_value.specs.Elementwise.{Rising}
use Rattle.pig_physical.specs.Handed.{form_of, out_of, outs_of}
use Rattle.pig_physical.specs.Outs.{Outs, TaskOut, bytes_in, outs_at}
use Rattle.pig_physical.specs.Running.{is_for, store_wave}
use Rattle.pig_physical.specs.Stages.{Stages, Task, heads, store_tasks, stores, t_map, tasks_in, ways_to}
use Rattle.pig_physical.specs.declared.outputs.Out.{Out}
use Rattle.pig_commit.specs.declared.parts.StorePart.{StorePart}
use Rattle.pig_waves.proofs.Places.{all_flat_where}
use Rattle.pig_waves.proofs.Tasks.{name_node}
use Rattle.pig_collect.specs.Collecting.{part_count, parts_for, parts_given}
use Rattle.pig_collect.specs.Turns.{in_turn, own_front}
use Rattle.pig_collect.proofs.Heading.{last_tasks, stores_rise}

-- ---- one output more

pub own_next : (k at : ℕ) (tasks : List Task) (out : Out) (old new : List Out) (bytes : List ℕ) (own all : List (List ℕ))
    → option_map_or (is_for k) (slice_get tasks at) false ≡ true → old ≡ out ∷ new → bytes ≡ bytes_in (form_of out.form)
    → all ≡ own ++ own_front k (drop at tasks) (map out_of old) → all ≡ (own ++ bytes ∷ []) ++ own_front k (drop (at + 1) tasks) (map out_of new)
own_next k at tasks out old new bytes own all mine cut is so_far = by_found (slice_get tasks at) refl mine
  where
    by_found : (found : Option Task) → slice_get tasks at ≡ found → option_map_or (is_for k) found false ≡ true
        → all ≡ (own ++ bytes ∷ []) ++ own_front k (drop (at + 1) tasks) (map out_of new)
    by_found None e h = absurd (true≢false (sym h))
    by_found (Some task) e h =
        so_far
        ∙ ap (λ ts. own ++ own_front k ts (map out_of old)) (dropped tasks at task e)
        ∙ ap (λ os. own ++ own_front k (task ∷ drop (at + 1) tasks) (map out_of os)) cut
        ∙ ap (λ b. own ++ cond b (bytes_in (form_of out.form) ∷ own_front k (drop (at + 1) tasks) (map out_of new)) []) h
        ∙ ap (λ bs. own ++ bs ∷ own_front k (drop (at + 1) tasks) (map out_of new)) (sym is)
        ∙ sym (append_assoc own (bytes ∷ []) (own_front k (drop (at + 1) tasks) (map out_of new)))

past_end : {X : Type 0} (xs : List X) (at : ℕ) → slice_get xs at ≡ None → drop at xs ≡ []
past_end [] zero e = refl
past_end [] (suc at) e = refl
past_end (x ∷ xs) zero e = absurd (cc)
past_end (x ∷ xs) (suc at) e = past_end xs at e

pub own_end : (k at : ℕ) (tasks : List Task) (outs : List TaskOut) → option_map_or (is_for k) (slice_get tasks at) false ≡ false → own_front k (drop at tasks) outs ≡ []
own_end k at tasks outs other = by_found (slice_get tasks at) refl other
  where
    stops : (task : Task) (more : List Task) (outs : List TaskOut) → is_for k task ≡ false → own_front k (task ∷ more) outs ≡ []
    stops task more [] h = refl
    stops task more (out ∷ outs) h = ap (λ b. cond b (bytes_in out.form ∷ own_front k more outs) []) h

    by_found : (found : Option Task) → slice_get tasks at ≡ found → option_map_or (is_for k) found false ≡ false → own_front k (drop at tasks) outs ≡ []
    by_found None e h = ap (λ ts. own_front k ts outs) (past_end tasks at e)
    by_found (Some task) e h = ap (λ ts. own_front k ts outs) (dropped tasks at task e) ∙ stops task (drop (at + 1) tasks) outs h

-- the parts that are taken, where no output is left or the next task is another's
pub own_all : (k at : ℕ) (tasks : List Task) (left : List Out) (own all : List (List ℕ)) → option_map_or (is_for k) (slice_get tasks at) false ≡ false
    → all ≡ own ++ own_front k (drop at tasks) (map out_of left) → own ≡ all
own_all k at tasks left own all other so_far =
    sym (so_far ∙ ap (λ more. own ++ more) (own_end k at tasks (map out_of left) other) ∙ append-nil own)

-- one STORE more
pub turn_next : (k : ℕ) (ks : List ℕ) (tasks : List Task) (outs : List TaskOut) (found : List (List (List ℕ))) (own : List (List ℕ)) (all : List (List (List ℕ)))
    → own ≡ own_front k tasks outs → found ++ in_turn (k ∷ ks) tasks outs ≡ all
    → (found ++ own ∷ []) ++ in_turn ks (drop (length own) tasks) (drop (length own) outs) ≡ all
turn_next k ks tasks outs found own all is so_far =
    append_assoc found (own ∷ []) (in_turn ks (drop (length own) tasks) (drop (length own) outs))
    ∙ ap (λ o. found ++ o ∷ in_turn ks (drop (length o) tasks) (drop (length o) outs)) is
    ∙ so_far

pub turns_on : (numbers : List ℕ) (place : ℕ) (tasks : List Task) (at len : ℕ) (old new : List Out) (found next : List (List (List ℕ))) (own : List (List ℕ)) (all : List (List (List ℕ)))
    → place < length numbers → own ≡ own_front (get_or numbers place 0) (drop at tasks) (map out_of old) → new ≡ drop (length own) old → len ≡ length own → next ≡ found ++ own ∷ []
    → found ++ in_turn (drop place numbers) (drop at tasks) (map out_of old) ≡ all
    → next ++ in_turn (drop (place + 1) numbers) (drop (at + len) tasks) (map out_of new) ≡ all
turns_on numbers place tasks at len old new found next own all less is behind size adds so_far =
    let k = get_or numbers place 0 in
    let ks = drop (place + 1) numbers in
    ap (λ xs. xs ++ in_turn ks (drop (at + len) tasks) (map out_of new)) adds
    ∙ ap (λ n. (found ++ own ∷ []) ++ in_turn ks (drop (at + n) tasks) (map out_of new)) size
    ∙ ap (λ ts. (found ++ own ∷ []) ++ in_turn ks ts (map out_of new)) (sym (drop-add tasks at (length own)))
    ∙ ap (λ os. (found ++ own ∷ []) ++ in_turn ks (drop (length own) (drop at tasks)) os) (ap (map out_of) behind ∙ sym (drop-map out_of (length own) old))
    ∙ turn_next k ks (drop at tasks) (map out_of old) found own all is
    (ap (λ ns. found ++ in_turn ns (drop at tasks) (map out_of old)) (sym (dropped numbers place k (slice_get-get_or numbers place 0 less))) ∙ so_far)

-- what is left of the outputs
pub next_left : (items old new : List Out) (n : ℕ) (out : Out) → old ≡ drop n items → old ≡ out ∷ new → new ≡ drop (n + 1) items
next_left items old new n out is cut = sym (sym (drop-add items n 1) ∙ ap (drop 1) (sym is ∙ cut))

-- one part more beside one STORE more
pub mapped_on : {X Y Z : Type 0} (f : X → Z) (g : Y → Z) (parts new : List X) (part : X) (stores : List Y) (place : ℕ) (store : Y)
    → place < length stores → store ≡ get_or stores place store → new ≡ parts ++ part ∷ [] → f part ≡ g store → map f parts ≡ map g (take place stores) → map f new ≡ map g (take (place + 1) stores)
mapped_on f g parts new part stores place store less is adds same so_far =
    ap (map f) adds ∙ map-append f parts (part ∷ []) ∙ (λ i. so_far i ++ same i ∷ []) ∙ sym (map-append g (take place stores) (store ∷ []))
    ∙ ap (map g) (sym (more_taken stores place store (slice_get_read stores (length stores) place store refl less is)))

pub added : (parts new : List StorePart) (part : StorePart) (own : List (List ℕ)) → new ≡ parts ++ part ∷ [] → part.parts ≡ own → map (λ p. p.parts) new ≡ map (λ p. p.parts) parts ++ own ∷ []
added parts new part own adds is = ap (map (λ p. p.parts)) adds ∙ map-append (λ p. p.parts) parts (part ∷ []) ∙ ap (λ o. map (λ p. p.parts) parts ++ o ∷ []) is

-- ---- tasks in front that are for a STORE

abbrev AreFor : ℕ → Bool → List Task → Type 0
AreFor k b tasks = AllByRecursion (λ task. is_for k task ≡ b) tasks

none_for : (k : ℕ) (tasks : List Task) (outs : List TaskOut) → AreFor k false tasks → parts_for k tasks outs ≡ []
none_for k [] outs h = refl
none_for k (task ∷ tasks) [] h = refl
none_for k (task ∷ tasks) (out ∷ outs) h =
    ap (λ b. cond b (bytes_in out.form ∷ []) [] ++ parts_for k tasks outs) h.0 ∙ none_for k tasks outs h.1

none_in_front : (k : ℕ) (tasks : List Task) (outs : List TaskOut) → AreFor k false tasks → own_front k tasks outs ≡ []
none_in_front k [] outs h = refl
none_in_front k (task ∷ tasks) [] h = refl
none_in_front k (task ∷ tasks) (out ∷ outs) h = ap (λ b. cond b (bytes_in out.form ∷ own_front k tasks outs) []) h.0

front_is : (k : ℕ) (own others : List Task) (outs : List TaskOut) → AreFor k true own → AreFor k false others → length (own ++ others) ≡ length outs
    → (own_front k (own ++ others) outs ≡ parts_for k (own ++ others) outs) × (length (own_front k (own ++ others) outs) ≡ length own)
front_is k [] others outs h g size =
    (none_in_front k others outs g ∙ sym (none_for k others outs g), ap length (none_in_front k others outs g))
front_is k (task ∷ own) others [] h g size = absurd (omega (arith, size))
front_is k (task ∷ own) others (out ∷ outs) h g size =
    let rest = front_is k own others outs h.1 g (omega (arith, size)) in
    let here : own_front k (task ∷ (own ++ others)) (out ∷ outs) ≡ bytes_in out.form ∷ own_front k (own ++ others) outs =
    ap (λ b. cond b (bytes_in out.form ∷ own_front k (own ++ others) outs) []) h.0 in (
      here ∙ ap (λ bs. bytes_in out.form ∷ bs) rest.0
          ∙ sym (ap (λ b. cond b (bytes_in out.form ∷ []) [] ++ parts_for k (own ++ others) outs) h.0),
      ap length here ∙ ap suc rest.1,
    )

passed : (k : ℕ) (front tasks : List Task) (outs : List TaskOut) → AreFor k false front → parts_for k (front ++ tasks) outs ≡ parts_for k tasks (drop (length front) outs)
passed k [] tasks outs h = refl
passed k (task ∷ front) tasks [] h = sym (no_outs tasks)
  where
    no_outs : (ts : List Task) → parts_for k ts [] ≡ []
    no_outs [] = refl
    no_outs (t ∷ ts) = refl
passed k (task ∷ front) tasks (out ∷ outs) h =
    ap (λ b. cond b (bytes_in out.form ∷ []) [] ++ parts_for k (front ++ tasks) outs) h.0 ∙ passed k front tasks outs h.1

-- ---- the tasks of STOREs in turn

module _ (s : Stages) where
  abbrev of_stores : List ℕ → List Task
  of_stores ks = map t_map (flat_map (store_tasks s) ks)

  abbrev own_tasks : ℕ → List Task
  own_tasks k = map t_map (store_tasks s k)

  own_are : (k : ℕ) → AreFor k true (own_tasks k)
  own_are k =
      each-map (λ task. is_for k task ≡ true) t_map (store_tasks s k)
      (each_weaker (λ t. t.node ≡ k) (λ t. (t.node == k) ≡ true) (λ t e. eq-eqb t.node k e) (store_tasks s k) (name_node s k (ways_to s.plan k)))

  other_store : (k j : ℕ) → (j == k) ≡ false → AllByRecursion (λ t. (t.node == k) ≡ false) (store_tasks s j)
  other_store k j apart =
      each_weaker (λ t. t.node ≡ j) (λ t. (t.node == k) ≡ false) (λ t e. ap (λ n. n == k) e ∙ apart) (store_tasks s j) (name_node s j (ways_to s.plan j))

  others_are : (k j : ℕ) → (j == k) ≡ false → AreFor k false (own_tasks j)
  others_are k j apart = each-map (λ task. is_for k task ≡ false) t_map (store_tasks s j) (other_store k j apart)

  above : (k j : ℕ) → k < j → (j == k) ≡ false
  above k j less = grind (arith, nat_tests, less)

  below : (k j : ℕ) → k < j → (k == j) ≡ false
  below k j less = grind (arith, nat_tests, less)

  behind_are : (k : ℕ) (ks : List ℕ) → AllByRecursion (λ j. k < j) ks → AreFor k false (of_stores ks)
  behind_are k ks rise =
      each-map (λ task. is_for k task ≡ false) t_map (flat_map (store_tasks s) ks)
      (all_flat_where (λ t. (t.node == k) ≡ false) (λ j. k < j) (store_tasks s) (λ j less. other_store k j (above k j less)) ks rise)

  abbrev Turns : List ℕ → List Task → List TaskOut → Type 0
  Turns ks tasks outs =
      (in_turn ks tasks outs ≡ map (λ k. parts_for k tasks outs) ks) × (map length (in_turn ks tasks outs) ≡ map (λ k. length (store_tasks s k)) ks)

  turn_more : (k : ℕ) (ks : List ℕ) (outs : List TaskOut) → Rising (k ∷ ks) → length (own_tasks k ++ of_stores ks) ≡ length outs
      → Turns ks (of_stores ks) (drop (length (own_tasks k)) outs) → Turns (k ∷ ks) (own_tasks k ++ of_stores ks) outs
  turn_more k ks outs rise size rest =
      let joined = own_tasks k ++ of_stores ks in
      let behind = drop (length (own_tasks k)) outs in
      let front = front_is k (own_tasks k) (of_stores ks) outs (own_are k) (behind_are k ks rise.0) size in
      let later : in_turn ks (drop (length (own_front k joined outs)) joined) (drop (length (own_front k joined outs)) outs) ≡ in_turn ks (of_stores ks) behind =
      ap (λ n. in_turn ks (drop n joined) (drop n outs)) front.1 ∙ ap (λ tasks. in_turn ks tasks behind) (drop-append_seam (own_tasks k) (of_stores ks)) in
      let same =
      each_weaker (λ j. k < j) (λ j. parts_for j (of_stores ks) behind ≡ parts_for j joined outs)
      (λ j less. sym (passed j (own_tasks k) (of_stores ks) outs (others_are j k (below k j less)))) ks rise.0 in
      let parts = later ∙ rest.0 ∙ map_each (λ j. parts_for j (of_stores ks) behind) (λ j. parts_for j joined outs) ks same in
      let count = front.1 ∙ length-map (store_tasks s k) t_map in
      let counts = ap (map length) later ∙ rest.1 in
      (λ i. front.0 i ∷ parts i, λ i. count i ∷ counts i)

  turns : (ks : List ℕ) (outs : List TaskOut) → Rising ks → length (of_stores ks) ≡ length outs → Turns ks (of_stores ks) outs
  turns [] outs rise size = (refl, refl)
  turns (k ∷ ks) outs rise size =
      let cut : of_stores (k ∷ ks) ≡ own_tasks k ++ of_stores ks = map-append t_map (store_tasks s k) (flat_map (store_tasks s) ks) in
      let whole : length (own_tasks k ++ of_stores ks) ≡ length outs = sym (ap length cut) ∙ size in
      let sum = length-append (own_tasks k) (of_stores ks) in
      let left = length-drop (length (own_tasks k)) outs in
      subst (λ tasks. Turns (k ∷ ks) tasks outs) (sym cut)
      (turn_more k ks outs rise whole (turns ks (drop (length (own_tasks k)) outs) rise.1 (omega (arith, whole, sum, left))))

  -- the outputs of the last wave stand last
  pub last_outs : (outs front : List (List Out)) (last : List Out) → outs ≡ front ++ last ∷ [] → length outs ≡ length (heads s.plan)
      → outs_at (outs_of outs) (store_wave s.plan) ≡ map out_of last
  last_outs outs front last cut size =
      let are : outs_of outs ≡ outs_of front ++ map out_of last ∷ [] = ap outs_of cut ∙ map-append (map out_of) front (last ∷ []) in
      let whole = ap length cut in
      let sum = length-append front (last ∷ []) in
      let same = length-map front (map out_of) in
      let place : store_wave s.plan ≡ length (outs_of front) + 0 = omega (arith, size, whole, sum, same) in
      ap (λ os. outs_at os (store_wave s.plan)) are
      ∙ ap (outs_at (outs_of front ++ map out_of last ∷ [])) place
      ∙ ap (λ o. unwrap_or o []) (get-behind (outs_of front) (map out_of last ∷ []) 0)

  abbrev AreParts : Outs → List (List (List ℕ)) → Type 0
  AreParts outs given = (given ≡ map (parts_given s outs) (stores s.plan)) × (map length given ≡ map (part_count s) (stores s.plan))

  pub parts_are : (outs front : List (List Out)) (last : List Out) (numbers : List ℕ) (given : List (List (List ℕ)))
      → outs ≡ front ++ last ∷ [] → length outs ≡ length (heads s.plan) → numbers ≡ stores s.plan
      → length (outs_at (outs_of outs) (store_wave s.plan)) ≡ length (tasks_in s (store_wave s.plan))
      → given ≡ in_turn numbers (tasks_in s (store_wave s.plan)) (map out_of last) → AreParts (outs_of outs) given
  parts_are outs front last numbers given cut size are count is = by_stores (stores s.plan) refl
    where
      some_store : (k : ℕ) (ks : List ℕ) → stores s.plan ≡ k ∷ ks → AreParts (outs_of outs) given
      some_store k ks e =
          let tasks = last_tasks s k ks e in
          let there = last_outs outs front last cut size in
          let as_many : length (of_stores (stores s.plan)) ≡ length (map out_of last) = sym (ap length tasks) ∙ sym count ∙ ap length there in
          let both = turns (stores s.plan) (map out_of last) (stores_rise s.plan) as_many in
          let given_is : given ≡ in_turn (stores s.plan) (of_stores (stores s.plan)) (map out_of last) =
          is ∙ ap (λ ns. in_turn ns (tasks_in s (store_wave s.plan)) (map out_of last)) are ∙ ap (λ ts. in_turn (stores s.plan) ts (map out_of last)) tasks in (
            given_is ∙ both.0 ∙ ap (λ ts. map (λ n. parts_for n ts (map out_of last)) (stores s.plan)) (sym tasks)
                ∙ ap (λ os. map (λ n. parts_for n (tasks_in s (store_wave s.plan)) os) (stores s.plan)) (sym there),
            ap (map length) given_is ∙ both.1,
          )

      by_stores : (ks : List ℕ) → stores s.plan ≡ ks → AreParts (outs_of outs) given
      by_stores [] e =
          let none : given ≡ [] = is ∙ ap (λ ns. in_turn ns (tasks_in s (store_wave s.plan)) (map out_of last)) (are ∙ e) in (
            none ∙ ap (map (parts_given s (outs_of outs))) (sym e),
            ap (map length) none ∙ ap (map (part_count s)) (sym e),
          )
      by_stores (k ∷ ks) e = some_store k ks e

-- the numbers of parts
pub sizes_of : (parts : List StorePart) → map (λ part. length part.parts) parts ≡ map length (map (λ part. part.parts) parts)
sizes_of [] = refl
sizes_of (part ∷ parts) = ap (λ ns. length part.parts ∷ ns) (sizes_of parts)
