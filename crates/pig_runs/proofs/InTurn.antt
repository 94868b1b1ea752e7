-- Codes of a block that are laid out in the order of their slots, and what the slots then find.
use Rattle.std.proofs.Common.{inl, inr, ◌≡◌, ◌<◌, ◌≤◌, ◌+◌, ◌-◌, ℕ, Bool, true, false, List, [], ◌∷◌, ◌++◌, length, take, drop, refl, sym, ◌∙◌, ap, subst, arith}
use Rattle.std.specs.Prelude.{Some, slice_get, slice_set, ◌&&◌, ◌||◌, nat_le, if◌then◌else◌}
use Rattle.std.specs.List.{AllByRecursion, flat_map, list_all}
use Rattle.std.proofs.Math.Seq.{take-add, drop-append-add}
use Rattle.std.proofs.lemmas.List.{append_assoc, length-append, length-take-le, length-drop, drop-set-lt, take-append-drop, take_more_set}
use Rattle.std.proofs.lemmas.Bool.{leb-true, or_cases}
use Rattle.pig_value.proofs.list_laws.Indexing.{drop-add, dropped, get-drop, more_taken}
use Rattle.pig_runs.specs.declared.blocks.Block.{Block}
use Rattle.pig_runs.specs.declared.slots.Slot.{Slot}
use Rattle.pig_runs.specs.Fronts.{front, side_of, untold}
use Rattle.pig_runs.specs.InTurn.{AreLaid, codes_len, codes_at, is_within, is_apart, spares, codes_within, put_at, put_within, behind, all_put, behind_all}
use Rattle.pig_runs.specs.Packed.{Packed, found_at, part, row_at, slot_of, IsPlaced}
use Rattle.pig_runs.proofs.Adding.{all_kept, found_new, new_placed, part_kept, part_len, placed_more}

-- ---- the codes of slots

codes_two : (bytes : List ℕ) (s : Slot) → codes_at bytes s ≡ part bytes s.at s.key_len ++ part bytes (row_at s) s.row_len
codes_two bytes s = take-add s.key_len s.row_len (drop s.at bytes) ∙ ap (λ rest. part bytes s.at s.key_len ++ take s.row_len rest) (drop-add bytes s.at s.key_len)

codes_size : (bytes : List ℕ) (s : Slot) → IsPlaced bytes s → length (codes_at bytes s) ≡ codes_len s
codes_size bytes s h = part_len bytes s.at (codes_len s) (let last = h.within.row in omega (arith, last))

-- the slot at a place is as the slot for the codes there
put_is : (bytes before : List ℕ) (s : Slot) → IsPlaced bytes s → put_at (length before) s ≡ slot_of (length before) (part bytes s.at s.key_len) (part bytes (row_at s) s.row_len) s.input
put_is bytes before s h =
    let key = part_len bytes s.at s.key_len h.within.key in
    let row = part_len bytes (row_at s) s.row_len h.within.row in
    let whole : s.row_front ≡ (slot_of (length before) (part bytes s.at s.key_len) (part bytes (row_at s) s.row_len) s.input).row_front =
    h.fronts.row ∙ (λ i. front (untold (h.fronts.side i) (sym key i) (part bytes (row_at s) s.row_len)))
    in
    λ i. record {
      key_front = h.fronts.key i;
      row_front = whole i;
      side = h.fronts.side i;
      at = length before;
      key_len = sym key i;
      row_len = sym row i;
      input = s.input;
    }

both_true : (a b : Bool) → (a && b) ≡ true → (a ≡ true) × (b ≡ true)
both_true true b h = (refl, h)
both_true false b h = absurd (cc)

-- the place behind slots is as far on as their codes are long
pub behind_is : (bytes : List ℕ) (b : Block) (at : ℕ) (slots : List Slot) → AllByRecursion (IsPlaced bytes) slots
    → behind_all b at slots ≡ at + length (flat_map (codes_within bytes b) slots)
behind_is bytes b at [] h = omega arith
behind_is bytes b at (s ∷ slots) h = one (is_within b s) (λ from. behind_is bytes b from slots h.1)
  where
    one : (w : Bool) → ((from : ℕ) → behind_all b from slots ≡ from + length (flat_map (codes_within bytes b) slots))
        → behind_all b (if w then at + codes_len s else at) slots ≡ at + length ((if w then codes_at bytes s else []) ++ flat_map (codes_within bytes b) slots)
    one true next =
        let rest = next (at + codes_len s) in
        let both = length-append (codes_at bytes s) (flat_map (codes_within bytes b) slots) in
        let first = codes_size bytes s h.0 in
        omega (arith, rest, both, first)
    one false next = next at

-- ---- what slots find where a block is laid out

-- what a slot found stands where another finds it
record Stays (old new : List ℕ) (s t : Slot) : Type 0 where
  found : found_at new t ≡ found_at old s
  placed : IsPlaced new t

and_laid : (old new : List ℕ) (s t : Slot) (slots moved : List Slot) → Stays old new s t → AreLaid old new slots moved → AreLaid old new (s ∷ slots) (t ∷ moved)
and_laid old new s t slots moved h k = record { found = λ i. h.found i ∷ k.found i; placed = (h.placed, k.placed) }

-- a slot whose parts stay
stays : (old new : List ℕ) (s : Slot) → length old ≡ length new → part new s.at s.key_len ≡ part old s.at s.key_len → part new (row_at s) s.row_len ≡ part old (row_at s) s.row_len
    → IsPlaced old s → Stays old new s s
stays old new s size key row h = record {
  found = λ i. record { key = key i; input = s.input; row = row i };
  placed = record {
    within = record { key = (let in_old = h.within.key in omega (arith, in_old, size)); row = (let in_old = h.within.row in omega (arith, in_old, size)) };
    fronts = record {
      key = h.fronts.key ∙ ap front (sym key);
      side = h.fronts.side ∙ (λ i. side_of (sym key i) (sym row i));
      row = h.fronts.row ∙ ap (λ r. front (untold s.side s.key_len r)) (sym row);
    };
  };
}

module _ (first last : List ℕ) where
  -- bytes behind others that are as many
  part_behind : (xs : List ℕ) (at len : ℕ) → length first + length xs ≤ at → part (first ++ (xs ++ last)) at len ≡ part last (at - (length first + length xs)) len
  part_behind xs at len h =
      let far : ℕ = at - (length first + length xs) in
      let place : at ≡ length first + (length xs + far) = omega (arith, h) in
      ap (take len) (ap (λ n. drop n (first ++ (xs ++ last))) place ∙ (drop-append-add first (xs ++ last) (length xs + far) ∙ drop-append-add xs last far))

  behind_stays : (xs ys : List ℕ) → length ys ≡ length xs → (at len : ℕ) → length first + length xs ≤ at → part (first ++ (ys ++ last)) at len ≡ part (first ++ (xs ++ last)) at len
  behind_stays xs ys same at len h =
      let there : length first + length ys ≤ at = omega (arith, h, same) in
      part_behind ys at len there ∙ (ap (λ n. part last (at - (length first + n)) len) same ∙ sym (part_behind xs at len h))

  before_stays : (xs ys : List ℕ) (at len : ℕ) → at + len ≤ length first → part (first ++ (ys ++ last)) at len ≡ part (first ++ (xs ++ last)) at len
  before_stays xs ys at len h = part_kept first (ys ++ last) at len h ∙ sym (part_kept first (xs ++ last) at len h)

  as_long : (xs ys : List ℕ) → length ys ≡ length xs → length (first ++ (xs ++ last)) ≡ length (first ++ (ys ++ last))
  as_long xs ys same =
      let one = length-append first (xs ++ last) in
      let two = length-append xs last in
      let three = length-append first (ys ++ last) in
      let four = length-append ys last in
      omega (arith, same, one, two, three, four)

  -- a slot before the block or behind it
  apart_stays : (b : Block) (xs ys : List ℕ) (s : Slot) → b.begin ≡ length first → b.end ≡ length first + length xs → length ys ≡ length xs → is_apart b s ≡ true
      → IsPlaced (first ++ (xs ++ last)) s → Stays (first ++ (xs ++ last)) (first ++ (ys ++ last)) s s
  apart_stays b xs ys s begins ends same apart h = elim (or_cases (nat_le b.end s.at) (nat_le s.at b.begin && nat_le (codes_len s) (b.begin - s.at)) apart) as (λ _. Stays (first ++ (xs ++ last)) (first ++ (ys ++ last)) s s) [
    | inl e ↦
        let far = leb-true b.end s.at e in
        let key : length first + length xs ≤ s.at = omega (arith, far, ends) in
        let row : length first + length xs ≤ row_at s = omega (arith, far, ends) in
        stays (first ++ (xs ++ last)) (first ++ (ys ++ last)) s (as_long xs ys same) (behind_stays xs ys same s.at s.key_len key) (behind_stays xs ys same (row_at s) s.row_len row) h
    | inr e ↦
        let both = both_true (nat_le s.at b.begin) (nat_le (codes_len s) (b.begin - s.at)) e in
        let near = leb-true s.at b.begin both.0 in
        let short = leb-true (codes_len s) (b.begin - s.at) both.1 in
        let key : s.at + s.key_len ≤ length first = omega (arith, near, short, begins) in
        let row : row_at s + s.row_len ≤ length first = omega (arith, near, short, begins) in
        stays (first ++ (xs ++ last)) (first ++ (ys ++ last)) s (as_long xs ys same) (before_stays xs ys s.at s.key_len key) (before_stays xs ys (row_at s) s.row_len row) h
  ]

-- a slot whose codes are put behind others
put_stays : (bytes before more : List ℕ) (s : Slot) → IsPlaced bytes s → Stays bytes ((before ++ codes_at bytes s) ++ more) s (put_at (length before) s)
put_stays bytes before more s h =
    let key : List ℕ = part bytes s.at s.key_len in
    let row : List ℕ = part bytes (row_at s) s.row_len in
    let one : List Slot = slot_of (length before) key row s.input ∷ [] in
    let there : Stays bytes ((before ++ (key ++ row)) ++ more) s (slot_of (length before) key row s.input) = record {
      found = ap first_found (all_kept (before ++ (key ++ row)) more one (new_placed before key row s.input)) ∙ found_new before key row s.input;
      placed = (placed_more (before ++ (key ++ row)) more one (new_placed before key row s.input)).0;
    } in
    subst (λ l. Stays bytes ((before ++ l) ++ more) s (put_at (length before) s)) (sym (codes_two bytes s))
    (subst (Stays bytes ((before ++ (key ++ row)) ++ more) s) (sym (put_is bytes before s h)) there)
  where
    first_found : List Packed → Packed
    first_found [] = found_at bytes s
    first_found (p ∷ ps) = p

module _ (first xs last : List ℕ) (b : Block) (begins : b.begin ≡ length first) (ends : b.end ≡ length first + length xs) where
  abbrev whole : List ℕ
  whole = first ++ (xs ++ last)

  -- what stands at each slot's place, where some codes stand in the block already
  laid_behind : (ready : List ℕ) (slots : List Slot) → AllByRecursion (IsPlaced whole) slots → list_all (spares b) slots ≡ true
      → length (ready ++ flat_map (codes_within whole b) slots) ≡ length xs
      → AreLaid whole (first ++ ((ready ++ flat_map (codes_within whole b) slots) ++ last)) slots (all_put b (length first + length ready) slots)
  laid_behind ready [] h fair size = record { found = refl; placed = tt }
  laid_behind ready (s ∷ slots) h fair size =
      let kept = both_true (spares b s) (list_all (spares b) slots) fair in
      one (is_within b s) refl kept.0 (λ begun. laid_behind begun slots h.1 kept.1) size
    where
      more : List ℕ
      more = flat_map (codes_within whole b) slots

      Next : List ℕ → Type 0
      Next begun = length (begun ++ more) ≡ length xs → AreLaid whole (first ++ ((begun ++ more) ++ last)) slots (all_put b (length first + length begun) slots)

      one : (w : Bool) → is_within b s ≡ w → spares b s ≡ true → ((begun : List ℕ) → Next begun) → length (ready ++ ((if w then codes_at whole s else []) ++ more)) ≡ length xs
          → AreLaid whole (first ++ ((ready ++ ((if w then codes_at whole s else []) ++ more)) ++ last)) (s ∷ slots)
          ((if w then put_at (length first + length ready) s else s) ∷ all_put b (if w then length first + length ready + codes_len s else length first + length ready) slots)
      one true is spared next long =
          let codes : List ℕ = codes_at whole s in
          let place : length first + length (ready ++ codes) ≡ length first + length ready + codes_len s = (let both = length-append ready codes in let size = codes_size whole s h.0 in omega (arith, both, size)) in
          let begun : length (first ++ ready) ≡ length first + length ready = length-append first ready in
          let all : (ready ++ codes) ++ more ≡ ready ++ (codes ++ more) = append_assoc ready codes more in
          let rest = subst (λ l. AreLaid whole (first ++ (l ++ last)) slots (all_put b (length first + length ready + codes_len s) slots)) all
          (subst (λ n. AreLaid whole (first ++ (((ready ++ codes) ++ more) ++ last)) slots (all_put b n slots)) place
          (next (ready ++ codes) (ap length all ∙ long)))
          in
          let seen : ((first ++ ready) ++ codes) ++ (more ++ last) ≡ first ++ ((ready ++ (codes ++ more)) ++ last) =
          ap (λ l. l ++ (more ++ last)) (append_assoc first ready codes) ∙ (append_assoc first (ready ++ codes) (more ++ last) ∙ ap (λ l. first ++ l) (sym (append_assoc (ready ++ codes) more last) ∙ ap (λ l. l ++ last) all))
          in
          and_laid whole (first ++ ((ready ++ (codes ++ more)) ++ last)) s (put_at (length first + length ready) s) slots (all_put b (length first + length ready + codes_len s) slots)
          (subst (λ l. Stays whole l s (put_at (length first + length ready) s)) seen
          (subst (λ n. Stays whole (((first ++ ready) ++ codes) ++ (more ++ last)) s (put_at n s)) begun (put_stays whole (first ++ ready) (more ++ last) s h.0)))
          rest
      one false is spared next long =
          let apart : is_apart b s ≡ true = subst (λ w. (w || is_apart b s) ≡ true) is spared in
          and_laid whole (first ++ ((ready ++ more) ++ last)) s s slots (all_put b (length first + length ready) slots)
          (apart_stays first last b xs (ready ++ more) s begins ends long apart h.0)
          (next ready long)

-- a block of bytes that is laid out
pub laid_out : (bytes : List ℕ) (b : Block) (slots : List Slot) (laid new : List ℕ) (moved : List Slot)
    → b.begin ≤ b.end → b.end ≤ length bytes → AllByRecursion (IsPlaced bytes) slots → list_all (spares b) slots ≡ true
    → laid ≡ flat_map (codes_within bytes b) slots → length laid ≡ b.end - b.begin
    → new ≡ take b.begin bytes ++ (laid ++ drop (b.begin + length laid) bytes) → moved ≡ all_put b b.begin slots → AreLaid bytes new slots moved
laid_out bytes b slots laid new moved order within h fair codes size is put =
    let first : List ℕ = take b.begin bytes in
    let xs : List ℕ = take (b.end - b.begin) (drop b.begin bytes) in
    let last : List ℕ = drop (b.begin + (b.end - b.begin)) bytes in
    let begins : length first ≡ b.begin = length-take-le b.begin bytes (omega (arith, order, within)) in
    let long : length xs ≡ b.end - b.begin = length-take-le (b.end - b.begin) (drop b.begin bytes) (let left = length-drop b.begin bytes in omega (arith, order, within, left)) in
    let ends : b.end ≡ length first + length xs = omega (arith, begins, long, order) in
    let both : first ++ (xs ++ last) ≡ bytes =
    ap (λ l. first ++ l) (ap (λ l. xs ++ l) (sym (drop-add bytes b.begin (b.end - b.begin))) ∙ take-append-drop (b.end - b.begin) (drop b.begin bytes)) ∙ take-append-drop b.begin bytes
    in
    let ready : AreLaid (first ++ (xs ++ last)) (first ++ (flat_map (codes_within (first ++ (xs ++ last)) b) slots ++ last)) slots (all_put b (length first + 0) slots) =
    laid_behind first xs last b (sym begins) ends [] slots (subst (λ l. AllByRecursion (IsPlaced l) slots) (sym both) h) fair
    (ap (λ l. length (flat_map (codes_within l b) slots)) both ∙ (ap length (sym codes) ∙ (size ∙ sym long)))
    in
    let here : length first + 0 ≡ b.begin = omega (arith, begins) in
    let whole : first ++ (flat_map (codes_within bytes b) slots ++ last) ≡ new = (λ i. first ++ (sym codes i ++ drop (b.begin + sym size i) bytes)) ∙ sym is in
    subst (λ l. AreLaid bytes l slots moved) whole
    (subst (AreLaid bytes (first ++ (flat_map (codes_within bytes b) slots ++ last)) slots) (ap (λ n. all_put b n slots) here ∙ sym put)
    (subst (λ l. AreLaid l (first ++ (flat_map (codes_within l b) slots ++ last)) slots (all_put b (length first + 0) slots)) both ready))

-- ---- slots that are put in turn, one after another

all_put-append : (b : Block) (at : ℕ) (xs ys : List Slot) → all_put b at (xs ++ ys) ≡ all_put b at xs ++ all_put b (behind_all b at xs) ys
all_put-append b at [] ys = refl
all_put-append b at (x ∷ xs) ys = ap (λ l. put_within b at x ∷ l) (all_put-append b (behind b at x) xs ys)

behind_all-append : (b : Block) (at : ℕ) (xs ys : List Slot) → behind_all b at (xs ++ ys) ≡ behind_all b (behind_all b at xs) ys
behind_all-append b at [] ys = refl
behind_all-append b at (x ∷ xs) ys = behind_all-append b (behind b at x) xs ys

not_before : (b : Block) (at : ℕ) (slots : List Slot) → at ≤ behind_all b at slots
not_before b at [] = omega arith
not_before b at (s ∷ slots) = one (is_within b s) (λ from. not_before b from slots)
  where
    one : (w : Bool) → ((from : ℕ) → from ≤ behind_all b from slots) → at ≤ behind_all b (if w then at + codes_len s else at) slots
    one true next = let rest = next (at + codes_len s) in omega (arith, rest)
    one false next = next at

-- the first so many slots are put, up to a place, and the others are as they were
abbrev pub IsUpTo : Block → List Slot → List Slot → ℕ → ℕ → Type 0
IsUpTo b old now i at = (take i now ≡ all_put b b.begin (take i old)) × ((drop i now ≡ drop i old) × (at ≡ behind_all b b.begin (take i old)))

same_here : (old now : List Slot) (i : ℕ) → drop i now ≡ drop i old → slice_get old i ≡ slice_get now i
same_here old now i same =
    let place : i + 0 ≡ i = omega arith in
    ap (slice_get old) (sym place) ∙ (sym (get-drop old i 0) ∙ (ap (λ l. slice_get l 0) (sym same) ∙ (get-drop now i 0 ∙ ap (slice_get now) place)))

pub put_fits : (b : Block) (old now : List Slot) (i at : ℕ) (s : Slot) → slice_get now i ≡ Some s → IsUpTo b old now i at → behind b at s ≤ behind_all b b.begin old
put_fits b old now i at s here h =
    let there : slice_get old i ≡ Some s = same_here old now i h.1.0 ∙ here in
    let rest = not_before b (behind b (behind_all b b.begin (take i old)) s) (drop (i + 1) old) in
    let all : behind_all b b.begin old ≡ behind_all b (behind b (behind_all b b.begin (take i old)) s) (drop (i + 1) old) =
    ap (behind_all b b.begin) (sym (take-append-drop i old) ∙ ap (λ l. take i old ++ l) (dropped old i s there)) ∙ behind_all-append b b.begin (take i old) (s ∷ drop (i + 1) old)
    in
    let place : behind b at s ≡ behind b (behind_all b b.begin (take i old)) s = ap (λ n. behind b n s) h.1.1 in
    subst (λ n. n ≤ behind_all b b.begin old) (sym place) (subst (λ n. behind b (behind_all b b.begin (take i old)) s ≤ n) (sym all) rest)

pub put_one : (b : Block) (old now : List Slot) (i at : ℕ) (s : Slot) → i < length now → slice_get now i ≡ Some s → IsUpTo b old now i at
    → IsUpTo b old (slice_set now i (put_within b at s)) (i + 1) (behind b at s)
put_one b old now i at s low here h =
    let there : slice_get old i ≡ Some s = same_here old now i h.1.0 ∙ here in (
      take_more_set now i (put_within b at s) low ∙ ((λ j. h.0 j ++ put_within b (h.1.1 j) s ∷ []) ∙ (sym (all_put-append b b.begin (take i old) (s ∷ [])) ∙ ap (all_put b b.begin) (sym (more_taken old i s there)))),
      (
        drop-set-lt (i + 1) now i (put_within b at s) (omega arith) ∙ (sym (drop-add now i 1) ∙ (ap (drop 1) h.1.0 ∙ drop-add old i 1)),
        ap (λ n. behind b n s) h.1.1 ∙ (sym (behind_all-append b b.begin (take i old) (s ∷ [])) ∙ ap (behind_all b b.begin) (sym (more_taken old i s there))),
      ),
    )
