-- What is held after bytes are added or taken off, or a row is ended.
use Rattle.std.proofs.Common.{◌≡◌, ◌≤◌, ◌+◌, ℕ, List, [], ◌∷◌, ◌++◌, length, take, drop, sym, ◌∙◌, ap, subst, arith}
use Rattle.std.specs.Prelude.{OnOk, OnErr, Result, Ok, Err}
use Rattle.std.specs.Coded.{Coded-set, coded_ℕ, coded_list}
use Rattle.std.proofs.Math.Logic.{∥∥₁_map, ∥∥₁_elim}
use Rattle.std.proofs.Math.Seq.{take-length, drop-length}
use Rattle.std.proofs.lemmas.List.{append-nil, length-append, length-drop, length-take-le, drop-append-le, take-append-le, take-append-drop}
use Rattle.pig_value.specs.Trees.{Tree}
use Rattle.pig_value.specs.Valid.{AreRows, IsRow}
use Rattle.pig_value.proofs.ValidLaws.{valid_rows-append}
use Rattle.pig_keycode.specs.Codable.{IsCodeOfRow}
use Rattle.pig_keycode.specs.Reading.{row_code}
use Rattle.pig_packed.specs.Growth.{Begun, IsWhole, and_bytes, whole_rows}
use Rattle.pig_packed.specs.RowCodes.{codes_of, ends_from, HeldRows, held_rows_prop}
use Rattle.pig_packed.proofs.Standing.{codes_of-append, ends_from-append}

pub on_err : {T E G : Type 0} (r : Result T E) → G → OnErr r G
on_err (Ok u) g = tt
on_err (Err u) g = g

-- the bytes tell which rows they hold
pub told : (bytes : List ℕ) (given : HeldRows bytes) (rows : List (List Tree)) → ∥ AreRows rows ∥₁ → codes_of rows ≡ bytes → given.0 ≡ rows
told bytes given rows good is = ap (λ h. h.0) (held_rows_prop bytes given (rows, (good, is)))

pub same_rows : (bytes : List ℕ) (given held : HeldRows bytes) → given.0 ≡ held.0
same_rows bytes given held = ap (λ h. h.0) (held_rows_prop bytes given held)

-- nothing is held in no bytes
pub none_held : (bytes : List ℕ) (given : HeldRows bytes) → bytes ≡ [] → given.0 ≡ []
none_held bytes given none = told bytes given [] ∣ tt ∣₁ (sym none)

-- ---- bytes that are added behind the whole rows

module _ (old new more : List ℕ) (done : ℕ) (within : done ≤ length old) where
  front_still : {T E : Type 0} (r : Result T E) → OnOk r (new ≡ old ++ more) → OnErr r (new ≡ old) → take done new ≡ take done old
  front_still (Ok u) ok err = ap (take done) ok ∙ take-append-le done old more within
  front_still (Err u) ok err = ap (take done) err

  longer : {T E : Type 0} (r : Result T E) → OnOk r (new ≡ old ++ more) → OnErr r (new ≡ old) → done ≤ length new
  longer (Ok u) ok err = let size : length new ≡ length old + length more = ap length ok ∙ length-append old more in omega (arith, within, size)
  longer (Err u) ok err = subst (λ l. done ≤ length l) (sym err) within

  pub held_still : {T E : Type 0} (r : Result T E) → OnOk r (new ≡ old ++ more) → OnErr r (new ≡ old) → HeldRows (take done old) → HeldRows (take done new)
  held_still r ok err held = (held.0, (held.1.0, held.1.1 ∙ sym (front_still r ok err)))

  rows_still : {T E : Type 0} (r : Result T E) → OnOk r (new ≡ old ++ more) → OnErr r (new ≡ old) → (held : HeldRows (take done old)) (given : HeldRows (take done new)) → given.0 ≡ held.0
  rows_still r ok err held given = told (take done new) given held.0 held.1.0 (held.1.1 ∙ sym (front_still r ok err))

  pub fits_still : {T E : Type 0} (r : Result T E) → OnOk r (new ≡ old ++ more) → OnErr r (new ≡ old) → (held : HeldRows (take done old)) (given : HeldRows (take done new)) (ends : List ℕ)
      → ends ≡ ends_from 0 held.0 → (done ≤ length new) × (ends ≡ ends_from 0 given.0)
  fits_still r ok err held given ends is = (longer r ok err, is ∙ ap (ends_from 0) (sym (rows_still r ok err held given)))

  pub seen_more : {T E : Type 0} (r : Result T E) → OnOk r (new ≡ old ++ more) → OnErr r (new ≡ old) → (held : HeldRows (take done old)) (given : HeldRows (take done new)) (b : Begun)
      → record { rows = held.0; begun = drop done old } ≡ b
      → OnOk r (record { rows = given.0; begun = drop done new } ≡ and_bytes more b) × OnErr r (record { rows = given.0; begun = drop done new } ≡ b)
  seen_more {T} {E} (Ok u) ok err held given b was =
      let rows = rows_still {T = T} {E = E} (Ok u) ok err held given in
      let begun : drop done new ≡ drop done old ++ more = ap (drop done) ok ∙ drop-append-le done old more within in
      ((λ i. record { rows = rows i; begun = begun i }) ∙ ap (and_bytes more) was, tt)
  seen_more {T} {E} (Err u) ok err held given b was =
      let rows = rows_still {T = T} {E = E} (Err u) ok err held given in
      (tt, (λ i. record { rows = rows i; begun = drop done (err i) }) ∙ was)

-- ---- a row that is taken back

pub undone : (old new : List ℕ) (done : ℕ) → done ≤ length old → new ≡ take done old → (held : HeldRows (take done old)) (given : HeldRows (take done new))
    → (given.0 ≡ held.0) × (drop done new ≡ []) × (done ≤ length new)
undone old new done within is held given =
    let size : length (take done old) ≡ done = length-take-le done old within in
    let front : take done new ≡ take done old = ap (take done) is ∙ (ap (λ n. take n (take done old)) (sym size) ∙ take-length (take done old)) in
    let none : drop done new ≡ [] = ap (drop done) is ∙ (ap (λ n. drop n (take done old)) (sym size) ∙ drop-length (take done old)) in
    let fits : done ≤ length new = let long : length new ≡ done = ap length is ∙ size in omega (arith, long) in
    (told (take done new) given held.0 held.1.0 (held.1.1 ∙ sym front), none, fits)

-- where nothing is begun, the bytes are those of the whole rows
pub all_whole : (bytes : List ℕ) (done : ℕ) → drop done bytes ≡ [] → take done bytes ≡ bytes
all_whole bytes done none = sym (append-nil (take done bytes)) ∙ (ap (λ l. take done bytes ++ l) (sym none) ∙ take-append-drop done bytes)

-- ---- a row that is ended

module _ (bytes : List ℕ) (done end : ℕ) (within : done ≤ length bytes) (all : end ≡ length bytes) (held : HeldRows (take done bytes)) where
  whole_bytes : take end bytes ≡ bytes
  whole_bytes = ap (λ n. take n bytes) all ∙ take-length bytes

  module _ (row : List Tree) (h : IsCodeOfRow (drop done bytes) row) where
    ended_good : ∥ AreRows (held.0 ++ row ∷ []) ∥₁
    ended_good = ∥∥₁_map held.1.0 (λ k. valid_rows-append held.0 (row ∷ []) k (h.value, tt))

    ended_codes : codes_of (held.0 ++ row ∷ []) ≡ take end bytes
    ended_codes =
        codes_of-append held.0 (row ∷ [])
        ∙ ((λ i. held.1.1 i ++ (append-nil (row_code row) ∙ sym h.is) i) ∙ (take-append-drop done bytes ∙ sym whole_bytes))

    ended_rows : (given : HeldRows (take end bytes)) → given.0 ≡ held.0 ++ row ∷ []
    ended_rows given = told (take end bytes) given (held.0 ++ row ∷ []) ended_good ended_codes

    one_end : end ≡ 0 + length (codes_of held.0) + length (row_code row)
    one_end =
        let front : length (codes_of held.0) ≡ done = ap length held.1.1 ∙ length-take-le done bytes within in
        let last : length (row_code row) ≡ length (drop done bytes) = ap length (sym h.is) in
        let left = length-drop done bytes in
        omega (arith, front, last, left, all, within)

    ended_ends : (given : HeldRows (take end bytes)) (ends grown : List ℕ) → ends ≡ ends_from 0 held.0 → grown ≡ ends ++ end ∷ [] → grown ≡ ends_from 0 given.0
    ended_ends given ends grown was is =
        is ∙ ((λ i. was i ++ one_end i ∷ []) ∙ (sym (ends_from-append 0 held.0 (row ∷ [])) ∙ ap (ends_from 0) (sym (ended_rows given))))

    pub ended_seen : (given : HeldRows (take end bytes)) (b : Begun) → record { rows = held.0; begun = drop done bytes } ≡ b
        → record { rows = given.0; begun = drop end bytes } ≡ whole_rows (b.rows ++ row ∷ [])
    ended_seen given b was =
        let rows = ended_rows given in
        let none : drop end bytes ≡ [] = ap (λ n. drop n bytes) all ∙ drop-length bytes in
        (λ i. record { rows = rows i; begun = none i }) ∙ ap (λ c. whole_rows (c.rows ++ row ∷ [])) was

  pub held_ended : IsWhole (drop done bytes) → HeldRows (take end bytes)
  held_ended whole = ∥∥₁_elim whole (held_rows_prop (take end bytes)) (λ w. (held.0 ++ w.0 ∷ [], (ended_good w.0 w.1, ended_codes w.0 w.1)))

  pub fits_ended : IsWhole (drop done bytes) → (given : HeldRows (take end bytes)) (ends grown : List ℕ) → ends ≡ ends_from 0 held.0 → grown ≡ ends ++ end ∷ []
      → (end ≤ length bytes) × (grown ≡ ends_from 0 given.0)
  fits_ended whole given ends grown was is = (
    omega (arith, all),
    ∥∥₁_elim whole (Coded-set (coded_list coded_ℕ) grown (ends_from 0 given.0)) (λ w. ended_ends w.0 w.1 given ends grown was is),
  )

-- what a row of values is written as is whole
pub written_whole : (b new : Begun) (row : List Tree) → IsRow row → b.begun ≡ [] → new ≡ and_bytes (row_code row) b → IsWhole new.begun
written_whole b new row good none is = ∣ (row, record { is = ap (λ c. c.begun) is ∙ ap (λ l. l ++ row_code row) none; value = good }) ∣₁
