-- Blocks of a piece that are handed in, in turn.
use Rattle.std.specs.Prelude.{◌≡◌, ◌<◌, ◌≤◌, ◌+◌, ◌++◌, ℕ, List, [], length, drop, Option, Some, None, unwrap_or, refl}
use Rattle.std.specs.Option.{ForSome}
use Rattle.std.proofs.Common.{ap, sym, subst, ◌∙◌, arith, append_assoc}
use Rattle.std.proofs.lemmas.List.{drop_all}
use Rattle.pig_value.specs.declared.inputs.Input.{Input}
use Rattle.pig_value.specs.Trees.{Tree}
use Rattle.pig_outside.specs.Shelf.{HasRange, piece_of}
use Rattle.pig_stream.specs.Driving.{HasTaken}
use Rattle.pig_stream.specs.Stepping.{HaveNoted}
use Rattle.pig_stream.specs.declared.steps.Steps.{Steps}
use Rattle.pig_stream.proofs.Drives.{all_taken, handed_between, nothing_taken, taken_more}
use Rattle.pig_map.specs.Reading.{HasFed, HasFedAll, IsLong, piece_bytes}

abbrev Rows : Type 0
Rows = List (List Tree)

abbrev Coming : Type 0
Coming = List ℕ → Rows

-- the same before, written in another way
same_before : (a b c : Coming) (s t : Steps) (after : Rows → Type 0) (n : ℕ) → ((later : List ℕ) → b later ≡ a later)
    → HasTaken a c s t after n → HasTaken b c s t after n
same_before a b c s t after n is h = record {
  rows = h.rows;
  came = λ later. is later ∙ h.came later;
  counted = h.counted;
  taken = h.taken;
  noted = h.noted;
  same = h.same;
}

module _ (told : Option (List Input)) (path : List ℕ) (piece : ℕ) where
  pub fed_none : (at : ℕ) (before : Coming) (s : Steps) (after : Rows → Type 0) → after [] → HasFed told path piece at at before before s s after 0
  fed_none at before s after none = record {
    given = [];
    taken = nothing_taken before s after none;
    bytes = λ inputs is. refl;
  }

  pub fed_more : (from at to : ℕ) (a b c : Coming) (s t u : Steps) (first next both : Rows → Type 0) (m n : ℕ)
      → ((xs ys : Rows) → first xs → next ys → both (xs ++ ys))
      → HasFed told path piece from at a b s t first m → HasFed told path piece at to b c t u next n
      → HasFed told path piece from to a c s u both (m + n)
  fed_more from at to a b c s t u first next both m n join h k =
      let handed : HasTaken (λ later. a (h.given ++ (k.given ++ later))) (λ later. b (k.given ++ later)) s t first m =
      handed_between (λ later. a (h.given ++ later)) b (λ later. b (k.given ++ later)) s t first m k.given h.taken (λ later. refl) in
      let joined = taken_more (λ later. a (h.given ++ (k.given ++ later))) (λ later. b (k.given ++ later)) c s t u first next both m n join handed k.taken in
      record {
        given = h.given ++ k.given;
        taken =
            same_before (λ later. a (h.given ++ (k.given ++ later))) (λ later. a ((h.given ++ k.given) ++ later)) c s u both (m + n)
            (λ later. ap a (append_assoc h.given k.given later)) joined;
        bytes = λ inputs is.
            h.bytes inputs is ∙ ap (λ l. h.given ++ l) (k.bytes inputs is) ∙ sym (append_assoc h.given k.given (drop to (piece_bytes path piece inputs)));
      }

  -- the same, as a loop has it
  pub fed_next : (now : Option (List Input)) (from at to end : ℕ) (a b c : Coming) (s t u : Steps) (first next both : Rows → Type 0) (m n count : ℕ)
      → now ≡ told → end ≡ to → count ≡ m + n → ((xs ys : Rows) → first xs → next ys → both (xs ++ ys))
      → HasFed told path piece from at a b s t first m → HasFed now path piece at to b c t u next n
      → HasFed told path piece from end a c s u both count
  fed_next now from at to end a b c s t u first next both m n count same ends counts join h k =
      subst (λ n. HasFed told path piece from end a c s u both n) (sym counts)
      (subst (λ e. HasFed told path piece from e a c s u both (m + n)) (sym ends)
      (fed_more from at to a b c s t u first next both m n join h (subst (λ o. HasFed o path piece at to b c t u next n) same k)))

  -- no more lines come, whatever is handed in
  pub fed_past : (from at : ℕ) (before behind : Coming) (s t : Steps) (after : Rows → Type 0) (n : ℕ)
      → HasFed told path piece from at before behind s t after n → HaveNoted s [] → ((later : List ℕ) → behind later ≡ [])
      → HasFedAll told path piece from before s t after n
  fed_past from at before behind s t after n h none dry = record {
    given = h.given ++ [];
    all = all_taken (λ later. before (h.given ++ later)) behind s t after n h.taken none dry [];
    bytes = λ inputs is.
        let rest = drop at (piece_bytes path piece inputs) in
        h.taken.came [] ∙ ap (λ l. h.taken.rows ++ l) (dry [] ∙ sym (dry rest)) ∙ sym (h.taken.came rest) ∙ ap before (sym (h.bytes inputs is));
  }

  -- the piece is at its end
  fed_whole : (from at long : ℕ) (before behind mid last : Coming) (s t u : Steps) (first next both : Rows → Type 0) (m n : ℕ)
      → ((xs ys : Rows) → first xs → next ys → both (xs ++ ys))
      → HasFed told path piece from at before behind s t first m → HaveNoted s []
      → ForSome told (IsLong path piece long) → long ≤ at
      → ((later : List ℕ) → mid later ≡ behind []) → HasTaken mid last t u next n → ((later : List ℕ) → last later ≡ [])
      → HasFedAll told path piece from before s u both (m + n)
  fed_whole from at long before behind mid last s t u first next both m n join h none is_long low ended k dry =
      let begun : HasTaken (λ later. before (h.given ++ [])) mid s t first m = record {
        rows = h.taken.rows;
        came = λ later. h.taken.came [] ∙ ap (λ l. h.taken.rows ++ l) (sym (ended later));
        counted = h.taken.counted;
        taken = h.taken.taken;
        noted = h.taken.noted;
        same = h.taken.same;
      } in
      let whole = taken_more (λ later. before (h.given ++ [])) mid last s t u first next both m n join begun k in
      record {
        given = h.given ++ [];
        all = all_taken (λ later. before (h.given ++ [])) last s u both (m + n) whole none dry [];
        bytes = λ inputs is.
            let all = piece_bytes path piece inputs in
            let size : length all ≡ long = is_long inputs is in
            let past : drop at all ≡ [] = drop_all at all (omega (arith, size, low)) in
            ap before (ap (λ l. h.given ++ l) (sym past) ∙ sym (h.bytes inputs is));
      }

  pub fed_end : (from at long : ℕ) (before behind mid last : Coming) (s t u : Steps) (first next both : Rows → Type 0) (m n count : ℕ)
      → ((xs ys : Rows) → first xs → next ys → both (xs ++ ys))
      → HasFed told path piece from at before behind s t first m → HaveNoted s []
      → ForSome told (IsLong path piece long) → long ≤ at
      → ((later : List ℕ) → mid later ≡ behind []) → HasTaken mid last t u next n → ((later : List ℕ) → last later ≡ []) → count ≡ m + n
      → HasFedAll told path piece from before s u both count
  fed_end from at long before behind mid last s t u first next both m n count join h none is_long low ended k dry counts =
      subst (λ n. HasFedAll told path piece from before s u both n) (sym counts)
      (fed_whole from at long before behind mid last s t u first next both m n join h none is_long low ended k dry)

-- a range of a piece that is so long
pub range_there : (path : List ℕ) (piece at size long : ℕ) (inputs : List Input) → IsLong path piece long inputs → at < long → at + size ≤ long
    → HasRange path piece at size inputs
range_there path piece at size long inputs is within fits = found (piece_of path piece inputs) refl
  where
    found : (o : Option (List ℕ)) → piece_of path piece inputs ≡ o → HasRange path piece at size inputs
    found None e = (let none : 0 ≡ long = sym (ap (λ o. length (unwrap_or o [])) e) ∙ is in absurd (omega (arith, none, within)))
    found (Some bytes) e =
        (let size_is : length bytes ≡ long = sym (ap (λ o. length (unwrap_or o [])) e) ∙ is in
        record { bytes = bytes; there = e; within = omega (arith, size_is, fits) })
