-- What is put for the parts of a line and for lines, one after the other.
use Rattle.std.proofs.Common.{◌≡◌, ◌∙◌, ℕ, ◌+◌, List, ◌++◌, length, Option, None, ap, subst}
use Rattle.std.specs.List.{slice_split}
use Rattle.std.specs.declared.result.Result.TheVariants.{Ok}
use Rattle.pig_params.specs.Cuts.{cut_at, is_byte}
use Rattle.pig_params.specs.Making.{IsCause, Puts, PutsOutcome}
use Rattle.pig_params.specs.declared.faults.ParamFault.{ParamFault}
use Rattle.pig_params.specs.declared.faults.ParamFault.TheVariants as fault
use Rattle.pig_params.specs.Substitution.{Outcome, both, joined, put_parts, put_use, put_uses, use_at}
use Rattle.pig_params.specs.declared.making.Made.{Made}
use Rattle.pig_params.proofs.Going.{Going, both_nothing, puts_both}
use Rattle.pig_params.proofs.Splitting.{IsCut, uncut}

-- what is left may be said otherwise
pub going_at : (whole left same : Outcome) (old new : Made) → left ≡ same → Going whole left old new → Going whole same old new
going_at whole left same old new e going = subst (λ o. Going whole o old new) e going

module _ (v : List ℕ → Option (List ℕ)) where
  -- the first part, and those behind it
  pub uses_first : (at : ℕ) (bs front back : List ℕ) → IsCut 36 bs front back
      → joined (put_uses v at (slice_split (is_byte 36) bs)) ≡ both (put_use v at front (use_at front)) (joined (put_uses v (at + (length front + 1)) (slice_split (is_byte 36) back)))
  uses_first at bs front back is = ap (λ parts. joined (put_uses v at parts)) is.parts

  -- the last part
  pub uses_last : (at : ℕ) (bs : List ℕ) → ◌≡◌ {A = Option (List ℕ × List ℕ)} None (cut_at 36 bs) → joined (put_uses v at (slice_split (is_byte 36) bs)) ≡ put_use v at bs (use_at bs)
  uses_last at bs none = ap (λ parts. joined (put_uses v at parts)) (uncut 36 bs none) ∙ both_nothing (put_use v at bs (use_at bs))

  -- a line without `$`
  pub plain_line : (at : ℕ) (bs : List ℕ) (old new : Made) → ◌≡◌ {A = Option (List ℕ × List ℕ)} None (cut_at 36 bs) → Puts bs old new → PutsOutcome (joined (put_parts v at (slice_split (is_byte 36) bs))) old new
  plain_line at bs old new none puts = record {
    text = bs;
    is = ap (λ parts. joined (put_parts v at parts)) (uncut 36 bs none) ∙ both_nothing (Ok bs);
    puts = puts;
  }

  -- a line with one: what stands before it, and the parts behind
  pub line_first : (at : ℕ) (bs front back : List ℕ) → IsCut 36 bs front back
      → joined (put_parts v at (slice_split (is_byte 36) bs)) ≡ both (Ok front) (joined (put_uses v (at + length front) (slice_split (is_byte 36) back)))
  line_first at bs front back is = ap (λ parts. joined (put_parts v at parts)) is.parts

-- a text, and then what is put behind it
pub behind_text : (front : List ℕ) (o : Outcome) (old mid new : Made) → Puts front old mid → PutsOutcome o mid new → PutsOutcome (both (Ok front) o) old new
behind_text front o old mid new puts put = record {
  text = front ++ put.text;
  is = ap (both (Ok front)) put.is;
  puts = puts_both front put.text old mid new puts put.puts;
}

pub cause_behind : (front : List ℕ) (o : Outcome) (f : ParamFault) → IsCause o f → IsCause (both (Ok front) o) f
cause_behind front o (fault.Missing offset) e = ap (both (Ok front)) e
cause_behind front o fault.TooLong h = h
cause_behind front o fault.OutOfMemory h = h
