-- What a buffer may have become once it has taken bytes.
use Rattle.std.specs.Prelude.{◌≡◌, ◌++◌, ℕ, Bool, false, List, []}
use Rattle.std.proofs.Common.{ap, sym, ◌∙◌, append-nil}
use Rattle.std.proofs.lemmas.List.{append_assoc}
use Rattle.pig_value.specs.Extended.{IsExtended}

-- What it held stays in front. Where memory was wanting before, it still is; where it is not, it has taken all of the bytes.
pub record HasTaken (old : List ℕ) (wanting : Bool) (bytes new : List ℕ) (wants : Bool) : Type 0 where
  pub keeps : IsExtended old new
  pub before : wants ≡ false → wanting ≡ false
  pub all : wants ≡ false → new ≡ old ++ bytes

pub takes_nothing : (old : List ℕ) (wanting : Bool) → HasTaken old wanting [] old wanting
takes_nothing old wanting = record {
  keeps = record { more = []; is = sym (append-nil old) };
  before = λ h. h;
  all = λ h. sym (append-nil old);
}

pub takes_on : (old mid new xs ys : List ℕ) (first next last : Bool) → HasTaken old first xs mid next → HasTaken mid next ys new last → HasTaken old first (xs ++ ys) new last
takes_on old mid new xs ys first next last h k = record {
  keeps = record { more = h.keeps.more ++ k.keeps.more; is = k.keeps.is ∙ ap (λ l. l ++ k.keeps.more) h.keeps.is ∙ append_assoc old h.keeps.more k.keeps.more };
  before = λ e. h.before (k.before e);
  all = λ e. k.all e ∙ ap (λ l. l ++ ys) (h.all (k.before e)) ∙ append_assoc old xs ys;
}
