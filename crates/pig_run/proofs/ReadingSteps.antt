-- The steps of the reading of a script.
use Rattle.std.proofs.Common.{◌≡◌, ◌+◌, ◌<◌, ◌≤◌, ◌^◌, ℕ, refl, List, [], ◌∷◌, ◌++◌, length, take, get_or, Result, Ok, Err, sym, ◌∙◌, ap, subst, inl, inr, add-one}
use Rattle.std.specs.List.{All}
use Rattle.std.proofs.Math.Seq.{take-suc}
use Rattle.std.proofs.lemmas.List.{take_all}
use Rattle.std.proofs.lemmas.List.Elements.{All-append, All-cons, All-nil}
use Rattle.pig_params.specs.Substitution.{IsLonger, Named, Outcome, substituted}
use Rattle.pig_syntax.specs.declared.cutting.Piece.{Piece}
use Rattle.pig_syntax.specs.declared.tokens.Token.{Token}
use Rattle.pig_parser.specs.Parsing.{IsFirstOff}
use Rattle.pig_syntax.specs.Tokens.{IsBadAt}
use Rattle.pig_run.specs.declared.outcome.RunFault.{RunFault}
use Rattle.pig_run.specs.declared.reading.Checked.{Checked}
use Rattle.pig_plan.specs.Plans.{plan_of}
use Rattle.pig_run.specs.declared.outcome.RunFault.TheVariants as fault
use Rattle.pig_run.specs.declared.outcome.TooLarge.TheVariants as large
use Rattle.pig_run.specs.Reading.{IsFilled, IsLexed, IsParsed, Faulty, Finding, Typed, bad_place, grown, missing, no_tree}
use Rattle.pig_run.specs.Refusals.{Names, Refusal, no_token, no_value, off_grammar, too_large}
use Rattle.pig_run.specs.Steps.{IsReadFault, ReadsPlan, TellsPlan}

tells_weaker : (P Q : Finding → Type 0) → ((v : Finding) → P v → Q v) → (r : Result Checked RunFault) → TellsPlan P r → TellsPlan Q r
tells_weaker P Q weaker (Ok checked) h = weaker (Typed checked.statements (plan_of checked.plan)) h
tells_weaker P Q weaker (Err f) (inl h) = inl (h.0, weaker (Faulty h.0) h.1, h.2)
tells_weaker P Q weaker (Err f) (inr h) = inr h

-- what a stage reads, the stage before it reads
pub reads_weaker : (P Q : Finding → Type 0) → ((v : Finding) → P v → Q v) → (r : Result Checked RunFault) → ReadsPlan P r → ReadsPlan Q r
reads_weaker P Q weaker r h = record { told = tells_weaker P Q weaker r h.told; of_script = h.of_script; fault = h.fault }

-- a refusal that the reading found
pub reads_refusal : (P : Finding → Type 0) (refusal : Refusal) (f : RunFault) → P (Faulty refusal) → Names refusal f → IsReadFault f → ReadsPlan P (Err f)
reads_refusal P refusal f is names fault = record { told = inl (refusal, is, names); of_script = tt; fault = fault }

pub off_told : (ts : List Token) (ps : List Piece) {n : ℕ} → IsFirstOff ts ps n → ReadsPlan (IsParsed ts ps) (Err (fault.Syntax n))
off_told ts ps {n = n} off = reads_refusal (IsParsed ts ps) (off_grammar n) (fault.Syntax n) (no_tree off) refl tt

pub bad_told : (script : List ℕ) {n : ℕ} → IsBadAt script n → ReadsPlan (IsLexed script) (Err (fault.Lex n))
bad_told script {n = n} bad = reads_refusal (IsLexed script) (no_token n) (fault.Lex n) (bad_place bad) refl tt

pub missing_told : (given : List Named) (script : List ℕ) {n : ℕ} → substituted given script ≡ Err n → ReadsPlan (IsFilled given script) (Err (fault.Param n))
missing_told given script {n = n} is = reads_refusal (IsFilled given script) (no_value n) (fault.Param n) (missing is) refl tt

pub grown_told : (given : List Named) (script : List ℕ) (n : ℕ) → n ≡ 2 ^ 20 → IsLonger n (substituted given script) → ReadsPlan (IsFilled given script) (Err (fault.TooLarge large.Script))
grown_told given script n limit h =
    reads_refusal (IsFilled given script) (too_large large.Script) (fault.TooLarge large.Script)
    (by_outcome (substituted given script) refl (subst (λ m. IsLonger m (substituted given script)) limit h)) refl tt
  where
    by_outcome : (o : Outcome) → substituted given script ≡ o → IsLonger (2 ^ 20) o → IsFilled given script (Faulty (too_large large.Script))
    by_outcome (Ok text) e h = grown e h
    by_outcome (Err offset) e h = absurd h

-- one more member passes
pub passes_more : {X : Type 0} (P : X → Type 0) (xs : List X) (i : ℕ) (x : X) → i < length xs → x ≡ get_or xs i x → P x → All P (take i xs) → All P (take (i + 1) xs)
passes_more P xs i x within at h sofar =
    subst (All P) (sym (take-suc xs i x within ∙ ap (λ y. take i xs ++ y ∷ []) (sym at)) ∙ ap (λ n. take n xs) (sym (add-one i)))
    (All-append P (take i xs) (x ∷ []) sofar (All-cons P x [] h (All-nil P)))

-- all have passed
pub all_passed : {X : Type 0} (P : X → Type 0) (xs ys : List X) (i : ℕ) → ys ≡ xs → length ys ≤ i → All P (take i ys) → All P xs
all_passed P xs ys i same ended h = subst (All P) (take_all i ys ended ∙ same) h
