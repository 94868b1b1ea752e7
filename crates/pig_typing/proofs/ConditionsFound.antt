-- What holds of conditions and keys is found, so there is one typing of them, or a refusal, and never both.
use Rattle.std.proofs.Common.{◌≡◌, ◌∙◌, List, refl, sym}
use Rattle.std.specs.declared.result.Result.TheVariants.{Ok}
use Rattle.pig_syntax.specs.ExprTrees.{ExprForm, ExprForms}
use Rattle.pig_typed.specs.Typed.{Typed}
use Rattle.pig_typing.specs.declared.faults.CheckKind.{CheckKind}
use Rattle.pig_typing.specs.Columns.{Place}
use Rattle.pig_typing.specs.Conditions.{Conditions, ConditionsNot, a_condition, untyped, of_no_truth, condition_on, Keys, KeysNot, no_keys, more_keys, untyped_key, bad_key, later_key, as_key, key_on, keys_on}
use Rattle.pig_typing.specs.Parts.{Typing}
use Rattle.pig_typing.specs.Reader.{condition_of}
use Rattle.pig_typing.proofs.Found.{found, fails}
use Rattle.pig_typing.proofs.References.{Fails, failed, fails_first, fails_next, not_both}

-- ---- conditions and keys

pub condition_found : {s : Place} {a : ExprForm} {t : Typed} → Conditions s a t → condition_on s a ≡ Ok t
unfolding condition_on condition_of
condition_found (a_condition h e) = rw (found h, e) refl

pub condition_fails : {s : Place} {a : ExprForm} {f : CheckKind} → ConditionsNot s a f → Fails (condition_on s a)
unfolding condition_on condition_of
condition_fails (untyped h) = fails_first _ (fails h)
condition_fails (of_no_truth h e) = rw (found h, e) failed

pub keys_found : {s : Place} {es : ExprForms} {ps : List Typing} → Keys s es ps → keys_on s es ≡ Ok ps
unfolding keys_on key_on as_key
keys_found no_keys = refl
keys_found (more_keys h e g) = rw (found h, e, keys_found g) refl

pub keys_fail : {s : Place} {es : ExprForms} {f : CheckKind} → KeysNot s es f → Fails (keys_on s es)
unfolding keys_on key_on as_key
keys_fail (untyped_key h) = fails_first _ (fails_first _ (fails h))
keys_fail (bad_key h e) = rw (found h, e) failed
keys_fail {s = s} (later_key {a = a} g) = fails_next _ (key_on s a) (λ p. fails_first _ (keys_fail g))

-- ---- so there is one, or a refusal, and never both

pub one_condition : {s : Place} {a : ExprForm} {t u : Typed} → Conditions s a t → Conditions s a u → t ≡ u
one_condition h g = let e : Ok _ ≡ Ok _ = sym (condition_found h) ∙ condition_found g in cc

pub no_condition : {s : Place} {a : ExprForm} {t : Typed} {f : CheckKind} → Conditions s a t → ConditionsNot s a f → ⊥
no_condition h g = not_both (condition_found h) (condition_fails g)

pub one_list_of_keys : {s : Place} {es : ExprForms} {ps qs : List Typing} → Keys s es ps → Keys s es qs → ps ≡ qs
one_list_of_keys h g = let e : Ok _ ≡ Ok _ = sym (keys_found h) ∙ keys_found g in cc

pub no_list_of_keys : {s : Place} {es : ExprForms} {ps : List Typing} {f : CheckKind} → Keys s es ps → KeysNot s es f → ⊥
no_list_of_keys h g = not_both (keys_found h) (keys_fail g)
