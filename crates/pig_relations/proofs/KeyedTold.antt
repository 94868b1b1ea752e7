-- What the readers of inputs by key tell holds, and what holds is found.
use Rattle.std.proofs.Common.{◌≡◌, List, [], ◌∷◌, map, refl}
use Rattle.std.specs.Prelude.{None}
use Rattle.std.specs.declared.result.Result.TheVariants.{Ok, Err}
use Rattle.pig_typing.specs.declared.faults.CheckKind.{CheckKind}
use Rattle.pig_typing.specs.declared.faults.CheckKind.TheVariants as kind
use Rattle.pig_typing.specs.Conditions.{keys_on}
use Rattle.pig_typing.specs.Results.{Checked}
use Rattle.pig_typing.proofs.Chains.{then_told, due_is}
use Rattle.pig_typing.proofs.ConditionsFound.{keys_found, keys_fail}
use Rattle.pig_typing.proofs.ConditionsTold.{AreKeysTold, keys_told}
use Rattle.pig_typing.proofs.References.{Fails, failed, fails_first, fails_next}
use Rattle.pig_relations.specs.Aliases.{Aliases, relation_at, relation_of}
use Rattle.pig_relations.specs.Keyed.{KeyedForm, TypedInput, Keyable, rows_of, key_kinds, keys_kinds, TypesInput, TypesInputNot, types_input, unknown_input, untyped_keys, TypesInputs, TypesInputsNot, no_inputs, more_inputs, here_untyped, later_untyped, TypesKeyed, TypesKeyedNot, types_keyed, untyped_input, of_unlike_keys, of_other_kinds, input_of, inputs_of, keyed_of}
use Rattle.pig_relations.specs.Together.{all_together}

-- ---- what is told holds

abbrev pub IsInputTold : Aliases → KeyedForm → Checked TypedInput → Type 0
IsInputTold known i (Ok t) = TypesInput known i t
IsInputTold known i (Err f) = TypesInputNot known i f

pub input_told : (known : Aliases) (i : KeyedForm) → IsInputTold known i (input_of known i)
unfolding input_of relation_of
input_told known i =
    due_is (IsInputTold known i) _ kind.UnknownAlias (relation_at i.alias known)
    (λ r e. then_told (AreKeysTold (rows_of r) i.keys) (IsInputTold known i) _ (keys_on (rows_of r) i.keys) (keys_told (rows_of r) i.keys)
    (λ ps h. types_input e h) (λ f h. untyped_keys e h))
    (λ e. unknown_input e)

abbrev pub AreInputsTold : Aliases → List KeyedForm → Checked (List TypedInput) → Type 0
AreInputsTold known is (Ok ts) = TypesInputs known is ts
AreInputsTold known is (Err f) = TypesInputsNot known is f

pub inputs_told : (known : Aliases) (is : List KeyedForm) → AreInputsTold known is (inputs_of known is)
unfolding inputs_of
inputs_told known [] = no_inputs
inputs_told known (i ∷ is) =
    then_told (IsInputTold known i) (AreInputsTold known (i ∷ is)) _ (input_of known i) (input_told known i)
    (λ t h. then_told (AreInputsTold known is) (AreInputsTold known (i ∷ is)) _ (inputs_of known is) (inputs_told known is)
    (λ ts g. more_inputs h g) (λ f g. later_untyped g))
    (λ f h. here_untyped h)

abbrev pub IsKeyedTold : Aliases → List KeyedForm → Checked Keyable → Type 0
IsKeyedTold known is (Ok k) = TypesKeyed known is k
IsKeyedTold known is (Err f) = TypesKeyedNot known is f

pub keyed_told : (known : Aliases) (is : List KeyedForm) → IsKeyedTold known is (keyed_of known is)
unfolding keyed_of
keyed_told known is =
    then_told (AreInputsTold known is) (IsKeyedTold known is) _ (inputs_of known is) (inputs_told known is)
    (λ ts h. due_is (IsKeyedTold known is) _ kind.SchemaMismatch (key_kinds ts) (λ ks e. types_keyed h e) (λ e. of_unlike_keys h e))
    (λ f h. untyped_input h)

-- ---- what holds is found

pub input_found : {known : Aliases} {i : KeyedForm} {t : TypedInput} → TypesInput known i t → input_of known i ≡ Ok t
unfolding input_of relation_of
input_found (types_input e h) = rw (e, keys_found h) refl

pub input_fails : {known : Aliases} {i : KeyedForm} {f : CheckKind} → TypesInputNot known i f → Fails (input_of known i)
unfolding input_of relation_of
input_fails (unknown_input e) = rw (e) failed
input_fails (untyped_keys e h) = rw (e) (fails_first _ (keys_fail h))

pub inputs_found : {known : Aliases} {is : List KeyedForm} {ts : List TypedInput} → TypesInputs known is ts → inputs_of known is ≡ Ok ts
unfolding inputs_of
inputs_found no_inputs = refl
inputs_found (more_inputs h g) = rw (input_found h, inputs_found g) refl

pub inputs_fail : {known : Aliases} {is : List KeyedForm} {f : CheckKind} → TypesInputsNot known is f → Fails (inputs_of known is)
unfolding inputs_of
inputs_fail (here_untyped h) = fails_first _ (input_fails h)
inputs_fail {known = known} (later_untyped {i = i} h) = fails_next _ (input_of known i) (λ t. fails_first _ (inputs_fail h))

pub keyed_found : {known : Aliases} {is : List KeyedForm} {k : Keyable} → TypesKeyed known is k → keyed_of known is ≡ Ok k
unfolding keyed_of
keyed_found (types_keyed h e) = rw (inputs_found h, e) refl

-- where the kinds do not stand together there are none of keys
none_together : (ts : List TypedInput) → all_together (map keys_kinds ts) ≡ None → key_kinds ts ≡ None
none_together ts e = rw (e) refl

pub keyed_fails : {known : Aliases} {is : List KeyedForm} {f : CheckKind} → TypesKeyedNot known is f → Fails (keyed_of known is)
unfolding keyed_of
keyed_fails (untyped_input h) = fails_first _ (inputs_fail h)
keyed_fails (of_unlike_keys h e) = rw (inputs_found h, e) failed
keyed_fails (of_other_kinds {ts = ts} h same e) = rw (inputs_found h, none_together ts e) failed
