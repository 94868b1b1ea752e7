-- Names in schemas, computed: `a`, `x::a` and `y::a` beside fields without a name.
use Rattle.std.proofs.Common.{◌≡◌, [], ◌∷◌, refl}
use Rattle.std.specs.Prelude.{Some, None, Ok, Err}
use Rattle.pig_schema.specs.declared.naming.NameFault.TheVariants.{Unknown, Ambiguous}
use Rattle.pig_schema.specs.Names.{meaning}

named_alone : meaning (Some (120 ∷ 58 ∷ 58 ∷ 97 ∷ []) ∷ None ∷ Some (97 ∷ []) ∷ []) (97 ∷ []) ≡ Ok 2
named_alone = refl

behind_colons : meaning (None ∷ Some (120 ∷ 58 ∷ 58 ∷ 97 ∷ []) ∷ []) (97 ∷ []) ≡ Ok 1
behind_colons = refl

two_fit : meaning (Some (120 ∷ 58 ∷ 58 ∷ 97 ∷ []) ∷ Some (121 ∷ 58 ∷ 58 ∷ 97 ∷ []) ∷ []) (97 ∷ []) ≡ Err Ambiguous
two_fit = refl

two_named : meaning (Some (97 ∷ []) ∷ Some (97 ∷ []) ∷ []) (97 ∷ []) ≡ Err Ambiguous
two_named = refl

none_fits : meaning (Some (98 ∷ 97 ∷ []) ∷ None ∷ []) (97 ∷ []) ≡ Err Unknown
none_fits = refl
