-- FLATTEN of kinds that hold others.
use Rattle.std.specs.Prelude.{◌≡◌, List, Some}
use Rattle.pig_value.specs.Trees.{KindTree, k_bag, k_boolean, k_tuple, kinds_in}
use Rattle.pig_typed.specs.BlockKinds.{flattened_kinds}

pub flat_found : (k : KindTree) (ks : List KindTree) → kinds_in k ≡ Some ks → flattened_kinds k ≡ Some ks
flat_found (k_tuple kinds) ks e = e
flat_found (k_bag kinds) ks e = e
flat_found k_boolean ks e = absurd (cc)
flat_found k ks e = absurd (cc)
