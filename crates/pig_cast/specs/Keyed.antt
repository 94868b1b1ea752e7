-- A key with its value, as a pair of a map.
use Rattle.std.specs.Prelude.{ℕ, List, String, string_bytes}
use Rattle.pig_value.specs.declared.values.Value.{Value}
use Rattle.pig_value.specs.Trees.{Tree, tree}

abbrev pub keyed : {A : Type 0} → String A × Value → List ℕ × Tree
keyed p = (string_bytes p.0, tree p.1)
