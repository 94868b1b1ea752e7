-- Readings of items, computed.
use Rattle.std.specs.Prelude.{◌≡◌, [], ◌∷◌, codes, Some, refl}
use Rattle.std.specs.declared.result.Result.TheVariants.{Err}
use Rattle.pig_value.specs.Trees.{k_int, k_long, k_chars}
use Rattle.pig_syntax.specs.ExprTrees.{t_long}
use Rattle.pig_typing.specs.declared.faults.CheckKind.TheVariants as kind
use Rattle.pig_typing.specs.Columns.{unnamed}
use Rattle.pig_items.specs.Items.{all_renamed}

-- three fields `AS x:long`
counts : all_renamed (unnamed k_int ∷ unnamed k_long ∷ unnamed k_chars ∷ []) ((codes "x", Some t_long) ∷ []) ≡ Err kind.SchemaMismatch
unfolding all_renamed
counts = refl
