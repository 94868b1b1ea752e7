-- Values by name in a map.
use Rattle.std.specs.Borrow.{Bor}
use Rattle.std.specs.Prelude.{ℕ, List, Option}
use Rattle.std.specs.Option.{option_map}
use Rattle.std.specs.Str.{bytes_eq}
use Rattle.indexmap.specs.IndexMap.{IndexMap, get_by}

-- the value of a name
abbrev pub found_in : {S : Type 0} → IndexMap (Bor (List ℕ)) (Bor (List ℕ)) S → List ℕ → Option (List ℕ)
found_in table name = option_map (λ v. v.now) (get_by (λ key. bytes_eq name key.now) table)
