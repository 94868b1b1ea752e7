-- The texts of waves: each names its boundary node by the number that this is printed by.
use Rattle.std.specs.Prelude.{ℕ, ◌+◌, List, [], ◌∷◌, ◌++◌, codes, decimal, if◌then◌else◌}
use Rattle.pig_physical.specs.declared.waves.WaveHead.{WaveHead}
use Rattle.pig_physical.specs.declared.waves.WaveKind.{WaveKind}
use Rattle.pig_physical.specs.declared.waves.WaveKind.TheVariants as kinds
use Rattle.pig_explain.specs.NodeTexts.{number_text}

-- what a wave does, with its boundary node; that of the STOREs has none
abbrev pub wave_text : List ℕ → ℕ → WaveKind → List ℕ
wave_text order node kinds.Map = codes " map " ++ number_text order node
wave_text order node kinds.Reduce = codes " reduce " ++ number_text order node
wave_text order node kinds.Copy = codes " copy " ++ number_text order node
wave_text order node kinds.Probe = codes " probe " ++ number_text order node
wave_text order node kinds.Rank = codes " rank " ++ number_text order node
wave_text order node kinds.Store = codes " store"

-- the line of a wave
abbrev pub head_line : List ℕ → ℕ → WaveHead → List ℕ
head_line order w head = decimal w ++ wave_text order head.node head.kind ++ (if head.combine then codes " combine" else []) ++ 10 ∷ []

-- waves, of which the first is numbered w
abbrev pub waves_text : List ℕ → ℕ → List WaveHead → List ℕ
waves_text order w [] = []
waves_text order w (head ∷ heads) = head_line order w head ++ waves_text order (w + 1) heads
