-- The text of a plan as it was checked, as it was rewritten, and of its waves.
use Rattle.std.specs.Prelude.{ℕ, List, ◌∷◌, ◌++◌, codes}
use Rattle.pig_plan.specs.Nodes.{live}
use Rattle.pig_plan.specs.Plans.{Plan}
use Rattle.pig_physical.specs.Stages.{heads}
use Rattle.pig_explain.specs.NodeTexts.{plan_text}
use Rattle.pig_explain.specs.Numbered.{post_order}
use Rattle.pig_explain.specs.WaveTexts.{waves_text}

-- the nodes that a STORE reaches, in the order of statements
abbrev pub checked_text : Plan → List ℕ
checked_text plan = codes "checked" ++ 10 ∷ plan_text plan (live plan)

-- the nodes in post-order from the STOREs
abbrev pub rewritten_text : Plan → List ℕ
rewritten_text plan = codes "rewritten" ++ 10 ∷ plan_text plan (post_order plan)

-- the waves of a plan that is printed in post-order
abbrev pub waves_of_text : Plan → List ℕ
waves_of_text plan = codes "waves" ++ 10 ∷ waves_text (post_order plan) 0 (heads plan)

abbrev pub explain_text : Plan → Plan → List ℕ
explain_text checked rewritten = checked_text checked ++ rewritten_text rewritten ++ waves_of_text rewritten
