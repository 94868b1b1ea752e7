-- Choices of the last WHEN first.
use Rattle.std.proofs.Common.{◌≡◌, refl, sym, ◌∙◌, ap, List, [], ◌∷◌, ◌++◌}
use Rattle.pig_syntax.specs.declared.trees.Expr.{Expr}
use Rattle.pig_syntax.specs.declared.trees.Expr.TheVariants as e
use Rattle.pig_exprs.specs.Grammar.{choice_of}

-- the last WHEN chooses between its value and the default
pub choice_last : (ws : List (Expr × Expr)) (w : Expr × Expr) (default : Expr) → choice_of (ws ++ w ∷ []) default ≡ choice_of ws (e.Choose w.0 w.1 default)
unfolding choice_of
choice_last [] w default = refl
choice_last (v ∷ ws) w default = ap (e.Choose v.0 v.1) (choice_last ws w default)

-- one WHEN less that waits
pub choice_step : (before after : List (Expr × Expr)) (w : Expr × Expr) (tree chosen whole : Expr) → before ≡ after ++ w ∷ [] → chosen ≡ e.Choose w.0 w.1 tree → choice_of before tree ≡ whole
    → choice_of after chosen ≡ whole
choice_step before after w tree chosen whole h g all = ap (choice_of after) g ∙ (sym (choice_last after w tree) ∙ (ap (λ ws. choice_of ws tree) (sym h) ∙ all))

-- none that waits
pub choice_end : (ws : List (Expr × Expr)) (tree whole : Expr) → ws ≡ [] → choice_of ws tree ≡ whole → tree ≡ whole
unfolding choice_of
choice_end [] tree whole h all = all
choice_end (w ∷ ws) tree whole h all = absurd (cc)
