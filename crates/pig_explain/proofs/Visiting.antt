-- What a visit adds, by the depth that is left.
use Rattle.std.proofs.Common.{◌≡◌, ◌-◌, ◌++◌, ◌∷◌, [], ℕ, zero, suc, List, false, if◌then◌else◌, refl, sym, ◌∙◌, ap, arith}
use Rattle.std.specs.List.{fold}
use Rattle.pig_plan.specs.Plans.{Plan}
use Rattle.pig_explain.specs.Numbered.{inputs_at, is_listed, visit}

pub visited_now : (plan : Plan) (listed below new : List ℕ) (k depth : ℕ) → ¬ (depth ≡ 0) → is_listed listed k ≡ false
    → below ≡ fold (visit (depth - 1) plan) listed (inputs_at plan k) → new ≡ below ++ k ∷ [] → new ≡ visit depth plan listed k
visited_now plan listed below new k zero some fresh is behind = absurd (some refl)
visited_now plan listed below new k (suc depth) some fresh is behind =
    let less : suc depth - 1 ≡ depth = omega arith in
    behind
    ∙ ap (λ l. l ++ k ∷ []) (is ∙ ap (λ d. fold (visit d plan) listed (inputs_at plan k)) less)
    ∙ sym (ap (λ b. if b then listed else fold (visit depth plan) listed (inputs_at plan k) ++ k ∷ []) fresh)
