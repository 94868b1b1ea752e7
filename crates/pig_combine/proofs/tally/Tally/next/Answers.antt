use Rattle.std.proofs.Common.{◌≡◌, sym, ap, ◌∙◌}
use Rattle.std.specs.Prelude.{[], ◌∷◌, ◌++◌}
use Rattle.std.proofs.lemmas.Result.{IfOk-weaker}
use Rattle.pig_value.specs.Trees.{field_tree, row_tree}
use Rattle.pig_algebra.specs.Cuts.{c_part, cut_typed}
use Rattle.pig_combine.specs.Tallies.{found_by, told, told_more}
use Rattle.pig_combine.proofs.Found.{more_found}
use Rattle.pig_combine.proofs.tally.Tally.next.Goals as goal

pub returns-in-Part-clause-told : goal.returns-in-Part-clause-told
returns-in-Part-clause-told c rows h =
    let is : cut_typed c.args.cut.now ≡ c_part c.in-Part.function c.in-Part.columns = ap cut_typed c.in-Part.is in
    let more : told_more (told c.args.self.now) (field_tree c.looked_at.result) ≡ found_by (rows ++ row_tree c.args.row.now ∷ []) (cut_typed c.args.cut.now) =
    ap (λ t. told_more t (field_tree c.looked_at.result)) (h ∙ ap (found_by rows) is)
    ∙ ap (told_more (found_by rows (c_part c.in-Part.function c.in-Part.columns))) c.looked_at.ensures.field
    ∙ more_found c.in-Part.function c.in-Part.columns rows (row_tree c.args.row.now)
    ∙ ap (found_by (rows ++ row_tree c.args.row.now ∷ [])) (sym is) in
    IfOk-weaker c.with.result _ _ (λ next e. e ∙ more) c.with.ensures.told
