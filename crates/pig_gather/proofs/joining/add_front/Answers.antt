use Rattle.std.proofs.Common.{◌≡◌, ◌++◌, sym, ◌∙◌, ap, subst}
use Rattle.std.proofs.lemmas.Result.{on_ok_weaker}
use Rattle.pig_packed.specs.Growth.{and_row}
use Rattle.pig_gather.specs.Fields.{Begins, IsBegun}
use Rattle.pig_gather.proofs.joining.add_front.Goals as goal

pub end_fields-requires : goal.end_fields-requires
end_fields-requires c = subst IsBegun (sym (ap (λ b. b.begun) c.in_ok-write.ensures.ok ∙ ap (λ l. l ++ c.args.front.now) c.requires.none_begun)) c.requires.front

pub returns : goal.returns
returns c fields h =
    let front : c.write.new.self.begun ≡ c.args.front.now = ap (λ b. b.begun) c.in_ok-write.ensures.ok ∙ ap (λ l. l ++ c.args.front.now) c.requires.none_begun in
    on_ok_weaker c.end_fields.result (λ ended. ended ∙ ap (and_row fields) c.in_ok-write.ensures.ok) (c.end_fields.ensures fields (subst (λ l. Begins l fields) (sym front) h))
