use Rattle.std.proofs.Common.{◌≡◌, ◌<◌, ◌∙◌, ap, sym, subst, drop, take, length}
use Rattle.pig_packed.proofs.Standing.{length-ends_from}
use Rattle.pig_packed.proofs.Lending.{code_lent}
use Rattle.pig_packed.proofs.rows.Packed.code.Goals as goal

pub begin_of-requires : goal.begin_of-requires
begin_of-requires c =
    let as_many : length c.as_slice-ends.result.now ≡ length c.args.self.now = ap length (c.as_slice-ends.ensures.value ∙ c.self.invariant) ∙ (length-ends_from 0 c.self.inside.held.0 ∙ ap length c.self.view_is) in
    subst (λ n. c.args.at < n) (sym as_many) c.requires

pub end_of-requires : goal.end_of-requires
end_of-requires c =
    let as_many : length c.as_slice-ends.result.now ≡ length c.args.self.now = ap length (c.as_slice-ends.ensures.value ∙ c.self.invariant) ∙ (length-ends_from 0 c.self.inside.held.0 ∙ ap length c.self.view_is) in
    subst (λ n. c.args.at < n) (sym as_many) c.requires

pub returns-clause-is : goal.returns-clause-is
returns-clause-is c =
    code_lent c.self.inside.bytes.items c.as_slice-ends.result.now c.self.inside.held c.args.self.now c.args.at c.begin_of.result c.end_of.result c.between.result.now c.self.view_is (c.as_slice-ends.ensures.value ∙ c.self.invariant) c.requires
    c.begin_of.ensures c.end_of.ensures (c.between.ensures ∙ ap (λ b. drop c.begin_of.result (take c.end_of.result b)) c.as_slice.ensures.value)
