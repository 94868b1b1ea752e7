use Rattle.std.proofs.Common.{◌≡◌, ℕ, List, refl, subst, arith}
use Rattle.pig_value.specs.Trees.{Tree}
use Rattle.pig_packed.specs.Growth.{and_bytes}
use Rattle.pig_plan.specs.ByKey.{bags_of}
use Rattle.pig_operators.specs.Groups.{first_key, rows_alone, rows_at}
use Rattle.pig_gather.specs.Fields.{begun_code}
use Rattle.pig_gather.proofs.FieldCodes.{begins, row_ended}
use Rattle.pig_gather.proofs.GroupRows.{alone_valid, bag_more, bags_valid, rows_bag_valid}
use Rattle.pig_gather.proofs.cogrouping.add_lone.Goals as goal

pub loop-i-preserved : goal.loop-i-preserved
loop-i-preserved c =
    let run = c.args.own.now.entries.now in
    let rows : ℕ → List (List Tree) = rows_alone c.args.input (rows_at run c.args.own.now.from c.args.own.now.end) in
    bag_more c.args.built.now c.loop-i.built c.add_bag_where.new.built (first_key run c.args.key) rows c.loop-i.i (rows c.loop-i.i) c.loop-i.invariant c.in_ok-add_bag_where.ensures refl

pub end_fields-requires : goal.end_fields-requires
end_fields-requires c =
    let run = c.args.own.now.entries.now in
    let own = rows_at run c.args.own.now.from c.args.own.now.end in
    let all : c.loop-i.i ≡ c.args.inputs = let past = c.loop-i-test.false in let low = c.loop-i.auto.i-end in omega (arith, past, low) in
    begins c.args.built.now c.loop-i.built (bags_of c.args.inputs (first_key run c.args.key) (rows_alone c.args.input own)) c.requires.none_begun
    (subst (λ n. c.loop-i.built ≡ and_bytes (begun_code (bags_of n (first_key run c.args.key) (rows_alone c.args.input own))) c.args.built.now) all c.loop-i.invariant)
    (bags_valid run c.args.key c.args.inputs (rows_alone c.args.input own) c.requires.ascending c.requires.key c.len.ensures.values
    (λ h j. alone_valid c.args.input own (rows_bag_valid run c.args.own.now.from c.args.own.now.end c.requires.bag h) j))

pub returns : goal.returns
returns c =
    let run = c.args.own.now.entries.now in
    let own = rows_at run c.args.own.now.from c.args.own.now.end in
    let all : c.loop-i.i ≡ c.args.inputs = let past = c.loop-i-test.false in let low = c.loop-i.auto.i-end in omega (arith, past, low) in
    row_ended c.args.built.now c.loop-i.built (bags_of c.args.inputs (first_key run c.args.key) (rows_alone c.args.input own)) c.requires.none_begun
    (subst (λ n. c.loop-i.built ≡ and_bytes (begun_code (bags_of n (first_key run c.args.key) (rows_alone c.args.input own))) c.args.built.now) all c.loop-i.invariant)
    c.end_fields.result c.end_fields.new.built
    (bags_valid run c.args.key c.args.inputs (rows_alone c.args.input own) c.requires.ascending c.requires.key c.len.ensures.values
    (λ h j. alone_valid c.args.input own (rows_bag_valid run c.args.own.now.from c.args.own.now.end c.requires.bag h) j)) c.end_fields.ensures
