use Rattle.std.proofs.Common.{rules, ◌≡◌, ◌≤◌, ◌<◌, ◌+◌, ◌++◌, ◌∷◌, [], OnErr, length, take, drop, arith}
use Rattle.std.specs.Option.{option_map}
use Rattle.std.proofs.lemmas.Result.{on_err_weaker, IfOk-from_err}
use Rattle.pig_outside.specs.Shelf.{LeftUnmarked, with_part}
use Rattle.pig_outside.specs.declared.failing.Method.TheVariants as method
use Rattle.pig_commit.specs.Calls.{call, put_calls}
use Rattle.pig_commit.proofs.Going.{may_put, none_put, one_made, put_more, put_until, stays_open, where_stopped}
use Rattle.pig_commit.proofs.commit.put_parts.Goals as goal

pub loop-number-init : goal.loop-number-init
loop-number-init g c = (
  omega (arith),
  omega (arith),
  none_put c.args.dir.now c.args.parts.now (g.D.Depot.shelf c.args.depot.now) (g.D.Depot.calls c.args.depot.now) c.requires.begun,
)

pub put-requires : goal.put-requires
put-requires g c s told =
    let within : c.loop-number.number < length c.args.parts.now = search rules in
    may_put c.args.dir.now c.args.parts.now c.loop-number.number c.index-parts-number.result c.index-parts-number.result (g.D.Depot.shelf c.args.depot.now) (g.D.Depot.shelf c.loop-number.depot)
    (g.D.Depot.shelf c.loop-number.depot) (g.D.Depot.calls c.args.depot.now) (g.D.Depot.calls c.loop-number.depot) (g.D.Depot.calls c.loop-number.depot) within c.index-parts-number.is c.loop-number.invariant.2 s told

pub returns-in_err-put-clause-opened : goal.returns-in_err-put-clause-opened
returns-in_err-put-clause-opened g c =
    let within : c.loop-number.number < length c.args.parts.now = search rules in
    let left : OnErr c.from_residual.result (LeftUnmarked c.args.dir.now (g.D.Depot.shelf c.loop-number.depot) (g.D.Depot.shelf c.put.new.self)) = search rules in
    on_err_weaker c.from_residual.result
    (stays_open c.args.dir.now c.args.parts.now c.loop-number.number c.index-parts-number.result c.index-parts-number.result (g.D.Depot.shelf c.args.depot.now) (g.D.Depot.shelf c.loop-number.depot)
    (g.D.Depot.shelf c.put.new.self) (g.D.Depot.calls c.args.depot.now) (g.D.Depot.calls c.loop-number.depot) (g.D.Depot.calls c.put.new.self) within c.index-parts-number.is c.loop-number.invariant.2) left

pub returns-in_err-put-clause-asked : goal.returns-in_err-put-clause-asked
returns-in_err-put-clause-asked g c =
    let within : c.loop-number.number < length c.args.parts.now = search rules in
    let until = put_until c.args.dir.now c.args.parts.now c.loop-number.number c.index-parts-number.result c.index-parts-number.result (g.D.Depot.shelf c.args.depot.now) (g.D.Depot.shelf c.loop-number.depot)
    (g.D.Depot.shelf c.put.new.self) (g.D.Depot.calls c.args.depot.now) (g.D.Depot.calls c.loop-number.depot) (g.D.Depot.calls c.put.new.self) within c.index-parts-number.is c.loop-number.invariant.2
    c.put.ensures.calls in
    record {
      made = put_calls c.args.dir.now (take c.loop-number.number c.args.parts.now) ++ call method.Put c.args.dir.now ∷ [];
      left = put_calls c.args.dir.now (drop (c.loop-number.number + 1) c.args.parts.now);
      asked = until.0;
      first = until.1;
      all = IfOk-from_err c.from_residual.result _ c.from_residual.ensures.0;
      some = where_stopped c.from_residual.result (one_made (put_calls c.args.dir.now (take c.loop-number.number c.args.parts.now)) (call method.Put c.args.dir.now) []);
    }

pub loop-number-preserved : goal.loop-number-preserved
loop-number-preserved g c =
    let within : c.loop-number.number < length c.args.parts.now = search rules in
    let later : g.D.Depot.faults c.args.depot.now ≤ g.D.Depot.faults c.put.new.self = search rules in
    let after : g.D.Depot.store_faults c.args.depot.now ≤ g.D.Depot.store_faults c.put.new.self = search rules in
    let put : g.D.Depot.shelf c.put.new.self ≡ option_map (with_part c.args.dir.now c.index-parts-number.result) (g.D.Depot.shelf c.loop-number.depot) = search rules in (
      later,
      after,
      put_more c.args.dir.now c.args.parts.now c.loop-number.number c.index-parts-number.result c.index-parts-number.result (g.D.Depot.shelf c.args.depot.now) (g.D.Depot.shelf c.loop-number.depot)
          (g.D.Depot.shelf c.put.new.self) (g.D.Depot.calls c.args.depot.now) (g.D.Depot.calls c.loop-number.depot) (g.D.Depot.calls c.put.new.self) within c.index-parts-number.is
          c.loop-number.invariant.2 put c.put.ensures.calls,
    )
