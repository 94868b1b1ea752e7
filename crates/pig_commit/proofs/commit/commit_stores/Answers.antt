use Rattle.std.proofs.Common.{rules, ◌≡◌, ◌≤◌, ◌<◌, ◌++◌, length, subst, sym, ap, ◌∙◌}
use Rattle.std.specs.List.{AllByRecursion, flat_map}
use Rattle.std.proofs.lemmas.Result.{IfOk-from_err}
use Rattle.std.proofs.lemmas.List.{append-nil}
use Rattle.pig_commit.specs.Calls.{Asked, store_calls}
use Rattle.pig_commit.specs.Committed.{HasFewParts}
use Rattle.pig_commit.proofs.Going.{asked_until, one_more, this_one, where_stopped}
use Rattle.pig_commit.proofs.commit.commit_stores.Goals as goal

pub returns-in_err-commit_store-clause-asked : goal.returns-in_err-commit_store-clause-asked
returns-in_err-commit_store-clause-asked g c =
    let stores = c.as_slice-stores.result.now in
    let same : stores ≡ c.args.stores.now = search rules in
    let within : c.loop-place.place < length stores = search rules in
    let asked = c.in_err-commit_store.ensures.asked in
    let until = asked_until stores c.loop-place.place c.index-stores-place.result c.index-stores-place.result (g.D.Depot.shelf c.args.depot.now) (g.D.Depot.shelf c.loop-place.depot)
    (g.D.Depot.shelf c.commit_store.new.depot) (g.D.Depot.calls c.args.depot.now) (g.D.Depot.calls c.loop-place.depot) (g.D.Depot.calls c.commit_store.new.depot) within c.index-stores-place.is
    c.loop-place.invariant.3 asked.made asked.left asked.asked asked.first asked.some in
    record {
      made = until.0;
      left = until.1;
      asked = until.2;
      first = until.3 ∙ ap (flat_map store_calls) same;
      all = IfOk-from_err c.from_residual.result _ c.from_residual.ensures.0;
      some = where_stopped c.from_residual.result until.4;
    }

pub loop-place-preserved : goal.loop-place-preserved
loop-place-preserved g c =
    let stores = c.as_slice-stores.result.now in
    let within : c.loop-place.place < length stores = search rules in
    let later : g.D.Depot.faults c.args.depot.now ≤ g.D.Depot.faults c.commit_store.new.depot = search rules in
    let after : g.D.Depot.store_faults c.args.depot.now ≤ g.D.Depot.store_faults c.commit_store.new.depot = search rules in
    let asked = c.in_ok-commit_store.ensures.asked in (
      later,
      after,
      (subst (AllByRecursion HasFewParts) (this_one stores c.loop-place.place c.index-stores-place.result c.index-stores-place.result within c.index-stores-place.is) c.loop-place.invariant.2).1,
      one_more stores c.loop-place.place c.index-stores-place.result c.index-stores-place.result (g.D.Depot.shelf c.args.depot.now) (g.D.Depot.shelf c.loop-place.depot)
          (g.D.Depot.shelf c.commit_store.new.depot) (g.D.Depot.calls c.args.depot.now) (g.D.Depot.calls c.loop-place.depot) (g.D.Depot.calls c.commit_store.new.depot) within c.index-stores-place.is
          c.loop-place.invariant.3 c.in_ok-commit_store.ensures.stored
          (subst (λ calls. Asked calls (g.D.Depot.calls c.loop-place.depot) (g.D.Depot.calls c.commit_store.new.depot)) (sym (append-nil asked.made) ∙ ap (λ left. asked.made ++ left) (sym asked.all) ∙ asked.first) asked.asked),
    )
