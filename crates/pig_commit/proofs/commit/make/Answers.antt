use Rattle.std.proofs.Common.{rules, ◌≡◌, ◌++◌, ◌∷◌, [], OnOk, OnErr, refl, sym, ◌∙◌, ap, inr}
use Rattle.std.specs.Option.{option_map}
use Rattle.std.proofs.lemmas.List.{append-nil}
use Rattle.std.proofs.lemmas.Result.{on_err_weaker, on_ok_weaker, IfOk-from_err}
use Rattle.pig_outside.proofs.ShelfLaws.{can_finish}
use Rattle.pig_outside.specs.Shelf.{LeftUnmarked, open_state, with_dir, with_mark, with_new}
use Rattle.pig_outside.specs.declared.failing.Method.TheVariants as method
use Rattle.pig_commit.specs.Calls.{call, put_calls}
use Rattle.pig_commit.proofs.Going.{asked_then, calls_so_far, is_begun, marked_whole, none_left, one_made, opened_again, parts_put, where_stopped, whole_asked}
use Rattle.pig_commit.proofs.commit.make.Goals as goal

pub returns-in_err-create-clause-asked : goal.returns-in_err-create-clause-asked
returns-in_err-create-clause-asked g c = record {
  made = call method.Create c.args.dir.now ∷ [];
  left = put_calls c.args.dir.now c.args.parts.now ++ call method.Finish c.args.dir.now ∷ [];
  asked = c.create.ensures.calls;
  first = refl;
  all = IfOk-from_err c.from_residual.result _ c.from_residual.ensures.0;
  some = where_stopped c.from_residual.result (one_made [] (call method.Create c.args.dir.now) []);
}

pub put_parts-requires-clause-begun : goal.put_parts-requires-clause-begun
put_parts-requires-clause-begun g c =
    let created : g.D.Depot.shelf c.create.new.self ≡ option_map (with_new c.args.dir.now) (g.D.Depot.shelf c.args.depot.now) = search rules in
    is_begun c.args.dir.now (g.D.Depot.shelf c.args.depot.now) (g.D.Depot.shelf c.create.new.self) created

pub returns-in_err-put_parts-clause-opened : goal.returns-in_err-put_parts-clause-opened
returns-in_err-put_parts-clause-opened g c =
    let created : g.D.Depot.shelf c.create.new.self ≡ option_map (with_new c.args.dir.now) (g.D.Depot.shelf c.args.depot.now) = search rules in
    let left : OnErr c.from_residual-in_err-put_parts.result (LeftUnmarked c.args.dir.now (g.D.Depot.shelf c.create.new.self) (g.D.Depot.shelf c.put_parts.new.depot)) = search rules in
    on_err_weaker c.from_residual-in_err-put_parts.result
    (λ left. inr (opened_again c.args.dir.now [] (g.D.Depot.shelf c.args.depot.now) (g.D.Depot.shelf c.create.new.self) (g.D.Depot.shelf c.put_parts.new.depot) created left)) left

pub returns-in_err-put_parts-clause-asked : goal.returns-in_err-put_parts-clause-asked
returns-in_err-put_parts-clause-asked g c =
    let calls = g.D.Depot.calls in
    let asked = c.put_parts.ensures.asked in
    record {
      made = call method.Create c.args.dir.now ∷ asked.made;
      left = asked.left ++ call method.Finish c.args.dir.now ∷ [];
      asked = asked_then (call method.Create c.args.dir.now ∷ []) asked.made (calls c.args.depot.now) (calls c.create.new.self) (calls c.put_parts.new.depot) c.create.ensures.calls asked.asked;
      first = calls_so_far c.args.dir.now c.args.parts.now asked.made asked.left asked.first;
      all = IfOk-from_err c.from_residual-in_err-put_parts.result _ c.from_residual-in_err-put_parts.ensures.0;
      some = where_stopped c.from_residual-in_err-put_parts.result (one_made [] (call method.Create c.args.dir.now) asked.made);
    }

pub finish-requires : goal.finish-requires
finish-requires g c s told =
    let created : g.D.Depot.shelf c.create.new.self ≡ option_map (with_new c.args.dir.now) (g.D.Depot.shelf c.args.depot.now) = search rules in
    let put : g.D.Depot.shelf c.put_parts.new.depot ≡ option_map (with_dir c.args.dir.now (open_state c.args.parts.now)) (g.D.Depot.shelf c.create.new.self) = search rules in
    can_finish c.args.dir.now c.args.parts.now (g.D.Depot.shelf c.args.depot.now) s
    (sym (parts_put c.args.dir.now c.args.parts.now (g.D.Depot.shelf c.args.depot.now) (g.D.Depot.shelf c.create.new.self) (g.D.Depot.shelf c.put_parts.new.depot) created put) ∙ told)

pub returns-clause-stored : goal.returns-clause-stored
returns-clause-stored g c =
    let created : g.D.Depot.shelf c.create.new.self ≡ option_map (with_new c.args.dir.now) (g.D.Depot.shelf c.args.depot.now) = search rules in
    let put : g.D.Depot.shelf c.put_parts.new.depot ≡ option_map (with_dir c.args.dir.now (open_state c.args.parts.now)) (g.D.Depot.shelf c.create.new.self) = search rules in
    let marked : OnOk c.finish.result (g.D.Depot.shelf c.finish.new.self ≡ option_map (with_mark c.args.dir.now) (g.D.Depot.shelf c.put_parts.new.depot)) = search rules in
    on_ok_weaker c.finish.result
    (marked_whole c.args.dir.now c.args.parts.now (g.D.Depot.shelf c.args.depot.now) (g.D.Depot.shelf c.create.new.self) (g.D.Depot.shelf c.put_parts.new.depot) (g.D.Depot.shelf c.finish.new.self) created put)
    marked

pub returns-clause-opened : goal.returns-clause-opened
returns-clause-opened g c =
    let created : g.D.Depot.shelf c.create.new.self ≡ option_map (with_new c.args.dir.now) (g.D.Depot.shelf c.args.depot.now) = search rules in
    let put : g.D.Depot.shelf c.put_parts.new.depot ≡ option_map (with_dir c.args.dir.now (open_state c.args.parts.now)) (g.D.Depot.shelf c.create.new.self) = search rules in
    let left : OnErr c.finish.result (LeftUnmarked c.args.dir.now (g.D.Depot.shelf c.put_parts.new.depot) (g.D.Depot.shelf c.finish.new.self)) = search rules in
    on_err_weaker c.finish.result
    (λ left. inr (opened_again c.args.dir.now c.args.parts.now (g.D.Depot.shelf c.args.depot.now) (g.D.Depot.shelf c.put_parts.new.depot) (g.D.Depot.shelf c.finish.new.self)
    (parts_put c.args.dir.now c.args.parts.now (g.D.Depot.shelf c.args.depot.now) (g.D.Depot.shelf c.create.new.self) (g.D.Depot.shelf c.put_parts.new.depot) created put) left)) left

pub returns-clause-asked : goal.returns-clause-asked
returns-clause-asked g c =
    let calls = g.D.Depot.calls in
    let dir = c.args.dir.now in
    let asked = c.in_ok-put_parts.ensures.asked in
    record {
      made = call method.Create dir ∷ (put_calls dir c.args.parts.now ++ call method.Finish dir ∷ []);
      left = [];
      asked = whole_asked dir c.args.parts.now asked.made (calls c.args.depot.now) (calls c.create.new.self) (calls c.put_parts.new.depot) (calls c.finish.new.self)
          c.create.ensures.calls asked.asked (sym (ap (λ left. asked.made ++ left) asked.all ∙ append-nil asked.made) ∙ asked.first) c.finish.ensures.calls;
      first = append-nil (call method.Create dir ∷ (put_calls dir c.args.parts.now ++ call method.Finish dir ∷ []));
      all = none_left c.finish.result;
      some = where_stopped c.finish.result (one_made [] (call method.Create dir) (put_calls dir c.args.parts.now ++ call method.Finish dir ∷ []));
    }
