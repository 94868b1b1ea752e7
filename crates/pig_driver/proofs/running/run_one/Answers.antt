use Rattle.std.proofs.Common.{rules, ◌≡◌, ◌∙◌, ◌+◌, ◌++◌, ◌∷◌, [], ◌%◌, ◌^◌, map, sym, ap, subst}
use Rattle.std.specs.Option.{ForSome}
use Rattle.std.proofs.lemmas.List.{map-append}
use Rattle.pig_physical.specs.Handed.{out_of, outs_of}
use Rattle.pig_physical.specs.Seen.{staged}
use Rattle.pig_physical.specs.Stages.{tasks_in}
use Rattle.pig_work.specs.Working.{HasSources}
use Rattle.pig_driver.specs.Failing.{HaveWon}
use Rattle.pig_driver.specs.Going.{AreWon}
use Rattle.pig_driver.specs.Handing.{handed_in}
use Rattle.pig_driver.specs.Left.{AreLeft}
use Rattle.pig_driver.specs.Sorting.{AreBetween}
use Rattle.pig_driver.proofs.Counting.{handed_more}
use Rattle.pig_driver.proofs.Left.{left_pushed, named_left, right_whole}
use Rattle.pig_driver.proofs.Stepping.{all_hosts, are_right, goes_on, have_won_one, may_slice, one_won, told_sources}
use Rattle.pig_driver.proofs.running.run_one.Goals as goal

pub run_stage-ended-requires-clause-ready : goal.run_stage-ended-requires-clause-ready
run_stage-ended-requires-clause-ready g c κs within =
    let s = staged c.args.stages.now in
    let going = c.requires.run in
    record {
      within = c.requires.wave;
      named = λ place task at. named_left s going.whole (outs_of c.args.ran.now.outs) c.args.wave place task going.are at
          (c.waves_find_what_they_name.ensures s c.requires.valid going.whole c.args.wave place task going.run.standing c.requires.wave at);
    }

pub run_stage-ended-requires-clause-sources : goal.run_stage-ended-requires-clause-sources
run_stage-ended-requires-clause-sources g c κs within =
    let s = staged c.args.stages.now in
    all_hosts (λ told. ForSome told (HasSources s c.args.wave)) g.H.Host.inputs c.args.hosts.now
    (told_sources s c.requires.valid c.args.wave c.requires.wave (map g.H.Host.inputs c.args.hosts.now) c.requires.sizes)

pub between-requires-clause-directed : goal.between-requires-clause-directed
between-requires-clause-directed g c h =
    let s = staged c.args.stages.now in
    let tellings = map g.H.Host.inputs c.args.hosts.now in
    let going = c.requires.run in
    let left = outs_of c.args.ran.now.outs in
    may_slice s c.requires.valid tellings going.whole c.args.wave c.requires.wave going.run (map out_of c.in-Ok.ended.outs)
    (right_whole s tellings going.whole left c.args.wave (map out_of c.in-Ok.ended.outs) going.are (are_right s tellings left c.args.wave c.in-Ok.ended.outs c.in-Ok.ensures.outs)) c.requires.some h

pub returns-clause-run : goal.returns-clause-run
returns-clause-run g c =
    let s = staged c.args.stages.now in
    let tellings = map g.H.Host.inputs c.args.hosts.now in
    let left = outs_of c.args.ran.now.outs in
    let going = c.requires.run in
    let news = map out_of c.in_ok-found.found in
    let between : AreBetween (staged c.args.stages.now) c.args.wave (map out_of c.in-Ok.ended.outs) (map out_of c.in_ok-found.found) = search rules in
    let pushed : c.push-2.new.self ≡ c.args.ran.now.outs ++ c.in_ok-found.found ∷ [] = search rules in
    let handed : c.handed_in-handed.result ≡ handed_in (staged c.args.stages.now).plan (tasks_in (staged c.args.stages.now) c.args.wave) (map out_of c.in_ok-found.found) % 2 ^ 64 = search rules in
    record {
      whole = going.whole ++ news ∷ [];
      run = goes_on s c.requires.valid tellings going.whole c.args.wave c.requires.wave going.run (map out_of c.in-Ok.ended.outs)
          (right_whole s tellings going.whole left c.args.wave (map out_of c.in-Ok.ended.outs) going.are (are_right s tellings left c.args.wave c.in-Ok.ended.outs c.in-Ok.ensures.outs))
          c.requires.some c.run_laws.ensures.rising news between;
      are = subst (λ found. AreLeft s (going.whole ++ news ∷ []) found c.args.wave) (sym (ap outs_of pushed ∙ map-append (map out_of) c.args.ran.now.outs (c.in_ok-found.found ∷ [])))
          (left_pushed s going.whole left news c.args.wave going.are);
      count = handed_more s going.whole news c.args.wave c.args.ran.now.shuffled c.handed_in-handed.result going.run.size handed going.count;
    }

pub returns-clause-won : goal.returns-clause-won
returns-clause-won g c =
    let pushed : c.push.new.self ≡ c.args.ends.now ++ c.in-Ok.ended.end ∷ [] = search rules in
    subst (λ ends. AreWon (staged c.args.stages.now) ends (c.args.wave + 1)) (sym pushed)
    (one_won (staged c.args.stages.now) c.args.ends.now c.args.wave c.in-Ok.ended.end c.requires.won c.in-Ok.ensures.won)

pub returns-in_err-found-clause-failed : goal.returns-in_err-found-clause-failed
returns-in_err-found-clause-failed g c =
    let pushed : c.push.new.self ≡ c.args.ends.now ++ c.in-Ok.ended.end ∷ [] = search rules in
    let won : HaveWon (staged c.args.stages.now) c.push.new.self = have_won_one (staged c.args.stages.now) c.args.ends.now c.push.new.self c.args.wave c.in-Ok.ended.end
    c.requires.wave c.requires.won c.in-Ok.ensures.won pushed in
    search rules

pub returns-in_err-push-2-clause-failed : goal.returns-in_err-push-2-clause-failed
returns-in_err-push-2-clause-failed g c =
    let pushed : c.push.new.self ≡ c.args.ends.now ++ c.in-Ok.ended.end ∷ [] = search rules in
    let won : HaveWon (staged c.args.stages.now) c.push.new.self = have_won_one (staged c.args.stages.now) c.args.ends.now c.push.new.self c.args.wave c.in-Ok.ended.end
    c.requires.wave c.requires.won c.in-Ok.ensures.won pushed in
    search rules
