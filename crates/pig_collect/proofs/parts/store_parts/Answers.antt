use Rattle.std.proofs.Common.{rules, ◌≡◌, ◌++◌, ◌∷◌, ◌∙◌, [], ap, length, map, sym}
use Rattle.std.proofs.lemmas.List.{length-map}
use Rattle.std.proofs.lemmas.Result.{IfOk-weaker}
use Rattle.pig_physical.specs.Handed.{out_of, outs_of}
use Rattle.pig_physical.specs.Running.{store_wave}
use Rattle.pig_physical.specs.Seen.{staged}
use Rattle.pig_physical.specs.Stages.{stores, tasks_in}
use Rattle.pig_collect.specs.Collecting.{part_count, parts_given}
use Rattle.pig_collect.specs.Turns.{in_turn}
use Rattle.pig_collect.proofs.Heading.{as_many_stores, no_stores}
use Rattle.pig_collect.proofs.Owned.{last_outs, parts_are, sizes_of}
use Rattle.pig_collect.proofs.parts.store_parts.Goals as goal

pub parts_in_turn-requires-clause-count : goal.parts_in_turn-requires-clause-count
parts_in_turn-requires-clause-count c =
    let s = staged c.args.stages.now in
    let cut : c.args.outs ≡ c.pop.new.self ++ c.in-Some.last ∷ [] = search rules in
    sym (length-map c.in-Some.last out_of) ∙ sym (ap length (last_outs s c.args.outs c.pop.new.self c.in-Some.last cut c.requires.waves)) ∙ c.requires.counts

pub parts_in_turn-requires-clause-same : goal.parts_in_turn-requires-clause-same
parts_in_turn-requires-clause-same c =
    ap length (c.as_slice.ensures.value ∙ c.in_ok-numbers.ensures ∙ ap stores c.plan.ensures) ∙ sym (as_many_stores (staged c.args.stages.now).plan) ∙ sym (ap length c.requires.stores)

pub returns-in-Some-clause-parts : goal.returns-in-Some-clause-parts
returns-in-Some-clause-parts c =
    let s = staged c.args.stages.now in
    let tasks = tasks_in s (store_wave s.plan) in
    let cut : c.args.outs ≡ c.pop.new.self ++ c.in-Some.last ∷ [] = search rules in
    let are : c.as_slice.result.now ≡ stores (staged c.args.stages.now).plan = c.as_slice.ensures.value ∙ c.in_ok-numbers.ensures ∙ ap stores c.plan.ensures in
    IfOk-weaker c.parts_in_turn.result (λ parts. map (λ part. part.parts) parts ≡ in_turn c.as_slice.result.now tasks (map out_of c.in-Some.last))
    (λ parts. map (λ part. part.parts) parts ≡ map (parts_given s (outs_of c.args.outs)) (stores s.plan))
    (λ parts is. (parts_are s c.args.outs c.pop.new.self c.in-Some.last c.as_slice.result.now (map (λ part. part.parts) parts) cut c.requires.waves are c.requires.counts is).0)
    c.parts_in_turn.ensures.parts

pub returns-in-Some-clause-counts : goal.returns-in-Some-clause-counts
returns-in-Some-clause-counts c =
    let s = staged c.args.stages.now in
    let tasks = tasks_in s (store_wave s.plan) in
    let cut : c.args.outs ≡ c.pop.new.self ++ c.in-Some.last ∷ [] = search rules in
    let are : c.as_slice.result.now ≡ stores (staged c.args.stages.now).plan = c.as_slice.ensures.value ∙ c.in_ok-numbers.ensures ∙ ap stores c.plan.ensures in
    IfOk-weaker c.parts_in_turn.result (λ parts. map (λ part. part.parts) parts ≡ in_turn c.as_slice.result.now tasks (map out_of c.in-Some.last))
    (λ parts. map (λ part. length part.parts) parts ≡ map (part_count s) (stores s.plan))
    (λ parts is. sizes_of parts
    ∙ (parts_are s c.args.outs c.pop.new.self c.in-Some.last c.as_slice.result.now (map (λ part. part.parts) parts) cut c.requires.waves are c.requires.counts is).1)
    c.parts_in_turn.ensures.parts

pub returns-clause-statements : goal.returns-clause-statements
returns-clause-statements c =
    let empty : c.args.outs ≡ [] = search rules in
    let none = no_stores (staged c.args.stages.now).plan c.args.stores.now (sym c.requires.waves ∙ ap length empty) c.requires.stores in
    ap (map (λ part. part.statement)) c.new.ensures ∙ ap (map (λ store. store.statement)) (sym none)

pub returns-clause-dirs : goal.returns-clause-dirs
returns-clause-dirs c =
    let empty : c.args.outs ≡ [] = search rules in
    let none = no_stores (staged c.args.stages.now).plan c.args.stores.now (sym c.requires.waves ∙ ap length empty) c.requires.stores in
    ap (map (λ part. part.dir)) c.new.ensures ∙ ap (map (λ store. store.dir)) (sym none)
