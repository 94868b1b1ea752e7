use Rattle.std.proofs.Common.{◌≡◌, List, map, sym, ◌∙◌, ap, subst, rules}
use Rattle.std.proofs.lemmas.List.Sorted.{ranks_by}
use Rattle.std.proofs.lemmas.Result.{IfOk-weaker}
use Rattle.std.specs.List.{AllByRecursion}
use Rattle.pig_value.specs.Sorts.{sort}
use Rattle.pig_runs.specs.declared.stretches.Head.{Head}
use Rattle.pig_runs.specs.Packed.{packed_cmp}
use Rattle.pig_runs.specs.Places.{found_head, found_in_all, found_place, fronted_head}
use Rattle.pig_runs.proofs.ByFronts.{before, fronted_entry_total}
use Rattle.pig_runs.proofs.KWay.{IsList, ShowsInOrder, came, in_turn, lists_sorted, own_sources, shown_is, shown_run}
use Rattle.pig_runs.proofs.Placing.{IsSeen, all_found, all_lists, head_order, places_found}
use Rattle.pig_runs.proofs.merged.merge_places.Goals as goal

pub returns : goal.returns
returns c =
    let stretches = c.args.stretches.now in
    let sound = c.requires.stretches in
    let Good = IsSeen stretches sound in
    let order = head_order stretches sound in
    let lists : List (List Head) = c.args.lists.items in
    let given = c.in_ok-merged.ensures.items in
    let ordered = c.in_ok-merged.ensures.in_order in
    let parts : AllByRecursion (IsList (fronted_head stretches) (found_head stretches) Good order) lists =
    subst (AllByRecursion (IsList (fronted_head stretches) (found_head stretches) Good order)) (sym c.requires.lists) (all_lists stretches sound)
    in
    let collected = shown_run (λ h. h.place) c.in_ok-merged.merged c.map.result c.collect_vec.result c.collect_vec.ensures.runs
    (λ p from. let q = c.map.ensures.runs p p.seen from in (q.0, q.1, q.2.0, q.2.3 (λ h. h.place) (λ x r f k. search rules))) in
    let all = shown_is (fronted_head stretches) (found_head stretches) Good order (λ h. h.place) _ c.in_ok-merged.merged c.collect_vec.result lists parts
    (given.3 lists (own_sources given.0.items lists (came given.0 c.into_iter.result lists given.1 given.2 c.into_iter.ensures.rest) (λ u j g. g)))
    (ordered.3 (before (fronted_head stretches) (found_head stretches) Good order) (λ x y r q k. search rules) (ranks_by fronted_entry_total (fronted_head stretches)) lists
    (own_sources ordered.0.items lists (came ordered.0 c.into_iter.result lists ordered.1 ordered.2 c.into_iter.ensures.rest) (λ u j g. g))
    (lists_sorted (fronted_head stretches) (found_head stretches) Good order lists parts))
    collected in
    IfOk-weaker c.collect_vec.result (ShowsInOrder (fronted_head stretches) (found_head stretches) Good order (λ h. h.place) lists)
    (λ v. map (found_place stretches) v.items ≡ sort packed_cmp (found_in_all stretches))
    (λ v is. ap (map (found_place stretches)) is.1
    ∙ (places_found stretches sound is.0 is.3
    ∙ (is.2 ∙ ap (sort packed_cmp) (ap (λ ls. map (found_head stretches) (in_turn ls)) c.requires.lists ∙ all_found stretches sound)))) all
