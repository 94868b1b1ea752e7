use Rattle.std.proofs.Common.{rules, ◌≡◌, ◌<◌, ◌-◌, ◌∙◌, List, map, length, sym, ap, subst, arith}
use Rattle.std.proofs.lemmas.List.{length-map}
use Rattle.pig_value.specs.Gathering.{Entry}
use Rattle.pig_value.specs.declared.operators.Dir.{Dir}
use Rattle.pig_value.specs.Sorts.{sort}
use Rattle.pig_runs.specs.Cutting.{dirs_of_all, picked}
use Rattle.pig_runs.specs.Entries.{and_entries, no_entries_in, entries_of_all, run_cmp}
use Rattle.pig_runs.specs.Packed.{Held, Stand, packed_lent}
use Rattle.pig_runs.proofs.Sliced.{held_stand, cut_ends, cut_all}
use Rattle.pig_runs.proofs.cutting.cuts_in_order.Goals as goal

pub returns-then-is_empty : goal.returns-then-is_empty
returns-then-is_empty c =
    let ds : List Dir = dirs_of_all c.args.runs.now in
    let es : List Entry = sort (run_cmp ds) (entries_of_all c.args.runs.now) in
    let built : c.new-built.result ≡ no_entries_in ds = c.new-built.ensures ∙ ap no_entries_in c.in_ok-dirs.ensures in
    let stands : Stand ds es (map packed_lent c.in_ok-order.order.items) = c.in_ok-order.ensures in
    let none : length c.in_ok-order.order.items ≡ 0 = search rules in
    cut_ends ds c.args.n es (map packed_lent c.in_ok-order.order.items) c.new-built.result built stands (length-map c.in_ok-order.order.items packed_lent ∙ none)

pub pick-requires-clause-held : goal.pick-requires-clause-held
pick-requires-clause-held c =
    let ds : List Dir = dirs_of_all c.args.runs.now in
    let es : List Entry = sort (run_cmp ds) (entries_of_all c.args.runs.now) in
    let built : c.new-built.result ≡ no_entries_in ds = c.new-built.ensures ∙ ap no_entries_in c.in_ok-dirs.ensures in
    let stands : Stand ds es (map packed_lent c.in_ok-order.order.items) = c.in_ok-order.ensures in
    subst (λ ls. ∥ Held c.new-built.result.dirs (map packed_lent ls) ∥₁) (sym c.as_slice.ensures.value)
    (subst (λ b. ∥ Held b.dirs (map packed_lent c.in_ok-order.order.items) ∥₁) (sym built) (held_stand ds es (map packed_lent c.in_ok-order.order.items) stands))

pub returns : goal.returns
returns c =
    let ds : List Dir = dirs_of_all c.args.runs.now in
    let es : List Entry = sort (run_cmp ds) (entries_of_all c.args.runs.now) in
    let built : c.new-built.result ≡ no_entries_in ds = c.new-built.ensures ∙ ap no_entries_in c.in_ok-dirs.ensures in
    let stands : Stand ds es (map packed_lent c.in_ok-order.order.items) = c.in_ok-order.ensures in
    let lent : Stand c.new-built.result.dirs es (map packed_lent c.as_slice.result.now) =
    subst (λ b. Stand b.dirs es (map packed_lent c.as_slice.result.now)) (sym built) (subst (λ ls. Stand ds es (map packed_lent ls)) (sym c.as_slice.ensures.value) stands)
    in
    let some : 0 < length c.in_ok-order.order.items = search rules in
    let size : length (map packed_lent c.in_ok-order.order.items) ≡ length c.in_ok-order.order.items = length-map c.in_ok-order.order.items packed_lent in
    let is : c.pick.new.points ≡ and_entries (picked c.args.n es (c.args.n - 1)) (no_entries_in ds) = c.in_ok-pick.ensures es lent ∙ ap (and_entries (picked c.args.n es (c.args.n - 1))) built in
    cut_all ds c.args.n es (map packed_lent c.in_ok-order.order.items) c.pick.new.points c.requires.some (omega (arith, some, size)) stands is
