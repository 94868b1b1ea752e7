use Rattle.std.proofs.Common.{◌≡◌, ◌++◌, ◌∙◌, ap, length, map, sym}
use Rattle.std.proofs.lemmas.List.{length-map}
use Rattle.pig_rank.specs.Ranks.{start_tree, summary_tree}
use Rattle.pig_rank.specs.Walks.{nothing, starts_on}
use Rattle.pig_rank.proofs.Steps.{starts_found, starts_size}
use Rattle.pig_rank.proofs.starting.find_starts.Goals as goal

pub returns : goal.returns
returns c =
    let all : map start_tree c.add_starts.new.starts ≡ starts_on c.args.keys.now nothing (map summary_tree c.args.parts.now) =
    c.in_ok-add_starts.ensures
    ∙ (λ i. map start_tree (c.in_ok-starts.ensures i) ++ starts_on c.args.keys.now (c.nothing.ensures i) (map summary_tree (c.as_slice.ensures i))) in
    record {
      size = sym (length-map c.add_starts.new.starts start_tree) ∙ ap length all ∙ starts_size c.args.keys.now nothing (map summary_tree c.args.parts.now) ∙ length-map c.args.parts.now summary_tree;
      starts = λ rows are. all ∙ starts_found c.args.keys.now rows c.args.parts.now are;
    }
