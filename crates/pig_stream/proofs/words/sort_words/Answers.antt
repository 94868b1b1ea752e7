use Rattle.std.proofs.Common.{rules}
use Rattle.std.specs.Ordering.{is_lt}
use Rattle.std.proofs.lemmas.Fn.{always_returns_same}
use Rattle.std.proofs.lemmas.List.Sorted.{ranks_by}
use Rattle.pig_value.specs.Orders.{row_cmp}
use Rattle.pig_value.proofs.OrderLaws.{row_total, row_same}
use Rattle.pig_value.proofs.list_laws.Bags.{bag_key}
use Rattle.pig_stream.specs.WordRows.{word_row}
use Rattle.pig_stream.proofs.words.sort_words.Goals as goal

pub returns : goal.returns
returns c =
    bag_key row_cmp row_total row_same (λ word. word_row word.now) c.args.words.now.items c.sort_unstable_by.new.self.items c.sort_unstable_by.ensures.permutation
    (c.sort_unstable_by.ensures.sorted (λ x y. is_lt (row_cmp (word_row x.now) (word_row y.now))) (ranks_by row_total (λ word. word_row word.now))
    (always_returns_same _ _ _ (λ a r f k. search rules)))
