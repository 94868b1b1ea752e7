use Rattle.std.proofs.Common.{◌≡◌, [], map, ap, sym, ◌∙◌, rules}
use Rattle.std.proofs.lemmas.Option.{IfSome_then}
use Rattle.std.proofs.lemmas.Result.{MatchResult-weaker}
use Rattle.pig_typed.specs.Blocks.{item_lists}
use Rattle.pig_typed.specs.Products.{product}
use Rattle.pig_typed.specs.Typed.{block_typed, item_typed}
use Rattle.pig_map.proofs.Choices.{block_chosen}
use Rattle.pig_map.proofs.choosing.block_places.Goals as goal

pub returns : goal.returns
returns c =
    let block = block_typed c.args.block.now in
    let none : block.steps ≡ [] = search rules in
    let items : map item_typed c.items_of.result.now ≡ block.items = c.items_of.ensures in
    MatchResult-weaker c.item_places.result c.item_places.ensures
    (λ found some. IfSome_then found some (λ places is. block_chosen block places.items none
    (λ row locals. ap (λ l. product (map (λ item. item_lists item row locals) l)) (sym items) ∙ is row locals)))
    (λ e none. none)
