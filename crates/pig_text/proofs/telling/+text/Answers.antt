-- The texts of lists, and one more item in each loop.
use Rattle.std.proofs.Common.{◌≡◌, [], ◌∷◌, ◌++◌, ◌∙◌, ap, sym, subst, List, ℕ, map}
use Rattle.std.specs.List.{join_with_byte}
use Rattle.pig_value.specs.Texts.{text_of, tuple_text, bracketed}
use Rattle.pig_value.proofs.TreeLaws.{tree-Tuple, tree-Bag, tree-Listed, tree-Map, entry_is}
use Rattle.pig_value.specs.Trees.{tree, row_tree, rows_tree, entry_of}
use Rattle.pig_text.specs.Texts.{row_as_tuple, pair_text}
use Rattle.pig_text.proofs.Joined.{tells_next}
use Rattle.pig_text.proofs.TextLists.{texts_of_fields, texts_of_tuples, texts_of_entries}
use Rattle.pig_text.proofs.telling.+text.Goals as goal

pub tell_tuple-returns : goal.tell_tuple-returns
tell_tuple-returns g t c =
    let texts : List ℕ = join_with_byte 44 (map text_of (row_tree c.args.fields.now)) in
    g.met.S.TextSink.onwards c.args.sink.now c.put.new.self c.put-2.new.self (40 ∷ []) (texts ++ 41 ∷ []) c.put.ensures
    (g.met.S.TextSink.onwards c.put.new.self c.tell_fields.new.sink c.put-2.new.self texts (41 ∷ []) c.tell_fields.ensures c.put-2.ensures)

pub tell_bag-returns : goal.tell_bag-returns
tell_bag-returns g t c =
    let texts : List ℕ = join_with_byte 44 (map row_as_tuple (rows_tree c.args.rows.now)) in
    g.met.S.TextSink.onwards c.args.sink.now c.put.new.self c.put-2.new.self (123 ∷ []) (texts ++ 125 ∷ []) c.put.ensures
    (g.met.S.TextSink.onwards c.put.new.self c.tell_rows.new.sink c.put-2.new.self texts (125 ∷ []) c.tell_rows.ensures c.put-2.ensures)

pub tell_map-returns : goal.tell_map-returns
tell_map-returns g t c =
    let texts : List ℕ = join_with_byte 44 (map pair_text (map entry_of c.args.pairs.now)) in
    g.met.S.TextSink.onwards c.args.sink.now c.put.new.self c.put-2.new.self (91 ∷ []) (texts ++ 93 ∷ []) c.put.ensures
    (g.met.S.TextSink.onwards c.put.new.self c.tell_pairs.new.sink c.put-2.new.self texts (93 ∷ []) c.tell_pairs.ensures c.put-2.ensures)

pub tell_pair-returns : goal.tell_pair-returns
tell_pair-returns g t c =
    let after = g.S.TextSink.after in
    let pair = c.args.pair.now in
    let key : after c.args.sink.now pair.key c.put.new.self = subst (λ k. after c.args.sink.now k c.put.new.self) c.as_bytes.ensures.bytes c.put.ensures in
    subst (λ p. after c.args.sink.now (pair_text p) c.tell_value.new.sink) (sym (entry_is pair))
    (g.met.S.TextSink.onwards c.args.sink.now c.put.new.self c.tell_value.new.sink pair.key (35 ∷ text_of (tree pair.value)) key
    (g.met.S.TextSink.onwards c.put.new.self c.put-2.new.self c.tell_value.new.sink (35 ∷ []) (text_of (tree pair.value)) c.put-2.ensures c.tell_value.ensures))

pub tell_value-returns-in-Tuple : goal.tell_value-returns-in-Tuple
tell_value-returns-in-Tuple g t c =
    let vs = c.in-Tuple.fields in
    let same : text_of (tree c.args.value.now) ≡ tuple_text (map text_of (row_tree vs)) =
    ap (λ v. text_of (tree v)) c.in-Tuple.is ∙ (ap text_of (tree-Tuple vs) ∙ ap tuple_text (texts_of_fields (row_tree vs))) in
    subst (λ text. g.S.TextSink.after c.args.sink.now text c.tell_tuple.new.sink)
    (ap (λ us. tuple_text (map text_of (row_tree us))) c.as_slice-in-Tuple.ensures ∙ sym same) c.tell_tuple.ensures

pub tell_value-returns-in-Bag : goal.tell_value-returns-in-Bag
tell_value-returns-in-Bag g t c =
    let rs = c.in-Bag.rows in
    let same : text_of (tree c.args.value.now) ≡ bracketed 123 (map row_as_tuple (rows_tree rs)) 125 =
    ap (λ v. text_of (tree v)) c.in-Bag.is ∙ (ap text_of (tree-Bag rs) ∙ ap (λ l. bracketed 123 l 125) (texts_of_tuples (rows_tree rs))) in
    subst (λ text. g.S.TextSink.after c.args.sink.now text c.tell_bag.new.sink)
    (ap (λ us. bracketed 123 (map row_as_tuple (rows_tree us)) 125) c.as_slice-in-Bag.ensures ∙ sym same) c.tell_bag.ensures

pub tell_value-returns-in-Listed : goal.tell_value-returns-in-Listed
tell_value-returns-in-Listed g t c =
    let rs = c.in-Listed.rows in
    let same : text_of (tree c.args.value.now) ≡ bracketed 123 (map row_as_tuple (rows_tree rs)) 125 =
    ap (λ v. text_of (tree v)) c.in-Listed.is ∙ (ap text_of (tree-Listed rs) ∙ ap (λ l. bracketed 123 l 125) (texts_of_tuples (rows_tree rs))) in
    subst (λ text. g.S.TextSink.after c.args.sink.now text c.tell_bag-in-Listed.new.sink)
    (ap (λ us. bracketed 123 (map row_as_tuple (rows_tree us)) 125) c.as_slice-in-Listed.ensures ∙ sym same) c.tell_bag-in-Listed.ensures

pub tell_value-returns-in-Map : goal.tell_value-returns-in-Map
tell_value-returns-in-Map g t c =
    let ps = c.in-Map.pairs in
    let same : text_of (tree c.args.value.now) ≡ bracketed 91 (map pair_text (map entry_of ps)) 93 =
    ap (λ v. text_of (tree v)) c.in-Map.is ∙ (ap text_of (tree-Map ps) ∙ ap (λ l. bracketed 91 l 93) (texts_of_entries (map entry_of ps))) in
    subst (λ text. g.S.TextSink.after c.args.sink.now text c.tell_map.new.sink)
    (ap (λ us. bracketed 91 (map pair_text (map entry_of us)) 93) c.as_slice-in-Map.ensures ∙ sym same) c.tell_map.ensures

pub tell_fields-loop-i-preserved : goal.tell_fields-loop-i-preserved
tell_fields-loop-i-preserved g t c =
    tells_next g.S.TextSink.after g.met.S.TextSink.onwards text_of tree c.args.separator c.args.fields.now c.loop-i.i c.index-fields-i.result
    c.args.sink.now c.loop-i.sink c.start_item.new.sink c.tell_value.new.sink
    c.loop-i-test.true c.index-fields-i.is c.loop-i.invariant c.start_item.ensures c.tell_value.ensures

pub tell_rows-loop-i-preserved : goal.tell_rows-loop-i-preserved
tell_rows-loop-i-preserved g t c =
    let after = g.S.TextSink.after in
    let told : after c.start_item.new.sink (row_as_tuple (row_tree c.index-rows-i.result)) c.tell_tuple.new.sink =
    subst (λ vs. after c.start_item.new.sink (row_as_tuple (row_tree vs)) c.tell_tuple.new.sink) c.as_slice.ensures c.tell_tuple.ensures in
    tells_next g.S.TextSink.after g.met.S.TextSink.onwards row_as_tuple row_tree 44 c.args.rows.now c.loop-i.i c.index-rows-i.result
    c.args.sink.now c.loop-i.sink c.start_item.new.sink c.tell_tuple.new.sink
    c.loop-i-test.true c.index-rows-i.is c.loop-i.invariant c.start_item.ensures told

pub tell_pairs-loop-i-preserved : goal.tell_pairs-loop-i-preserved
tell_pairs-loop-i-preserved g t c =
    tells_next g.S.TextSink.after g.met.S.TextSink.onwards pair_text entry_of 44 c.args.pairs.now c.loop-i.i c.index-pairs-i.result
    c.args.sink.now c.loop-i.sink c.start_item.new.sink c.tell_pair.new.sink
    c.loop-i-test.true c.index-pairs-i.is c.loop-i.invariant c.start_item.ensures c.tell_pair.ensures
