use Rattle.std.proofs.Common.{rules, ◌≡◌, ◌≤◌, ◌+◌, true, [], ◌∷◌, ◌++◌, length, map, sym, ap, ◌∙◌, subst, arith}
use Rattle.std.specs.declared.result.Result.TheVariants.{Err}
use Rattle.std.proofs.lemmas.List.{map-append}
use Rattle.pig_value.specs.Trees.{tree, row_tree, rows_tree, entry_of}
use Rattle.pig_value.proofs.TreeLaws.{tree-Bag, tree-Map, entry_is}
use Rattle.pig_value.specs.Orders.{row_cmp}
use Rattle.pig_value.specs.Sorts.{Ascends}
use Rattle.pig_value.specs.Valid.{TextsAscend}
use Rattle.pig_keycode.specs.Codes.{code}
use Rattle.pig_value.specs.Valid.{IsValue}
use Rattle.pig_keycode.specs.Reading.{StandsFirst, mark_code, AnyMark, row_code, fields_part, rows_part, pair_code, IsCodedPair, pairs_part, AreCodedPairs, pair_keys}
use Rattle.pig_value.specs.Valid.{IsRow, AreRows}
use Rattle.pig_keycode.proofs.Forms.{not_longer, one_shorter, fields_end, fields_off, fields_item_off, none_tuple, row_told, rows_end, rows_off, rows_item_off, stands_bag, none_bag, none_listed, off_bag, pairs_end, pairs_off, pairs_item_off, stands_map, none_map, off_map, stands_pair, none_after, pair_told}
use Rattle.pig_keycode.proofs.Unique.{code_told}
use Rattle.pig_keycode.proofs.Passing.{passes_on}
use Rattle.pig_keycode.proofs.Sequences.{ListGoes, list_goes_on}
use Rattle.pig_keycode.proofs.decoding.+read.Goals as goal

pub read_tuple_value-returns-in_err-fields : goal.read_tuple_value-returns-in_err-fields
read_tuple_value-returns-in_err-fields t c =
    let is : c.from_residual.result ≡ Err c.in_err-fields.field-0.0 = search rules in
    passes_on tree code IsValue row_tree fields_part IsRow (6 ∷ c.args.content.now) c.args.content.now c.in_err-fields.field-0.0 c.from_residual.result is c.in_err-fields.ensures (none_tuple c.args.content.now)

pub read_bag_value-returns-in_err-rows : goal.read_bag_value-returns-in_err-rows
read_bag_value-returns-in_err-rows t c =
    let is : c.from_residual.result ≡ Err c.in_err-rows.field-0.0 = search rules in
    passes_on tree code IsValue rows_tree rows_part AreRows (7 ∷ c.args.content.now) c.args.content.now c.in_err-rows.field-0.0 c.from_residual.result is c.in_err-rows.ensures (none_bag c.args.content.now)

pub read_listed_value-returns-in_err-rows : goal.read_listed_value-returns-in_err-rows
read_listed_value-returns-in_err-rows t c =
    let is : c.from_residual.result ≡ Err c.in_err-rows.field-0.0 = search rules in
    passes_on tree code IsValue rows_tree rows_part AreRows (8 ∷ c.args.content.now) c.args.content.now c.in_err-rows.field-0.0 c.from_residual.result is c.in_err-rows.ensures (none_listed c.args.content.now)

pub read_map_value-returns-in_err-pairs : goal.read_map_value-returns-in_err-pairs
read_map_value-returns-in_err-pairs t c =
    let is : c.from_residual.result ≡ Err c.in_err-pairs.field-0.0 = search rules in
    passes_on tree code IsValue (map entry_of) pairs_part AreCodedPairs (9 ∷ c.args.content.now) c.args.content.now c.in_err-pairs.field-0.0 c.from_residual.result is c.in_err-pairs.ensures (none_map c.args.content.now)

pub read_fields-returns-in_err-more : goal.read_fields-returns-in_err-more
read_fields-returns-in_err-more t c =
    let is : c.from_residual.result ≡ Err c.in_err-more.field-0.0 = search rules in
    passes_on row_tree fields_part IsRow (λ b. b) mark_code AnyMark c.args.bytes.now c.loop-fields.rest.now c.in_err-more.field-0.0 c.from_residual.result is c.in_err-more.ensures (fields_off c.args.bytes.now c.loop-fields.rest.now (row_tree c.loop-fields.fields) c.loop-fields.invariant.0)

pub read_fields-returns-then-not-more : goal.read_fields-returns-then-not-more
read_fields-returns-then-not-more t c = fields_end c.args.bytes.now c.loop-fields.rest.now c.in_ok-more.item.now (row_tree c.loop-fields.fields) c.loop-fields.invariant.0 (subst (λ b. StandsFirst mark_code AnyMark c.loop-fields.rest.now b c.in_ok-more.item.now) c.if-not-more.true c.in_ok-more.ensures)

pub read_fields-returns-in_err-value : goal.read_fields-returns-in_err-value
read_fields-returns-in_err-value t c =
    let is : c.from_residual-in_err-value.result ≡ Err c.in_err-value.field-0.0 = search rules in
    passes_on row_tree fields_part IsRow tree code IsValue c.args.bytes.now c.in_ok-more.item.now c.in_err-value.field-0.0 c.from_residual-in_err-value.result is c.in_err-value.ensures (fields_item_off c.args.bytes.now c.loop-fields.rest.now c.in_ok-more.item.now (row_tree c.loop-fields.fields) c.loop-fields.invariant.0 (subst (λ b. StandsFirst mark_code AnyMark c.loop-fields.rest.now b c.in_ok-more.item.now) c.if-not-more.false c.in_ok-more.ensures))

pub read_fields-loop-fields-preserved : goal.read_fields-loop-fields-preserved
read_fields-loop-fields-preserved t c =
    let after = c.in_ok-value.after.now in
    let marked : StandsFirst mark_code AnyMark c.loop-fields.rest.now true c.in_ok-more.item.now = (subst (λ b. StandsFirst mark_code AnyMark c.loop-fields.rest.now b c.in_ok-more.item.now) c.if-not-more.false c.in_ok-more.ensures) in
    let grown : row_tree c.push.new.self ≡ row_tree c.loop-fields.fields ++ tree c.in_ok-value.value ∷ [] = ap row_tree c.in_ok-push.ensures.ok ∙ map-append tree c.loop-fields.fields (c.in_ok-value.value ∷ []) in
    let shorter : length c.loop-fields.rest.now ≡ length c.in_ok-more.item.now + 1 = one_shorter c.loop-fields.rest.now true c.in_ok-more.item.now marked in
    let not_more : length after ≤ length c.in_ok-more.item.now = not_longer code IsValue c.in_ok-more.item.now (tree c.in_ok-value.value) after c.in_ok-value.ensures in
    let within : length c.loop-fields.rest.now ≤ length c.args.bytes.now = c.loop-fields.invariant.1 in
    (subst (λ l. ListGoes code IsValue c.args.bytes.now after l) (sym grown) (list_goes_on code IsValue code_told c.args.bytes.now c.loop-fields.rest.now c.in_ok-more.item.now after (row_tree c.loop-fields.fields) (tree c.in_ok-value.value) c.loop-fields.invariant.0 marked c.in_ok-value.ensures), omega (arith, shorter, not_more, within))

pub read_rows-returns-in_err-more : goal.read_rows-returns-in_err-more
read_rows-returns-in_err-more t c =
    let is : c.from_residual.result ≡ Err c.in_err-more.field-0.0 = search rules in
    passes_on rows_tree rows_part AreRows (λ b. b) mark_code AnyMark c.args.bytes.now c.loop-rows.rest.now c.in_err-more.field-0.0 c.from_residual.result is c.in_err-more.ensures (rows_off c.args.bytes.now c.loop-rows.rest.now (rows_tree c.loop-rows.rows) c.loop-rows.invariant.0)

pub read_rows-returns-then-not-more : goal.read_rows-returns-then-not-more
read_rows-returns-then-not-more t c = rows_end c.args.bytes.now c.loop-rows.rest.now c.in_ok-more.item.now (rows_tree c.loop-rows.rows) c.loop-rows.invariant.0 (subst (λ b. StandsFirst mark_code AnyMark c.loop-rows.rest.now b c.in_ok-more.item.now) c.if-not-more.true c.in_ok-more.ensures)

pub read_rows-returns-in_err-row : goal.read_rows-returns-in_err-row
read_rows-returns-in_err-row t c =
    let is : c.from_residual-in_err-row.result ≡ Err c.in_err-row.field-0.0 = search rules in
    passes_on rows_tree rows_part AreRows row_tree row_code IsRow c.args.bytes.now c.in_ok-more.item.now c.in_err-row.field-0.0 c.from_residual-in_err-row.result is c.in_err-row.ensures (rows_item_off c.args.bytes.now c.loop-rows.rest.now c.in_ok-more.item.now (rows_tree c.loop-rows.rows) c.loop-rows.invariant.0 (subst (λ b. StandsFirst mark_code AnyMark c.loop-rows.rest.now b c.in_ok-more.item.now) c.if-not-more.false c.in_ok-more.ensures))

pub read_rows-loop-rows-preserved : goal.read_rows-loop-rows-preserved
read_rows-loop-rows-preserved t c =
    let after = c.in_ok-row.after.now in
    let marked : StandsFirst mark_code AnyMark c.loop-rows.rest.now true c.in_ok-more.item.now = (subst (λ b. StandsFirst mark_code AnyMark c.loop-rows.rest.now b c.in_ok-more.item.now) c.if-not-more.false c.in_ok-more.ensures) in
    let grown : rows_tree c.push.new.self ≡ rows_tree c.loop-rows.rows ++ row_tree c.in_ok-row.row ∷ [] = ap rows_tree c.in_ok-push.ensures.ok ∙ map-append row_tree c.loop-rows.rows (c.in_ok-row.row ∷ []) in
    let shorter : length c.loop-rows.rest.now ≡ length c.in_ok-more.item.now + 1 = one_shorter c.loop-rows.rest.now true c.in_ok-more.item.now marked in
    let not_more : length after ≤ length c.in_ok-more.item.now = not_longer row_code IsRow c.in_ok-more.item.now (row_tree c.in_ok-row.row) after c.in_ok-row.ensures in
    let within : length c.loop-rows.rest.now ≤ length c.args.bytes.now = c.loop-rows.invariant.1 in
    (subst (λ l. ListGoes row_code IsRow c.args.bytes.now after l) (sym grown) (list_goes_on row_code IsRow row_told c.args.bytes.now c.loop-rows.rest.now c.in_ok-more.item.now after (rows_tree c.loop-rows.rows) (row_tree c.in_ok-row.row) c.loop-rows.invariant.0 marked c.in_ok-row.ensures), omega (arith, shorter, not_more, within))

pub read_pairs-returns-in_err-more : goal.read_pairs-returns-in_err-more
read_pairs-returns-in_err-more t c =
    let is : c.from_residual.result ≡ Err c.in_err-more.field-0.0 = search rules in
    passes_on (map entry_of) pairs_part AreCodedPairs (λ b. b) mark_code AnyMark c.args.bytes.now c.loop-pairs.rest.now c.in_err-more.field-0.0 c.from_residual.result is c.in_err-more.ensures (pairs_off c.args.bytes.now c.loop-pairs.rest.now ((map entry_of) c.loop-pairs.pairs) c.loop-pairs.invariant.0)

pub read_pairs-returns-then-not-more : goal.read_pairs-returns-then-not-more
read_pairs-returns-then-not-more t c = pairs_end c.args.bytes.now c.loop-pairs.rest.now c.in_ok-more.item.now ((map entry_of) c.loop-pairs.pairs) c.loop-pairs.invariant.0 (subst (λ b. StandsFirst mark_code AnyMark c.loop-pairs.rest.now b c.in_ok-more.item.now) c.if-not-more.true c.in_ok-more.ensures)

pub read_pairs-returns-in_err-pair : goal.read_pairs-returns-in_err-pair
read_pairs-returns-in_err-pair t c =
    let is : c.from_residual-in_err-pair.result ≡ Err c.in_err-pair.field-0.0 = search rules in
    passes_on (map entry_of) pairs_part AreCodedPairs entry_of pair_code IsCodedPair c.args.bytes.now c.in_ok-more.item.now c.in_err-pair.field-0.0 c.from_residual-in_err-pair.result is c.in_err-pair.ensures (pairs_item_off c.args.bytes.now c.loop-pairs.rest.now c.in_ok-more.item.now ((map entry_of) c.loop-pairs.pairs) c.loop-pairs.invariant.0 (subst (λ b. StandsFirst mark_code AnyMark c.loop-pairs.rest.now b c.in_ok-more.item.now) c.if-not-more.false c.in_ok-more.ensures))

pub read_pairs-loop-pairs-preserved : goal.read_pairs-loop-pairs-preserved
read_pairs-loop-pairs-preserved t c =
    let after = c.in_ok-pair.after.now in
    let marked : StandsFirst mark_code AnyMark c.loop-pairs.rest.now true c.in_ok-more.item.now = (subst (λ b. StandsFirst mark_code AnyMark c.loop-pairs.rest.now b c.in_ok-more.item.now) c.if-not-more.false c.in_ok-more.ensures) in
    let grown : (map entry_of) c.push.new.self ≡ (map entry_of) c.loop-pairs.pairs ++ entry_of c.in_ok-pair.pair ∷ [] = ap (map entry_of) c.in_ok-push.ensures.ok ∙ map-append entry_of c.loop-pairs.pairs (c.in_ok-pair.pair ∷ []) in
    let shorter : length c.loop-pairs.rest.now ≡ length c.in_ok-more.item.now + 1 = one_shorter c.loop-pairs.rest.now true c.in_ok-more.item.now marked in
    let not_more : length after ≤ length c.in_ok-more.item.now = not_longer pair_code IsCodedPair c.in_ok-more.item.now (entry_of c.in_ok-pair.pair) after c.in_ok-pair.ensures in
    let within : length c.loop-pairs.rest.now ≤ length c.args.bytes.now = c.loop-pairs.invariant.1 in
    (subst (λ l. ListGoes pair_code IsCodedPair c.args.bytes.now after l) (sym grown) (list_goes_on pair_code IsCodedPair pair_told c.args.bytes.now c.loop-pairs.rest.now c.in_ok-more.item.now after ((map entry_of) c.loop-pairs.pairs) (entry_of c.in_ok-pair.pair) c.loop-pairs.invariant.0 marked c.in_ok-pair.ensures), omega (arith, shorter, not_more, within))

pub read_bag_value-returns-then-is_bag : goal.read_bag_value-returns-then-is_bag
read_bag_value-returns-then-is_bag t c =
    let rises : Ascends row_cmp (rows_tree c.in_ok-rows.rows) = search rules in
    subst (λ v. StandsFirst code IsValue (7 ∷ c.args.content.now) v c.in_ok-rows.rest.now) (sym (tree-Bag c.in_ok-rows.rows)) (stands_bag c.args.content.now (rows_tree c.in_ok-rows.rows) c.in_ok-rows.rest.now rises c.in_ok-rows.ensures)

pub read_bag_value-returns : goal.read_bag_value-returns
read_bag_value-returns t c =
    let unsorted : ¬ (Ascends row_cmp (rows_tree c.in_ok-rows.rows)) = search rules in
    off_bag c.args.content.now (rows_tree c.in_ok-rows.rows) c.in_ok-rows.rest.now unsorted c.in_ok-rows.ensures

pub read_map_value-returns-then-keys_ascend : goal.read_map_value-returns-then-keys_ascend
read_map_value-returns-then-keys_ascend t c =
    let rises : TextsAscend (pair_keys (map entry_of c.in_ok-pairs.pairs)) = search rules in
    subst (λ v. StandsFirst code IsValue (9 ∷ c.args.content.now) v c.in_ok-pairs.rest.now) (sym (tree-Map c.in_ok-pairs.pairs)) (stands_map c.args.content.now (map entry_of c.in_ok-pairs.pairs) c.in_ok-pairs.rest.now rises c.in_ok-pairs.ensures)

pub read_map_value-returns : goal.read_map_value-returns
read_map_value-returns t c =
    let mixed : ¬ (TextsAscend (pair_keys (map entry_of c.in_ok-pairs.pairs))) = search rules in
    off_map c.args.content.now (map entry_of c.in_ok-pairs.pairs) c.in_ok-pairs.rest.now mixed c.in_ok-pairs.ensures

pub read_pair-returns-in_err-value : goal.read_pair-returns-in_err-value
read_pair-returns-in_err-value t c =
    let is : c.from_residual-in_err-value.result ≡ Err c.in_err-value.field-0.0 = search rules in
    passes_on entry_of pair_code IsCodedPair tree code IsValue c.args.bytes.now c.in_ok-key.after.now c.in_err-value.field-0.0 c.from_residual-in_err-value.result is c.in_err-value.ensures (none_after c.args.bytes.now c.in_ok-key.after.now c.in_ok-key.key c.in_ok-key.ensures)

pub read_pair-returns : goal.read_pair-returns
read_pair-returns t c =
    subst (λ p. StandsFirst pair_code IsCodedPair c.args.bytes.now p c.in_ok-value.rest.now) (sym (entry_is (record { key = c.in_ok-key.key; value = c.in_ok-value.value })))
    (stands_pair c.args.bytes.now c.in_ok-key.after.now c.in_ok-value.rest.now c.in_ok-key.key (tree c.in_ok-value.value) c.in_ok-key.ensures c.in_ok-value.ensures)
