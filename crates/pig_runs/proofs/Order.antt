-- The order of entries is total and tells them apart, and their bytes stand in it.
use Rattle.std.proofs.Common.{◌≡◌, ℕ, List, map, sym, ◌∙◌}
use Rattle.std.specs.Cmp.{IsTotalOrder}
use Rattle.std.specs.Ordering.{ordering_then, nat_cmp}
use Rattle.std.specs.declared.cmp.Ordering.TheVariants.{Equal}
use Rattle.std.proofs.lemmas.Cmp.{ranked, nat_cmp_total, lists_total, then_total, on_total}
use Rattle.pig_value.specs.Gathering.{Entry}
use Rattle.pig_value.specs.Trees.{Tree, v_tuple, fields_of}
use Rattle.pig_value.specs.Orders.{text_cmp, row_cmp}
use Rattle.pig_value.specs.Sorts.{sort}
use Rattle.pig_value.specs.Valid.{IsRow}
use Rattle.pig_value.specs.declared.operators.Dir.{Dir}
use Rattle.pig_value.proofs.OrderLaws.{row_total, row_same, fields_are}
use Rattle.pig_value.proofs.list_laws.Bags.{sort_map_where}
use Rattle.pig_keycode.specs.Keys.{key_cmp}
use Rattle.pig_keycode.specs.Reading.{row_code}
use Rattle.pig_keycode.proofs.KeyOrder.{key_total, key_same, whole_key_order}
use Rattle.pig_keycode.proofs.Turned.{whole_order}
use Rattle.pig_keycode.proofs.Unique.{both_equal, same_bytes}
use Rattle.pig_runs.specs.Entries.{IsEntry, AreKeyed, run_cmp}
use Rattle.pig_runs.specs.Packed.{Packed, packed, packed_cmp}

texts_total : IsTotalOrder text_cmp
texts_total = lists_total nat_cmp_total

same_number : (x y : ℕ) → nat_cmp x y ≡ Equal → x ≡ y
same_number x y h = ranked x y Equal (sym h)

pub packed_total : IsTotalOrder packed_cmp
packed_total = then_total (on_total (λ p. p.key) texts_total) (then_total (on_total (λ p. p.input) nat_cmp_total) (on_total (λ p. p.row) texts_total))

pub packed_same : (p q : Packed) → packed_cmp p q ≡ Equal → p ≡ q
packed_same p q h =
    let keys = both_equal (text_cmp p.key q.key) (ordering_then (nat_cmp p.input q.input) (text_cmp p.row q.row)) h in
    let rest = both_equal (nat_cmp p.input q.input) (text_cmp p.row q.row) keys.1 in
    let key : p.key ≡ q.key = same_bytes p.key q.key keys.0 in
    let input : p.input ≡ q.input = same_number p.input q.input rest.0 in
    let row : p.row ≡ q.row = same_bytes p.row q.row rest.1 in
    λ i. record { key = key i; input = input i; row = row i }

pub run_total : (ds : List Dir) → IsTotalOrder (run_cmp ds)
run_total ds = then_total (on_total (λ e. e.key) (key_total ds)) (then_total (on_total (λ e. e.input) nat_cmp_total) (on_total (λ e. e.row) row_total))

pub run_same : (ds : List Dir) (e f : Entry) → run_cmp ds e f ≡ Equal → e ≡ f
run_same ds e f h =
    let keys = both_equal (key_cmp ds e.key f.key) (ordering_then (nat_cmp e.input f.input) (row_cmp e.row f.row)) h in
    let rest = both_equal (nat_cmp e.input f.input) (row_cmp e.row f.row) keys.1 in
    let key : e.key ≡ f.key = key_same ds e.key f.key keys.0 in
    let input : e.input ≡ f.input = same_number e.input f.input rest.0 in
    let row : e.row ≡ f.row = row_same e.row f.row rest.1 in
    λ i. record { key = key i; input = input i; row = row i }

row_order : (x y : List Tree) → IsRow x → IsRow y → text_cmp (row_code x) (row_code y) ≡ row_cmp x y
row_order x y h k = whole_order (v_tuple (fields_of x)) (v_tuple (fields_of y)) h k ∙ fields_are x y

pub entry_order : (ds : List Dir) (e f : Entry) → IsEntry ds e → IsEntry ds f → packed_cmp (packed ds e) (packed ds f) ≡ run_cmp ds e f
entry_order ds e f h k =
    let key = whole_key_order ds e.key f.key h.key k.key in
    let row = row_order e.row f.row h.row k.row in
    λ i. ordering_then (key i) (ordering_then (nat_cmp e.input f.input) (row i))

pub sorted_codes : (ds : List Dir) (es : List Entry) → AreKeyed ds es → sort packed_cmp (map (packed ds) es) ≡ map (packed ds) (sort (run_cmp ds) es)
sorted_codes ds es h = sort_map_where (run_cmp ds) packed_cmp (packed ds) (IsEntry ds) (entry_order ds) es h
