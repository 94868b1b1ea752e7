-- Statements are found where they stand.
use Rattle.std.proofs.Common.{◌≡◌, ℕ, zero, suc, ◌<◌, refl, ◌∙◌, ap, Bool, true, false, List, [], ◌∷◌, length, arith}
use Rattle.std.specs.Prelude.{Option, Some, None, if◌then◌else◌}
use Rattle.std.specs.Option.{option_map}
use Rattle.pig_syntax.specs.declared.tokens.Keyword.{Keyword}
use Rattle.pig_syntax.specs.declared.tokens.Keyword.TheVariants as k
use Rattle.pig_syntax.specs.declared.tokens.Symbol.TheVariants as s
use Rattle.pig_syntax.specs.declared.tokens.TokenForm.TheVariants as f
use Rattle.pig_syntax.specs.declared.trees.Branch.{Branch}
use Rattle.pig_syntax.specs.declared.trees.FieldRef.{FieldRef}
use Rattle.pig_syntax.specs.declared.trees.GroupInput.{GroupInput}
use Rattle.pig_syntax.specs.declared.trees.Op.{Op}
use Rattle.pig_syntax.specs.declared.trees.Op.TheVariants as op
use Rattle.pig_syntax.specs.declared.trees.Stmt.{Stmt}
use Rattle.pig_syntax.specs.declared.trees.Stmt.TheVariants as stmt
use Rattle.pig_exprs.specs.Grammar.{Forms, Listed, last, more, IsFieldRef}
use Rattle.pig_parser.specs.Statements.{IsIdent, ident, IsUsingText, no_text, using_text, IsParallel, no_par, par, IsItem, IsGroupInput, input_bare, input_inner, input_outer, IsJoinInput, IsSide, IsOnSchema, by_place, by_name, rollup_of, IsDense, not_dense, is_dense, is_group_word, IsOp, load, filter, foreach, foreach_block, group_all, group, join, union, distinct, order, limit, cube, rank, IsBranch, branch, IsOtherwise, no_otherwise, otherwise, IsMessage, no_message, with_message, is_unsupported_word, IsStatement, empty, assign, split, store, assertion, unsupported, unsupported_named}
use Rattle.pig_exprs.specs.Reader.{listed, comma_turn, after_symbol, after_word, part_turn, field_ref_at}
use Rattle.pig_parser.specs.StatementReader.{several, dir_at, ident_at, using_func_at, using_text_at, after_parallel, naming_at, item_at, step_turn, steps_at, inner_at, group_input_at, join_input_at, after_outer, side_at, on_schema_at, dense_at, load_at, filter_at, block_at, foreach_at, groups_at, group_at, join_at, union_at, distinct_at, order_at, limit_at, cube_at, rank_at, op_at, branch_with, branch_at, branch_turn, branches_at, otherwise_at, split_at, store_at, message_at, assert_at, is_unsupported, assign_at, front_at, ended, statement_at}
use Rattle.pig_exprs.proofs.Fits.{Fits}
use Rattle.pig_exprs.proofs.Finds.{Finds, Run, stops, goes, repeat_run, finds_more, finds_listed, listed_finds}
use Rattle.pig_exprs.proofs.NamesFound.{NameEnds, field_ref_found}
use Rattle.pig_exprs.proofs.TypesFound.{schema_found}
use Rattle.pig_exprs.proofs.Follow.{binds_ahead}
use Rattle.pig_exprs.proofs.ExprsFound.{expr_found}
use Rattle.pig_parser.proofs.PartsFound.{no_comma, order_keys_found, OrderMay, ident_found, using_func_found, using_text_found, count_found, ItemMay, item_found, block_found, GroupMay, group_input_found, join_input_found, side_found, side_fits, side_ahead}

-- ---- what may follow

-- items of an operator
items_found : {ts rest : Forms} {items : List _} → Listed IsItem ts items rest → (d most : ℕ) → Fits ts d → d < most → ItemMay most rest → after_symbol s.Comma rest ≡ None → Finds (listed (item_at most)) ts items rest d
unfolding naming_at after_symbol
items_found list d most fits low may ends =
    finds_listed (listed_finds list (item_at most) d (ItemMay most) (λ ts rest i is room may. item_found is d most room low may) (λ v. record { loose = omega arith; naming = refl; bare = refl }) fits may (no_comma (item_at most) _ ends))

-- what stands behind the inputs of GROUP and JOIN
record EndMay (ts : Forms) : Type 0 where
  loose : binds_ahead ts < 1
  inner : inner_at ts ≡ Some (false, ts)
  alone : after_symbol s.Comma ts ≡ None

parallel_may : {ts : Forms} → IsParallel ts [] → EndMay ts
unfolding inner_at after_symbol
parallel_may no_par = record { loose = omega arith; inner = refl; alone = refl }
parallel_may par = record { loose = omega arith; inner = refl; alone = refl }

using_may : {ts mid : Forms} {using_ : Option (List ℕ)} → IsUsingText ts using_ mid → IsParallel mid [] → EndMay ts
unfolding inner_at after_symbol
using_may no_text p = parallel_may p
using_may using_text p = record { loose = omega arith; inner = refl; alone = refl }

using_ends : {ts : Forms} → IsParallel ts [] → using_text_at ts ≡ Some (None, ts)
unfolding using_text_at
using_ends no_par = refl
using_ends par = refl

parallel_order : {ts : Forms} → IsParallel ts [] → OrderMay ts
unfolding part_turn dir_at
parallel_order no_par = record { name = refl; way = refl }
parallel_order par = record { name = refl; way = refl }

-- what stands behind the keys of RANK
record RankMay (ts : Forms) : Type 0 where
  order : OrderMay ts
  alone : after_symbol s.Comma ts ≡ None

dense_may : {ts : Forms} {dense : Bool} → IsDense ts dense [] → RankMay ts
unfolding part_turn dir_at after_symbol
dense_may not_dense = record { order = record { name = refl; way = refl }; alone = refl }
dense_may is_dense = record { order = record { name = refl; way = refl }; alone = refl }

dense_found : {ts : Forms} {dense : Bool} → IsDense ts dense [] → dense_at ts ≡ Some (dense, [])
unfolding dense_at
dense_found not_dense = refl
dense_found is_dense = refl

-- the end of an operator
all_of : {ts : Forms} → IsParallel ts [] → after_parallel ts ≡ []
unfolding after_parallel
all_of no_par = refl
all_of par = refl

-- ---- operators

group_word : (most : ℕ) (word : Keyword) (ts : Forms) → is_group_word word ≡ true → op_at most (f.Keyword word ∷ ts) ≡ group_at most ts
unfolding op_at
group_word most k.Group ts h = refl
group_word most k.Cogroup ts h = refl
group_word most word ts h = absurd (cc)

group_word_fits : (word : Keyword) (ts : Forms) (d : ℕ) → is_group_word word ≡ true → Fits (f.Keyword word ∷ ts) d → Fits ts d
unfolding Fits
group_word_fits k.Group ts d h fits = fits
group_word_fits k.Cogroup ts d h fits = fits
group_word_fits word ts d h fits = absurd (cc)

group_plain : {ts rest : Forms} {inputs : List GroupInput} (most : ℕ) → Listed IsGroupInput ts inputs rest → group_at most ts ≡ groups_at most ts
unfolding group_at
group_plain most (last (input_bare h)) = refl
group_plain most (last (input_inner h)) = refl
group_plain most (last (input_outer h)) = refl
group_plain most (more (input_bare h) later) = refl
group_plain most (more (input_inner h) later) = refl
group_plain most (more (input_outer h) later) = refl

groups_found : {ts mid behind : Forms} {inputs : List GroupInput} {using_ : Option (List ℕ)} → Listed IsGroupInput ts inputs mid → IsUsingText mid using_ behind → IsParallel behind []
    → (d most : ℕ) → Fits ts d → d < most → groups_at most ts ≡ Some (op.Group inputs using_, [])
unfolding groups_at inner_at
groups_found {mid = mid} list how p d most fits low =
    let may = using_may how p in
    let inputs = finds_listed (listed_finds list (group_input_at most) d GroupMay (λ ts rest g is room may. group_input_found is d most room low may) (λ v. record { loose = omega arith; inner = refl }) fits
    (record { loose = may.loose; inner = may.inner }) (no_comma (group_input_at most) mid may.alone)) in
    rw (inputs.finds, using_text_found how (using_ends p), all_of p) refl

join_found : {ts left right mid behind : Forms} {first : _} {others : List _} {x : _} {using_ : Option (List ℕ)} → IsJoinInput ts first left → IsSide left x (f.Symbol s.Comma ∷ right)
    → Listed IsJoinInput right others mid → IsUsingText mid using_ behind → IsParallel behind [] → (d most : ℕ) → Fits ts d → d < most → join_at most ts ≡ Some (op.Join (first ∷ others) x using_, [])
unfolding Fits join_at side_at after_outer after_symbol
join_found {right = right} {mid = mid} h which list how p d most fits low =
    let may = using_may how p in
    let first = join_input_found h d most fits low (side_ahead which (omega arith)) in
    let behind : Fits right d = side_fits which d first.fits in
    let others = finds_listed (listed_finds list (join_input_at most) d (λ v. binds_ahead v < 1) (λ ts rest j is room may. join_input_found is d most room low may) (λ v. omega arith) behind may.loose
    (no_comma (join_input_at most) mid may.alone)) in
    rw (first.finds, side_found which refl refl, others.finds, using_text_found how (using_ends p), all_of p) refl

-- with one in front of others there are two at least
several_listed : {A : Type 0} {rule : Forms → A → Forms → Type 0} {ts rest : Forms} {others : List A} (a : A) → Listed rule ts others rest → several (a ∷ others) ≡ Some (a ∷ others)
unfolding several
several_listed a (last h) = refl
several_listed a (more h later) = refl

on_schema_found : {ts : Forms} {onschema : Bool} {name : List ℕ} {rest : Forms} → IsOnSchema ts onschema (f.Ident name ∷ rest) → on_schema_at ts ≡ Some (onschema, f.Ident name ∷ rest)
unfolding on_schema_at
on_schema_found by_place = refl
on_schema_found by_name = refl

on_schema_fits : {ts rest : Forms} {onschema : Bool} → IsOnSchema ts onschema rest → (d : ℕ) → Fits ts d → Fits rest d
unfolding Fits
on_schema_fits by_place d fits = fits
on_schema_fits by_name d fits = fits

union_found : {ts mid : Forms} {onschema : Bool} {name : List ℕ} {others : List (List ℕ)} → IsOnSchema ts onschema (f.Ident name ∷ f.Symbol s.Comma ∷ mid) → Listed IsIdent mid others [] → (d : ℕ) → Fits ts d
    → union_at ts ≡ Some (op.Union onschema (name ∷ others), [])
unfolding Fits union_at after_symbol
union_found {mid = mid} {name = name} h list d fits =
    let behind = on_schema_fits h d fits in
    let first = ident_found (ident {ts = f.Symbol s.Comma ∷ mid} {name = name}) d behind in
    let others = listed_finds list ident_at d (λ v. Unit {0}) (λ ts rest n is room may. ident_found is d room) (λ v. tt) first.fits tt (no_comma ident_at [] refl) in
    let found = finds_listed (finds_more first others) in
    rw (on_schema_found h, found.finds, several_listed name list) refl

-- the word of a CUBE is no bracket
cube_word_fits : (word : Keyword) (rollup : Bool) (ts : Forms) (d : ℕ) → rollup_of word ≡ Some rollup → Fits (f.Keyword word ∷ ts) d → Fits ts d
unfolding Fits
cube_word_fits k.Cube rollup ts d h fits = fits
cube_word_fits k.Rollup rollup ts d h fits = fits
cube_word_fits word rollup ts d h fits = absurd (cc)

cube_found : {ts mid : Forms} {dims : List FieldRef} (word : Keyword) (rollup : Bool) (name : List ℕ) → rollup_of word ≡ Some rollup → Listed IsFieldRef ts dims (f.Symbol s.CloseParen ∷ mid) → IsParallel mid []
    → (d : ℕ) → Fits (f.Symbol s.OpenParen ∷ ts) d → cube_at (f.Ident name ∷ f.Keyword k.By ∷ f.Keyword word ∷ f.Symbol s.OpenParen ∷ ts) ≡ Some (op.Cube name rollup dims, [])
unfolding Fits cube_at after_symbol comma_turn part_turn
cube_found word rollup name is list p zero fits = absurd fits
cube_found word rollup name is list p (suc d) fits =
    let found = finds_listed (listed_finds list field_ref_at d NameEnds (λ ts rest r h room may. field_ref_found h d room may) (λ mid. refl) fits refl refl) in
    rw (is, found.finds, all_of p) refl

op_found : {ts : Forms} {o : Op} → IsOp ts o [] → (d most : ℕ) → Fits ts d → d < most → op_at most ts ≡ Some (o, [])
unfolding Fits op_at load_at filter_at block_at foreach_at group_at distinct_at order_at limit_at rank_at using_func_at after_symbol after_word steps_at step_turn naming_at
op_found (load using_ h) d most fits low =
    let func = using_func_found using_ d fits refl in
    let fields = schema_found h d most func.fits (omega (arith, low)) in
    rw (func.finds, fields.finds) refl
op_found (filter h) d most fits low = rw (expr_found h d most most fits low low (omega arith)).finds refl
op_found (foreach list) d most fits low = rw (items_found list d most fits low (record { loose = omega arith; naming = refl; bare = refl }) refl).finds refl
op_found (foreach_block steps list) zero most fits low = absurd fits
op_found (foreach_block {ts = ts} steps list) (suc d) most fits low =
    let less : d < most = omega (arith, low) in
    let made = block_found steps d most fits less refl in
    let items = items_found list d most made.fits less (record { loose = omega arith; naming = refl; bare = refl }) refl in
    rw (repeat_run made.run (length ts) [] (omega arith), items.finds) refl
op_found (group_all {ts = ts} {word = word} {name = name} is how p) d most fits low =
    group_word most word (f.Ident name ∷ f.Keyword k.All ∷ ts) is ∙ rw (using_text_found how (using_ends p), all_of p) refl
op_found (group {ts = ts} {word = word} is list how p) d most fits low =
    group_word most word ts is ∙ group_plain most list ∙ groups_found list how p d most (group_word_fits word ts d is fits) low
op_found (join h which list how p) d most fits low = join_found h which list how p d most fits low
op_found (union h list) d most fits low = union_found h list d fits
op_found (distinct p) d most fits low = rw (all_of p) refl
op_found (order o p) d most fits low =
    let may = parallel_may p in
    rw ((order_keys_found o d fits (parallel_order p) may.alone).finds, all_of p) refl
op_found (limit {t = t} {n = n} is) d most fits low = rw (count_found t [] n is) refl
op_found (cube {ts = ts} {word = word} {name = name} {rollup = rollup} is list p) d most fits low =
    cube_found word rollup name is list p d (cube_word_fits word rollup (f.Symbol s.OpenParen ∷ ts) d is fits)
op_found (rank o h) d most fits low =
    let may = dense_may h in
    rw ((order_keys_found o d fits may.order may.alone).finds, dense_found h) refl

-- ---- statements

branch_found : {ts rest : Forms} {b : Branch} → IsBranch ts b rest → (d most : ℕ) → Fits ts d → d < most → binds_ahead rest < 1 → Finds (branch_at most) ts b rest d
unfolding Fits branch_at branch_with
branch_found (branch h) d most fits low ends =
    let found = expr_found h d most most fits low low ends in
    record { finds = rw found.finds refl; fits = found.fits; shorter = omega (arith, found.shorter) }

-- a comma and a branch go on
branch_goes : {ts rest : Forms} {b : Branch} (most : ℕ) → IsBranch ts b rest → branch_turn most (f.Symbol s.Comma ∷ ts) ≡ option_map Some (branch_at most ts)
unfolding branch_turn branch_at
branch_goes most (branch h) = refl

branches_run : {ts rest : Forms} {bs : List Branch} → Listed IsBranch ts bs rest → (d most : ℕ) → Fits ts d → d < most → binds_ahead rest < 1 → branch_turn most rest ≡ Some None
    → Run (branch_turn most) (f.Symbol s.Comma ∷ ts) bs rest
unfolding Fits
branches_run (last h) d most fits low loose ends =
    let found = branch_found h d most fits low loose in
    goes (branch_goes most h ∙ rw found.finds refl) (omega (arith, found.shorter)) (stops ends)
branches_run (more h later) d most fits low loose ends =
    let found = branch_found h d most fits low (omega arith) in
    goes (branch_goes most h ∙ rw found.finds refl) (omega (arith, found.shorter)) (branches_run later d most found.fits low loose ends)

-- the first branch, and those behind it
branches_found : {ts rest : Forms} {bs : List Branch} → Listed IsBranch ts bs rest → (d most : ℕ) → Fits ts d → d < most → binds_ahead rest < 1 → branch_turn most rest ≡ Some None
    → branches_at most ts ≡ Some (bs, rest)
unfolding Fits branches_at
branches_found (last {rest = rest} {x = x} h) d most fits low loose ends =
    let found = branch_found h d most fits low loose in
    let end : Run (branch_turn most) rest [] rest = stops ends in
    rw (found.finds, repeat_run end (length rest) (x ∷ []) (omega arith)) refl
branches_found (more {mid = mid} {x = x} h later) d most fits low loose ends =
    let found = branch_found h d most fits low (omega arith) in
    rw (found.finds, repeat_run (branches_run later d most found.fits low loose ends) (suc (length mid)) (x ∷ []) (omega arith)) refl

otherwise_loose : {ts : Forms} {o : Option (List ℕ)} → IsOtherwise ts o [] → binds_ahead ts < 1
otherwise_loose no_otherwise = omega arith
otherwise_loose otherwise = omega arith

otherwise_ends : {ts : Forms} {o : Option (List ℕ)} (most : ℕ) → IsOtherwise ts o [] → branch_turn most ts ≡ Some None
unfolding branch_turn
otherwise_ends most no_otherwise = refl
otherwise_ends most otherwise = refl

otherwise_found : {ts : Forms} {o : Option (List ℕ)} → IsOtherwise ts o [] → otherwise_at ts ≡ Some (o, [])
unfolding otherwise_at
otherwise_found no_otherwise = refl
otherwise_found otherwise = refl

message_loose : {ts : Forms} {o : Option (List ℕ)} → IsMessage ts o [] → binds_ahead ts < 1
message_loose no_message = omega arith
message_loose with_message = omega arith

message_found : {ts : Forms} {o : Option (List ℕ)} → IsMessage ts o [] → message_at ts ≡ Some (o, [])
unfolding message_at
message_found no_message = refl
message_found with_message = refl

-- a word of an operator is none of a statement that is left out
supported_group : (word : Keyword) → is_group_word word ≡ true → is_unsupported_word word ≡ false
supported_group k.Group h = refl
supported_group k.Cogroup h = refl
supported_group word h = absurd (cc)

supported : {ts rest : Forms} {o : Op} → IsOp ts o rest → is_unsupported ts ≡ false
unfolding is_unsupported
supported (load using_ h) = refl
supported (filter h) = refl
supported (foreach list) = refl
supported (foreach_block steps list) = refl
supported (group_all {word = word} is how p) = supported_group word is
supported (group {word = word} is list how p) = supported_group word is
supported (join h which list how p) = refl
supported (union h list) = refl
supported (distinct p) = refl
supported (order o p) = refl
supported (limit is) = refl
supported (cube is list p) = refl
supported (rank o h) = refl

unsupported_front : (most : ℕ) (word : Keyword) (ts : Forms) → is_unsupported_word word ≡ true → front_at most (f.Keyword word ∷ ts) ≡ Some (stmt.Unsupported, [])
unfolding front_at is_unsupported
unsupported_front most k.Split ts h = absurd (cc)
unsupported_front most k.Store ts h = absurd (cc)
unsupported_front most k.Assert ts h = absurd (cc)
unsupported_front most word ts h = ap (λ b. if b then Some (stmt.Unsupported, []) else None) h

-- a statement whose brackets nest less deep than `most` is found
pub statement_complete : (ts : Forms) (tree : Stmt) → IsStatement ts tree → (d most : ℕ) → Fits ts d → d < most → statement_at most ts ≡ Some tree
unfolding Fits front_at assign_at split_at store_at assert_at ended statement_at is_unsupported using_func_at
statement_complete ts tree empty d most fits low = refl
statement_complete ts tree (assign h) d most fits low = rw (supported h, op_found h d most fits low) refl
statement_complete ts tree (split list o) d most fits low = rw (branches_found list d most fits low (otherwise_loose o) (otherwise_ends most o), otherwise_found o) refl
statement_complete ts tree (store h) d most fits low = rw (using_func_found h d fits refl).finds refl
statement_complete ts tree (assertion h m) d most fits low = rw ((expr_found h d most most fits low low (message_loose m)).finds, message_found m) refl
statement_complete ts tree (unsupported {word = word} {ts = behind} h) d most fits low = rw (unsupported_front most word behind h) refl
statement_complete ts tree (unsupported_named h) d most fits low = rw h refl
