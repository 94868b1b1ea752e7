-- The parts of statements are found where they stand.
use Rattle.std.proofs.Common.{◌≡◌, ℕ, zero, suc, ◌<◌, ◌≤◌, refl, ◌∙◌, false, List, ◌∷◌, arith}
use Rattle.std.specs.Prelude.{Option, Some, None}
use Rattle.std.specs.Option.{option_map, option_and_then}
use Rattle.pig_value.specs.declared.operators.Dir.{Dir}
use Rattle.pig_value.specs.declared.operators.Dir.TheVariants as dir
use Rattle.pig_value.specs.declared.operators.Side.{Side}
use Rattle.pig_value.specs.declared.operators.Side.TheVariants as side
use Rattle.pig_syntax.specs.declared.tokens.Keyword.TheVariants as k
use Rattle.pig_syntax.specs.declared.tokens.Symbol.TheVariants as s
use Rattle.pig_syntax.specs.declared.tokens.TokenForm.{TokenForm}
use Rattle.pig_syntax.specs.declared.tokens.TokenForm.TheVariants as f
use Rattle.pig_syntax.specs.declared.trees.AsNames.{AsNames}
use Rattle.pig_syntax.specs.declared.trees.AsNames.TheVariants as named
use Rattle.pig_syntax.specs.declared.trees.BagRef.{BagRef}
use Rattle.pig_syntax.specs.declared.trees.Expr.{Expr}
use Rattle.pig_syntax.specs.declared.trees.FieldTree.{FieldTree}
use Rattle.pig_syntax.specs.declared.trees.Func.{Func}
use Rattle.pig_syntax.specs.declared.trees.GroupInput.{GroupInput}
use Rattle.pig_syntax.specs.declared.trees.Item.{Item}
use Rattle.pig_syntax.specs.declared.trees.JoinInput.{JoinInput}
use Rattle.pig_syntax.specs.declared.trees.Nested.{Nested}
use Rattle.pig_syntax.specs.declared.trees.Nested.TheVariants as nested
use Rattle.pig_syntax.specs.declared.trees.OrderField.{OrderField}
use Rattle.pig_syntax.specs.declared.trees.OrderKeys.{OrderKeys}
use Rattle.pig_syntax.specs.declared.trees.OrderKeys.TheVariants as keys
use Rattle.pig_syntax.specs.declared.trees.Step.{Step}
use Rattle.pig_exprs.specs.Grammar.{Forms, Listed, last, more, IsSchema, schema, field_bare, field_typed, expr, ReadsExpr}
use Rattle.pig_parser.specs.Statements.{AreKeys, one_key, several_keys, IsDir, no_dir, asc, desc, IsOrderField, order_field, AreOrderKeys, all_fields, order_fields, IsTextToken, text, IsIdent, ident, IsFunc, func_bare, func_args, IsUsingFunc, no_func, using_func, IsUsingText, no_text, using_text, count_of, AreNames, one_name, typed_name, several_names, IsNaming, no_naming, naming, IsItem, all_items, flattened, value, IsBagRef, bag_field, bag_selection, IsNested, nested_filter, nested_distinct, nested_order, nested_limit, nested_take, AreSteps, no_step, step, IsGroupInput, input_bare, input_inner, input_outer, IsJoinInput, join_input, side_of, IsSide, no_side, side_bare, side_outer}
use Rattle.pig_exprs.specs.Reader.{FoundPart, comma_turn, listed, after_symbol, after_word, close_paren, part_turn, schema_at, type_at}
use Rattle.pig_exprs.specs.ExprReader.{chain_at, paren_after, primary_at, post_at, begins_type, casted_at, unary_at, term_at, sum_at, comparison_at, neg_at, and_chain_at, expr_with, expr_at}
use Rattle.pig_parser.specs.StatementReader.{several, key_list_at, keys_at, dir_at, order_field_at, order_keys_at, text_at, ident_at, func_at, using_func_at, using_text_at, count_at, names_at, naming_at, flattened_at, value_at, item_at, bag_selection_at, bag_ref_at, nested_filter_at, nested_order_at, nested_limit_at, nested_at, step_turn, inner_at, group_input_at, join_input_at, after_outer, side_at}
use Rattle.pig_exprs.proofs.Fits.{Fits}
use Rattle.pig_exprs.proofs.Finds.{Finds, FindsMaybe, FindsRun, stops, goes, finds_map, finds_more, finds_listed, listed_finds}
use Rattle.pig_exprs.proofs.NamesFound.{NameEnds, field_ref_found, selection_found}
use Rattle.pig_exprs.proofs.TypesFound.{schema_found, field_found}
use Rattle.pig_exprs.proofs.Follow.{binds, binds_ahead, name_stops, begins_ahead, field_begins, reads_begin, no_type}
use Rattle.pig_exprs.proofs.ExprsFound.{expr_found}

-- no further member of a list stands behind what is no comma
pub no_comma : {A : Type 0} (member : Forms → FoundPart A) (ts : Forms) → after_symbol s.Comma ts ≡ None → comma_turn member ts ≡ Some None
unfolding after_symbol comma_turn
no_comma member (f.Symbol s.Comma ∷ ts) h = absurd (cc)
no_comma member ts h = refl

-- ---- keys

-- expressions with commas between them are no expression in parentheses
not_one : (most : ℕ) (inner : Forms → FoundPart Expr) (ts mid : Forms) (a : Expr) → inner ts ≡ Some (a, f.Symbol s.Comma ∷ mid) → begins_type ts ≡ false
    → expr_with most inner (f.Symbol s.OpenParen ∷ ts) ≡ None
unfolding chain_at paren_after primary_at post_at casted_at unary_at term_at sum_at comparison_at neg_at and_chain_at expr_with
not_one most inner ts mid a h plain = rw (plain, h) refl

several_not_one : {ts mid : Forms} {a : Expr} → ReadsExpr expr ts a (f.Symbol s.Comma ∷ mid) → (d most : ℕ) → Fits ts d → suc d < most → expr_at most most (f.Symbol s.OpenParen ∷ ts) ≡ None
unfolding expr_at
several_not_one h d zero fits low = absurd (omega (arith, low))
several_not_one {ts = ts} {mid = mid} {a = a} h d (suc m) fits low =
    not_one (suc m) (expr_at (suc m) m) ts mid a (expr_found h d (suc m) m fits (omega (arith, low)) (omega (arith, low)) (omega arith)).finds (no_type ts (reads_begin h))

pub keys_found : {ts rest : Forms} {by_ : List Expr} → AreKeys ts by_ rest → (d most : ℕ) → Fits ts d → d < most → binds_ahead rest < 1 → Finds (keys_at most) ts by_ rest d
unfolding Fits after_symbol several key_list_at keys_at
keys_found (one_key h) d most fits low ends =
    let found = expr_found h d most most fits low low ends in
    record { finds = rw found.finds refl; fits = found.fits; shorter = found.shorter }
keys_found (several_keys h later) zero most fits low ends = absurd fits
keys_found (several_keys h later) (suc d) most fits low ends =
    let less : d < most = omega (arith, low) in
    let first = expr_found h d most most fits less less (omega arith) in
    let others = listed_finds later (expr_at most most) d (λ v. binds_ahead v < 1) (λ ts rest a is room may. expr_found is d most most room less less may) (λ v. omega arith) first.fits (omega arith) (no_comma (expr_at most most) _ refl) in
    let found = finds_listed (finds_more first others) in
    record { finds = rw (several_not_one h d most fits low, found.finds) refl; fits = found.fits; shorter = omega (arith, found.shorter) }

-- ---- orders

-- what may follow a field of an order
pub record OrderMay (rest : Forms) : Type 0 where
  pub name : NameEnds rest
  pub way : dir_at rest ≡ Some (dir.Asc, rest)

dir_found : {ts rest : Forms} {way : Dir} → IsDir ts way rest → (d : ℕ) → Fits ts d → dir_at rest ≡ Some (dir.Asc, rest) → FindsMaybe dir_at ts way rest d
unfolding Fits dir_at
dir_found no_dir d fits ends = record { finds = ends; fits = fits; shorter = omega arith }
dir_found asc d fits ends = record { finds = refl; fits = fits; shorter = omega arith }
dir_found desc d fits ends = record { finds = refl; fits = fits; shorter = omega arith }

dir_ends_name : {ts rest : Forms} {way : Dir} → IsDir ts way rest → NameEnds rest → NameEnds ts
unfolding part_turn
dir_ends_name no_dir ends = ends
dir_ends_name asc ends = refl
dir_ends_name desc ends = refl

order_field_found : {ts rest : Forms} {o : OrderField} → IsOrderField ts o rest → (d : ℕ) → Fits ts d → OrderMay rest → Finds order_field_at ts o rest d
unfolding order_field_at
order_field_found (order_field h way) d fits may =
    let field = field_ref_found h d fits (dir_ends_name way may.name) in
    let found = dir_found way d field.fits may.way in
    record { finds = rw (field.finds, found.finds) refl; fits = found.fits; shorter = omega (arith, field.shorter, found.shorter) }

order_begins : {ts rest : Forms} {os : List OrderField} → Listed IsOrderField ts os rest → begins_ahead ts ≡ 12
order_begins (last (order_field h way)) = field_begins h
order_begins (more (order_field h way) later) = field_begins h

order_plain : (ts : Forms) → begins_ahead ts ≡ 12 → order_keys_at ts ≡ option_map (λ p. (keys.Fields p.0, p.1)) (listed order_field_at ts)
unfolding order_keys_at
order_plain (f.Symbol s.Star ∷ ts) h = absurd (omega (arith, h))
order_plain ts h = refl

pub order_keys_found : {ts rest : Forms} {o : OrderKeys} → AreOrderKeys ts o rest → (d : ℕ) → Fits ts d → OrderMay rest → after_symbol s.Comma rest ≡ None → Finds order_keys_at ts o rest d
unfolding Fits order_keys_at part_turn dir_at
order_keys_found (all_fields way) d fits may ends =
    let found = dir_found way d fits may.way in
    record { finds = rw found.finds refl; fits = found.fits; shorter = omega (arith, found.shorter) }
order_keys_found {ts = ts} {rest = rest} (order_fields list) d fits may ends =
    let all = listed_finds list order_field_at d OrderMay (λ ts rest o is room may. order_field_found is d room may) (λ v. record { name = refl; way = refl }) fits may (no_comma order_field_at rest ends) in
    finds_map (finds_listed all) order_keys_at ts keys.Fields (order_plain ts (order_begins list)) (omega arith)

-- ---- functions

text_found : {ts rest : Forms} {content : List ℕ} → IsTextToken ts content rest → (d : ℕ) → Fits ts d → Finds text_at ts content rest d
unfolding Fits text_at
text_found text d fits = record { finds = refl; fits = fits; shorter = omega arith }

pub ident_found : {ts rest : Forms} {name : List ℕ} → IsIdent ts name rest → (d : ℕ) → Fits ts d → Finds ident_at ts name rest d
unfolding Fits ident_at
ident_found ident d fits = record { finds = refl; fits = fits; shorter = omega arith }

func_of_args : {ts rest : Forms} {args : List (List ℕ)} (name : List ℕ) → Listed IsTextToken ts args rest → func_at (f.Ident name ∷ f.Symbol s.OpenParen ∷ ts)
    ≡ option_and_then (λ args. option_and_then (λ rest. Some (record { name = name; args = args.0 }, rest)) (close_paren args.1)) (listed text_at ts)
unfolding func_at
func_of_args name (last text) = refl
func_of_args name (more text later) = refl

func_found : {ts rest : Forms} {func : Func} → IsFunc ts func rest → (d : ℕ) → Fits ts d → Finds func_at ts func rest d
unfolding Fits func_at after_symbol
func_found func_bare zero fits = absurd fits
func_found func_bare (suc d) fits = record { finds = refl; fits = fits; shorter = omega arith }
func_found (func_args list) zero fits = absurd fits
func_found (func_args {name = name} list) (suc d) fits =
    let all = listed_finds list text_at d (λ v. Unit {0}) (λ ts rest content is room may. text_found is d room) (λ v. tt) fits tt (no_comma text_at _ refl) in
    let found = finds_listed all in
    record { finds = func_of_args name list ∙ rw found.finds refl; fits = found.fits; shorter = omega (arith, found.shorter) }

pub using_func_found : {ts rest : Forms} {func : Option Func} → IsUsingFunc ts func rest → (d : ℕ) → Fits ts d → using_func_at rest ≡ Some (None, rest) → FindsMaybe using_func_at ts func rest d
unfolding Fits using_func_at
using_func_found no_func d fits ends = record { finds = ends; fits = fits; shorter = omega arith }
using_func_found (using_func h) d fits ends =
    let found = func_found h d fits in
    record { finds = rw found.finds refl; fits = found.fits; shorter = omega (arith, found.shorter) }

-- ---- [ USING Text ]

pub using_text_found : {ts rest : Forms} {using_ : Option (List ℕ)} → IsUsingText ts using_ rest → using_text_at rest ≡ Some (None, rest) → using_text_at ts ≡ Some (using_, rest)
unfolding using_text_at
using_text_found no_text ends = ends
using_text_found using_text ends = refl

-- ---- counts

pub count_found : (t : TokenForm) (ts : Forms) (n : ℕ) → count_of t ≡ Some n → count_at (t ∷ ts) ≡ Some (n, ts)
unfolding count_at
count_found t ts n h = rw h refl

count_binds : (t : TokenForm) (n : ℕ) → count_of t ≡ Some n → binds t ≡ 0
count_binds (f.Int i) n h = refl
count_binds (f.Long i) n h = refl
count_binds t n h = absurd (cc)

count_fits : (t : TokenForm) (ts : Forms) (n d : ℕ) → count_of t ≡ Some n → Fits (t ∷ ts) d → Fits ts d
unfolding Fits
count_fits (f.Int i) ts n d h fits = fits
count_fits (f.Long i) ts n d h fits = fits
count_fits t ts n d h fits = absurd (cc)

-- ---- items

schema_names : {ts rest : Forms} {fields : List FieldTree} (most : ℕ) → IsSchema ts fields rest → names_at most ts ≡ option_map (λ p. (named.Several p.0, p.1)) (schema_at (type_at most) ts)
unfolding names_at
schema_names most (schema h) = refl

names_found : {ts rest : Forms} {names : AsNames} → AreNames ts names rest → (d most : ℕ) → Fits ts d → d < most → after_symbol s.Colon rest ≡ None → Finds (names_at most) ts names rest d
unfolding Fits names_at
names_found (one_name {ts = ts} {text = name}) d most fits low bare = finds_map (field_found (field_bare {ts = ts} {text = name}) d most fits low bare) (names_at most) _ named.One refl (omega arith)
names_found (typed_name h) d most fits low bare = finds_map (field_found (field_typed h) d most fits low bare) (names_at most) _ named.One refl (omega arith)
names_found {ts = ts} (several_names h) d most fits low bare = finds_map (schema_found h d most fits (omega (arith, low))) (names_at most) ts named.Several (schema_names most h) (omega arith)

-- what may follow an item
pub record ItemMay (most : ℕ) (rest : Forms) : Type 0 where
  pub loose : binds_ahead rest < 1
  pub naming : naming_at most rest ≡ Some (None, rest)
  pub bare : after_symbol s.Colon rest ≡ None

naming_found : {ts rest : Forms} {names : Option AsNames} → IsNaming ts names rest → (d most : ℕ) → Fits ts d → d < most → ItemMay most rest → FindsMaybe (naming_at most) ts names rest d
unfolding Fits naming_at
naming_found no_naming d most fits low may = record { finds = may.naming; fits = fits; shorter = omega arith }
naming_found (naming h) d most fits low may =
    let found = names_found h d most fits low may.bare in
    record { finds = rw found.finds refl; fits = found.fits; shorter = omega (arith, found.shorter) }

naming_ahead : {ts rest : Forms} {names : Option AsNames} → IsNaming ts names rest → binds_ahead rest < 1 → binds_ahead ts < 1
naming_ahead no_naming ends = ends
naming_ahead (naming h) ends = omega arith

item_plain : (most : ℕ) (ts : Forms) → 1 ≤ begins_ahead ts → item_at most ts ≡ value_at most ts
unfolding item_at
item_plain most (f.Symbol s.Star ∷ ts) h = absurd (omega (arith, h))
item_plain most (f.Keyword k.Flatten ∷ ts) h = absurd (omega (arith, h))
item_plain most ts h = refl

pub item_found : {ts rest : Forms} {i : Item} → IsItem ts i rest → (d most : ℕ) → Fits ts d → d < most → ItemMay most rest → Finds (item_at most) ts i rest d
unfolding Fits item_at flattened_at value_at after_symbol
item_found all_items d most fits low may = record { finds = refl; fits = fits; shorter = omega arith }
item_found (flattened h names) zero most fits low may = absurd fits
item_found (flattened h names) (suc d) most fits low may =
    let less : d < most = omega (arith, low) in
    let first = expr_found h d most most fits less less (omega arith) in
    let found = naming_found names (suc d) most first.fits low may in
    record { finds = rw (first.finds, found.finds) refl; fits = found.fits; shorter = omega (arith, first.shorter, found.shorter) }
item_found {ts = ts} (value h names) d most fits low may =
    let first = expr_found h d most most fits low low (naming_ahead names may.loose) in
    let found = naming_found names d most first.fits low may in
    record { finds = item_plain most ts (reads_begin h) ∙ rw (first.finds, found.finds) refl; fits = found.fits; shorter = omega (arith, first.shorter, found.shorter) }

-- ---- nested blocks

bag_stops : (ts : Forms) → binds_ahead ts < 9 → bag_selection_at ts ≡ Some (None, ts)
unfolding bag_selection_at
bag_stops (f.Symbol s.Dot ∷ ts) h = absurd (omega (arith, h))
bag_stops ts h = refl

bag_ref_found : {ts rest : Forms} {b : BagRef} → IsBagRef ts b rest → (d : ℕ) → Fits ts d → binds_ahead rest < 9 → Finds bag_ref_at ts b rest d
unfolding Fits bag_ref_at bag_selection_at part_turn
bag_ref_found {rest = rest} (bag_field h) d fits ends =
    let found = field_ref_found h d fits (name_stops rest (omega (arith, ends))) in
    let stop : bag_selection_at rest ≡ Some (None, rest) = bag_stops rest ends in
    record { finds = rw (found.finds, stop) refl; fits = found.fits; shorter = found.shorter }
bag_ref_found {rest = rest} (bag_selection h p) d fits ends =
    let first = field_ref_found h d fits refl in
    let found = selection_found p d first.fits (name_stops rest (omega (arith, ends))) in
    record { finds = rw (first.finds, found.finds) refl; fits = found.fits; shorter = omega (arith, first.shorter, found.shorter) }

bag_begins : {ts rest : Forms} {b : BagRef} → IsBagRef ts b rest → begins_ahead ts ≡ 12
bag_begins (bag_field h) = field_begins h
bag_begins (bag_selection h p) = field_begins h

nested_plain : (most : ℕ) (ts : Forms) → begins_ahead ts ≡ 12 → nested_at most ts ≡ option_map (λ p. (nested.Take p.0, p.1)) (bag_ref_at ts)
unfolding nested_at
nested_plain most (f.Keyword k.Filter ∷ ts) h = absurd (omega (arith, h))
nested_plain most (f.Keyword k.Distinct ∷ ts) h = absurd (omega (arith, h))
nested_plain most (f.Keyword k.Order ∷ ts) h = absurd (omega (arith, h))
nested_plain most (f.Keyword k.Limit ∷ ts) h = absurd (omega (arith, h))
nested_plain most ts h = refl

-- what may follow an operation of a block
pub record NestedMay (rest : Forms) : Type 0 where
  pub loose : binds_ahead rest < 1
  pub way : dir_at rest ≡ Some (dir.Asc, rest)
  pub alone : after_symbol s.Comma rest ≡ None

nested_found : {ts rest : Forms} {n : Nested} → IsNested ts n rest → (d most : ℕ) → Fits ts d → d < most → NestedMay rest → Finds (nested_at most) ts n rest d
unfolding Fits nested_at nested_filter_at nested_order_at nested_limit_at after_word
nested_found (nested_filter b a) d most fits low may =
    let bag = bag_ref_found b d fits (omega arith) in
    let found = expr_found a d most most bag.fits low low may.loose in
    record { finds = rw (bag.finds, found.finds) refl; fits = found.fits; shorter = omega (arith, bag.shorter, found.shorter) }
nested_found (nested_distinct b) d most fits low may = finds_map (bag_ref_found b d fits (omega (arith, may.loose))) (nested_at most) _ nested.Distinct refl (omega arith)
nested_found {rest = rest} (nested_order b o) d most fits low may =
    let bag = bag_ref_found b d fits (omega arith) in
    let found = order_keys_found o d bag.fits (record { name = name_stops rest (omega (arith, may.loose)); way = may.way }) may.alone in
    record { finds = rw (bag.finds, found.finds) refl; fits = found.fits; shorter = omega (arith, bag.shorter, found.shorter) }
nested_found (nested_limit {rest = rest} {t = t} {n = n} b is) d most fits low may =
    let bag = bag_ref_found b d fits (omega (arith, count_binds t n is)) in
    record { finds = rw (bag.finds, count_found t rest n is) refl; fits = count_fits t rest n d is bag.fits; shorter = omega (arith, bag.shorter) }
nested_found {ts = ts} (nested_take b) d most fits low may =
    finds_map (bag_ref_found b d fits (omega (arith, may.loose))) (nested_at most) ts nested.Take (nested_plain most ts (bag_begins b)) (omega arith)

pub block_found : {ts rest : Forms} {steps : List Step} → AreSteps ts steps rest → (d most : ℕ) → Fits ts d → d < most → step_turn most rest ≡ Some None → FindsRun (step_turn most) ts steps rest d
unfolding Fits step_turn after_symbol dir_at
block_found no_step d most fits low ends = record { run = stops ends; fits = fits; shorter = omega arith }
block_found (step n later) d most fits low ends =
    let first = nested_found n d most fits low (record { loose = omega arith; way = refl; alone = refl }) in
    let next = block_found later d most first.fits low ends in
    record { run = goes (rw first.finds refl) (omega (arith, first.shorter)) next.run; fits = next.fits; shorter = omega (arith, first.shorter, next.shorter) }

-- ---- the inputs of GROUP and JOIN

-- what may follow an input of GROUP
pub record GroupMay (rest : Forms) : Type 0 where
  pub loose : binds_ahead rest < 1
  pub inner : inner_at rest ≡ Some (false, rest)

pub group_input_found : {ts rest : Forms} {g : GroupInput} → IsGroupInput ts g rest → (d most : ℕ) → Fits ts d → d < most → GroupMay rest → Finds (group_input_at most) ts g rest d
unfolding Fits group_input_at inner_at
group_input_found {rest = rest} (input_bare h) d most fits low may =
    let found = keys_found h d most fits low may.loose in
    let end : inner_at rest ≡ Some (false, rest) = may.inner in
    record { finds = rw (found.finds, end) refl; fits = found.fits; shorter = omega (arith, found.shorter) }
group_input_found (input_inner h) d most fits low may =
    let found = keys_found h d most fits low (omega arith) in
    record { finds = rw found.finds refl; fits = found.fits; shorter = omega (arith, found.shorter) }
group_input_found (input_outer h) d most fits low may =
    let found = keys_found h d most fits low (omega arith) in
    record { finds = rw found.finds refl; fits = found.fits; shorter = omega (arith, found.shorter) }

pub join_input_found : {ts rest : Forms} {j : JoinInput} → IsJoinInput ts j rest → (d most : ℕ) → Fits ts d → d < most → binds_ahead rest < 1 → Finds (join_input_at most) ts j rest d
unfolding Fits join_input_at
join_input_found (join_input h) d most fits low ends =
    let found = keys_found h d most fits low ends in
    record { finds = rw found.finds refl; fits = found.fits; shorter = omega (arith, found.shorter) }

pub side_found : {ts rest : Forms} {x : Side} → IsSide ts x rest → side_at rest ≡ Some (side.Inner, rest) → after_outer rest ≡ rest → side_at ts ≡ Some (x, rest)
unfolding side_at after_outer
side_found no_side ends outer = ends
side_found (side_bare is) ends outer = rw (is, outer) refl
side_found (side_outer is) ends outer = rw is refl

side_word_fits : (t : TokenForm) (ts : Forms) (x : Side) (d : ℕ) → side_of t ≡ Some x → Fits (t ∷ ts) d → Fits ts d
unfolding Fits
side_word_fits (f.Keyword k.Left) ts x d h fits = fits
side_word_fits (f.Keyword k.Right) ts x d h fits = fits
side_word_fits (f.Keyword k.Full) ts x d h fits = fits
side_word_fits t ts x d h fits = absurd (cc)

pub side_fits : {ts rest : Forms} {x : Side} → IsSide ts x rest → (d : ℕ) → Fits ts d → Fits rest d
unfolding Fits
side_fits no_side d fits = fits
side_fits (side_bare {t = t} {ts = ts} {x = x} is) d fits = side_word_fits t ts x d is fits
side_fits (side_outer {t = t} {ts = ts} {x = x} is) d fits = side_word_fits t (f.Keyword k.Outer ∷ ts) x d is fits

side_word_ahead : (t : TokenForm) (x : Side) → side_of t ≡ Some x → binds t < 1
side_word_ahead (f.Keyword k.Left) x h = omega arith
side_word_ahead (f.Keyword k.Right) x h = omega arith
side_word_ahead (f.Keyword k.Full) x h = omega arith
side_word_ahead t x h = absurd (cc)

pub side_ahead : {ts rest : Forms} {x : Side} → IsSide ts x rest → binds_ahead rest < 1 → binds_ahead ts < 1
side_ahead no_side ends = ends
side_ahead (side_bare {t = t} {x = x} is) ends = side_word_ahead t x is
side_ahead (side_outer {t = t} {x = x} is) ends = side_word_ahead t x is
