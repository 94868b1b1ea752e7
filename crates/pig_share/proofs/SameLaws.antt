-- The test of two operators is true exactly where they are the same.
use Rattle.std.specs.Prelude.{◌≡◌, ℕ, ◌==◌, Bool, true, false, ◌&&◌, List, [], ◌∷◌, Option, Some, None, bytes_eq, refl}
use Rattle.std.proofs.Common.{ap, sym, true≢false}
use Rattle.std.proofs.lemmas.Bool.{eq-eqb, eqb-true}
use Rattle.std.proofs.lemmas.Bool.Decides.{Decides-int_eq}
use Rattle.std.proofs.lemmas.Slice.Eq.{bytes_eq-Decides}
use Rattle.pig_value.proofs.KindLaws.{kind_itself, kind_same}
use Rattle.pig_value.specs.declared.functions.Function.{Function}
use Rattle.pig_value.specs.declared.functions.Function.TheVariants as function
use Rattle.pig_value.specs.declared.inputs.Column.{Column}
use Rattle.pig_value.specs.declared.operators.ChainOp.{ChainOp}
use Rattle.pig_value.specs.declared.operators.ChainOp.TheVariants as chain
use Rattle.pig_value.specs.declared.operators.Dir.{Dir}
use Rattle.pig_value.specs.declared.operators.Dir.TheVariants as dir
use Rattle.pig_value.specs.declared.operators.Rel.{Rel}
use Rattle.pig_value.specs.declared.operators.Rel.TheVariants as rel
use Rattle.pig_value.specs.declared.operators.Side.{Side}
use Rattle.pig_value.specs.declared.operators.Side.TheVariants as side
use Rattle.pig_value.specs.Kinds.{kind_eq}
use Rattle.pig_value.specs.Trees.{kind_tree}
use Rattle.pig_typed.specs.declared.blocks.SortKey.{SortKey}
use Rattle.pig_typed.specs.Typed.{Typed, TypedArgs, TypedBlock, TypedItem, TypedLinks, TypedStep, x_null, x_bool, x_int, x_long, x_chars, x_field, x_local, x_chain, x_compare, x_is_null, x_not, x_minus, x_choose, x_cast, x_project, x_look, x_call, no_links, more_links, no_args, more_args, s_filter, s_order, s_limit, s_distinct, s_take}
use Rattle.pig_plan.specs.Plans.{Keyed, PlanOp, p_load, p_filter, p_foreach, p_group_all, p_group, p_join, p_union, p_distinct, p_order, p_limit, p_store, p_assert, p_rank}
use Rattle.pig_plan.specs.Renumbered.{rename}
use Rattle.pig_share.specs.Shared.{is_apart}
use Rattle.pig_share.specs.Same.{columns_of, same_all, same_args, same_block, same_bool, same_chain, same_column, same_dir, same_expr, same_function, same_item, same_key, same_keyed, same_links, same_message, same_op, same_rel, same_side, same_step, same_width}

both : (a b : Bool) → (a && b) ≡ true → (a ≡ true) × (b ≡ true)
both true b h = (refl, h)
both false b h = absurd (true≢false (sym h))

bool_same : (a b : Bool) → same_bool a b ≡ true → a ≡ b
bool_same true true h = refl
bool_same true false h = absurd (true≢false (sym h))
bool_same false true h = absurd (true≢false (sym h))
bool_same false false h = refl

rel_same : (r s : Rel) → same_rel r s ≡ true → r ≡ s
rel_same rel.Eq rel.Eq h = refl
rel_same rel.Ne rel.Ne h = refl
rel_same rel.Lt rel.Lt h = refl
rel_same rel.Le rel.Le h = refl
rel_same rel.Gt rel.Gt h = refl
rel_same rel.Ge rel.Ge h = refl
rel_same r s h = absurd (cc)

side_same : (r s : Side) → same_side r s ≡ true → r ≡ s
side_same side.Inner side.Inner h = refl
side_same side.Left side.Left h = refl
side_same side.Right side.Right h = refl
side_same side.Full side.Full h = refl
side_same r s h = absurd (cc)

dir_same : (r s : Dir) → same_dir r s ≡ true → r ≡ s
dir_same dir.Asc dir.Asc h = refl
dir_same dir.Desc dir.Desc h = refl
dir_same r s h = absurd (cc)

chain_same : (r s : ChainOp) → same_chain r s ≡ true → r ≡ s
chain_same chain.Or chain.Or h = refl
chain_same chain.And chain.And h = refl
chain_same chain.Add chain.Add h = refl
chain_same chain.Sub chain.Sub h = refl
chain_same chain.Mul chain.Mul h = refl
chain_same chain.Div chain.Div h = refl
chain_same chain.Rem chain.Rem h = refl
chain_same r s h = absurd (cc)

width_same : (m n : Option ℕ) → same_width m n ≡ true → m ≡ n
width_same None None h = refl
width_same (Some m) (Some n) h = ap Some (eqb-true m n h)
width_same None (Some n) h = absurd (cc)
width_same (Some m) None h = absurd (cc)

function_same : (f g : Function) → same_function f g ≡ true → f ≡ g
function_same function.Count function.Count h = refl
function_same function.CountStar function.CountStar h = refl
function_same function.Sum function.Sum h = refl
function_same function.Min function.Min h = refl
function_same function.Max function.Max h = refl
function_same function.Size function.Size h = refl
function_same function.Concat function.Concat h = refl
function_same function.IsEmpty function.IsEmpty h = refl
function_same function.Tokenize function.Tokenize h = refl
function_same function.Substring function.Substring h = refl
function_same function.StartsWith function.StartsWith h = refl
function_same function.EndsWith function.EndsWith h = refl
function_same function.IndexOf function.IndexOf h = refl
function_same function.Abs function.Abs h = refl
function_same function.ToTuple function.ToTuple h = refl
function_same (function.ToBag m) (function.ToBag n) h = ap function.ToBag (width_same m n h)
function_same f g h = absurd (cc)

bytes_same : (xs ys : List ℕ) → bytes_eq xs ys ≡ true → xs ≡ ys
bytes_same xs ys h = (bytes_eq-Decides xs ys).0 h

message_same : (m n : Option (List ℕ)) → same_message m n ≡ true → m ≡ n
message_same None None h = refl
message_same (Some m) (Some n) h = ap Some (bytes_same m n h)
message_same None (Some n) h = absurd (cc)
message_same (Some m) None h = absurd (cc)

mutual
  pub expr_same : (e f : Typed) → same_expr e f ≡ true → e ≡ f
  expr_same x_null x_null h = refl
  expr_same (x_bool a) (x_bool b) h = ap x_bool (bool_same a b h)
  expr_same (x_int a) (x_int b) h = ap x_int ((Decides-int_eq a b).0 h)
  expr_same (x_long a) (x_long b) h = ap x_long ((Decides-int_eq a b).0 h)
  expr_same (x_chars a) (x_chars b) h = ap x_chars (bytes_same a b h)
  expr_same (x_field a) (x_field b) h = ap x_field (eqb-true a b h)
  expr_same (x_local a) (x_local b) h = ap x_local (eqb-true a b h)
  expr_same (x_chain a ls) (x_chain b ms) h =
      let t = both (same_expr a b) (same_links ls ms) h in
      λ i. x_chain (expr_same a b t.0 i) (links_same ls ms t.1 i)
  expr_same (x_compare r a c) (x_compare s b d) h =
      let t = both (same_rel r s) (same_expr a b && same_expr c d) h in
      let u = both (same_expr a b) (same_expr c d) t.1 in
      λ i. x_compare (rel_same r s t.0 i) (expr_same a b u.0 i) (expr_same c d u.1 i)
  expr_same (x_is_null a m) (x_is_null b n) h =
      let t = both (same_expr a b) (same_bool m n) h in
      λ i. x_is_null (expr_same a b t.0 i) (bool_same m n t.1 i)
  expr_same (x_not a) (x_not b) h = ap x_not (expr_same a b h)
  expr_same (x_minus a) (x_minus b) h = ap x_minus (expr_same a b h)
  expr_same (x_choose t a c) (x_choose u b d) h =
      let s = both (same_expr t u) (same_expr a b && same_expr c d) h in
      let r = both (same_expr a b) (same_expr c d) s.1 in
      λ i. x_choose (expr_same t u s.0 i) (expr_same a b r.0 i) (expr_same c d r.1 i)
  expr_same (x_cast k a) (x_cast l b) h =
      let t = both (kind_eq k l) (same_expr a b) h in
      λ i. x_cast (kind_same k l t.0 i) (expr_same a b t.1 i)
  expr_same (x_project a ms s) (x_project b ns t) h =
      let u = both (same_expr a b) (bytes_eq ms ns && same_bool s t) h in
      let v = both (bytes_eq ms ns) (same_bool s t) u.1 in
      λ i. x_project (expr_same a b u.0 i) (bytes_same ms ns v.0 i) (bool_same s t v.1 i)
  expr_same (x_look a m) (x_look b n) h =
      let t = both (same_expr a b) (bytes_eq m n) h in
      λ i. x_look (expr_same a b t.0 i) (bytes_same m n t.1 i)
  expr_same (x_call f es) (x_call g fs) h =
      let t = both (same_function f g) (same_args es fs) h in
      λ i. x_call (function_same f g t.0 i) (args_same es fs t.1 i)
  expr_same e f h = absurd (cc)

  links_same : (ls ms : TypedLinks) → same_links ls ms ≡ true → ls ≡ ms
  links_same no_links no_links h = refl
  links_same no_links (more_links g b ms) h = absurd (cc)
  links_same (more_links f a ls) no_links h = absurd (cc)
  links_same (more_links f a ls) (more_links g b ms) h =
      let t = both (same_chain f g && same_expr a b) (same_links ls ms) h in
      let u = both (same_chain f g) (same_expr a b) t.0 in
      λ i. more_links (chain_same f g u.0 i) (expr_same a b u.1 i) (links_same ls ms t.1 i)

  args_same : (es fs : TypedArgs) → same_args es fs ≡ true → es ≡ fs
  args_same no_args no_args h = refl
  args_same no_args (more_args b fs) h = absurd (cc)
  args_same (more_args a es) no_args h = absurd (cc)
  args_same (more_args a es) (more_args b fs) h =
      let t = both (same_expr a b) (same_args es fs) h in
      λ i. more_args (expr_same a b t.0 i) (args_same es fs t.1 i)

module _ {X : Type 0} (same : X → X → Bool) where
  pub all_same : ((x y : X) → same x y ≡ true → x ≡ y) → (xs ys : List X) → same_all same xs ys ≡ true → xs ≡ ys
  all_same each [] [] h = refl
  all_same each [] (y ∷ ys) h = absurd (cc)
  all_same each (x ∷ xs) [] h = absurd (cc)
  all_same each (x ∷ xs) (y ∷ ys) h =
      let t = both (same x y) (same_all same xs ys) h in
      λ i. each x y t.0 i ∷ all_same each xs ys t.1 i

  pub all_itself : ((x : X) → same x x ≡ true) → (xs : List X) → same_all same xs xs ≡ true
  all_itself each [] = refl
  all_itself each (x ∷ xs) = λ i. each x i && all_itself each xs i

key_same : (k l : SortKey) → same_key k l ≡ true → k ≡ l
key_same k l h =
    let t = both (k.position == l.position) (same_dir k.dir l.dir) h in
    let p : k.position ≡ l.position = eqb-true k.position l.position t.0 in
    λ i. record { position = p i; dir = dir_same k.dir l.dir t.1 i }

step_same : (s t : TypedStep) → same_step s t ≡ true → s ≡ t
step_same (s_filter a c) (s_filter b d) h =
    let t = both (same_expr a b) (same_expr c d) h in
    λ i. s_filter (expr_same a b t.0 i) (expr_same c d t.1 i)
step_same (s_order a ks) (s_order b ls) h =
    let t = both (same_expr a b) (same_all same_key ks ls) h in
    λ i. s_order (expr_same a b t.0 i) (all_same same_key key_same ks ls t.1 i)
step_same (s_limit a m) (s_limit b n) h =
    let t = both (same_expr a b) (m == n) h in
    λ i. s_limit (expr_same a b t.0 i) (eqb-true m n t.1 i)
step_same (s_distinct a) (s_distinct b) h = ap s_distinct (expr_same a b h)
step_same (s_take a) (s_take b) h = ap s_take (expr_same a b h)
step_same s t h = absurd (cc)

item_same : (a b : TypedItem) → same_item a b ≡ true → a ≡ b
item_same a b h =
    let t = both (same_expr a.value b.value) (same_bool a.flatten b.flatten && (a.width == b.width)) h in
    let u = both (same_bool a.flatten b.flatten) (a.width == b.width) t.1 in
    λ i. record { value = expr_same a.value b.value t.0 i; flatten = bool_same a.flatten b.flatten u.0 i; width = eqb-true a.width b.width u.1 i }

block_same : (a b : TypedBlock) → same_block a b ≡ true → a ≡ b
block_same a b h =
    let t = both (same_all same_step a.steps b.steps) (same_all same_item a.items b.items) h in
    λ i. record { steps = all_same same_step step_same a.steps b.steps t.0 i; items = all_same same_item item_same a.items b.items t.1 i }

keyed_same : (a b : Keyed) → same_keyed a b ≡ true → a ≡ b
keyed_same a b h =
    let t = both (a.input == b.input) (same_bool a.inner b.inner && same_all same_expr a.keys b.keys) h in
    let u = both (same_bool a.inner b.inner) (same_all same_expr a.keys b.keys) t.1 in
    λ i. record { input = eqb-true a.input b.input t.0 i; keys = all_same same_expr expr_same a.keys b.keys u.1 i; inner = bool_same a.inner b.inner u.0 i }

pub op_same : (o p : PlanOp) → columns_of o ≡ columns_of p → same_op o p ≡ true → o ≡ p
op_same (p_load p m cs) (p_load q n ds) c h =
    let t = both (bytes_eq p q) ((m == n) && same_all same_column cs ds) h in
    let u = both (m == n) (same_all same_column cs ds) t.1 in
    λ i. p_load (bytes_same p q t.0 i) (eqb-true m n u.0 i) (c i)
op_same (p_filter j e) (p_filter k f) c h =
    let t = both (j == k) (same_expr e f) h in
    λ i. p_filter (eqb-true j k t.0 i) (expr_same e f t.1 i)
op_same (p_foreach j a) (p_foreach k b) c h =
    let t = both (j == k) (same_block a b) h in
    λ i. p_foreach (eqb-true j k t.0 i) (block_same a b t.1 i)
op_same (p_group_all j) (p_group_all k) c h = ap p_group_all (eqb-true j k h)
op_same (p_group ks) (p_group ls) c h = ap p_group (all_same same_keyed keyed_same ks ls h)
op_same (p_join ks s m) (p_join ls t n) c h =
    let u = both (same_side s t) (same_bool m n && same_all same_keyed ks ls) h in
    let v = both (same_bool m n) (same_all same_keyed ks ls) u.1 in
    λ i. p_join (all_same same_keyed keyed_same ks ls v.1 i) (side_same s t u.0 i) (bool_same m n v.0 i)
op_same (p_union ks) (p_union ls) c h = ap p_union (bytes_same ks ls h)
op_same (p_distinct j) (p_distinct k) c h = ap p_distinct (eqb-true j k h)
op_same (p_order j ks) (p_order k ls) c h =
    let t = both (j == k) (same_all same_key ks ls) h in
    λ i. p_order (eqb-true j k t.0 i) (all_same same_key key_same ks ls t.1 i)
op_same (p_limit j m) (p_limit k n) c h =
    let t = both (j == k) (m == n) h in
    λ i. p_limit (eqb-true j k t.0 i) (eqb-true m n t.1 i)
op_same (p_assert j e m) (p_assert k f n) c h =
    let t = both (j == k) (same_expr e f && same_message m n) h in
    let u = both (same_expr e f) (same_message m n) t.1 in
    λ i. p_assert (eqb-true j k t.0 i) (expr_same e f u.0 i) (message_same m n u.1 i)
op_same (p_rank j ks a) (p_rank k ls b) c h =
    let t = both (j == k) (same_bool a b && same_all same_key ks ls) h in
    let u = both (same_bool a b) (same_all same_key ks ls) t.1 in
    λ i. p_rank (eqb-true j k t.0 i) (all_same same_key key_same ks ls u.1 i) (bool_same a b u.0 i)
op_same o p c h = absurd (cc)

-- ---- each is the same as itself

bool_itself : (b : Bool) → same_bool b b ≡ true
bool_itself true = refl
bool_itself false = refl

rel_itself : (r : Rel) → same_rel r r ≡ true
rel_itself rel.Eq = refl
rel_itself rel.Ne = refl
rel_itself rel.Lt = refl
rel_itself rel.Le = refl
rel_itself rel.Gt = refl
rel_itself rel.Ge = refl

side_itself : (s : Side) → same_side s s ≡ true
side_itself side.Inner = refl
side_itself side.Left = refl
side_itself side.Right = refl
side_itself side.Full = refl

dir_itself : (d : Dir) → same_dir d d ≡ true
dir_itself dir.Asc = refl
dir_itself dir.Desc = refl

chain_itself : (c : ChainOp) → same_chain c c ≡ true
chain_itself chain.Or = refl
chain_itself chain.And = refl
chain_itself chain.Add = refl
chain_itself chain.Sub = refl
chain_itself chain.Mul = refl
chain_itself chain.Div = refl
chain_itself chain.Rem = refl

nat_itself : (n : ℕ) → (n == n) ≡ true
nat_itself n = eq-eqb n n refl

bytes_itself : (xs : List ℕ) → bytes_eq xs xs ≡ true
bytes_itself xs = (bytes_eq-Decides xs xs).1 refl

width_itself : (o : Option ℕ) → same_width o o ≡ true
width_itself None = refl
width_itself (Some n) = nat_itself n

message_itself : (m : Option (List ℕ)) → same_message m m ≡ true
message_itself None = refl
message_itself (Some m) = bytes_itself m

function_itself : (f : Function) → same_function f f ≡ true
function_itself function.Count = refl
function_itself function.CountStar = refl
function_itself function.Sum = refl
function_itself function.Min = refl
function_itself function.Max = refl
function_itself function.Size = refl
function_itself function.Concat = refl
function_itself function.IsEmpty = refl
function_itself function.Tokenize = refl
function_itself function.Substring = refl
function_itself function.StartsWith = refl
function_itself function.EndsWith = refl
function_itself function.IndexOf = refl
function_itself function.Abs = refl
function_itself function.ToTuple = refl
function_itself (function.ToBag n) = width_itself n

mutual
  expr_itself : (e : Typed) → same_expr e e ≡ true
  expr_itself x_null = refl
  expr_itself (x_bool b) = bool_itself b
  expr_itself (x_int z) = (Decides-int_eq z z).1 refl
  expr_itself (x_long z) = (Decides-int_eq z z).1 refl
  expr_itself (x_chars text) = bytes_itself text
  expr_itself (x_field n) = nat_itself n
  expr_itself (x_local n) = nat_itself n
  expr_itself (x_chain a ls) = λ i. expr_itself a i && links_itself ls i
  expr_itself (x_compare r a c) = λ i. rel_itself r i && (expr_itself a i && expr_itself c i)
  expr_itself (x_is_null a m) = λ i. expr_itself a i && bool_itself m i
  expr_itself (x_not a) = expr_itself a
  expr_itself (x_minus a) = expr_itself a
  expr_itself (x_choose t a c) = λ i. expr_itself t i && (expr_itself a i && expr_itself c i)
  expr_itself (x_cast k a) = λ i. kind_itself k i && expr_itself a i
  expr_itself (x_project a ns s) = λ i. expr_itself a i && (bytes_itself ns i && bool_itself s i)
  expr_itself (x_look a key) = λ i. expr_itself a i && bytes_itself key i
  expr_itself (x_call f es) = λ i. function_itself f i && args_itself es i

  links_itself : (ls : TypedLinks) → same_links ls ls ≡ true
  links_itself no_links = refl
  links_itself (more_links f a ls) = λ i. (chain_itself f i && expr_itself a i) && links_itself ls i

  args_itself : (es : TypedArgs) → same_args es es ≡ true
  args_itself no_args = refl
  args_itself (more_args a es) = λ i. expr_itself a i && args_itself es i

key_itself : (k : SortKey) → same_key k k ≡ true
key_itself k = λ i. nat_itself k.position i && dir_itself k.dir i

keys_itself : (ks : List SortKey) → same_all same_key ks ks ≡ true
keys_itself ks = all_itself same_key key_itself ks

step_itself : (s : TypedStep) → same_step s s ≡ true
step_itself (s_filter a c) = λ i. expr_itself a i && expr_itself c i
step_itself (s_order a ks) = λ i. expr_itself a i && keys_itself ks i
step_itself (s_limit a n) = λ i. expr_itself a i && nat_itself n i
step_itself (s_distinct a) = expr_itself a
step_itself (s_take a) = expr_itself a

item_itself : (a : TypedItem) → same_item a a ≡ true
item_itself a = λ i. expr_itself a.value i && (bool_itself a.flatten i && nat_itself a.width i)

block_itself : (a : TypedBlock) → same_block a a ≡ true
block_itself a = λ i. all_itself same_step step_itself a.steps i && all_itself same_item item_itself a.items i

keyed_itself : (a : Keyed) → same_keyed a a ≡ true
keyed_itself a = λ i. nat_itself a.input i && (bool_itself a.inner i && all_itself same_expr expr_itself a.keys i)

inputs_itself : (ks : List Keyed) → same_all same_keyed ks ks ≡ true
inputs_itself ks = all_itself same_keyed keyed_itself ks

column_itself : (c : Column) → same_column c c ≡ true
column_itself c = λ i. nat_itself c.position i && kind_itself (kind_tree c.kind) i

-- an operator that may be shared is the same as itself
pub op_itself : (ordered : Bool) (sorted : ℕ → Bool) (o : PlanOp) → is_apart ordered sorted o ≡ false → same_op o o ≡ true
op_itself ordered sorted (p_load p m cs) h = λ i. bytes_itself p i && (nat_itself m i && all_itself same_column column_itself cs i)
op_itself ordered sorted (p_filter j e) h = λ i. nat_itself j i && expr_itself e i
op_itself ordered sorted (p_foreach j a) h = λ i. nat_itself j i && block_itself a i
op_itself ordered sorted (p_group_all j) h = nat_itself j
op_itself ordered sorted (p_group ks) h = inputs_itself ks
op_itself ordered sorted (p_join ks s m) h = λ i. side_itself s i && (bool_itself m i && inputs_itself ks i)
op_itself ordered sorted (p_union ks) h = bytes_itself ks
op_itself ordered sorted (p_distinct j) h = nat_itself j
op_itself ordered sorted (p_order j ks) h = λ i. nat_itself j i && keys_itself ks i
op_itself ordered sorted (p_limit j m) h = λ i. nat_itself j i && nat_itself m i
op_itself ordered sorted (p_store j path delim) h = absurd (true≢false h)
op_itself ordered sorted (p_assert j c message) h = λ i. nat_itself j i && (expr_itself c i && message_itself message i)
op_itself ordered sorted (p_rank j ks a) h = λ i. nat_itself j i && (bool_itself a i && keys_itself ks i)

-- and so it is over mapped inputs
pub renamed_itself : (at : ℕ → ℕ) (ordered : Bool) (sorted : ℕ → Bool) (o : PlanOp) → is_apart ordered sorted o ≡ false → same_op (rename at o) (rename at o) ≡ true
renamed_itself at ordered sorted (p_load p m cs) h = op_itself ordered sorted (p_load p m cs) h
renamed_itself at ordered sorted (p_filter j e) h = op_itself ordered sorted (p_filter (at j) e) h
renamed_itself at ordered sorted (p_foreach j a) h = op_itself ordered sorted (p_foreach (at j) a) h
renamed_itself at ordered sorted (p_group_all j) h = op_itself ordered sorted (p_group_all (at j)) h
renamed_itself at ordered sorted (p_group ks) h = op_itself ordered sorted (rename at (p_group ks)) h
renamed_itself at ordered sorted (p_join ks s m) h = op_itself ordered sorted (rename at (p_join ks s m)) h
renamed_itself at ordered sorted (p_union ks) h = op_itself ordered sorted (rename at (p_union ks)) h
renamed_itself at ordered sorted (p_distinct j) h = op_itself ordered sorted (p_distinct (at j)) h
renamed_itself at ordered sorted (p_order j ks) h = op_itself ordered sorted (p_order (at j) ks) h
renamed_itself at ordered sorted (p_limit j m) h = op_itself ordered (λ i. true) (p_limit (at j) m) refl
renamed_itself at ordered sorted (p_store j path delim) h = absurd (true≢false h)
renamed_itself at ordered sorted (p_assert j c message) h = op_itself ordered sorted (p_assert (at j) c message) h
renamed_itself at ordered sorted (p_rank j ks a) h = op_itself ordered sorted (p_rank (at j) ks a) h
