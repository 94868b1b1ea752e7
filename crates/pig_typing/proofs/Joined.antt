-- Operands that are joined have kinds that the operator takes once they are cast.
use Rattle.std.proofs.Common.{List, ◌≡◌, ◌∙◌, Bool, true, false, refl, sym, subst}
use Rattle.std.specs.Prelude.{Option, Some, None, if◌then◌else◌}
use Rattle.std.specs.Option.{option_and_then}
use Rattle.pig_value.specs.Casts.{may_cast}
use Rattle.pig_value.specs.Kinds.{kind_eq}
use Rattle.pig_value.specs.Trees.{KindTree, k_boolean, k_int, k_long, k_chars, k_bytes, k_tuple, k_bag, k_map}
use Rattle.pig_value.specs.declared.operators.ChainOp.{ChainOp}
use Rattle.pig_value.specs.declared.operators.ChainOp.TheVariants as op
use Rattle.pig_value.specs.declared.operators.Rel.{Rel}
use Rattle.pig_value.proofs.KindLaws.{kind_itself, kind_same}
use Rattle.pig_schema.specs.FieldTrees.{FieldTree, tree_inner, tree_kind, HasInner, IsColumn}
use Rattle.pig_typed.specs.ExprKinds.{chain_kind, choose_kind, compare_kind, expr_kind, may_compare, number_kind, truth_kind}
use Rattle.pig_typed.specs.Typed.{Typed}
use Rattle.pig_typing.specs.Joins.{Join, join, alike, cast_if, chained, chosen, compared, condition, conditions, numbers}

-- the kind of a side once it is cast, where it is
abbrev pub side : Bool → KindTree → KindTree → KindTree
side true to k = to
side false to k = k

-- a side may be cast, where it is
pub data Castable : Bool → KindTree → KindTree → Type 0 where
  is_cast : {to k : KindTree} → may_cast k to ≡ true → Castable true to k
  as_is : {to k : KindTree} → Castable false to k

pub cast_kind_of : (row locals : List KindTree) (cast_so : Bool) (to k : KindTree) (t : Typed) → Castable cast_so to k → expr_kind t row locals ≡ Some k
    → expr_kind (cast_if cast_so to t) row locals ≡ Some (side cast_so to k)
cast_kind_of row locals true to k t (is_cast may) e = rw (e, may) refl
cast_kind_of row locals false to k t as_is e = e

-- the sides of a join
pub record Joined (k l : KindTree) (j : Join) : Type 0 where
  pub left : Castable j.left j.kind k
  pub right : Castable j.right j.kind l

-- and both of one kind then, to which the second is not cast where the first is
pub record Alike (k l : KindTree) (j : Join) : Type 0 where
  pub both : Joined k l j
  pub second : j.left ≡ true → l ≡ j.kind
  pub left : side j.left j.kind k ≡ j.kind
  pub right : side j.right j.kind l ≡ j.kind

one_of : (P : Join → Type 0) (i j : Join) → Some i ≡ Some j → P i → P j
one_of P i j e h = let same : i ≡ j = cc in subst P same h

same_holds : (k l : KindTree) (j : Join) → (if kind_eq k l then Some (join k false false) else None) ≡ Some j → Alike k l j
same_holds k l j = by (kind_eq k l) refl
  where
    by : (b : Bool) → kind_eq k l ≡ b → (if b then Some (join k false false) else None) ≡ Some j → Alike k l j
    by true t e = one_of (Alike k l) (join k false false) j e (record { both = record { left = as_is; right = as_is }; second = λ h. absurd (cc); left = refl; right = sym (kind_same k l t) })
    by false t e = absurd (cc)

pub alike_holds : (k l : KindTree) (j : Join) → alike k l ≡ Some j → Alike k l j
alike_holds k_bytes k_bytes j e = one_of (Alike k_bytes k_bytes) _ j e (record { both = record { left = as_is; right = as_is }; second = λ h. refl; left = refl; right = refl })
alike_holds k_bytes l j e = one_of (Alike k_bytes l) _ j e (record { both = record { left = is_cast refl; right = as_is }; second = λ h. refl; left = refl; right = refl })
alike_holds k k_bytes j e = one_of (Alike k k_bytes) _ j e (record { both = record { left = as_is; right = is_cast refl }; second = λ h. absurd (cc); left = refl; right = refl })
alike_holds k_int k_long j e = one_of (Alike k_int k_long) _ j e (record { both = record { left = is_cast refl; right = as_is }; second = λ h. refl; left = refl; right = refl })
alike_holds k_long k_int j e = one_of (Alike k_long k_int) _ j e (record { both = record { left = as_is; right = is_cast refl }; second = λ h. absurd (cc); left = refl; right = refl })
alike_holds k l j e = same_holds k l j e

pub compared_alike : (r : Rel) (k l : KindTree) (j : Join) → compared r k l ≡ Some j → (alike k l ≡ Some j) × (may_compare r j.kind ≡ true)
compared_alike r k l j = by (alike k l)
  where
    by : (o : Option Join) → option_and_then (λ i. if may_compare r i.kind then Some i else None) o ≡ Some j → (o ≡ Some j) × (may_compare r j.kind ≡ true)
    by None e = absurd (cc)
    by (Some i) e = tested (may_compare r i.kind) refl e
      where
        tested : (b : Bool) → may_compare r i.kind ≡ b → (if b then Some i else None) ≡ Some j → (Some i ≡ Some j) × (may_compare r j.kind ≡ true)
        tested true t e = (e, one_of (λ x. may_compare r x.kind ≡ true) i j e t)
        tested false t e = absurd (cc)

pub compare_holds : (r : Rel) (k l : KindTree) (j : Join) → compared r k l ≡ Some j → Joined k l j × (compare_kind r (side j.left j.kind k) (side j.right j.kind l) ≡ Some k_boolean)
compare_holds r k l j e =
    let h = compared_alike r k l j e in
    let a = alike_holds k l j h.0 in
    (a.both, rw (a.left, a.right, kind_itself j.kind, h.1) refl)

pub choose_holds : (k l : KindTree) (j : Join) → alike k l ≡ Some j → Joined k l j × (choose_kind k_boolean (side j.left j.kind k) (side j.right j.kind l) ≡ Some j.kind)
choose_holds k l j e = let a = alike_holds k l j e in (a.both, rw (a.left, a.right, kind_itself j.kind) refl)

pub condition_holds : (k : KindTree) (cast_so : Bool) → condition k ≡ Some cast_so → Castable cast_so k_boolean k × (side cast_so k_boolean k ≡ k_boolean)
condition_holds k_boolean true e = absurd (cc)
condition_holds k_boolean false e = (as_is, refl)
condition_holds k_bytes true e = (is_cast refl, refl)
condition_holds k_bytes false e = absurd (cc)
condition_holds k_int cast_so e = absurd (cc)
condition_holds k_long cast_so e = absurd (cc)
condition_holds k_chars cast_so e = absurd (cc)
condition_holds (k_tuple ks) cast_so e = absurd (cc)
condition_holds (k_bag ks) cast_so e = absurd (cc)
condition_holds (k_map k) cast_so e = absurd (cc)

-- inside the column of a choice is what is of its kind
pub chosen_is_column : (c d : FieldTree) (j : Join) → alike (tree_kind c) (tree_kind d) ≡ Some j → IsColumn c → IsColumn d → IsColumn (chosen j c d)
chosen_is_column c d j e h g = let a = alike_holds (tree_kind c) (tree_kind d) j e in by j.left a.left a.second
  where
    by : (is_left : Bool) → side is_left j.kind (tree_kind c) ≡ j.kind → (is_left ≡ true → tree_kind d ≡ j.kind) → HasInner j.kind (tree_inner (if is_left then d else c))
    by true first second = subst (λ k. HasInner k (tree_inner d)) (second refl) g
    by false first second = subst (λ k. HasInner k (tree_inner c)) first h

-- ---- chains

-- the kinds of chains: what stands before a later link is of one of them, and is not cast
pub data Settled : KindTree → Type 0 where
  truth : Settled k_boolean
  narrow : Settled k_int
  wide : Settled k_long

pub record Chained (o : ChainOp) (k l : KindTree) (j : Join) : Type 0 where
  pub both : Joined k l j
  pub gives : chain_kind o (side j.left j.kind k) (side j.right j.kind l) ≡ Some j.kind
  pub settled : Settled j.kind
  pub stays : Settled k → j.left ≡ false

abbrev IsNumbers : KindTree → KindTree → Join → Type 0
IsNumbers k l j = Joined k l j × (number_kind (side j.left j.kind k) (side j.right j.kind l) ≡ Some j.kind) × Settled j.kind × (Settled k → j.left ≡ false)

unsettled : Settled k_bytes → ⊥
unsettled h = elim h [ ]

numbers_hold : (k l : KindTree) (j : Join) → numbers k l ≡ Some j → IsNumbers k l j
numbers_hold k_int k_int j e = one_of (IsNumbers k_int k_int) _ j e (record { left = as_is; right = as_is }, refl, narrow, λ h. refl)
numbers_hold k_int k_long j e = one_of (IsNumbers k_int k_long) _ j e (record { left = as_is; right = as_is }, refl, wide, λ h. refl)
numbers_hold k_long k_int j e = one_of (IsNumbers k_long k_int) _ j e (record { left = as_is; right = as_is }, refl, wide, λ h. refl)
numbers_hold k_long k_long j e = one_of (IsNumbers k_long k_long) _ j e (record { left = as_is; right = as_is }, refl, wide, λ h. refl)
numbers_hold k_bytes k_int j e = one_of (IsNumbers k_bytes k_int) _ j e (record { left = is_cast refl; right = as_is }, refl, narrow, λ h. absurd (unsettled h))
numbers_hold k_bytes k_long j e = one_of (IsNumbers k_bytes k_long) _ j e (record { left = is_cast refl; right = as_is }, refl, wide, λ h. absurd (unsettled h))
numbers_hold k_int k_bytes j e = one_of (IsNumbers k_int k_bytes) _ j e (record { left = as_is; right = is_cast refl }, refl, narrow, λ h. refl)
numbers_hold k_long k_bytes j e = one_of (IsNumbers k_long k_bytes) _ j e (record { left = as_is; right = is_cast refl }, refl, wide, λ h. refl)
numbers_hold k l j e = absurd (cc)

by_numbers : (o : ChainOp) (k l : KindTree) (j : Join) → ((a b : KindTree) → chain_kind o a b ≡ number_kind a b) → numbers k l ≡ Some j → Chained o k l j
by_numbers o k l j is e =
    let h = numbers_hold k l j e in
    record { both = h.0; gives = is _ _ ∙ h.1; settled = h.2; stays = h.3 }

by_truth : (o : ChainOp) (k l : KindTree) (j : Join) → ((a b : KindTree) → chain_kind o a b ≡ truth_kind a b) → conditions k l ≡ Some j → Chained o k l j
by_truth o k l j is = by (condition k) refl (condition l) refl
  where
    by : (a : Option Bool) → condition k ≡ a → (b : Option Bool) → condition l ≡ b
        → option_and_then (λ left. option_and_then (λ right. Some (join k_boolean left right)) b) a ≡ Some j → Chained o k l j
    by None ka b lb e = absurd (cc)
    by (Some left) ka None lb e = absurd (cc)
    by (Some left) ka (Some right) lb e =
        let x = condition_holds k left ka in
        let y = condition_holds l right lb in
        one_of (Chained o k l) (join k_boolean left right) j e
        (record { both = record { left = x.0; right = y.0 }; gives = is _ _ ∙ (rw (x.1, y.1) refl); settled = truth; stays = λ h. still k left ka h })
      where
        still : (k : KindTree) (left : Bool) → condition k ≡ Some left → Settled k → left ≡ false
        still k_boolean false ka truth = refl
        still k_boolean true ka truth = absurd (cc)
        still k_int left ka narrow = absurd (cc)
        still k_long left ka wide = absurd (cc)
        still k_chars left ka h = elim h [ ]
        still k_bytes left ka h = elim h [ ]
        still (k_tuple ks) left ka h = elim h [ ]
        still (k_bag ks) left ka h = elim h [ ]
        still (k_map k) left ka h = elim h [ ]

pub chained_holds : (o : ChainOp) (k l : KindTree) (j : Join) → chained o k l ≡ Some j → Chained o k l j
chained_holds op.Or k l j e = by_truth op.Or k l j (λ a b. refl) e
chained_holds op.And k l j e = by_truth op.And k l j (λ a b. refl) e
chained_holds op.Add k l j e = by_numbers op.Add k l j (λ a b. refl) e
chained_holds op.Sub k l j e = by_numbers op.Sub k l j (λ a b. refl) e
chained_holds op.Mul k l j e = by_numbers op.Mul k l j (λ a b. refl) e
chained_holds op.Div k l j e = by_numbers op.Div k l j (λ a b. refl) e
chained_holds op.Rem k l j e = by_numbers op.Rem k l j (λ a b. refl) e
