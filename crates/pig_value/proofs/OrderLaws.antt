-- The order of values is total, and what it ranks as equal is the same.
use Rattle.std.specs.Prelude.{◌≡◌, ◌<◌, ◌⊎◌, ℕ, ℤ, pos, negsuc, Bool, true, false, List, [], ◌∷◌, refl}
use Rattle.std.proofs.Common.{ap, sym, ◌∙◌, subst, arith, inl, inr}
use Rattle.std.specs.Ordering.{ordering_then, ordering_reverse, nat_cmp, int_cmp, bool_cmp, MatchOrdering}
use Rattle.std.specs.Cmp.{IsTotalOrder}
use Rattle.std.proofs.lemmas.Cmp.{on_total, lists_total, int_cmp_total, int_ranked, ranked}
use Rattle.std.specs.declared.cmp.Ordering.{Ordering}
use Rattle.std.specs.declared.cmp.Ordering.TheVariants.{Less, Equal, Greater}
use Rattle.pig_value.specs.declared.operators.Dir.{Dir}
use Rattle.pig_value.specs.declared.operators.Dir.TheVariants as dir
use Rattle.pig_value.specs.Trees.{
  Tree,
  Fields,
  Tuples,
  Entries,
  v_null,
  v_bool,
  v_int,
  v_long,
  v_chars,
  v_bytes,
  v_tuple,
  v_bag,
  v_listed,
  v_map,
  no_fields,
  more_fields,
  no_tuples,
  more_tuples,
  no_entries,
  more_entries,
  fields_of,
  tuples_of,
  entries_of,
}
use Rattle.pig_value.specs.Orders.{dir_cmp, dirs_cmp, tree_cmp, fields_cmp, tuples_cmp, entries_cmp, text_cmp, row_cmp, rows_cmp, pair_cmp, pairs_cmp}

-- the orders on lists are the same, list by list
pub fields_are : (xs ys : List Tree) → fields_cmp (fields_of xs) (fields_of ys) ≡ row_cmp xs ys
fields_are [] [] = refl
fields_are [] (y ∷ ys) = refl
fields_are (x ∷ xs) [] = refl
fields_are (x ∷ xs) (y ∷ ys) = ap (ordering_then (tree_cmp x y)) (fields_are xs ys)

pub tuples_are : (xs ys : List (List Tree)) → tuples_cmp (tuples_of xs) (tuples_of ys) ≡ rows_cmp xs ys
tuples_are [] [] = refl
tuples_are [] (y ∷ ys) = refl
tuples_are (x ∷ xs) [] = refl
tuples_are (x ∷ xs) (y ∷ ys) = ap (λ r. ordering_then r (tuples_cmp (tuples_of xs) (tuples_of ys))) (fields_are x y) ∙ ap (ordering_then (row_cmp x y)) (tuples_are xs ys)

pub entries_are : (xs ys : List (List ℕ × Tree)) → entries_cmp (entries_of xs) (entries_of ys) ≡ pairs_cmp xs ys
entries_are [] [] = refl
entries_are [] (y ∷ ys) = refl
entries_are (x ∷ xs) [] = refl
entries_are (x ∷ xs) (y ∷ ys) = ap (ordering_then (pair_cmp x y)) (entries_are xs ys)

-- A value as a tree with two forms, in which the order is that of words: this is where the laws are shown.
pub data Flat : Type 0 where
  leaf : ℤ → Flat
  pair : Flat → Flat → Flat

abbrev pub flat_cmp : Flat → Flat → Ordering
flat_cmp (leaf a) (leaf b) = int_cmp a b
flat_cmp (leaf a) (pair c d) = Less
flat_cmp (pair a b) (leaf c) = Greater
flat_cmp (pair a b) (pair c d) = ordering_then (flat_cmp a c) (flat_cmp b d)

abbrev pub text_flat : List ℕ → Flat
text_flat [] = leaf (pos 0)
text_flat (b ∷ bs) = pair (leaf (pos b)) (text_flat bs)

abbrev pub bool_flat : Bool → Flat
bool_flat false = leaf (pos 0)
bool_flat true = leaf (pos 1)

abbrev mutual
  pub flat : Tree → Flat
  flat v_null = pair (leaf (pos 0)) (leaf (pos 0))
  flat (v_bool b) = pair (leaf (pos 1)) (bool_flat b)
  flat (v_int z) = pair (leaf (pos 2)) (leaf z)
  flat (v_long z) = pair (leaf (pos 3)) (leaf z)
  flat (v_chars text) = pair (leaf (pos 4)) (text_flat text)
  flat (v_bytes bytes) = pair (leaf (pos 5)) (text_flat bytes)
  flat (v_tuple vs) = pair (leaf (pos 6)) (fields_flat vs)
  flat (v_bag rs) = pair (leaf (pos 7)) (tuples_flat rs)
  flat (v_listed rs) = pair (leaf (pos 8)) (tuples_flat rs)
  flat (v_map ps) = pair (leaf (pos 9)) (entries_flat ps)

  pub fields_flat : Fields → Flat
  fields_flat no_fields = leaf (pos 0)
  fields_flat (more_fields v vs) = pair (flat v) (fields_flat vs)

  pub tuples_flat : Tuples → Flat
  tuples_flat no_tuples = leaf (pos 0)
  tuples_flat (more_tuples r rs) = pair (fields_flat r) (tuples_flat rs)

  pub entries_flat : Entries → Flat
  entries_flat no_entries = leaf (pos 0)
  entries_flat (more_entries k v ps) = pair (pair (text_flat k) (flat v)) (entries_flat ps)

-- numbers that are not negative are ranked alike in both ways
pos_match : (a b : ℕ) (r : Ordering) → MatchOrdering r (a < b) (a ≡ b) (b < a) → r ≡ int_cmp (pos a) (pos b)
pos_match a b Less h = grind arith
pos_match a b Equal h = grind arith
pos_match a b Greater h = grind arith

pos_cmp : (a b : ℕ) → int_cmp (pos a) (pos b) ≡ nat_cmp a b
pos_cmp a b = sym (pos_match a b (nat_cmp a b) (ranked a b (nat_cmp a b) refl))

bool_flat_cmp : (a b : Bool) → flat_cmp (bool_flat a) (bool_flat b) ≡ bool_cmp a b
bool_flat_cmp false false = refl
bool_flat_cmp false true = refl
bool_flat_cmp true false = refl
bool_flat_cmp true true = refl

text_flat_cmp : (cs bs : List ℕ) → flat_cmp (text_flat cs) (text_flat bs) ≡ text_cmp cs bs
text_flat_cmp [] [] = refl
text_flat_cmp [] (b ∷ bs) = refl
text_flat_cmp (a ∷ cs) [] = refl
text_flat_cmp (a ∷ cs) (b ∷ bs) = ap (λ r. ordering_then r (flat_cmp (text_flat cs) (text_flat bs))) (pos_cmp a b) ∙ ap (ordering_then (nat_cmp a b)) (text_flat_cmp cs bs)

-- the order of values is that of their flat forms
mutual
  pub tree_flat : (a b : Tree) → flat_cmp (flat a) (flat b) ≡ tree_cmp a b
  tree_flat v_null v_null = refl
  tree_flat (v_bool a) (v_bool b) = bool_flat_cmp a b
  tree_flat (v_int a) (v_int b) = refl
  tree_flat (v_long a) (v_long b) = refl
  tree_flat (v_chars a) (v_chars b) = text_flat_cmp a b
  tree_flat (v_bytes a) (v_bytes b) = text_flat_cmp a b
  tree_flat (v_tuple a) (v_tuple b) = fields_flat_cmp a b
  tree_flat (v_bag a) (v_bag b) = tuples_flat_cmp a b
  tree_flat (v_listed a) (v_listed b) = tuples_flat_cmp a b
  tree_flat (v_map a) (v_map b) = entries_flat_cmp a b
  tree_flat a b = refl

  pub fields_flat_cmp : (a b : Fields) → flat_cmp (fields_flat a) (fields_flat b) ≡ fields_cmp a b
  fields_flat_cmp no_fields no_fields = refl
  fields_flat_cmp no_fields (more_fields w ws) = refl
  fields_flat_cmp (more_fields v vs) no_fields = refl
  fields_flat_cmp (more_fields v vs) (more_fields w ws) =
      ap (λ r. ordering_then r (flat_cmp (fields_flat vs) (fields_flat ws))) (tree_flat v w) ∙ ap (ordering_then (tree_cmp v w)) (fields_flat_cmp vs ws)

  pub tuples_flat_cmp : (a b : Tuples) → flat_cmp (tuples_flat a) (tuples_flat b) ≡ tuples_cmp a b
  tuples_flat_cmp no_tuples no_tuples = refl
  tuples_flat_cmp no_tuples (more_tuples w ws) = refl
  tuples_flat_cmp (more_tuples v vs) no_tuples = refl
  tuples_flat_cmp (more_tuples v vs) (more_tuples w ws) =
      ap (λ r. ordering_then r (flat_cmp (tuples_flat vs) (tuples_flat ws))) (fields_flat_cmp v w) ∙ ap (ordering_then (fields_cmp v w)) (tuples_flat_cmp vs ws)

  pub entries_flat_cmp : (a b : Entries) → flat_cmp (entries_flat a) (entries_flat b) ≡ entries_cmp a b
  entries_flat_cmp no_entries no_entries = refl
  entries_flat_cmp no_entries (more_entries l w qs) = refl
  entries_flat_cmp (more_entries k v ps) no_entries = refl
  entries_flat_cmp (more_entries k v ps) (more_entries l w qs) =
      ap (λ r. ordering_then (ordering_then r (flat_cmp (flat v) (flat w))) (flat_cmp (entries_flat ps) (entries_flat qs))) (text_flat_cmp k l)
      ∙ ap (λ r. ordering_then (ordering_then (text_cmp k l) r) (flat_cmp (entries_flat ps) (entries_flat qs))) (tree_flat v w)
      ∙ ap (ordering_then (ordering_then (text_cmp k l) (tree_cmp v w))) (entries_flat_cmp ps qs)

-- both parts of a pair are ranked as equal
then_equal : (r s : Ordering) → ordering_then r s ≡ Equal → (r ≡ Equal) × (s ≡ Equal)
then_equal Less s h = absurd (cc)
then_equal Equal s h = (refl, h)
then_equal Greater s h = absurd (cc)

int_same : (a b : ℤ) (r : Ordering) → r ≡ int_cmp a b → r ≡ Equal → a ≡ b
int_same a b Less h e = absurd (cc)
int_same a b Equal h e = int_ranked a b Equal h
int_same a b Greater h e = absurd (cc)

flat_same : (a b : Flat) → flat_cmp a b ≡ Equal → a ≡ b
flat_same (leaf a) (leaf b) h = ap leaf (int_same a b (int_cmp a b) refl h)
flat_same (leaf a) (pair c d) h = absurd (cc)
flat_same (pair a b) (leaf c) h = absurd (cc)
flat_same (pair a b) (pair c d) h =
    let both = then_equal (flat_cmp a c) (flat_cmp b d) h in
    ap (λ x. pair x b) (flat_same a c both.0) ∙ ap (λ x. pair c x) (flat_same b d both.1)

reverse_then : (r s : Ordering) → ordering_reverse (ordering_then r s) ≡ ordering_then (ordering_reverse r) (ordering_reverse s)
reverse_then Less s = refl
reverse_then Equal s = refl
reverse_then Greater s = refl

flat_back : (a b : Flat) → flat_cmp a b ≡ ordering_reverse (flat_cmp b a)
flat_back (leaf a) (leaf b) = int_cmp_total.antisymm a b
flat_back (leaf a) (pair c d) = refl
flat_back (pair a b) (leaf c) = refl
flat_back (pair a b) (pair c d) =
    ap (λ r. ordering_then r (flat_cmp b d)) (flat_back a c) ∙ ap (ordering_then (ordering_reverse (flat_cmp c a))) (flat_back b d) ∙ sym (reverse_then (flat_cmp c a) (flat_cmp d b))

-- a pair stands before another where its first part does, or else its second
then_less : (r s : Ordering) → ordering_then r s ≡ Less → (r ≡ Less) ⊎ ((r ≡ Equal) × (s ≡ Less))
then_less Less s h = inl refl
then_less Equal s h = inr (refl, h)
then_less Greater s h = absurd (cc)

flat_on : (a b c : Flat) → flat_cmp a b ≡ Less → flat_cmp b c ≡ Less → flat_cmp a c ≡ Less
flat_on (leaf a) (leaf b) (leaf c) h k = int_cmp_total.trans a b c h k
flat_on (leaf a) (leaf b) (pair e f) h k = refl
flat_on (leaf a) (pair c d) (leaf e) h k = absurd (cc)
flat_on (leaf a) (pair c d) (pair e f) h k = refl
flat_on (pair a b) (leaf c) e h k = absurd (cc)
flat_on (pair a b) (pair c d) (leaf e) h k = absurd (cc)
flat_on (pair a b) (pair c d) (pair e f) h k =
    elim (then_less (flat_cmp a c) (flat_cmp b d) h) [
      | inl first ↦ elim (then_less (flat_cmp c e) (flat_cmp d f) k) [
        | inl next ↦ ap (λ r. ordering_then r (flat_cmp b f)) (flat_on a c e first next)
        | inr next ↦ ap (λ r. ordering_then r (flat_cmp b f)) (subst (λ x. flat_cmp a x ≡ Less) (flat_same c e next.0) first)
      ]
      | inr first ↦ elim (then_less (flat_cmp c e) (flat_cmp d f) k) [
        | inl next ↦ ap (λ r. ordering_then r (flat_cmp b f)) (subst (λ x. flat_cmp x e ≡ Less) (sym (flat_same a c first.0)) next)
        | inr next ↦ ap (λ r. ordering_then r (flat_cmp b f)) (subst (λ x. flat_cmp a x ≡ Equal) (flat_same c e next.0) first.0) ∙ flat_on b d f first.1 next.1
      ]
    ]

flat_total : IsTotalOrder flat_cmp
flat_total = record { antisymm = flat_back; trans = flat_on; congr = λ a b c h. ap (λ x. flat_cmp x c) (flat_same a b h) }

-- the order of values, of rows and of lists of rows is total
pub tree_total : IsTotalOrder tree_cmp
tree_total = subst IsTotalOrder (λ i a b. tree_flat a b i) (on_total flat flat_total)

pub row_total : IsTotalOrder row_cmp
row_total = lists_total tree_total

abbrev first : Flat → Flat
first (leaf z) = leaf z
first (pair a b) = a

abbrev second : Flat → Flat
second (leaf z) = leaf z
second (pair a b) = b

abbrev number : Flat → ℤ
number (leaf z) = z
number (pair a b) = pos 0

abbrev unsigned : ℤ → ℕ
unsigned (pos n) = n
unsigned (negsuc n) = 0

text_inj : (cs bs : List ℕ) → text_flat cs ≡ text_flat bs → cs ≡ bs
text_inj [] [] h = refl
text_inj [] (b ∷ bs) h = absurd (cc)
text_inj (c ∷ cs) [] h = absurd (cc)
text_inj (c ∷ cs) (b ∷ bs) h = ap (λ n. n ∷ cs) (ap (λ f. unsigned (number (first f))) h) ∙ ap (λ more. b ∷ more) (text_inj cs bs (ap second h))

bool_inj : (a b : Bool) → bool_flat a ≡ bool_flat b → a ≡ b
bool_inj false false h = refl
bool_inj false true h = absurd (let e : 0 ≡ 1 = ap (λ f. unsigned (number f)) h in omega arith)
bool_inj true false h = absurd (let e : 1 ≡ 0 = ap (λ f. unsigned (number f)) h in omega arith)
bool_inj true true h = refl

mutual
  flat_inj : (a b : Tree) → flat a ≡ flat b → a ≡ b
  flat_inj v_null v_null h = refl
  flat_inj (v_bool a) (v_bool b) h = ap v_bool (bool_inj a b (ap second h))
  flat_inj (v_int a) (v_int b) h = ap v_int (ap (λ f. number (second f)) h)
  flat_inj (v_long a) (v_long b) h = ap v_long (ap (λ f. number (second f)) h)
  flat_inj (v_chars a) (v_chars b) h = ap v_chars (text_inj a b (ap second h))
  flat_inj (v_bytes a) (v_bytes b) h = ap v_bytes (text_inj a b (ap second h))
  flat_inj (v_tuple a) (v_tuple b) h = ap v_tuple (fields_inj a b (ap second h))
  flat_inj (v_bag a) (v_bag b) h = ap v_bag (tuples_inj a b (ap second h))
  flat_inj (v_listed a) (v_listed b) h = ap v_listed (tuples_inj a b (ap second h))
  flat_inj (v_map a) (v_map b) h = ap v_map (entries_inj a b (ap second h))
  flat_inj a b h = absurd (cc)

  fields_inj : (a b : Fields) → fields_flat a ≡ fields_flat b → a ≡ b
  fields_inj no_fields no_fields h = refl
  fields_inj no_fields (more_fields w ws) h = absurd (cc)
  fields_inj (more_fields v vs) no_fields h = absurd (cc)
  fields_inj (more_fields v vs) (more_fields w ws) h =
      ap (λ x. more_fields x vs) (flat_inj v w (ap first h)) ∙ ap (λ x. more_fields w x) (fields_inj vs ws (ap second h))

  tuples_inj : (a b : Tuples) → tuples_flat a ≡ tuples_flat b → a ≡ b
  tuples_inj no_tuples no_tuples h = refl
  tuples_inj no_tuples (more_tuples w ws) h = absurd (cc)
  tuples_inj (more_tuples v vs) no_tuples h = absurd (cc)
  tuples_inj (more_tuples v vs) (more_tuples w ws) h =
      ap (λ x. more_tuples x vs) (fields_inj v w (ap first h)) ∙ ap (λ x. more_tuples w x) (tuples_inj vs ws (ap second h))

  entries_inj : (a b : Entries) → entries_flat a ≡ entries_flat b → a ≡ b
  entries_inj no_entries no_entries h = refl
  entries_inj no_entries (more_entries l w qs) h = absurd (cc)
  entries_inj (more_entries k v ps) no_entries h = absurd (cc)
  entries_inj (more_entries k v ps) (more_entries l w qs) h =
      ap (λ x. more_entries x v ps) (text_inj k l (ap (λ f. first (first f)) h))
      ∙ ap (λ x. more_entries l x ps) (flat_inj v w (ap (λ f. second (first f)) h))
      ∙ ap (λ x. more_entries l w x) (entries_inj ps qs (ap second h))

-- what the order ranks as equal is the same
pub tree_same : (a b : Tree) → tree_cmp a b ≡ Equal → a ≡ b
tree_same a b h = flat_inj a b (flat_same (flat a) (flat b) (tree_flat a b ∙ h))

pub row_same : (a b : List Tree) → row_cmp a b ≡ Equal → a ≡ b
row_same [] [] h = refl
row_same [] (w ∷ ws) h = absurd (cc)
row_same (v ∷ vs) [] h = absurd (cc)
row_same (v ∷ vs) (w ∷ ws) h =
    let both = then_equal (tree_cmp v w) (row_cmp vs ws) h in
    ap (λ x. x ∷ vs) (tree_same v w both.0) ∙ ap (λ x. w ∷ x) (row_same vs ws both.1)

-- the order in directions is total, and what it ranks as equal is the same
dir_back : (d : Dir) (a b : Tree) → dir_cmp d a b ≡ ordering_reverse (dir_cmp d b a)
dir_back dir.Asc a b = tree_total.antisymm a b
dir_back dir.Desc a b = tree_total.antisymm b a

dir_on : (d : Dir) (a b c : Tree) → dir_cmp d a b ≡ Less → dir_cmp d b c ≡ Less → dir_cmp d a c ≡ Less
dir_on dir.Asc a b c h k = tree_total.trans a b c h k
dir_on dir.Desc a b c h k = tree_total.trans c b a k h

pub dir_same : (d : Dir) (a b : Tree) → dir_cmp d a b ≡ Equal → a ≡ b
dir_same dir.Asc a b h = tree_same a b h
dir_same dir.Desc a b h = sym (tree_same b a h)

pub dir_total : (d : Dir) → IsTotalOrder (dir_cmp d)
dir_total d = record { antisymm = dir_back d; trans = dir_on d; congr = λ a b c h. ap (λ x. dir_cmp d x c) (dir_same d a b h) }

pub dirs_same : (ds : List Dir) (a b : List Tree) → dirs_cmp ds a b ≡ Equal → a ≡ b
dirs_same [] a b h = row_same a b h
dirs_same (d ∷ ds) [] b h = row_same [] b h
dirs_same (d ∷ ds) (v ∷ vs) [] h = row_same (v ∷ vs) [] h
dirs_same (d ∷ ds) (v ∷ vs) (w ∷ ws) h =
    let both = then_equal (dir_cmp d v w) (dirs_cmp ds vs ws) h in
    λ i. dir_same d v w both.0 i ∷ dirs_same ds vs ws both.1 i

dirs_back : (ds : List Dir) (a b : List Tree) → dirs_cmp ds a b ≡ ordering_reverse (dirs_cmp ds b a)
dirs_back [] a b = row_total.antisymm a b
dirs_back (d ∷ ds) [] [] = row_total.antisymm [] []
dirs_back (d ∷ ds) [] (w ∷ ws) = row_total.antisymm [] (w ∷ ws)
dirs_back (d ∷ ds) (v ∷ vs) [] = row_total.antisymm (v ∷ vs) []
dirs_back (d ∷ ds) (v ∷ vs) (w ∷ ws) =
    ap (λ r. ordering_then r (dirs_cmp ds vs ws)) (dir_back d v w) ∙ ap (ordering_then (ordering_reverse (dir_cmp d w v))) (dirs_back ds vs ws)
    ∙ sym (reverse_then (dir_cmp d w v) (dirs_cmp ds ws vs))

dirs_on : (ds : List Dir) (a b c : List Tree) → dirs_cmp ds a b ≡ Less → dirs_cmp ds b c ≡ Less → dirs_cmp ds a c ≡ Less
dirs_on [] a b c h k = row_total.trans a b c h k
dirs_on (d ∷ ds) [] [] c h k = absurd (cc)
dirs_on (d ∷ ds) [] (w ∷ ws) [] h k = absurd (cc)
dirs_on (d ∷ ds) [] (w ∷ ws) (u ∷ us) h k = refl
dirs_on (d ∷ ds) (v ∷ vs) [] c h k = absurd (cc)
dirs_on (d ∷ ds) (v ∷ vs) (w ∷ ws) [] h k = absurd (cc)
dirs_on (d ∷ ds) (v ∷ vs) (w ∷ ws) (u ∷ us) h k =
    elim (then_less (dir_cmp d v w) (dirs_cmp ds vs ws) h) [
      | inl first ↦ elim (then_less (dir_cmp d w u) (dirs_cmp ds ws us) k) [
        | inl next ↦ ap (λ r. ordering_then r (dirs_cmp ds vs us)) (dir_on d v w u first next)
        | inr next ↦ ap (λ r. ordering_then r (dirs_cmp ds vs us)) (subst (λ x. dir_cmp d v x ≡ Less) (dir_same d w u next.0) first)
      ]
      | inr first ↦ elim (then_less (dir_cmp d w u) (dirs_cmp ds ws us) k) [
        | inl next ↦ ap (λ r. ordering_then r (dirs_cmp ds vs us)) (subst (λ x. dir_cmp d x u ≡ Less) (sym (dir_same d v w first.0)) next)
        | inr next ↦
            ap (λ r. ordering_then r (dirs_cmp ds vs us)) (subst (λ x. dir_cmp d v x ≡ Equal) (dir_same d w u next.0) first.0)
            ∙ dirs_on ds vs ws us first.1 next.1
      ]
    ]

pub dirs_total : (ds : List Dir) → IsTotalOrder (dirs_cmp ds)
dirs_total ds = record { antisymm = dirs_back ds; trans = dirs_on ds; congr = λ a b c h. ap (λ x. dirs_cmp ds x c) (dirs_same ds a b h) }
