-- Steps of the loops that read items, one after another, and what a kind's case is by its parts.
use Rattle.std.proofs.Common.{◌≡◌, ◌+◌, ◌<◌, ℕ, List, ◌∷◌, length, map, drop, get_or, Option, None, Some, refl, sym, ◌∙◌, ap, arith}
use Rattle.std.specs.Option.{option_and_then, option_map}
use Rattle.std.proofs.lemmas.List.{drop_more, get_or-map, length-map}
use Rattle.pig_value.specs.declared.values.Kind.{Kind}
use Rattle.pig_value.specs.declared.values.Kind.TheVariants as kind_form
use Rattle.pig_value.specs.Fields.{entries_by_key}
use Rattle.pig_value.specs.FieldReader.{all_of, case_of, fields_in, pair_in, pairs_in, row_in, rows_in, value_in}
use Rattle.pig_value.specs.Orders.{bag_of}
use Rattle.pig_value.proofs.TreeLaws.{kind_tree-Tuple, kind_tree-Bag, kind_tree-Map}
use Rattle.pig_value.specs.Trees.{Tree, v_tuple, v_bag, v_map, fields_of, tuples_of, entries_of, kind_tree, kinds_of}

-- Items that each have to read as something. What is read so far goes on by `step`; `done` is what comes of it
-- with the rest.
module _ {X Y A Z : Type 0} (f : X → Option Y) (done : A → List Y → Z) (step : A → Y → A) (steps : (a : A) (y : Y) (ys : List Y) → done a (y ∷ ys) ≡ done (step a y) ys) where
  first_read : (y : Y) (a : A) (o : Option (List Y)) → option_map (done a) (option_map (λ ys. y ∷ ys) o) ≡ option_map (done (step a y)) o
  first_read y a None = refl
  first_read y a (Some ys) = ap Some (steps a y ys)

  pub all_more : (xs : List X) (i : ℕ) (x : X) (y : Y) (a next : A) (whole : Option Z) → i < length xs → get_or xs i x ≡ x → f x ≡ Some y → next ≡ step a y → option_map (done a) (all_of f (drop i xs)) ≡ whole → option_map (done next) (all_of f (drop (i + 1) xs)) ≡ whole
  all_more xs i x y a next whole within at read grown so_far =
      let rest : List X = drop (i + 1) xs in
      let here : drop i xs ≡ x ∷ rest = drop_more xs i x within ∙ ap (λ z. z ∷ rest) at in
      let first : all_of f (drop i xs) ≡ option_map (λ ys. y ∷ ys) (all_of f rest) = ap (all_of f) here ∙ ap (option_and_then (λ z. option_map (λ zs. z ∷ zs) (all_of f rest))) read in
      ap (λ b. option_map (done b) (all_of f rest)) grown ∙ (sym (first_read y a (all_of f rest)) ∙ (ap (option_map (done a)) (sym first) ∙ so_far))

  pub all_stops : (xs : List X) (i : ℕ) (x : X) (a : A) (whole : Option Z) → i < length xs → get_or xs i x ≡ x → f x ≡ None → option_map (done a) (all_of f (drop i xs)) ≡ whole → None ≡ whole
  all_stops xs i x a whole within at stops so_far =
      let rest : List X = drop (i + 1) xs in
      let here : drop i xs ≡ x ∷ rest = drop_more xs i x within ∙ ap (λ z. z ∷ rest) at in
      let none : all_of f (drop i xs) ≡ None = ap (all_of f) here ∙ ap (option_and_then (λ z. option_map (λ zs. z ∷ zs) (all_of f rest))) stops in
      ap (option_map (done a)) (sym none) ∙ so_far

-- the same for items and results that are seen by a view
module _ {T X Y V A Z : Type 0} (view : T → X) (seen : V → Y) (f : X → Option Y) (done : A → List Y → Z) (step : A → Y → A) (steps : (a : A) (y : Y) (ys : List Y) → done a (y ∷ ys) ≡ done (step a y) ys) where
  within_map : (texts : List T) (i : ℕ) → i < length texts → i < length (map view texts)
  within_map texts i within = omega (arith, length-map texts view)

  at_map : (texts : List T) (i : ℕ) (text : T) → i < length texts → text ≡ get_or texts i text → get_or (map view texts) i (view text) ≡ view text
  at_map texts i text within at = get_or-map view texts i text (view text) within ∙ ap view (sym at)

  pub reads_more : (texts : List T) (i : ℕ) (text : T) (o : Option V) (v : V) (a next : A) (whole : Option Z) → i < length texts → text ≡ get_or texts i text → option_map seen o ≡ f (view text) → o ≡ Some v → next ≡ step a (seen v) → option_map (done a) (all_of f (drop i (map view texts))) ≡ whole → option_map (done next) (all_of f (drop (i + 1) (map view texts))) ≡ whole
  reads_more texts i text o v a next whole within at read is grown so_far =
      all_more f done step steps (map view texts) i (view text) (seen v) a next whole (within_map texts i within) (at_map texts i text within at) (sym read ∙ ap (option_map seen) is) grown so_far

  pub reads_none : (texts : List T) (i : ℕ) (text : T) (o : Option V) (a : A) (whole : Option Z) → i < length texts → text ≡ get_or texts i text → option_map seen o ≡ f (view text) → o ≡ None → option_map (done a) (all_of f (drop i (map view texts))) ≡ whole → None ≡ whole
  reads_none texts i text o a whole within at read is so_far =
      all_stops f done step steps (map view texts) i (view text) a whole (within_map texts i within) (at_map texts i text within at) (sym read ∙ ap (option_map seen) is) so_far

-- the cases of a tuple, a bag and a map by what their bodies read as
pub tuple_case : (kind : Kind) (ks kinds : List Kind) (bytes : List ℕ) (row : Option (List Tree)) (value : Option Tree) → kind ≡ kind_form.Tuple ks → kinds ≡ ks → row ≡ row_in (fields_in (kinds_of (map kind_tree kinds))) bytes → value ≡ option_map (λ r. v_tuple (fields_of r)) row → value ≡ case_of (kind_tree kind) bytes
tuple_case kind ks kinds bytes row value is same read made =
    made ∙ (ap (option_map (λ r. v_tuple (fields_of r))) (read ∙ ap (λ l. row_in (fields_in (kinds_of (map kind_tree l))) bytes) same) ∙ ap (λ k. case_of k bytes) (sym (ap kind_tree is ∙ kind_tree-Tuple ks)))

pub bag_case : (kind : Kind) (ks kinds : List Kind) (bytes : List ℕ) (rows : Option (List (List Tree))) (value : Option Tree) → kind ≡ kind_form.Bag ks → kinds ≡ ks → rows ≡ rows_in (row_in (fields_in (kinds_of (map kind_tree kinds)))) bytes → value ≡ option_map (λ rs. v_bag (tuples_of (bag_of rs))) rows → value ≡ case_of (kind_tree kind) bytes
bag_case kind ks kinds bytes rows value is same read made =
    made ∙ (ap (option_map (λ rs. v_bag (tuples_of (bag_of rs)))) (read ∙ ap (λ l. rows_in (row_in (fields_in (kinds_of (map kind_tree l)))) bytes) same) ∙ ap (λ k. case_of k bytes) (sym (ap kind_tree is ∙ kind_tree-Bag ks)))

map_twice : {X Y Z : Type 0} (f : Y → Z) (g : X → Y) (o : Option X) → option_map f (option_map g o) ≡ option_map (λ x. f (g x)) o
map_twice f g None = refl
map_twice f g (Some x) = refl

pub map_case : (kind of inner : Kind) (bytes : List ℕ) (pairs : Option (List (List ℕ × Tree))) (value : Option Tree) → kind ≡ kind_form.Map of → inner ≡ of → pairs ≡ option_map entries_by_key (pairs_in (pair_in (value_in (case_of (kind_tree inner)))) bytes) → value ≡ option_map (λ ps. v_map (entries_of ps)) pairs → value ≡ case_of (kind_tree kind) bytes
map_case kind of inner bytes pairs value is same read made =
    made ∙ (ap (option_map (λ ps. v_map (entries_of ps))) (read ∙ ap (λ k. option_map entries_by_key (pairs_in (pair_in (value_in (case_of (kind_tree k)))) bytes)) same) ∙ (map_twice (λ ps. v_map (entries_of ps)) entries_by_key (pairs_in (pair_in (value_in (case_of (kind_tree of)))) bytes) ∙ ap (λ k. case_of k bytes) (sym (ap kind_tree is ∙ kind_tree-Map of))))
