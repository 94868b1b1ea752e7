-- Moves in place keep what a table tells of readers; FILTERs that become one do so in turn.
use Rattle.std.specs.Prelude.{◌≡◌, ◌<◌, ◌==◌, ◌&&◌, ◌||◌, ◌⊎◌, ℕ, Bool, true, false, List, length, MatchOption, Option, None, Some, get_or, slice_get, slice_set, refl, if◌then◌else◌}
use Rattle.std.proofs.Common.{ap, sym, ◌∙◌, subst, arith, cond, true≢false, inl, inr}
use Rattle.std.proofs.lemmas.Bool.{eq-eqb, eqb-true}
use Rattle.std.proofs.lemmas.Option.{none-some, slice_get_within}
use Rattle.pig_value.proofs.list_laws.Bags.{either_way}
use Rattle.pig_value.proofs.list_laws.Listing.{some_same}
use Rattle.pig_plan.proofs.Exchanged.{set_length, set_other, set_there}
use Rattle.pig_plan.proofs.Lower.{names_lower}
use Rattle.pig_typed.specs.Typed.{Typed}
use Rattle.pig_plan.specs.Meaning.{width_at}
use Rattle.pig_plan.specs.Nodes.{names}
use Rattle.pig_plan.specs.Plans.{Plan, PlanNode, PlanOp, p_filter}
use Rattle.pig_plan.specs.Valid.{IsPlan}
use Rattle.pig_moves.specs.Pushed.{AreMoves, IsMove, high_of, low_of, one_more}
use Rattle.pig_moves.proofs.Change.{Shape, shape_at}
use Rattle.pig_moves.proofs.Keeps.{node_with}
use Rattle.pig_push.specs.Lone.{AreSound, CountedOn, IsCountedOn, IsLone, NotBoth, NotBothBut, StepsOn, is_often, is_shared, where_read}
use Rattle.pig_push.specs.declared.readers.ReadCount.{ReadCount}
use Rattle.pig_push.specs.declared.readers.ReadCount.TheVariants as readers

module _ (p q : Plan) (valid : IsPlan p) (i k : ℕ) (m : IsMove p q i k) where
  abbrev pub low : PlanNode
  low = node_with (low_of (width_at p) m.can.below.op m.can.cond) m.can.statement

  abbrev pub high : PlanNode
  high = node_with (high_of (width_at p) i m.can.below.op m.can.cond) m.can.below.statement

  abbrev filter : PlanNode
  filter = node_with (p_filter i m.can.cond) m.can.statement

  shape : Shape i m.can.below.op low.op high.op
  shape = shape_at (width_at p) i m.can.cond m.can.below.op m.can.passes

  down : i < k
  down = (names_lower p valid k filter m.can.above).0

  within : k < length p
  within = slice_get_within p k filter m.can.above

  pub stands_low : slice_get q i ≡ Some low
  stands_low =
      let less = down in
      let inside = within in
      ap (λ xs. slice_get xs i) m.is ∙ set_other (slice_set p i low) k i high (λ e. omega (arith, e, less)) ∙ set_there p i low (omega (arith, less, inside))

  pub stands_high : slice_get q k ≡ Some high
  stands_high =
      let inside = within in
      let long = set_length p i low in
      ap (λ xs. slice_get xs k) m.is ∙ set_there (slice_set p i low) k high (omega (arith, inside, long))

  data Place (n : ℕ) (v : PlanNode) : Type 0 where
    at_low : n ≡ i → low ≡ v → Place n v
    at_high : n ≡ k → high ≡ v → Place n v
    elsewhere : (n ≡ i → ⊥) → (n ≡ k → ⊥) → slice_get p n ≡ Some v → Place n v

  place : (n : ℕ) (v : PlanNode) → slice_get q n ≡ Some v → Place n v
  place n v at =
      either_way (n == k)
      (λ e. let is = eqb-true n k e in at_high is (some_same high v (sym stands_high ∙ ap (slice_get q) (sym is) ∙ at)))
      (λ d.
      let other : n ≡ k → ⊥ = λ is. true≢false (sym (eq-eqb n k is) ∙ d) in
      either_way (n == i)
      (λ e. let is = eqb-true n i e in at_low is (some_same low v (sym stands_low ∙ ap (slice_get q) (sym is) ∙ at)))
      (λ f.
      let apart : n ≡ i → ⊥ = λ is. true≢false (sym (eq-eqb n i is) ∙ f) in
      elsewhere apart other (sym (set_other p i n low apart) ∙ sym (set_other (slice_set p i low) k n high other) ∙ sym (ap (λ xs. slice_get xs n) m.is) ∙ at)))

  -- what reads a node then, where no two did
  module _ (x : ℕ) (lone : IsLone p x) (not_both : (names low.op x && names high.op x) ≡ false) where
    both_is : names low.op x ≡ true → names high.op x ≡ true → ⊥
    both_is a b = true≢false (sym (λ z. a z && b z) ∙ not_both)

    -- the upper node reads it as the lower one did, or is the only one to read the lower one
    low_with : (n : ℕ) (v : PlanNode) → slice_get p n ≡ Some v → names v.op x ≡ true → names m.can.below.op x ≡ true → n ≡ i
    low_with n v at name other = lone n i v m.can.below at m.can.stands name other

    high_with : (n : ℕ) (v : PlanNode) → (n ≡ i → ⊥) → slice_get p n ≡ Some v → names v.op x ≡ true → (x ≡ i) ⊎ (names m.can.below.op x ≡ true) → n ≡ k
    high_with n v apart at name (inl is) = m.can.only n v at (ap (names v.op) (sym is) ∙ name)
    high_with n v apart at name (inr other) = absurd (apart (low_with n v at name other))

    name_low : (v : PlanNode) → low ≡ v → names v.op x ≡ true → names low.op x ≡ true
    name_low v is name = ap (λ u. names u.op x) is ∙ name

    name_high : (v : PlanNode) → high ≡ v → names v.op x ≡ true → names high.op x ≡ true
    name_high v is name = ap (λ u. names u.op x) is ∙ name

    same : (n l : ℕ) (v w : PlanNode) → Place n v → Place l w → names v.op x ≡ true → names w.op x ≡ true → n ≡ l
    same n l v w (at_low e f) (at_low g h) a b = e ∙ sym g
    same n l v w (at_low e f) (at_high g h) a b = absurd (both_is (name_low v f a) (name_high w h b))
    same n l v w (at_low e f) (elsewhere apart other at) a b = absurd (apart (low_with l w at b (shape.from_low x (name_low v f a))))
    same n l v w (at_high e f) (at_low g h) a b = absurd (both_is (name_low w h b) (name_high v f a))
    same n l v w (at_high e f) (at_high g h) a b = e ∙ sym g
    same n l v w (at_high e f) (elsewhere apart other at) a b = absurd (other (high_with l w apart at b (shape.from_high x (name_high v f a))))
    same n l v w (elsewhere apart other at) (at_low g h) a b = absurd (apart (low_with n v at a (shape.from_low x (name_low w h b))))
    same n l v w (elsewhere apart other at) (at_high g h) a b = absurd (other (high_with n v apart at a (shape.from_high x (name_high w h b))))
    same n l v w (elsewhere apart other at) (elsewhere far else_where at_w) a b = lone n l v w at at_w a b

    pub still_lone : IsLone q x
    still_lone n l v w at there a b = same n l v w (place n v at) (place l w there) a b

-- ---- the table of a step

still_sound : (p q : Plan) (valid : IsPlan p) (i k : ℕ) (m : IsMove p q i k) (old new : List ReadCount) → AreSound p old → CountedOn q old new i k → AreSound q new
still_sound p q valid i k m old new sound counted x e =
    let told = counted x e in
    still_lone p q valid i k m x (sound x told.was) (told.not_both (low p q valid i k m) (high p q valid i k m) (stands_low p q valid i k m) (stands_high p q valid i k m))

pub steps_by_move : (p q : Plan) → IsPlan p → IsPlan q → (i k : ℕ) → IsMove p q i k → (old new : List ReadCount) → AreSound p old → CountedOn q old new i k → StepsOn p q new
steps_by_move p q valid valid_q i k m old new sound counted = record {
  goes = λ before moves. one_more p q i k moves valid_q m;
  sound = still_sound p q valid i k m old new sound counted;
}

pub steps_none : (p q : Plan) (old new : List ReadCount) → q ≡ p → new ≡ old → AreSound p old → StepsOn p q new
steps_none p q old new same kept sound = record {
  goes = λ before moves. subst (AreMoves before) (sym same) moves;
  sound = λ x e. subst (λ r. IsLone r x) (sym same) (sound x (ap (λ t. is_shared t x) (sym kept) ∙ e));
}

-- ---- what both read

not_named : (a b : Bool) → a ≡ false → (a && b) ≡ false
not_named a b h = ap (λ c. c && b) h

pub both_none : (i : ℕ) (c : Typed) (u : PlanOp) → None ≡ where_read i u → NotBoth (p_filter i c) u
both_none i c u told x = by_same (i == x) refl
  where
    unread : (b : Bool) → names u i ≡ b → None ≡ cond b (Some i) None → b ≡ false
    unread true e h = absurd (none-some i h)
    unread false e h = refl

    free : names u i ≡ false
    free = unread (names u i) refl told

    by_same : (b : Bool) → (i == x) ≡ b → (((i == x) || false) && names u x) ≡ false
    by_same true e = (λ z. (e z || false) && names u x) ∙ ap (names u) (sym (eqb-true i x e)) ∙ free
    by_same false e = ap (λ b. (b || false) && names u x) e

pub both_some : (i j : ℕ) (c : Typed) (u : PlanOp) → Some j ≡ where_read i u → NotBothBut j (p_filter i c) u
both_some i j c u told x apart = by_same (i == x) refl
  where
    same : (b : Bool) → Some j ≡ cond b (Some i) None → j ≡ i
    same true h = some_same j i h
    same false h = absurd (none-some j (sym h))

    by_same : (b : Bool) → (i == x) ≡ b → (((i == x) || false) && names u x) ≡ false
    by_same true e = absurd (apart (sym (eqb-true i x e) ∙ sym (same (names u i) told)))
    by_same false e = ap (λ b. (b || false) && names u x) e

pub both_read : (o : Option ℕ) (i : ℕ) (c : Typed) (u : PlanOp) → o ≡ where_read i u → MatchOption o (NotBoth (p_filter i c) u) (λ j. NotBothBut j (p_filter i c) u)
both_read None i c u told = both_none i c u told
both_read (Some j) i c u told = both_some i j c u told

pub counted_none : (q : Plan) (old new : List ReadCount) (low high : ℕ) (v w : PlanNode) → slice_get q low ≡ Some v → slice_get q high ≡ Some w → NotBoth v.op w.op → new ≡ old → CountedOn q old new low high
counted_none q old new low high v w at there none same x e = record {
  was = ap (λ t. is_shared t x) (sym same) ∙ e;
  not_both = λ a b is over. (λ z. names (some_same a v (sym is ∙ at) z).op x && names (some_same b w (sym over ∙ there) z).op x) ∙ none x;
}

pub counted_some : (q : Plan) (old new : List ReadCount) (low high i : ℕ) (v w : PlanNode) → slice_get q low ≡ Some v → slice_get q high ≡ Some w → NotBothBut i v.op w.op
    → ((k : ℕ) → get_or new k readers.Never ≡ (if i == k then readers.Often else get_or old k readers.Never)) → CountedOn q old new low high
counted_some q old new low high i v w at there but told x e = by_same (i == x) refl
  where
    by_same : (b : Bool) → (i == x) ≡ b → IsCountedOn q old new low high x
    by_same true f = absurd (true≢false (sym (ap is_often (told x ∙ ap (λ b. if b then readers.Often else get_or old x readers.Never) f)) ∙ e))
    by_same false f = record {
      was = sym (ap is_often (told x ∙ ap (λ b. if b then readers.Often else get_or old x readers.Never) f)) ∙ e;
      not_both = λ a b is over.
          (λ z. names (some_same a v (sym is ∙ at) z).op x && names (some_same b w (sym over ∙ there) z).op x)
          ∙ but x (λ g. true≢false (sym (eq-eqb i x (sym g)) ∙ f));
    }
