-- The table of a pass tells exactly which nodes no two others read; moves in place keep what it tells.
use Rattle.std.specs.Prelude.{◌≡◌, ◌<◌, ◌+◌, ◌==◌, ◌||◌, not, ℕ, Bool, true, false, List, [], ◌∷◌, ◌++◌, length, Some, slice_get, refl, if◌then◌else◌}
use Rattle.std.proofs.Common.{ap, sym, ◌∙◌, subst, arith, cond, true≢false, append_assoc, append-nil}
use Rattle.std.specs.List.{list_any}
use Rattle.std.proofs.lemmas.Bool.{eq-eqb, eqb-true}
use Rattle.std.proofs.lemmas.List.{length-append}
use Rattle.std.proofs.lemmas.Option.{none-some, slice_get_past, slice_get_within}
use Rattle.pig_value.proofs.list_laws.Bags.{either_way}
use Rattle.pig_plan.proofs.Unfolds.{get-front}
use Rattle.pig_plan.specs.Nodes.{IsOnlyUse, inputs_of, names}
use Rattle.pig_plan.specs.Plans.{Plan, PlanNode}
use Rattle.pig_moves.proofs.Steps.{Stands, before, last, stands, there_last}
use Rattle.pig_push.specs.Lone.{AreExact, AreReaders, AreSound, IsLone, is_often, noted, noted_by, noted_in}
use Rattle.pig_push.specs.declared.readers.ReadCount.{ReadCount}
use Rattle.pig_push.specs.declared.readers.ReadCount.TheVariants as readers

-- ---- one node's inputs

noted_twice : (user : ℕ) (found : ReadCount) → noted user (noted user found) ≡ noted user found
noted_twice user readers.Never = ap (λ b. if b then readers.Once user else readers.Often) (eq-eqb user user refl)
noted_twice user (readers.Once other) = by_test (other == user) refl
  where
    by_test : (b : Bool) → (other == user) ≡ b → noted user (cond b (readers.Once other) readers.Often) ≡ cond b (readers.Once other) readers.Often
    by_test true e = ap (λ b. if b then readers.Once other else readers.Often) e
    by_test false e = refl
noted_twice user readers.Often = refl

-- a node that reads it at all is one more reader
noted_once : (k user : ℕ) (inputs : List ℕ) (found : ReadCount) → noted_in k user inputs found ≡ cond (list_any (λ i. i == k) inputs) (noted user found) found
noted_once k user [] found = refl
noted_once k user (i ∷ inputs) found = by_test (i == k) refl (λ r. noted_once k user inputs r)
  where
    again : (b : Bool) → cond b (noted user (noted user found)) (noted user found) ≡ noted user found
    again true = noted_twice user found
    again false = refl

    by_test : (b : Bool) → (i == k) ≡ b → ((r : ReadCount) → noted_in k user inputs r ≡ cond (list_any (λ j. j == k) inputs) (noted user r) r)
        → noted_in k user inputs (cond (i == k) (noted user found) found) ≡ cond ((i == k) || list_any (λ j. j == k) inputs) (noted user found) found
    by_test true e rest =
        ap (λ b. noted_in k user inputs (cond b (noted user found) found)) e ∙ rest (noted user found) ∙ again (list_any (λ j. j == k) inputs)
        ∙ ap (λ b. cond (b || list_any (λ j. j == k) inputs) (noted user found) found) (sym e)
    by_test false e rest =
        ap (λ b. noted_in k user inputs (cond b (noted user found) found)) e ∙ rest found
        ∙ ap (λ b. cond (b || list_any (λ j. j == k) inputs) (noted user found) found) (sym e)

-- ---- what is told of nodes

module _ (k : ℕ) where
  record Reads (q : Plan) (n : ℕ) : Type 0 where
    node : PlanNode
    stands_at : slice_get q n ≡ Some node
    name : names node.op k ≡ true

  record Two (q : Plan) : Type 0 where
    one : ℕ
    other : ℕ
    first : Reads q one
    second : Reads q other
    apart : one ≡ other → ⊥

  record Alone (q : Plan) (u : ℕ) : Type 0 where
    reads : Reads q u
    only : (n : ℕ) → Reads q n → n ≡ u

  abbrev Tells : Plan → ReadCount → Type 0
  Tells q readers.Never = (n : ℕ) → Reads q n → ⊥
  Tells q (readers.Once u) = Alone q u
  Tells q readers.Often = Two q

  module _ (q : Plan) (v : PlanNode) where
    longer : (n : ℕ) → Reads q n → Reads (q ++ v ∷ []) n
    longer n r = record { node = r.node; stands_at = get-front q (v ∷ []) n (slice_get_within q n r.node r.stands_at) ∙ r.stands_at; name = r.name }

    data From (n : ℕ) : Type 0 where
      old : Reads q n → From n
      new : n ≡ length q → names v.op k ≡ true → From n

    from : (n : ℕ) → Reads (q ++ v ∷ []) n → From n
    from n r = by_place (stands q v r.node n r.stands_at)
      where
        by_place : Stands q v n r.node → From n
        by_place (before e) = old (record { node = r.node; stands_at = e; name = r.name })
        by_place (last e f) = new e (ap (λ w. names w.op k) f ∙ r.name)

    own : names v.op k ≡ true → Reads (q ++ v ∷ []) (length q)
    own h = record { node = v; stands_at = there_last q v (length q) refl; name = h }

    -- it doesn't read it
    stays : names v.op k ≡ false → (found : ReadCount) → Tells q found → Tells (q ++ v ∷ []) found
    stays unread readers.Never h = λ n r. by_from n (from n r)
      where
        by_from : (n : ℕ) → From n → ⊥
        by_from n (old r) = h n r
        by_from n (new e name) = true≢false (sym name ∙ unread)
    stays unread (readers.Once u) h = record { reads = longer u h.reads; only = λ n r. by_from n (from n r) }
      where
        by_from : (n : ℕ) → From n → n ≡ u
        by_from n (old r) = h.only n r
        by_from n (new e name) = absurd (true≢false (sym name ∙ unread))
    stays unread readers.Often h = record { one = h.one; other = h.other; first = longer h.one h.first; second = longer h.other h.second; apart = h.apart }

    -- it does
    one_more : names v.op k ≡ true → (found : ReadCount) → Tells q found → Tells (q ++ v ∷ []) (noted (length q) found)
    one_more read readers.Never h = record { reads = own read; only = λ n r. by_from n (from n r) }
      where
        by_from : (n : ℕ) → From n → n ≡ length q
        by_from n (old r) = absurd (h n r)
        by_from n (new e name) = e
    one_more read (readers.Once u) h = by_test (u == length q) refl
      where
        behind : u < length q
        behind = slice_get_within q u h.reads.node h.reads.stands_at

        by_test : (b : Bool) → (u == length q) ≡ b → Tells (q ++ v ∷ []) (cond b (readers.Once u) readers.Often)
        by_test true e = let is = eqb-true u (length q) e in let less = behind in absurd (omega (arith, is, less))
        by_test false e = let less = behind in record { one = u; other = length q; first = longer u h.reads; second = own read; apart = λ is. omega (arith, is, less) }
    one_more read readers.Often h = record { one = h.one; other = h.other; first = longer h.one h.first; second = longer h.other h.second; apart = h.apart }

    told : (found : ReadCount) → Tells q found → Tells (q ++ v ∷ []) (noted_in k (length q) (inputs_of v.op) found)
    told found h =
        either_way (names v.op k)
        (λ e. subst (Tells (q ++ v ∷ [])) (sym (noted_once k (length q) (inputs_of v.op) found ∙ ap (λ b. cond b (noted (length q) found) found) e)) (one_more e found h))
        (λ e. subst (Tells (q ++ v ∷ [])) (sym (noted_once k (length q) (inputs_of v.op) found ∙ ap (λ b. cond b (noted (length q) found) found) e)) (stays e found h))

  told_all : (q rest : Plan) (at : ℕ) (found : ReadCount) → at ≡ length q → Tells q found → Tells (q ++ rest) (noted_by k at rest found)
  told_all q [] at found is h = subst (λ p. Tells p found) (sym (append-nil q)) h
  told_all q (v ∷ rest) at found is h =
      let size : length (q ++ v ∷ []) ≡ length q + 1 = length-append q (v ∷ []) in
      subst (λ p. Tells p (noted_by k (at + 1) rest (noted_in k at (inputs_of v.op) found))) (append_assoc q (v ∷ []) rest)
      (told_all (q ++ v ∷ []) rest (at + 1) (noted_in k at (inputs_of v.op) found) (omega (arith, is, size))
      (subst (λ n. Tells (q ++ v ∷ []) (noted_in k n (inputs_of v.op) found)) (sym is) (told q v found h)))

  none_reads : (n : ℕ) → Reads [] n → ⊥
  none_reads n r = none-some r.node (sym (slice_get_past [] n (omega arith)) ∙ r.stands_at)

  of_all : (p : Plan) → Tells p (noted_by k 0 p readers.Never)
  of_all p = told_all [] p 0 readers.Never refl none_reads

  sound_by : (p : Plan) (found : ReadCount) → Tells p found → is_often found ≡ false → IsLone p k
  sound_by p readers.Never h e = λ n m v w at there name other. absurd (h n (record { node = v; stands_at = at; name = name }))
  sound_by p (readers.Once u) h e = λ n m v w at there name other.
      h.only n (record { node = v; stands_at = at; name = name }) ∙ sym (h.only m (record { node = w; stands_at = there; name = other }))
  sound_by p readers.Often h e = absurd (true≢false e)

  exact_by : (p : Plan) (found : ReadCount) → Tells p found → is_often found ≡ true → IsLone p k → ⊥
  exact_by p readers.Never h e lone = true≢false (sym e)
  exact_by p (readers.Once u) h e lone = true≢false (sym e)
  exact_by p readers.Often h e lone = h.apart (lone h.one h.other h.first.node h.second.node h.first.stands_at h.second.stands_at h.first.name h.second.name)

pub sound_of : (p : Plan) (table : List ReadCount) → AreReaders p table → AreSound p table
sound_of p table are i e = sound_by i p (noted_by i 0 p readers.Never) (of_all i p) (sym (ap is_often (are i)) ∙ e)

pub exact_of : (p : Plan) (table : List ReadCount) → AreReaders p table → AreExact p table
exact_of p table are i e = exact_by i p (noted_by i 0 p readers.Never) (of_all i p) (sym (ap is_often (are i)) ∙ e)

-- ---- a node that reads it is the only one

pub only_of_lone : (p : Plan) (i k : ℕ) (v : PlanNode) → slice_get p k ≡ Some v → names v.op i ≡ true → IsLone p i → IsOnlyUse p i k
only_of_lone p i k v at name lone = λ n w there other. lone n k w v there at other name

pub lone_of_only : (p : Plan) (i k : ℕ) → IsOnlyUse p i k → IsLone p i
lone_of_only p i k only = λ n m v w at there name other. only n v at name ∙ sym (only m w there other)

-- ---- what the test of the table tells

pub unshared : (shared lone : Bool) → lone ≡ not shared → lone ≡ true → shared ≡ false
unshared true lone is h = absurd (true≢false (sym h ∙ is))
unshared false lone is h = refl

pub shared_is : (shared lone : Bool) → lone ≡ not shared → lone ≡ false → shared ≡ true
shared_is true lone is h = refl
shared_is false lone is h = absurd (true≢false (sym is ∙ h))
