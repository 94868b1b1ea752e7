-- What is added to a plan, to aliases and to the inputs of a UNION, one by one.
use Rattle.std.proofs.Common.{◌≡◌, ◌∙◌, ◌+◌, ◌++◌, ℕ, List, [], ◌∷◌, map, length, true, refl, sym, ap, subst, arith, append_assoc, append-nil}
use Rattle.std.specs.Prelude.{Option, Some, None}
use Rattle.std.proofs.lemmas.List.{length-append, map-append}
use Rattle.pig_typed.specs.Typed.{TypedBlock}
use Rattle.pig_plan.specs.Plans.{Plan, PlanOp, node_of, op_of, plan_of}
use Rattle.pig_plan.specs.declared.nodes.Node.{Node}
use Rattle.pig_plan.specs.declared.nodes.NodeOp.{NodeOp}
use Rattle.pig_plan.specs.Valid.{fits}
use Rattle.pig_relations.specs.Unions.{UnionInput}
use Rattle.pig_check.specs.States.{AllFit, node_of_statement}
use Rattle.pig_check.specs.Unions.{input_number, input_numbers, next_behind, widening_ops, widenings}

-- ---- nodes

-- the next node, and what fits behind it
pub one_added : (statement : ℕ) (nodes next : List Node) (op : NodeOp) (left more : List NodeOp) → left ≡ op ∷ more → next ≡ nodes ++ record { op = op; statement = statement } ∷ []
    → AllFit statement (plan_of nodes) (map op_of left)
    → (fits (plan_of nodes) (node_of_statement statement (op_of op)) ≡ true) × (plan_of next ≡ plan_of nodes ++ node_of_statement statement (op_of op) ∷ []) × AllFit statement (plan_of next) (map op_of more)
one_added statement nodes next op left more e g h =
    let fit = subst (λ l. AllFit statement (plan_of nodes) (map op_of l)) e h in
    let grown : plan_of next ≡ plan_of nodes ++ node_of_statement statement (op_of op) ∷ [] = ap plan_of g ∙ map-append node_of nodes _ in
    (fit.0, grown, subst (λ p. AllFit statement p (map op_of more)) (sym grown) fit.1)

pub first_fits : (statement : ℕ) (nodes : List Node) (op : NodeOp) (left more : List NodeOp) → left ≡ op ∷ more → AllFit statement (plan_of nodes) (map op_of left)
    → fits (plan_of nodes) (node_of_statement statement (op_of op)) ≡ true
first_fits statement nodes op left more e h = (subst (λ l. AllFit statement (plan_of nodes) (map op_of l)) e h).0

pub one_yielded : (statement : ℕ) (old nodes next : Plan) (yielded : List NodeOp) (op : NodeOp) → next ≡ nodes ++ node_of_statement statement (op_of op) ∷ []
    → nodes ≡ old ++ map (node_of_statement statement) (map op_of yielded) → next ≡ old ++ map (node_of_statement statement) (map op_of (yielded ++ op ∷ []))
one_yielded statement old nodes next yielded op e h =
    e ∙ ap (λ p. p ++ node_of_statement statement (op_of op) ∷ []) h
    ∙ append_assoc old (map (node_of_statement statement) (map op_of yielded)) (node_of_statement statement (op_of op) ∷ [])
    ∙ ap (λ l. old ++ l) (sym (map-append (node_of_statement statement) (map op_of yielded) (op_of op ∷ [])) ∙ ap (map (node_of_statement statement)) (sym (map-append op_of yielded (op ∷ []))))

-- ---- the inputs of a UNION

-- the nodes, the numbers and the next number of the inputs so far
pub record AreSoFar (start : ℕ) (ops : List PlanOp) (numbers : List ℕ) (node : ℕ) (is : List UnionInput) : Type 0 where
  pub ops_so_far : ops ≡ widenings is
  pub numbers_so_far : numbers ≡ input_numbers start is
  pub node_so_far : node ≡ start + length (widenings is)

widenings_behind : (is : List UnionInput) (i : UnionInput) → widenings (is ++ i ∷ []) ≡ widenings is ++ widening_ops i.node i.widening
widenings_behind [] i = append-nil (widening_ops i.node i.widening)
widenings_behind (j ∷ is) i = ap (λ l. widening_ops j.node j.widening ++ l) (widenings_behind is i) ∙ sym (append_assoc (widening_ops j.node j.widening) (widenings is) (widening_ops i.node i.widening))

next_is : (n from : ℕ) (w : Option TypedBlock) (more : List PlanOp) → n + length (widening_ops from w ++ more) ≡ next_behind n w + length more
next_is n from None more = refl
next_is n from (Some block) more = omega (arith)

numbers_behind : (start : ℕ) (is : List UnionInput) (i : UnionInput)
    → input_numbers start (is ++ i ∷ []) ≡ input_numbers start is ++ input_number (start + length (widenings is)) i.node i.widening ∷ []
numbers_behind start [] i = let e : start + 0 ≡ start = omega (arith) in ap (λ n. input_number n i.node i.widening ∷ []) (sym e)
numbers_behind start (j ∷ is) i =
    ap (λ l. input_number start j.node j.widening ∷ l)
    (numbers_behind (next_behind start j.widening) is i
    ∙ ap (λ n. input_numbers (next_behind start j.widening) is ++ input_number n i.node i.widening ∷ []) (sym (next_is start j.node j.widening (widenings is))))

end_is : (n from : ℕ) (w : Option TypedBlock) → next_behind n w ≡ n + length (widening_ops from w)
end_is n from None = omega (arith)
end_is n from (Some block) = refl

pub one_input : (start : ℕ) (ops next_ops : List PlanOp) (numbers next_numbers : List ℕ) (node next : ℕ) (is : List UnionInput) (i : UnionInput)
    → next_ops ≡ ops ++ widening_ops i.node i.widening → next_numbers ≡ numbers ++ input_number node i.node i.widening ∷ [] → next ≡ next_behind node i.widening
    → AreSoFar start ops numbers node is → AreSoFar start next_ops next_numbers next (is ++ i ∷ [])
one_input start ops next_ops numbers next_numbers node next is i e g w h = record {
  ops_so_far = e ∙ ap (λ l. l ++ widening_ops i.node i.widening) h.ops_so_far ∙ sym (widenings_behind is i);
  numbers_so_far =
      g ∙ (λ j. h.numbers_so_far j ++ input_number (h.node_so_far j) i.node i.widening ∷ [])
      ∙ sym (numbers_behind start is i);
  node_so_far =
      w ∙ end_is node i.node i.widening
      ∙ (let e : node + length (widening_ops i.node i.widening) ≡ start + (length (widenings is) + length (widening_ops i.node i.widening)) = omega (arith, h.node_so_far) in e)
      ∙ ap (λ n. start + n) (sym (length-append (widenings is) (widening_ops i.node i.widening)) ∙ ap length (sym (widenings_behind is i)));
}
