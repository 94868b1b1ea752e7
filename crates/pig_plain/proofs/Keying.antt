-- The entries of inputs by key, one input after another.
use Rattle.std.specs.Prelude.{◌≡◌, ◌+◌, ◌≤◌, ◌-◌, ◌==◌, ℕ, true, List, [], ◌∷◌, ◌++◌, map, length, drop, take, get_or, refl}
use Rattle.std.specs.List.{list_any}
use Rattle.std.proofs.Common.{ap, sym, subst, arith, ◌∙◌}
use Rattle.std.proofs.lemmas.List.{append_assoc, take_all}
use Rattle.pig_value.specs.Gathering.{Entry}
use Rattle.pig_value.specs.Trees.{Tree}
use Rattle.pig_value.specs.Valid.{IsValue}
use Rattle.pig_typed.specs.Typed.{typed}
use Rattle.pig_plan.specs.Laws.{KeyLiteralsAre}
use Rattle.pig_plan.specs.Operators.{keyed_entries}
use Rattle.pig_plan.specs.Plans.{Keyed, keyed_of}
use Rattle.pig_plan.specs.declared.nodes.KeyedInput.{KeyedInput}
use Rattle.pig_operators.specs.Keying.{keyed_rows}
use Rattle.pig_plain.proofs.Tables.{first_named, named_behind}

-- entries go by the rows of the nodes that are named
pub keyed_named : (place : ℕ) (inputs : List Keyed) (f g : ℕ → List (List Tree)) → ((k : ℕ) → list_any (λ i. i == k) (map (λ i. i.input) inputs) ≡ true → f k ≡ g k)
    → keyed_entries place inputs f ≡ keyed_entries place inputs g
keyed_named place [] f g same = refl
keyed_named place (input ∷ inputs) f g same =
    (λ i. keyed_rows input.keys place (same input.input (first_named input.input (map (λ x. x.input) inputs)) i)
    ++ keyed_named (place + 1) inputs f g (λ k named. same k (named_behind input.input k (map (λ x. x.input) inputs) named)) i)

-- the entries of one input more
pub entries_go_on : (left : List KeyedInput) (input : KeyedInput) → 1 ≤ length left → input ≡ get_or left 0 input → (f g : ℕ → List (List Tree)) (place next : ℕ) → next ≡ place + 1
    → (done more whole : List Entry) → more ≡ done ++ keyed_rows (map typed input.keys) place (f input.input) → done ++ keyed_entries place (map keyed_of left) f ≡ whole
    → ((k : ℕ) → list_any (λ i. i == k) (map (λ i. i.input) (map keyed_of (take (length left - 1) (drop 1 left)))) ≡ true → g k ≡ f k)
    → more ++ keyed_entries next (map keyed_of (take (length left - 1) (drop 1 left))) g ≡ whole
entries_go_on [] input some is f g place next after done more whole told so_far same = absurd (omega (arith, some))
entries_go_on (x ∷ left) input some is f g place next after done more whole told so_far same =
    let rest : List Keyed = map keyed_of (take (length (x ∷ left) - 1) left) in
    let all : rest ≡ map keyed_of left = ap (map keyed_of) (take_all (length (x ∷ left) - 1) left (omega arith)) in
    (λ i. told i ++ keyed_entries (after i) rest g)
    ∙ append_assoc done (keyed_rows (map typed input.keys) place (f input.input)) (keyed_entries (place + 1) rest g)
    ∙ ap (λ es. done ++ (keyed_rows (map typed input.keys) place (f input.input) ++ es)) (keyed_named (place + 1) rest g f same ∙ ap (λ ks. keyed_entries (place + 1) ks f) all)
    ∙ ap (λ (k : KeyedInput). done ++ (keyed_rows (map typed k.keys) place (f k.input) ++ keyed_entries (place + 1) (map keyed_of left) f)) is
    ∙ so_far

pub literals_behind : (left : List KeyedInput) → 1 ≤ length left → KeyLiteralsAre IsValue (map keyed_of left)
    → KeyLiteralsAre IsValue (map keyed_of (take (length left - 1) (drop 1 left)))
literals_behind [] some h = tt
literals_behind (x ∷ left) some h =
    subst (λ xs. KeyLiteralsAre IsValue (map keyed_of xs)) (sym (take_all (length (x ∷ left) - 1) left (omega arith))) h.1
