-- A script has one list of trees, or one first statement that has none.
use Rattle.std.proofs.Common.{◌≡◌, ℕ, suc, refl, List, ◌∷◌, ◌++◌, length, sym, ap, subst, arith}
use Rattle.pig_syntax.specs.declared.cutting.Piece.{Piece}
use Rattle.pig_syntax.specs.declared.tokens.Token.{Token}
use Rattle.pig_syntax.specs.declared.trees.Stmt.{Stmt}
use Rattle.pig_parser.specs.Parsing.{IsTreeOf, HasNoTree, AreTrees, no_trees, trees, IsFirstOff}
use Rattle.pig_parser.proofs.OneTree.{one_statement}

-- a statement has one tree
one_tree : (ts : List Token) (p : Piece) (s u : Stmt) → IsTreeOf ts p s → IsTreeOf ts p u → s ≡ u
one_tree ts p s u h g = one_statement h.stands g.stands

pub same_trees : (ts : List Token) {ps : List Piece} {ss us : List Stmt} → AreTrees ts ps ss → AreTrees ts ps us → ss ≡ us
same_trees ts no_trees no_trees = refl
same_trees ts (trees {p = p} {s = s} {ss = ss} h more) (trees {s = u} {ss = us} g others) =
    let e : s ≡ u = one_tree ts p s u h g in
    let k : ss ≡ us = same_trees ts more others in
    cc

-- the first statement that has no tree, by going on from the first
data FirstOff (ts : List Token) : List Piece → ℕ → Type 0 where
  here : {p : Piece} {ps : List Piece} → HasNoTree ts p → FirstOff ts (p ∷ ps) 1
  later : {p : Piece} {ps : List Piece} {s : Stmt} {n : ℕ} → IsTreeOf ts p s → FirstOff ts ps n → FirstOff ts (p ∷ ps) (suc n)

behind : (ts : List Token) {before : List Piece} {ss : List Stmt} (p : Piece) (after : List Piece) → AreTrees ts before ss → HasNoTree ts p → FirstOff ts (before ++ p ∷ after) (suc (length before))
behind ts p after no_trees none = here none
behind ts p after (trees h more) none = later h (behind ts p after more none)

from_first : (ts : List Token) (ps : List Piece) (n : ℕ) → IsFirstOff ts ps n → FirstOff ts ps n
from_first ts ps n first =
    let P : List Piece → Type 0 = λ qs. FirstOff ts qs n in
    let Q : ℕ → Type 0 = λ m. FirstOff ts (first.before ++ first.off ∷ first.after) m in
    let e : suc (length first.before) ≡ n = omega (arith, first.number) in
    subst P (sym first.whole) (subst Q e (behind ts first.off first.after first.good first.none))

same_first : (ts : List Token) {ps : List Piece} {m n : ℕ} → FirstOff ts ps m → FirstOff ts ps n → m ≡ n
same_first ts (here none) (here _) = refl
same_first ts (here none) (later h _) = absurd (none _ h)
same_first ts (later h _) (here none) = absurd (none _ h)
same_first ts (later _ first) (later _ other) = ap (λ n. suc n) (same_first ts first other)

not_both_forward : (ts : List Token) {ps : List Piece} {ss : List Stmt} {n : ℕ} → AreTrees ts ps ss → FirstOff ts ps n → ⊥
not_both_forward ts no_trees first = elim first [ ]
not_both_forward ts (trees h _) (here none) = none _ h
not_both_forward ts (trees _ more) (later _ first) = not_both_forward ts more first

pub one_first : (ts : List Token) (ps : List Piece) (m n : ℕ) → IsFirstOff ts ps m → IsFirstOff ts ps n → m ≡ n
one_first ts ps m n first other = same_first ts (from_first ts ps m first) (from_first ts ps n other)

pub not_both : (ts : List Token) (ps : List Piece) (ss : List Stmt) (n : ℕ) → AreTrees ts ps ss → IsFirstOff ts ps n → ⊥
not_both ts ps ss n good first = not_both_forward ts good (from_first ts ps n first)
