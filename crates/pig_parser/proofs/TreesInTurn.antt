-- The trees of a script's statements one after the other.
use Rattle.std.proofs.Common.{◌≡◌, ◌<◌, ◌+◌, ℕ, List, [], ◌∷◌, ◌++◌, length, take, drop, get_or, refl, sym, ap, ◌∙◌, subst, arith}
use Rattle.std.proofs.lemmas.List.{take_more, drop_more, take-append-drop, length-take-le}
use Rattle.pig_syntax.specs.declared.cutting.Piece.{Piece}
use Rattle.pig_syntax.specs.declared.tokens.Token.{Token}
use Rattle.pig_syntax.specs.declared.trees.Stmt.{Stmt}
use Rattle.std.specs.Prelude.{Err}
use Rattle.pig_exprs.specs.declared.reading.ParseFault.{ParseFault}
use Rattle.pig_exprs.specs.declared.reading.ParseFault.TheVariants as at
use Rattle.pig_parser.specs.Parsing.{GivesTree, IsTreeOf, HasNoTree, AreTrees, no_trees, trees, IsFirstOff}

-- one more statement behind the others
with_last : (ts : List Token) {ps : List Piece} {ss : List Stmt} (p : Piece) (s : Stmt) → AreTrees ts ps ss → IsTreeOf ts p s → AreTrees ts (ps ++ p ∷ []) (ss ++ s ∷ [])
with_last ts p s no_trees h = trees h no_trees
with_last ts p s (trees g rest) h = trees g (with_last ts p s rest h)

-- one more tree
pub one_more : (ts : List Token) (ps : List Piece) (index : ℕ) (ss : List Stmt) (d : Piece) (s : Stmt) → index < length ps → AreTrees ts (take index ps) ss → IsTreeOf ts (get_or ps index d) s
    → AreTrees ts (take (index + 1) ps) (ss ++ s ∷ [])
one_more ts ps index ss d s within good h =
    let P : List Piece → Type 0 = λ qs. AreTrees ts qs (ss ++ s ∷ []) in
    subst P (sym (take_more ps index d within)) (with_last ts (get_or ps index d) s good h)

-- a statement off the grammar has no tree
pub none_off : (ts : List Token) (p : Piece) (fault : ParseFault) → fault ≡ at.Off → GivesTree ts p (Err fault) → HasNoTree ts p
none_off ts p at.Off e h = h
none_off ts p at.OutOfMemory e h = absurd (cc)

-- the first statement that has no tree
pub first_off : (ts : List Token) (ps : List Piece) (index : ℕ) (ss : List Stmt) (d : Piece) → index < length ps → AreTrees ts (take index ps) ss → HasNoTree ts (get_or ps index d)
    → IsFirstOff ts ps (index + 1)
first_off ts ps index ss d within good none = record {
  before = take index ps;
  off = get_or ps index d;
  after = drop (index + 1) ps;
  whole = sym (ap (λ qs. take index ps ++ qs) (sym (drop_more ps index d within)) ∙ take-append-drop index ps);
  number = let e : length (take index ps) ≡ index = length-take-le index ps (omega (arith, within)) in rw e refl;
  trees_before = ss;
  good = good;
  none = none;
}
