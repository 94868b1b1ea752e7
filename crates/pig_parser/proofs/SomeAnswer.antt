-- Statements have trees, or there is a first one that has none.
use Rattle.std.proofs.Common.{◌≡◌, ◌≤◌, ◌+◌, ℕ, suc, length, true, false, Bool, List, [], ◌∷◌, refl, sym, ◌∙◌, ap, arith, inl, inr, ◌⊎◌, Option, Some, None}
use Rattle.std.specs.Prelude.{slice_get}
use Rattle.std.specs.Option.{option_map}
use Rattle.pig_syntax.specs.declared.cutting.Piece.{Piece}
use Rattle.pig_syntax.specs.declared.tokens.Token.{Token}
use Rattle.pig_syntax.specs.declared.trees.Stmt.{Stmt}
use Rattle.pig_syntax.specs.Cutting.{is_semicolon, piece_of}
use Rattle.pig_exprs.specs.Reader.{forms}
use Rattle.pig_parser.specs.StatementReader.{statement_at}
use Rattle.pig_parser.specs.Parsing.{AreTrees, no_trees, trees, HasNoTree, IsFirstOff, IsTreeOf}
use Rattle.pig_exprs.proofs.Fits.{fits_length}
use Rattle.pig_parser.proofs.StatementsFound.{statement_complete}
use Rattle.pig_parser.proofs.StatementsSound.{statement_sound}

module _ (ts : List Token) (p : Piece) where
  -- by any bound on how deep brackets nest that their number keeps
  by_mark : (deep : ℕ) → length (forms (piece_of ts p)) ≤ deep → (o : Option Bool) → option_map (λ t. is_semicolon t.form) (slice_get ts p.to) ≡ o → (found : Option Stmt) → statement_at (suc deep) (forms (piece_of ts p)) ≡ found → ((s : Stmt) × IsTreeOf ts p s) ⊎ HasNoTree ts p
  by_mark deep few None e found h = inr (λ s is. let wrong = sym e ∙ is.ended in cc)
  by_mark deep few (Some false) e found h = inr (λ s is. let wrong = sym e ∙ is.ended in cc)
  by_mark deep few (Some true) e (Some s) h = inl (s, record { ended = e; stands = statement_sound (suc deep) (forms (piece_of ts p)) s h })
  by_mark deep few (Some true) e None h =
      inr (λ s is. let wrong = sym h ∙ statement_complete (forms (piece_of ts p)) s is.stands deep (suc deep) (fits_length (forms (piece_of ts p)) deep few) (omega arith) in cc)

  -- the statement has a tree or none
  pub tree_decided : ((s : Stmt) × IsTreeOf ts p s) ⊎ HasNoTree ts p
  tree_decided = by_mark (length (forms (piece_of ts p))) (omega arith) (option_map (λ t. is_semicolon t.form) (slice_get ts p.to)) refl (statement_at (suc (length (forms (piece_of ts p)))) (forms (piece_of ts p))) refl

behind_one : (ts : List Token) (p : Piece) (ps : List Piece) (s : Stmt) (n : ℕ) → IsTreeOf ts p s → IsFirstOff ts ps n → IsFirstOff ts (p ∷ ps) (n + 1)
behind_one ts p ps s n is h = record {
  before = p ∷ h.before;
  off = h.off;
  after = h.after;
  whole = ap (λ qs. p ∷ qs) h.whole;
  number = let e = h.number in omega (arith, e);
  trees_before = s ∷ h.trees_before;
  good = trees is h.good;
  none = h.none;
}

pub trees_or_off : (ts : List Token) (ps : List Piece) → ((ss : List Stmt) × AreTrees ts ps ss) ⊎ ((n : ℕ) × IsFirstOff ts ps n)
trees_or_off ts [] = inl ([], no_trees)
trees_or_off ts (p ∷ ps) = elim (tree_decided ts p) [
  | inr none ↦ inr (1, record { before = []; off = p; after = ps; whole = refl; number = refl; trees_before = []; good = no_trees; none = none })
  | inl first ↦ elim (trees_or_off ts ps) [
    | inl rest ↦ inl (first.0 ∷ rest.0, trees first.1 rest.1)
    | inr off ↦ inr (off.0 + 1, behind_one ts p ps first.0 off.0 first.1 off.1)
  ]
]
