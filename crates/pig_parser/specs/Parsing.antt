-- The trees of a script's statements, and the first statement that has none.
use Rattle.std.specs.Prelude.{◌≡◌, ◌≤◌, ◌+◌, ℕ, true, List, [], ◌∷◌, ◌++◌, length, slice_get, Some, Result, Ok, Err}
use Rattle.std.specs.Option.{option_map}
use Rattle.pig_syntax.specs.declared.cutting.Piece.{Piece}
use Rattle.pig_syntax.specs.declared.tokens.Token.{Token}
use Rattle.pig_syntax.specs.declared.trees.Stmt.{Stmt}
use Rattle.pig_syntax.specs.Cutting.{is_semicolon, piece_of, IsDepth}
use Rattle.pig_exprs.specs.declared.reading.ParseFault.{ParseFault}
use Rattle.pig_exprs.specs.declared.reading.ParseFault.TheVariants as fault
use Rattle.pig_parser.specs.declared.parsing.SyntaxFault.{SyntaxFault}
use Rattle.pig_parser.specs.declared.parsing.SyntaxFault.TheVariants as syntax
use Rattle.pig_parser.specs.Statements.{IsStatement}
use Rattle.pig_exprs.specs.Reader.{forms}

-- the tree of a statement, which a `;` ends
pub record IsTreeOf (ts : List Token) (p : Piece) (s : Stmt) : Type 0 where
  pub ended : option_map (λ t. is_semicolon t.form) (slice_get ts p.to) ≡ Some true
  pub stands : IsStatement (forms (piece_of ts p)) s

-- the statement has no tree
abbrev pub HasNoTree : List Token → Piece → Type 0
HasNoTree ts p = (s : Stmt) → IsTreeOf ts p s → ⊥

-- the trees of the statements, one for each
pub data AreTrees (ts : List Token) : List Piece → List Stmt → Type 0 where
  no_trees : AreTrees ts [] []
  trees : {p : Piece} {ps : List Piece} {s : Stmt} {ss : List Stmt} → IsTreeOf ts p s → AreTrees ts ps ss → AreTrees ts (p ∷ ps) (s ∷ ss)

-- the number, counted from 1, of the first statement that has no tree
pub record IsFirstOff (ts : List Token) (ps : List Piece) (n : ℕ) : Type 0 where
  pub before : List Piece
  pub off : Piece
  pub after : List Piece
  pub whole : ps ≡ before ++ off ∷ after
  pub number : n ≡ length before + 1
  pub trees_before : List Stmt
  pub good : AreTrees ts before trees_before
  pub none : HasNoTree ts off

-- a fault names the first statement that has no tree; want of memory may come at any time
abbrev pub IsSyntaxFault : List Token → List Piece → SyntaxFault → Type 0
IsSyntaxFault ts ps (syntax.Syntax n) = IsFirstOff ts ps n
IsSyntaxFault ts ps syntax.OutOfMemory = Unit {0}

-- the brackets of the statement nest at most 64 deep
pub record IsShallow (ts : List Token) (p : Piece) : Type 0 where
  pub depth : ℕ
  pub deep : IsDepth (piece_of ts p) depth
  pub most : depth ≤ 64

-- the code gives the tree, or none where the statement has none
abbrev pub GivesTree : List Token → Piece → Result Stmt ParseFault → Type 0
GivesTree ts p (Ok s) = IsTreeOf ts p s
GivesTree ts p (Err fault.Off) = HasNoTree ts p
GivesTree ts p (Err fault.OutOfMemory) = Unit {0}
