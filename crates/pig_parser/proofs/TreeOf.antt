-- What is read of a statement is its tree.
use Rattle.std.proofs.Common.{◌≡◌, true, List, Some, arith}
use Rattle.std.specs.Prelude.{Result, Ok, Err, slice_get}
use Rattle.std.specs.Option.{option_map}
use Rattle.pig_syntax.specs.declared.cutting.Piece.{Piece}
use Rattle.pig_syntax.specs.declared.tokens.Token.{Token}
use Rattle.pig_syntax.specs.declared.trees.Stmt.{Stmt}
use Rattle.pig_syntax.specs.Cutting.{is_semicolon, piece_of}
use Rattle.pig_exprs.specs.declared.limits.TheConstants.{MOST_NESTED}
use Rattle.pig_exprs.specs.declared.reading.ParseFault.{ParseFault}
use Rattle.pig_exprs.specs.declared.reading.ParseFault.TheVariants as fault
use Rattle.pig_parser.specs.Parsing.{IsShallow, GivesTree}
use Rattle.pig_exprs.specs.Reader.{forms}
use Rattle.pig_parser.specs.StatementReader.{GivesFound, statement_at}
use Rattle.pig_parser.proofs.Depths.{fits_depth}
use Rattle.pig_parser.proofs.StatementsSound.{statement_sound}
use Rattle.pig_parser.proofs.StatementsFound.{statement_complete}

pub gives_tree : (ts : List Token) (p : Piece) (result : Result Stmt ParseFault) → option_map (λ t. is_semicolon t.form) (slice_get ts p.to) ≡ Some true → IsShallow ts p
    → GivesFound (statement_at MOST_NESTED (forms (piece_of ts p))) result → GivesTree ts p result
gives_tree ts p (Ok s) ended shallow h = record { ended = ended; stands = statement_sound MOST_NESTED (forms (piece_of ts p)) s h }
gives_tree ts p (Err fault.Off) ended shallow h = λ s tree.
    let fits = fits_depth (piece_of ts p) shallow.depth 64 shallow.deep shallow.most in
    let e = statement_complete (forms (piece_of ts p)) s tree.stands 64 MOST_NESTED fits (omega arith) in
    cc
gives_tree ts p (Err fault.OutOfMemory) ended shallow h = tt
