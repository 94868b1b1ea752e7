-- The words of a field as rows, which is what FLATTEN(TOKENIZE(field)) makes.
use Rattle.std.specs.Prelude.{◌≡◌, ℕ, List, [], ◌∷◌, map, Option, Some, None}
use Rattle.std.specs.Borrow.{Bor}
use Rattle.std.specs.List.{flat_map, slice_split}
use Rattle.pig_value.specs.Functions.{is_separator, tokenize_tree}
use Rattle.pig_value.specs.Orders.{bag_of}
use Rattle.pig_value.specs.Trees.{at, Tree, v_chars, v_null}
use Rattle.pig_typed.specs.Blocks.{flattened, foreach_rows}
use Rattle.pig_typed.specs.Typed.{TypedBlock}
use Rattle.pig_builtins.specs.Parts.{piece_rows}

-- a text between its separators; some pieces have no byte
abbrev pub pieces : List ℕ → List (List ℕ)
pieces text = slice_split is_separator text

-- a row of one text, and one for each of some texts
abbrev pub word_row : List ℕ → List Tree
word_row word = v_chars word ∷ []

abbrev pub texts_rows : List (Bor (List ℕ)) → List (List Tree)
texts_rows texts = map (λ text. word_row text.now) texts

-- a row for each word of a text, in the order that their bag has; of what is no text a null
abbrev pub word_rows : Tree → List (List Tree)
word_rows v = flattened 1 (tokenize_tree (v ∷ []))

abbrev pub rows_words : ℕ → List (List Tree) → List (List Tree)
rows_words field rows = flat_map (λ row. word_rows (at field row)) rows

-- the same of a text, where there is one
abbrev pub text_words : Option (List ℕ) → List (List Tree)
text_words (Some text) = bag_of (piece_rows (pieces text))
text_words None = (v_null ∷ []) ∷ []

-- the words of a field are what the block makes of each row
abbrev pub MakesWords : TypedBlock → ℕ → Type 0
MakesWords block field = (row : List Tree) → foreach_rows block row ≡ word_rows (at field row)
