-- The texts of expressions, items, sort keys and nested steps.
use Rattle.std.specs.Prelude.{ℕ, ◌+◌, Bool, List, [], ◌∷◌, ◌++◌, map, codes, decimal, if◌then◌else◌}
use Rattle.std.specs.Fmt.{signed_decimal}
use Rattle.pig_value.specs.Functions.{function_name}
use Rattle.pig_value.specs.Texts.{bool_text}
use Rattle.pig_value.specs.declared.operators.ChainOp.{ChainOp}
use Rattle.pig_value.specs.declared.operators.ChainOp.TheVariants as chain
use Rattle.pig_value.specs.declared.operators.Rel.{Rel}
use Rattle.pig_value.specs.declared.operators.Rel.TheVariants as rel
use Rattle.pig_value.specs.declared.operators.Dir.{Dir}
use Rattle.pig_value.specs.declared.operators.Dir.TheVariants as dir
use Rattle.pig_typed.specs.declared.blocks.SortKey.{SortKey}
use Rattle.pig_typed.specs.Typed.{Typed, TypedLinks, TypedArgs, TypedStep, TypedItem, TypedBlock, x_null, x_bool, x_int, x_long, x_chars, x_field, x_local, x_chain, x_compare, x_is_null, x_not, x_minus, x_choose, x_cast, x_project, x_look, x_call, no_links, more_links, no_args, more_args, s_filter, s_order, s_limit, s_distinct, s_take}
use Rattle.pig_explain.specs.Joins.{joined}
use Rattle.pig_explain.specs.KindTexts.{kind_text}
use Rattle.pig_explain.specs.Quoting.{field_text, local_text, quoted}

-- operators, with the spaces round them
abbrev pub chain_text : ChainOp → List ℕ
chain_text chain.Or = codes " OR "
chain_text chain.And = codes " AND "
chain_text chain.Add = codes " + "
chain_text chain.Sub = codes " - "
chain_text chain.Mul = codes " * "
chain_text chain.Div = codes " / "
chain_text chain.Rem = codes " % "

abbrev pub rel_text : Rel → List ℕ
rel_text rel.Eq = codes " == "
rel_text rel.Ne = codes " != "
rel_text rel.Lt = codes " < "
rel_text rel.Le = codes " <= "
rel_text rel.Gt = codes " > "
rel_text rel.Ge = codes " >= "

abbrev pub null_text : Bool → List ℕ
null_text inverted = if inverted then codes " IS NOT NULL)" else codes " IS NULL)"

-- the positions of a projection: one alone, or several in brackets
abbrev pub positions_text : List ℕ → Bool → List ℕ
positions_text fields single =
    if single then joined [] (codes ",") (map decimal fields) else codes "(" ++ joined [] (codes ",") (map decimal fields) ++ codes ")"

abbrev mutual
  pub expr_text : Typed → List ℕ
  expr_text x_null = codes "null"
  expr_text (x_bool b) = bool_text b
  expr_text (x_int z) = signed_decimal z
  expr_text (x_long z) = signed_decimal z ++ codes "L"
  expr_text (x_chars text) = quoted text
  expr_text (x_field position) = field_text position
  expr_text (x_local number) = local_text number
  expr_text (x_chain first rest) = codes "(" ++ expr_text first ++ links_text rest ++ codes ")"
  expr_text (x_compare op a b) = codes "(" ++ expr_text a ++ rel_text op ++ expr_text b ++ codes ")"
  expr_text (x_is_null a inverted) = codes "(" ++ expr_text a ++ null_text inverted
  expr_text (x_not a) = codes "(NOT " ++ expr_text a ++ codes ")"
  expr_text (x_minus a) = codes "(- " ++ expr_text a ++ codes ")"
  expr_text (x_choose cond a b) = codes "(" ++ expr_text cond ++ codes " ? " ++ expr_text a ++ codes " : " ++ expr_text b ++ codes ")"
  expr_text (x_cast to a) = codes "((" ++ kind_text to ++ codes ") " ++ expr_text a ++ codes ")"
  expr_text (x_project a fields single) = expr_text a ++ codes "." ++ positions_text fields single
  expr_text (x_look a key) = expr_text a ++ codes "#" ++ quoted key
  expr_text (x_call function args) = function_name function ++ codes "(" ++ args_text [] args ++ codes ")"

  -- the links of a chain, each operator before its right operand
  pub links_text : TypedLinks → List ℕ
  links_text no_links = []
  links_text (more_links op a ls) = chain_text op ++ expr_text a ++ links_text ls

  -- arguments, the first behind `before` and each further one behind a comma and a space
  pub args_text : List ℕ → TypedArgs → List ℕ
  args_text before no_args = []
  args_text before (more_args e es) = before ++ expr_text e ++ args_text (codes ", ") es

-- ---- sort keys

abbrev pub dir_text : Dir → List ℕ
dir_text dir.Asc = codes " ASC"
dir_text dir.Desc = codes " DESC"

abbrev pub sort_key_text : SortKey → List ℕ
sort_key_text key = field_text key.position ++ dir_text key.dir

abbrev pub sort_keys_text : List SortKey → List ℕ
sort_keys_text keys = joined [] (codes ", ") (map sort_key_text keys)

-- ---- blocks

abbrev pub step_text : TypedStep → List ℕ
step_text (s_filter from cond) = codes "FILTER " ++ expr_text from ++ codes " " ++ expr_text cond
step_text (s_order from keys) = codes "ORDER " ++ expr_text from ++ codes " " ++ sort_keys_text keys
step_text (s_limit from count) = codes "LIMIT " ++ expr_text from ++ codes " " ++ decimal count
step_text (s_distinct from) = codes "DISTINCT " ++ expr_text from
step_text (s_take from) = expr_text from

-- a nested step behind its name
abbrev pub named_text : ℕ → TypedStep → List ℕ
named_text number s = codes " " ++ local_text number ++ codes " = " ++ step_text s ++ codes ";"

-- the nested steps from the one numbered `number` on
abbrev pub steps_text : ℕ → List TypedStep → List ℕ
steps_text number [] = []
steps_text number (s ∷ ss) = named_text number s ++ steps_text (number + 1) ss

abbrev pub item_text : TypedItem → List ℕ
item_text item = if item.flatten then codes "FLATTEN(" ++ expr_text item.value ++ codes ")" else expr_text item.value

-- what a FOREACH has behind its input
abbrev pub block_text : TypedBlock → List ℕ
block_text block = steps_text 0 block.steps ++ joined (codes " ") (codes ", ") (map item_text block.items)
