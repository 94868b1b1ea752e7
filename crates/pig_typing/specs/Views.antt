-- What the code holds, as the definitions see it.
use Rattle.std.specs.Prelude.{ℕ, map}
use Rattle.pig_value.specs.Trees.{kind_tree}
use Rattle.pig_schema.specs.FieldTrees.{FieldTree, named_tree}
use Rattle.pig_typed.specs.Typed.{typed, link_of}
use Rattle.pig_typing.specs.declared.columns.Column.{Column}
use Rattle.pig_typing.specs.declared.columns.Column.TheVariants as column
use Rattle.pig_typing.specs.declared.columns.Typing as code
use Rattle.pig_typing.specs.declared.exprs.ChainSoFar as chain
use Rattle.pig_typing.specs.declared.exprs.TypedExpr.{TypedExpr}
use Rattle.pig_typing.specs.declared.joins.Join as both
use Rattle.pig_typing.specs.declared.joins.Operands as operands
use Rattle.pig_typing.specs.declared.parts.Pick.{Pick}
use Rattle.pig_typing.specs.Columns.{nameless}
use Rattle.pig_typing.specs.Joins.{Join, Operands, join}
use Rattle.pig_typing.specs.Parts.{Typing, typing}
use Rattle.pig_typing.specs.Typing.{ChainSoFar}

abbrev pub column_seen : Column → FieldTree
column_seen (column.Lent f) = named_tree f.now
column_seen (column.Nameless f) = nameless (named_tree f.now)
column_seen (column.Made f) = named_tree f

abbrev pub typing_tree : code.Typing → Typing
typing_tree p = typing (typed p.expr) (column_seen p.column)

abbrev pub typed_tree : TypedExpr → Typing
typed_tree t = typing (typed t.expr) (named_tree t.column)

abbrev pub chain_tree : chain.ChainSoFar → ChainSoFar
chain_tree c = record { first = typed c.first; links = map link_of c.links; kind = kind_tree c.kind }

abbrev pub join_tree : both.Join → Join
join_tree j = join (kind_tree j.kind) j.left j.right

abbrev pub operands_tree : operands.Operands → Operands
operands_tree o = record { kind = kind_tree o.kind; left = typed o.left; right = typed o.right }

abbrev pub pick_tree : Pick → ℕ × FieldTree
pick_tree p = (p.place, named_tree p.column)
