-- Aliases of relations, in the order of their statements: an alias may be given again, and then means its latest statement.
-- (Pig Latin Basics: "Relations, Bags, Tuples, Fields", "Referencing Relations".)
use Rattle.std.specs.Prelude.{◌≡◌, ◌<◌, ℕ, List, [], ◌∷◌, map, length, slice_get, Option, Some, None, IfSome, if◌then◌else◌}
use Rattle.std.specs.Option.{option_map}
use Rattle.std.specs.Str.{bytes_eq}
use Rattle.pig_schema.specs.FieldTrees.{FieldTree, tree_kind, schema_tree}
use Rattle.pig_plan.specs.NodeKinds.{Before}
use Rattle.pig_typing.specs.declared.faults.CheckKind.TheVariants as kind
use Rattle.pig_typing.specs.Columns.{AreColumns, later_or}
use Rattle.pig_typing.specs.Results.{Checked, due}
use Rattle.pig_relations.specs.declared.aliases.Named.{Named}
use Rattle.pig_relations.specs.declared.aliases.Relation.{Relation}

-- a relation: the number of its node, and its columns
pub record RelationTree : Type 0 where
  pub node : ℕ
  pub columns : List FieldTree

abbrev pub Aliases : Type 0
Aliases = List (List ℕ × RelationTree)

abbrev pub relation_tree : Relation → RelationTree
relation_tree r = record { node = r.node; columns = schema_tree r.columns }

abbrev pub named_relation : Named → List ℕ × RelationTree
named_relation n = (n.alias, relation_tree n.relation)

abbrev pub aliases_of : List Named → Aliases
aliases_of = map named_relation

-- the relation, where this alias is the name
abbrev pub if_named : List ℕ → List ℕ × RelationTree → Option RelationTree
if_named alias given = if bytes_eq given.0 alias then Some given.1 else None

-- what the alias means: the relation of the latest statement that gives it
abbrev pub relation_at : List ℕ → Aliases → Option RelationTree
relation_at alias [] = None
relation_at alias (given ∷ later) = later_or (relation_at alias later) (if_named alias given)

-- the same as an answer: an alias that no statement gives is unknown
unfoldable pub relation_of : Aliases → List ℕ → Checked RelationTree
relation_of aliases alias = due kind.UnknownAlias (relation_at alias aliases)

-- ---- aliases over nodes

-- the node gives rows of the kinds of the columns, each of which has inside it what is of its kind
pub record IsRelation (before : Before) (r : RelationTree) : Type 0 where
  pub rows : before r.node ≡ Some (map tree_kind r.columns)
  pub columns : AreColumns r.columns

-- so it is of each alias that stands
abbrev pub IsTable : Before → Aliases → Type 0
IsTable before aliases = (alias : List ℕ) (r : RelationTree) → relation_at alias aliases ≡ Some r → IsRelation before r

-- ---- an index

-- the relation at a place, if one is told
abbrev pub relation_in : List Named → Option ℕ → Option RelationTree
relation_in given None = None
relation_in given (Some place) = option_map (λ n. relation_tree n.relation) (slice_get given place)

-- the places are those of the latest statements
abbrev pub IsIndex : List Named → (List ℕ → Option ℕ) → Type 0
IsIndex given place_of = (alias : List ℕ) → (relation_in given (place_of alias) ≡ relation_at alias (aliases_of given)) × IfSome (place_of alias) (λ place. place < length given)
