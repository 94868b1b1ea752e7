-- What an alias means behind one more statement, and tables of aliases over nodes.
use Rattle.std.proofs.Common.{◌≡◌, ◌∙◌, ℕ, List, [], ◌∷◌, ◌++◌, refl, sym, ap, subst, Bool, true, false}
use Rattle.std.specs.Prelude.{Option, Some, None, if◌then◌else◌}
use Rattle.std.specs.Str.{bytes_eq}
use Rattle.pig_plan.specs.NodeKinds.{Before, RowKinds}
use Rattle.pig_typing.specs.Columns.{later_or}
use Rattle.pig_relations.specs.Aliases.{Aliases, RelationTree, if_named, relation_at, IsRelation, IsTable}

later_first : {A : Type 0} (a b c : Option A) → later_or (later_or a b) c ≡ later_or a (later_or b c)
later_first (Some x) b c = refl
later_first None b c = refl

-- behind one more statement an alias means what that gives, or else what it meant
pub relation_behind : (name : List ℕ) (aliases : Aliases) (given : List ℕ × RelationTree)
    → relation_at name (aliases ++ given ∷ []) ≡ later_or (if_named name given) (relation_at name aliases)
relation_behind name [] given = by (if_named name given)
  where
    by : (o : Option RelationTree) → later_or None o ≡ later_or o None
    by (Some r) = refl
    by None = refl
relation_behind name (first ∷ aliases) given =
    ap (λ o. later_or o (if_named name first)) (relation_behind name aliases given)
    ∙ later_first (if_named name given) (relation_at name aliases) (if_named name first)

-- a table with one relation more
pub table_behind : (before : Before) (aliases : Aliases) (alias : List ℕ) (r : RelationTree)
    → IsTable before aliases → IsRelation before r → IsTable before (aliases ++ (alias, r) ∷ [])
table_behind before aliases alias r table h name found e = by (bytes_eq alias name) (sym (relation_behind name aliases (alias, r)) ∙ e)
  where
    by : (b : Bool) → later_or (if b then Some r else None) (relation_at name aliases) ≡ Some found → IsRelation before found
    by true e = let same : r ≡ found = cc in subst (IsRelation before) same h
    by false e = table name found e

-- what holds of a relation stays where further nodes are added
pub relation_stays : (before after : Before) (r : RelationTree)
    → ((node : ℕ) (kinds : RowKinds) → before node ≡ Some kinds → after node ≡ Some kinds) → IsRelation before r → IsRelation after r
relation_stays before after r stays h = record { rows = stays r.node _ h.rows; columns = h.columns }

pub table_stays : (before after : Before) (aliases : Aliases)
    → ((node : ℕ) (kinds : RowKinds) → before node ≡ Some kinds → after node ≡ Some kinds) → IsTable before aliases → IsTable after aliases
table_stays before after aliases stays table name r e = relation_stays before after r stays (table name r e)
