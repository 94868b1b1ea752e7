-- What is asked of the literals of an expression or a block, each taken as the value that it stands for.
use Rattle.std.specs.Prelude.{⊤}
use Rattle.std.specs.List.{AllByRecursion}
use Rattle.pig_value.specs.Trees.{Tree, v_int, v_long, v_chars}
use Rattle.pig_typed.specs.Typed.{Typed, TypedLinks, TypedArgs, x_int, x_long, x_chars, x_chain, x_compare, x_is_null, x_not, x_minus, x_choose, x_cast, x_project, x_look, x_call, no_links, more_links, no_args, more_args, TypedStep, TypedItem, TypedBlock, s_filter, s_order, s_limit, s_distinct, s_take}

abbrev mutual
  pub LiteralsAre : (Tree → Type 0) → Typed → Type 0
  LiteralsAre P (x_int z) = P (v_int z)
  LiteralsAre P (x_long z) = P (v_long z)
  LiteralsAre P (x_chars text) = P (v_chars text)
  LiteralsAre P (x_chain first links) = LiteralsAre P first × LinkLiteralsAre P links
  LiteralsAre P (x_compare r a b) = LiteralsAre P a × LiteralsAre P b
  LiteralsAre P (x_is_null a negated) = LiteralsAre P a
  LiteralsAre P (x_not a) = LiteralsAre P a
  LiteralsAre P (x_minus a) = LiteralsAre P a
  LiteralsAre P (x_choose c a b) = LiteralsAre P c × LiteralsAre P a × LiteralsAre P b
  LiteralsAre P (x_cast to a) = LiteralsAre P a
  LiteralsAre P (x_project a ns single) = LiteralsAre P a
  LiteralsAre P (x_look a key) = LiteralsAre P a
  LiteralsAre P (x_call f args) = ArgLiteralsAre P args
  LiteralsAre P _ = ⊤

  pub LinkLiteralsAre : (Tree → Type 0) → TypedLinks → Type 0
  LinkLiteralsAre P no_links = ⊤
  LinkLiteralsAre P (more_links operator a links) = LiteralsAre P a × LinkLiteralsAre P links

  pub ArgLiteralsAre : (Tree → Type 0) → TypedArgs → Type 0
  ArgLiteralsAre P no_args = ⊤
  ArgLiteralsAre P (more_args e args) = LiteralsAre P e × ArgLiteralsAre P args

abbrev pub StepLiteralsAre : (Tree → Type 0) → TypedStep → Type 0
StepLiteralsAre P (s_filter from cond) = LiteralsAre P from × LiteralsAre P cond
StepLiteralsAre P (s_order from keys) = LiteralsAre P from
StepLiteralsAre P (s_limit from count) = LiteralsAre P from
StepLiteralsAre P (s_distinct from) = LiteralsAre P from
StepLiteralsAre P (s_take from) = LiteralsAre P from

abbrev pub BlockLiteralsAre : (Tree → Type 0) → TypedBlock → Type 0
BlockLiteralsAre P block = AllByRecursion (StepLiteralsAre P) block.steps × AllByRecursion (λ item. LiteralsAre P item.value) block.items
