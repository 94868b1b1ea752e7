-- The rows of live nodes hold no LF.
use Rattle.std.specs.Prelude.{◌≡◌, ◌≢◌, ◌==◌, ℕ, Bool, true, false, not, ◌&&◌, ◌||◌, List, [], ◌∷◌, map, codes, Some, refl, suc, slice_get}
use Rattle.std.proofs.Common.{true≢false, sym, take}
use Rattle.std.specs.Int.{w64}
use Rattle.std.specs.List.{AllByRecursion, list_any}
use Rattle.std.specs.Option.{is_some}
use Rattle.std.proofs.lemmas.Bool.Decides.{Decides-eqb, not_from_Decides}
use Rattle.std.proofs.lemmas.Int.{SFits-int_wrap}
use Rattle.std.proofs.lemmas.List.Elements.{All-cons, All-nil}
use Rattle.pig_value.specs.declared.inputs.Column.{Column}
use Rattle.pig_value.specs.declared.inputs.Input.{Input}
use Rattle.pig_value.specs.declared.outcomes.Kept.{Kept}
use Rattle.pig_value.specs.FieldRows.{row_of}
use Rattle.pig_value.specs.Leaves.{AreBytes}
use Rattle.pig_value.specs.Lines.{lines}
use Rattle.pig_value.specs.Texts.{HasNoLf, IsLineFree, AreLineFreeRows}
use Rattle.pig_value.specs.Trees.{v_chars}
use Rattle.pig_value.specs.Valid.{IsValue}
use Rattle.pig_value.proofs.list_laws.Listing.{each_weaker}
use Rattle.pig_typed.specs.Literals.{LiteralsAre, LinkLiteralsAre, ArgLiteralsAre, StepLiteralsAre, BlockLiteralsAre}
use Rattle.pig_typed.specs.Premises.{FunctionsKeepLines, FunctionsKeepValues, IsLineFreeValue}
use Rattle.pig_typed.specs.Typed.{Typed, TypedLinks, TypedArgs, TypedStep, TypedBlock, x_null, x_bool, x_int, x_long, x_chars, x_field, x_local, x_chain, x_compare, x_is_null, x_not, x_minus, x_choose, x_cast, x_project, x_look, x_call, no_links, more_links, no_args, more_args, s_filter, s_order, s_limit, s_distinct, s_take}
use Rattle.pig_typed.proofs.LinesCarried.{line_free_rows, lines_carried}
use Rattle.pig_plan.proofs.Carries.{each-flat_map}
use Rattle.pig_plan.proofs.LoadRows.{rows_line_free, rows_of_values}
use Rattle.pig_plan.proofs.Meanings.{each_both, rows_held}
use Rattle.pig_plan.proofs.Values.{pieces_are, word_is_text}
use Rattle.pig_plan.specs.Laws.{AreOfBytes, KeyLiteralsAre, OpLiteralsAre, PlanLiteralsAre}
use Rattle.pig_plan.specs.Meaning.{EachIsKept, meaning}
use Rattle.pig_plan.specs.Nodes.{is_live}
use Rattle.pig_plan.specs.NodeKinds.{kinds_at, node_gives}
use Rattle.pig_plan.specs.Operators.{load_rows, pieces_of}
use Rattle.pig_plan.specs.Plans.{Keyed, Plan, PlanNode, PlanOp, p_load, p_filter, p_foreach, p_group_all, p_group, p_join, p_union, p_distinct, p_order, p_limit, p_store, p_assert, p_rank}
use Rattle.pig_plan.specs.Valid.{IsPlan, fits, is_twin, keys_write_lf, op_writes_lf}
use Rattle.pig_plan.specs.Written.{args_write_lf, block_writes_lf, has_lf, links_write_lf, step_writes_lf, writes_lf}

-- ---- literals that are written without a line end

neither_first : (a b : Bool) → (a || b) ≡ false → a ≡ false
neither_first false b h = refl
neither_first true b h = absurd (true≢false h)

neither_second : (a b : Bool) → (a || b) ≡ false → b ≡ false
neither_second false b h = h
neither_second true b h = absurd (true≢false h)

text_free : (text : List ℕ) → has_lf text ≡ false → HasNoLf text
text_free [] h = All-nil (λ b. b ≢ 10)
text_free (b ∷ text) h =
    All-cons (λ c. c ≢ 10) b text (not_from_Decides (b == 10) (Decides-eqb b 10) (neither_first (b == 10) (has_lf text) h)) (text_free text (neither_second (b == 10) (has_lf text) h))

each_free : {X : Type 0} (P Q : X → Type 0) (test : X → Bool) → ((x : X) → test x ≡ false → P x → Q x) → (xs : List X) → list_any test xs ≡ false → AllByRecursion P xs → AllByRecursion Q xs
each_free P Q test frees [] h g = tt
each_free P Q test frees (x ∷ xs) h g =
    (frees x (neither_first (test x) (list_any test xs) h) g.0, each_free P Q test frees xs (neither_second (test x) (list_any test xs) h) g.1)

mutual
  pub literals_free : (e : Typed) → writes_lf e ≡ false → LiteralsAre IsValue e → LiteralsAre IsLineFreeValue e
  literals_free (x_chars text) h g = (g, text_free text h)
  literals_free (x_chain first links) h g =
      (literals_free first (neither_first (writes_lf first) (links_write_lf links) h) g.0, links_free links (neither_second (writes_lf first) (links_write_lf links) h) g.1)
  literals_free (x_compare r a b) h g =
      (literals_free a (neither_first (writes_lf a) (writes_lf b) h) g.0, literals_free b (neither_second (writes_lf a) (writes_lf b) h) g.1)
  literals_free (x_is_null a negated) h g = literals_free a h g
  literals_free (x_not a) h g = literals_free a h g
  literals_free (x_minus a) h g = literals_free a h g
  literals_free (x_choose c a b) h g =
      let first = neither_first (writes_lf c || writes_lf a) (writes_lf b) h in (
        literals_free c (neither_first (writes_lf c) (writes_lf a) first) g.0,
        literals_free a (neither_second (writes_lf c) (writes_lf a) first) g.1,
        literals_free b (neither_second (writes_lf c || writes_lf a) (writes_lf b) h) g.2,
      )
  literals_free (x_cast to a) h g = literals_free a h g
  literals_free (x_project a ns single) h g = literals_free a h g
  literals_free (x_look a key) h g = literals_free a h g
  literals_free (x_call f args) h g = args_free args h g
  literals_free x_null h g = tt
  literals_free (x_bool b) h g = tt
  literals_free (x_int z) h g = (g, tt)
  literals_free (x_long z) h g = (g, tt)
  literals_free (x_field n) h g = tt
  literals_free (x_local n) h g = tt

  links_free : (links : TypedLinks) → links_write_lf links ≡ false → LinkLiteralsAre IsValue links → LinkLiteralsAre IsLineFreeValue links
  links_free no_links h g = tt
  links_free (more_links operator a links) h g =
      (literals_free a (neither_first (writes_lf a) (links_write_lf links) h) g.0, links_free links (neither_second (writes_lf a) (links_write_lf links) h) g.1)

  args_free : (args : TypedArgs) → args_write_lf args ≡ false → ArgLiteralsAre IsValue args → ArgLiteralsAre IsLineFreeValue args
  args_free no_args h g = tt
  args_free (more_args e args) h g =
      (literals_free e (neither_first (writes_lf e) (args_write_lf args) h) g.0, args_free args (neither_second (writes_lf e) (args_write_lf args) h) g.1)

step_free : (s : TypedStep) → step_writes_lf s ≡ false → StepLiteralsAre IsValue s → StepLiteralsAre IsLineFreeValue s
step_free (s_filter from test) h g =
    (literals_free from (neither_first (writes_lf from) (writes_lf test) h) g.0, literals_free test (neither_second (writes_lf from) (writes_lf test) h) g.1)
step_free (s_order from keys) h g = literals_free from h g
step_free (s_limit from count) h g = literals_free from h g
step_free (s_distinct from) h g = literals_free from h g
step_free (s_take from) h g = literals_free from h g

block_free : (block : TypedBlock) → block_writes_lf block ≡ false → BlockLiteralsAre IsValue block → BlockLiteralsAre IsLineFreeValue block
block_free block h g = (
  each_free (StepLiteralsAre IsValue) (StepLiteralsAre IsLineFreeValue) step_writes_lf step_free block.steps
      (neither_first (list_any step_writes_lf block.steps) (list_any (λ item. writes_lf item.value) block.items) h) g.0,
  each_free (λ item. LiteralsAre IsValue item.value) (λ item. LiteralsAre IsLineFreeValue item.value) (λ item. writes_lf item.value) (λ item. literals_free item.value) block.items
      (neither_second (list_any step_writes_lf block.steps) (list_any (λ item. writes_lf item.value) block.items) h) g.1,
)

keys_free : (inputs : List Keyed) → keys_write_lf inputs ≡ false → KeyLiteralsAre IsValue inputs → KeyLiteralsAre IsLineFreeValue inputs
keys_free inputs h g =
    each_free (λ input. AllByRecursion (LiteralsAre IsValue) input.keys) (λ input. AllByRecursion (LiteralsAre IsLineFreeValue) input.keys) (λ input. list_any writes_lf input.keys)
    (λ input. each_free (LiteralsAre IsValue) (LiteralsAre IsLineFreeValue) writes_lf literals_free input.keys) inputs h g

op_free : (o : PlanOp) → op_writes_lf o ≡ false → OpLiteralsAre IsValue o → OpLiteralsAre IsLineFreeValue o
op_free (p_load path delim columns) h g = tt
op_free (p_filter input test) h g = literals_free test h g
op_free (p_foreach input block) h g = block_free block h g
op_free (p_group_all input) h g = tt
op_free (p_group inputs) h g = keys_free inputs h g
op_free (p_join inputs s replicated) h g = keys_free inputs h g
op_free (p_union inputs) h g = tt
op_free (p_distinct input) h g = tt
op_free (p_order input keys) h g = tt
op_free (p_limit input count) h g = tt
op_free (p_store input path delim) h g = tt
op_free (p_assert input test message) h g = literals_free test h g
op_free (p_rank input keys dense) h g = tt

-- ---- plans

not_written : (a b c : Bool) → (a && not b && c) ≡ true → b ≡ false
not_written true false c h = refl
not_written true true c h = absurd (true≢false (sym h))
not_written false b c h = absurd (true≢false (sym h))

fits_free : (before : Plan) (node : PlanNode) → fits before node ≡ true → op_writes_lf node.op ≡ false
fits_free before node h = not_written (is_some (node_gives (kinds_at before) node.op)) (op_writes_lf node.op) (not (list_any (is_twin node) before)) h

each_node : (nodes : Plan) → ((k : ℕ) (node : PlanNode) → slice_get nodes k ≡ Some node → op_writes_lf node.op ≡ false) → PlanLiteralsAre IsValue nodes → PlanLiteralsAre IsLineFreeValue nodes
each_node [] h g = tt
each_node (node ∷ nodes) h g = (op_free node.op (h 0 node refl) g.0, each_node nodes (λ k other at. h (suc k) other at) g.1)

pub plan_free : (plan : Plan) → IsPlan plan → PlanLiteralsAre IsValue plan → PlanLiteralsAre IsLineFreeValue plan
plan_free plan valid ok = each_node plan (λ k node at. fits_free (take k plan) node (valid k node at)) ok

-- ---- rows

loads_free : (inputs : List Input) → AreOfBytes inputs → (path : List ℕ) (delim : ℕ) (columns : List Column) → AllByRecursion (AllByRecursion IsLineFreeValue) (load_rows inputs path delim columns)
loads_free inputs h path delim columns =
    each-flat_map (AllByRecursion IsLineFreeValue) (λ piece. map (row_of columns delim) (lines piece)) (pieces_of inputs path)
    (each_weaker AreBytes (λ piece. AllByRecursion (AllByRecursion IsLineFreeValue) (map (row_of columns delim) (lines piece)))
    (λ piece are. each_both (AllByRecursion IsValue) (AllByRecursion IsLineFree) (AllByRecursion IsLineFreeValue) (λ row. each_both IsValue IsLineFree IsLineFreeValue (λ v i j. (i, j)) row)
    (map (row_of columns delim) (lines piece)) (rows_of_values columns delim piece are) (rows_line_free columns delim piece))
    (pieces_of inputs path) (pieces_are inputs path h))

word_is_free : IsLineFreeValue (v_chars (codes "all"))
word_is_free = (word_is_text, text_free (codes "all") refl)

pub meanings_are_line_free : FunctionsKeepValues → FunctionsKeepLines → (plan : Plan) (inputs : List Input) (kept : List Kept) → IsPlan plan → PlanLiteralsAre IsValue plan → AreOfBytes inputs → EachIsKept plan inputs kept
    → (k : ℕ) → is_live plan k ≡ true → AreLineFreeRows (meaning plan inputs kept k)
meanings_are_line_free values lines plan inputs kept valid ok are each k live =
    line_free_rows (meaning plan inputs kept k)
    (rows_held IsLineFreeValue (lines_carried values lines) (λ z. (SFits-int_wrap w64 z, tt)) word_is_free plan inputs kept valid each (plan_free plan valid ok) (loads_free inputs are) k live)
