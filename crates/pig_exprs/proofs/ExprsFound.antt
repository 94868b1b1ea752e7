-- Expressions are found where they stand.
use Rattle.std.proofs.Common.{◌≡◌, ℕ, zero, suc, ◌<◌, ◌≤◌, refl, ◌∙◌, List, [], ◌∷◌, length, arith}
use Rattle.std.specs.Prelude.{Some, None}
use Rattle.pig_value.specs.declared.operators.Rel.{Rel}
use Rattle.pig_syntax.specs.declared.tokens.Keyword.TheVariants as k
use Rattle.pig_syntax.specs.declared.tokens.Symbol.TheVariants as s
use Rattle.pig_syntax.specs.declared.tokens.TokenForm.{TokenForm}
use Rattle.pig_syntax.specs.declared.tokens.TokenForm.TheVariants as f
use Rattle.pig_syntax.specs.declared.trees.Expr.{Expr}
use Rattle.pig_syntax.specs.declared.trees.Expr.TheVariants as ex
use Rattle.pig_syntax.specs.declared.trees.Link.{Link}
use Rattle.pig_syntax.specs.declared.trees.PostStep.{PostStep}
use Rattle.pig_exprs.specs.Grammar.{Forms, Level, expr, and_chain, neg, comparison, sum, term, unary, casted, post, primary, rel_of, chain_of, is_among, ArePostSteps, none, project, look, ReadsExpr, expr_one, expr_more, and_chain_one, and_chain_more, neg_none, neg_not, comparison_one, comparison_rel, comparison_null, comparison_not_null, sum_one, sum_more, term_one, term_more, unary_none, unary_minus, casted_none, casted_cast, post_one, post_more, primary_literal, primary_field, primary_call_none, primary_call, primary_paren, primary_choose, comparison_in, primary_case, primary_case_of, AreWhens, whens_none, whens_more, IsLast, last_none, last_else, Links, links_none, links_link, AreExprs, exprs_last, exprs_more}
use Rattle.pig_exprs.specs.Reader.{FoundPart, comma_turn, after_symbol, after_word}
use Rattle.pig_exprs.specs.ExprReader.{link_turn, chain_at, post_turn, post_of, both_at, paren_after, call_at, when_at, when_turn, first_when, last_at, cases_at, case_bare_at, case_of_at, primary_at, post_at, cast_at, casted_at, unary_at, term_at, sum_at, null_test, rel_ahead, in_ahead, among_at, comparison_after, comparison_at, neg_at, and_chain_at, expr_with, expr_at}
use Rattle.pig_exprs.proofs.Fits.{Fits}
use Rattle.pig_exprs.proofs.Finds.{Finds, Run, stops, goes, unmapped, repeat_run, FindsRun, FindsAll, finds_map, finds_last, finds_more, finds_listed}
use Rattle.pig_exprs.proofs.NamesFound.{field_ref_found, selection_found}
use Rattle.pig_exprs.proofs.TypesFound.{cast_type_found}
use Rattle.pig_exprs.proofs.Follow.{rank, rank_some, rank_few, binds, binds_ahead, binder_fits, op_binds, chain_stops, links_ahead, rel_binds, rel_no_null, no_null, no_rel, no_in, post_stops, name_stops, steps_ahead, literal_fits, reads_begin, neg_plain, unary_plain, casted_plain, casted_cast_at, primary_of_literal, primary_of_field, call_args, last_ahead, last_ends, whens_ahead, case_bare, case_of}

-- the reader of a rule
abbrev pub read_at : Level → ℕ → (Forms → FoundPart Expr) → Forms → FoundPart Expr
read_at expr most inner = expr_with most inner
read_at and_chain most inner = and_chain_at most inner
read_at neg most inner = neg_at most inner
read_at comparison most inner = comparison_at most inner
read_at sum most inner = sum_at most inner
read_at term most inner = term_at most inner
read_at unary most inner = unary_at most inner
read_at casted most inner = casted_at most inner
read_at post most inner = post_at inner
read_at primary most inner = primary_at inner

-- ---- parts

-- a chain
chain_found : (level : Level) (member : Forms → FoundPart Expr) {ts mid rest : Forms} {a : Expr} {ls : List Link} {d : ℕ} → Finds member ts a mid d → FindsRun (link_turn level member) mid ls rest d
    → Finds (chain_at level member) ts (chain_of a ls) rest d
unfolding chain_at
chain_found level member {mid = mid} first links = record { finds = rw (first.finds, repeat_run links.run (length mid) [] (omega arith)) refl; fits = links.fits; shorter = omega (arith, first.shorter, links.shorter) }

-- a chain of one member
chain_alone : (level : Level) (member : Forms → FoundPart Expr) {ts rest : Forms} {a : Expr} {d : ℕ} → Finds member ts a rest d → binds_ahead rest < rank level → Finds (chain_at level member) ts a rest d
unfolding chain_of
chain_alone level member {rest = rest} first ends =
    let found = chain_found level member {ls = []} first (record { run = stops (chain_stops level member rest ends); fits = first.fits; shorter = omega arith }) in
    record { finds = found.finds; fits = found.fits; shorter = found.shorter }

steps_found : {ts rest : Forms} {ps : List PostStep} → ArePostSteps ts ps rest → (d : ℕ) → Fits ts d → binds_ahead rest < 9 → FindsRun post_turn ts ps rest d
unfolding Fits post_turn
steps_found (none {ts = ts}) d fits ends = record { run = stops (post_stops ts ends); fits = fits; shorter = omega arith }
steps_found (project {mid = mid} h later) d fits ends =
    let first = selection_found h d fits (name_stops mid (steps_ahead later ends)) in
    let next = steps_found later d first.fits ends in
    record { run = goes (rw first.finds refl) (omega (arith, first.shorter)) next.run; fits = next.fits; shorter = omega (arith, first.shorter, next.shorter) }
steps_found (look later) d fits ends =
    let next = steps_found later d fits ends in
    record { run = goes refl (omega arith) next.run; fits = next.fits; shorter = omega (arith, next.shorter) }

post_found : (inner : Forms → FoundPart Expr) {ts mid rest : Forms} {a : Expr} {ps : List PostStep} {d : ℕ} → Finds (primary_at inner) ts a mid d → FindsRun post_turn mid ps rest d
    → Finds (post_at inner) ts (post_of a ps) rest d
unfolding post_at
post_found inner {mid = mid} first steps = record { finds = rw (first.finds, repeat_run steps.run (length mid) [] (omega arith)) refl; fits = steps.fits; shorter = omega (arith, first.shorter, steps.shorter) }

-- nothing of a comparison follows
comparison_alone : (most : ℕ) (inner : Forms → FoundPart Expr) (ts rest : Forms) (a : Expr) → sum_at most inner ts ≡ Some (a, rest) → binds_ahead rest < 4 → comparison_at most inner ts ≡ Some (a, rest)
unfolding comparison_at comparison_after
comparison_alone most inner ts rest a h ends = rw (h, no_null rest ends, no_rel rest ends, no_in rest ends) refl

-- a sign and a second operand follow
comparison_both : (most : ℕ) (inner : Forms → FoundPart Expr) (ts mid rest : Forms) (t : TokenForm) (r : Rel) (a b : Expr) → sum_at most inner ts ≡ Some (a, t ∷ mid) → rel_of t ≡ Some r
    → sum_at most inner mid ≡ Some (b, rest) → comparison_at most inner ts ≡ Some (ex.Compare r a b, rest)
unfolding comparison_at comparison_after rel_ahead
comparison_both most inner ts mid rest t r a b h is g = rw (h, rel_no_null t mid r is, is, g) refl

-- IN and its values follow
among_found : (inner : Forms → FoundPart Expr) (a : Expr) {ts rest : Forms} {v : Expr} {others : List Expr} → Run (comma_turn inner) (f.Symbol s.Comma ∷ ts) (v ∷ others) (f.Symbol s.CloseParen ∷ rest)
    → among_at inner a ts ≡ Some (is_among a v others, rest)
unfolding among_at comma_turn after_symbol
among_found inner a {ts = ts} {v = v} (goes {mid = mid} h less later) = rw (unmapped (inner ts) (v, mid) h, repeat_run later (length mid) [] (omega arith)) refl

comparison_among : (most : ℕ) (inner : Forms → FoundPart Expr) (ts mid rest : Forms) (a b : Expr) → sum_at most inner ts ≡ Some (a, f.Keyword k.In ∷ f.Symbol s.OpenParen ∷ mid) → among_at inner a mid ≡ Some (b, rest)
    → comparison_at most inner ts ≡ Some (b, rest)
unfolding comparison_at comparison_after null_test rel_ahead in_ahead
comparison_among most inner ts mid rest a b h g = rw (h, g) refl

-- the first WHEN, which a turn finds too
first_found : (inner : Forms → FoundPart Expr) (ts mid : Forms) (w : Expr × Expr) → when_turn inner ts ≡ Some (Some (w, mid)) → first_when inner ts ≡ Some (w, mid)
unfolding when_turn first_when
first_found inner (f.Keyword k.When ∷ ts) mid w h = unmapped (when_at inner ts) (w, mid) h
first_found inner ts mid w h = absurd (cc)

cases_found : (inner : Forms → FoundPart Expr) {ts mid rest : Forms} {w : Expr × Expr} {others : List (Expr × Expr)} {a : Expr} → Run (when_turn inner) ts (w ∷ others) mid → last_at inner mid ≡ Some (a, rest)
    → cases_at inner ts ≡ Some (((w, others), a), rest)
unfolding cases_at
cases_found inner {ts = ts} {w = w} (goes {mid = behind} h less later) g = rw (first_found inner ts behind w h, repeat_run later (length behind) [] (omega arith), g) refl

-- an expression inside one bracket more
inside : (most : ℕ) {ts rest : Forms} {a : Expr} (n d : ℕ) → d < n → ((m : ℕ) → d ≤ m → Finds (expr_with most (expr_at most m)) ts a rest d) → Finds (expr_at most n) ts a rest d
unfolding expr_at
inside most zero d low given = absurd (omega (arith, low))
inside most (suc m) d low given =
    let found = given m (omega (arith, low)) in
    record { finds = found.finds; fits = found.fits; shorter = found.shorter }

-- ---- expressions

mutual
  unfolding Fits comma_turn after_symbol after_word link_turn chain_of post_of both_at paren_after call_at when_at when_turn last_at case_bare_at case_of_at primary_at cast_at unary_at term_at sum_at null_test comparison_after comparison_at neg_at and_chain_at expr_with

  pub reads_found : {l : Level} {ts rest : Forms} {a : Expr} → ReadsExpr l ts a rest → (d most depth : ℕ) → Fits ts d → d < most → d ≤ depth → binds_ahead rest < rank l
      → Finds (read_at l most (expr_at most depth)) ts a rest d
  reads_found (expr_one h) d most depth fits low below ends =
      let found = chain_alone expr (read_at and_chain most (expr_at most depth)) (reads_found h d most depth fits low below (omega (arith, ends))) ends in
      record { finds = found.finds; fits = found.fits; shorter = found.shorter }
  reads_found (expr_more h links) d most depth fits low below ends =
      let first = reads_found h d most depth fits low below (omega (arith, links_ahead links ends)) in
      let found = chain_found expr (read_at and_chain most (expr_at most depth)) first (links_found links d most depth first.fits low below (omega arith) ends) in
      record { finds = found.finds; fits = found.fits; shorter = found.shorter }
  reads_found (and_chain_one h) d most depth fits low below ends =
      let found = chain_alone and_chain (read_at neg most (expr_at most depth)) (reads_found h d most depth fits low below (omega (arith, ends))) ends in
      record { finds = found.finds; fits = found.fits; shorter = found.shorter }
  reads_found (and_chain_more h links) d most depth fits low below ends =
      let first = reads_found h d most depth fits low below (omega (arith, links_ahead links ends)) in
      let found = chain_found and_chain (read_at neg most (expr_at most depth)) first (links_found links d most depth first.fits low below (omega arith) ends) in
      record { finds = found.finds; fits = found.fits; shorter = found.shorter }
  reads_found (neg_none {ts = ts} h) d most depth fits low below ends =
      let found = reads_found h d most depth fits low below (omega (arith, ends)) in
      record { finds = neg_plain most (expr_at most depth) ts (reads_begin h) ∙ found.finds; fits = found.fits; shorter = found.shorter }
  reads_found (neg_not h) d most depth fits low below ends =
      let found = reads_found h d most depth fits low below (omega (arith, ends)) in
      record { finds = rw found.finds refl; fits = found.fits; shorter = omega (arith, found.shorter) }
  reads_found (comparison_one {ts = ts} {rest = rest} {a = a} h) d most depth fits low below ends =
      let found = reads_found h d most depth fits low below (omega (arith, ends)) in
      record { finds = comparison_alone most (expr_at most depth) ts rest a found.finds ends; fits = found.fits; shorter = found.shorter }
  reads_found (comparison_rel {ts = ts} {mid = mid} {rest = rest} {t = t} {r = r} {a = a} {b = b} h is g) d most depth fits low below ends =
      let tight : binds t ≡ 4 = rel_binds t r is in
      let first = reads_found h d most depth fits low below (omega (arith, tight)) in
      let next = reads_found g d most depth (binder_fits t mid d (omega (arith, tight)) (omega (arith, tight)) first.fits) low below (omega (arith, ends)) in
      record { finds = comparison_both most (expr_at most depth) ts mid rest t r a b first.finds is next.finds; fits = next.fits; shorter = omega (arith, first.shorter, next.shorter) }
  reads_found (comparison_null h) d most depth fits low below ends =
      let found = reads_found h d most depth fits low below (omega arith) in
      record { finds = rw found.finds refl; fits = found.fits; shorter = omega (arith, found.shorter) }
  reads_found (comparison_not_null h) d most depth fits low below ends =
      let found = reads_found h d most depth fits low below (omega arith) in
      record { finds = rw found.finds refl; fits = found.fits; shorter = omega (arith, found.shorter) }
  reads_found (comparison_in h values) zero most depth fits low below ends = absurd (reads_found h zero most depth fits low below (omega arith)).fits
  reads_found (comparison_in {ts = ts} {mid = mid} {rest = rest} {a = a} {v = v} {others = others} h values) (suc d) most depth fits low below ends =
      let first = reads_found h (suc d) most depth fits low below (omega arith) in
      let all = exprs_found values d most depth first.fits (omega (arith, low)) (omega (arith, below)) (omega arith) refl in
      record {
        finds = comparison_among most (expr_at most depth) ts mid rest a (is_among a v others) first.finds (among_found (expr_at most depth) a all.run);
        fits = all.fits;
        shorter = omega (arith, first.shorter, all.shorter);
      }
  reads_found (sum_one h) d most depth fits low below ends =
      let found = chain_alone sum (read_at term most (expr_at most depth)) (reads_found h d most depth fits low below (omega (arith, ends))) ends in
      record { finds = found.finds; fits = found.fits; shorter = found.shorter }
  reads_found (sum_more h links) d most depth fits low below ends =
      let first = reads_found h d most depth fits low below (omega (arith, links_ahead links ends)) in
      let found = chain_found sum (read_at term most (expr_at most depth)) first (links_found links d most depth first.fits low below (omega arith) ends) in
      record { finds = found.finds; fits = found.fits; shorter = found.shorter }
  reads_found (term_one h) d most depth fits low below ends =
      let found = chain_alone term (read_at unary most (expr_at most depth)) (reads_found h d most depth fits low below (omega (arith, ends))) ends in
      record { finds = found.finds; fits = found.fits; shorter = found.shorter }
  reads_found (term_more h links) d most depth fits low below ends =
      let first = reads_found h d most depth fits low below (omega (arith, links_ahead links ends)) in
      let found = chain_found term (read_at unary most (expr_at most depth)) first (links_found links d most depth first.fits low below (omega arith) ends) in
      record { finds = found.finds; fits = found.fits; shorter = found.shorter }
  reads_found (unary_none {ts = ts} h) d most depth fits low below ends =
      let found = reads_found h d most depth fits low below (omega (arith, ends)) in
      record { finds = unary_plain most (expr_at most depth) ts (reads_begin h) ∙ found.finds; fits = found.fits; shorter = found.shorter }
  reads_found (unary_minus h) d most depth fits low below ends =
      let found = reads_found h d most depth fits low below (omega (arith, ends)) in
      record { finds = rw found.finds refl; fits = found.fits; shorter = omega (arith, found.shorter) }
  reads_found (casted_none h) d most depth fits low below ends =
      let found = reads_found h d most depth fits low below (omega (arith, ends)) in
      record { finds = casted_plain most (expr_at most depth) h ∙ found.finds; fits = found.fits; shorter = found.shorter }
  reads_found (casted_cast type h) zero most depth fits low below ends = absurd fits
  reads_found (casted_cast type h) (suc d) most depth fits low below ends =
      let cast = cast_type_found type d most fits (omega (arith, low)) in
      let found = reads_found h (suc d) most depth cast.fits low below (omega (arith, ends)) in
      record { finds = casted_cast_at most (expr_at most depth) type ∙ rw (cast.finds, found.finds) refl; fits = found.fits; shorter = omega (arith, cast.shorter, found.shorter) }
  reads_found (post_one {rest = rest} h) d most depth fits low below ends =
      let first = reads_found h d most depth fits low below (omega (arith, ends)) in
      let found = post_found (expr_at most depth) {ps = []} first (record { run = stops (post_stops rest ends); fits = first.fits; shorter = omega arith }) in
      record { finds = found.finds; fits = found.fits; shorter = found.shorter }
  reads_found (post_more h steps) d most depth fits low below ends =
      let first = reads_found h d most depth fits low below (steps_ahead steps ends) in
      let found = post_found (expr_at most depth) first (steps_found steps d first.fits ends) in
      record { finds = found.finds; fits = found.fits; shorter = found.shorter }
  reads_found (primary_literal {ts = ts} {t = t} {a = a} is) d most depth fits low below ends =
      record { finds = primary_of_literal (expr_at most depth) t ts a is; fits = literal_fits t ts a d is fits; shorter = omega arith }
  reads_found (primary_field {ts = ts} {rest = rest} h) d most depth fits low below ends =
      finds_map (field_ref_found h d fits (name_stops rest ends)) (primary_at (expr_at most depth)) ts ex.Field (primary_of_field (expr_at most depth) h (omega (arith, ends))) (omega arith)
  reads_found primary_call_none zero most depth fits low below ends = absurd fits
  reads_found primary_call_none (suc d) most depth fits low below ends = record { finds = refl; fits = fits; shorter = omega arith }
  reads_found (primary_call h) zero most depth fits low below ends = absurd fits
  reads_found (primary_call {name = name} h) (suc d) most depth fits low below ends =
      let found = finds_listed (exprs_found h d most depth fits (omega (arith, low)) (omega (arith, below)) (omega arith) refl) in
      record { finds = call_args (expr_at most depth) name h ∙ rw found.finds refl; fits = found.fits; shorter = omega (arith, found.shorter) }
  reads_found (primary_paren h) zero most depth fits low below ends = absurd fits
  reads_found (primary_paren h) (suc d) most depth fits low below ends =
      let found = inside most depth d (omega (arith, below)) (λ m less. reads_found h d most m fits (omega (arith, low)) less (omega arith)) in
      record { finds = rw found.finds refl; fits = found.fits; shorter = omega (arith, found.shorter) }
  reads_found (primary_choose a b c) zero most depth fits low below ends = absurd fits
  reads_found (primary_choose a b c) (suc d) most depth fits low below ends =
      let first = inside most depth d (omega (arith, below)) (λ m less. reads_found a d most m fits (omega (arith, low)) less (omega arith)) in
      let left = inside most depth d (omega (arith, below)) (λ m less. reads_found b d most m first.fits (omega (arith, low)) less (omega arith)) in
      let right = inside most depth d (omega (arith, below)) (λ m less. reads_found c d most m left.fits (omega (arith, low)) less (omega arith)) in
      record { finds = rw (first.finds, left.finds, right.finds) refl; fits = right.fits; shorter = omega (arith, first.shorter, left.shorter, right.shorter) }
  reads_found (primary_case whens default) zero most depth fits low below ends = absurd fits
  reads_found (primary_case whens default) (suc d) most depth fits low below ends =
      let run = whens_found whens d most depth fits (omega (arith, low)) (omega (arith, below)) (last_ahead default) (last_ends (expr_at most depth) default) in
      let end = last_found default d most depth run.fits (omega (arith, low)) (omega (arith, below)) in
      record { finds = case_bare (expr_at most depth) whens ∙ rw (cases_found (expr_at most depth) run.run end.finds) refl; fits = end.fits; shorter = omega (arith, run.shorter, end.shorter) }
  reads_found (primary_case_of x whens default) zero most depth fits low below ends = absurd fits
  reads_found (primary_case_of {ts = ts} x whens default) (suc d) most depth fits low below ends =
      let first = inside most depth d (omega (arith, below)) (λ m less. reads_found x d most m fits (omega (arith, low)) less (whens_ahead whens (last_ahead default))) in
      let run = whens_found whens d most depth first.fits (omega (arith, low)) (omega (arith, below)) (last_ahead default) (last_ends (expr_at most depth) default) in
      let end = last_found default d most depth run.fits (omega (arith, low)) (omega (arith, below)) in
      record {
        finds = case_of (expr_at most depth) ts (reads_begin x) ∙ rw (first.finds, cases_found (expr_at most depth) run.run end.finds) refl;
        fits = end.fits;
        shorter = omega (arith, first.shorter, run.shorter, end.shorter);
      }

  whens_found : {ts rest : Forms} {ws : List (Expr × Expr)} → AreWhens ts ws rest → (d most depth : ℕ) → Fits ts d → d < most → d < depth → binds_ahead rest < 1
      → when_turn (expr_at most depth) rest ≡ Some None → FindsRun (when_turn (expr_at most depth)) ts ws rest d
  whens_found whens_none d most depth fits low below loose ends = record { run = stops ends; fits = fits; shorter = omega arith }
  whens_found (whens_more c a later) d most depth fits low below loose ends =
      let test = inside most depth d below (λ m less. reads_found c d most m fits low less (omega arith)) in
      let value = inside most depth d below (λ m less. reads_found a d most m test.fits low less (whens_ahead later loose)) in
      let next = whens_found later d most depth value.fits low below loose ends in
      record { run = goes (rw (test.finds, value.finds) refl) (omega (arith, test.shorter, value.shorter)) next.run; fits = next.fits; shorter = omega (arith, test.shorter, value.shorter, next.shorter) }

  last_found : {ts rest : Forms} {a : Expr} → IsLast ts a rest → (d most depth : ℕ) → Fits ts d → d < most → d < depth → Finds (last_at (expr_at most depth)) ts a rest (suc d)
  last_found last_none d most depth fits low below = record { finds = refl; fits = fits; shorter = omega arith }
  last_found (last_else h) d most depth fits low below =
      let found = inside most depth d below (λ m less. reads_found h d most m fits low less (omega arith)) in
      record { finds = rw found.finds refl; fits = found.fits; shorter = omega (arith, found.shorter) }

  links_found : {chain member : Level} {ts rest : Forms} {ls : List Link} → Links chain member ts ls rest → (d most depth : ℕ) → Fits ts d → d < most → d ≤ depth → rank chain < rank member
      → binds_ahead rest < rank chain → FindsRun (link_turn chain (read_at member most (expr_at most depth))) ts ls rest d
  links_found (links_none {chain = chain} {member = member} {ts = ts}) d most depth fits low below loose ends =
      record { run = stops (chain_stops chain (read_at member most (expr_at most depth)) ts ends); fits = fits; shorter = omega arith }
  links_found (links_link {chain = chain} {t = t} {ts = ts} {o = o} is h later) d most depth fits low below loose ends =
      let tight : binds t ≡ rank chain = op_binds chain t o is in
      let behind = binder_fits t ts d (omega (arith, tight, rank_some chain)) (omega (arith, tight, rank_few chain)) fits in
      let first = reads_found h d most depth behind low below (omega (arith, loose, links_ahead later ends)) in
      let next = links_found later d most depth first.fits low below loose ends in
      record { run = goes (rw (is, first.finds) refl) (omega (arith, first.shorter)) next.run; fits = next.fits; shorter = omega (arith, first.shorter, next.shorter) }

  exprs_found : {ts rest : Forms} {args : List Expr} → AreExprs ts args rest → (d most depth : ℕ) → Fits ts d → d < most → d < depth → binds_ahead rest < 1
      → comma_turn (expr_at most depth) rest ≡ Some None → FindsAll (expr_at most depth) ts args rest d
  exprs_found (exprs_last h) d most depth fits low below ends last = finds_last (inside most depth d below (λ m less. reads_found h d most m fits low less ends)) last
  exprs_found (exprs_more h later) d most depth fits low below ends last =
      let first = inside most depth d below (λ m less. reads_found h d most m fits low less (omega arith)) in
      finds_more first (exprs_found later d most depth first.fits low below ends last)

-- an expression in front of what does not go on with it
pub expr_found : {ts rest : Forms} {a : Expr} → ReadsExpr expr ts a rest → (d most depth : ℕ) → Fits ts d → d < most → d < depth → binds_ahead rest < 1 → Finds (expr_at most depth) ts a rest d
expr_found h d most depth fits low below ends = inside most depth d below (λ m less. reads_found h d most m fits low less ends)
