-- A script is found to be one thing and no other.
use Rattle.std.proofs.Common.{◌≡◌, ◌^◌, ℕ, List, [], ◌∷◌, length, Ok, Err, refl, sym, ◌∙◌, ap, subst, arith, inl, inr, ◌⊎◌}
use Rattle.std.specs.List.{All}
use Rattle.std.proofs.lemmas.Bool.{cases_lt}
use Rattle.std.proofs.lemmas.List.Elements.{All-nil, All-cons, All-head, All-tail}
use Rattle.pig_params.specs.Substitution.{Named, Outcome, substituted}
use Rattle.pig_syntax.specs.declared.cutting.Piece.{Piece}
use Rattle.pig_syntax.specs.declared.tokens.Token.{Token}
use Rattle.pig_syntax.specs.declared.trees.Stmt.{Stmt}
use Rattle.pig_syntax.specs.Cutting.{AreStatements, IsDepth, piece_of}
use Rattle.pig_syntax.proofs.CutLaws.{same_statements}
use Rattle.pig_syntax.proofs.Streams.{not_both as tokens_not_both, one_list, one_place}
use Rattle.pig_syntax.proofs.Totals.{depth_some, statements_some, tokens_or_bad}
use Rattle.pig_parser.specs.Parsing.{IsShallow}
use Rattle.pig_parser.proofs.OneAnswer.{not_both, one_first, same_trees}
use Rattle.pig_parser.proofs.SomeAnswer.{trees_or_off}
use Rattle.pig_typing.specs.declared.faults.CheckKind.{CheckKind}
use Rattle.pig_plan.specs.Plans.{Plan}
use Rattle.pig_check.specs.Scripts.{IsFirstUntyped, IsPlanOf}
use Rattle.pig_run.specs.declared.outcome.TooLarge.TheVariants as large
use Rattle.pig_run.specs.Reading.{Faulty, Finding, Typed, IsChecked, no_typing, checked, IsParsed, no_tree, parsed, IsMeasured, too_many, too_deep, measured, IsLexed, bad_place, lexed, IsFilled, missing, grown, filled, IsFound, too_long, short}
use Rattle.pig_run.specs.Refusals.{no_token, no_value, off_grammar, too_large, untyped}

-- what is known of plans of scripts
pub record PlanLaws : Type 0 where
  pub one : (ss : List Stmt) (p q : Plan) → IsPlanOf ss p → IsPlanOf ss q → p ≡ q
  pub some : (ss : List Stmt) → ((p : Plan) × IsPlanOf ss p) ⊎ ((n : ℕ) × (kind : CheckKind) × IsFirstUntyped ss n kind)
  pub never_both : (ss : List Stmt) (p : Plan) (n : ℕ) (kind : CheckKind) → IsPlanOf ss p → ¬ IsFirstUntyped ss n kind
  pub one_statement : (ss : List Stmt) (m n : ℕ) (j k : CheckKind) → IsFirstUntyped ss m j → IsFirstUntyped ss n k → m ≡ n

-- an outcome is one text, or one offset
one_text : (t u : List ℕ) → ◌≡◌ {A = Outcome} (Ok t) (Ok u) → t ≡ u
one_text t u e = cc

one_offset : {m n : ℕ} → ◌≡◌ {A = Outcome} (Err m) (Err n) → m ≡ n
one_offset e = cc

no_outcome : {A : Type 0} {t : List ℕ} {n : ℕ} → ◌≡◌ {A = Outcome} (Ok t) (Err n) → A
no_outcome e = absurd (cc)

module _ (laws : PlanLaws) where
  -- ---- at most one

  one_checked : (ss : List Stmt) (v w : Finding) → IsChecked ss v → IsChecked ss w → v ≡ w
  one_checked ss _ _ (no_typing {n = m} {kind = j} h) (no_typing {n = n} {kind = k} i) = ap (λ x. Faulty (untyped ss x)) (laws.one_statement ss m n j k h i)
  one_checked ss _ _ (no_typing {n = n} {kind = kind} h) (checked {plan = p} is) = absurd (laws.never_both ss p n kind is h)
  one_checked ss _ _ (checked {plan = p} is) (no_typing {n = n} {kind = kind} h) = absurd (laws.never_both ss p n kind is h)
  one_checked ss _ _ (checked {plan = p} is) (checked {plan = q} are) = ap (Typed (length ss)) (laws.one ss p q is are)

  one_parsed : (ts : List Token) (ps : List Piece) (v w : Finding) → IsParsed ts ps v → IsParsed ts ps w → v ≡ w
  one_parsed ts ps _ _ (no_tree {n = m} h) (no_tree {n = n} k) = ap (λ i. Faulty (off_grammar i)) (one_first ts ps m n h k)
  one_parsed ts ps _ w (no_tree {n = n} h) (parsed {ss = ss} given k) = absurd (not_both ts ps ss n given h)
  one_parsed ts ps v _ (parsed {ss = ss} given h) (no_tree {n = n} k) = absurd (not_both ts ps ss n given k)
  one_parsed ts ps v w (parsed {ss = ss} given h) (parsed {ss = us} others k) = one_checked ss v w h (subst (λ x. IsChecked x w) (same_trees ts others given) k)

  one_measured : (ts : List Token) (ps : List Piece) (v w : Finding) → IsMeasured ts ps v → IsMeasured ts ps w → v ≡ w
  one_measured ts ps _ _ (too_many h) (too_many k) = refl
  one_measured ts ps _ _ (too_many h) (too_deep few k) = absurd (omega (arith, h, few))
  one_measured ts ps _ w (too_many h) (measured few shallow k) = absurd (omega (arith, h, few))
  one_measured ts ps _ _ (too_deep few h) (too_many k) = absurd (omega (arith, k, few))
  one_measured ts ps _ _ (too_deep few h) (too_deep less k) = refl
  one_measured ts ps _ w (too_deep few h) (measured less shallow k) = absurd (h shallow)
  one_measured ts ps v _ (measured few shallow h) (too_many k) = absurd (omega (arith, k, few))
  one_measured ts ps v _ (measured few shallow h) (too_deep less k) = absurd (k shallow)
  one_measured ts ps v w (measured few shallow h) (measured less also k) = one_parsed ts ps v w h k

  one_lexed : (script : List ℕ) (v w : Finding) → IsLexed script v → IsLexed script w → v ≡ w
  one_lexed script _ _ (bad_place {offset = a} h) (bad_place {offset = b} k) = ap (λ i. Faulty (no_token i)) (one_place script a b h k)
  one_lexed script _ w (bad_place {offset = a} h) (lexed {ts = ts} tokens statements k) = absurd (tokens_not_both script ts a tokens h)
  one_lexed script v _ (lexed {ts = ts} tokens statements h) (bad_place {offset = b} k) = absurd (tokens_not_both script ts b tokens k)
  one_lexed script v w (lexed {ts = ts} {ps = ps} tokens statements h) (lexed {ts = us} {ps = qs} others cuts k) =
      let same : us ≡ ts = one_list script us ts others tokens in
      let also : qs ≡ ps = same_statements ts (subst (λ x. AreStatements x qs) same cuts) statements in
      one_measured ts ps v w h (subst (λ x. IsMeasured ts x w) also (subst (λ x. IsMeasured x qs w) same k))

  one_filled : (given : List Named) (script : List ℕ) (v w : Finding) → IsFilled given script v → IsFilled given script w → v ≡ w
  one_filled given script _ _ (missing e) (missing f) = ap (λ i. Faulty (no_value i)) (one_offset (sym e ∙ f))
  one_filled given script _ _ (missing e) (grown f big) = no_outcome (sym f ∙ e)
  one_filled given script _ w (missing e) (filled f few k) = no_outcome (sym f ∙ e)
  one_filled given script _ _ (grown e big) (missing f) = no_outcome (sym e ∙ f)
  one_filled given script _ _ (grown e big) (grown f also) = refl
  one_filled given script _ w (grown {text = t} e big) (filled {text = u} f few k) = absurd (let same = ap length (one_text t u (sym e ∙ f)) in omega (arith, big, few, same))
  one_filled given script v _ (filled e few h) (missing f) = no_outcome (sym e ∙ f)
  one_filled given script v _ (filled {text = t} e few h) (grown {text = u} f big) = absurd (let same = ap length (one_text t u (sym e ∙ f)) in omega (arith, big, few, same))
  one_filled given script v w (filled {text = t} e few h) (filled {text = u} f less k) = one_lexed t v w h (subst (λ x. IsLexed x w) (one_text u t (sym f ∙ e)) k)

  pub one_found : (given : List Named) (script : List ℕ) (v w : Finding) → IsFound given script v → IsFound given script w → v ≡ w
  one_found given script _ _ (too_long h) (too_long k) = refl
  one_found given script _ w (too_long h) (short few k) = absurd (omega (arith, h, few))
  one_found given script v _ (short few h) (too_long k) = absurd (omega (arith, k, few))
  one_found given script v w (short few h) (short less k) = one_filled given script v w h k

  -- ---- at least one

  some_checked : (ss : List Stmt) → (v : Finding) × IsChecked ss v
  some_checked ss = elim (laws.some ss) [
    | inl plan ↦ (Typed (length ss) plan.0, checked plan.1)
    | inr none ↦ (Faulty (untyped ss none.0), no_typing none.2)
  ]

  some_parsed : (ts : List Token) (ps : List Piece) → (v : Finding) × IsParsed ts ps v
  some_parsed ts ps = elim (trees_or_off ts ps) [
    | inl trees ↦ (let form = some_checked trees.0 in (form.0, parsed trees.1 form.1))
    | inr off ↦ (Faulty (off_grammar off.0), no_tree off.1)
  ]

  depth_one : (ts : List Token) (a b : ℕ) → IsDepth ts a → IsDepth ts b → a ≡ b
  depth_one ts a b h k = omega (arith, h.reached, k.reached, k.most h.place h.within, h.most k.place k.within)

  shallow_decided : (ts : List Token) (p : Piece) → IsShallow ts p ⊎ (IsShallow ts p → ⊥)
  shallow_decided ts p =
      let deep = depth_some (piece_of ts p) in
      elim (cases_lt 64 deep.0) [
        | inl more ↦ inr (λ h. let same = depth_one (piece_of ts p) h.depth deep.0 h.deep deep.1 in omega (arith, more, h.most, same))
        | inr most ↦ inl (record { depth = deep.0; deep = deep.1; most = most })
      ]

  all_decided : {X : Type 0} (P : X → Type 0) → ((x : X) → P x ⊎ (P x → ⊥)) → (xs : List X) → All P xs ⊎ (All P xs → ⊥)
  all_decided P f [] = inl (All-nil P)
  all_decided P f (x ∷ xs) = elim (f x) [
    | inr first ↦ inr (λ h. first (All-head P x xs h))
    | inl first ↦ elim (all_decided P f xs) [
      | inr rest ↦ inr (λ h. rest (All-tail P x xs h))
      | inl rest ↦ inl (All-cons P x xs first rest)
    ]
  ]

  some_measured : (ts : List Token) (ps : List Piece) → (v : Finding) × IsMeasured ts ps v
  some_measured ts ps = elim (cases_lt 4096 (length ps)) [
    | inl many ↦ (Faulty (too_large large.Statements), too_many many)
    | inr few ↦ elim (all_decided (IsShallow ts) (shallow_decided ts) ps) [
      | inr deep ↦ (Faulty (too_large large.Depth), too_deep few deep)
      | inl shallow ↦ (let rest = some_parsed ts ps in (rest.0, measured few shallow rest.1))
    ]
  ]

  some_lexed : (script : List ℕ) → (v : Finding) × IsLexed script v
  some_lexed script = elim (tokens_or_bad script) [
    | inl tokens ↦
        (let statements = statements_some tokens.0 in
        let rest = some_measured tokens.0 statements.0 in
        (rest.0, lexed tokens.1 statements.1 rest.1))
    | inr bad ↦ (Faulty (no_token bad.0), bad_place bad.1)
  ]

  some_filled : (given : List Named) (script : List ℕ) → (v : Finding) × IsFilled given script v
  some_filled given script = by_outcome (substituted given script) refl
    where
      by_outcome : (o : Outcome) → substituted given script ≡ o → (v : Finding) × IsFilled given script v
      by_outcome (Err offset) e = (Faulty (no_value offset), missing e)
      by_outcome (Ok text) e = elim (cases_lt (2 ^ 20) (length text)) [
        | inl long ↦ (Faulty (too_large large.Script), grown e long)
        | inr few ↦ (let rest = some_lexed text in (rest.0, filled e few rest.1))
      ]

  pub some_found : (given : List Named) (script : List ℕ) → (v : Finding) × IsFound given script v
  some_found given script = elim (cases_lt (2 ^ 20) (length script)) [
    | inl long ↦ (Faulty (too_large large.Script), too_long long)
    | inr few ↦ (let rest = some_filled given script in (rest.0, short few rest.1))
  ]
