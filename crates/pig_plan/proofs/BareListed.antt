-- What each number adds to a list of the statements of nodes: one where its node is live and bare.
use Rattle.std.specs.Prelude.{◌≡◌, ℕ, Bool, true, false, List, [], ◌∷◌, ◌++◌, map, Option, Some, None, refl}
use Rattle.std.proofs.Common.{sym, true≢false, cond}
use Rattle.std.specs.List.{cons_option, filter, filter_map}

module _ {X : Type 0} (live : ℕ → Bool) (get : ℕ → Option X) (bare : X → Bool) (statement : X → ℕ) where
  abbrev pub listing : List ℕ → List ℕ
  listing ns = map statement (filter bare (filter_map get (filter live ns)))

  abbrev pub one_of : (b : Bool) → X → List ℕ
  one_of b x = cond b (statement x ∷ []) []

  abbrev pub adds : Bool → Option X → List ℕ
  adds true (Some x) = one_of (bare x) x
  adds true None = []
  adds false o = []

  by_bare : (b : Bool) (x : X) (rest : List X) → map statement (cond b (x ∷ rest) rest) ≡ one_of b x ++ map statement rest
  by_bare true x rest = refl
  by_bare false x rest = refl

  by_get : (o : Option X) (rest : List X) → map statement (filter bare (cons_option o rest)) ≡ adds true o ++ map statement (filter bare rest)
  by_get None rest = refl
  by_get (Some x) rest = by_bare (bare x) x (filter bare rest)

  by_live : (b : Bool) (n : ℕ) (ns : List ℕ) → map statement (filter bare (filter_map get (cond b (n ∷ filter live ns) (filter live ns)))) ≡ adds b (get n) ++ listing ns
  by_live true n ns = by_get (get n) (filter_map get (filter live ns))
  by_live false n ns = refl

  pub next : (n : ℕ) (ns : List ℕ) → listing (n ∷ ns) ≡ adds (live n) (get n) ++ listing ns
  next n ns = by_live (live n) n ns

  pub none_adds : (b : Bool) → adds b None ≡ []
  none_adds true = refl
  none_adds false = refl

  one_not : (b : Bool) (x : X) → b ≡ false → one_of b x ≡ []
  one_not true x h = absurd (true≢false h)
  one_not false x h = refl

  pub not_bare : (b : Bool) (x : X) → bare x ≡ false → adds b (Some x) ≡ []
  not_bare true x h = one_not (bare x) x h
  not_bare false x h = refl

  one_is : (b : Bool) (x : X) → b ≡ true → one_of b x ≡ statement x ∷ []
  one_is true x h = refl
  one_is false x h = absurd (true≢false (sym h))

  pub is_bare_one : (x : X) → bare x ≡ true → adds true (Some x) ≡ statement x ∷ []
  is_bare_one x h = one_is (bare x) x h
