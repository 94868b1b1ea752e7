-- A name and the name of one field: the tests decide what they test.
use Rattle.std.proofs.Common.{◌≡◌, ◌≢◌, ◌∙◌, ℕ, List, [], ◌++◌, Bool, true, false, ◌||◌, refl, sym, ap, subst, inl, inr}
use Rattle.std.specs.Prelude.{Option, Some, None, nat_eq}
use Rattle.std.specs.Bool.{Decides}
use Rattle.std.specs.Str.{bytes_eq}
use Rattle.std.specs.List.{ends_with}
use Rattle.std.proofs.lemmas.Bool.Decides.{Decides-eqb}
use Rattle.std.proofs.lemmas.Bool.{false≢true}
use Rattle.std.proofs.lemmas.List.{append_assoc, append_cancel_right}
use Rattle.std.proofs.lemmas.Slice.Eq.{bytes_eq-Decides, ends_is}
use Rattle.pig_schema.specs.Names.{colons, Fits, fits, HasName, has_name, FitsField, fits_field}

-- what is asked of names is decided
fit_is : (full name : List ℕ) → Decides (fits full name) (Fits full name)
fit_is full name =
    by (bytes_eq full name) (bytes_eq-Decides full name) (ends_with nat_eq full (colons ++ name)) _
    (ends_is Decides-eqb full (colons ++ name) (ends_with nat_eq full (colons ++ name)) refl)
  where
    by : (same : Bool) → Decides same (full ≡ name) → (ends : Bool) (front : List ℕ) → ((ends ≡ true → full ≡ front ++ (colons ++ name)) × ((front : List ℕ) → full ≡ front ++ (colons ++ name) → ends ≡ true)) → Decides (same || ends) (Fits full name)
    by true d ends front e = (λ t. inl (d.0 refl), λ k. refl)
    by false d true front e = (λ t. inr (front, e.0 refl ∙ sym (append_assoc front colons name)), λ k. refl)
    by false d false front e = (λ t. absurd (false≢true t), neither)
      where
        neither : Fits full name → false ≡ true
        neither (inl k) = d.1 k
        neither (inr (before, k)) = e.1 before (k ∙ append_assoc before colons name)

-- two names of one field are the same
one_name : (field : Option (List ℕ)) (full name : List ℕ) → field ≡ Some full → field ≡ Some name → full ≡ name
one_name field full name h k = let e : Some full ≡ Some name = sym h ∙ k in cc

pub named_is : (name : List ℕ) (field : Option (List ℕ)) → Decides (has_name name field) (HasName name field)
named_is name None = (λ t. absurd (false≢true t), λ k. absurd (cc))
named_is name (Some full) = let d = bytes_eq-Decides full name in (λ t. ap Some (d.0 t), λ k. d.1 (one_name (Some full) full name refl k))

pub fitting_is : (name : List ℕ) (field : Option (List ℕ)) → Decides (fits_field name field) (FitsField name field)
fitting_is name None = (λ t. absurd (false≢true t), λ k. absurd (let e = k.1 in cc))
fitting_is name (Some full) =
    let d = fit_is full name in
    (λ t. (full, refl, d.0 t), λ k. d.1 (subst (λ x. Fits x name) (sym (one_name (Some full) full k.0 refl k.1)) k.2))

-- what has the name fits
pub has_fits : (name : List ℕ) (field : Option (List ℕ)) → HasName name field → FitsField name field
has_fits name field h = (name, h, inl refl)

-- two tests that decide the same are the same
same_test : (P : Type 0) (a b : Bool) → Decides a P → Decides b P → a ≡ b
same_test P true b h k = sym (k.1 (h.0 refl))
same_test P false true h k = h.1 (k.0 refl)
same_test P false false h k = refl

pub end_fits : (full before name : List ℕ) (taken : List ℕ) (r : Bool) → full ≡ before ++ name → (before ≡ [] → ⊥) → ((r ≡ true → before ≡ taken ++ colons) × ((front : List ℕ) → before ≡ front ++ colons → r ≡ true)) → r ≡ fits full name
end_fits full before name taken r e more told = same_test (Fits full name) r (fits full name) (there, back) (fit_is full name)
  where
    there : r ≡ true → Fits full name
    there t = inr (taken, e ∙ ap (λ b. b ++ name) (told.0 t))

    back : Fits full name → r ≡ true
    back (inl k) = absurd (more (append_cancel_right before [] name (sym e ∙ k)))
    back (inr (front, k)) = told.1 front (append_cancel_right before (front ++ colons) name (sym e ∙ k))

pub no_end_fits : (full name : List ℕ) → ((front : List ℕ) → full ≢ front ++ name) → false ≡ fits full name
no_end_fits full name none = same_test (Fits full name) false (fits full name) (λ t. absurd (false≢true t), λ k. absurd (wrong k)) (fit_is full name)
  where
    wrong : Fits full name → ⊥
    wrong (inl e) = none [] e
    wrong (inr (before, e)) = none (before ++ colons) e
