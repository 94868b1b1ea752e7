-- Rows that are kept of others, or are these in another order, are of their kinds.
use Rattle.std.specs.Prelude.{ℕ, Bool, List, Option}
use Rattle.std.proofs.Common.{sym, arith, inl, inr, subst}
use Rattle.std.proofs.lemmas.Bool.{cases_Bool}
use Rattle.pig_value.specs.Kinds.{IsRowOf}
use Rattle.pig_value.specs.Orders.{row_cmp}
use Rattle.pig_value.specs.Trees.{Tree}
use Rattle.pig_value.proofs.KindLaws.{rows_of_from_each}
use Rattle.pig_value.proofs.list_laws.Bags.{permutation_from_bag, times_from_permutation}
use Rattle.pig_value.proofs.list_laws.Listing.{each-take}
use Rattle.pig_typed.proofs.Found.{found_is}
use Rattle.pig_plan.proofs.Meanings.{each_held}
use Rattle.pig_plan.proofs.OfKinds.{Each}
use Rattle.pig_plan.specs.NodeKinds.{RowKinds}
use Rattle.pig_physical.specs.Fitting.{HasRows}
use Rattle.pig_physical.specs.Outs.{Form}
use Rattle.pig_physical.specs.Values.{AreAsBag, Keeps}
use Rattle.pig_fitting.proofs.Given.{Has}

-- what a LIMIT keeps
pub keeps_fit : (found : Option RowKinds) (sorted : Bool) (count : ℕ) (rows : List (List Tree)) (form : Form) → Has found rows → Keeps sorted count rows form
    → HasRows found form
keeps_fit found sorted count rows form has h = record {
  rows = h.kept;
  is = h.is;
  kinds = λ ks e.
      let each : Each ks rows = found_is (λ ls. Each ls rows) found ks e has in
      rows_of_from_each ks h.kept (elim (cases_Bool sorted) [
        | inl first ↦ subst (Each ks) (sym (h.first first)) (each-take (λ row. IsRowOf row ks) count rows each)
        | inr some ↦ each_held (λ row. IsRowOf row ks) h.kept rows (h.some some).held each
      ]);
}

-- what a replicated JOIN gives, in any order
pub bag_fits : (found : Option RowKinds) (rows : List (List Tree)) (form : Form) → Has found rows → AreAsBag rows form → HasRows found form
bag_fits found rows form has h = record {
  rows = h.made;
  is = h.is;
  kinds = λ ks e.
      rows_of_from_each ks h.made
      (each_held (λ row. IsRowOf row ks) h.made rows
      (λ row. let same = times_from_permutation row_cmp h.made rows (permutation_from_bag row_cmp h.made rows h.bag) row in omega (arith, same))
      (found_is (λ ls. Each ls rows) found ks e has));
}
