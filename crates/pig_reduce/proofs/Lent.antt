-- Keys and rows of entries whose bytes are lent.
use Rattle.std.proofs.Common.{◌≡◌, ℕ, List, [], sym, ◌∙◌, ap, subst}
use Rattle.std.specs.Prelude.{Some, Result, IfOk, option_map, slice_get}
use Rattle.std.specs.Coded.{coded_list}
use Rattle.std.proofs.Math.Logic.{∥∥₁_map}
use Rattle.pig_value.specs.Trees.{Tree, or_null}
use Rattle.pig_value.specs.TreeCode.{coded_tree}
use Rattle.pig_value.proofs.list_laws.Listing.{each_at}
use Rattle.pig_keycode.specs.Codable.{IsCodeOf, IsCodeOfRow}
use Rattle.pig_keycode.specs.Codes.{code}
use Rattle.pig_keycode.specs.Keys.{IsKey, key_code}
use Rattle.pig_runs.specs.Entries.{AreKeyed, InDirections, IsEntry}
use Rattle.pig_runs.specs.Packed.{Packed, packed}
use Rattle.pig_runs.proofs.Lending.{lent_entry}
use Rattle.pig_operators.specs.Groups.{first_key}
use Rattle.pig_reduce.specs.Made.{IsSomeCode}
use Rattle.pig_reduce.proofs.Results.{ok_known, ok_weaker}

module _ (run : InDirections) (at : ℕ) (p : Packed) (is : option_map (packed run.dirs) (slice_get run.entries at) ≡ Some p) where
  -- the bytes of a key are its code
  pub key_code_lent : run.dirs ≡ [] → AreKeyed run.dirs run.entries → IsCodeOf p.key (first_key run at)
  key_code_lent none h =
      let found = lent_entry run.dirs (slice_get run.entries at) p is in
      let key : found.0.key ≡ first_key run at = sym (ap (λ o. or_null (option_map (λ e. e.key) o)) found.1.0) in
      let keyed : IsKey [] found.0.key = subst (λ d. IsKey d found.0.key) none (each_at (IsEntry run.dirs) run.entries at found.0 found.1.0 h).key in
      record {
        is = sym (ap (λ q. q.key) found.1.1) ∙ (ap (λ d. key_code d found.0.key) none ∙ ap code key);
        value = subst (IsKey []) key keyed;
      }

  pub key_some : run.dirs ≡ [] → ∥ AreKeyed run.dirs run.entries ∥₁ → IsSomeCode p.key
  key_some none good = ∥∥₁_map good (λ h. (first_key run at, key_code_lent none h))

  -- the key that is read is that of the entry
  pub key_read : {V E : Type 0} (view : V → Tree) (r : Result V E) → run.dirs ≡ [] → ∥ AreKeyed run.dirs run.entries ∥₁
      → ((key : Tree) → IsCodeOf p.key key → IfOk r (λ v. view v ≡ key)) → IfOk r (λ v. view v ≡ first_key run at)
  key_read view r none good read = ok_known coded_tree view r (first_key run at) good (λ h. read (first_key run at) (key_code_lent none h))

  -- the row that is read is that of the entry
  pub row_read : {V E : Type 0} (view : V → List Tree) (r : Result V E) → ∥ AreKeyed run.dirs run.entries ∥₁
      → ((row : List Tree) → IsCodeOfRow p.row row → IfOk r (λ v. view v ≡ row))
      → IfOk r (λ v. option_map (λ e. e.row) (slice_get run.entries at) ≡ Some (view v))
  row_read view r good read =
      let found = lent_entry run.dirs (slice_get run.entries at) p is in
      ok_weaker r (λ v e. ap (option_map (λ e. e.row)) found.1.0 ∙ ap Some (sym e))
      (ok_known (coded_list coded_tree) view r found.0.row good
      (λ h. read found.0.row (record { is = sym (ap (λ q. q.row) found.1.1); value = (each_at (IsEntry run.dirs) run.entries at found.0 found.1.0 h).row })))
