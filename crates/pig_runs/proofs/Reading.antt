-- What a slot finds is the entry at its place.
use Rattle.std.proofs.Common.{◌≡◌, ◌<◌, ℕ, Bool, List, [], map, length, get_or, refl, sym, ◌∙◌, ap, subst}
use Rattle.std.specs.Prelude.{Option, Some, None, Result, Ok, Err, IfOk, option_map, slice_get}
use Rattle.std.specs.Bool.{Decides}
use Rattle.pig_keycode.proofs.KeyOrder.{one_key}
use Rattle.std.specs.Coded.{Coded-set, coded_list}
use Rattle.std.proofs.Math.Logic.{∥∥₁_elim}
use Rattle.std.proofs.lemmas.List.{length-map}
use Rattle.std.proofs.lemmas.Option.{slice_get-map, slice_get_read}
use Rattle.pig_value.specs.Gathering.{Entry}
use Rattle.pig_value.specs.Trees.{Tree, tree, row_tree}
use Rattle.pig_value.specs.TreeCode.{coded_tree}
use Rattle.pig_value.specs.declared.values.Value.{Value}
use Rattle.pig_value.specs.declared.operators.Dir.{Dir}
use Rattle.pig_value.proofs.list_laws.Listing.{each_at}
use Rattle.pig_keycode.specs.Codable.{IsCodeOf, IsCodeOfRow}
use Rattle.pig_keycode.specs.Keys.{IsKey, key_code}
use Rattle.pig_runs.specs.declared.entries.Entry as declared
use Rattle.pig_runs.specs.declared.lent.Lent.{Lent}
use Rattle.pig_runs.specs.declared.slots.Slot.{Slot}
use Rattle.pig_runs.specs.Entries.{keyed, IsEntry, AreKeyed}
use Rattle.pig_runs.specs.Packed.{packed, packed_lent, part, found_at, row_at, Held}

some_same : {X : Type 0} {x y : X} → Some x ≡ Some y → x ≡ y
some_same h = cc

module _ (ds : List Dir) (bytes : List ℕ) (slots : List Slot) (held : Held ds (map (found_at bytes) slots)) where
  pub as_many : length held.0 ≡ length slots
  as_many = sym (length-map held.0 (packed ds)) ∙ (ap length held.1.1 ∙ length-map slots (found_at bytes))

  at_slot : (at : ℕ) (s : Slot) → slice_get slots at ≡ Some s → (e : Entry) × (slice_get held.0 at ≡ Some e) × (packed ds e ≡ found_at bytes s)
  at_slot at s here = by (slice_get held.0 at) refl
    where
      same : option_map (packed ds) (slice_get held.0 at) ≡ Some (found_at bytes s)
      same = sym (slice_get-map (packed ds) held.0 at) ∙ (ap (λ l. slice_get l at) held.1.1 ∙ (slice_get-map (found_at bytes) slots at ∙ ap (option_map (found_at bytes)) here))

      by : (o : Option Entry) → slice_get held.0 at ≡ o → (e : Entry) × (slice_get held.0 at ≡ Some e) × (packed ds e ≡ found_at bytes s)
      by None e = absurd (let wrong : None ≡ Some (found_at bytes s) = sym (ap (option_map (packed ds)) e) ∙ same in cc)
      by (Some x) e = (x, e, (let told : Some (packed ds x) ≡ Some (found_at bytes s) = sym (ap (option_map (packed ds)) e) ∙ same in cc))

  pub input_read : (at : ℕ) (s : Slot) → slice_get slots at ≡ Some s → option_map (λ e. e.input) (slice_get held.0 at) ≡ Some s.input
  input_read at s here =
      let found = at_slot at s here in
      ap (option_map (λ e. e.input)) found.1 ∙ ap (λ p. Some p.input) found.2

  pub lent_read : (at : ℕ) (s : Slot) (l : Lent) → slice_get slots at ≡ Some s → packed_lent l ≡ found_at bytes s → option_map (packed ds) (slice_get held.0 at) ≡ Some (packed_lent l)
  lent_read at s l here is =
      let found = at_slot at s here in
      ap (option_map (packed ds)) found.1 ∙ ap Some (found.2 ∙ sym is)

  pub row_read : {E : Type 0} (at : ℕ) (s : Slot) (r : Result (List Value) E) → slice_get slots at ≡ Some s
      → ((row : List Tree) → IsCodeOfRow (part bytes (row_at s) s.row_len) row → IfOk r (λ found. row_tree found ≡ row)) → IfOk r (λ found. option_map (λ e. e.row) (slice_get held.0 at) ≡ Some (row_tree found))
  row_read at s (Err fault) here told = tt
  row_read at s (Ok row) here told =
      let found = at_slot at s here in
      let is : row_tree row ≡ found.0.row =
      ∥∥₁_elim held.1.0 (Coded-set (coded_list coded_tree) (row_tree row) found.0.row)
      (λ h. told found.0.row (record { is = sym (ap (λ p. p.row) found.2); value = (each_at (IsEntry ds) held.0 at found.0 found.1 h).row }))
      in
      ap (option_map (λ e. e.row)) found.1 ∙ ap Some (sym is)

  pub key_read : {E : Type 0} (at : ℕ) (s : Slot) (r : Result Value E) → ds ≡ [] → slice_get slots at ≡ Some s
      → ((key : Tree) → IsCodeOf (part bytes s.at s.key_len) key → IfOk r (λ found. tree found ≡ key)) → IfOk r (λ found. option_map (λ e. e.key) (slice_get held.0 at) ≡ Some (tree found))
  key_read at s (Err fault) none here told = tt
  key_read at s (Ok key) none here told =
      let found = at_slot at s here in
      let is : tree key ≡ found.0.key =
      ∥∥₁_elim held.1.0 (Coded-set coded_tree (tree key) found.0.key)
      (λ h. told found.0.key (record {
        is = sym (ap (λ p. p.key) found.2) ∙ ap (λ d. key_code d found.0.key) none;
        value = subst (λ d. IsKey d found.0.key) none (each_at (IsEntry ds) held.0 at found.0 found.1 h).key;
      }))
      in
      ap (option_map (λ e. e.key)) found.1 ∙ ap Some (sym is)

  -- two keys are the same where their bytes are
  pub same_keys : (at other : ℕ) (s t : Slot) (r : Bool) → slice_get slots at ≡ Some s → slice_get slots other ≡ Some t
      → Decides r (part bytes s.at s.key_len ≡ part bytes t.at t.key_len) → Decides r (option_map (λ e. e.key) (slice_get held.0 at) ≡ option_map (λ e. e.key) (slice_get held.0 other))
  same_keys at other s t r here there d =
      let a = at_slot at s here in
      let b = at_slot other t there in
      let left : option_map (λ e. e.key) (slice_get held.0 at) ≡ Some a.0.key = ap (option_map (λ e. e.key)) a.1 in
      let right : option_map (λ e. e.key) (slice_get held.0 other) ≡ Some b.0.key = ap (option_map (λ e. e.key)) b.1 in
      let a_code : key_code ds a.0.key ≡ part bytes s.at s.key_len = ap (λ p. p.key) a.2 in
      let b_code : key_code ds b.0.key ≡ part bytes t.at t.key_len = ap (λ p. p.key) b.2 in (
        λ yes.
            let codes : key_code ds a.0.key ≡ key_code ds b.0.key = a_code ∙ (d.0 yes ∙ sym b_code) in
            let keys : a.0.key ≡ b.0.key =
            ∥∥₁_elim held.1.0 (Coded-set coded_tree a.0.key b.0.key)
            (λ h. one_key ds a.0.key b.0.key (each_at (IsEntry ds) held.0 at a.0 a.1 h).key (each_at (IsEntry ds) held.0 other b.0 b.1 h).key codes)
            in
            left ∙ (ap Some keys ∙ sym right),
        λ same.
            let keys : a.0.key ≡ b.0.key = some_same (sym left ∙ (same ∙ right)) in
            d.1 (sym a_code ∙ (ap (key_code ds) keys ∙ b_code)),
      )

-- what holds of the entries of a list holds of the one at an index
pub entry_at : (ds : List Dir) (es : List declared.Entry) (i : ℕ) (e : declared.Entry) → i < length es → e ≡ get_or es i e → AreKeyed ds (map keyed es) → IsEntry ds (keyed e)
entry_at ds es i e within at h =
    each_at (IsEntry ds) (map keyed es) i (keyed e) (slice_get-map keyed es i ∙ ap (option_map keyed) (slice_get_read es (length es) i e refl within at)) h
