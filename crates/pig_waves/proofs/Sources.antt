-- The rows of a source, part by part: those of a LOAD's splits are its rows, those of a boundary node's partitions what its last wave gives.
use Rattle.std.specs.Prelude.{◌≡◌, ◌<◌, ◌≤◌, ◌+◌, ℕ, suc, List, [], ◌∷◌, ◌++◌, length, map, Some, refl}
use Rattle.std.proofs.Common.{ap, sym, ◌∙◌, arith}
use Rattle.std.specs.List.{flat_map, range_with_len}
use Rattle.std.specs.Option.{option_map_or}
use Rattle.std.proofs.lemmas.Grind.{flat_map-append}
use Rattle.std.proofs.lemmas.List.Folds.{flat_map-map}
use Rattle.pig_value.specs.declared.inputs.Column.{Column}
use Rattle.pig_value.specs.declared.inputs.Input.{Input}
use Rattle.pig_value.specs.FieldRows.{row_of}
use Rattle.pig_value.specs.Lines.{lines, lines_within}
use Rattle.pig_value.specs.Trees.{Tree}
use Rattle.pig_value.proofs.list_laws.Listing.{each_weaker, flat_map_each, map-flat_map}
use Rattle.pig_storage.specs.declared.splits.Split.{Split}
use Rattle.pig_storage.specs.Splits.{splits_from, splits_of, splits_of_piece}
use Rattle.pig_storage.proofs.SplitLines.{splits_are, splits_within}
use Rattle.pig_plan.specs.Nodes.{op_at}
use Rattle.pig_plan.specs.Operators.{load_rows, pieces_of}
use Rattle.pig_plan.specs.Plans.{PlanOp, p_load}
use Rattle.pig_plan.specs.Results.{at_place}
use Rattle.pig_physical.specs.declared.parts.Part.TheVariants as parts
use Rattle.pig_physical.specs.Outs.{Outs, outs_at, rows_at, rows_in}
use Rattle.pig_physical.specs.Running.{rows_given}
use Rattle.pig_physical.specs.Stages.{Stages, last_wave, output_count, parts_at, parts_of}
use Rattle.pig_physical.specs.Values.{part_rows, source_rows, split_lines}
use Rattle.pig_waves.proofs.Places.{of_places}

abbrev Rows : Type 0
Rows = List (List Tree)

-- all rows of a source, part by part
abbrev pub rows_of_parts : Stages → List Input → Outs → ℕ → List (List Tree)
rows_of_parts s inputs outs k = flat_map (source_rows s.plan inputs outs k) (parts_at s k)

-- ---- LOAD

module _ (split : ℕ) (some : 0 < split) (row : List ℕ → List Tree) (all : List (List ℕ)) where
  abbrev rows_in_split : Split → Rows
  rows_in_split s = map row (lines_within s.from s.to (at_place [] all s.piece))

  of_piece : (i : ℕ) (piece : List ℕ) → at_place [] all i ≡ piece → flat_map rows_in_split (splits_of_piece split i (length piece)) ≡ map row (lines piece)
  of_piece i piece is =
      flat_map_each rows_in_split (λ s. map row (lines_within s.from s.to piece)) (splits_of_piece split i (length piece))
      (each_weaker (λ s. (s.piece ≡ i) × (s.from ≤ s.to) × (s.to ≤ length piece)) (λ s. rows_in_split s ≡ map row (lines_within s.from s.to piece))
      (λ s h. ap (λ bytes. map row (lines_within s.from s.to bytes)) (ap (at_place [] all) h.0 ∙ is)) (splits_of_piece split i (length piece)) (splits_within split i (length piece) some))
      ∙ sym (map-flat_map row (λ s. lines_within s.from s.to piece) (splits_of_piece split i (length piece)))
      ∙ ap (map row) (splits_are split i piece some)

  of_pieces : (i : ℕ) (pieces : List (List ℕ)) → ((j : ℕ) → at_place [] all (i + j) ≡ at_place [] pieces j)
      → flat_map rows_in_split (splits_from split i (map length pieces)) ≡ flat_map (λ piece. map row (lines piece)) pieces
  of_pieces i [] at = refl
  of_pieces i (piece ∷ pieces) at =
      let here : at_place [] all i ≡ piece = (let e : i ≡ i + 0 = omega arith in ap (at_place [] all) e) ∙ at 0 in
      flat_map-append rows_in_split (splits_of_piece split i (length piece)) (splits_from split (i + 1) (map length pieces))
      ∙ ap (λ rows. rows ++ flat_map rows_in_split (splits_from split (i + 1) (map length pieces))) (of_piece i piece here)
      ∙ ap (λ rows. map row (lines piece) ++ rows)
      (of_pieces (i + 1) pieces (λ j. (let e : i + 1 + j ≡ i + suc j = omega arith in ap (at_place [] all) e) ∙ at (suc j)))

  pub of_all : flat_map rows_in_split (splits_of split (map length all)) ≡ flat_map (λ piece. map row (lines piece)) all
  of_all = of_pieces 0 all (λ j. let e : 0 + j ≡ j = omega arith in ap (at_place [] all) e)

module _ (s : Stages) (inputs : List Input) (outs : Outs) (k : ℕ) where
  -- what parts give where the source's operator is known
  parts_known : (o : PlanOp) → op_at s.plan k ≡ Some o → rows_of_parts s inputs outs k ≡ flat_map (λ part. part_rows inputs outs part o) (parts_of s k o)
  parts_known o at =
      ap (λ found. flat_map (λ part. option_map_or (part_rows inputs outs part) found []) (option_map_or (parts_of s k) found [])) at

  pub load_parts : (path : List ℕ) (delim : ℕ) (columns : List Column) → op_at s.plan k ≡ Some (p_load path delim columns) → 0 < s.sizing.split
      → map length (pieces_of inputs path) ≡ s.sizing.lengths path → rows_of_parts s inputs outs k ≡ load_rows inputs path delim columns
  load_parts path delim columns at some sizes =
      parts_known (p_load path delim columns) at
      ∙ flat_map-map (λ part. part_rows inputs outs part (p_load path delim columns)) parts.Split (splits_of s.sizing.split (s.sizing.lengths path))
      ∙ ap (λ lengths. flat_map (λ sp. map (row_of columns delim) (split_lines inputs path sp)) (splits_of s.sizing.split lengths)) (sym sizes)
      ∙ of_all s.sizing.split some (row_of columns delim) (pieces_of inputs path)

  -- the partitions of a boundary node
  given_parts : (wave n : ℕ) → length (outs_at outs wave) ≡ n
      → flat_map (λ part. rows_at outs wave part) (range_with_len 0 n) ≡ flat_map (λ out. rows_in out.form) (outs_at outs wave)
  given_parts wave n size =
      ap (λ m. flat_map (λ part. rows_at outs wave part) (range_with_len 0 m)) (sym size) ∙ of_places (λ out. rows_in out.form) (outs_at outs wave)

  abbrev pub IsGiven : PlanOp → Type 0
  IsGiven o = length (outs_at outs (last_wave s.plan k o)) ≡ output_count s o → rows_of_parts s inputs outs k ≡ rows_given s.plan outs k o

  pub outputs : (o : PlanOp) → op_at s.plan k ≡ Some o → parts_of s k o ≡ map (parts.Output (last_wave s.plan k o)) (range_with_len 0 (output_count s o))
      → ((part : ℕ) → part_rows inputs outs (parts.Output (last_wave s.plan k o) part) o ≡ rows_at outs (last_wave s.plan k o) part) → IsGiven o
  outputs o at are rows size =
      parts_known o at
      ∙ ap (flat_map (λ part. part_rows inputs outs part o)) are
      ∙ flat_map-map (λ part. part_rows inputs outs part o) (parts.Output (last_wave s.plan k o)) (range_with_len 0 (output_count s o))
      ∙ given_parts (last_wave s.plan k o) (output_count s o) size
