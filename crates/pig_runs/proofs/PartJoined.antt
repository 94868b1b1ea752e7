-- Parts of runs, one after another.
use Rattle.std.proofs.Common.{◌≡◌, ◌<◌, ◌≤◌, ◌+◌, ℕ, List, [], ◌∷◌, ◌++◌, length, take, drop, get_or, refl, sym, ◌∙◌, ap, subst, map}
use Rattle.std.specs.List.{AllByRecursion, flat_map}
use Rattle.std.proofs.lemmas.List.{append-nil, take_all}
use Rattle.std.proofs.lemmas.List.Concat.{flat_map-append}
use Rattle.std.proofs.lemmas.Option.{slice_get_read}
use Rattle.pig_value.specs.Gathering.{Entry}
use Rattle.pig_value.specs.declared.operators.Dir.{Dir}
use Rattle.pig_value.specs.Sorts.{sort}
use Rattle.pig_value.proofs.list_laws.Indexing.{more_taken}
use Rattle.pig_value.proofs.list_laws.Listing.{each_at}
use Rattle.pig_runs.specs.declared.run_parts.RunPart.{RunPart}
use Rattle.pig_runs.specs.declared.slots.Slot.{Slot}
use Rattle.pig_runs.specs.Entries.{InDirections, run_cmp}
use Rattle.pig_runs.specs.Packed.{Joins, Stand, found_at, joined, packed_cmp}
use Rattle.pig_runs.specs.RunParts.{part_entries, part_run}
use Rattle.pig_runs.proofs.Joined.{merged_stand}

-- a copy of a part
pub part_seen : (part : RunPart) (lent copy : InDirections) → lent ≡ part.run.now → copy ≡ record { dirs = lent.dirs; entries = drop part.from (take part.end lent.entries) } → copy ≡ part_run part
part_seen part lent copy same is = is ∙ ap cut_out same
  where
    cut_out : InDirections → InDirections
    cut_out r = record { dirs = r.dirs; entries = drop part.from (take part.end r.entries) }

-- one part more
pub one_part_joined : (ds : List Dir) (parts : List RunPart) (i : ℕ) (part : RunPart) (bytes new : List ℕ) (lists grown : List (List Slot)) → AllByRecursion (λ p. p.run.now.dirs ≡ ds) parts → i < length parts
    → part ≡ get_or parts i part → Joins ds (flat_map part_entries (take i parts)) bytes lists
    → ((es : List Entry) → Joins part.run.now.dirs es bytes lists → Joins part.run.now.dirs (es ++ part_entries part) new grown) → Joins ds (flat_map part_entries (take (i + 1) parts)) new grown
one_part_joined ds parts i part bytes new lists grown alike within at so_far added =
    let here = slice_get_read parts (length parts) i part refl within at in
    let dirs : part.run.now.dirs ≡ ds = each_at (λ p. p.run.now.dirs ≡ ds) parts i part here alike in
    let before : List Entry = flat_map part_entries (take i parts) in
    let all : flat_map part_entries (take (i + 1) parts) ≡ before ++ part_entries part =
    ap (flat_map part_entries) (more_taken parts i part here) ∙ (flat_map-append part_entries (take i parts) (part ∷ []) ∙ ap (λ l. before ++ l) (append-nil (part_entries part)))
    in
    let grew : Joins part.run.now.dirs (before ++ part_entries part) new grown = added before (subst (λ d. Joins d before bytes lists) (sym dirs) so_far) in
    subst (λ es. Joins ds es new grown) (sym all) (subst (λ d. Joins d (before ++ part_entries part) new grown) dirs grew)

-- what is merged once all parts are joined
pub parts_merged : (ds : List Dir) (parts : List RunPart) (i : ℕ) (bytes lent : List ℕ) (lists : List (List Slot)) (done : List Slot) → Joins ds (flat_map part_entries (take i parts)) bytes lists
    → length parts ≤ i → lent ≡ bytes → map (found_at lent) done ≡ sort packed_cmp (map (found_at lent) (joined lists))
    → Stand ds (sort (run_cmp ds) (flat_map part_entries parts)) (map (found_at bytes) done)
parts_merged ds parts i bytes lent lists done h past same_bytes order =
    merged_stand ds (flat_map part_entries parts) bytes lists done (subst (λ ps. Joins ds (flat_map part_entries ps) bytes lists) (take_all i parts past) h)
    (subst (λ b. map (found_at b) done ≡ sort packed_cmp (map (found_at b) (joined lists))) same_bytes order)
