-- What was looked for stands behind the rewriting of the plan.
use Rattle.std.proofs.Common.{◌≡◌, ◌∙◌, List, Option, Result, Ok, Err, IfOk, IfErr, MatchResult, map, sym, ap, subst}
use Rattle.std.specs.List.{AllByRecursion}
use Rattle.pig_outside.specs.Shelf.{Shelf}
use Rattle.pig_physical.specs.declared.staged.Size.{Size}
use Rattle.pig_reach.specs.declared.storing.Store.{Store}
use Rattle.pig_run.specs.declared.looking.Prepared.{Prepared}
use Rattle.pig_run.specs.declared.outcome.RunFault.{RunFault}
use Rattle.pig_run.specs.declared.outcome.RunFault.TheVariants as fault
use Rattle.pig_run.specs.Looking.{HasSize, IsAbsentIn, IsReady}
use Rattle.pig_run.proofs.Laying.{absent_same}

-- the sizes are as they were found, and the directories are those that were looked for
pub ready_behind : (s : Shelf) (sizes : List Size) (stores : List Store) (result : Result Prepared RunFault) → AllByRecursion (HasSize s) sizes → AllByRecursion (IsAbsentIn s) stores
    → IfOk result (λ p. p.sizes ≡ sizes) → IfOk result (λ p. map (λ store. store.dir) p.stores ≡ map (λ store. store.dir) stores) → IfOk result (IsReady s)
ready_behind s sizes stores (Ok p) have absent same dirs = record {
  inputs = subst (AllByRecursion (HasSize s)) (sym same) have;
  outputs = absent_same s stores p.stores dirs absent;
}
ready_behind s sizes stores (Err f) have absent same dirs = tt

-- the directories of STOREs that are the same
pub dirs_behind : (stores others : List Store) → others ≡ stores → (result : Result Prepared RunFault) → IfOk result (λ p. map (λ store. store.dir) p.stores ≡ map (λ store. store.dir) stores)
    → IfOk result (λ p. map (λ store. store.dir) p.stores ≡ map (λ store. store.dir) others)
dirs_behind stores others same (Ok p) h = h ∙ sym (ap (map (λ store. store.dir)) same)
dirs_behind stores others same (Err f) h = tt

-- it ended well, or memory was wanting
pub ends_behind : {T : Type 0} (P : T → Type 0) (Q : RunFault → Type 0) (result : Result T RunFault) → ((x : T) → P x) → ((f : RunFault) → f ≡ fault.OutOfMemory → Q f)
    → IfErr result (λ f. f ≡ fault.OutOfMemory) → MatchResult result P Q
ends_behind P Q (Ok x) well wanting h = well x
ends_behind P Q (Err f) well wanting h = wanting f h
