use Rattle.std.proofs.Common.{◌≡◌, ◌+◌, ◌++◌, ◌-◌, List, [], ◌∷◌, rules, subst, sym}
use Rattle.std.specs.declared.result.Result.TheVariants.{Err}
use Rattle.pig_schema.specs.FieldTrees.{schema_tree}
use Rattle.pig_typed.specs.declared.blocks.SortKey.{SortKey}
use Rattle.pig_typing.specs.Results.{Tells, checked_map}
use Rattle.pig_blocks.specs.SortKeys.{fields_in, keys_of}
use Rattle.pig_blocks.proofs.CodeSteps.{key_goes, key_stops}
use Rattle.pig_blocks.proofs.keys.of_all.Goals as goal

pub returns-in_err-key : goal.returns-in_err-key
returns-in_err-key c =
    let fault = c.in_err-key.field-0.0 in
    let columns = schema_tree c.args.columns.now in
    let count = c.len-count.result in
    let is : c.from_residual-in_err-key.result ≡ Err fault = search rules in
    let stops = key_stops columns c.args.dir c.loop-place.made c.loop-place.place count fault (keys_of columns (fields_in c.args.dir 0 count)) c.loop-place-test.true c.in_err-key.ensures c.loop-place.invariant in
    rw (is) (subst (λ n. Tells {A = List SortKey} {B = List SortKey} (λ ks. ks) (keys_of columns (fields_in c.args.dir 0 n)) (Err fault)) c.len-count.ensures stops)

pub loop-place-preserved : goal.loop-place-preserved
loop-place-preserved c =
    let columns = schema_tree c.args.columns.now in
    let count = c.len-count.result in
    let n = c.loop-place.place in
    let k = c.in_ok-key.key in
    let goes = key_goes columns c.args.dir c.loop-place.made n count k (keys_of columns (fields_in c.args.dir 0 count)) c.loop-place-test.true c.in_ok-key.ensures c.loop-place.invariant in
    let pushed : c.push.new.self ≡ c.loop-place.made ++ k ∷ [] = cc (c.in_ok-push.ensures.ok) in
    subst (λ made. checked_map (λ more. made ++ more) (keys_of columns (fields_in c.args.dir (n + 1) (count - (n + 1)))) ≡ keys_of columns (fields_in c.args.dir 0 count)) (sym pushed) goes
