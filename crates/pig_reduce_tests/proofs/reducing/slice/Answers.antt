use Rattle.std.proofs.Common.{◌≡◌, ◌∷◌, [], map, sym, subst, rules}
use Rattle.std.specs.List.{AllByRecursion}
use Rattle.pig_physical.specs.Handed.{out_of}
use Rattle.pig_reduce.specs.Made.{HasDirs}
use Rattle.pig_reduce_tests.proofs.reducing.slice.Goals as goal

pub brought_of-requires-clause-outs : goal.brought_of-requires-clause-outs
brought_of-requires-clause-outs g c =
    let is : c.push-2.new.self ≡ c.cut_out.result ∷ c.cut_out-2.result ∷ [] = search rules in
    subst (λ outs. AllByRecursion (HasDirs [] c.args.part) (map out_of outs)) (sym is) (c.cut_out.ensures c.args.part, (c.cut_out-2.ensures c.args.part, tt))
