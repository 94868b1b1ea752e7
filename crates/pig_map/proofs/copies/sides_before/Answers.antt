use Rattle.std.proofs.Common.{◌≡◌, ◌∙◌, Some, ap, subst, sym}
use Rattle.std.proofs.lemmas.Result.{IfOk-weaker}
use Rattle.pig_physical.specs.Handed.{outs_of}
use Rattle.pig_physical.specs.Seen.{staged}
use Rattle.pig_physical.specs.declared.waves.WaveKind.TheVariants as kinds
use Rattle.pig_map.specs.Copies.{AreSidesIn, IsCopied}
use Rattle.pig_map.proofs.Sided.{is_copied, node_probes, none_probes}
use Rattle.pig_map.proofs.copies.sides_before.Goals as goal

pub sides_of_node-requires : goal.sides_of_node-requires
sides_of_node-requires c =
    subst (IsCopied (staged c.args.stages.now) c.node.result) (sym c.saturating_sub.ensures)
    (is_copied (staged c.args.stages.now) c.args.wave c.node.result c.requires (c.kind.ensures ∙ ap Some c.in-Probe.is) c.node.ensures)

pub returns-in-Probe : goal.returns-in-Probe
returns-in-Probe c =
    IfOk-weaker c.sides_of_node.result _ (AreSidesIn (staged c.args.stages.now) (outs_of c.args.prior.now) c.args.wave)
    (λ sides its. node_probes (staged c.args.stages.now) (outs_of c.args.prior.now) c.args.wave c.node.result sides c.node.ensures its) c.sides_of_node.ensures

pub returns-in-Map : goal.returns-in-Map
returns-in-Map c =
    none_probes (staged c.args.stages.now) (outs_of c.args.prior.now) c.args.wave kinds.Map c.no_sides.result (c.kind.ensures ∙ ap Some c.in-Map.is)
    (λ e. absurd (let wrong : kinds.Probe ≡ kinds.Map = e in cc))

pub returns-in-Reduce : goal.returns-in-Reduce
returns-in-Reduce c =
    none_probes (staged c.args.stages.now) (outs_of c.args.prior.now) c.args.wave kinds.Reduce c.no_sides-in-Reduce.result (c.kind.ensures ∙ ap Some c.in-Reduce.is)
    (λ e. absurd (let wrong : kinds.Probe ≡ kinds.Reduce = e in cc))

pub returns-in-Copy : goal.returns-in-Copy
returns-in-Copy c =
    none_probes (staged c.args.stages.now) (outs_of c.args.prior.now) c.args.wave kinds.Copy c.no_sides-in-Copy.result (c.kind.ensures ∙ ap Some c.in-Copy.is)
    (λ e. absurd (let wrong : kinds.Probe ≡ kinds.Copy = e in cc))

pub returns-in-Rank : goal.returns-in-Rank
returns-in-Rank c =
    none_probes (staged c.args.stages.now) (outs_of c.args.prior.now) c.args.wave kinds.Rank c.no_sides-in-Rank.result (c.kind.ensures ∙ ap Some c.in-Rank.is)
    (λ e. absurd (let wrong : kinds.Probe ≡ kinds.Rank = e in cc))

pub returns-in-Store : goal.returns-in-Store
returns-in-Store c =
    none_probes (staged c.args.stages.now) (outs_of c.args.prior.now) c.args.wave kinds.Store c.no_sides-in-Store.result (c.kind.ensures ∙ ap Some c.in-Store.is)
    (λ e. absurd (let wrong : kinds.Probe ≡ kinds.Store = e in cc))
