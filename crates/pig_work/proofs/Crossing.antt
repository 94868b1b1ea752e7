-- Threads may share a wave's work.
use denote.Ref.{NamedLft}
use denote.RattleType.{RattleType}
use denote.Param.Send.{IsSync, sendable, view_sync}
use denote.Param.SendFields.{as_row_sync, declared_sync}
use Rattle.std.proofs.alloc.Global.TheSendSync as heap
use Rattle.std.proofs.marker.PhantomData.TheSendSync as phantom
use Rattle.pig_value.proofs.lists.Seq.TheSendSync as seq
use Rattle.pig_value.specs.contracts.lists.Seq as seq_type
use Rattle.pig_physical.proofs.outputs.Out.TheSendSync as out
use Rattle.pig_physical.specs.contracts.outputs.Out as out_type
use Rattle.pig_physical.proofs.Crossing.{stages_shared}
use Rattle.std.proofs.option.Option.TheSendSync as option
use Rattle.pig_value.proofs.texts.Text.TheSendSync as text
use Rattle.pig_value.proofs.texts.Blob.TheSendSync as blob
use Rattle.pig_value.proofs.values.Value.TheLaws.TheKnot.{sync-Value}
use Rattle.pig_value.specs.contracts.values.Value as value_type
use Rattle.pig_rank.specs.contracts.parts.Start as start_type
use Rattle.pig_replicated.proofs.Crossing.{lookup_shared}
use Rattle.pig_probe.specs.contracts.sides.Sides as sides_type
use Rattle.pig_work.specs.contracts.work.Shared as shared_type
use Rattle.pig_work.specs.declared.work.Setting.{Ghosts}
use Rattle.pig_work.specs.contracts.work.StageWork as work_type

pub outs_shared : IsSync (seq_type.the_row (seq_type.the_row out_type.the_row))
outs_shared = search (sendable, seq.the_sync, out.the_sync)

value_shared : IsSync value_type.the_row
value_shared =
    as_row_sync value_type.the_field
    (sync-Value (search sendable) (search sendable) (search sendable) text.the_sync blob.the_sync (λ h crosses. search (sendable, seq.the_sync, crosses))
    (λ h crosses. let inner : IsSync (seq_type.the_row h) = search (sendable, seq.the_sync, crosses) in search (sendable, seq.the_sync, inner)))

start_shared : IsSync start_type.the_row
start_shared = declared_sync start_type.the_type (
  search sendable,
  (search sendable, (search (sendable, option.the_sync, seq.the_sync, value_shared), (search sendable, tt))),
)

starts_shared : IsSync (seq_type.the_row start_type.the_row)
starts_shared = search (sendable, seq.the_sync, start_shared)

sides_shared : IsSync sides_type.the_row
sides_shared =
    view_sync sides_type.TheInside.the_row _ _ _ _
    (declared_sync sides_type.TheInside.the_type (search (sendable, seq.the_sync, lookup_shared), (search (sendable, option.the_sync), tt)))

shared_shared : IsSync shared_type.the_row
shared_shared = declared_sync shared_type.the_type (starts_shared, (sides_shared, tt))

inside_shared : (κ : NamedLft) (T : RattleType) (N : Ghosts T.Denot) → IsSync T → IsSync (work_type.TheInside.the_row κ T N)
inside_shared κ T N shared = declared_sync (work_type.TheInside.the_type κ T N) (
  search (sendable, heap.the_sync),
  (
    search (sendable, as_row_sync, stages_shared),
    (search (sendable, as_row_sync, outs_shared), (search sendable, (search (sendable, as_row_sync, shared_shared), (search (sendable, phantom.the_sync), tt)))),
  ),
)

pub work_shared : (κ : NamedLft) (T : RattleType) (N : Ghosts T.Denot) → IsSync T → IsSync (work_type.the_row κ T N)
work_shared κ T N shared = view_sync (work_type.TheInside.the_row κ T N) _ _ _ _ (inside_shared κ T N shared)
