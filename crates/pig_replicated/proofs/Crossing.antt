-- Threads may share a lookup.
use denote.Param.Send.{IsSync, sendable, view_sync}
use denote.Param.SendFields.{as_row_sync, declared_sync}
use Rattle.std.proofs.alloc.Global.TheSendSync as heap
use Rattle.std.proofs.hash.BuildHasherDefault.TheSendSync as build_hasher
use Rattle.std.proofs.hash.FoldHasher.TheSendSync as fold_hasher
use Rattle.std.proofs.vec.Vec.TheSendSync as vec
use Rattle.indexmap.proofs.set.IndexSet.TheSendSync as index_set
use Rattle.pig_value.proofs.lists.Seq.TheSendSync as seq
use Rattle.pig_value.proofs.texts.Text.TheSendSync as text
use Rattle.pig_value.proofs.texts.Blob.TheSendSync as blob
use Rattle.pig_value.proofs.values.Value.TheLaws.TheKnot.{sync-Value}
use Rattle.pig_value.specs.contracts.lists.Seq as seq_type
use Rattle.pig_value.specs.contracts.values.Value as value_type
use Rattle.pig_replicated.specs.contracts.groups.Group as group_type
use Rattle.pig_replicated.specs.contracts.lookup.Lookup as lookup_type

value_shared : IsSync value_type.the_row
value_shared =
    as_row_sync value_type.the_field
    (sync-Value (search sendable) (search sendable) (search sendable) text.the_sync blob.the_sync (λ h crosses. search (sendable, seq.the_sync, crosses))
    (λ h crosses. let inner : IsSync (seq_type.the_row h) = search (sendable, seq.the_sync, crosses) in search (sendable, seq.the_sync, inner)))

rows_shared : IsSync (seq_type.the_row (seq_type.the_row value_type.the_row))
rows_shared = search (sendable, seq.the_sync, value_shared)

group_shared : IsSync group_type.the_row
group_shared = declared_sync group_type.the_type (value_shared, (rows_shared, tt))

pub lookup_shared : IsSync lookup_type.the_row
lookup_shared =
    view_sync lookup_type.TheInside.the_row _ _ _ _
    (declared_sync lookup_type.TheInside.the_type (
      search (sendable, as_row_sync, heap.the_sync, vec.the_sync, group_shared) depth 9,
      (
        search (sendable, as_row_sync, heap.the_sync, vec.the_sync, index_set.the_sync, build_hasher.the_sync, fold_hasher.the_sync) depth 9,
        (search (sendable, as_row_sync, heap.the_sync, vec.the_sync) depth 9, (rows_shared, tt)),
      ),
    ))
