use denote.Param.Send.{sendable}
use Rattle.pig_physical.proofs.Crossing.{plan_sends, plan_shared, stages_send, stages_shared}
use Rattle.pig_physical.proofs.threads.stages_cross_threads.Goals as goal

pub is_shared-requires-send-T : goal.is_shared-requires-send-T
is_shared-requires-send-T c κs = search (sendable, plan_sends)

pub is_shared-requires-sync-T : goal.is_shared-requires-sync-T
is_shared-requires-sync-T c κs = search (sendable, plan_shared)

pub is_shared-requires-2-send-T : goal.is_shared-requires-2-send-T
is_shared-requires-2-send-T c κs = search (sendable, stages_send)

pub is_shared-requires-2-sync-T : goal.is_shared-requires-2-sync-T
is_shared-requires-2-sync-T c κs = search (sendable, stages_shared)
