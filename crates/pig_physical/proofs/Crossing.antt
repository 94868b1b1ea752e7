-- A plan and its stages cross threads: from the types that they are made of, upwards, each form of an enum by itself.
use denote.Ref.{NamedLft}
use denote.Param.Send.{IsSend, IsSync, sendable}
use denote.Param.SendFields.{as_row_send, as_row_sync, declared_send, declared_sync, variants_send, variants_sync}
use Rattle.std.proofs.option.Option.TheSendSync as option
use Rattle.pig_value.proofs.texts.Text.TheSendSync as text
use Rattle.pig_value.proofs.lists.Seq.TheSendSync as seq
use Rattle.pig_value.proofs.boxes.Boxed.TheSendSync as boxed
use Rattle.pig_value.proofs.operators.Rel.TheSendSync as rel
use Rattle.pig_value.proofs.operators.Side.TheSendSync as side
use Rattle.pig_value.proofs.delimiters.Delim.TheSendSync as delim
use Rattle.pig_value.proofs.functions.Function.TheSendSync as function
use Rattle.pig_value.proofs.operators.ChainOp.TheSendSync as chain
use Rattle.pig_value.specs.contracts.lists.Seq as seq_type
use Rattle.pig_value.specs.contracts.inputs.Column as column_type
use Rattle.pig_value.specs.contracts.values.Kind as kind_type
use Rattle.pig_value.proofs.values.Kind.TheLaws.TheKnot.{crosses as kind_crosses}
use Rattle.pig_typed.specs.contracts.exprs.TExpr as expr_type
use Rattle.pig_typed.specs.contracts.blocks.Block as block_type
use Rattle.pig_typed.specs.contracts.blocks.BlockStep as step_type
use Rattle.pig_typed.specs.contracts.blocks.BlockItem as item_type
use Rattle.pig_typed.specs.contracts.blocks.SortKey as key_type
use Rattle.pig_typed.proofs.blocks.SortKey.TheSendSync as key
use Rattle.pig_typed.proofs.exprs.TExpr.TheLaws.TheKnot.{send-TExpr, sync-TExpr}
use Rattle.pig_plan.specs.contracts.nodes.KeyedInput as keyed_type
use Rattle.pig_plan.specs.contracts.nodes.NodeOp as op_type
use Rattle.pig_plan.specs.contracts.nodes.Node as node_type
use Rattle.pig_plan.specs.contracts.given.Given as given_type
use Rattle.pig_plan.specs.contracts.shared.SharedKinds as shared_type
use Rattle.pig_plan.specs.contracts.plan.Plan as plan_type
use Rattle.std.proofs.alloc.Global.TheSendSync as heap
use Rattle.std.proofs.sync.Arc.TheSendSync as arc
use Rattle.std.proofs.vec.Vec.TheSendSync as vec
use Rattle.std.proofs.Crossing as freeing
use Rattle.pig_physical.specs.contracts.parts.Path as path_type
use Rattle.pig_physical.specs.contracts.parts.Way as way_type
use Rattle.pig_physical.specs.contracts.parts.Part as part_type
use Rattle.pig_physical.specs.contracts.parts.MapTask as map_type
use Rattle.pig_physical.specs.contracts.parts.ReduceTask as reduce_type
use Rattle.pig_physical.specs.contracts.parts.Task as task_type
use Rattle.pig_physical.proofs.waves.WaveKind.TheSendSync as wave_kind
use Rattle.pig_physical.specs.contracts.waves.WaveHead as head_type
use Rattle.pig_physical.specs.contracts.staged.Wave as wave_type
use Rattle.pig_physical.specs.contracts.staged.Size as size_type
use Rattle.pig_storage.specs.contracts.splits.Split as split_type
use Rattle.pig_physical.specs.contracts.folding.Folders as folders_type
use Rattle.pig_physical.specs.contracts.staged.Stages as stages_type

pub kind_sends : IsSend kind_type.the_row
kind_sends = search (sendable, kind_crosses, seq.the_send, boxed.the_send)

kind_field_sends : IsSend (kind_type.the_field).row
kind_field_sends = search (sendable, kind_crosses, seq.the_send, boxed.the_send)

column_sends : IsSend column_type.the_row
column_sends = declared_send column_type.the_type (search sendable, (kind_sends, tt))

expr_field_sends : IsSend (expr_type.the_field).row
expr_field_sends = send-TExpr (search sendable) (search sendable) (search sendable) text.the_send (search sendable) (λ h crosses. search (sendable, boxed.the_send, crosses)) (λ h crosses. search (sendable, seq.the_send, crosses)) rel.the_field_send kind_field_sends (search (sendable, seq.the_send)) function.the_field_send chain.the_field_send

expr_sends : IsSend expr_type.the_row
expr_sends = as_row_send expr_type.the_field expr_field_sends

keys_sends : IsSend (seq_type.the_row key_type.the_row)
keys_sends = search (sendable, seq.the_send, key.the_send)

step_sends : IsSend step_type.the_row
step_sends = variants_send step_type.enum ((expr_sends, (expr_sends, tt)), ((expr_sends, (keys_sends, tt)), ((expr_sends, (search sendable, tt)), ((expr_sends, tt), ((expr_sends, tt), tt)))))

item_sends : IsSend item_type.the_row
item_sends = declared_send item_type.the_type (expr_sends, (search sendable, (search sendable, tt)))

block_sends : IsSend block_type.the_row
block_sends = declared_send block_type.the_type (search (sendable, seq.the_send, step_sends), (search (sendable, seq.the_send, item_sends), tt))

keyed_sends : IsSend keyed_type.the_row
keyed_sends = declared_send keyed_type.the_type (search sendable, (search (sendable, seq.the_send, expr_sends), (search sendable, tt)))

pub op_sends : IsSend op_type.the_row
op_sends = variants_send op_type.enum (
  (text.the_send, (delim.the_send, (search (sendable, seq.the_send, column_sends), tt))),
  (
    (search sendable, (expr_sends, tt)),
    (
      (search sendable, (block_sends, tt)),
      (
        (search sendable, tt),
        (
          (search (sendable, seq.the_send, keyed_sends), tt),
          (
            (search (sendable, seq.the_send, keyed_sends), (side.the_send, (search sendable, tt))),
            (
              (search (sendable, seq.the_send), tt),
              (
                (search sendable, tt),
                (
                  (search sendable, (keys_sends, tt)),
                  (
                    (search sendable, (search sendable, tt)),
                    (
                      (search sendable, (text.the_send, (delim.the_send, tt))),
                      (
                        (search sendable, (expr_sends, (search (sendable, option.the_send, text.the_send), tt))),
                        (
                          (search sendable, (keys_sends, (search sendable, tt))),
                          tt,
                        ),
                      ),
                    ),
                  ),
                ),
              ),
            ),
          ),
        ),
      ),
    ),
  ),
)

pub kind_shared : IsSync kind_type.the_row
kind_shared = search (sendable, kind_crosses, seq.the_sync, boxed.the_sync)

kind_field_shared : IsSync (kind_type.the_field).row
kind_field_shared = search (sendable, kind_crosses, seq.the_sync, boxed.the_sync)

column_shared : IsSync column_type.the_row
column_shared = declared_sync column_type.the_type (search sendable, (kind_shared, tt))

expr_field_shared : IsSync (expr_type.the_field).row
expr_field_shared = sync-TExpr (search sendable) (search sendable) (search sendable) text.the_sync (search sendable) (λ h crosses. search (sendable, boxed.the_sync, crosses)) (λ h crosses. search (sendable, seq.the_sync, crosses)) rel.the_field_sync kind_field_shared (search (sendable, seq.the_sync)) function.the_field_sync chain.the_field_sync

expr_shared : IsSync expr_type.the_row
expr_shared = as_row_sync expr_type.the_field expr_field_shared

keys_shared : IsSync (seq_type.the_row key_type.the_row)
keys_shared = search (sendable, seq.the_sync, key.the_sync)

step_shared : IsSync step_type.the_row
step_shared = variants_sync step_type.enum ((expr_shared, (expr_shared, tt)), ((expr_shared, (keys_shared, tt)), ((expr_shared, (search sendable, tt)), ((expr_shared, tt), ((expr_shared, tt), tt)))))

item_shared : IsSync item_type.the_row
item_shared = declared_sync item_type.the_type (expr_shared, (search sendable, (search sendable, tt)))

block_shared : IsSync block_type.the_row
block_shared = declared_sync block_type.the_type (search (sendable, seq.the_sync, step_shared), (search (sendable, seq.the_sync, item_shared), tt))

keyed_shared : IsSync keyed_type.the_row
keyed_shared = declared_sync keyed_type.the_type (search sendable, (search (sendable, seq.the_sync, expr_shared), (search sendable, tt)))

pub op_shared : IsSync op_type.the_row
op_shared = variants_sync op_type.enum (
  (text.the_sync, (delim.the_sync, (search (sendable, seq.the_sync, column_shared), tt))),
  (
    (search sendable, (expr_shared, tt)),
    (
      (search sendable, (block_shared, tt)),
      (
        (search sendable, tt),
        (
          (search (sendable, seq.the_sync, keyed_shared), tt),
          (
            (search (sendable, seq.the_sync, keyed_shared), (side.the_sync, (search sendable, tt))),
            (
              (search (sendable, seq.the_sync), tt),
              (
                (search sendable, tt),
                (
                  (search sendable, (keys_shared, tt)),
                  (
                    (search sendable, (search sendable, tt)),
                    (
                      (search sendable, (text.the_sync, (delim.the_sync, tt))),
                      (
                        (search sendable, (expr_shared, (search (sendable, option.the_sync, text.the_sync), tt))),
                        (
                          (search sendable, (keys_shared, (search sendable, tt))),
                          tt,
                        ),
                      ),
                    ),
                  ),
                ),
              ),
            ),
          ),
        ),
      ),
    ),
  ),
)

pub node_sends : IsSend node_type.the_row
node_sends = declared_send node_type.the_type (op_sends, (search sendable, tt))

pub node_shared : IsSync node_type.the_row
node_shared = declared_sync node_type.the_type (op_shared, (search sendable, tt))

pub nodes_send : IsSend (seq_type.the_row node_type.the_row)
nodes_send = search (sendable, seq.the_send, node_sends)

pub nodes_shared : IsSync (seq_type.the_row node_type.the_row)
nodes_shared = search (sendable, seq.the_sync, node_shared)

kinds_send : IsSend shared_type.the_row
kinds_send =
    search (sendable, declared_send, as_row_send, arc.the_send, heap.the_send, heap.the_sync, freeing.frees, seq.the_send, seq.the_sync, kind_sends, kind_shared) depth 9

kinds_shared : IsSync shared_type.the_row
kinds_shared =
    search (sendable, declared_sync, as_row_sync, arc.the_sync, heap.the_send, heap.the_sync, freeing.frees, seq.the_send, seq.the_sync, kind_sends, kind_shared) depth 9

pub given_sends : IsSend given_type.the_row
given_sends = variants_send given_type.enum ((kinds_send, tt), (tt, tt))

pub given_shared : IsSync given_type.the_row
given_shared = variants_sync given_type.enum ((kinds_shared, tt), (tt, tt))

pub plan_sends : IsSend plan_type.the_row
plan_sends = search (sendable, declared_send, as_row_send, heap.the_send, freeing.frees, vec.the_send, given_sends, nodes_send) depth 9

pub plan_shared : IsSync plan_type.the_row
plan_shared = search (sendable, declared_sync, as_row_sync, heap.the_sync, vec.the_sync, given_shared, nodes_shared) depth 9

way_sends : IsSend way_type.the_row
way_sends = declared_send way_type.the_type (search sendable, (declared_send path_type.the_type (search sendable, (search (sendable, seq.the_send), tt)), tt))

split_sends : IsSend split_type.the_row
split_sends = declared_send split_type.the_type (search sendable, (search sendable, (search sendable, tt)))

part_sends : IsSend part_type.the_row
part_sends = variants_send part_type.enum ((split_sends, tt), ((search sendable, (search sendable, tt)), tt))

map_sends : IsSend map_type.the_row
map_sends = declared_send map_type.the_type (search sendable, (search sendable, (search sendable, (part_sends, tt))))

reduce_sends : IsSend reduce_type.the_row
reduce_sends = declared_send reduce_type.the_type (search sendable, (search sendable, (search sendable, tt)))

task_sends : IsSend task_type.the_row
task_sends = variants_send task_type.enum ((map_sends, tt), ((reduce_sends, tt), ((reduce_sends, tt), tt)))

head_sends : IsSend head_type.the_row
head_sends = declared_send head_type.the_type (wave_kind.the_send, (search sendable, (search sendable, tt)))

wave_sends : IsSend wave_type.the_row
wave_sends = declared_send wave_type.the_type (head_sends, (search (sendable, seq.the_send, way_sends), (search (sendable, seq.the_send, task_sends), tt)))

way_shared : IsSync way_type.the_row
way_shared = declared_sync way_type.the_type (search sendable, (declared_sync path_type.the_type (search sendable, (search (sendable, seq.the_sync), tt)), tt))

split_shared : IsSync split_type.the_row
split_shared = declared_sync split_type.the_type (search sendable, (search sendable, (search sendable, tt)))

part_shared : IsSync part_type.the_row
part_shared = variants_sync part_type.enum ((split_shared, tt), ((search sendable, (search sendable, tt)), tt))

map_shared : IsSync map_type.the_row
map_shared = declared_sync map_type.the_type (search sendable, (search sendable, (search sendable, (part_shared, tt))))

reduce_shared : IsSync reduce_type.the_row
reduce_shared = declared_sync reduce_type.the_type (search sendable, (search sendable, (search sendable, tt)))

task_shared : IsSync task_type.the_row
task_shared = variants_sync task_type.enum ((map_shared, tt), ((reduce_shared, tt), ((reduce_shared, tt), tt)))

head_shared : IsSync head_type.the_row
head_shared = declared_sync head_type.the_type (wave_kind.the_sync, (search sendable, (search sendable, tt)))

wave_shared : IsSync wave_type.the_row
wave_shared = declared_sync wave_type.the_type (head_shared, (search (sendable, seq.the_sync, way_shared), (search (sendable, seq.the_sync, task_shared), tt)))

size_shared : IsSync size_type.the_row
size_shared = declared_sync size_type.the_type (text.the_sync, (search (sendable, seq.the_sync), tt))

folders_send : IsSend folders_type.the_row
folders_send = declared_send folders_type.the_type (search (sendable, seq.the_send), (search (sendable, seq.the_send, option.the_send), tt))

folders_shared : IsSync folders_type.the_row
folders_shared = declared_sync folders_type.the_type (search (sendable, seq.the_sync), (search (sendable, seq.the_sync, option.the_sync), tt))

pub waves_send : IsSend (seq_type.the_row wave_type.the_row)
waves_send = search (sendable, seq.the_send, wave_sends)

pub waves_shared : IsSync (seq_type.the_row wave_type.the_row)
waves_shared = search (sendable, seq.the_sync, wave_shared)

pub sizes_shared : IsSync (seq_type.the_row size_type.the_row)
sizes_shared = search (sendable, seq.the_sync, size_shared)

pub stages_send : (κ : NamedLft) → IsSend (stages_type.the_row κ)
stages_send κ = search (sendable, declared_send, as_row_send, plan_shared, sizes_shared, waves_send, folders_send) depth 9

pub stages_shared : (κ : NamedLft) → IsSync (stages_type.the_row κ)
stages_shared κ = search (sendable, declared_sync, as_row_sync, plan_shared, sizes_shared, waves_shared, folders_shared) depth 9
