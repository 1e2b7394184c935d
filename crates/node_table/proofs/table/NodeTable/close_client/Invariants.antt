use Rattle.std.proofs.Common.{◌*◌}
use Rattle.node_table.proofs.Clearing.{IsCleared}
use Rattle.node_table.proofs.table.NodeTable.close_client.Given as goal

abbrev pub invariant-loop-place : goal.invariant-loop-place
invariant-loop-place g l =
    IsCleared l.initial.self-inside.names l.initial.self-inside.keys.items l.initial.self-inside.nodes.slots (l.row * 32) l.place l.self-inside.names l.self-inside.keys.items l.self-inside.nodes.slots
