use Rattle.std.proofs.Common.{◌≡◌, ◌≤◌, ◌+◌, [], ◌∷◌, ◌++◌, length, take, List}
use Rattle.std.specs.Prelude.{vec_len, vec_capacity}
use Rattle.node_table.specs.declared.number.Addr.{Addr}
use Rattle.patch_graph.specs.declared.edge.Edge.{Edge}
use Rattle.seq_state.specs.Step.{pools_after, copies_with_room}
use Rattle.seq_sending.specs.Ways.{spread_all, AreWays}
use Rattle.seq_sending.specs.declared.ways.Way.TheVariants.{Straight}
use Rattle.seq_sending.proofs.sending.send_straight.Given as goal

abbrev pub invariant-loop-message : goal.invariant-loop-message
invariant-loop-message l =
    let c = l.fn.clients in
    record {
      clients : l.clients.clients ≡ c.clients;
      pools : (edges : List Edge) (targets : List Addr) → AreWays c.clients edges targets (Straight l.end ∷ []) →
          l.clients.pools ≡ pools_after c.pools (spread_all c.clients edges l.moment targets (take l.message-index l.messages));
      sent : (edges : List Edge) (targets : List Addr) → AreWays c.clients edges targets (Straight l.end ∷ []) →
          l.out.items ≡ l.fn.out.items ++ copies_with_room c.pools (spread_all c.clients edges l.moment targets (take l.message-index l.messages));
      room : vec_len l.out + length l.messages ≤ vec_capacity l.out + l.message-index;
    }
