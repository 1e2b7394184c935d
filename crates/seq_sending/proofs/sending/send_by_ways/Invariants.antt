use Rattle.std.proofs.Common.{◌≡◌, ◌++◌, take, List}
use Rattle.node_table.specs.declared.number.Addr.{Addr}
use Rattle.seq_state.specs.Step.{pools_after, copies_with_room}
use Rattle.seq_sending.specs.Ways.{spread_all, AreWays}
use Rattle.seq_sending.proofs.sending.send_by_ways.Given as goal

abbrev pub invariant-loop-message : goal.invariant-loop-message
invariant-loop-message l =
    let c = l.fn.clients in
    record {
      clients : l.clients.clients ≡ c.clients;
      pools : (targets : List Addr) → AreWays c.clients l.graph targets l.ways →
          l.clients.pools ≡ pools_after c.pools (spread_all c.clients l.graph l.moment targets (take l.message-index l.messages));
      sent : (targets : List Addr) → AreWays c.clients l.graph targets l.ways →
          l.out.items ≡ l.fn.out.items ++ copies_with_room c.pools (spread_all c.clients l.graph l.moment targets (take l.message-index l.messages));
    }
