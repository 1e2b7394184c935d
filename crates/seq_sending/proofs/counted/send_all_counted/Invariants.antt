use Rattle.std.proofs.Common.{◌≡◌, ◌++◌, take}
use Rattle.seq_state.specs.Step.{pools_after, copies_with_room}
use Rattle.patch_graph.specs.Index.{targets_of}
use Rattle.seq_sending.specs.KeptCounts.{AreCountsKept}
use Rattle.seq_sending.specs.Ways.{spread_all}
use Rattle.seq_sending.proofs.counted.send_all_counted.Given as goal

abbrev pub invariant-loop-message : goal.invariant-loop-message
invariant-loop-message l =
    let c = l.fn.clients in
    record {
      counts : AreCountsKept c.clients l.graph l.kept.kept.items;
      clients : l.clients.clients ≡ c.clients;
      pools : l.clients.pools ≡ pools_after c.pools (spread_all c.clients l.graph l.moment (targets_of l.graph l.source) (take l.message-index l.messages));
      sent : l.out.items ≡ l.fn.out.items ++ copies_with_room c.pools (spread_all c.clients l.graph l.moment (targets_of l.graph l.source) (take l.message-index l.messages));
    }
