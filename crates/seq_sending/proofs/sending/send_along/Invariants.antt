use Rattle.std.proofs.Common.{◌≡◌, ◌++◌, drop, List}
use Rattle.std.specs.List.{flat_map}
use Rattle.seq_state.specs.declared.log.Delivery.{Delivery}
use Rattle.seq_state.specs.Step.{pools_after, copies_with_room}
use Rattle.seq_sending.specs.Ways.{copies_on}
use Rattle.seq_sending.specs.declared.ways.Way.{Way}
use Rattle.seq_sending.proofs.sending.send_along.Given as goal

abbrev pub invariant-loop-way : goal.invariant-loop-way
invariant-loop-way g l =
    let c = l.fn.clients in
    let one : Way → List Delivery = λ way. copies_on c.clients l.graph l.moment (g.M.Carried.bytes l.message) way in
    record {
      clients : l.clients.clients ≡ c.clients;
      pools : pools_after l.clients.pools (flat_map one (drop l.way-index l.ways)) ≡ pools_after c.pools (flat_map one l.ways);
      sent : l.out.items ++ copies_with_room l.clients.pools (flat_map one (drop l.way-index l.ways)) ≡ l.fn.out.items ++ copies_with_room c.pools (flat_map one l.ways);
    }
