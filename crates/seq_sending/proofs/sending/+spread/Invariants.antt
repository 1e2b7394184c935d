use Rattle.std.proofs.Common.{◌≡◌, ◌≤◌, ◌++◌, ◌+◌, ◌*◌, ◌-◌, drop, List}
use Rattle.std.specs.List.{flat_map}
use Rattle.node_table.specs.declared.number.Addr.{Addr}
use Rattle.seq_state.specs.declared.log.Delivery.{Delivery}
use Rattle.seq_state.specs.Step.{pools_after, copies_with_room}
use Rattle.seq_sending.specs.Carrying.{copies_to}
use Rattle.seq_sending.proofs.sending.+spread.Given as goal

abbrev pub decreases-spread : goal.decreases-spread
decreases-spread g l = 2 * l.hops

abbrev pub decreases-send_to : goal.decreases-send_to
decreases-send_to g l = 2 * l.hops + 1

abbrev pub decreases-send_to-loop-node : goal.decreases-send_to-loop-node
decreases-send_to-loop-node g l = l.hops

abbrev pub invariant-send_to-loop-node : goal.invariant-send_to-loop-node
invariant-send_to-loop-node g l =
    let c = l.fn.clients in
    record {
      hops : l.hops ≤ l.fn.hops;
      clients : l.clients ≡ c;
      out : l.out ≡ l.fn.out;
      same : copies_to c.clients l.graph l.moment l.hops l.node (g.M.Carried.bytes l.message) ≡ copies_to c.clients l.graph l.moment l.fn.hops l.fn.node (g.M.Carried.bytes l.fn.message);
    }

abbrev pub invariant-spread-loop-target : goal.invariant-spread-loop-target
invariant-spread-loop-target g l =
    let c = l.fn.clients in
    let one : Addr → List Delivery = λ node. copies_to c.clients l.graph l.moment (l.hops - 1) node (g.M.Carried.bytes l.message) in
    record {
      clients : l.clients.clients ≡ c.clients;
      pools : pools_after l.clients.pools (flat_map one (drop l.target-index l.targets)) ≡ pools_after c.pools (flat_map one l.targets);
      sent : l.out.items ++ copies_with_room l.clients.pools (flat_map one (drop l.target-index l.targets)) ≡ l.fn.out.items ++ copies_with_room c.pools (flat_map one l.targets);
    }
