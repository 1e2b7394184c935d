use Rattle.std.proofs.Common.{◌≡◌, ◌++◌, ◌+◌, ◌*◌, ◌-◌, take, List}
use Rattle.std.specs.List.{flat_map}
use Rattle.node_table.specs.declared.number.Addr.{Addr}
use Rattle.seq_state.specs.declared.log.Delivery.{Delivery}
use Rattle.seq_state.specs.Step.{pools_after, copies_with_room}
use Rattle.seq_sending.specs.Carrying.{copies_to}
use Rattle.seq_sending.specs.Barren.{AreBarren}
use Rattle.seq_sending.proofs.walking.+walk.Given as goal

abbrev pub decreases-walk_all : goal.decreases-walk_all
decreases-walk_all g l = 3 * l.hops

abbrev pub decreases-walk_to : goal.decreases-walk_to
decreases-walk_to g l = 3 * l.hops + 2

abbrev pub decreases-walk_behind : goal.decreases-walk_behind
decreases-walk_behind g l = 3 * l.hops + 1

abbrev pub invariant-walk_all-loop-target : goal.invariant-walk_all-loop-target
invariant-walk_all-loop-target g l =
    let who = l.fn.clients.clients in
    let was = l.fn.clients.pools in
    let one : Addr → List Delivery = λ node. copies_to who l.graph l.moment (l.hops - 1) node (g.M.Carried.bytes l.message) in
    record {
      clients : l.clients.clients ≡ who;
      pools : l.clients.pools ≡ pools_after was (copies_with_room was (flat_map one (take l.target-index l.targets)));
      sent : l.out.items ≡ l.fn.out.items ++ copies_with_room was (flat_map one (take l.target-index l.targets));
      barren : AreBarren g.M.Carried.bytes who l.graph l.moment l.clients.pools l.barren.marks.items;
    }
