use Rattle.std.proofs.Common.{◌≡◌, ◌-◌, ℕ, List}
use Rattle.midi_wire.specs.Messages.{IsMessage}
use Rattle.patch_graph.specs.Paths.{hops}
use Rattle.seq_sending.specs.Carrying.{let_through, of_some, copies_to}
use Rattle.seq_sending.proofs.ways.way_to.Given as goal

-- what the rule lets through comes to the same from the node on
abbrev pub invariant-loop-node : goal.invariant-loop-node
invariant-loop-node l =
    (moment : ℕ) (m : List ℕ) → IsMessage m →
    of_some (λ x. copies_to l.clients.clients l.graph moment l.hops l.node x) (let_through l.rule m) ≡ copies_to l.clients.clients l.graph moment (hops - 1) l.target m

abbrev pub decreases-loop-node : goal.decreases-loop-node
decreases-loop-node l = l.hops
