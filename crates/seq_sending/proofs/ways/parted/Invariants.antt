use Rattle.std.proofs.Common.{◌≡◌, ◌-◌, ℕ, List, take}
use Rattle.std.specs.List.{flat_map}
use Rattle.midi_wire.specs.Messages.{IsMessage}
use Rattle.seq_sending.specs.Carrying.{let_through, of_some, copies_to}
use Rattle.seq_sending.specs.Ways.{copies_by_branches}
use Rattle.seq_sending.proofs.ways.parted.Given as goal

abbrev pub invariant-loop-target : goal.invariant-loop-target
invariant-loop-target l =
    (moment : ℕ) (m : List ℕ) → IsMessage m →
    copies_by_branches moment m l.branches.items ≡ flat_map (λ node. of_some (λ x. copies_to l.clients.clients l.graph moment (l.hops - 1) node x) (let_through l.rule m)) (take l.target-index l.targets)
