use Rattle.std.proofs.Common.{◌≡◌, ◌≤◌, true, length, take}
use Rattle.std.specs.Prelude.{◌≢◌}
use Rattle.seq_sending.specs.Reach.{is_passed, LeadInOrder}
use Rattle.seq_sending.proofs.reach.look_from.Given as goal

abbrev pub invariant-loop-way : goal.invariant-loop-way
invariant-loop-way l =
    (l.left ≢ 0 → LeadInOrder (λ w c. is_passed l.fn.passed.items w c ≡ true) l.graph (take l.first l.nodes) → LeadInOrder (λ w c. is_passed l.passed.items w c ≡ true) l.graph (take l.way l.nodes))
    × (l.way ≤ length l.nodes)
