use Rattle.std.proofs.Common.{◌≡◌, ℕ, ◌+◌, ◌*◌, true, take}
use Rattle.std.specs.Prelude.{◌≢◌}
use Rattle.seq_sending.specs.Reach.{is_passed, LeadWithin}
use Rattle.seq_sending.proofs.reach.+look.Given as goal

abbrev pub decreases-look_at_all : goal.decreases-look_at_all
decreases-look_at_all l = 2 * l.hops + 1

abbrev pub decreases-look_at : goal.decreases-look_at
decreases-look_at l = 2 * l.hops

abbrev pub invariant-look_at_all-loop-node : goal.invariant-look_at_all-loop-node
invariant-look_at_all-loop-node l =
    (l.left ≢ 0 → LeadWithin (λ c. is_passed l.passed.items l.way c ≡ true) l.graph (l.hops + 1) (take l.node-index l.nodes))
    × ((w c : ℕ) → is_passed l.fn.passed.items w c ≡ true → is_passed l.passed.items w c ≡ true)
