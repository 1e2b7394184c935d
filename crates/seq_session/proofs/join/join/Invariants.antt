use Rattle.std.proofs.Common.{◌≡◌, ◌++◌, ◌-◌, ◌+◌, ◌≤◌, map, drop, length}
use Rattle.seq_session.specs.Merging.{merged_with}
use Rattle.seq_session.proofs.join.join.Given as goal

abbrev pub invariant-loop-i : goal.invariant-loop-i
invariant-loop-i l = record {
  within_left : l.i ≤ length l.left;
  within_right : l.j ≤ length l.right;
  so_far : map (λ r. r.now) l.out.items ++ merged_with (map (λ r. r.now) (drop l.i l.left)) (map (λ r. r.now) (drop l.j l.right)) ≡ merged_with (map (λ r. r.now) l.left) (map (λ r. r.now) l.right);
}

abbrev pub decreases-loop-i : goal.decreases-loop-i
decreases-loop-i l = (length l.left - l.i) + (length l.right - l.j)
