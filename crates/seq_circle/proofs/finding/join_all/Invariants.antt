use Rattle.std.proofs.Common.{◌≡◌, ◌≤◌, ◌+◌, length, take}
use Rattle.std.specs.List.{fold}
use Rattle.seq_circle.specs.Finding.{found_after, absent_count}
use Rattle.seq_circle.proofs.ThatMatter.{step_at}
use Rattle.seq_circle.proofs.finding.join_all.Given as goal

-- who is there after the inputs at the places so far
abbrev pub invariant-loop-place : goal.invariant-loop-place
invariant-loop-place l = record {
  owner : l.members.owner ≡ l.fn.members.owner;
  joined : l.members.joined.items ≡ fold (step_at (found_after l.fn.members.owner) l.inputs) l.fn.members.joined.items (take l.place-index l.places);
  fewer : length l.members.joined.items + absent_count l.members.owner l.members.joined.items
      ≤ length l.fn.members.joined.items + absent_count l.fn.members.owner l.fn.members.joined.items;
}
