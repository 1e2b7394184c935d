use Rattle.std.proofs.Common.{◌≡◌, [], take}
use Rattle.std.specs.List.{fold}
use Rattle.seq_circle.specs.Least.{reaches_out}
use Rattle.seq_circle.proofs.ThatMatter.{step_at, pushed}
use Rattle.seq_circle.proofs.circle.apart_of.Given as goal

-- the places so far
abbrev pub invariant-loop-place : goal.invariant-loop-place
invariant-loop-place l =
    l.found.items ≡ fold (step_at (pushed (reaches_out l.members.owner l.members.joined.items)) l.inputs) [] (take l.place-index l.places)
