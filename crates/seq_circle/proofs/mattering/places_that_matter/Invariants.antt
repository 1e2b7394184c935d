use Rattle.std.proofs.Common.{◌≡◌, take}
use Rattle.seq_circle.specs.Least.{places_where}
use Rattle.seq_circle.specs.Mattering.{matters}
use Rattle.seq_circle.proofs.mattering.places_that_matter.Given as goal

-- the places so far
abbrev pub invariant-loop-place : goal.invariant-loop-place
invariant-loop-place l = l.places.items ≡ places_where matters (take l.place l.inputs)
