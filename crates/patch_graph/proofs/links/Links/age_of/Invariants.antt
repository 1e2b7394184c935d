use Rattle.std.proofs.Common.{◌≡◌, drop}
use Rattle.std.specs.Map.{lookup}
use Rattle.node_table.specs.Addresses.{same}
use Rattle.patch_graph.proofs.links.Links.age_of.Given as goal

abbrev pub invariant-loop-place : goal.invariant-loop-place
invariant-loop-place l = lookup (same l.node) (drop l.place l.self) ≡ lookup (same l.node) l.self
