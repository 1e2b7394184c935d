use Rattle.std.proofs.Common.{◌≡◌, ◌++◌, take}
use Rattle.std.specs.List.{flat_map}
use Rattle.seq_patchbay.specs.Listing.{edge_line}
use Rattle.seq_patchbay.proofs.listing.list_each_edge.Given as goal

abbrev pub invariant-loop-edge : goal.invariant-loop-edge
invariant-loop-edge l = l.out.items ≡ l.initial.out.items ++ flat_map (λ e. edge_line e.source e.target) (take l.edge-index l.edges)
