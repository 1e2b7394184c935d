use Rattle.std.proofs.Common.{◌≡◌, ◌++◌}
use Rattle.std.specs.FinMap as map
use Rattle.seq_state.specs.Effect.{port_of}
use Rattle.seq_patchbay.specs.Listing.{port_lines, texts}
use Rattle.seq_patchbay.proofs.listing.list_ports.Given as goal

abbrev pub invariant-loop-number : goal.invariant-loop-number
invariant-loop-number l = l.out.items ≡ l.initial.out.items ++ texts 0 l.number (λ n. port_lines l.fn.client n (port_of (map.get l.fn.clients.clients l.fn.client) n))
