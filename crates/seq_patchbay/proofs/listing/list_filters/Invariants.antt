use Rattle.std.proofs.Common.{◌≡◌, ◌++◌}
use Rattle.std.specs.FinMap as map
use Rattle.seq_state.specs.Effect.{filter_of}
use Rattle.seq_patchbay.specs.Listing.{filter_lines, texts}
use Rattle.seq_patchbay.proofs.listing.list_filters.Given as goal

abbrev pub invariant-loop-number : goal.invariant-loop-number
invariant-loop-number l = l.out.items ≡ l.initial.out.items ++ texts 0 l.number (λ n. filter_lines l.fn.client n (filter_of (map.get l.fn.clients.clients l.fn.client) n))
