use Rattle.std.proofs.Common.{◌≡◌, ◌++◌}
use Rattle.std.specs.FinMap as map
use Rattle.seq_state.specs.Effect.{queue_of}
use Rattle.seq_patchbay.specs.Listing.{queue_lines, texts}
use Rattle.seq_patchbay.proofs.listing.list_queues.Given as goal

abbrev pub invariant-loop-number : goal.invariant-loop-number
invariant-loop-number l = l.out.items ≡ l.initial.out.items ++ texts 0 l.number (λ n. queue_lines l.fn.client n (queue_of (map.get l.fn.clients.clients l.fn.client) n))
