use Rattle.std.proofs.Common.{◌≡◌, ◌++◌, ◌-◌}
use Rattle.std.specs.FinMap as map
use Rattle.seq_clients.specs.Roster.{listens}
use Rattle.seq_patchbay.specs.Listing.{client_lines, texts}
use Rattle.seq_patchbay.proofs.listing.list_clients.Given as goal

abbrev pub invariant-loop-number : goal.invariant-loop-number
invariant-loop-number l = l.out.items ≡ l.initial.out.items ++ texts 128 (l.number - 128) (λ n. client_lines n (map.get l.fn.clients.clients n) (listens (map.get l.fn.clients.pools n)))
