use Rattle.std.specs.List.{filter}
use Rattle.seq_state.specs.Heard.{port_at}
use Rattle.sounding_notes.specs.Kept.{reads_at}
use Rattle.sounding_notes.specs.Sounding.{notes_of_port}
use Rattle.sounding_notes.proofs.Added.{AreAdded}
use Rattle.sounding_notes.proofs.listing.add_client.Given as goal

abbrev pub invariant-loop-number : goal.invariant-loop-number
invariant-loop-number l = AreAdded (λ port. filter (reads_at l.table) (notes_of_port (port_at l.client port))) 0 l.number 16 l.initial.found.items l.found.items
