use Rattle.std.specs.List.{filter}
use Rattle.sounding_notes.specs.Kept.{reads_at}
use Rattle.sounding_notes.specs.Sounding.{notes_of_client}
use Rattle.sounding_notes.proofs.Added.{AreAdded}
use Rattle.sounding_notes.proofs.listing.listed.Given as goal

abbrev pub invariant-loop-number : goal.invariant-loop-number
invariant-loop-number l = AreAdded (λ client. filter (reads_at l.table) (notes_of_client client)) 128 l.number 192 l.initial.found.items l.found.items
