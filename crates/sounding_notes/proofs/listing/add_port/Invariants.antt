use Rattle.std.specs.List.{filter}
use Rattle.sounding_notes.specs.Kept.{reads_in}
use Rattle.sounding_notes.specs.Sounding.{notes_of_channel}
use Rattle.sounding_notes.proofs.Added.{AreAdded}
use Rattle.sounding_notes.proofs.listing.add_port.Given as goal

abbrev pub invariant-loop-channel : goal.invariant-loop-channel
invariant-loop-channel l = AreAdded (λ channel. filter (reads_in l.notes) (notes_of_channel l.target channel)) 0 l.channel 16 l.initial.found.items l.found.items
