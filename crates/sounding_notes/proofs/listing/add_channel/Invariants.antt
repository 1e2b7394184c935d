use Rattle.sounding_notes.specs.Kept.{reads_in}
use Rattle.sounding_notes.proofs.Added.{AreAdded}
use Rattle.sounding_notes.proofs.Parts.{one_note}
use Rattle.sounding_notes.proofs.listing.add_channel.Given as goal

abbrev pub invariant-loop-note : goal.invariant-loop-note
invariant-loop-note l = AreAdded (one_note (reads_in l.notes) l.target l.channel) 0 l.note 128 l.initial.found.items l.found.items
