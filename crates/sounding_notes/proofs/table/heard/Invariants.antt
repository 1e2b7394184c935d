use Rattle.std.proofs.Common.{◌≡◌, take}
use Rattle.sounding_notes.specs.declared.listing.SoundingNote.{SoundingNote}
use Rattle.sounding_notes.specs.Kept.{reads_at, IsNote}
use Rattle.sounding_notes.specs.Sounding.{sounds}
use Rattle.sounding_notes.proofs.table.heard.Given as goal

-- the entries so far were heard
abbrev pub invariant-loop-entry : goal.invariant-loop-entry
invariant-loop-entry l = (n : SoundingNote) → IsNote n → reads_at l.table n ≡ sounds (take l.entry-index l.entries) n
