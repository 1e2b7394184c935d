-- Law: When a note sounds, in words of messages alone.
use Rattle.std.specs.Prelude.{◌≡◌, ◌↔◌, ℕ, IsTrue, IsFalse, List, ◌∷◌, ◌++◌}
use Rattle.std.specs.List.{list_any}
use Rattle.seq_state.specs.declared.log.LogEntry.{LogEntry}
use Rattle.seq_state.specs.Heard.{port_messages}
use Rattle.sounding_notes.specs.declared.listing.SoundingNote.{SoundingNote}
use Rattle.sounding_notes.specs.Sounding.{starts, ends, sounds}

-- one of the messages starts a note, and none after it ends it
pub record IsStarted (channel note : ℕ) (messages : List (List ℕ)) : Type 0 where
  pub before : List (List ℕ)
  pub start : List ℕ
  pub after : List (List ℕ)
  pub whole : messages ≡ before ++ start ∷ after
  pub started : IsTrue (starts channel note start)
  pub not_ended : IsFalse (list_any (ends channel note) after)

-- a note sounds exactly where a message that came to its port starts it, and none after it ends it
abbrev pub SoundsFromAStart : Type 0
SoundsFromAStart = (log : List LogEntry) (n : SoundingNote) →
    IsTrue (sounds log n) ↔ IsStarted n.channel n.note (port_messages n.target log)
