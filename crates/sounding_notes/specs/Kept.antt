-- Representation: How the notes of ports are kept: a place for each, by channel and note.
use Rattle.std.specs.Prelude.{◌≡◌, ◌≤◌, ◌<◌, ◌+◌, ◌-◌, ◌*◌, ℕ, Bool, false, List, [], Option, Some, None, slice_index_or}
use Rattle.midi_wire.specs.Kinds.{channels}
use Rattle.node_table.specs.Numbers.{first_client, most_clients, most_ports}
use Rattle.node_table.specs.declared.number.PortAddr.{PortAddr}
use Rattle.seq_state.specs.declared.log.LogEntry.{LogEntry}
use Rattle.seq_state.specs.Heard.{message_at}
use Rattle.sounding_notes.specs.declared.listing.SoundingNote.{SoundingNote}
use Rattle.sounding_notes.specs.Sounding.{after_message, most_notes}

-- ---- at one port

-- how many places a port has
abbrev pub port_places : ℕ
port_places = 2048

-- whether a note sounds, where none does that has no place
abbrev pub reads : List Bool → ℕ → ℕ → Bool
reads places channel note = slice_index_or places (channel * 128 + note) false

-- each note has heard a message
abbrev pub IsHeard : List ℕ → List Bool → List Bool → Type 0
IsHeard m old new = (channel note : ℕ) → channel < channels → note < most_notes →
    reads new channel note ≡ after_message channel note (reads old channel note) m

-- whether a note of this port sounds
abbrev pub reads_in : List Bool → SoundingNote → Bool
reads_in places n = reads places n.channel n.note

-- ---- at all ports

-- how many ports there are
abbrev pub all_ports : ℕ
all_ports = 1024

-- the place of a port
abbrev pub port_number : PortAddr → ℕ
port_number target = (target.client - first_client) * most_ports + target.port

-- what is kept of a port
abbrev pub port_notes : List (List Bool) → PortAddr → List Bool
port_notes ports target = slice_index_or ports (port_number target) []

-- whether a note sounds at its port
abbrev pub reads_at : List (List Bool) → SoundingNote → Bool
reads_at ports n = reads_in (port_notes ports n.target) n

-- whether a note sounds after what came to its port, if anything did
abbrev pub after_heard : SoundingNote → Bool → Option (List ℕ) → Bool
after_heard n before None = before
after_heard n before (Some m) = after_message n.channel n.note before m

-- whether a note sounds after an entry
abbrev pub after_entry : SoundingNote → Bool → LogEntry → Bool
after_entry n before e = after_heard n before (message_at n.target e)

-- a note of a port that may be
pub record IsNote (n : SoundingNote) : Type 0 where
  pub low : first_client ≤ n.target.client
  pub high : n.target.client < first_client + most_clients
  pub port : n.target.port < most_ports
  pub channel : n.channel < channels
  pub note : n.note < most_notes
