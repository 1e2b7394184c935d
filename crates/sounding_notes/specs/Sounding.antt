-- Definition: Which notes sound at ports after the entries of a log.
use Rattle.std.specs.Prelude.{ℕ, ◌+◌, ◌==◌, nat_lt, nat_le, Bool, true, false, ◌&&◌, ◌||◌, if◌then◌else◌, List, [], ◌∷◌, map}
use Rattle.std.specs.List.{fold, filter, flat_map, range_with_len}
use Rattle.midi_wire.specs.declared.status.TheConstants.{NOTE_OFF, NOTE_ON, CONTROL_CHANGE}
use Rattle.midi_wire.specs.Kinds.{channels}
use Rattle.node_table.specs.Numbers.{first_client, most_clients, most_ports}
use Rattle.node_table.specs.declared.number.PortAddr.{PortAddr}
use Rattle.seq_state.specs.declared.log.LogEntry.{LogEntry}
use Rattle.seq_state.specs.Heard.{port_at, port_messages}
use Rattle.sounding_notes.specs.declared.listing.SoundingNote.{SoundingNote}
use Rattle.sounding_notes.specs.declared.port_notes.TheConstants.{ALL_SOUND_OFF, ALL_NOTES_OFF, SYSTEM_RESET}

-- ---- what a message does to a note of a channel

-- 9n k v with a velocity: a note on
abbrev pub starts : ℕ → ℕ → List ℕ → Bool
starts channel note (status ∷ key ∷ velocity ∷ []) =
    (status == NOTE_ON + channel) && (key == note && nat_lt 0 velocity)
starts channel note _ = false

-- all sound off, or all notes off and the modes behind it, which end all notes too
abbrev pub ends_all : ℕ → Bool
ends_all control = (control == ALL_SOUND_OFF) || nat_le ALL_NOTES_OFF control

-- FF: a reset; 8n k v: a note off; 9n k 00: a note on without velocity; Bn 78 v, and Bn 7B v to
-- Bn 7F v: mode messages that end all notes of the channel
abbrev pub ends : ℕ → ℕ → List ℕ → Bool
ends channel note (status ∷ []) = status == SYSTEM_RESET
ends channel note (status ∷ first ∷ second ∷ []) =
    ((status == NOTE_OFF + channel) && first == note)
    || (((status == NOTE_ON + channel) && (first == note && second == 0))
    || ((status == CONTROL_CHANGE + channel) && ends_all first))
ends channel note _ = false

-- whether it sounds after a message, by whether it did before
abbrev pub after_message : ℕ → ℕ → Bool → List ℕ → Bool
after_message channel note before m =
    if starts channel note m then true else (if ends channel note m then false else before)

-- ---- the notes that sound

-- whether a note sounds after a log, by the messages that came to its port
abbrev pub sounds : List LogEntry → SoundingNote → Bool
sounds log n = fold (after_message n.channel n.note) false (port_messages n.target log)

-- how many notes a channel has
abbrev pub most_notes : ℕ
most_notes = 128

abbrev pub note_at : PortAddr → ℕ → ℕ → SoundingNote
note_at target channel note = record { target = target; channel = channel; note = note }

unfoldable pub notes_of_channel : PortAddr → ℕ → List SoundingNote
notes_of_channel target channel = map (note_at target channel) (range_with_len 0 most_notes)

unfoldable pub notes_of_port : PortAddr → List SoundingNote
notes_of_port target = flat_map (notes_of_channel target) (range_with_len 0 channels)

unfoldable pub notes_of_client : ℕ → List SoundingNote
notes_of_client client =
    flat_map (λ port. notes_of_port (port_at client port)) (range_with_len 0 most_ports)

-- each note of each channel of each port, rising by client, port, channel and note
unfoldable pub all_notes : List SoundingNote
all_notes = flat_map notes_of_client (range_with_len first_client most_clients)

-- the notes that sound after a log
abbrev pub sounding : List LogEntry → List SoundingNote
sounding log = filter (sounds log) all_notes
