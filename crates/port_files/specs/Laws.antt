-- Law: A file keeps the grid of what came to ports.
use Rattle.std.specs.Prelude.{◌≡◌, ◌≤◌, ◌<◌, ◌^◌, ℕ, true, false, List, Some}
use Rattle.midi_wire.specs.Messages.{AllMessages}
use Rattle.node_table.specs.declared.number.PortAddr.{PortAddr}
use Rattle.seq_state.specs.declared.log.Delivery.{Delivery}
use Rattle.seq_state.specs.declared.log.LogEntry.{LogEntry}
use Rattle.seq_state.specs.declared.log.LogEntry.TheVariants.{Delivered}
use Rattle.seq_state.specs.Heard.{port_messages}
use Rattle.seq_state.specs.Laws.{deliveries_of, NeverFall}
use Rattle.smf_grammar.specs.Contents.{events_from, entries_of}
use Rattle.tempo_clock.specs.Entries.{are_entries}
use Rattle.tempo_clock.specs.Ticks.{Tempos, is_smpte, resolution, duration, nanos_at}
use Rattle.port_files.specs.Tracks.{is_recorded, recorded_event, recording_of, tempos_of, port_track, ports_file}

-- the events of a port's track are what came to the port, each at its tick: of messages, whose
-- moments never fall, as in a run
abbrev pub KeepsEvents : Type 0
KeepsEvents = (clock : Tempos) (port : PortAddr) (entries : List LogEntry)
    → AllMessages (port_messages port entries) → NeverFall (deliveries_of entries)
    → events_from 0 (port_track clock entries port) ≡ recording_of clock port entries

-- what comes just when a tick comes stands at this tick, where the tick lasts at least a nanosecond
abbrev pub KeepsTicks : Type 0
KeepsTicks = (clock : Tempos) (port : PortAddr) (d : Delivery) (t : ℕ)
    → 0 < resolution clock → t < 2 ^ 64 → resolution clock ≤ duration clock t
    → is_recorded port d ≡ true → d.moment ≡ nanos_at clock t
    → recorded_event clock port (Delivered d) ≡ Some (record { tick = t; message = d.message })

-- the tempo entries of the file are those of the map: none where the division counts frames
abbrev pub KeepsTempos : Type 0
KeepsTempos = (clock : Tempos) (ports : List PortAddr) (entries : List LogEntry)
    → (is_smpte clock ≡ false → are_entries clock.entries ≡ true)
    → entries_of (ports_file clock ports entries) ≡ tempos_of clock
