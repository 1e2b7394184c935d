-- Definition: Lines of scripts that did what they say, and most likely not what was meant.
use Rattle.std.specs.Prelude.{ℕ, ◌==◌, nat_lt, Bool, true, ◌&&◌, if◌then◌else◌, List, [], ◌∷◌, Option, Some, None, slice_get}
use Rattle.std.specs.List.{flat_map}
use Rattle.std.specs.Option.{option_and_then}
use Rattle.seq_state.specs.declared.input.Command.{Command}
use Rattle.seq_state.specs.declared.input.Command.TheVariants.{CreateFilter, SetFilter, CreateQueue, Tempo}
use Rattle.seq_state.specs.declared.input.Input.{Input}
use Rattle.seq_state.specs.declared.log.LogEntry.{LogEntry}
use Rattle.seq_state.specs.declared.log.LogEntry.TheVariants.{Delivered, Replied}
use Rattle.seq_session.specs.declared.slip.Slip.{Slip}
use Rattle.seq_session.specs.declared.slip.Slip.TheVariants.{TempoAsBpm, ChannelsTen}
use Rattle.seq_session.specs.declared.slip.SlipOnLine.{SlipOnLine}
use Rattle.seq_session.specs.MadePorts.{is_done}

-- ---- commands

-- a tempo below a millisecond per quarter note: beats per minute were meant
abbrev pub tempo_slip : ℕ → Option Slip
tempo_slip tempo = if nat_lt 0 tempo && nat_lt tempo 1000 then Some (TempoAsBpm tempo) else None

-- channels 2 and 4, by their sum: channel 10 was meant
abbrev pub channels_slip : ℕ → Option Slip
channels_slip channels = if channels == 10 then Some ChannelsTen else None

-- the slip of a command, if it has one
abbrev pub slip_of : Command → Option Slip
slip_of (CreateQueue n ppq tempo) = tempo_slip tempo
slip_of (Tempo q tempo) = tempo_slip tempo
slip_of (CreateFilter f caps rule) = channels_slip rule.channels
slip_of (SetFilter f rule) = channels_slip rule.channels
slip_of _ = None

-- that of the input at a place
abbrev pub slip_in : List Input → ℕ → Option Slip
slip_in inputs place = option_and_then (λ i. slip_of i.command) (slice_get inputs place)

-- ---- a run

-- a slip on a line, where the command was done and there are a line and a slip
abbrev pub slip_at : ℕ → Bool → Option ℕ → Option Slip → List SlipOnLine
slip_at client true (Some line) (Some slip) =
    record { client = client; line = line; slip = slip } ∷ []
slip_at client _ _ _ = []

-- the slip on the line of an entry of the run; `lines` are those of the inputs
abbrev pub slip_line : List Input → List ℕ → LogEntry → List SlipOnLine
slip_line inputs lines (Delivered d) = []
slip_line inputs lines (Replied place moment client r) =
    slip_at client (is_done r) (slice_get lines place) (slip_in inputs place)

-- the slips, in the order of the run
abbrev pub slips : List Input → List ℕ → List LogEntry → List SlipOnLine
slips inputs lines entries = flat_map (slip_line inputs lines) entries
