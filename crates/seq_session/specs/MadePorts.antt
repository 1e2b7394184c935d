-- Definition: Which ports were made in a run.
use Rattle.std.specs.Prelude.{ℕ, ◌==◌, Bool, true, false, ◌&&◌, List, Option, Some, None, slice_get}
use Rattle.std.specs.List.{list_any}
use Rattle.node_table.specs.declared.number.PortAddr.{PortAddr}
use Rattle.seq_state.specs.declared.input.Command.{Command}
use Rattle.seq_state.specs.declared.input.Command.TheVariants.{CreatePort}
use Rattle.seq_state.specs.declared.input.Input.{Input}
use Rattle.seq_state.specs.declared.log.LogEntry.{LogEntry}
use Rattle.seq_state.specs.declared.log.LogEntry.TheVariants.{Delivered, Replied}
use Rattle.seq_state.specs.declared.log.Reply.{Reply}
use Rattle.seq_state.specs.declared.log.Reply.TheVariants.{Done}

-- whether a command was done, by its reply
abbrev pub is_done : Reply → Bool
is_done Done = true
is_done _ = false

-- whether a command makes the client's port of this number
abbrev pub makes : ℕ → Command → Bool
makes number (CreatePort p name caps) = p == number
makes number _ = false

-- whether the input, if there is one, asks for this port
abbrev pub asks_for : PortAddr → Option Input → Bool
asks_for port None = false
asks_for port (Some i) = (i.actor == port.client) && makes port.port i.command

-- whether an entry of the run tells that this port was made
abbrev pub tells_of : PortAddr → List Input → LogEntry → Bool
tells_of port inputs (Delivered d) = false
tells_of port inputs (Replied place moment client r) =
    is_done r && asks_for port (slice_get inputs place)

-- whether a port was ever there
abbrev pub had_port : PortAddr → List Input → List LogEntry → Bool
had_port port inputs entries = list_any (tells_of port inputs) entries
