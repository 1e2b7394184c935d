-- Definition: What came to a port, as one stream.
use Rattle.std.specs.Prelude.{◌≡◌, ℕ, ◌==◌, Bool, ◌&&◌, if◌then◌else◌, List, Option, Some, None}
use Rattle.std.specs.List.{filter_map}
use Rattle.midi_wire.specs.Writings.{wire_bytes}
use Rattle.node_table.specs.declared.number.PortAddr.{PortAddr}
use Rattle.seq_state.specs.declared.input.Input.{Input}
use Rattle.seq_state.specs.declared.log.Delivery.{Delivery}
use Rattle.seq_state.specs.declared.log.LogEntry.{LogEntry}
use Rattle.seq_state.specs.declared.log.LogEntry.TheVariants.{Delivered, Replied}
use Rattle.smf_grammar.specs.Played.{PlayedFile}
use Rattle.seq_state.specs.Step.{plain, IsTimed}
use Rattle.seq_state.specs.Circle.{only, is_to, IsClosed}

abbrev pub port_at : ℕ → ℕ → PortAddr
port_at client port = record { client = client; port = port }

abbrev pub comes_to : PortAddr → Delivery → Bool
comes_to port d = is_to port.client d && (d.target.port == port.port)

-- the message of an entry, where it came to this port
abbrev pub message_at : PortAddr → LogEntry → Option (List ℕ)
message_at port (Delivered d) = if comes_to port d then Some d.message else None
message_at port (Replied place moment client reply) = None

-- the messages that came to a port
abbrev pub port_messages : PortAddr → List LogEntry → List (List ℕ)
port_messages port log = filter_map (message_at port) log

-- their bytes as one stream writer writes them
abbrev pub port_bytes : PortAddr → List LogEntry → List ℕ
port_bytes port log = wire_bytes (port_messages port log)

-- what comes to a port of the owner of a closed circle, byte for byte, is what comes to it in the
-- plain run of the circle's inputs alone
abbrev pub PortBytesLaw : Type 0
PortBytesLaw =
    (files : List PlayedFile) (owner : ℕ) (member : ℕ → Bool) (inputs : List Input) (end port : ℕ) →
    IsTimed inputs end → IsClosed files owner member inputs →
    port_bytes (port_at owner port) (plain files inputs end)
    ≡ port_bytes (port_at owner port) (plain files (only member inputs) end)
