-- Definition: How a circle that is open is shut: by makings without SUBS_WRITE.
use Rattle.std.specs.Prelude.{ℕ, ◌-◌, Bool, ◌&&◌, if◌then◌else◌, Option, Some, None}
use Rattle.std.specs.Int.RustNames.{bit_and}
use Rattle.node_table.specs.Capabilities.{known_bits, subs_write_bit}
use Rattle.node_table.specs.declared.number.Node.{Node}
use Rattle.node_table.specs.declared.number.Node.TheVariants.{Port, Filter}
use Rattle.seq_state.specs.declared.input.Command.{Command}
use Rattle.seq_state.specs.declared.input.Command.TheVariants.{CreatePort, CreateFilter}
use Rattle.seq_state.specs.declared.input.Input.{Input}
use Rattle.seq_circle.specs.Shut.{opens}

-- capabilities without SUBS_WRITE
abbrev pub closed_caps : ℕ → ℕ
closed_caps caps = bit_and caps (known_bits - subs_write_bit)

-- the node that a command makes, with the number of its capabilities
abbrev pub making_of : Command → Option (Node × ℕ)
making_of (CreatePort port name caps) = Some (Port port, caps.0)
making_of (CreateFilter filter caps rule) = Some (Filter filter, caps.0)
making_of _ = None

-- the same node made without SUBS_WRITE
abbrev pub closed_making : Command → Command
closed_making (CreatePort port name caps) =
    CreatePort port name (record { 0 = closed_caps caps.0 })
closed_making (CreateFilter filter caps rule) =
    CreateFilter filter (record { 0 = closed_caps caps.0 }) rule
closed_making command = command

-- an input of a member that makes a node inside which anyone may join makes it without SUBS_WRITE
abbrev pub mended : ℕ → (ℕ → Bool) → Input → Input
mended owner member i =
    if member i.actor && opens owner i.actor i.command
    then record i { command = closed_making i.command } else i
