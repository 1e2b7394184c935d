-- Definition: A circle that no stranger can open, whatever it says: told by what the members say
-- alone.
use Rattle.std.specs.Prelude.{ℕ, ◌==◌, Bool, true, false, not, ◌&&◌, if◌then◌else◌, List, Option, Some, None}
use Rattle.std.specs.List.{list_all}
use Rattle.std.specs.Option.{option_map}
use Rattle.node_table.specs.Capabilities.{can, write_bit, subs_write_bit}
use Rattle.node_table.specs.declared.number.Addr.{Addr}
use Rattle.seq_state.specs.declared.input.Command.{Command}
use Rattle.seq_state.specs.declared.input.Command.TheVariants.{CreatePort, CreateFilter, Connect, Disconnect}
use Rattle.seq_state.specs.declared.input.Input.{Input}
use Rattle.seq_state.specs.Table.{queue_named}
use Rattle.seq_state.specs.Circle.{only, is_inner}

-- anyone may join a node with these capabilities, from a node of its own
abbrev pub is_joinable : ℕ → Bool
is_joinable caps = can write_bit caps && can subs_write_bit caps

-- the command of a member makes a node inside that anyone may join
abbrev pub opens : ℕ → ℕ → Command → Bool
opens owner actor (CreatePort port name caps) = (actor == owner) && is_joinable caps.0
opens owner actor (CreateFilter filter caps rule) = is_joinable caps.0
opens owner actor _ = false

-- the target of a Connect or Disconnect
abbrev pub target_of : Command → Option Addr
target_of (Connect source target) = Some target
target_of (Disconnect source target) = Some target
target_of _ = None

-- the client that a member's Connect or Disconnect asks into the circle: the source's, where the
-- target is inside
abbrev pub joined_client : ℕ → (ℕ → Bool) → Addr → Addr → Option ℕ
joined_client owner member source target =
    if is_inner owner member target then Some source.client else None

-- the client that a member's command asks into the circle
abbrev pub asked_client : ℕ → (ℕ → Bool) → Command → Option ℕ
asked_client owner member (Connect source target) = joined_client owner member source target
asked_client owner member (Disconnect source target) = joined_client owner member source target
asked_client owner member command = option_map (λ q. q.client) (queue_named command)

abbrev pub is_met : (ℕ → Bool) → Option ℕ → Bool
is_met member None = true
is_met member (Some client) = member client

-- whom a member's input asks for is there
abbrev pub stays_within : ℕ → (ℕ → Bool) → Input → Bool
stays_within owner member i = is_met member (asked_client owner member i.command)

-- The owner is in the circle, and so are all whom members ask for.
abbrev pub is_whole_circle : ℕ → (ℕ → Bool) → List Input → Bool
is_whole_circle owner member inputs =
    member owner && list_all (stays_within owner member) (only member inputs)

-- no member makes a node inside that anyone may join
abbrev pub lets_none_in : ℕ → (ℕ → Bool) → List Input → Bool
lets_none_in owner member inputs =
    list_all (λ i. not (opens owner i.actor i.command)) (only member inputs)

-- The circle is shut round its owner.
abbrev pub is_shut : ℕ → (ℕ → Bool) → List Input → Bool
is_shut owner member inputs =
    is_whole_circle owner member inputs && lets_none_in owner member inputs
