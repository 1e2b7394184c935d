-- Representation: The inputs that may matter to a circle, whoever its members are.
use Rattle.std.specs.Prelude.{ℕ, ◌==◌, Bool, false, not, ◌||◌, Option, Some, None, is_some}
use Rattle.node_table.specs.declared.number.Node.{Node}
use Rattle.node_table.specs.declared.number.QueueAddr.{QueueAddr}
use Rattle.seq_state.specs.declared.input.Input.{Input}
use Rattle.seq_state.specs.Table.{queue_named}
use Rattle.seq_circle.specs.Shut.{is_joinable, target_of}
use Rattle.seq_circle.specs.Mending.{making_of}

-- anyone may join the node that is made
abbrev pub is_joinable_made : Option (Node × ℕ) → Bool
is_joinable_made None = false
is_joinable_made (Some made) = is_joinable made.1

-- the queue that is named is not the actor's own
abbrev pub is_of_another : ℕ → Option QueueAddr → Bool
is_of_another actor None = false
is_of_another actor (Some q) = not (q.client == actor)

-- It joins or parts at a target, makes a node that anyone may join, or names another's queue. Each
-- other input asks for nobody but its actor, opens no circle, and reaches out of none.
abbrev pub matters : Input → Bool
matters i =
    is_some (target_of i.command)
    || (is_joinable_made (making_of i.command) || is_of_another i.actor (queue_named i.command))
