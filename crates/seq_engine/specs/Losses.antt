-- Definition: What a run loses: messages that found no room in an input pool.
use Rattle.std.specs.Prelude.{ℕ, ◌==◌, Bool, true, false, if◌then◌else◌, List, [], ◌∷◌, ◌++◌}
use Rattle.std.specs.List.{flat_map, range_with_len}
use Rattle.std.specs.FinMap.{get}
use Rattle.node_table.specs.Numbers.{first_client, most_clients}
use Rattle.seq_clients.specs.Roster.{lost_count}
use Rattle.seq_state.specs.declared.input.Command.{Command}
use Rattle.seq_state.specs.declared.input.Command.TheVariants.{Close}
use Rattle.seq_state.specs.declared.input.Input.{Input}
use Rattle.smf_grammar.specs.Played.{PlayedFile}
use Rattle.seq_state.specs.State.{State, start}
use Rattle.seq_state.specs.Step.{settle, step}
use Rattle.seq_engine.specs.declared.losses.Loss.{Loss}

-- so many messages of a client, where there are any
abbrev pub loss_of : ℕ → ℕ → List Loss
loss_of client messages =
    if messages == 0 then [] else record { client = client; messages = messages } ∷ []

-- what a client has lost since it opened; nothing where it is not open
abbrev pub loss_in : State → ℕ → List Loss
loss_in s client = loss_of client (lost_count (get s.pools client))

-- what the clients have lost that are open, by number
abbrev pub all_losses : State → List Loss
all_losses s = flat_map (loss_in s) (range_with_len first_client most_clients)

abbrev pub is_close : Command → Bool
is_close Close = true
is_close _ = false

-- what a client has lost that closes, with what was due by then
abbrev pub loss_at_close : State → Input → List Loss
loss_at_close s i = if is_close i.command then loss_in (settle s i.moment).state i.actor else []

-- the losses of each client as it closes, and at the end those of the clients that are open
abbrev pub losses_from : List PlayedFile → State → List Input → ℕ → List Loss
losses_from files s [] end = all_losses (settle s end).state
losses_from files s (i ∷ inputs) end =
    loss_at_close s i ++ losses_from files (step files s i).state inputs end

-- what a run loses
abbrev pub losses : List PlayedFile → List Input → ℕ → List Loss
losses files inputs end = losses_from files start inputs end
