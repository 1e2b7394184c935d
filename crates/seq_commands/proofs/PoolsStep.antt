-- What commands come to that ask of pools.
use Rattle.std.proofs.Common.{◌≡◌, ℕ, List, [], Option, Some, None, refl, sym, ap, ◌∙◌}
use Rattle.std.specs.FinMap
use Rattle.cell_pools.specs.Cells.{used_by}
use Rattle.seq_clients.specs.Roster.{Roster, with_pool, waiting, lost_count}
use Rattle.seq_state.specs.declared.input.Command.{Command}
use Rattle.seq_state.specs.declared.input.Command.TheVariants.{Receive, PoolStatus}
use Rattle.seq_state.specs.declared.log.Arrival.{Arrival}
use Rattle.seq_state.specs.declared.log.Reply.TheVariants.{Done, Pools, Received}
use Rattle.seq_state.specs.State.{ClientPool, State, with_entry}
use Rattle.seq_state.specs.Effect.{oldest, without_oldest, pool_status}
use Rattle.seq_state.specs.Step.{playback_count}
use Rattle.seq_state.proofs.Done.{done}
use Rattle.seq_state.proofs.Effects.{pool_step, step-takes, step-asks}
use Rattle.seq_settle.specs.Cells.{AreCells}
use Rattle.seq_settle.proofs.Counting.{used_is}
use Rattle.seq_commands.specs.declared.sequencer.Sequencer.{Sequencer}
use Rattle.seq_commands.specs.declared.sequencer.Turn.{Turn}
use Rattle.seq_commands.specs.Whole.{state_of, refusal_in, step_in, IsStepTakenUnkeyed}
use Rattle.seq_commands.proofs.Accepted.{unless-none}
use Rattle.seq_commands.proofs.EdgesStep.{kept-gives}

pub receive-gives : (old : Sequencer) (turn : Turn) (max : ℕ) (items : List Arrival) (clients : Roster) → refusal_in old turn (Receive max) ≡ None →
    items ≡ oldest max (FinMap.get old.patchbay.clients.pools turn.actor) → clients ≡ with_pool old.patchbay.clients turn.actor (without_oldest max (FinMap.get old.patchbay.clients.pools turn.actor)) →
    IsStepTakenUnkeyed old (record old { patchbay = record old.patchbay { clients = clients } }) (step_in old turn (Receive max)) (Received items) []
receive-gives old turn max items clients e told left =
    let s : State = state_of old in
    let o : Option ClientPool = FinMap.get s.pools turn.actor in
    let taken : State = record s { pools = with_entry s.pools turn.actor (without_oldest max o) } in
    kept-gives old (record old.patchbay { clients = clients }) _ (Received items) (ap (λ (r : Roster). r.clients) left)
    (step-takes old.files s turn.moment turn.actor max ∙ unless-none _ s (done taken (Received (oldest max o))) e
    ∙ ap (λ (r : Roster). done (record s { clients = r.clients; pools = r.pools }) (Received (oldest max o))) (sym left)
    ∙ ap (λ x. done (record s { clients = clients.clients; pools = clients.pools }) (Received x)) (sym told))

-- what becomes of the actor's input pool, where nothing else is told
pub pool-gives : (old : Sequencer) (turn : Turn) (command : Command) (f : Option ClientPool → Option ClientPool) (clients : Roster) → refusal_in old turn command ≡ None →
    step_in old turn command ≡ pool_step (state_of old) turn.actor (refusal_in old turn command) f →
    clients ≡ with_pool old.patchbay.clients turn.actor (f (FinMap.get old.patchbay.clients.pools turn.actor)) →
    IsStepTakenUnkeyed old (record old { patchbay = record old.patchbay { clients = clients } }) (step_in old turn command) Done []
pool-gives old turn command f clients e is left =
    let s : State = state_of old in
    let pooled : State = record s { pools = with_entry s.pools turn.actor (f (FinMap.get s.pools turn.actor)) } in
    kept-gives old (record old.patchbay { clients = clients }) _ Done (ap (λ (r : Roster). r.clients) left)
    (is ∙ unless-none _ s (done pooled Done) e ∙ ap (λ (r : Roster). done (record s { clients = r.clients; pools = r.pools }) Done) (sym left))

told : (o : Option ClientPool) (n : ℕ) → pool_status n o ≡ Pools (waiting o) (lost_count o) n
told None n = refl
told (Some p) n = refl

pub status-gives : (old : Sequencer) (turn : Turn) (w l n : ℕ) → refusal_in old turn PoolStatus ≡ None → AreCells old.cells.cells old.steps →
    w ≡ waiting (FinMap.get old.patchbay.clients.pools turn.actor) → l ≡ lost_count (FinMap.get old.patchbay.clients.pools turn.actor) → n ≡ used_by old.cells.cells turn.actor →
    IsStepTakenUnkeyed old old (step_in old turn PoolStatus) (Pools w l n) []
status-gives old turn w l n e are is_waiting is_lost is_used =
    let s : State = state_of old in
    let o : Option ClientPool = FinMap.get s.pools turn.actor in
    kept-gives old old.patchbay _ (Pools w l n) refl
    (step-asks old.files s turn.moment turn.actor ∙ unless-none _ s (done s (pool_status (playback_count s turn.actor) o)) e
    ∙ ap (λ x. done s (pool_status x o)) (sym (is_used ∙ used_is old.cells.cells old.steps turn.actor are))
    ∙ ap (done s) (told o n ∙ ap (λ x. Pools x (lost_count o) n) (sym is_waiting) ∙ ap (λ x. Pools w x n) (sym is_lost)))
