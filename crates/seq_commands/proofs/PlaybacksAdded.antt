-- What commands come to that add to what is still to be sent.
use Rattle.std.proofs.Common.{◌≡◌, ◌≢◌, ◌+◌, ◌≤◌, ◌<◌, ℕ, Bool, true, false, not, cond, eqb, ◌&&◌, ◌||◌, List, [], ◌∷◌, ◌++◌, map, Option, Some, None, refl, sym, ap, subst, ◌∙◌, eq-eqb, arith}
use Rattle.std.specs.Prelude.{is_some, nat_le, IsSome, unwrap_or}
use Rattle.std.specs.List.{filter, list_all}
use Rattle.std.proofs.lemmas.Bool.{false≢true}
use Rattle.std.proofs.lemmas.List.Folds.{list_all-map}
use Rattle.std.specs.FinMap.{get}
use Rattle.cell_pools.specs.Cells.{Holding, Store, keys_in, no_cells, size_of, used_by, with_size}
use Rattle.node_table.specs.declared.number.QueueAddr.{QueueAddr}
use Rattle.node_table.proofs.Numbered.{get-insert_same}
use Rattle.seq_clients.proofs.Tested.{some_if}
use Rattle.smf_grammar.specs.declared.event.Event as files
use Rattle.smf_files.specs.Rising.{ticks_rise}
use Rattle.seq_state.specs.declared.input.Command.TheVariants.{Play, Schedule}
use Rattle.seq_state.specs.declared.input.DueAt.{DueAt}
use Rattle.seq_state.specs.declared.log.Reply.TheVariants.{Done}
use Rattle.smf_grammar.specs.Played.{PlayedFile}
use Rattle.seq_state.specs.State.{DueMessage, OwnedPlayback, Queue, State}
use Rattle.seq_state.specs.Effect.{due_of, file_at, file_events, out_size, passes_end, queue_is, scheduled_events}
use Rattle.seq_state.specs.Table.{command_row, visible}
use Rattle.seq_state.specs.Step.{Stepped, is_left, row_of, playback_count}
use Rattle.seq_state.proofs.Done.{done, plays, schedules}
use Rattle.tempo_clock.specs.declared.due.Due.{Due}
use Rattle.seq_settle.specs.Cells.{AreCells, RankedPlayback, are_in_order, due_le, playbacks}
use Rattle.seq_settle.specs.Order.{AreTimed}
use Rattle.seq_settle.specs.declared.order.QueueOrder.{QueueOrder}
use Rattle.seq_settle.specs.Events.{file_event}
use Rattle.seq_settle.specs.Moments.{queue_in}
use Rattle.seq_settle.proofs.Counting.{used_is}
use Rattle.seq_settle.proofs.Stores.{playbacks-later}
use Rattle.seq_commands.specs.declared.sequencer.Sequencer.{Sequencer}
use Rattle.seq_commands.specs.declared.sequencer.Turn.{Turn}
use Rattle.seq_commands.specs.Added.{adding_step, playing}
use Rattle.seq_commands.specs.Whole.{Keys, clients_of, state_of, refusal_in, step_in, IsWhole, IsStepTaken}
use Rattle.seq_commands.proofs.Accepted.{unless-none}
use Rattle.seq_commands.proofs.EdgesStep.{none-at}
use Rattle.seq_commands.proofs.PlaybacksGone.{gone-gives, with_pending}

-- ---- a playback more

-- a store of which a client's size was set has room where the client has
pub room-left : (old : Sequencer) (agenda : Keys) (now actor size : ℕ) (cells : Store RankedPlayback) → IsWhole old agenda now → playback_count (state_of old) actor ≢ out_size (get (clients_of old) actor) →
    size ≡ out_size (get (clients_of old) actor) → cells ≡ with_size old.cells actor size → used_by cells.cells actor < size_of cells actor
room-left old agenda now actor size cells whole apart is set =
    let count : used_by old.cells.cells actor ≡ playback_count (state_of old) actor = used_is old.cells.cells old.steps actor whole.cells in
    let most : playback_count (state_of old) actor ≤ out_size (get (clients_of old) actor) = whole.sound.bounded.used actor in
    let mine : Holding = record { size = size; keys = keys_in old.cells.clients actor } in
    let sized : size_of (with_size old.cells actor size) actor ≡ size = ap (λ o. (unwrap_or o no_cells).size) (get-insert_same old.cells.clients actor mine) in
    let less : used_by old.cells.cells actor < size_of (with_size old.cells actor size) actor = omega (arith, count, most, apart, is, sized) in
    subst (λ (s : Store RankedPlayback). used_by s.cells actor < size_of s actor) (sym set) less

-- the step of a new playback, or of none where there is no event
pub added-gives : (old : Sequencer) (turn : Turn) (rank : ℕ) (queue : QueueAddr) (port : ℕ) (events : List DueMessage) (cells : Store RankedPlayback) (order : QueueOrder) (agenda : Keys) → old.steps ≡ rank + 1 → AreCells old.cells.cells rank →
    playbacks cells.cells (rank + 1) ≡ playbacks old.cells.cells rank ++ filter is_left (playing turn queue port events ∷ []) → AreCells cells.cells (rank + 1) → AreTimed (clients_of old) cells.cells order agenda →
    IsStepTaken old (record old { cells = cells; order = order }) agenda (adding_step old turn queue port events) Done []
added-gives old turn rank queue port events cells order agenda counted fresh more are timed =
    let new : List OwnedPlayback = filter is_left (playing turn queue port events ∷ []) in
    let listed : playbacks old.cells.cells old.steps ++ new ≡ playbacks cells.cells old.steps =
    ap (λ n. playbacks old.cells.cells n ++ new) counted ∙ ap (λ ps. ps ++ new) (playbacks-later old.cells.cells rank fresh) ∙ sym more ∙ ap (playbacks cells.cells) (sym counted) in
    gone-gives old old.patchbay cells order agenda _ (ap (λ ps. done (with_pending (state_of old) ps) Done) listed) (subst (AreCells cells.cells) (sym counted) are) timed

-- ---- what is known of an accepted command

visible-there : (actor owner : ℕ) (o : Option Queue) → not (is_some (visible actor owner o)) ≡ false → (x : Queue) × (o ≡ Some x) × (visible actor owner o ≡ Some x)
visible-there actor owner None e = cc
visible-there actor owner (Some x) e = (x, refl, go (eqb owner actor || x.shared) e)
  where
    go : (b : Bool) → not (is_some (cond b (Some x) None)) ≡ false → cond b (Some x) None ≡ Some x
    go true f = refl
    go false f = cc

absent : {X : Type 0} (o : Option X) → o ≡ None → not (is_some o) ≡ false → ⊥
absent None e f = cc
absent (Some x) e f = cc

apart-if : (m n : ℕ) → eqb m n ≡ false → m ≢ n
apart-if m n e same = false≢true (sym e ∙ eq-eqb m n same)

module _ (old : Sequencer) (turn : Turn) (queue : QueueAddr) (port : ℕ) where
  module _ (due : DueAt) (message : List ℕ) (e : refusal_in old turn (Schedule queue port due message) ≡ None) where
    its-queue : (x : Queue) × (queue_in (clients_of old) queue ≡ Some x) × (visible turn.actor queue.client (queue_in (clients_of old) queue) ≡ Some x)
    unfolding command_row
    its-queue = visible-there turn.actor queue.client (queue_in (clients_of old) queue) (none-at (row_of old.files (state_of old) turn.moment turn.actor (Schedule queue port due message)).conditions e 3)

    pub schedule-there : IsSome (queue_in (clients_of old) queue)
    schedule-there = some_if (queue_in (clients_of old) queue) (ap is_some its-queue.1)

    pub schedule-early : (x : Queue) → queue_in (clients_of old) queue ≡ Some x → passes_end turn.moment due x ≡ false
    unfolding command_row
    schedule-early x at =
        sym (ap (queue_is (passes_end turn.moment due)) (its-queue.2 ∙ sym its-queue.1 ∙ at)) ∙ none-at (row_of old.files (state_of old) turn.moment turn.actor (Schedule queue port due message)).conditions e 4

    pub schedule-room : playback_count (state_of old) turn.actor ≢ out_size (get (clients_of old) turn.actor)
    unfolding command_row
    schedule-room = apart-if _ _ (none-at (row_of old.files (state_of old) turn.moment turn.actor (Schedule queue port due message)).conditions e 5)

    pub schedule-step : (d : Due) (events : List DueMessage) → ((x : Queue) → queue_in (clients_of old) queue ≡ Some x → d ≡ due_of turn.moment x due) → events ≡ record { due = d; message = message } ∷ [] →
        adding_step old turn queue port events ≡ step_in old turn (Schedule queue port due message)
    schedule-step d events is are =
        let s : State = state_of old in
        let to : List DueMessage → Stepped = adding_step old turn queue port in
        let x : Queue = its-queue.0 in
        sym (schedules old.files s turn.moment turn.actor queue port due message
        ∙ unless-none _ s (to (scheduled_events turn.moment (visible turn.actor queue.client (queue_in (clients_of old) queue)) due message)) e
        ∙ ap (λ o. to (scheduled_events turn.moment o due message)) its-queue.2 ∙ ap (λ n. to (record { due = n; message = message } ∷ [])) (sym (is x its-queue.1)) ∙ ap to (sym are))

  module _ (file : ℕ) (e : refusal_in old turn (Play queue port file) ≡ None) where
    pub play-there : file_at old.files file ≢ None
    unfolding command_row
    play-there none =
        absent (file_at old.files file) none (none-at (row_of old.files (state_of old) turn.moment turn.actor (Play queue port file)).conditions e 4)

    pub play-room : playback_count (state_of old) turn.actor ≢ out_size (get (clients_of old) turn.actor)
    unfolding command_row
    play-room = apart-if _ _ (none-at (row_of old.files (state_of old) turn.moment turn.actor (Play queue port file)).conditions e 6)

    pub play-step : (f : PlayedFile) (events : List DueMessage) → file_at old.files file ≡ Some f → events ≡ map file_event f.events → adding_step old turn queue port events ≡ step_in old turn (Play queue port file)
    play-step f events at are =
        let s : State = state_of old in
        let to : List DueMessage → Stepped = adding_step old turn queue port in
        sym (plays old.files s turn.moment turn.actor queue port file ∙ unless-none _ s (to (file_events (file_at old.files file))) e ∙ ap (λ o. to (file_events o)) at ∙ ap to (sym are))

-- the events of a file that plays in order are in order
pub in-order : (es : List files.Event) → are_in_order (map file_event es) ≡ ticks_rise es
in-order [] = refl
in-order (e ∷ es) =
    ap (λ b. b && are_in_order (map file_event es)) (list_all-map (λ x. due_le (file_event e).due x.due) file_event es) ∙ ap (λ b. list_all (λ x. nat_le e.tick x.tick) es && b) (in-order es)
