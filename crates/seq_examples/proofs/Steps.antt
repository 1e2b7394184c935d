-- Single steps, computed.
use Rattle.std.proofs.Common.{◌≡◌, ◌-◌, ◌^◌, false, [], ◌∷◌, Some, None, refl, ap, ◌∙◌}
use Rattle.std.specs.Prelude.{codes}
use Rattle.std.specs.FinMap
use Rattle.tempo_clock.proofs.Moments.{moment-held}
use Rattle.midi_wire.specs.Kinds.{kind_of_status}
use Rattle.midi_wire.specs.Messages.{begins}
use Rattle.patch_graph.specs.Edges.{most_sources}
use Rattle.seq_state.specs.declared.input.Command.TheVariants.{Open, CreatePort, Connect, CreateQueue, CreateQueueFrom, DeleteQueue, Start, Stop, Continue, Tempo, QueueStatus, Share, Schedule, Play, Send, DropOutput, Receive, PoolStatus}
use Rattle.seq_state.specs.declared.input.DueAt.TheVariants as due_at
use Rattle.seq_state.specs.declared.input.Input.{Input}
use Rattle.seq_state.specs.declared.log.Reply.{Reply}
use Rattle.seq_state.specs.declared.log.Reply.TheVariants.{Done, Queue, Received, Pools, Refused}
use Rattle.seq_state.specs.declared.refusal.Refusal.{Refusal}
use Rattle.seq_state.specs.declared.refusal.Refusal.TheVariants as refusal
use Rattle.seq_state.specs.Refusals.{number_of}
use Rattle.seq_state.specs.State.{State}
use Rattle.seq_state.specs.Table.{command_row}
use Rattle.seq_state.specs.Step.{settle, Stepped, unless, refusal_of, effect_of, step, port_addr, filter_addr}
use Rattle.seq_examples.specs.Rows.{an_input, caps_by_bits, a_queue, a_note, an_arrival}
use Rattle.seq_examples.specs.Steps.{hall, guarded_hall, nearly_full, both_waiting, files, joins, EachStep}
use Rattle.seq_examples.proofs.Worked.{settled_to, command-step, refused-step, settle-sorted, settle-still, tick-at_first, ways, paths-ways, finds}

-- where nothing is due, and no refusal stands
module _ (s : State) (i : Input) (first : settle s i.moment ≡ settled_to s []) where
  pub taken : refusal_of files s i.moment i.actor i.command ≡ None → step files s i ≡
      effect_of files s i.moment i.actor i.command
  taken r =
      let effect : Stepped = effect_of files s i.moment i.actor i.command in
      command-step files s s i [] first effect (ap (λ o. unless o s effect) r)

  pub replies : (reply : Reply) → refusal_of files s i.moment i.actor i.command ≡ None →
      (effect_of files s i.moment i.actor i.command).reply ≡ reply → (step files s i).reply ≡ reply
  replies reply r e = ap (λ a. a.reply) (taken r) ∙ e

  pub refuses : (r : Refusal) → refusal_of files s i.moment i.actor i.command ≡ Some r →
      (step files s i).reply ≡ Refused (number_of r)
  refuses r e = ap (λ a. a.reply) (refused-step files s s i [] first r e)

held : settle both_waiting 0 ≡ settled_to both_waiting []
held = settle-sorted both_waiting 0 ∙ simp (finds, moment-held)

still : settle hall 5 ≡ settled_to hall []
still = settle-still hall 5 refl

pub each_step : EachStep
unfolding command_row most_sources ways begins kind_of_status
each_step = record {
  two_filters =
      let i : Input = an_input 5 128 (Send 0 (a_note 60)) in
      ap (λ a. a.delivered) (taken hall i still (simp finds)) ∙ simp (finds, paths-ways);
  below_the_second =
      let i : Input = an_input 5 128 (Send 0 (a_note 59)) in
      ap (λ a. a.delivered) (taken hall i still (simp finds)) ∙ simp (finds, paths-ways);
  port_one =
      let i : Input = an_input 5 130 (Send 0 (a_note 60)) in
      ap (λ a. a.delivered) (taken hall i still (simp finds)) ∙ simp (finds, paths-ways);
  port_one_waits =
      let i : Input = an_input 5 130 (Send 0 (a_note 60)) in
      ap (λ a. FinMap.get a.state.pools 129) (taken hall i still (simp finds))
      ∙ simp (finds, paths-ways);
  play_on_shared = replies hall (an_input 5 130 (Play (a_queue 128 0) 0 0)) still Done (simp finds) refl;
  schedule_on_shared =
      replies hall (an_input 5 130 (Schedule (a_queue 128 0) 0 (due_at.Nanos 9) (a_note 60))) still Done
      (simp finds) refl;
  status_of_shared =
      replies hall (an_input 5 130 (QueueStatus (a_queue 128 0))) still (Queue false 0 0) (simp finds)
      (simp (finds, tick-at_first));
  start_of_shared =
      refuses hall (an_input 5 130 (Start (a_queue 128 0))) still refusal.NotYours (simp finds);
  stop_of_shared =
      refuses hall (an_input 5 130 (Stop (a_queue 128 0))) still refusal.NotYours (simp finds);
  continue_of_shared =
      refuses hall (an_input 5 130 (Continue (a_queue 128 0))) still refusal.NotYours (simp finds);
  tempo_of_shared =
      refuses hall (an_input 5 130 (Tempo (a_queue 128 0) 250000)) still refusal.NotYours (simp finds);
  share_of_shared =
      refuses hall (an_input 5 130 (Share (a_queue 128 0))) still refusal.NotYours (simp finds);
  delete_of_shared =
      refuses hall (an_input 5 130 (DeleteQueue (a_queue 128 0))) still refusal.NotYours (simp finds);
  used_by_guest =
      replies both_waiting (an_input 0 130 PoolStatus) held (Pools 0 0 1) (simp finds) (simp finds);
  used_by_host =
      replies both_waiting (an_input 0 128 PoolStatus) held (Pools 0 0 1) (simp finds) (simp finds);
  used_by_listener =
      replies both_waiting (an_input 0 129 PoolStatus) held (Pools 1 5 0) (simp finds) (simp finds);
  dropped_by_guest =
      let i : Input = an_input 0 130 DropOutput in
      ap (λ a. a.state.pending) (taken both_waiting i held (simp finds));
  dropped_by_host =
      let i : Input = an_input 0 128 DropOutput in
      ap (λ a. a.state.pending) (taken both_waiting i held (simp finds));
  shared_twice = replies hall (an_input 5 128 (Share (a_queue 128 0))) still Done (simp finds) refl;
  status_of_private =
      refuses hall (an_input 5 130 (QueueStatus (a_queue 128 1))) still refusal.NotYours (simp finds);
  status_of_private_by_listener =
      refuses hall (an_input 5 129 (QueueStatus (a_queue 128 1))) still refusal.NotYours (simp finds);
  shared_still = shown;
  made_private = made;
  third_to_open =
      replies hall (an_input 5 130 (Connect (port_addr 128 0) (port_addr 129 1))) still Done (simp finds)
      refl;
  third_to_kept =
      refuses guarded_hall (an_input 5 130 joins) (settle-still guarded_hall 5 refl) refusal.NotPermitted
      (simp finds);
  target_to_kept =
      replies guarded_hall (an_input 5 129 joins) (settle-still guarded_hall 5 refl) Done (simp finds) refl;
  source_to_kept =
      replies guarded_hall (an_input 5 128 joins) (settle-still guarded_hall 5 refl) Done (simp finds) refl;
  last_source = replies nearly_full last (settle-still nearly_full 5 refl) Done (simp finds) refl;
  one_source_more = too_many;
  least_sizes = replies hall (an_input 5 131 (Open (codes "d") 1 1)) still Done (simp finds) refl;
  greatest_sizes =
      replies hall (an_input 5 131 (Open (codes "d") 2000 2000)) still Done (simp finds) refl;
  longest_name =
      replies hall (an_input 5 128 (CreatePort 1 (codes "abcdefghijklmnopqrstuvwxyz012345") (caps_by_bits 0)))
      still Done (simp finds) refl;
  least_queue = replies hall (an_input 5 128 (CreateQueue 3 1 1)) still Done (simp finds) refl;
  greatest_queue =
      replies hall (an_input 5 128 (CreateQueue 3 32767 16777215)) still Done (simp finds) refl;
  receive_one =
      replies hall (an_input 5 129 (Receive 1)) still (Received (an_arrival 3 0 (a_note 1) ∷ [])) (simp finds)
      (simp finds);
  receive_many =
      replies hall (an_input 5 129 (Receive 2000)) still (Received (an_arrival 3 0 (a_note 1) ∷ [])) (simp finds)
      (simp finds);
  greatest_time =
      replies hall (an_input 5 128 (Schedule (a_queue 128 0) 0 (due_at.NanosAfter (2 ^ 64 - 1))
      (a_note 60))) still Done (simp finds) refl;
  greatest_tick =
      replies hall (an_input 5 128 (Schedule (a_queue 128 0) 0 (due_at.TickAfter (2 ^ 64 - 1))
      (a_note 60))) still Done (simp (finds, tick-at_first)) refl;
}
  where
    i : Input
    i = an_input 5 128 (CreateQueueFrom 3 0)

    u : State
    u = (effect_of files hall 5 128 i.command).state

    asks : Input
    asks = an_input 5 130 (QueueStatus (a_queue 128 3))

    shares : Input
    shares = an_input 5 128 (Share (a_queue 128 0))

    v : State
    v = (effect_of files hall 5 128 shares.command).state

    looks : Input
    looks = an_input 5 130 (QueueStatus (a_queue 128 0))

    shown : (step files (step files hall shares).state looks).reply ≡ Queue false 0 0
    shown =
        ap (λ (a : Stepped). (step files a.state looks).reply) (taken hall shares still (simp finds))
        ∙ replies v looks (settle-still v 5 refl) (Queue false 0 0) (simp finds) (simp (finds, tick-at_first))

    last : Input
    last = an_input 5 129 joins

    w : State
    w = (effect_of files nearly_full 5 129 joins).state

    more : Input
    more = an_input 5 129 (Connect (filter_addr 128 0) (port_addr 129 0))

    too_many : (step files (step files nearly_full last).state more).reply ≡ Refused 13
    too_many =
        ap (λ (a : Stepped). (step files a.state more).reply)
        (taken nearly_full last (settle-still nearly_full 5 refl) (simp finds))
        ∙ refuses w more (settle-still w 5 refl) refusal.SourcesFull (simp finds)

    made : (step files (step files hall i).state asks).reply ≡ Refused 16
    made =
        ap (λ (a : Stepped). (step files a.state asks).reply) (taken hall i still (simp finds))
        ∙ refuses u asks (settle-still u 5 refl) refusal.NotYours (simp finds)
