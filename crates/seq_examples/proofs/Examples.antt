-- Each refusal, computed.
use Rattle.std.proofs.Common.{◌≡◌, ℕ, ◌-◌, ◌^◌, [], Some, refl, ap, ◌∙◌, arith}
use Rattle.std.specs.Prelude.{codes}
use Rattle.tempo_clock.specs.Ticks.{tick_at, nanos_at, numerator, duration, tempo_or, resolution}
use Rattle.tempo_clock.proofs.Moments.{moment-held}
use Rattle.tempo_clock.proofs.TickLaws.{ticks_come_back_exactly}
use Rattle.route_filter.specs.Laws.{open_rule}
use Rattle.patch_graph.specs.Chains.{is_joined}
use Rattle.patch_graph.specs.Edges.{most_sources}
use Rattle.seq_state.specs.declared.input.Input.{Input}
use Rattle.seq_state.specs.declared.input.Command.{Command}
use Rattle.seq_state.specs.declared.input.Command.TheVariants.{Open, Close, CreatePort, DeletePort, CreateFilter, Connect, Disconnect, CreateQueue, Start, Stop, Schedule, Play}
use Rattle.seq_state.specs.declared.input.DueAt.TheVariants as due_at
use Rattle.seq_state.specs.declared.log.Reply.TheVariants.{Refused}
use Rattle.seq_state.specs.declared.refusal.Refusal.{Refusal}
use Rattle.seq_state.specs.Refusals.{number_of}
use Rattle.seq_state.specs.State.{State, start}
use Rattle.seq_state.specs.declared.refusal.Refusal.TheVariants as refusal
use Rattle.seq_state.specs.Table.{command_row}
use Rattle.seq_state.specs.Step.{settle, step, refusal_of, port_addr, filter_addr}
use Rattle.seq_examples.specs.Rows.{an_input, caps_by_bits, a_queue, a_note}
use Rattle.seq_examples.specs.Examples.{running, studio, crowd, waiting_player, files, EachRefusal}
use Rattle.seq_examples.proofs.Worked.{settled_to, refused-step, settle-sorted, settle-still, finds}

pub held : settle waiting_player 0 ≡ settled_to waiting_player []
held = settle-sorted waiting_player 0 ∙ simp (finds, moment-held)

-- the player's second queue has come to its first tick
pub tick-at_present : tick_at running.clock.map 5208334 ≡ 1
unfolding nanos_at numerator duration tempo_or resolution
tick-at_present =
    ticks_come_back_exactly running.clock.map 1 (omega arith) (omega arith) (omega arith)

pub refuses : (s : State) (i : Input) (r : Refusal) → settle s i.moment ≡ settled_to s [] →
    refusal_of files s i.moment i.actor i.command ≡ Some r → (step files s i).reply ≡
    Refused (number_of r)
refuses s i r first e = ap (λ a. a.reply) (refused-step files s s i [] first r e)

-- where nothing is pending
pub in_studio : (m actor : ℕ) (command : Command) (r : Refusal) →
    refusal_of files studio m actor command ≡ Some r →
    (step files studio (an_input m actor command)).reply ≡ Refused (number_of r)
in_studio m actor command r e = refuses studio (an_input m actor command) r (settle-still studio m refl) e

pub each_refusal : EachRefusal
unfolding command_row most_sources is_joined
each_refusal = record {
  not_open =
      refuses start (an_input 0 128 Close) refusal.NotOpen (settle-still start 0 refl) (simp finds);
  already_open = in_studio 0 128 (Open (codes "a") 0 8) refusal.AlreadyOpen (simp finds);
  bad_name =
      refuses start (an_input 0 128 (Open (codes "a b") 0 8)) refusal.BadName (settle-still start 0 refl)
      (simp finds);
  bad_size =
      refuses start (an_input 0 128 (Open (codes "a") 0 8)) refusal.BadSize (settle-still start 0 refl)
      (simp finds);
  bad_rule =
      in_studio 0 128 (CreateFilter 0 (caps_by_bits 99) (record open_rule { low = 60; high = 50 }))
      refusal.BadRule (simp finds);
  node_exists =
      in_studio 0 128 (CreatePort 0 (codes "out") (caps_by_bits 33)) refusal.NodeExists (simp finds);
  no_node = in_studio 0 128 (DeletePort 1) refusal.NoNode (simp finds);
  no_sender =
      in_studio 0 128 (Connect (port_addr 128 1) (port_addr 128 2)) refusal.NoSender (simp finds);
  no_dest =
      in_studio 0 128 (Connect (port_addr 128 0) (port_addr 129 1)) refusal.NoDest (simp finds);
  not_permitted =
      in_studio 0 128 (Connect (port_addr 129 0) (port_addr 128 0)) refusal.NotPermitted
      (simp finds);
  already_connected =
      in_studio 0 129 (Connect (port_addr 128 0) (port_addr 129 0)) refusal.AlreadyConnected
      (simp finds);
  not_connected =
      in_studio 0 129 (Disconnect (filter_addr 128 0) (port_addr 129 0)) refusal.NotConnected
      (simp finds);
  sources_full =
      refuses crowd (an_input 0 129 (Connect (filter_addr 128 0) (port_addr 129 0))) refusal.SourcesFull
      (settle-still crowd 0 refl) (simp finds);
  cycle =
      in_studio 0 128 (Connect (filter_addr 128 1) (filter_addr 128 0)) refusal.Cycle (simp finds);
  queue_exists = in_studio 0 128 (CreateQueue 0 96 0) refusal.QueueExists (simp finds);
  not_yours = in_studio 0 128 (Start (a_queue 129 0)) refusal.NotYours (simp finds);
  no_queue = in_studio 0 128 (Start (a_queue 128 7)) refusal.NoQueue (simp finds);
  queue_running = in_studio 0 128 (Start (a_queue 128 1)) refusal.QueueRunning (simp finds);
  queue_stopped = in_studio 0 128 (Stop (a_queue 128 0)) refusal.QueueStopped (simp finds);
  no_file = in_studio 0 128 (Play (a_queue 128 0) 0 1) refusal.NoFile (simp finds);
  division_differs =
      in_studio 0 128 (Play (a_queue 128 0) 0 0) refusal.DivisionDiffers (simp finds);
  bad_tempo = in_studio 0 128 (CreateQueue 3 96 0) refusal.BadTempo (simp finds);
  bad_time =
      in_studio 1 128 (Schedule (a_queue 128 1) 0 (due_at.NanosAfter (2 ^ 64 - 1)) (a_note 60))
      refusal.BadTime (simp finds);
  out_full =
      refuses waiting_player (an_input 0 128 (Schedule (a_queue 128 0) 0 (due_at.Nanos 9) (a_note 60)))
      refusal.OutFull held (simp finds);
}
