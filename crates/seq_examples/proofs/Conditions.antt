-- Each command with each of its refusals, computed.
use Rattle.std.proofs.Common.{◌-◌, ◌^◌, [], ◌∷◌, refl}
use Rattle.std.specs.Prelude.{codes}
use Rattle.route_filter.specs.Laws.{open_rule}
use Rattle.patch_graph.specs.Chains.{is_joined}
use Rattle.patch_graph.specs.Edges.{most_sources}
use Rattle.seq_state.specs.declared.input.Command.TheVariants.{Open, Close, CreatePort, DeletePort, CreateFilter, SetFilter, DeleteFilter, Connect, Disconnect, Bytes, Send, CreateQueue, CreateQueueFrom, DeleteQueue, Start, Stop, Continue, Tempo, QueueStatus, Share, Schedule, Play, DropOutput, Receive, Listen, Unlisten, PoolStatus}
use Rattle.seq_state.specs.declared.input.DueAt.TheVariants as due_at
use Rattle.seq_state.specs.declared.refusal.Refusal.TheVariants as refusal
use Rattle.seq_state.specs.Table.{command_row}
use Rattle.seq_state.specs.Step.{port_addr, filter_addr}
use Rattle.seq_examples.specs.Rows.{an_input, caps_by_bits, a_queue, a_note}
use Rattle.seq_examples.specs.Conditions.{EachCondition}
use Rattle.seq_examples.specs.Examples.{crowd, waiting_player}
use Rattle.seq_examples.proofs.Examples.{held, refuses, in_studio, tick-at_present}
use Rattle.seq_examples.proofs.Worked.{settle-still, finds}

pub each_condition : EachCondition
unfolding command_row most_sources is_joined
each_condition = record {
  open_already_open = in_studio 0 128 (Open (codes "c") 8 8) refusal.AlreadyOpen (simp finds);
  open_bad_name = in_studio 0 130 (Open (codes "") 8 8) refusal.BadName (simp finds);
  open_bad_size_in = in_studio 0 130 (Open (codes "c") 0 8) refusal.BadSize (simp finds);
  open_bad_size_out = in_studio 0 130 (Open (codes "c") 8 2001) refusal.BadSize (simp finds);
  close_not_open = in_studio 0 130 Close refusal.NotOpen (simp finds);
  create_port_not_open =
      in_studio 0 130 (CreatePort 1 (codes "in") (caps_by_bits 66)) refusal.NotOpen (simp finds);
  create_port_bad_name =
      in_studio 0 128 (CreatePort 1 (codes "") (caps_by_bits 66)) refusal.BadName (simp finds);
  create_port_node_exists =
      in_studio 0 128 (CreatePort 0 (codes "in") (caps_by_bits 66)) refusal.NodeExists (simp finds);
  delete_port_not_open = in_studio 0 130 (DeletePort 0) refusal.NotOpen (simp finds);
  delete_port_no_node = in_studio 0 128 (DeletePort 1) refusal.NoNode (simp finds);
  create_filter_not_open =
      in_studio 0 130 (CreateFilter 2 (caps_by_bits 99) open_rule) refusal.NotOpen (simp finds);
  create_filter_bad_rule =
      in_studio 0 128 (CreateFilter 2 (caps_by_bits 99) (record open_rule { low = 60; high = 50 }))
      refusal.BadRule (simp finds);
  create_filter_node_exists =
      in_studio 0 128 (CreateFilter 0 (caps_by_bits 99) open_rule) refusal.NodeExists (simp finds);
  set_filter_not_open = in_studio 0 130 (SetFilter 0 open_rule) refusal.NotOpen (simp finds);
  set_filter_bad_rule =
      in_studio 0 128 (SetFilter 0 (record open_rule { low = 60; high = 50 })) refusal.BadRule
      (simp finds);
  set_filter_no_node = in_studio 0 128 (SetFilter 2 open_rule) refusal.NoNode (simp finds);
  delete_filter_not_open = in_studio 0 130 (DeleteFilter 0) refusal.NotOpen (simp finds);
  delete_filter_no_node = in_studio 0 128 (DeleteFilter 2) refusal.NoNode (simp finds);
  connect_not_open =
      in_studio 0 130 (Connect (port_addr 128 0) (port_addr 129 0)) refusal.NotOpen (simp finds);
  connect_no_sender =
      in_studio 0 128 (Connect (port_addr 128 1) (port_addr 129 0)) refusal.NoSender (simp finds);
  connect_no_dest =
      in_studio 0 128 (Connect (port_addr 128 0) (port_addr 129 1)) refusal.NoDest (simp finds);
  connect_not_permitted =
      in_studio 0 128 (Connect (port_addr 129 0) (port_addr 128 0)) refusal.NotPermitted
      (simp finds);
  connect_already_connected =
      in_studio 0 128 (Connect (port_addr 128 0) (port_addr 129 0)) refusal.AlreadyConnected
      (simp finds);
  connect_sources_full =
      refuses crowd (an_input 0 128 (Connect (filter_addr 128 0) (port_addr 129 0))) refusal.SourcesFull
      (settle-still crowd 0 refl) (simp finds);
  connect_cycle =
      in_studio 0 128 (Connect (filter_addr 128 1) (filter_addr 128 0)) refusal.Cycle (simp finds);
  disconnect_not_open =
      in_studio 0 130 (Disconnect (port_addr 128 0) (port_addr 129 0)) refusal.NotOpen (simp finds);
  disconnect_no_sender =
      in_studio 0 128 (Disconnect (port_addr 128 1) (port_addr 129 0)) refusal.NoSender
      (simp finds);
  disconnect_no_dest =
      in_studio 0 128 (Disconnect (port_addr 128 0) (port_addr 129 1)) refusal.NoDest (simp finds);
  disconnect_not_permitted =
      in_studio 0 128 (Disconnect (port_addr 129 0) (port_addr 128 0)) refusal.NotPermitted
      (simp finds);
  disconnect_not_connected =
      in_studio 0 128 (Disconnect (filter_addr 128 0) (port_addr 129 0)) refusal.NotConnected
      (simp finds);
  bytes_not_open = in_studio 0 130 (Bytes 0 (0xF8 ∷ [])) refusal.NotOpen (simp finds);
  bytes_no_node = in_studio 0 128 (Bytes 1 (0xF8 ∷ [])) refusal.NoNode (simp finds);
  send_not_open = in_studio 0 130 (Send 0 (a_note 60)) refusal.NotOpen (simp finds);
  send_no_node = in_studio 0 128 (Send 1 (a_note 60)) refusal.NoNode (simp finds);
  create_queue_not_open = in_studio 0 130 (CreateQueue 3 96 500000) refusal.NotOpen (simp finds);
  create_queue_bad_size = in_studio 0 128 (CreateQueue 3 32768 500000) refusal.BadSize (simp finds);
  create_queue_queue_exists =
      in_studio 0 128 (CreateQueue 0 96 500000) refusal.QueueExists (simp finds);
  create_queue_bad_tempo =
      in_studio 0 128 (CreateQueue 3 96 16777216) refusal.BadTempo (simp finds);
  create_queue_from_not_open = in_studio 0 130 (CreateQueueFrom 3 0) refusal.NotOpen (simp finds);
  create_queue_from_queue_exists =
      in_studio 0 128 (CreateQueueFrom 0 0) refusal.QueueExists (simp finds);
  create_queue_from_no_file = in_studio 0 128 (CreateQueueFrom 3 1) refusal.NoFile (simp finds);
  delete_queue_not_open =
      in_studio 0 130 (DeleteQueue (a_queue 128 0)) refusal.NotOpen (simp finds);
  delete_queue_not_yours =
      in_studio 0 129 (DeleteQueue (a_queue 128 0)) refusal.NotYours (simp finds);
  delete_queue_no_queue =
      in_studio 0 128 (DeleteQueue (a_queue 128 7)) refusal.NoQueue (simp finds);
  start_not_open = in_studio 0 130 (Start (a_queue 128 0)) refusal.NotOpen (simp finds);
  start_not_yours = in_studio 0 129 (Start (a_queue 128 0)) refusal.NotYours (simp finds);
  start_no_queue = in_studio 0 128 (Start (a_queue 128 7)) refusal.NoQueue (simp finds);
  start_queue_running = in_studio 0 128 (Start (a_queue 128 1)) refusal.QueueRunning (simp finds);
  stop_not_open = in_studio 0 130 (Stop (a_queue 128 0)) refusal.NotOpen (simp finds);
  stop_not_yours = in_studio 0 129 (Stop (a_queue 128 0)) refusal.NotYours (simp finds);
  stop_no_queue = in_studio 0 128 (Stop (a_queue 128 7)) refusal.NoQueue (simp finds);
  stop_queue_stopped = in_studio 0 128 (Stop (a_queue 128 0)) refusal.QueueStopped (simp finds);
  continue_not_open = in_studio 0 130 (Continue (a_queue 128 0)) refusal.NotOpen (simp finds);
  continue_not_yours = in_studio 0 129 (Continue (a_queue 128 0)) refusal.NotYours (simp finds);
  continue_no_queue = in_studio 0 128 (Continue (a_queue 128 7)) refusal.NoQueue (simp finds);
  continue_queue_running =
      in_studio 0 128 (Continue (a_queue 128 1)) refusal.QueueRunning (simp finds);
  tempo_not_open = in_studio 0 130 (Tempo (a_queue 128 0) 500000) refusal.NotOpen (simp finds);
  tempo_not_yours = in_studio 0 129 (Tempo (a_queue 128 0) 500000) refusal.NotYours (simp finds);
  tempo_no_queue = in_studio 0 128 (Tempo (a_queue 128 7) 500000) refusal.NoQueue (simp finds);
  tempo_bad_tempo = in_studio 0 128 (Tempo (a_queue 128 0) 0) refusal.BadTempo (simp finds);
  tempo_bad_tempo_of_frames =
      in_studio 0 128 (Tempo (a_queue 128 2) 500000) refusal.BadTempo (simp finds);
  queue_status_not_open =
      in_studio 0 130 (QueueStatus (a_queue 128 0)) refusal.NotOpen (simp finds);
  queue_status_not_yours =
      in_studio 0 129 (QueueStatus (a_queue 128 0)) refusal.NotYours (simp finds);
  queue_status_not_yours_running =
      in_studio 0 129 (QueueStatus (a_queue 128 1)) refusal.NotYours (simp finds);
  queue_status_not_yours_missing =
      in_studio 0 129 (QueueStatus (a_queue 128 7)) refusal.NotYours (simp finds);
  queue_status_not_yours_nobodys =
      in_studio 0 129 (QueueStatus (a_queue 130 0)) refusal.NotYours (simp finds);
  queue_status_no_queue =
      in_studio 0 128 (QueueStatus (a_queue 128 7)) refusal.NoQueue (simp finds);
  share_not_open = in_studio 0 130 (Share (a_queue 128 0)) refusal.NotOpen (simp finds);
  share_not_yours = in_studio 0 129 (Share (a_queue 128 0)) refusal.NotYours (simp finds);
  share_no_queue = in_studio 0 128 (Share (a_queue 128 7)) refusal.NoQueue (simp finds);
  schedule_not_open =
      in_studio 0 130 (Schedule (a_queue 128 0) 0 (due_at.Nanos 9) (a_note 60)) refusal.NotOpen
      (simp finds);
  schedule_no_node =
      in_studio 0 128 (Schedule (a_queue 128 0) 1 (due_at.Nanos 9) (a_note 60)) refusal.NoNode
      (simp finds);
  schedule_not_yours =
      in_studio 0 129 (Schedule (a_queue 128 0) 0 (due_at.Nanos 9) (a_note 60)) refusal.NotYours
      (simp finds);
  schedule_no_queue =
      in_studio 0 128 (Schedule (a_queue 128 7) 0 (due_at.Nanos 9) (a_note 60)) refusal.NoQueue
      (simp finds);
  schedule_bad_time_nanos =
      in_studio 1 128 (Schedule (a_queue 128 1) 0 (due_at.NanosAfter (2 ^ 64 - 1)) (a_note 60))
      refusal.BadTime (simp finds);
  schedule_bad_time_ticks =
      in_studio 5208334 128 (Schedule (a_queue 128 1) 0 (due_at.TickAfter (2 ^ 64 - 1)) (a_note 60))
      refusal.BadTime (simp (finds, tick-at_present));
  schedule_out_full =
      refuses waiting_player (an_input 0 128 (Schedule (a_queue 128 0) 0 (due_at.Nanos 9) (a_note 60)))
      refusal.OutFull held (simp finds);
  play_not_open = in_studio 0 130 (Play (a_queue 128 0) 0 0) refusal.NotOpen (simp finds);
  play_no_node = in_studio 0 128 (Play (a_queue 128 0) 1 0) refusal.NoNode (simp finds);
  play_not_yours = in_studio 0 129 (Play (a_queue 128 0) 0 0) refusal.NotYours (simp finds);
  play_no_queue = in_studio 0 128 (Play (a_queue 128 7) 0 0) refusal.NoQueue (simp finds);
  play_no_file = in_studio 0 128 (Play (a_queue 128 0) 0 1) refusal.NoFile (simp finds);
  play_division_differs =
      in_studio 0 128 (Play (a_queue 128 0) 0 0) refusal.DivisionDiffers (simp finds);
  play_out_full =
      refuses waiting_player (an_input 0 128 (Play (a_queue 128 4) 0 0)) refusal.OutFull held (simp finds);
  drop_output_not_open = in_studio 0 130 DropOutput refusal.NotOpen (simp finds);
  receive_not_open = in_studio 0 130 (Receive 1) refusal.NotOpen (simp finds);
  receive_bad_size_none = in_studio 0 128 (Receive 0) refusal.BadSize (simp finds);
  receive_bad_size_many = in_studio 0 128 (Receive 2001) refusal.BadSize (simp finds);
  listen_not_open = in_studio 0 130 Listen refusal.NotOpen (simp finds);
  unlisten_not_open = in_studio 0 130 Unlisten refusal.NotOpen (simp finds);
  pool_status_not_open = in_studio 0 130 PoolStatus refusal.NotOpen (simp finds);
}
