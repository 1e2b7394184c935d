-- Worked rows: Each command with each refusal of its row, as its answer.
use Rattle.std.specs.Prelude.{◌-◌, ◌^◌, [], ◌∷◌, codes}
use Rattle.route_filter.specs.Laws.{open_rule}
use Rattle.seq_state.specs.declared.input.Command.TheVariants.{Open, Close, CreatePort, DeletePort, CreateFilter, SetFilter, DeleteFilter, Connect, Disconnect, Bytes, Send, CreateQueue, CreateQueueFrom, DeleteQueue, Start, Stop, Continue, Tempo, QueueStatus, Share, Schedule, Play, DropOutput, Receive, Listen, Unlisten, PoolStatus}
use Rattle.seq_state.specs.declared.input.DueAt.TheVariants as due_at
use Rattle.seq_state.specs.declared.refusal.Refusal.TheVariants as refusal
use Rattle.seq_state.specs.Step.{port_addr, filter_addr}
use Rattle.seq_examples.specs.Rows.{an_input, caps_by_bits, a_queue, a_note}
use Rattle.seq_examples.specs.Examples.{studio, crowd, waiting_player, IsRefused}

-- The names are those of the command and of the refusal. 130 is not open; in the crowd it is, but
-- is not the actor.
pub record EachCondition : Type 0 where
  pub open_already_open : IsRefused studio
      (an_input 0 128 (Open (codes "c") 8 8)) refusal.AlreadyOpen
  pub open_bad_name : IsRefused studio (an_input 0 130 (Open (codes "") 8 8)) refusal.BadName
  pub open_bad_size_in : IsRefused studio (an_input 0 130 (Open (codes "c") 0 8)) refusal.BadSize
  pub open_bad_size_out : IsRefused studio
      (an_input 0 130 (Open (codes "c") 8 2001)) refusal.BadSize
  pub close_not_open : IsRefused studio (an_input 0 130 Close) refusal.NotOpen
  pub create_port_not_open : IsRefused studio
      (an_input 0 130 (CreatePort 1 (codes "in") (caps_by_bits 66))) refusal.NotOpen
  pub create_port_bad_name : IsRefused studio
      (an_input 0 128 (CreatePort 1 (codes "") (caps_by_bits 66))) refusal.BadName
  pub create_port_node_exists : IsRefused studio
      (an_input 0 128 (CreatePort 0 (codes "in") (caps_by_bits 66))) refusal.NodeExists
  pub delete_port_not_open : IsRefused studio (an_input 0 130 (DeletePort 0)) refusal.NotOpen
  pub delete_port_no_node : IsRefused studio (an_input 0 128 (DeletePort 1)) refusal.NoNode
  pub create_filter_not_open : IsRefused studio
      (an_input 0 130 (CreateFilter 2 (caps_by_bits 99) open_rule)) refusal.NotOpen
  pub create_filter_bad_rule : IsRefused studio
      (an_input 0 128 (CreateFilter 2 (caps_by_bits 99) (record open_rule { low = 60; high = 50 })))
      refusal.BadRule
  pub create_filter_node_exists : IsRefused studio
      (an_input 0 128 (CreateFilter 0 (caps_by_bits 99) open_rule)) refusal.NodeExists
  pub set_filter_not_open : IsRefused studio
      (an_input 0 130 (SetFilter 0 open_rule)) refusal.NotOpen
  pub set_filter_bad_rule : IsRefused studio
      (an_input 0 128 (SetFilter 0 (record open_rule { low = 60; high = 50 }))) refusal.BadRule
  pub set_filter_no_node : IsRefused studio (an_input 0 128 (SetFilter 2 open_rule)) refusal.NoNode
  pub delete_filter_not_open : IsRefused studio (an_input 0 130 (DeleteFilter 0)) refusal.NotOpen
  pub delete_filter_no_node : IsRefused studio (an_input 0 128 (DeleteFilter 2)) refusal.NoNode
  pub connect_not_open : IsRefused studio
      (an_input 0 130 (Connect (port_addr 128 0) (port_addr 129 0))) refusal.NotOpen
  pub connect_no_sender : IsRefused studio
      (an_input 0 128 (Connect (port_addr 128 1) (port_addr 129 0))) refusal.NoSender
  pub connect_no_dest : IsRefused studio
      (an_input 0 128 (Connect (port_addr 128 0) (port_addr 129 1))) refusal.NoDest
  pub connect_not_permitted : IsRefused studio
      (an_input 0 128 (Connect (port_addr 129 0) (port_addr 128 0))) refusal.NotPermitted
  pub connect_already_connected : IsRefused studio
      (an_input 0 128 (Connect (port_addr 128 0) (port_addr 129 0))) refusal.AlreadyConnected
  pub connect_sources_full : IsRefused crowd
      (an_input 0 128 (Connect (filter_addr 128 0) (port_addr 129 0))) refusal.SourcesFull
  pub connect_cycle : IsRefused studio
      (an_input 0 128 (Connect (filter_addr 128 1) (filter_addr 128 0))) refusal.Cycle
  pub disconnect_not_open : IsRefused studio
      (an_input 0 130 (Disconnect (port_addr 128 0) (port_addr 129 0))) refusal.NotOpen
  pub disconnect_no_sender : IsRefused studio
      (an_input 0 128 (Disconnect (port_addr 128 1) (port_addr 129 0))) refusal.NoSender
  pub disconnect_no_dest : IsRefused studio
      (an_input 0 128 (Disconnect (port_addr 128 0) (port_addr 129 1))) refusal.NoDest
  pub disconnect_not_permitted : IsRefused studio
      (an_input 0 128 (Disconnect (port_addr 129 0) (port_addr 128 0))) refusal.NotPermitted
  pub disconnect_not_connected : IsRefused studio
      (an_input 0 128 (Disconnect (filter_addr 128 0) (port_addr 129 0))) refusal.NotConnected
  pub bytes_not_open : IsRefused studio (an_input 0 130 (Bytes 0 (0xF8 ∷ []))) refusal.NotOpen
  pub bytes_no_node : IsRefused studio (an_input 0 128 (Bytes 1 (0xF8 ∷ []))) refusal.NoNode
  pub send_not_open : IsRefused studio (an_input 0 130 (Send 0 (a_note 60))) refusal.NotOpen
  pub send_no_node : IsRefused studio (an_input 0 128 (Send 1 (a_note 60))) refusal.NoNode
  pub create_queue_not_open : IsRefused studio
      (an_input 0 130 (CreateQueue 3 96 500000)) refusal.NotOpen
  pub create_queue_bad_size : IsRefused studio
      (an_input 0 128 (CreateQueue 3 32768 500000)) refusal.BadSize
  pub create_queue_queue_exists : IsRefused studio
      (an_input 0 128 (CreateQueue 0 96 500000)) refusal.QueueExists
  pub create_queue_bad_tempo : IsRefused studio
      (an_input 0 128 (CreateQueue 3 96 16777216)) refusal.BadTempo
  pub create_queue_from_not_open : IsRefused studio
      (an_input 0 130 (CreateQueueFrom 3 0)) refusal.NotOpen
  pub create_queue_from_queue_exists : IsRefused studio
      (an_input 0 128 (CreateQueueFrom 0 0)) refusal.QueueExists
  pub create_queue_from_no_file : IsRefused studio
      (an_input 0 128 (CreateQueueFrom 3 1)) refusal.NoFile
  pub delete_queue_not_open : IsRefused studio
      (an_input 0 130 (DeleteQueue (a_queue 128 0))) refusal.NotOpen
  pub delete_queue_not_yours : IsRefused studio
      (an_input 0 129 (DeleteQueue (a_queue 128 0))) refusal.NotYours
  pub delete_queue_no_queue : IsRefused studio
      (an_input 0 128 (DeleteQueue (a_queue 128 7))) refusal.NoQueue
  pub start_not_open : IsRefused studio (an_input 0 130 (Start (a_queue 128 0))) refusal.NotOpen
  pub start_not_yours : IsRefused studio (an_input 0 129 (Start (a_queue 128 0))) refusal.NotYours
  pub start_no_queue : IsRefused studio (an_input 0 128 (Start (a_queue 128 7))) refusal.NoQueue
  pub start_queue_running : IsRefused studio
      (an_input 0 128 (Start (a_queue 128 1))) refusal.QueueRunning
  pub stop_not_open : IsRefused studio (an_input 0 130 (Stop (a_queue 128 0))) refusal.NotOpen
  pub stop_not_yours : IsRefused studio (an_input 0 129 (Stop (a_queue 128 0))) refusal.NotYours
  pub stop_no_queue : IsRefused studio (an_input 0 128 (Stop (a_queue 128 7))) refusal.NoQueue
  pub stop_queue_stopped : IsRefused studio
      (an_input 0 128 (Stop (a_queue 128 0))) refusal.QueueStopped
  pub continue_not_open : IsRefused studio
      (an_input 0 130 (Continue (a_queue 128 0))) refusal.NotOpen
  pub continue_not_yours : IsRefused studio
      (an_input 0 129 (Continue (a_queue 128 0))) refusal.NotYours
  pub continue_no_queue : IsRefused studio
      (an_input 0 128 (Continue (a_queue 128 7))) refusal.NoQueue
  pub continue_queue_running : IsRefused studio
      (an_input 0 128 (Continue (a_queue 128 1))) refusal.QueueRunning
  pub tempo_not_open : IsRefused studio
      (an_input 0 130 (Tempo (a_queue 128 0) 500000)) refusal.NotOpen
  pub tempo_not_yours : IsRefused studio
      (an_input 0 129 (Tempo (a_queue 128 0) 500000)) refusal.NotYours
  pub tempo_no_queue : IsRefused studio
      (an_input 0 128 (Tempo (a_queue 128 7) 500000)) refusal.NoQueue
  pub tempo_bad_tempo : IsRefused studio (an_input 0 128 (Tempo (a_queue 128 0) 0)) refusal.BadTempo
  pub tempo_bad_tempo_of_frames : IsRefused studio
      (an_input 0 128 (Tempo (a_queue 128 2) 500000)) refusal.BadTempo
  pub queue_status_not_open : IsRefused studio
      (an_input 0 130 (QueueStatus (a_queue 128 0))) refusal.NotOpen
  pub queue_status_not_yours : IsRefused studio
      (an_input 0 129 (QueueStatus (a_queue 128 0))) refusal.NotYours
  -- whether it runs, is missing, or is of a client that isn't open
  pub queue_status_not_yours_running :
      IsRefused studio (an_input 0 129 (QueueStatus (a_queue 128 1))) refusal.NotYours
  pub queue_status_not_yours_missing :
      IsRefused studio (an_input 0 129 (QueueStatus (a_queue 128 7))) refusal.NotYours
  pub queue_status_not_yours_nobodys :
      IsRefused studio (an_input 0 129 (QueueStatus (a_queue 130 0))) refusal.NotYours
  pub queue_status_no_queue : IsRefused studio
      (an_input 0 128 (QueueStatus (a_queue 128 7))) refusal.NoQueue
  pub share_not_open : IsRefused studio (an_input 0 130 (Share (a_queue 128 0))) refusal.NotOpen
  pub share_not_yours : IsRefused studio (an_input 0 129 (Share (a_queue 128 0))) refusal.NotYours
  pub share_no_queue : IsRefused studio (an_input 0 128 (Share (a_queue 128 7))) refusal.NoQueue
  pub schedule_not_open : IsRefused studio
      (an_input 0 130 (Schedule (a_queue 128 0) 0 (due_at.Nanos 9) (a_note 60))) refusal.NotOpen
  pub schedule_no_node : IsRefused studio
      (an_input 0 128 (Schedule (a_queue 128 0) 1 (due_at.Nanos 9) (a_note 60))) refusal.NoNode
  pub schedule_not_yours : IsRefused studio
      (an_input 0 129 (Schedule (a_queue 128 0) 0 (due_at.Nanos 9) (a_note 60))) refusal.NotYours
  pub schedule_no_queue : IsRefused studio
      (an_input 0 128 (Schedule (a_queue 128 7) 0 (due_at.Nanos 9) (a_note 60))) refusal.NoQueue
  pub schedule_bad_time_nanos : IsRefused studio
      (an_input 1 128 (Schedule (a_queue 128 1) 0 (due_at.NanosAfter (2 ^ 64 - 1)) (a_note 60)))
      refusal.BadTime
  pub schedule_bad_time_ticks : IsRefused studio
      (an_input 5208334 128
      (Schedule (a_queue 128 1) 0 (due_at.TickAfter (2 ^ 64 - 1)) (a_note 60))) refusal.BadTime
  pub schedule_out_full : IsRefused waiting_player
      (an_input 0 128 (Schedule (a_queue 128 0) 0 (due_at.Nanos 9) (a_note 60))) refusal.OutFull
  pub play_not_open : IsRefused studio (an_input 0 130 (Play (a_queue 128 0) 0 0)) refusal.NotOpen
  pub play_no_node : IsRefused studio (an_input 0 128 (Play (a_queue 128 0) 1 0)) refusal.NoNode
  pub play_not_yours : IsRefused studio (an_input 0 129 (Play (a_queue 128 0) 0 0)) refusal.NotYours
  pub play_no_queue : IsRefused studio (an_input 0 128 (Play (a_queue 128 7) 0 0)) refusal.NoQueue
  pub play_no_file : IsRefused studio (an_input 0 128 (Play (a_queue 128 0) 0 1)) refusal.NoFile
  pub play_division_differs : IsRefused studio
      (an_input 0 128 (Play (a_queue 128 0) 0 0)) refusal.DivisionDiffers
  pub play_out_full : IsRefused waiting_player
      (an_input 0 128 (Play (a_queue 128 4) 0 0)) refusal.OutFull
  pub drop_output_not_open : IsRefused studio (an_input 0 130 DropOutput) refusal.NotOpen
  pub receive_not_open : IsRefused studio (an_input 0 130 (Receive 1)) refusal.NotOpen
  pub receive_bad_size_none : IsRefused studio (an_input 0 128 (Receive 0)) refusal.BadSize
  pub receive_bad_size_many : IsRefused studio (an_input 0 128 (Receive 2001)) refusal.BadSize
  pub listen_not_open : IsRefused studio (an_input 0 130 Listen) refusal.NotOpen
  pub unlisten_not_open : IsRefused studio (an_input 0 130 Unlisten) refusal.NotOpen
  pub pool_status_not_open : IsRefused studio (an_input 0 130 PoolStatus) refusal.NotOpen
