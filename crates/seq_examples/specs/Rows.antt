-- Worked rows: Worked runs, with their logs written out by hand. Beside each stands what it shows,
-- and a wrong reading that it refuses.
use Rattle.std.specs.Prelude.{◌≡◌, ◌==◌, ◌||◌, ℕ, pos, negsuc, Bool, true, false, List, [], ◌∷◌, codes}
use Rattle.tempo_clock.specs.Entries.{smpte_word}
use Rattle.tempo_clock.specs.Ticks.{Tempos}
use Rattle.route_filter.specs.Worked.{moved_by}
use Rattle.node_table.specs.declared.caps.Caps.{Caps}
use Rattle.seq_state.specs.declared.input.Command.{Command}
use Rattle.seq_state.specs.declared.input.Command.TheVariants.{Open, Close, CreatePort, DeletePort, CreateFilter, SetFilter, DeleteFilter, Connect, Disconnect, Bytes, Send, CreateQueue, CreateQueueFrom, DeleteQueue, Start, Stop, Continue, Tempo, QueueStatus, Share, Schedule, Play, DropOutput, Receive, Listen, Unlisten, PoolStatus}
use Rattle.seq_state.specs.declared.input.DueAt.TheVariants as due_at
use Rattle.seq_state.specs.declared.input.Input.{Input}
use Rattle.node_table.specs.declared.number.QueueAddr.{QueueAddr}
use Rattle.seq_state.specs.declared.log.Arrival.{Arrival}
use Rattle.seq_state.specs.declared.log.Delivery.{Delivery}
use Rattle.seq_state.specs.declared.log.LogEntry.TheVariants.{Delivered, Replied}
use Rattle.seq_state.specs.declared.log.Reply.TheVariants.{Done, Messages, Queue, Received, Pools}
use Rattle.seq_state.specs.declared.refusal.Refusal.TheVariants.{AlreadyConnected, BadTempo, DivisionDiffers, NoNode, NoQueue, NotConnected, NotOpen, NotPermitted, NotYours, OutFull}
use Rattle.seq_state.specs.Refusals.{refused}
use Rattle.smf_grammar.specs.Played.{PlayedFile}
use Rattle.seq_state.specs.Step.{plain, port_addr, filter_addr}
use Rattle.seq_state.specs.Heard.{port_at, port_bytes}
use Rattle.seq_state.specs.Circle.{IsClosed, view, Came, Told, Outside}

-- ---- short forms

abbrev pub an_input : ℕ → ℕ → Command → Input
an_input moment actor command = record { moment = moment; actor = actor; command = command }

abbrev pub caps_by_bits : ℕ → Caps
caps_by_bits bits = record { 0 = bits }

abbrev pub a_queue : ℕ → ℕ → QueueAddr
a_queue client queue = record { client = client; queue = queue }

-- note on of channel 0
abbrev pub a_note : ℕ → List ℕ
a_note n = 0x90 ∷ n ∷ 0x40 ∷ []

-- a message that came to a port, and one that waits
abbrev pub a_delivery : ℕ → ℕ → ℕ → List ℕ → Delivery
a_delivery moment client port message =
    record { moment = moment; target = record { client = client; port = port }; message = message }

abbrev pub an_arrival : ℕ → ℕ → List ℕ → Arrival
an_arrival moment port message = record { moment = moment; port = port; message = message }

-- one bar of a file, with 480 ticks per quarter note
abbrev pub song : PlayedFile
song = record {
  division = 480;
  entries = record { tick = 0; tempo = 500000 } ∷ [];
  events = record { tick = 0; message = a_note 0x3C }
      ∷ record { tick = 480; message = 0x90 ∷ 0x3C ∷ 0x00 ∷ [] } ∷ [];
}

-- the same at 30 frames per second with 80 ticks each, and no tempo
abbrev pub frames : Tempos
frames = record { division = smpte_word 30 80; entries = [] }

abbrev pub frames_song : PlayedFile
frames_song = record { division = frames.division; entries = frames.entries; events = song.events }

-- ---- the runs

-- Two clients each schedule a note for 100, the one with the greater number first. At equal moments
-- the events come in the order of their commands, and with their own moment, not by client number
-- nor with the moment of the settling step.
abbrev pub equal_moments : List Input
equal_moments =
    an_input 0 128 (Open (codes "a") 8 8)
    ∷ an_input 0 128 (CreatePort 0 (codes "out") (caps_by_bits 33))
    ∷ an_input 0 128 (CreateQueue 0 480 500000)
    ∷ an_input 0 128 (Start (a_queue 128 0)) ∷ an_input 0 129 (Open (codes "b") 8 8)
    ∷ an_input 0 129 (CreatePort 0 (codes "in") (caps_by_bits 66))
    ∷ an_input 0 129 (Connect (port_addr 128 0) (port_addr 129 0))
    ∷ an_input 0 130 (Open (codes "c") 8 8)
    ∷ an_input 0 130 (CreatePort 0 (codes "out") (caps_by_bits 33))
    ∷ an_input 0 130 (CreateQueue 0 480 500000) ∷ an_input 0 130 (Start (a_queue 130 0))
    ∷ an_input 1 129 (Connect (port_addr 130 0) (port_addr 129 0))
    ∷ an_input 1 130 (Schedule (a_queue 130 0) 0 (due_at.Nanos 100) (a_note 0x02))
    ∷ an_input 2 128 (Schedule (a_queue 128 0) 0 (due_at.Nanos 100) (a_note 0x01)) ∷ []

abbrev pub EqualMoments : Type 0
EqualMoments =
    plain [] equal_moments 200 ≡
    Replied 0 0 128 Done ∷ Replied 1 0 128 Done ∷ Replied 2 0 128 Done ∷ Replied 3 0 128 Done
    ∷ Replied 4 0 129 Done ∷ Replied 5 0 129 Done
    ∷ Replied 6 0 129 Done ∷ Replied 7 0 130 Done ∷ Replied 8 0 130 Done ∷ Replied 9 0 130 Done
    ∷ Replied 10 0 130 Done ∷ Replied 11 1 129 Done
    ∷ Replied 12 1 130 Done ∷ Replied 13 2 128 Done ∷ Delivered (a_delivery 100 129 0 (a_note 0x02))
    ∷ Delivered (a_delivery 100 129 0 (a_note 0x01)) ∷ []

-- Two filters lead from one port to one port. The copies come by the age of the first edge of each
-- path, not by that of the last; a note that a filter would raise past 127 is dropped, not clamped.
abbrev pub copies_by_edge_age : List Input
copies_by_edge_age =
    an_input 0 128 (Open (codes "a") 8 8)
    ∷ an_input 0 128 (CreatePort 0 (codes "out") (caps_by_bits 33))
    ∷ an_input 0 128 (CreateFilter 0 (caps_by_bits 99) (moved_by (pos 0)))
    ∷ an_input 0 128 (CreateFilter 1 (caps_by_bits 99) (moved_by (pos 7)))
    ∷ an_input 0 128 (Connect (port_addr 128 0) (filter_addr 128 0))
    ∷ an_input 0 128 (Connect (port_addr 128 0) (filter_addr 128 1))
    ∷ an_input 0 129 (Open (codes "b") 8 8)
    ∷ an_input 0 129 (CreatePort 0 (codes "in") (caps_by_bits 66))
    ∷ an_input 1 129 (Connect (filter_addr 128 1) (port_addr 129 0))
    ∷ an_input 1 129 (Connect (filter_addr 128 0) (port_addr 129 0))
    ∷ an_input 5 128 (Bytes 0 (0x90 ∷ 0x3C ∷ 0x40 ∷ []))
    ∷ an_input 6 128 (Bytes 0 (0x7D ∷ 0x40 ∷ [])) ∷ []

abbrev pub CopiesByEdgeAge : Type 0
CopiesByEdgeAge =
    plain [] copies_by_edge_age 10 ≡
    Replied 0 0 128 Done ∷ Replied 1 0 128 Done ∷ Replied 2 0 128 Done ∷ Replied 3 0 128 Done
    ∷ Replied 4 0 128 Done ∷ Replied 5 0 128 Done
    ∷ Replied 6 0 129 Done ∷ Replied 7 0 129 Done ∷ Replied 8 1 129 Done ∷ Replied 9 1 129 Done
    ∷ Delivered (a_delivery 5 129 0 (a_note 0x3C))
    ∷ Delivered (a_delivery 5 129 0 (a_note 0x43)) ∷ Replied 10 5 128 (Messages 1)
    ∷ Delivered (a_delivery 6 129 0 (a_note 0x7D)) ∷ Replied 11 6 128 (Messages 1) ∷ []

-- A pool of two takes two of three notes and counts one as lost. What waits is never overwritten,
-- and the other client gets all three: a full pool stops no other copy.
abbrev pub input_overflow : List Input
input_overflow =
    an_input 0 128 (Open (codes "a") 8 8)
    ∷ an_input 0 128 (CreatePort 0 (codes "out") (caps_by_bits 33))
    ∷ an_input 0 129 (Open (codes "b") 2 8)
    ∷ an_input 0 129 (CreatePort 0 (codes "in") (caps_by_bits 66))
    ∷ an_input 0 129 (Connect (port_addr 128 0) (port_addr 129 0))
    ∷ an_input 0 130 (Open (codes "c") 8 8)
    ∷ an_input 0 130 (CreatePort 0 (codes "in") (caps_by_bits 66))
    ∷ an_input 0 130 (Connect (port_addr 128 0) (port_addr 130 0))
    ∷ an_input 5 128 (Bytes 0 (0x90 ∷ 0x01 ∷ 0x40 ∷ 0x02 ∷ 0x40 ∷ 0x03 ∷ 0x40 ∷ []))
    ∷ an_input 6 129 PoolStatus ∷ an_input 6 129 (Receive 1)
    ∷ an_input 7 128 (Send 0 (a_note 0x04)) ∷ []

abbrev pub InputOverflow : Type 0
InputOverflow =
    plain [] input_overflow 10 ≡
    Replied 0 0 128 Done ∷ Replied 1 0 128 Done ∷ Replied 2 0 129 Done ∷ Replied 3 0 129 Done
    ∷ Replied 4 0 129 Done ∷ Replied 5 0 130 Done
    ∷ Replied 6 0 130 Done ∷ Replied 7 0 130 Done ∷ Delivered (a_delivery 5 129 0 (a_note 0x01))
    ∷ Delivered (a_delivery 5 130 0 (a_note 0x01))
    ∷ Delivered (a_delivery 5 129 0 (a_note 0x02)) ∷ Delivered (a_delivery 5 130 0 (a_note 0x02))
    ∷ Delivered (a_delivery 5 130 0 (a_note 0x03)) ∷ Replied 8 5 128 (Messages 3)
    ∷ Replied 9 6 129 (Pools 2 1 0)
    ∷ Replied 10 6 129 (Received (an_arrival 5 0 (a_note 0x01) ∷ []))
    ∷ Delivered (a_delivery 7 129 0 (a_note 0x04))
    ∷ Delivered (a_delivery 7 130 0 (a_note 0x04)) ∷ Replied 11 7 128 Done ∷ []

-- A client with an output pool of one has one event pending, and is refused a second. The settling
-- of the next input sends the first and makes room before the command is judged.
abbrev pub output_full : List Input
output_full =
    an_input 0 128 (Open (codes "a") 8 1)
    ∷ an_input 0 128 (CreatePort 0 (codes "out") (caps_by_bits 33))
    ∷ an_input 0 128 (CreateQueue 0 480 500000)
    ∷ an_input 0 128 (Start (a_queue 128 0))
    ∷ an_input 0 128 (Schedule (a_queue 128 0) 0 (due_at.Nanos 100) (a_note 0x01))
    ∷ an_input 0 128 (Schedule (a_queue 128 0) 0 (due_at.Nanos 100) (a_note 0x01))
    ∷ an_input 0 129 (Open (codes "b") 8 8)
    ∷ an_input 0 129 (CreatePort 0 (codes "in") (caps_by_bits 66))
    ∷ an_input 0 129 (Connect (port_addr 128 0) (port_addr 129 0))
    ∷ an_input 100 128 (Schedule (a_queue 128 0) 0 (due_at.NanosAfter 50) (a_note 0x02)) ∷ []

abbrev pub OutputFull : Type 0
OutputFull =
    plain [] output_full 200 ≡
    Replied 0 0 128 Done ∷ Replied 1 0 128 Done ∷ Replied 2 0 128 Done ∷ Replied 3 0 128 Done
    ∷ Replied 4 0 128 Done ∷ Replied 5 0 128 (refused OutFull)
    ∷ Replied 6 0 129 Done ∷ Replied 7 0 129 Done ∷ Replied 8 0 129 Done
    ∷ Delivered (a_delivery 100 129 0 (a_note 0x01)) ∷ Replied 9 100 128 Done
    ∷ Delivered (a_delivery 150 129 0 (a_note 0x02)) ∷ []

-- Who owns neither node is refused where a node has NO_EXPORT, who owns the target alone still
-- needs SUBS_READ at the source, and a refused Disconnect leaves the subscription.
abbrev pub third_clients : List Input
third_clients =
    an_input 0 128 (Open (codes "a") 8 8)
    ∷ an_input 0 128 (CreatePort 0 (codes "o") (caps_by_bits 161))
    ∷ an_input 0 128 (CreatePort 1 (codes "o") (caps_by_bits 1))
    ∷ an_input 0 129 (Open (codes "b") 8 8)
    ∷ an_input 0 129 (CreatePort 0 (codes "i") (caps_by_bits 66))
    ∷ an_input 0 130 (Open (codes "c") 8 8)
    ∷ an_input 0 130 (Connect (port_addr 128 0) (port_addr 129 0))
    ∷ an_input 1 129 (Connect (port_addr 128 0) (port_addr 129 0))
    ∷ an_input 1 129 (Connect (port_addr 128 1) (port_addr 129 0))
    ∷ an_input 2 128 (Connect (port_addr 128 1) (port_addr 129 0))
    ∷ an_input 3 129 (Disconnect (port_addr 128 0) (port_addr 129 0))
    ∷ an_input 3 129 (Disconnect (port_addr 128 0) (port_addr 129 0))
    ∷ an_input 3 130 (Disconnect (port_addr 128 1) (port_addr 129 0))
    ∷ an_input 4 128 (Bytes 1 (0x90 ∷ 0x3C ∷ 0x40 ∷ [])) ∷ []

abbrev pub ThirdClients : Type 0
ThirdClients =
    plain [] third_clients 10 ≡
    Replied 0 0 128 Done ∷ Replied 1 0 128 Done ∷ Replied 2 0 128 Done ∷ Replied 3 0 129 Done
    ∷ Replied 4 0 129 Done ∷ Replied 5 0 130 Done
    ∷ Replied 6 0 130 (refused NotPermitted) ∷ Replied 7 1 129 Done
    ∷ Replied 8 1 129 (refused NotPermitted)
    ∷ Replied 9 2 128 Done ∷ Replied 10 3 129 Done
    ∷ Replied 11 3 129 (refused NotConnected) ∷ Replied 12 3 130 (refused NotPermitted)
    ∷ Delivered (a_delivery 4 129 0 (a_note 0x3C)) ∷ Replied 13 4 128 (Messages 1) ∷ []

-- What is pending from a port goes with it, and no longer counts as used. Another client's event is
-- sent.
abbrev pub deleted_port : List Input
deleted_port =
    an_input 0 128 (Open (codes "a") 8 8)
    ∷ an_input 0 128 (CreatePort 0 (codes "out") (caps_by_bits 33))
    ∷ an_input 0 128 (CreateQueue 0 480 500000)
    ∷ an_input 0 128 (Start (a_queue 128 0))
    ∷ an_input 0 128 (Schedule (a_queue 128 0) 0 (due_at.Nanos 100) (a_note 0x01))
    ∷ an_input 0 129 (Open (codes "b") 8 8)
    ∷ an_input 0 129 (CreatePort 0 (codes "in") (caps_by_bits 66))
    ∷ an_input 0 129 (Connect (port_addr 128 0) (port_addr 129 0))
    ∷ an_input 0 130 (Open (codes "c") 8 8)
    ∷ an_input 0 130 (CreatePort 0 (codes "out") (caps_by_bits 33))
    ∷ an_input 0 130 (CreateQueue 0 480 500000) ∷ an_input 0 130 (Start (a_queue 130 0))
    ∷ an_input 1 129 (Connect (port_addr 130 0) (port_addr 129 0)) ∷ an_input 50 128 (DeletePort 0)
    ∷ an_input 50 128 PoolStatus
    ∷ an_input 60 130 (Schedule (a_queue 130 0) 0 (due_at.Nanos 100) (a_note 0x02)) ∷ []

abbrev pub DeletedPort : Type 0
DeletedPort =
    plain [] deleted_port 200 ≡
    Replied 0 0 128 Done ∷ Replied 1 0 128 Done ∷ Replied 2 0 128 Done ∷ Replied 3 0 128 Done
    ∷ Replied 4 0 128 Done ∷ Replied 5 0 129 Done
    ∷ Replied 6 0 129 Done ∷ Replied 7 0 129 Done ∷ Replied 8 0 130 Done ∷ Replied 9 0 130 Done
    ∷ Replied 10 0 130 Done ∷ Replied 11 0 130 Done
    ∷ Replied 12 1 129 Done ∷ Replied 13 50 128 Done ∷ Replied 14 50 128 (Pools 0 0 0)
    ∷ Replied 15 60 130 Done ∷ Delivered (a_delivery 100 129 0 (a_note 0x02)) ∷ []

-- Another client schedules on a shared queue, but may not start it. When the owner deletes the
-- queue, the others' events on it go too, and their pools have room again; a queue of another's
-- that isn't there is not theirs.
abbrev pub shared_queue : List Input
shared_queue =
    an_input 0 128 (Open (codes "a") 8 8) ∷ an_input 0 128 (CreateQueue 0 480 500000)
    ∷ an_input 0 128 (Share (a_queue 128 0)) ∷ an_input 0 129 (Open (codes "b") 8 8)
    ∷ an_input 0 129 (CreatePort 0 (codes "in") (caps_by_bits 66))
    ∷ an_input 0 130 (Open (codes "c") 8 2)
    ∷ an_input 0 130 (CreatePort 0 (codes "out") (caps_by_bits 33))
    ∷ an_input 1 129 (Connect (port_addr 130 0) (port_addr 129 0))
    ∷ an_input 1 130 (Schedule (a_queue 128 0) 0 (due_at.Nanos 20) (a_note 0x01))
    ∷ an_input 1 130 (Schedule (a_queue 128 0) 0 (due_at.Nanos 100) (a_note 0x02))
    ∷ an_input 1 130 (QueueStatus (a_queue 128 0)) ∷ an_input 1 130 (Start (a_queue 128 0))
    ∷ an_input 1 130 (QueueStatus (a_queue 128 1)) ∷ an_input 10 128 (Start (a_queue 128 0))
    ∷ an_input 60 128 (DeleteQueue (a_queue 128 0)) ∷ an_input 60 130 PoolStatus
    ∷ an_input 61 130 (QueueStatus (a_queue 128 0)) ∷ []

abbrev pub SharedQueue : Type 0
SharedQueue =
    plain [] shared_queue 200 ≡
    Replied 0 0 128 Done ∷ Replied 1 0 128 Done ∷ Replied 2 0 128 Done ∷ Replied 3 0 129 Done
    ∷ Replied 4 0 129 Done ∷ Replied 5 0 130 Done
    ∷ Replied 6 0 130 Done ∷ Replied 7 1 129 Done ∷ Replied 8 1 130 Done ∷ Replied 9 1 130 Done
    ∷ Replied 10 1 130 (Queue false 0 0)
    ∷ Replied 11 1 130 (refused NotYours) ∷ Replied 12 1 130 (refused NotYours)
    ∷ Replied 13 10 128 Done
    ∷ Delivered (a_delivery 30 129 0 (a_note 0x01))
    ∷ Replied 14 60 128 Done ∷ Replied 15 60 130 (Pools 0 0 0)
    ∷ Replied 16 61 130 (refused NotYours) ∷ []

-- A file is played on a queue that is made from it and starts later. Its first event comes at the
-- start; at equal moments the file's event comes before the one that was scheduled after the Play.
-- Nothing is sent while the queue is held.
abbrev pub played_file : List Input
played_file =
    an_input 0 128 (Open (codes "a") 8 8)
    ∷ an_input 0 128 (CreatePort 0 (codes "out") (caps_by_bits 33))
    ∷ an_input 0 128 (CreateQueueFrom 0 0)
    ∷ an_input 0 128 (Play (a_queue 128 0) 0 0) ∷ an_input 0 129 (Open (codes "b") 8 8)
    ∷ an_input 0 129 (CreatePort 0 (codes "in") (caps_by_bits 66))
    ∷ an_input 0 129 (Connect (port_addr 128 0) (port_addr 129 0))
    ∷ an_input 1 128 (Schedule (a_queue 128 0) 0 (due_at.Tick 480) (a_note 0x05))
    ∷ an_input 1 128 (Start (a_queue 128 0)) ∷ []

abbrev pub PlaysFile : Type 0
PlaysFile =
    plain (song ∷ []) played_file 600000000 ≡
    Replied 0 0 128 Done ∷ Replied 1 0 128 Done ∷ Replied 2 0 128 Done ∷ Replied 3 0 128 Done
    ∷ Replied 4 0 129 Done ∷ Replied 5 0 129 Done
    ∷ Replied 6 0 129 Done ∷ Replied 7 1 128 Done ∷ Replied 8 1 128 Done
    ∷ Delivered (a_delivery 1 129 0 (a_note 0x3C))
    ∷ Delivered (a_delivery 500000001 129 0 (0x90 ∷ 0x3C ∷ 0x00 ∷ []))
    ∷ Delivered (a_delivery 500000001 129 0 (a_note 0x05)) ∷ []

-- A client with room for two has an event and a file pending, and is refused a third, though the
-- file's first event has gone already. DropOutput takes both; the queue is then deleted, and is
-- missing for its own owner.
abbrev pub dropped_output : List Input
dropped_output =
    an_input 0 128 (Open (codes "a") 8 2)
    ∷ an_input 0 128 (CreatePort 0 (codes "out") (caps_by_bits 33))
    ∷ an_input 0 128 (CreateQueue 0 480 500000)
    ∷ an_input 0 128 (Start (a_queue 128 0))
    ∷ an_input 0 128 (Schedule (a_queue 128 0) 0 (due_at.Nanos 100) (a_note 0x01))
    ∷ an_input 0 128 (Play (a_queue 128 0) 0 0)
    ∷ an_input 0 128 (Schedule (a_queue 128 0) 0 (due_at.Nanos 100) (0xF8 ∷ []))
    ∷ an_input 0 129 (Open (codes "b") 8 8)
    ∷ an_input 0 129 (CreatePort 0 (codes "in") (caps_by_bits 66))
    ∷ an_input 0 129 (Connect (port_addr 128 0) (port_addr 129 0)) ∷ an_input 50 128 DropOutput
    ∷ an_input 50 128 PoolStatus
    ∷ an_input 50 128 (DeleteQueue (a_queue 128 0)) ∷ an_input 50 128 (QueueStatus (a_queue 128 0))
    ∷ []

abbrev pub DroppedOutput : Type 0
DroppedOutput =
    plain (song ∷ []) dropped_output 600000000 ≡
    Replied 0 0 128 Done ∷ Replied 1 0 128 Done ∷ Replied 2 0 128 Done ∷ Replied 3 0 128 Done
    ∷ Replied 4 0 128 Done ∷ Replied 5 0 128 Done
    ∷ Replied 6 0 128 (refused OutFull) ∷ Replied 7 0 129 Done ∷ Replied 8 0 129 Done
    ∷ Replied 9 0 129 Done ∷ Replied 10 50 128 Done
    ∷ Replied 11 50 128 (Pools 0 0 0) ∷ Replied 12 50 128 Done ∷ Replied 13 50 128 (refused NoQueue)
    ∷ []

-- A filter's rule is replaced while its subscriptions stay: one note falls below 0 and is dropped,
-- the other becomes the lowest. When the filter goes, its subscriptions go, and what is sent
-- reaches nobody.
abbrev pub changed_filter : List Input
changed_filter =
    an_input 0 128 (Open (codes "a") 8 8)
    ∷ an_input 0 128 (CreatePort 0 (codes "out") (caps_by_bits 33))
    ∷ an_input 0 128 (CreateFilter 0 (caps_by_bits 99) (moved_by (pos 0)))
    ∷ an_input 0 128 (Connect (port_addr 128 0) (filter_addr 128 0))
    ∷ an_input 0 129 (Open (codes "b") 8 8)
    ∷ an_input 0 129 (CreatePort 0 (codes "in") (caps_by_bits 66))
    ∷ an_input 1 129 (Connect (filter_addr 128 0) (port_addr 129 0))
    ∷ an_input 4 128 (Bytes 0 (0x90 ∷ 0x3C ∷ 0x40 ∷ []))
    ∷ an_input 5 128 (SetFilter 0 (moved_by (negsuc 60)))
    ∷ an_input 5 128 (Bytes 0 (0x90 ∷ 0x3C ∷ 0x40 ∷ 0x3D ∷ 0x40 ∷ []))
    ∷ an_input 6 128 (DeleteFilter 0)
    ∷ an_input 6 128 (Bytes 0 (0x3D ∷ 0x40 ∷ [])) ∷ []

abbrev pub ChangedFilter : Type 0
ChangedFilter =
    plain [] changed_filter 10 ≡
    Replied 0 0 128 Done ∷ Replied 1 0 128 Done ∷ Replied 2 0 128 Done ∷ Replied 3 0 128 Done
    ∷ Replied 4 0 129 Done ∷ Replied 5 0 129 Done
    ∷ Replied 6 1 129 Done ∷ Delivered (a_delivery 4 129 0 (a_note 0x3C))
    ∷ Replied 7 4 128 (Messages 1) ∷ Replied 8 5 128 Done
    ∷ Delivered (a_delivery 5 129 0 (a_note 0x00)) ∷ Replied 9 5 128 (Messages 2)
    ∷ Replied 10 6 128 Done ∷ Replied 11 6 128 (Messages 1) ∷ []

-- A queue is started, held, run on and changed in tempo. Each event has the moment that the clock
-- gives it in the end, not the one that it had when it was accepted; one that is due past all
-- moments stays pending.
abbrev pub queue_clock : List Input
queue_clock =
    an_input 0 128 (Open (codes "a") 8 8)
    ∷ an_input 0 128 (CreatePort 0 (codes "out") (caps_by_bits 33))
    ∷ an_input 0 128 (CreateQueue 0 480 500000)
    ∷ an_input 0 128 (Schedule (a_queue 128 0) 0 (due_at.Nanos 100) (a_note 0x01))
    ∷ an_input 0 128 (Schedule (a_queue 128 0) 0 (due_at.Nanos 200) (a_note 0x02))
    ∷ an_input 0 128 (Schedule (a_queue 128 0) 0 (due_at.Nanos 18446744073709551615) (a_note 0x03))
    ∷ an_input 0 128 (Schedule (a_queue 128 0) 0 (due_at.Tick 2) (a_note 0x04))
    ∷ an_input 0 129 (Open (codes "b") 8 8)
    ∷ an_input 0 129 (CreatePort 0 (codes "in") (caps_by_bits 66))
    ∷ an_input 0 129 (Connect (port_addr 128 0) (port_addr 129 0))
    ∷ an_input 10 128 (Start (a_queue 128 0)) ∷ an_input 110 128 (Stop (a_queue 128 0))
    ∷ an_input 400 128 (Continue (a_queue 128 0)) ∷ an_input 1300 128 (Tempo (a_queue 128 0) 250000)
    ∷ an_input 1562800 128 (QueueStatus (a_queue 128 0))
    ∷ an_input 1562800 128 PoolStatus ∷ []

abbrev pub QueueClock : Type 0
QueueClock =
    plain [] queue_clock 1562800 ≡
    Replied 0 0 128 Done ∷ Replied 1 0 128 Done ∷ Replied 2 0 128 Done ∷ Replied 3 0 128 Done
    ∷ Replied 4 0 128 Done ∷ Replied 5 0 128 Done
    ∷ Replied 6 0 128 Done ∷ Replied 7 0 129 Done ∷ Replied 8 0 129 Done ∷ Replied 9 0 129 Done
    ∷ Replied 10 10 128 Done
    ∷ Delivered (a_delivery 110 129 0 (a_note 0x01)) ∷ Replied 11 110 128 Done
    ∷ Replied 12 400 128 Done ∷ Delivered (a_delivery 500 129 0 (a_note 0x02))
    ∷ Replied 13 1300 128 Done ∷ Delivered (a_delivery 1562800 129 0 (a_note 0x04))
    ∷ Replied 14 1562800 128 (Queue true 2 1562500)
    ∷ Replied 15 1562800 128 (Pools 0 0 1) ∷ []

-- A client closes: its subscriptions, its queue and what others had pending on that queue go.
-- Opened again, it has empty pools and none of its ports.
abbrev pub closed_client : List Input
closed_client =
    an_input 0 128 (Open (codes "a") 8 8)
    ∷ an_input 0 128 (CreatePort 0 (codes "out") (caps_by_bits 33))
    ∷ an_input 0 128 (CreateQueue 0 480 500000)
    ∷ an_input 0 128 (Share (a_queue 128 0)) ∷ an_input 0 128 (Start (a_queue 128 0))
    ∷ an_input 0 128 (Schedule (a_queue 128 0) 0 (due_at.Nanos 50) (a_note 0x01))
    ∷ an_input 0 129 (Open (codes "b") 8 8)
    ∷ an_input 0 129 (CreatePort 0 (codes "in") (caps_by_bits 66))
    ∷ an_input 0 129 (Connect (port_addr 128 0) (port_addr 129 0))
    ∷ an_input 0 130 (Open (codes "c") 8 1)
    ∷ an_input 0 130 (CreatePort 0 (codes "out") (caps_by_bits 33))
    ∷ an_input 1 129 (Connect (port_addr 130 0) (port_addr 129 0))
    ∷ an_input 1 130 (Schedule (a_queue 128 0) 0 (due_at.Nanos 100) (a_note 0x02))
    ∷ an_input 10 128 Close ∷ an_input 20 128 PoolStatus ∷ an_input 20 130 PoolStatus
    ∷ an_input 30 128 (Open (codes "d") 8 8) ∷ an_input 30 128 PoolStatus
    ∷ an_input 30 128 (Bytes 0 (0xF8 ∷ [])) ∷ an_input 40 130 (Send 0 (a_note 0x03)) ∷ []

abbrev pub ClosedClient : Type 0
ClosedClient =
    plain [] closed_client 200 ≡
    Replied 0 0 128 Done ∷ Replied 1 0 128 Done ∷ Replied 2 0 128 Done ∷ Replied 3 0 128 Done
    ∷ Replied 4 0 128 Done ∷ Replied 5 0 128 Done
    ∷ Replied 6 0 129 Done ∷ Replied 7 0 129 Done ∷ Replied 8 0 129 Done ∷ Replied 9 0 130 Done
    ∷ Replied 10 0 130 Done ∷ Replied 11 1 129 Done
    ∷ Replied 12 1 130 Done ∷ Replied 13 10 128 Done ∷ Replied 14 20 128 (refused NotOpen)
    ∷ Replied 15 20 130 (Pools 0 0 0) ∷ Replied 16 30 128 Done
    ∷ Replied 17 30 128 (Pools 0 0 0) ∷ Replied 18 30 128 (refused NoNode)
    ∷ Delivered (a_delivery 40 129 0 (a_note 0x03)) ∷ Replied 19 40 130 Done ∷ []

-- A file counts frames. Its ticks come at the frames' pace, a tempo is refused on a queue that is
-- made from it, and it cannot be played on a queue of quarter notes.
abbrev pub counted_frames : List Input
counted_frames =
    an_input 0 128 (Open (codes "a") 8 8)
    ∷ an_input 0 128 (CreatePort 0 (codes "out") (caps_by_bits 33))
    ∷ an_input 0 128 (CreateQueueFrom 0 0)
    ∷ an_input 0 128 (Play (a_queue 128 0) 0 0) ∷ an_input 0 128 (Tempo (a_queue 128 0) 250000)
    ∷ an_input 0 128 (CreateQueue 1 480 500000)
    ∷ an_input 0 128 (Play (a_queue 128 1) 0 0) ∷ an_input 0 129 (Open (codes "b") 8 8)
    ∷ an_input 0 129 (CreatePort 0 (codes "in") (caps_by_bits 66))
    ∷ an_input 0 129 (Connect (port_addr 128 0) (port_addr 129 0))
    ∷ an_input 1 128 (Start (a_queue 128 0)) ∷ []

abbrev pub CountedFrames : Type 0
CountedFrames =
    plain (frames_song ∷ []) counted_frames 600000000 ≡
    Replied 0 0 128 Done ∷ Replied 1 0 128 Done ∷ Replied 2 0 128 Done ∷ Replied 3 0 128 Done
    ∷ Replied 4 0 128 (refused BadTempo) ∷ Replied 5 0 128 Done
    ∷ Replied 6 0 128 (refused DivisionDiffers) ∷ Replied 7 0 129 Done ∷ Replied 8 0 129 Done
    ∷ Replied 9 0 129 Done ∷ Replied 10 1 128 Done
    ∷ Delivered (a_delivery 1 129 0 (a_note 0x3C))
    ∷ Delivered (a_delivery 200000001 129 0 (0x90 ∷ 0x3C ∷ 0x00 ∷ [])) ∷ []

-- A queue that was held is started again: it runs from 0, not from where it was held. Ticks after
-- the present are counted from the last tick that has come.
abbrev pub restarted_queue : List Input
restarted_queue =
    an_input 0 128 (Open (codes "a") 8 8)
    ∷ an_input 0 128 (CreatePort 0 (codes "out") (caps_by_bits 33))
    ∷ an_input 0 128 (CreateQueue 0 480 500000)
    ∷ an_input 0 128 (Start (a_queue 128 0)) ∷ an_input 0 129 (Open (codes "b") 8 8)
    ∷ an_input 0 129 (CreatePort 0 (codes "in") (caps_by_bits 66))
    ∷ an_input 0 129 (Connect (port_addr 128 0) (port_addr 129 0))
    ∷ an_input 100 128 (Stop (a_queue 128 0)) ∷ an_input 200 128 (Start (a_queue 128 0))
    ∷ an_input 200 128 (Schedule (a_queue 128 0) 0 (due_at.Nanos 50) (a_note 0x01))
    ∷ an_input 1041867 128 (Schedule (a_queue 128 0) 0 (due_at.TickAfter 1) (a_note 0x02)) ∷ []

abbrev pub RestartedQueue : Type 0
RestartedQueue =
    plain [] restarted_queue 2100000 ≡
    Replied 0 0 128 Done ∷ Replied 1 0 128 Done ∷ Replied 2 0 128 Done ∷ Replied 3 0 128 Done
    ∷ Replied 4 0 129 Done ∷ Replied 5 0 129 Done
    ∷ Replied 6 0 129 Done ∷ Replied 7 100 128 Done ∷ Replied 8 200 128 Done
    ∷ Replied 9 200 128 Done ∷ Delivered (a_delivery 250 129 0 (a_note 0x01))
    ∷ Replied 10 1041867 128 Done ∷ Delivered (a_delivery 2083534 129 0 (a_note 0x02)) ∷ []

-- Ticks that are shorter than a nanosecond: two of one queue come at the same one. The event whose
-- command came first is sent first, though its tick is the later one.
abbrev pub equal_ticks : List Input
equal_ticks =
    an_input 0 128 (Open (codes "a") 8 8)
    ∷ an_input 0 128 (CreatePort 0 (codes "out") (caps_by_bits 33))
    ∷ an_input 0 128 (CreateQueue 0 2000 1)
    ∷ an_input 0 128 (Schedule (a_queue 128 0) 0 (due_at.Tick 2) (a_note 0x01))
    ∷ an_input 0 128 (Schedule (a_queue 128 0) 0 (due_at.Tick 1) (a_note 0x02))
    ∷ an_input 0 129 (Open (codes "b") 8 8)
    ∷ an_input 0 129 (CreatePort 0 (codes "in") (caps_by_bits 66))
    ∷ an_input 0 129 (Connect (port_addr 128 0) (port_addr 129 0))
    ∷ an_input 10 128 (Start (a_queue 128 0)) ∷ []

abbrev pub EqualTicks : Type 0
EqualTicks =
    plain [] equal_ticks 20 ≡
    Replied 0 0 128 Done ∷ Replied 1 0 128 Done ∷ Replied 2 0 128 Done ∷ Replied 3 0 128 Done
    ∷ Replied 4 0 128 Done ∷ Replied 5 0 129 Done
    ∷ Replied 6 0 129 Done ∷ Replied 7 0 129 Done ∷ Replied 8 10 128 Done
    ∷ Delivered (a_delivery 11 129 0 (a_note 0x01))
    ∷ Delivered (a_delivery 11 129 0 (a_note 0x02)) ∷ []

-- ---- circles round 129

-- Two circles that are closed, and two that are not: of the third clients, 128 and 129 are, for 130
-- is refused, and 129 alone is not, since it joins a node of 128 to its port. On the shared queue
-- all three are, and 129 with 130 is not, since 130 names a queue of 128.
pub record Circles : Type 0 where
  pub pair : IsClosed [] 129 (λ c. (c == 128) || (c == 129)) third_clients
  pub alone : IsClosed [] 129 (λ c. c == 129) third_clients → ⊥
  pub three : IsClosed [] 129 (λ c. (c == 128) || (c == 129) || (c == 130)) shared_queue
  pub without_owner : IsClosed [] 129 (λ c. (c == 129) || (c == 130)) shared_queue → ⊥

-- A stranger opens, listens to a member, tries to join its port to the owner's and to part the
-- owner's subscription, schedules, hears that its output pool is full, overflows its own input,
-- and closes. The owner joins a member's port to the stranger's.
abbrev pub noisy_stranger : List Input
noisy_stranger =
    an_input 0 128 (Open (codes "a") 8 8)
    ∷ an_input 0 128 (CreatePort 0 (codes "out") (caps_by_bits 33))
    ∷ an_input 0 129 (Open (codes "b") 8 8)
    ∷ an_input 0 129 (CreatePort 0 (codes "in") (caps_by_bits 2))
    ∷ an_input 0 129 (Connect (port_addr 128 0) (port_addr 129 0))
    ∷ an_input 1 131 (Open (codes "x") 1 1)
    ∷ an_input 1 131 (CreatePort 0 (codes "y") (caps_by_bits 99))
    ∷ an_input 1 129 (Connect (port_addr 128 0) (port_addr 131 0))
    ∷ an_input 1 131 (Connect (port_addr 128 0) (port_addr 131 0))
    ∷ an_input 1 131 (Connect (port_addr 131 0) (port_addr 129 0))
    ∷ an_input 2 131 (Disconnect (port_addr 128 0) (port_addr 129 0))
    ∷ an_input 2 131 (CreateFilter 0 (caps_by_bits 99) (moved_by (pos 0)))
    ∷ an_input 2 131 (CreateQueue 0 480 500000)
    ∷ an_input 2 131 (Schedule (a_queue 131 0) 0 (due_at.Nanos 5) (a_note 0x7F))
    ∷ an_input 2 131 (Schedule (a_queue 131 0) 0 (due_at.Nanos 5) (a_note 0x7F))
    ∷ an_input 5 128 (Send 0 (a_note 0x3C))
    ∷ an_input 6 128 (Send 0 (a_note 0x3D))
    ∷ an_input 9 131 Close ∷ []

-- the owner of the circle of the two that mind their business
abbrev pub is_one_of_two : ℕ → Bool
is_one_of_two c = (c == 128) || (c == 129)

-- The circle of the owner 129 with 128 is closed, whatever the stranger 131 says; that of 131 with
-- 128 is not, since 129, which does not belong to it, joined 131's port. What 129 sees is its own
-- replies, but for how its Connect at the stranger's port ended, and what came to its port, with
-- its moments.
pub record NoisyStranger : Type 0 where
  pub log :
      plain [] noisy_stranger 10 ≡
      Replied 0 0 128 Done
      ∷ Replied 1 0 128 Done
      ∷ Replied 2 0 129 Done
      ∷ Replied 3 0 129 Done
      ∷ Replied 4 0 129 Done
      ∷ Replied 5 1 131 Done
      ∷ Replied 6 1 131 Done
      ∷ Replied 7 1 129 Done
      ∷ Replied 8 1 131 (refused AlreadyConnected)
      ∷ Replied 9 1 131 (refused NotPermitted)
      ∷ Replied 10 2 131 (refused NotPermitted)
      ∷ Replied 11 2 131 Done
      ∷ Replied 12 2 131 Done
      ∷ Replied 13 2 131 Done
      ∷ Replied 14 2 131 (refused OutFull)
      ∷ Delivered (a_delivery 5 129 0 (a_note 0x3C))
      ∷ Delivered (a_delivery 5 131 0 (a_note 0x3C))
      ∷ Replied 15 5 128 Done
      ∷ Delivered (a_delivery 6 129 0 (a_note 0x3D))
      ∷ Replied 16 6 128 Done
      ∷ Replied 17 9 131 Done ∷ []
  pub pair : IsClosed [] 129 is_one_of_two noisy_stranger
  pub other_pair : IsClosed [] 131 (λ c. (c == 128) || (c == 131)) noisy_stranger → ⊥
  pub seen :
      view 129 is_one_of_two noisy_stranger (plain [] noisy_stranger 10) ≡
      Told 0 Done ∷ Told 0 Done ∷ Told 0 Done ∷ Outside 1 ∷ Came (a_delivery 5 129 0 (a_note 0x3C))
      ∷ Came (a_delivery 6 129 0 (a_note 0x3D)) ∷ []

-- A message is sent from a port between two halves of another, which the port's bytes complete
-- after it.
abbrev pub send_inside_message : List Input
send_inside_message =
    an_input 0 128 (Open (codes "a") 8 8)
    ∷ an_input 0 128 (CreatePort 0 (codes "out") (caps_by_bits 33))
    ∷ an_input 0 129 (Open (codes "b") 8 8)
    ∷ an_input 0 129 (CreatePort 0 (codes "in") (caps_by_bits 66))
    ∷ an_input 0 129 (Connect (port_addr 128 0) (port_addr 129 0))
    ∷ an_input 5 128 (Bytes 0 (0x90 ∷ 0x3C ∷ []))
    ∷ an_input 5 128 (Send 0 (0xB0 ∷ 0x07 ∷ 0x7F ∷ []))
    ∷ an_input 5 128 (Bytes 0 (0x40 ∷ [])) ∷ []

pub record SendInside : Type 0 where
  pub log :
      plain [] send_inside_message 10 ≡
      Replied 0 0 128 Done
      ∷ Replied 1 0 128 Done
      ∷ Replied 2 0 129 Done
      ∷ Replied 3 0 129 Done
      ∷ Replied 4 0 129 Done
      ∷ Replied 5 5 128 (Messages 0)
      ∷ Delivered (a_delivery 5 129 0 (0xB0 ∷ 0x07 ∷ 0x7F ∷ []))
      ∷ Replied 6 5 128 Done
      ∷ Delivered (a_delivery 5 129 0 (a_note 0x3C))
      ∷ Replied 7 5 128 (Messages 1) ∷ []
  pub bytes : port_bytes (port_at 129 0) (plain [] send_inside_message 10)
      ≡ 0xB0 ∷ 0x07 ∷ 0x7F ∷ 0x90 ∷ 0x3C ∷ 0x40 ∷ []

-- What comes to a port is one stream: a note on with the status of the one before it is written
-- without that status, whatever the log has between them.
abbrev pub RunningStatusKept : Type 0
RunningStatusKept =
    port_bytes (port_at 129 0)
    (Delivered (a_delivery 5 129 0 (a_note 0x3C)) ∷ Replied 0 5 128 Done
    ∷ Delivered (a_delivery 6 129 1 (0xB0 ∷ 0x07 ∷ 0x7F ∷ []))
    ∷ Delivered (a_delivery 7 129 0 (a_note 0x3D)) ∷ []) ≡
    0x90 ∷ 0x3C ∷ 0x40 ∷ 0x3D ∷ 0x40 ∷ []

-- A client with something waiting and something lost closes and opens again: it finds nothing
-- waiting, nothing lost, and no subscription.
abbrev pub opened_again : List Input
opened_again =
    an_input 0 128 (Open (codes "a") 8 8)
    ∷ an_input 0 128 (CreatePort 0 (codes "out") (caps_by_bits 33))
    ∷ an_input 0 129 (Open (codes "b") 1 8)
    ∷ an_input 0 129 (CreatePort 0 (codes "in") (caps_by_bits 66))
    ∷ an_input 0 129 (Connect (port_addr 128 0) (port_addr 129 0))
    ∷ an_input 1 128 (Send 0 (a_note 0x3C))
    ∷ an_input 2 128 (Send 0 (a_note 0x3D))
    ∷ an_input 3 129 PoolStatus
    ∷ an_input 4 129 Close
    ∷ an_input 4 129 (Open (codes "b") 1 8)
    ∷ an_input 4 129 PoolStatus
    ∷ an_input 4 129 (CreatePort 0 (codes "in") (caps_by_bits 66))
    ∷ an_input 5 128 (Send 0 (a_note 0x3E)) ∷ []

abbrev pub OpenedAgain : Type 0
OpenedAgain =
    plain [] opened_again 10 ≡
    Replied 0 0 128 Done
    ∷ Replied 1 0 128 Done
    ∷ Replied 2 0 129 Done
    ∷ Replied 3 0 129 Done
    ∷ Replied 4 0 129 Done
    ∷ Delivered (a_delivery 1 129 0 (a_note 0x3C))
    ∷ Replied 5 1 128 Done
    ∷ Replied 6 2 128 Done
    ∷ Replied 7 3 129 (Pools 1 1 0)
    ∷ Replied 8 4 129 Done
    ∷ Replied 9 4 129 Done
    ∷ Replied 10 4 129 (Pools 0 0 0)
    ∷ Replied 11 4 129 Done
    ∷ Replied 12 5 128 Done ∷ []

-- A client with room for two listens while one message waits for it. Of three notes of one moment
-- it hears two, and one is lost; at the next moment it hears two more. What waited waits still, and
-- when it listens no longer one note more finds room beside it.
abbrev pub listened : List Input
listened =
    an_input 0 128 (Open (codes "a") 8 8)
    ∷ an_input 0 128 (CreatePort 0 (codes "out") (caps_by_bits 33))
    ∷ an_input 0 129 (Open (codes "b") 2 8)
    ∷ an_input 0 129 (CreatePort 0 (codes "in") (caps_by_bits 66))
    ∷ an_input 0 129 (Connect (port_addr 128 0) (port_addr 129 0))
    ∷ an_input 1 128 (Send 0 (a_note 0x01))
    ∷ an_input 2 129 Listen
    ∷ an_input 3 128 (Send 0 (a_note 0x02)) ∷ an_input 3 128 (Send 0 (a_note 0x03))
    ∷ an_input 3 128 (Send 0 (a_note 0x04))
    ∷ an_input 4 128 (Send 0 (a_note 0x05)) ∷ an_input 4 128 (Send 0 (a_note 0x06))
    ∷ an_input 4 129 PoolStatus
    ∷ an_input 5 129 Unlisten
    ∷ an_input 6 128 (Send 0 (a_note 0x07)) ∷ an_input 7 128 (Send 0 (a_note 0x08))
    ∷ an_input 7 129 PoolStatus ∷ []

abbrev pub Listened : Type 0
Listened =
    plain [] listened 10 ≡
    Replied 0 0 128 Done ∷ Replied 1 0 128 Done ∷ Replied 2 0 129 Done ∷ Replied 3 0 129 Done
    ∷ Replied 4 0 129 Done
    ∷ Delivered (a_delivery 1 129 0 (a_note 0x01)) ∷ Replied 5 1 128 Done
    ∷ Replied 6 2 129 Done
    ∷ Delivered (a_delivery 3 129 0 (a_note 0x02)) ∷ Replied 7 3 128 Done
    ∷ Delivered (a_delivery 3 129 0 (a_note 0x03)) ∷ Replied 8 3 128 Done
    ∷ Replied 9 3 128 Done
    ∷ Delivered (a_delivery 4 129 0 (a_note 0x05)) ∷ Replied 10 4 128 Done
    ∷ Delivered (a_delivery 4 129 0 (a_note 0x06)) ∷ Replied 11 4 128 Done
    ∷ Replied 12 4 129 (Pools 1 1 0)
    ∷ Replied 13 5 129 Done
    ∷ Delivered (a_delivery 6 129 0 (a_note 0x07)) ∷ Replied 14 6 128 Done
    ∷ Replied 15 7 128 Done
    ∷ Replied 16 7 129 (Pools 2 2 0) ∷ []
