-- Representation: An event that leaves its cell, and the key of the next.
use Rattle.std.specs.Prelude.{◌≡◌, ℕ, List, [], ◌∷◌, Option, Some, None}
use Rattle.std.specs.Ordering.{nat_cmp}
use Rattle.std.specs.FinMap
use Rattle.std.specs.FinMap.{FinMap}
use Rattle.tempo_clock.specs.declared.due.Due.{Due}
use Rattle.patch_graph.specs.declared.edge.Edge.{Edge}
use Rattle.node_table.specs.declared.number.QueueAddr.{QueueAddr}
use Rattle.seq_state.specs.declared.log.Delivery.{Delivery}
use Rattle.seq_state.specs.State.{Client, DueMessage, with_entry}
use Rattle.seq_state.specs.Copies.{copies}
use Rattle.seq_state.specs.Step.{port_addr}
use Rattle.agenda_heap.specs.declared.due_key.DueKey.{DueKey}
use Rattle.seq_settle.specs.declared.head.PoppedMessage.{PoppedMessage}
use Rattle.seq_settle.specs.declared.head.PlaybackHead.{PlaybackHead}
use Rattle.seq_settle.specs.Moments.{moment_at}
use Rattle.seq_settle.specs.Cells.{RankedPlayback, PlaybackCell, cell_rest, key_with}

-- a copy for each path that lets the message pass
abbrev pub copies_of : FinMap nat_cmp Client → List Edge → ℕ → ℕ → ℕ → List ℕ → List Delivery
copies_of clients edges moment client port message = copies
    (record { clients = clients; pools = FinMap.empty; edges = edges; pending = [] }) moment
    (port_addr client port) message

-- when the first of these events is due
abbrev pub next_due : List DueMessage → Option Due
next_due [] = None
next_due (e ∷ es) = Some e.due

-- what a command has to send before the first of its events went
abbrev pub new_left : ℕ → ℕ → QueueAddr → ℕ → List DueMessage → RankedPlayback
new_left rank port queue accepted events =
    record { rank = rank; port = port; queue = queue; accepted = accepted; events = events }

-- what a cell says of itself
abbrev pub head_of : PlaybackCell → PlaybackHead
head_of c =
    record {
      client = c.0;
      port = c.1.port;
      queue = c.1.queue;
      accepted = c.1.accepted;
      rank = c.1.rank;
      due = next_due c.1.events;
    }

-- the first event's message, and what its cell says of itself without it
abbrev pub first_popped : PlaybackCell → DueMessage → List DueMessage → PoppedMessage
first_popped c e es =
    record {
      message = e.message;
      head = record (head_of c) { due = next_due es };
    }

-- what a cell gives whose first event leaves it
abbrev pub IsFirstOf : FinMap nat_cmp PlaybackCell → ℕ → Option PoppedMessage → Type 0
IsFirstOf cells key given =
    (c : PlaybackCell) (e : DueMessage) (es : List DueMessage) → FinMap.get cells key ≡ Some c
    → c.1.events ≡ e ∷ es → given ≡ Some (first_popped c e es)

-- the cells when it left; with the last event the cell goes
abbrev pub IsWithoutFirst : FinMap nat_cmp PlaybackCell → ℕ → FinMap nat_cmp PlaybackCell → Type 0
IsWithoutFirst cells key left =
    (c : PlaybackCell) (e : DueMessage) (es : List DueMessage) → FinMap.get cells key ≡ Some c
    → c.1.events ≡ e ∷ es → left ≡ with_entry cells key (cell_rest c es)

abbrev pub key_of_first : FinMap nat_cmp Client → PlaybackHead → Option Due → Option DueKey
key_of_first clients h None = None
key_of_first clients h (Some due) =
    key_with h.rank (moment_at clients h.queue h.accepted due)

-- the key of a cell's first event, where it has one that has a moment
abbrev pub key_of_head : FinMap nat_cmp Client → PlaybackHead → Option DueKey
key_of_head clients h = key_of_first clients h h.due
