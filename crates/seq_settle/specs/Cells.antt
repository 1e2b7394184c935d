-- Representation: How cells are seen as the plain list of what is pending, and how an agenda goes
-- with them.
use Rattle.std.specs.Prelude.{◌≡◌, ℕ, zero, suc, ◌<◌, ◌≤◌, ◌+◌, ◌==◌, nat_le, Bool, true, false, ◌&&◌, if◌then◌else◌, length, List, [], ◌∷◌, ◌++◌, Option, Some, None, refl}
use Rattle.std.specs.List.{list_all}
use Rattle.std.specs.Option.{option_to_list}
use Rattle.std.specs.Ordering.{nat_cmp}
use Rattle.std.specs.Coded.{Coded, code_by, coded×, coded_list, coded_ℕ}
use Rattle.std.specs.FinMap
use Rattle.std.specs.FinMap.{FinMap}
use Rattle.tempo_clock.specs.declared.due.Due.{Due}
use Rattle.tempo_clock.specs.declared.due.Due.TheVariants.{Tick, Nanos}
use Rattle.node_table.specs.Codes.{coded_queue_addr}
use Rattle.node_table.specs.Numbers.{first_client, last_client, most_queues}
use Rattle.node_table.specs.declared.number.QueueAddr.{QueueAddr}
use Rattle.patch_graph.specs.declared.edge.Edge.{Edge}
use Rattle.seq_state.specs.State.{Client, ClientPool, DueMessage, OwnedPlayback, State}
use Rattle.seq_state.specs.Codes.{coded_due_message}
use Rattle.seq_state.specs.Step.{is_left}
use Rattle.agenda_heap.specs.declared.due_key.DueKey.{DueKey}
use Rattle.seq_settle.specs.Moments.{moment_at}

-- What one Schedule or Play has still to send: the number of its command among all inputs, the
-- port, the queue, the moment at which it was accepted, and its events, in the order of the file.
pub record RankedPlayback : Type 0 where
  pub rank : ℕ
  pub port : ℕ
  pub queue : QueueAddr
  pub accepted : ℕ
  pub events : List DueMessage

abbrev pub coded_ranked_playback : Coded RankedPlayback
coded_ranked_playback =
    code_by (ℕ × (ℕ × (QueueAddr × (ℕ × List DueMessage))))
    (coded× coded_ℕ (coded× coded_ℕ (coded× coded_queue_addr
    (coded× coded_ℕ (coded_list coded_due_message)))))
    (λ l. (l.rank, (l.port, (l.queue, (l.accepted, l.events)))))
    (λ p. record {
      rank = p.0;
      port = p.1.0;
      queue = p.1.1.0;
      accepted = p.1.1.1.0;
      events = p.1.1.1.1;
    })
    (λ _. refl)

-- a cell: whose it is, and what is left
abbrev pub PlaybackCell : Type 0
PlaybackCell = ℕ × RankedPlayback

-- the playback in a cell
abbrev pub pending_in : PlaybackCell → OwnedPlayback
pending_in c =
    record {
      client = c.0;
      queue = c.1.queue;
      playback = record { port = c.1.port; accepted = c.1.accepted; events = c.1.events };
    }

-- ---- the list of playbacks

-- a cell's playback, where it has this rank
abbrev pub of_rank : ℕ → Option PlaybackCell → Option OwnedPlayback
of_rank r None = None
of_rank r (Some c) = if c.1.rank == r then Some (pending_in c) else None

abbrev pub or_else : {X : Type 0} → Option X → Option X → Option X
or_else None other = other
or_else (Some x) other = Some x

-- the first of these cells that has this rank
abbrev pub first_of : FinMap nat_cmp PlaybackCell → ℕ → List ℕ → Option OwnedPlayback
first_of cells r [] = None
first_of cells r (q ∷ qs) = or_else (of_rank r (FinMap.get cells q)) (first_of cells r qs)

-- the playback of the cell that has this rank
unfoldable pub at_rank : FinMap nat_cmp PlaybackCell → ℕ → Option OwnedPlayback
at_rank cells r = first_of cells r (FinMap.keys cells)

-- what stands at 0 and up to n, without the gaps
unfoldable pub by_rank : {X : Type 0} → (ℕ → Option X) → ℕ → List X
by_rank f zero = []
by_rank f (suc n) = by_rank f n ++ option_to_list (f n)

-- the playbacks of all cells, in the order of their commands
abbrev pub playbacks : FinMap nat_cmp PlaybackCell → ℕ → List OwnedPlayback
playbacks cells steps = by_rank (at_rank cells) steps

-- the plain state that is seen
abbrev pub seen_state : FinMap nat_cmp Client → FinMap nat_cmp ClientPool → List Edge
    → FinMap nat_cmp PlaybackCell →
    ℕ → State
seen_state clients pools edges cells steps =
    record { clients = clients; pools = pools; edges = edges; pending = playbacks cells steps }

-- ---- the invariant

abbrev pub due_le : Due → Due → Bool
due_le (Tick m) (Tick n) = nat_le m n
due_le (Nanos m) (Nanos n) = nat_le m n
due_le (Tick m) (Nanos n) = false
due_le (Nanos m) (Tick n) = false

-- no event is due before an earlier one of the list
abbrev pub are_in_order : List DueMessage → Bool
are_in_order [] = true
are_in_order (e ∷ es) = list_all (λ x. due_le e.due x.due) es && are_in_order es

-- the address is that of a queue that a client may have
pub record IsQueue (q : QueueAddr) : Type 0 where
  pub low : first_client ≤ q.client
  pub high : q.client ≤ last_client
  pub few : q.queue < most_queues

-- The cells are of commands so far, no two of one command, each is on a queue that a client may
-- have and has an event left, and its events are in order.
pub record AreCells (cells : FinMap nat_cmp PlaybackCell) (steps : ℕ) : Type 0 where
  pub early : (q : ℕ) (c : PlaybackCell) → FinMap.get cells q ≡ Some c → c.1.rank < steps
  pub apart : (q r : ℕ) (c d : PlaybackCell) → FinMap.get cells q ≡ Some c
      → FinMap.get cells r ≡ Some d →
      c.1.rank ≡ d.1.rank → q ≡ r
  pub filled : (q : ℕ) (c : PlaybackCell) → FinMap.get cells q ≡ Some c
      → is_left (pending_in c) ≡ true
  pub ordered : (q : ℕ) (c : PlaybackCell) → FinMap.get cells q ≡ Some c
      → are_in_order c.1.events ≡ true
  pub queues : (q : ℕ) (c : PlaybackCell) → FinMap.get cells q ≡ Some c → IsQueue c.1.queue

-- the moment of the first of a playback's events
abbrev pub first_moment : FinMap nat_cmp Client → OwnedPlayback → List DueMessage → Option ℕ
first_moment clients p [] = None
first_moment clients p (e ∷ es) = moment_at clients p.queue p.playback.accepted e.due

-- the key of a moment and a rank, where there is a moment: a command has one cell, and so one key
abbrev pub key_with : ℕ → Option ℕ → Option DueKey
key_with rank None = None
key_with rank (Some m) = Some (record { moment = m; rank = rank; place = 0 })

abbrev pub cell_key : PlaybackCell → Option ℕ → Option DueKey
cell_key c o = key_with c.1.rank o

-- the key of a cell, where its first event has a moment
abbrev pub key_of : FinMap nat_cmp Client → Option PlaybackCell → Option DueKey
key_of clients None = None
key_of clients (Some c) = cell_key c (first_moment clients (pending_in c) c.1.events)

-- ---- an event goes

-- a playback with these events
abbrev pub with_events : OwnedPlayback → List DueMessage → OwnedPlayback
with_events p es = record p { playback = record p.playback { events = es } }

-- what is left with these events
abbrev pub with_rest : RankedPlayback → List DueMessage → RankedPlayback
with_rest l es = record l { events = es }

-- what is left of a cell whose first event went
abbrev pub cell_rest : PlaybackCell → List DueMessage → Option PlaybackCell
cell_rest c [] = None
cell_rest c (e ∷ es) = Some (c.0, with_rest c.1 (e ∷ es))

-- the events of all playbacks
abbrev pub events_in : List OwnedPlayback → ℕ
events_in [] = 0
events_in (p ∷ ps) = length p.playback.events + events_in ps
