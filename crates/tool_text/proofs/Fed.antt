-- What a piece of the stream gives and leaves.
use Rattle.std.proofs.Common.{◌≡◌, ◌≤◌, ◌+◌, ◌*◌, ℕ, true, false, not, List, [], ◌∷◌, ◌++◌, length, map, drop, Option, Some, None, refl, sym, ap, subst, ◌∙◌, arith, append-nil}
use Rattle.std.specs.Prelude.{is_some}
use Rattle.std.specs.List.{flat_map, filter_map}
use Rattle.std.specs.Fmt.{digits}
use Rattle.std.specs.Ordering.{nat_cmp}
use Rattle.std.specs.Cmp.{nat_cmp_total}
use Rattle.std.specs.FinMap
use Rattle.std.proofs.lemmas.Bool.{false≢true}
use Rattle.std.proofs.lemmas.List.{drop_all, length-map}
use Rattle.cell_pools.specs.Pools.{empty_pool, most_waiting, is_size}
use Rattle.midi_wire.specs.Readings.{reading, rest}
use Rattle.midi_wire.proofs.Settled.{rests-in-two}
use Rattle.patch_graph.specs.Edges.{edge}
use Rattle.patch_graph.specs.Paths.{paths, chains, hops, end_of}
use Rattle.patch_graph.specs.declared.edge.Edge.{Edge}
use Rattle.seq_state.specs.declared.input.Command.TheVariants.{Bytes, Receive}
use Rattle.seq_state.specs.declared.log.Arrival.{Arrival}
use Rattle.seq_state.specs.declared.log.Delivery.{Delivery}
use Rattle.seq_state.specs.declared.log.Reply.TheVariants.{Messages, Received}
use Rattle.seq_state.specs.declared.refusal.Refusal.TheVariants as refusal
use Rattle.seq_state.specs.State.{Client, PortInfo, ClientPool, State, with_entry}
use Rattle.seq_state.specs.Effect.{port_of, has_port, fed_of, with_change, put_port, port_fed, oldest, without_oldest}
use Rattle.seq_state.specs.Table.{first_refusal, from_port, command_row}
use Rattle.seq_state.specs.Copies.{copy_on_path, copy, copies}
use Rattle.seq_state.specs.Step.{port_addr, send_copies, pools_after, with_copies, with_reply, Stepped, unless, refusal_of, step, state_after}
use Rattle.seq_state.proofs.Effects.{get-put, step-takes}
use Rattle.seq_state.proofs.Done.{feeds}
use Rattle.tool_text.specs.Stream.{message_lines}
use Rattle.tool_text.specs.Thru.{input_at_start, most_piece, passage, passage_line, thru_line, fed_stream, IsJoined}
use Rattle.tool_text.proofs.Few.{piece-few}
use Rattle.tool_text.proofs.Joined.{says}
use Rattle.tool_text.proofs.Room.{came, waits, all-delivered, all-wait}

-- ---- the first client's port

-- who has a port is open
open_with_port : (c : Option Client) → has_port c 0 ≡ true → is_some c ≡ true
open_with_port None h = absurd (false≢true (sym (ap is_some (FinMap.get-empty {X = PortInfo} nat_cmp 0)) ∙ h))
open_with_port (Some x) h = refl

-- the port goes on, and what still matters of its stream
record IsFedPort (c : Option Client) (was : Option PortInfo) (bytes : List ℕ) : Type 0 where
  port : has_port c 0 ≡ true
  stream : fed_of (port_of c 0) ≡ rest (fed_of was ++ bytes)

fed_port : (x : Client) (bytes : List ℕ) (o : Option PortInfo) → is_some o ≡ true → IsFedPort (Some (put_port 0 (port_fed bytes o) x)) o bytes
fed_port x bytes None h = absurd (false≢true h)
fed_port x bytes (Some p) h =
    let next : PortInfo = record p { fed = rest (p.fed ++ bytes) } in
    let found : FinMap.get (FinMap.insert x.ports 0 next) 0 ≡ Some next = FinMap.get-insert nat_cmp_total x.ports 0 next 0 in
    record { port = ap is_some found; stream = ap fed_of found }

fed_client : (c : Option Client) (bytes : List ℕ) → has_port c 0 ≡ true → IsFedPort (with_change c (put_port 0 (port_fed bytes (port_of c 0)))) (port_of c 0) bytes
fed_client None bytes h = absurd (false≢true (sym (ap is_some (FinMap.get-empty {X = PortInfo} nat_cmp 0)) ∙ h))
fed_client (Some x) bytes h = fed_port x bytes (FinMap.get x.ports 0) h

-- ---- the copies along the one subscription

one_copy : (s : State) (message : List ℕ) → s.edges ≡ edge (port_addr 128 0) (port_addr 129 0) ∷ [] → copies s 0 (port_addr 128 0) message ≡ came message ∷ []
unfolding paths chains hops
one_copy s message e =
    ap (λ (es : List Edge). filter_map (λ p. copy 0 (end_of (port_addr 128 0) p) (copy_on_path s.clients p message)) (paths es (port_addr 128 0))) e

one_each : (s : State) (messages : List (List ℕ)) → s.edges ≡ edge (port_addr 128 0) (port_addr 129 0) ∷ [] → send_copies s 0 128 (map (from_port 0) messages) ≡ map came messages
one_each s [] e = refl
one_each s (m ∷ messages) e =
    ap (λ ds. ds ++ send_copies s 0 128 (map (from_port 0) messages)) (one_copy s m e)
    ∙ ap (λ ds. came m ∷ ds) (one_each s messages e)

came_line : (m : List ℕ) → passage_line (came m) ≡ thru_line m
unfolding digits
came_line m = refl

pub came_lines : (messages : List (List ℕ)) → flat_map passage_line (map came messages) ≡ flat_map thru_line messages
came_lines [] = refl
came_lines (m ∷ messages) = ap (λ text. text ++ flat_map passage_line (map came messages)) (came_line m) ∙ ap (λ text. thru_line m ++ text) (came_lines messages)

-- ---- a piece

module _ (s : State) (piece : List ℕ) (j : IsJoined s) (short : length piece ≤ most_piece) where
  abbrev messages : List (List ℕ)
  messages = reading (fed_stream s ++ piece)

  -- as many as may wait, or fewer
  few : length messages ≤ most_waiting
  few =
      let completed : length messages ≤ 2 * length piece =
      subst (λ r. length (reading (r ++ piece)) ≤ 2 * length piece) j.stream (piece-few (fed_stream s) piece) in
      omega arith

  fits : 0 + length messages ≤ most_waiting
  fits = omega (arith, few)

  abbrev next : Option Client
  next = with_change (FinMap.get s.clients 128) (put_port 0 (port_fed piece (port_of (FinMap.get s.clients 128) 0)))

  -- the state with all messages waiting
  abbrev waiting : State
  waiting = record s { clients = with_entry s.clients 128 next; pools = pools_after s.pools (map came messages) }

  abbrev fed : List Delivery → Stepped
  fed ds = with_reply (with_copies (record s { clients = with_entry s.clients 128 next }) ds) (Messages (length messages))

  accepted : refusal_of [] s 0 128 (Bytes 0 piece) ≡ None
  unfolding command_row
  accepted =
      let c : Option Client = FinMap.get s.clients 128 in
      ap (λ b. first_refusal ((refusal.NotOpen, not b) ∷ (refusal.NoNode, not (has_port c 0)) ∷ [])) (open_with_port c j.port)
      ∙ ap (λ b. first_refusal ((refusal.NotOpen, false) ∷ (refusal.NoNode, not b) ∷ [])) j.port

  feeds-piece : step [] s (input_at_start 128 (Bytes 0 piece)) ≡ fed (map came messages)
  feeds-piece =
      says s 128 (Bytes 0 piece) j.pending
      ∙ feeds [] s 0 128 0 piece
      ∙ ap (λ o. unless o s (fed (send_copies s 0 128 (map (from_port 0) messages)))) accepted
      ∙ ap fed (one_each s messages j.edges)

  -- each message comes to the second client's port
  pub fed_comes : (step [] s (input_at_start 128 (Bytes 0 piece))).delivered ≡ map came messages
  fed_comes =
      ap (λ (a : Stepped). a.delivered) feeds-piece
      ∙ all-delivered messages s.pools (empty_pool most_waiting) j.pool refl fits

  pub fed_delivers : flat_map passage_line (step [] s (input_at_start 128 (Bytes 0 piece))).delivered ≡ message_lines thru_line (fed_stream s ++ piece)
  fed_delivers = ap (flat_map passage_line) fed_comes ∙ came_lines messages

  -- ---- and the second client takes them

  sink-open : FinMap.get waiting.clients 129 ≡ FinMap.get s.clients 129
  sink-open = get-put s.clients 128 next 129

  allowed : refusal_of [] waiting 0 129 (Receive most_waiting) ≡ None
  unfolding command_row
  allowed = ap (λ b. first_refusal ((refusal.NotOpen, not b) ∷ (refusal.BadSize, not (is_size most_waiting)) ∷ [])) (ap is_some sink-open ∙ j.sink)

  abbrev emptied : State
  emptied = record waiting { pools = with_entry waiting.pools 129 (without_oldest most_waiting (FinMap.get waiting.pools 129)) }

  abbrev received : Stepped
  received = record { state = emptied; delivered = []; reply = Received (oldest most_waiting (FinMap.get waiting.pools 129)) }

  takes-all : step [] waiting (input_at_start 129 (Receive most_waiting)) ≡ received
  takes-all =
      says waiting 129 (Receive most_waiting) j.pending
      ∙ step-takes [] waiting 0 129 most_waiting
      ∙ ap (λ o. unless o waiting received) allowed

  after-piece : step [] (step [] s (input_at_start 128 (Bytes 0 piece))).state (input_at_start 129 (Receive most_waiting)) ≡ received
  after-piece = ap (λ (a : Stepped). step [] a.state (input_at_start 129 (Receive most_waiting))) feeds-piece ∙ takes-all

  pub none_more : (step [] (step [] s (input_at_start 128 (Bytes 0 piece))).state (input_at_start 129 (Receive most_waiting))).delivered ≡ []
  none_more = ap (λ (a : Stepped). a.delivered) after-piece

  passed : state_after [] s (passage piece) ≡ emptied
  passed = ap (λ (a : Stepped). a.state) after-piece

  first-client : FinMap.get emptied.clients 128 ≡ next
  first-client = get-put s.clients 128 next 128

  emptied-pool : FinMap.get emptied.pools 129 ≡ Some (empty_pool most_waiting)
  emptied-pool =
      let left : List Arrival → Option ClientPool = λ as_left. let p : ClientPool = record (empty_pool most_waiting) { waiting = as_left } in Some p in
      let none : drop most_waiting (map waits messages) ≡ [] = drop_all most_waiting (map waits messages) (omega (arith, few, length-map messages waits)) in
      get-put waiting.pools 129 (without_oldest most_waiting (FinMap.get waiting.pools 129)) 129
      ∙ ap (without_oldest most_waiting) (all-wait messages s.pools (empty_pool most_waiting) j.pool refl fits)
      ∙ ap left none

  emptied-stream : fed_stream emptied ≡ rest (fed_stream s ++ piece)
  emptied-stream = ap (λ c. fed_of (port_of c 0)) first-client ∙ (fed_client (FinMap.get s.clients 128) piece j.port).stream

  emptied-joined : IsJoined emptied
  emptied-joined = record {
    port = ap (λ c. has_port c 0) first-client ∙ (fed_client (FinMap.get s.clients 128) piece j.port).port;
    sink = ap is_some sink-open ∙ j.sink;
    pool = emptied-pool;
    edges = j.edges;
    pending = j.pending;
    stream = ap rest emptied-stream ∙ rest-rest (fed_stream s ++ piece) ∙ sym emptied-stream;
  }
    where
      rest-rest : (bytes : List ℕ) → rest (rest bytes) ≡ rest bytes
      rest-rest bytes = ap rest (sym (append-nil (rest bytes))) ∙ sym (rests-in-two bytes []) ∙ ap rest (append-nil bytes)

  pub passed_joined : IsJoined (state_after [] s (passage piece))
  passed_joined = subst IsJoined (sym passed) emptied-joined

  pub passed_stream : fed_stream (state_after [] s (passage piece)) ≡ rest (fed_stream s ++ piece)
  passed_stream = ap fed_stream passed ∙ emptied-stream
