-- What is sent at once, and what is left of the state.
use Rattle.std.proofs.Common.{◌≡◌, ℕ, Bool, true, false, not, cond, eqb, List, [], ◌∷◌, ◌++◌, map, length, Option, Some, None, refl, sym, ap, ◌∙◌, append-nil}
use Rattle.std.specs.Option.{option_and_then}
use Rattle.std.specs.Prelude.{is_some}
use Rattle.std.specs.List.{filter_map}
use Rattle.std.specs.Ordering.{nat_cmp}
use Rattle.std.specs.FinMap
use Rattle.std.specs.FinMap.{FinMap}
use Rattle.std.proofs.lemmas.Bool.{eqb-true}
use Rattle.midi_wire.specs.Readings.{reading}
use Rattle.node_table.specs.declared.number.QueueAddr.{QueueAddr}
use Rattle.node_table.specs.declared.number.Node.{Node}
use Rattle.node_table.specs.declared.number.Node.TheVariants.{Port, Filter}
use Rattle.patch_graph.specs.declared.edge.Edge.{Edge}
use Rattle.patch_graph.specs.Paths.{paths, end_of}
use Rattle.seq_state.specs.declared.input.Command.TheVariants.{Bytes, Send}
use Rattle.seq_state.specs.declared.log.Delivery.{Delivery}
use Rattle.seq_state.specs.declared.log.Reply.{Reply}
use Rattle.seq_state.specs.declared.log.Reply.TheVariants.{Done, Messages}
use Rattle.seq_state.specs.declared.refusal.Refusal.TheVariants.{NotOpen, NoNode}
use Rattle.seq_state.specs.State.{PortInfo, Client, ClientPool, State, filters_of, with_entry}
use Rattle.seq_state.specs.Effect.{with_change, has_port, put_port, port_fed, port_of, fed_of}
use Rattle.seq_state.specs.Copies.{filter_at, passed_by, copy_on_path, copy}
use Rattle.seq_state.specs.Table.{from_port, command_row, first_refusal}
use Rattle.seq_state.specs.Step.{Stepped, port_addr, pools_after, copies_with_room, with_copies, with_reply, send_copies}
use Rattle.seq_state.proofs.Effects.{get-put}
use Rattle.seq_state.proofs.Done.{feeds, sends}
use Rattle.seq_clients.specs.Roster.{Roster, with_client}
use Rattle.seq_settle.specs.Moments.{moment_at, SameMoments}
use Rattle.seq_settle.specs.Cells.{seen_state}
use Rattle.seq_settle.specs.Sends.{copies_of}
use Rattle.seq_settle.proofs.Timed.{timed-stay}
use Rattle.seq_settle.proofs.Elsewhere.{queues_same}
use Rattle.seq_patchbay.specs.Leaving.{copies_of_all}
use Rattle.seq_commands.specs.declared.sequencer.Sequencer.{Sequencer}
use Rattle.seq_commands.specs.declared.sequencer.Turn.{Turn}
use Rattle.seq_commands.specs.Whole.{clients_of, state_of, refusal_in, step_in, IsStepTakenUnkeyed}
use Rattle.seq_commands.proofs.Accepted.{unless-none}
use Rattle.seq_commands.proofs.ClientsGiven.{queues-port}

-- ---- the same filters let the same through

abbrev SameFilters : FinMap nat_cmp Client → FinMap nat_cmp Client → Type 0
SameFilters a b = (c : ℕ) → filters_of (FinMap.get a c) ≡ filters_of (FinMap.get b c)

module _ (a b : FinMap nat_cmp Client) (same : SameFilters a b) where
  filter-same : (c : ℕ) (node : Node) → filter_at a c node ≡ filter_at b c node
  filter-same c (Port n) = refl
  filter-same c (Filter n) = ap (λ fs. FinMap.get fs n) (same c)

  and-then : (o : Option (List ℕ)) (f g : List ℕ → Option (List ℕ)) → ((m : List ℕ) → f m ≡ g m) → option_and_then f o ≡ option_and_then g o
  and-then None f g e = refl
  and-then (Some m) f g e = e m

  carried-same : (es : List Edge) (message : List ℕ) → copy_on_path a es message ≡ copy_on_path b es message
  carried-same [] message = refl
  carried-same (e ∷ es) message =
      ap (λ o. option_and_then (copy_on_path a es) (passed_by o message)) (filter-same e.target.client e.target.node)
      ∙ and-then (passed_by (filter_at b e.target.client e.target.node) message) (copy_on_path a es) (copy_on_path b es) (carried-same es)

  filter_map-agree : {X Y : Type 0} (f g : X → Option Y) → ((x : X) → f x ≡ g x) → (xs : List X) → filter_map f xs ≡ filter_map g xs
  filter_map-agree f g h [] = refl
  filter_map-agree {X} {Y} f g h (x ∷ xs) = ap (λ o. with o (filter_map f xs)) (h x) ∙ ap (with (g x)) (filter_map-agree f g h xs)
    where
      with : Option Y → List Y → List Y
      with None ys = ys
      with (Some y) ys = y ∷ ys

  copies-same : (edges : List Edge) (moment client port : ℕ) (message : List ℕ) → copies_of a edges moment client port message ≡ copies_of b edges moment client port message
  copies-same edges moment client port message =
      filter_map-agree (λ p. copy moment (end_of (port_addr client port) p) (copy_on_path a p message)) (λ p. copy moment (end_of (port_addr client port) p) (copy_on_path b p message))
      (λ p. ap (copy moment (end_of (port_addr client port) p)) (carried-same p message)) (paths edges (port_addr client port))

  all-same : (edges : List Edge) (moment client port : ℕ) (messages : List (List ℕ)) → copies_of_all a edges moment client port messages ≡ copies_of_all b edges moment client port messages
  all-same edges moment client port [] = refl
  all-same edges moment client port (m ∷ ms) =
      ap (λ ds. ds ++ copies_of_all a edges moment client port ms) (copies-same edges moment client port m) ∙ ap (λ ds. copies_of b edges moment client port m ++ ds) (all-same edges moment client port ms)

put_port-filters : (n : ℕ) (o : Option PortInfo) (c : Option Client) → filters_of (with_change c (put_port n o)) ≡ filters_of c
put_port-filters n None None = refl
put_port-filters n None (Some c) = refl
put_port-filters n (Some p) None = refl
put_port-filters n (Some p) (Some c) = refl

-- a port's stream changes no filter
ports-apart : (clients : FinMap nat_cmp Client) (actor n : ℕ) (o : Option PortInfo) → SameFilters (with_entry clients actor (with_change (FinMap.get clients actor) (put_port n o))) clients
ports-apart clients actor n o c = ap filters_of (get-put clients actor (with_change (FinMap.get clients actor) (put_port n o)) c) ∙ go (eqb c actor) refl
  where
    go : (b : Bool) → eqb c actor ≡ b → filters_of (cond b (with_change (FinMap.get clients actor) (put_port n o)) (FinMap.get clients c)) ≡ filters_of (FinMap.get clients c)
    go true e = put_port-filters n o (FinMap.get clients actor) ∙ ap (λ x. filters_of (FinMap.get clients x)) (sym (eqb-true c actor e))
    go false e = refl

-- all that a command sends from one port
send-all-is : (s : State) (moment actor port : ℕ) (messages : List (List ℕ)) → send_copies s moment actor (map (from_port port) messages) ≡ copies_of_all s.clients s.edges moment actor port messages
send-all-is s moment actor port [] = refl
send-all-is s moment actor port (m ∷ ms) = ap (λ ds. copies_of s.clients s.edges moment actor port m ++ ds) (send-all-is s moment actor port ms)

-- ---- the steps

module _ (s : Sequencer) (t : Turn) where
  abbrev its : Option Client
  its = FinMap.get (clients_of s) t.actor

  -- the state without what is sent
  abbrev pub fed_state : ℕ → List ℕ → State
  fed_state port bytes = record (state_of s) { clients = with_entry (clients_of s) t.actor (with_change its (put_port port (port_fed bytes (port_of its port)))) }

  abbrev pub fed_messages : ℕ → List ℕ → List (List ℕ)
  fed_messages port bytes = reading (fed_of (port_of its port) ++ bytes)

  -- what is sent, by the clients as they are after the stream went on
  abbrev pub fed_copies : ℕ → List ℕ → List Delivery
  fed_copies port bytes = copies_of_all (fed_state port bytes).clients s.patchbay.graph t.moment t.actor port (fed_messages port bytes)

  pub bytes-step : (port : ℕ) (bytes : List ℕ) → refusal_in s t (Bytes port bytes) ≡ None →
      step_in s t (Bytes port bytes) ≡ with_reply (with_copies (fed_state port bytes) (fed_copies port bytes)) (Messages (length (fed_messages port bytes)))
  bytes-step port bytes accepted =
      let ms : List (List ℕ) = fed_messages port bytes in
      let effect : List Delivery → Stepped = λ ds. with_reply (with_copies (fed_state port bytes) ds) (Messages (length ms)) in
      feeds s.files (state_of s) t.moment t.actor port bytes
      ∙ unless-none (refusal_in s t (Bytes port bytes)) (state_of s) (effect (send_copies (state_of s) t.moment t.actor (map (from_port port) ms))) accepted
      ∙ ap effect (send-all-is (state_of s) t.moment t.actor port ms
      ∙ sym (all-same (fed_state port bytes).clients (clients_of s) (ports-apart (clients_of s) t.actor port (port_fed bytes (port_of its port))) s.patchbay.graph t.moment t.actor port ms))

  abbrev pub sent_copies : ℕ → List ℕ → List Delivery
  sent_copies port message = copies_of (clients_of s) s.patchbay.graph t.moment t.actor port message

  pub send-step : (port : ℕ) (message : List ℕ) → refusal_in s t (Send port message) ≡ None →
      step_in s t (Send port message) ≡ with_reply (with_copies (state_of s) (sent_copies port message)) Done
  send-step port message accepted =
      let effect : List Delivery → Stepped = λ ds. with_reply (with_copies (state_of s) ds) Done in
      sends s.files (state_of s) t.moment t.actor port message
      ∙ unless-none (refusal_in s t (Send port message)) (state_of s) (effect (send_copies (state_of s) t.moment t.actor (from_port port message ∷ []))) accepted
      ∙ ap effect (append-nil (sent_copies port message))

-- ---- what is given

-- these clients, and these copies sent from there
abbrev sent_from : Sequencer → FinMap nat_cmp Client → List Delivery → Reply → Stepped
sent_from s cs ds reply = with_reply (with_copies (record (state_of s) { clients = cs }) ds) reply

pub sent-kept : (old : Sequencer) (r : Roster) (edges : List Edge) (step : Stepped) (cs : FinMap nat_cmp Client) (ds : List Delivery) (reply : Reply) → step ≡ sent_from old cs ds reply →
    r.clients ≡ cs → r.pools ≡ pools_after old.patchbay.clients.pools ds → edges ≡ old.patchbay.graph → ((q : QueueAddr) → SameMoments (clients_of old) cs q) →
    IsStepTakenUnkeyed old (record old { patchbay = record { clients = r; graph = edges } }) step reply step.delivered
sent-kept old r edges step cs ds reply is clients pools graph same agenda now whole = record {
  state = ap (λ x. seen_state x r.pools edges old.cells.cells old.steps) clients ∙ ap (λ x. seen_state cs x edges old.cells.cells old.steps) pools
      ∙ ap (λ x. seen_state cs (pools_after old.patchbay.clients.pools ds) x old.cells.cells old.steps) graph ∙ ap (λ (x : Stepped). x.state) (sym is);
  reply_is = ap (λ (x : Stepped). x.reply) (sym is);
  sent_is = refl;
  cells = whole.cells;
  timed = timed-stay (clients_of old) r.clients old.cells.cells old.order agenda (λ q c e accepted due. same c.1.queue accepted due ∙ ap (λ x. moment_at x c.1.queue accepted due) (sym clients)) whole.timed;
  files = refl;
  steps = refl;
}

pub bytes-kept : (old : Sequencer) (turn : Turn) (port : ℕ) (bytes : List ℕ) (fed : Roster) (r : Roster) (edges : List Edge) (messages : List (List ℕ)) (count : ℕ) → refusal_in old turn (Bytes port bytes) ≡ None →
    fed ≡ with_client old.patchbay.clients turn.actor (with_change (FinMap.get (clients_of old) turn.actor) (put_port port (port_fed bytes (port_of (FinMap.get (clients_of old) turn.actor) port)))) →
    messages ≡ fed_messages old turn port bytes → count ≡ length (fed_messages old turn port bytes) →
    r.clients ≡ fed.clients → edges ≡ old.patchbay.graph → r.pools ≡ pools_after fed.pools (copies_of_all fed.clients old.patchbay.graph turn.moment turn.actor port messages) →
    IsStepTakenUnkeyed old (record old { patchbay = record { clients = r; graph = edges } }) (step_in old turn (Bytes port bytes)) (Messages count) (step_in old turn (Bytes port bytes)).delivered
bytes-kept old turn port bytes fed r edges messages count accepted is told number clients graph pools =
    let its : Option Client = FinMap.get (clients_of old) turn.actor in
    let after : Option Client = with_change its (put_port port (port_fed bytes (port_of its port))) in
    let cs : FinMap nat_cmp Client = with_entry (clients_of old) turn.actor after in
    let old_pools : FinMap nat_cmp ClientPool = old.patchbay.clients.pools in
    let all : FinMap nat_cmp Client → List (List ℕ) → List Delivery = λ x ms. copies_of_all x old.patchbay.graph turn.moment turn.actor port ms in
    sent-kept old r edges (step_in old turn (Bytes port bytes)) cs (fed_copies old turn port bytes) (Messages count)
    (bytes-step old turn port bytes accepted ∙ ap (λ n. with_reply (with_copies (fed_state old turn port bytes) (fed_copies old turn port bytes)) (Messages n)) (sym number))
    (clients ∙ ap (λ (x : Roster). x.clients) is)
    (pools ∙ ap (λ (x : Roster). pools_after x.pools (all x.clients messages)) is ∙ ap (λ ms. pools_after old_pools (all cs ms)) told)
    graph (queues_same (clients_of old) turn.actor after (queues-port port (port_fed bytes (port_of its port)) its))

pub bytes-sent : (old : Sequencer) (turn : Turn) (port : ℕ) (bytes : List ℕ) (fed : Roster) (messages : List (List ℕ)) → refusal_in old turn (Bytes port bytes) ≡ None →
    fed ≡ with_client old.patchbay.clients turn.actor (with_change (FinMap.get (clients_of old) turn.actor) (put_port port (port_fed bytes (port_of (FinMap.get (clients_of old) turn.actor) port)))) →
    messages ≡ fed_messages old turn port bytes →
    copies_with_room fed.pools (copies_of_all fed.clients old.patchbay.graph turn.moment turn.actor port messages) ≡ (step_in old turn (Bytes port bytes)).delivered
bytes-sent old turn port bytes fed messages accepted is told =
    let all : FinMap nat_cmp Client → List (List ℕ) → List Delivery = λ x ms. copies_of_all x old.patchbay.graph turn.moment turn.actor port ms in
    ap (λ (x : Roster). copies_with_room x.pools (all x.clients messages)) is ∙ ap (λ ms. copies_with_room old.patchbay.clients.pools (all (fed_state old turn port bytes).clients ms)) told
    ∙ ap (λ (x : Stepped). x.delivered) (sym (bytes-step old turn port bytes accepted))

pub send-kept : (old : Sequencer) (turn : Turn) (port : ℕ) (message : List ℕ) (r : Roster) (edges : List Edge) → refusal_in old turn (Send port message) ≡ None →
    r.clients ≡ clients_of old → edges ≡ old.patchbay.graph → r.pools ≡ pools_after old.patchbay.clients.pools (sent_copies old turn port message) →
    IsStepTakenUnkeyed old (record old { patchbay = record { clients = r; graph = edges } }) (step_in old turn (Send port message)) Done (step_in old turn (Send port message)).delivered
send-kept old turn port message r edges accepted clients graph pools =
    sent-kept old r edges (step_in old turn (Send port message)) (clients_of old) (sent_copies old turn port message) Done
    (send-step old turn port message accepted) clients pools graph (λ q accepted due. refl)

pub send-sent : (old : Sequencer) (turn : Turn) (port : ℕ) (message : List ℕ) → refusal_in old turn (Send port message) ≡ None →
    copies_with_room old.patchbay.clients.pools (sent_copies old turn port message) ≡ (step_in old turn (Send port message)).delivered
send-sent old turn port message accepted = ap (λ (x : Stepped). x.delivered) (sym (send-step old turn port message accepted))

-- the port of accepted bytes is there
pub bytes-accepted : (s : Sequencer) (t : Turn) (port : ℕ) (bytes : List ℕ) → refusal_in s t (Bytes port bytes) ≡ None → has_port (FinMap.get (clients_of s) t.actor) port ≡ true
unfolding command_row
bytes-accepted s t port bytes e = second (is_some (FinMap.get (clients_of s) t.actor)) (has_port (FinMap.get (clients_of s) t.actor) port) e
  where
    second : (a b : Bool) → first_refusal ((NotOpen, not a) ∷ (NoNode, not b) ∷ []) ≡ None → b ≡ true
    second a true e = refl
    second true false e = cc
    second false false e = cc
