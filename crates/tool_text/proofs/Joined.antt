-- The two clients from the beginning on, where nothing is pending.
use Rattle.std.proofs.Common.{◌≡◌, ℕ, ◌+◌, true, false, cond, eqb, drop, List, [], ◌∷◌, ◌++◌, Option, Some, None, refl, sym, ap, subst, ◌∙◌}
use Rattle.std.specs.Prelude.{is_some, IfSome}
use Rattle.std.specs.Ordering.{nat_cmp}
use Rattle.std.specs.FinMap
use Rattle.std.specs.FinMap.{FinMap}
use Rattle.cell_pools.specs.Pools.{empty_pool, most_waiting}
use Rattle.midi_wire.specs.Readings.{rest}
use Rattle.midi_wire.proofs.Settled.{rest-none}
use Rattle.patch_graph.specs.Edges.{edge, most_sources}
use Rattle.seq_state.specs.declared.input.Command.{Command}
use Rattle.seq_state.specs.declared.input.Command.TheVariants.{Open, CreatePort, Connect}
use Rattle.seq_state.specs.declared.input.Input.{Input}
use Rattle.seq_state.specs.declared.log.Delivery.{Delivery}
use Rattle.seq_state.specs.declared.log.Reply.TheVariants.{Done}
use Rattle.seq_state.specs.State.{Client, ClientPool, OwnedPlayback, State, start, with_entry}
use Rattle.seq_state.specs.Effect.{new_client, new_port, put_port, has_port, with_change}
use Rattle.seq_state.specs.Table.{command_row}
use Rattle.seq_state.specs.Step.{port_addr, upto, settle, Settled, Stepped, unless, refusal_of, command_step, step, state_after}
use Rattle.seq_state.proofs.Effects.{get-put, step-connects}
use Rattle.seq_state.proofs.Done.{done, opens, creates-port}
use Rattle.seq_engine.specs.Seen.{Seen}
use Rattle.tool_text.specs.Thru.{input_at_start, readable, writable, fed_stream, joining, after_input, IsJoined}

-- ---- steps where nothing is pending

still : (s : State) → s.pending ≡ [] → settle s 0 ≡ record { state = s; delivered = [] }
unfolding upto
still s e =
    let with : List OwnedPlayback → State = λ ps. record s { pending = ps } in
    let stays : List OwnedPlayback → Settled = λ ps. record { state = with ps; delivered = [] } in
    ap (λ ps. settle (with ps) 0) e ∙ ap stays (sym e)

pub says : (s : State) (actor : ℕ) (command : Command) → s.pending ≡ [] → step [] s (input_at_start actor command) ≡ command_step [] s 0 actor command
says s actor command e =
    let then : Settled → Stepped = λ x. let after : Stepped = command_step [] x.state 0 actor command in
    record { state = after.state; delivered = x.delivered ++ after.delivered; reply = after.reply } in
    ap then (still s e)

pub none-due : (s : State) → s.pending ≡ [] → (settle s 0).delivered ≡ []
none-due s e = ap (λ (x : Settled). x.delivered) (still s e)

-- ---- the five steps

get-inserted : {X : Type 0} (m : FinMap nat_cmp X) (k : ℕ) (x : X) (q : ℕ) → FinMap.get (FinMap.insert m k x) q ≡ cond (eqb q k) (Some x) (FinMap.get m q)
get-inserted m k x q = get-put m k (Some x) q

get-none : {X : Type 0} (q : ℕ) → FinMap.get {X = X} (FinMap.empty {R = nat_cmp}) q ≡ None
get-none q = FinMap.get-empty nat_cmp q

ruleset finds = (get-inserted, get-none)

abbrev source : Client
source = new_client (0x73 ∷ 0x6F ∷ 0x75 ∷ 0x72 ∷ 0x63 ∷ 0x65 ∷ []) 1 1

abbrev sink : Client
sink = new_client (0x73 ∷ 0x69 ∷ 0x6E ∷ 0x6B ∷ []) most_waiting 1

abbrev with_out : Client
with_out = put_port 0 (Some (new_port (0x6F ∷ 0x75 ∷ 0x74 ∷ []) readable)) source

abbrev with_in : Client
with_in = put_port 0 (Some (new_port (0x69 ∷ 0x6E ∷ []) writable)) sink

abbrev after : FinMap nat_cmp Client → FinMap nat_cmp ClientPool → State
after clients pools = record { clients = clients; pools = pools; edges = []; pending = [] }

abbrev one_pool : FinMap nat_cmp ClientPool
one_pool = FinMap.insert FinMap.empty 128 (empty_pool 1)

abbrev both_pools : FinMap nat_cmp ClientPool
both_pools = FinMap.insert one_pool 129 (empty_pool most_waiting)

abbrev clients1 : FinMap nat_cmp Client
clients1 = FinMap.insert FinMap.empty 128 source

abbrev clients2 : FinMap nat_cmp Client
clients2 = FinMap.insert clients1 128 with_out

abbrev clients3 : FinMap nat_cmp Client
clients3 = FinMap.insert clients2 129 sink

abbrev clients4 : FinMap nat_cmp Client
clients4 = FinMap.insert clients3 129 with_in

-- a command that is not refused
taken : (s : State) (actor : ℕ) (command : Command) (effect a : Stepped) → s.pending ≡ [] → command_step [] s 0 actor command ≡ unless (refusal_of [] s 0 actor command) s effect →
    refusal_of [] s 0 actor command ≡ None → effect ≡ a → step [] s (input_at_start actor command) ≡ a
taken s actor command effect a calm does allowed is = says s actor command calm ∙ does ∙ ap (λ o. unless o s effect) allowed ∙ is

abbrev open_source : Command
open_source = Open (0x73 ∷ 0x6F ∷ 0x75 ∷ 0x72 ∷ 0x63 ∷ 0x65 ∷ []) 1 1

abbrev create_out : Command
create_out = CreatePort 0 (0x6F ∷ 0x75 ∷ 0x74 ∷ []) readable

abbrev open_sink : Command
open_sink = Open (0x73 ∷ 0x69 ∷ 0x6E ∷ 0x6B ∷ []) most_waiting 1

abbrev create_in : Command
create_in = CreatePort 0 (0x69 ∷ 0x6E ∷ []) writable

abbrev connect : Command
connect = Connect (port_addr 128 0) (port_addr 129 0)

abbrev state1 : State
state1 = after clients1 one_pool

abbrev state2 : State
state2 = after clients2 one_pool

abbrev state3 : State
state3 = after clients3 both_pools

abbrev state4 : State
state4 = after clients4 both_pools

abbrev pub whole : State
whole = record state4 { edges = edge (port_addr 128 0) (port_addr 129 0) ∷ [] }

first-allowed : refusal_of [] start 0 128 open_source ≡ None
unfolding command_row
first-allowed = simp finds

second-allowed : refusal_of [] state1 0 128 create_out ≡ None
unfolding command_row
second-allowed = simp finds

third-allowed : refusal_of [] state2 0 129 open_sink ≡ None
unfolding command_row
third-allowed = simp finds

fourth-allowed : refusal_of [] state3 0 129 create_in ≡ None
unfolding command_row
fourth-allowed = simp finds

fifth-allowed : refusal_of [] state4 0 129 connect ≡ None
unfolding command_row most_sources
fifth-allowed = simp finds

source-there : FinMap.get clients1 128 ≡ Some source
source-there = simp finds

sink-there : FinMap.get clients3 129 ≡ Some sink
sink-there = simp finds

-- a client whose port is made
abbrev made : State → ℕ → List ℕ → ℕ → Option Client → Stepped
made s actor name caps client =
    done (record s { clients = with_entry s.clients actor (with_change client (put_port 0 (Some (new_port name (record { 0 = caps }))))) }) Done

first : step [] start (input_at_start 128 open_source) ≡ done state1 Done
first =
    taken start 128 open_source (done state1 Done) (done state1 Done) refl (opens [] start 0 128 (0x73 ∷ 0x6F ∷ 0x75 ∷ 0x72 ∷ 0x63 ∷ 0x65 ∷ []) 1 1)
    first-allowed refl

second : step [] state1 (input_at_start 128 create_out) ≡ done state2 Done
second =
    let makes : Option Client → Stepped = made state1 128 (0x6F ∷ 0x75 ∷ 0x74 ∷ []) readable.0 in
    taken state1 128 create_out (makes (FinMap.get clients1 128)) (done state2 Done) refl (creates-port [] state1 0 128 0 (0x6F ∷ 0x75 ∷ 0x74 ∷ []) readable)
    second-allowed (ap makes source-there)

third : step [] state2 (input_at_start 129 open_sink) ≡ done state3 Done
third =
    taken state2 129 open_sink (done state3 Done) (done state3 Done) refl (opens [] state2 0 129 (0x73 ∷ 0x69 ∷ 0x6E ∷ 0x6B ∷ []) most_waiting 1)
    third-allowed refl

fourth : step [] state3 (input_at_start 129 create_in) ≡ done state4 Done
fourth =
    let makes : Option Client → Stepped = made state3 129 (0x69 ∷ 0x6E ∷ []) writable.0 in
    taken state3 129 create_in (makes (FinMap.get clients3 129)) (done state4 Done) refl (creates-port [] state3 0 129 0 (0x69 ∷ 0x6E ∷ []) writable)
    fourth-allowed (ap makes sink-there)

fifth : step [] state4 (input_at_start 129 connect) ≡ done whole Done
fifth =
    taken state4 129 connect (done whole Done) (done whole Done) refl (step-connects [] state4 0 129 (port_addr 128 0) (port_addr 129 0))
    fifth-allowed refl

-- ---- what comes of them

-- what is delivered by inputs, one after another, and then at moment 0
abbrev pub come : State → List Input → List Delivery
come s [] = (settle s 0).delivered
come s (i ∷ inputs) = (step [] s i).delivered ++ come (step [] s i).state inputs

pub joining-comes : (more : List Input) → come start (joining ++ more) ≡ come whole more
joining-comes more =
    let then : ℕ → Stepped → List Delivery = λ n a. a.delivered ++ come a.state (drop n joining ++ more) in
    ap (then 1) first ∙ ap (then 2) second ∙ ap (then 3) third ∙ ap (then 4) fourth ∙ ap (then 5) fifth

all_five : state_after [] start joining ≡ whole
all_five =
    let then : ℕ → Stepped → State = λ n a. state_after [] a.state (drop n joining) in
    ap (then 1) first ∙ ap (then 2) second ∙ ap (then 3) third ∙ ap (then 4) fourth ∙ ap (then 5) fifth

whole-port : has_port (FinMap.get clients4 128) 0 ≡ true
whole-port = simp finds

whole-sink : is_some (FinMap.get clients4 129) ≡ true
whole-sink = simp finds

whole-pool : FinMap.get both_pools 129 ≡ Some (empty_pool most_waiting)
whole-pool = simp finds

pub whole-stream : fed_stream whole ≡ []
whole-stream = simp finds

pub whole-joined : IsJoined whole
whole-joined = record {
  port = whole-port;
  sink = whole-sink;
  pool = whole-pool;
  edges = refl;
  pending = refl;
  stream = subst (λ s. rest s ≡ s) (sym whole-stream) rest-none;
}

pub joined-state : IsJoined (state_after [] start joining)
joined-state = subst IsJoined (sym all_five) whole-joined

pub joined-stream : fed_stream (state_after [] start joining) ≡ []
joined-stream = ap fed_stream all_five ∙ whole-stream

-- ---- the session's commands

-- one more command
pub said_next : (e e' : Seen) (s : State) (k actor n : ℕ) (command command' : Command) → e ≡ record { files = []; state = s; moment = 0; steps = k; failed = false } →
    e' ≡ after_input e (input_at_start actor command) → actor ≡ n → command ≡ command' →
    e' ≡ record { files = []; state = (step [] s (input_at_start n command')).state; moment = 0; steps = k + 1; failed = false }
said_next e e' s k actor n command command' is next who what =
    let seen : Input → Seen = λ i. record { files = []; state = (step [] s i).state; moment = 0; steps = k + 1; failed = false } in
    next ∙ ap (λ (x : Seen). after_input x (input_at_start actor command)) is ∙ ap (λ x. seen (input_at_start x command)) who ∙ ap (λ x. seen (input_at_start n x)) what

pub unwrapped : (o : Option ℕ) (x n : ℕ) → o ≡ Some x → IfSome o (λ c. c ≡ n) → x ≡ n
unwrapped o x n e h = let is : IfSome (Some x) (λ c. c ≡ n) = subst (λ (p : Option ℕ). IfSome p (λ c. c ≡ n)) e h in is
