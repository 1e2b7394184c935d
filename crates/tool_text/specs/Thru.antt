-- Definition: What passes through a sequencer with two clients.
use Rattle.std.specs.Prelude.{◌≡◌, ◌+◌, ◌*◌, ◌≤◌, ℕ, zero, suc, true, false, List, [], ◌∷◌, ◌++◌, codes, length, take, drop, Some, is_some}
use Rattle.std.specs.List.{flat_map}
use Rattle.std.specs.Int.{div_ceil}
use Rattle.std.specs.Int.RustNames.{bit_or}
use Rattle.std.specs.Fmt.{decimal}
use Rattle.std.specs.FinMap
use Rattle.cell_pools.specs.Pools.{empty_pool, most_waiting}
use Rattle.midi_wire.specs.Readings.{rest}
use Rattle.node_table.specs.Text.{addr_text}
use Rattle.node_table.specs.declared.caps.Caps.{Caps}
use Rattle.node_table.specs.declared.caps.TheConstants.Caps.{READ, WRITE, SUBS_READ, SUBS_WRITE}
use Rattle.node_table.specs.declared.number.Node.TheVariants.{Port}
use Rattle.node_table.specs.declared.number.PortAddr.{PortAddr}
use Rattle.patch_graph.specs.Edges.{edge}
use Rattle.seq_state.specs.declared.input.Command.{Command}
use Rattle.seq_state.specs.declared.input.Command.TheVariants.{Open, CreatePort, Connect, Bytes, Receive}
use Rattle.seq_state.specs.declared.input.Input.{Input}
use Rattle.seq_state.specs.declared.log.Delivery.{Delivery}
use Rattle.seq_state.specs.Laws.{deliveries_of}
use Rattle.seq_state.specs.Effect.{has_port, port_of, fed_of}
use Rattle.seq_state.specs.State.{State, start}
use Rattle.seq_state.specs.Step.{port_addr, step, state_after, plain}
use Rattle.seq_engine.specs.Seen.{Seen}
use Rattle.text_forms.specs.Hex.{spaced_hex}
use Rattle.tool_text.specs.Stream.{message_lines}

-- ---- the run

-- a client says this at moment 0
abbrev pub input_at_start : ℕ → Command → Input
input_at_start client command = record { moment = 0; actor = client; command = command }

-- others may subscribe to the port
abbrev pub readable : Caps
readable = record { 0 = bit_or READ.0 SUBS_READ.0 }

-- others may subscribe the port
abbrev pub writable : Caps
writable = record { 0 = bit_or WRITE.0 SUBS_WRITE.0 }

-- clients "source" and "sink" with ports "out" and "in"; the second subscribes its port to the
-- first's, and as many messages may wait for it as may for any client
abbrev pub joining : List Input
joining =
    input_at_start 128 (Open (0x73 ∷ 0x6F ∷ 0x75 ∷ 0x72 ∷ 0x63 ∷ 0x65 ∷ []) 1 1)
    ∷ input_at_start 128 (CreatePort 0 (0x6F ∷ 0x75 ∷ 0x74 ∷ []) readable)
    ∷ input_at_start 129 (Open (0x73 ∷ 0x69 ∷ 0x6E ∷ 0x6B ∷ []) most_waiting 1)
    ∷ input_at_start 129 (CreatePort 0 (0x69 ∷ 0x6E ∷ []) writable)
    ∷ input_at_start 129 (Connect (port_addr 128 0) (port_addr 129 0)) ∷ []

-- how many bytes are passed on at once: a byte completes at most two messages, so that a piece
-- completes no more than may wait for the second client
abbrev pub most_piece : ℕ
most_piece = 1000

-- the first so many pieces of the bytes
abbrev pub first_pieces : ℕ → List ℕ → List (List ℕ)
first_pieces zero bytes = []
first_pieces (suc n) bytes = take most_piece bytes ∷ first_pieces n (drop most_piece bytes)

-- the bytes in pieces of that length, and a last one of what is left
abbrev pub pieces : List ℕ → List (List ℕ)
pieces bytes = first_pieces (div_ceil (length bytes) most_piece) bytes

-- the first client's port is fed a piece, and then the second client takes all that waits for it
abbrev pub passage : List ℕ → List Input
passage piece = input_at_start 128 (Bytes 0 piece) ∷ input_at_start 129 (Receive most_waiting) ∷ []

-- they are joined, and then the stream passes, one piece after another
abbrev pub passing : List ℕ → List Input
passing bytes = joining ++ flat_map passage (pieces bytes)

-- ---- the text

-- a moment and a port
abbrev pub heading : ℕ → PortAddr → List ℕ
heading moment target =
    decimal moment ++ 32 ∷ [] ++ addr_text target.client (Port target.port)

-- a delivery: its moment, its port and its message
abbrev pub passage_line : Delivery → List ℕ
passage_line d = heading d.moment d.target ++ spaced_hex d.message ++ 10 ∷ []

-- a line for each delivery of the plain run
unfoldable pub thru_text : List ℕ → List ℕ
thru_text bytes = flat_map passage_line (deliveries_of (plain [] (passing bytes) 0))

-- a message of the stream as it comes to the port of the second client
abbrev pub thru_line : List ℕ → List ℕ
thru_line message = codes "0 129:p0" ++ spaced_hex message ++ 10 ∷ []

-- the text is a line for each message of the stream
abbrev pub ThruLaw : Type 0
ThruLaw = (bytes : List ℕ) → thru_text bytes ≡ message_lines thru_line bytes

-- ---- the sequencer on the way

-- what still matters of the stream that the first client's port was fed
abbrev pub fed_stream : State → List ℕ
fed_stream s = fed_of (port_of (FinMap.get s.clients 128) 0)

-- the first client has its port, whose stream is kept by what still matters of it; the second's is
-- the one that is subscribed to it; and nothing waits or is still to be sent
pub record IsJoined (s : State) : Type 0 where
  pub port : has_port (FinMap.get s.clients 128) 0 ≡ true
  pub sink : is_some (FinMap.get s.clients 129) ≡ true
  pub pool : FinMap.get s.pools 129 ≡ Some (empty_pool most_waiting)
  pub edges : s.edges ≡ edge (port_addr 128 0) (port_addr 129 0) ∷ []
  pub pending : s.pending ≡ []
  pub stream : rest (fed_stream s) ≡ fed_stream s

-- an engine in which the clients are joined
abbrev pub engine_joined : Seen
engine_joined = record {
  files = [];
  state = state_after [] start joining;
  moment = 0;
  steps = 5;
  failed = false;
}

-- an engine after an input at moment 0
abbrev pub after_input : Seen → Input → Seen
after_input e i =
    record e { state = (step e.files e.state i).state; moment = 0; steps = e.steps + 1 }

-- an engine of this session: it has no files, its moment is 0, and the clients are joined
pub record IsPassing (e : Seen) : Type 0 where
  pub files : e.files ≡ []
  pub joined : IsJoined e.state
  pub early : e.moment ≡ 0
  pub sound : e.failed ≡ false

-- the first client's port was fed these bytes and no others, in pieces with two steps for each
pub record IsFed (e : Seen) (read : List ℕ) : Type 0 where
  pub passing : IsPassing e
  pub counted : e.steps ≤ 5 + 2 * length read
  pub stream : fed_stream e.state ≡ rest read
