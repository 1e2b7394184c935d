-- Definition: The listing as text.
use Rattle.std.specs.Prelude.{ℕ, Bool, zero, suc, ◌+◌, List, [], ◌++◌, codes, Option, Some, None, if◌then◌else◌}
use Rattle.std.specs.List.{flat_map}
use Rattle.std.specs.Fmt.{decimal, signed_decimal}
use Rattle.std.specs.FinMap
use Rattle.route_filter.specs.declared.rule_args.RuleArgs.{RuleArgs}
use Rattle.node_table.specs.Text.{addr_text, queue_text}
use Rattle.node_table.specs.declared.number.Addr.{Addr}
use Rattle.node_table.specs.declared.number.Node.TheVariants.{Port, Filter}
use Rattle.patch_graph.specs.declared.edge.Edge.{Edge}
use Rattle.seq_state.specs.State.{PortInfo, FilterInfo, Queue, Client}
use Rattle.seq_state.specs.Effect.{port_of, filter_of, queue_of, runs}
use Rattle.seq_clients.specs.Roster.{Roster, listens}

-- ---- lines

-- whether a client listens, told where it does
abbrev pub listening_text : Bool → List ℕ
listening_text listens = if listens then codes " listening" else []

-- `client 128 drums in 8 out 8`, or `client 128 drums in 8 out 8 listening`
abbrev pub client_line : ℕ → List ℕ → ℕ → ℕ → Bool → List ℕ
client_line client name in_size out_size listens =
    (codes "client " ++ decimal client ++ codes " ") ++ name
    ++ (codes " in " ++ decimal in_size ++ codes " out " ++ decimal out_size)
    ++ listening_text listens ++ codes "\n"

-- `port 128:p0 out 33`
abbrev pub port_line : ℕ → ℕ → List ℕ → ℕ → List ℕ
port_line client port name caps =
    (codes "port " ++ addr_text client (Port port) ++ codes " ") ++ name
    ++ codes " " ++ decimal caps ++ codes "\n"

-- the channels, the kinds, the lowest and the highest note, and the shift, each after a space
abbrev pub rule_text : RuleArgs → List ℕ
rule_text r =
    (codes " " ++ decimal r.channels ++ codes " " ++ decimal r.kinds.0)
    ++ codes " " ++ decimal r.low ++ codes " " ++ decimal r.high
    ++ codes " " ++ signed_decimal r.shift

-- the channel that a rule gives, where it gives one
abbrev pub channel_text : Option ℕ → List ℕ
channel_text None = []
channel_text (Some n) = codes " " ++ decimal n

-- `filter 128:f0 33 65535 1023 0 127 -12`, or with the channel at the end
abbrev pub filter_line : ℕ → ℕ → ℕ → RuleArgs → List ℕ
filter_line client filter caps r =
    (codes "filter " ++ addr_text client (Filter filter) ++ codes " " ++ decimal caps)
    ++ rule_text r ++ channel_text r.channel ++ codes "\n"

abbrev pub state_text : Queue → List ℕ
state_text q = if runs q then codes " running" else codes " stopped"

abbrev pub share_text : Queue → List ℕ
share_text q = if q.shared then codes " shared" else []

-- `queue 128:q0 stopped`, or `queue 128:q0 running shared`
abbrev pub queue_line : ℕ → ℕ → Queue → List ℕ
queue_line client queue q =
    (codes "queue " ++ queue_text client queue) ++ state_text q ++ share_text q ++ codes "\n"

-- `edge 128:p0 129:p0`
abbrev pub edge_line : Addr → Addr → List ℕ
edge_line source target =
    codes "edge " ++ addr_text source.client source.node ++ codes " "
    ++ addr_text target.client target.node ++ codes "\n"

-- ---- lines of what may be there

abbrev pub port_lines : ℕ → ℕ → Option PortInfo → List ℕ
port_lines client port None = []
port_lines client port (Some p) = port_line client port p.name p.caps.0

abbrev pub filter_lines : ℕ → ℕ → Option FilterInfo → List ℕ
filter_lines client filter None = []
filter_lines client filter (Some f) = filter_line client filter f.caps.0 f.rule

abbrev pub queue_lines : ℕ → ℕ → Option Queue → List ℕ
queue_lines client queue None = []
queue_lines client queue (Some q) = queue_line client queue q

-- ---- the listing

-- the texts of n numbers from the first on
unfoldable pub texts : ℕ → ℕ → (ℕ → List ℕ) → List ℕ
texts first zero f = []
texts first (suc n) f = texts first n f ++ f (first + n)

-- a client's ports by number, its filters, and its queues
abbrev pub port_texts : ℕ → Option Client → List ℕ
port_texts client c = texts 0 16 (λ n. port_lines client n (port_of c n))

abbrev pub filter_texts : ℕ → Option Client → List ℕ
filter_texts client c = texts 0 16 (λ n. filter_lines client n (filter_of c n))

abbrev pub queue_texts : ℕ → Option Client → List ℕ
queue_texts client c = texts 0 8 (λ n. queue_lines client n (queue_of c n))

-- a client that may be open, then what it has
abbrev pub client_lines : ℕ → Option Client → Bool → List ℕ
client_lines client None listens = []
client_lines client (Some c) listens =
    client_line client c.name c.in_size c.out_size listens
    ++ port_texts client (Some c) ++ filter_texts client (Some c) ++ queue_texts client (Some c)

abbrev pub client_texts : Roster → List ℕ
client_texts r =
    texts 128 64 (λ n. client_lines n (FinMap.get r.clients n) (listens (FinMap.get r.pools n)))

abbrev pub edge_texts : List Edge → List ℕ
edge_texts edges = flat_map (λ e. edge_line e.source e.target) edges

-- the clients by number, and then the subscriptions, oldest first
abbrev pub listing : Roster → List Edge → List ℕ
listing r edges = client_texts r ++ edge_texts edges
