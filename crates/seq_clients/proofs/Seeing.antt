-- What is seen of the clients.
use Rattle.std.proofs.Common.{◌≡◌, ◌∙◌, Bor, ℕ, true, false, Option, Some, None, refl, sym, ap}
use Rattle.std.specs.Prelude.{is_some, unwrap_or}
use Rattle.std.specs.Option.{option_copied, option_map}
use Rattle.std.specs.Ordering.{nat_cmp}
use Rattle.std.specs.FinMap
use Rattle.std.specs.FinMap.{FinMap, get, get-empty}
use Rattle.node_table.specs.Nodes as nodes
use Rattle.node_table.specs.Nodes.{NodeSeen, ClientNodes, node_at, node_in, ports_in, filters_in}
use Rattle.node_table.specs.declared.number.Addr.{Addr}
use Rattle.node_table.specs.declared.number.Node.{Node}
use Rattle.node_table.specs.declared.number.Node.TheVariants.{Port, Filter}
use Rattle.seq_state.specs.State.{Client, ClientPool}
use Rattle.seq_state.specs.Effect.{port_of, filter_of, node_caps, port_caps, filter_caps}
use Rattle.seq_state.specs.Step.{port_addr, filter_addr}
use Rattle.seq_clients.specs.Bodies.{rule_in, rule_of_body, is_body_for}
use Rattle.seq_clients.specs.Kept.{Nodes, Rows, port_seen, filter_seen, client_seen, row_at, roster, AreRowsKept}
use Rattle.seq_clients.specs.Roster.{Roster, nobody}
use Rattle.seq_clients.specs.Rows.{new_row}
use Rattle.seq_clients.specs.declared.body.NodeBody.{NodeBody}
use Rattle.seq_clients.specs.declared.body.NodeBody.TheVariants as bodies
use Rattle.seq_clients.specs.declared.row.ClientRow.{ClientRow}
use Rattle.seq_clients.proofs.Mapped.{get-mapped, mapped-empty}

pub is_some-map : {X Y : Type 0} (f : X → Y) (o : Option X) → is_some o ≡ is_some (option_map f o)
is_some-map f None = refl
is_some-map f (Some x) = refl

pub is_some-copied : {X : Type 0} (o : Option (Bor X)) → is_some o ≡ is_some (option_copied o)
is_some-copied None = refl
is_some-copied (Some x) = refl

-- ---- nobody is open

pub empty-roster : (nodes : Nodes) (rows : Rows) → nodes ≡ FinMap.empty → rows ≡ FinMap.empty → roster nodes rows ≡ nobody
empty-roster nodes rows e h =
    ap (λ (n : Nodes). roster n rows) e ∙ ap (roster FinMap.empty) h
    ∙ ap (λ (m : FinMap nat_cmp Client). record { clients = m; pools = (roster FinMap.empty FinMap.empty).pools }) (mapped-empty (λ client c. client_seen (row_at FinMap.empty client) c))
    ∙ ap (λ (m : FinMap nat_cmp ClientPool). record { clients = FinMap.empty; pools = m }) (mapped-empty (λ client r. r.pool))

pub none_in : (nd : Node) → node_in {P = NodeBody} None nd ≡ None
none_in (Port n) = get-empty nat_cmp n
none_in (Filter n) = get-empty nat_cmp n

no_node : (client : ℕ) (nd : Node) → node_in {P = NodeBody} (get {R = nat_cmp} FinMap.empty client) nd ≡ None
no_node client nd = ap (λ (o : Option (ClientNodes NodeBody)). node_in o nd) (get-empty nat_cmp client) ∙ none_in nd

pub empty-kept : (nodes : Nodes) (rows : Rows) → nodes ≡ FinMap.empty → rows ≡ FinMap.empty → AreRowsKept nodes rows
empty-kept nodes rows e h =
    record {
      rowed = λ client. ap (λ (m : Rows). is_some (get m client)) h ∙ ap is_some (get-empty nat_cmp client) ∙ sym (ap is_some (get-empty nat_cmp client)) ∙ sym (ap (λ (m : Nodes). is_some (get m client)) e);
      fitting = λ client nd n there.
          let none : None ≡ Some n = sym (no_node client nd) ∙ ap (λ (m : Nodes). node_in (get m client) nd) (sym e) ∙ there in cc;
    }

module _ (table : Nodes) (rows : Rows) (s : Roster) (kept : AreRowsKept table rows) (view : roster table rows ≡ s) where
  pub get-client : (client : ℕ) → get s.clients client ≡ option_map (client_seen (row_at rows client)) (get table client)
  get-client client = ap (λ (r : Roster). get r.clients client) (sym view) ∙ get-mapped (λ k c. client_seen (row_at rows k) c) table client

  pub get-pool : (client : ℕ) → get s.pools client ≡ option_map (λ r. r.pool) (get rows client)
  get-pool client = ap (λ (r : Roster). get r.pools client) (sym view) ∙ get-mapped (λ k r. r.pool) rows client

  pub open-client : (client : ℕ) → nodes.is_open table client ≡ is_some (get s.clients client)
  open-client client = is_some-map (client_seen (row_at rows client)) (get table client) ∙ ap is_some (sym (get-client client))

  pub client-name : (client : ℕ) → nodes.name_of (get table client) ≡ option_map (λ c. c.name) (get s.clients client)
  client-name client = go (get table client) ∙ ap (option_map (λ c. c.name)) (sym (get-client client))
    where
      go : (o : Option (ClientNodes NodeBody)) → nodes.name_of o ≡ option_map (λ c. c.name) (option_map (client_seen (row_at rows client)) o)
      go None = refl
      go (Some c) = refl

  -- ---- nodes

  pub get-port : (client port : ℕ) → option_map port_seen (node_at table (port_addr client port)) ≡ port_of (get s.clients client) port
  get-port client port = go (get table client) ∙ ap (λ (o : Option Client). port_of o port) (sym (get-client client))
    where
      go : (o : Option (ClientNodes NodeBody)) → option_map port_seen (get (ports_in o) port) ≡ port_of (option_map (client_seen (row_at rows client)) o) port
      go None = ap (option_map port_seen) (get-empty nat_cmp port) ∙ sym (get-empty nat_cmp port)
      go (Some c) = sym (get-mapped (λ n x. port_seen x) c.ports port)

  pub get-filter : (client filter : ℕ) → option_map filter_seen (node_at table (filter_addr client filter)) ≡ filter_of (get s.clients client) filter
  get-filter client filter = go (get table client) ∙ ap (λ (o : Option Client). filter_of o filter) (sym (get-client client))
    where
      go : (o : Option (ClientNodes NodeBody)) → option_map filter_seen (get (filters_in o) filter) ≡ filter_of (option_map (client_seen (row_at rows client)) o) filter
      go None = ap (option_map filter_seen) (get-empty nat_cmp filter) ∙ sym (get-empty nat_cmp filter)
      go (Some c) = sym (get-mapped (λ n x. filter_seen x) c.filters filter)

  pub port-there : (client port : ℕ) → is_some (node_at table (port_addr client port)) ≡ is_some (port_of (get s.clients client) port)
  port-there client port = is_some-map port_seen (node_at table (port_addr client port)) ∙ ap is_some (get-port client port)

  pub filter-there : (client filter : ℕ) → is_some (node_at table (filter_addr client filter)) ≡ is_some (filter_of (get s.clients client) filter)
  filter-there client filter = is_some-map filter_seen (node_at table (filter_addr client filter)) ∙ ap is_some (get-filter client filter)

  pub port-named : (client port : ℕ) → option_map (λ n. n.name) (node_at table (port_addr client port)) ≡ option_map (λ p. p.name) (port_of (get s.clients client) port)
  port-named client port = go (node_at table (port_addr client port)) ∙ ap (option_map (λ p. p.name)) (get-port client port)
    where
      go : (o : Option (NodeSeen NodeBody)) → option_map (λ n. n.name) o ≡ option_map (λ p. p.name) (option_map port_seen o)
      go None = refl
      go (Some n) = refl

  pub caps-there : (addr : Addr) → option_map (λ n. n.caps) (node_at table addr) ≡ node_caps (get s.clients addr.client) addr.node
  caps-there addr = by addr.client addr.node
    where
      of_port : (o : Option (NodeSeen NodeBody)) → option_map (λ n. n.caps) o ≡ port_caps (option_map port_seen o)
      of_port None = refl
      of_port (Some n) = refl

      of_filter : (o : Option (NodeSeen NodeBody)) → option_map (λ n. n.caps) o ≡ filter_caps (option_map filter_seen o)
      of_filter None = refl
      of_filter (Some n) = refl

      by : (client : ℕ) (nd : Node) → option_map (λ n. n.caps) (node_at table (record { client = client; node = nd })) ≡ node_caps (get s.clients client) nd
      by client (Port n) = of_port (node_at table (port_addr client n)) ∙ ap port_caps (get-port client n)
      by client (Filter n) = of_filter (node_at table (filter_addr client n)) ∙ ap filter_caps (get-filter client n)

  pub rule-there : (client filter : ℕ) (n : NodeSeen NodeBody) → Some n ≡ node_at table (filter_addr client filter) → rule_in n.body ≡ option_map (λ f. f.rule) (filter_of (get s.clients client) filter)
  rule-there client filter n e =
      is n.body (kept.fitting client (Filter filter) n (sym e)) ∙ ap (λ (o : Option (NodeSeen NodeBody)). option_map (λ f. f.rule) (option_map filter_seen o)) e
      ∙ ap (option_map (λ f. f.rule)) (get-filter client filter)
    where
      is : (b : NodeBody) → is_body_for (Filter filter) b ≡ true → rule_in b ≡ Some (rule_of_body b)
      is (bodies.Stream fed) h = cc
      is (bodies.Rule rule) h = refl

  pub no-rule : (client filter : ℕ) → None ≡ node_at table (filter_addr client filter) → None ≡ option_map (λ f. f.rule) (filter_of (get s.clients client) filter)
  no-rule client filter e =
      ap (λ (o : Option (NodeSeen NodeBody)). option_map (λ f. f.rule) (option_map filter_seen o)) e
      ∙ ap (option_map (λ f. f.rule)) (get-filter client filter)

  -- ---- rows

  -- what is told by a row
  pub by_row : {Z : Type 0} (f : Option Client → Z) (g : ClientRow → Z) (alike : (r : ClientRow) (c : ClientNodes NodeBody) → g r ≡ f (Some (client_seen r c))) (client : ℕ) (r : ClientRow) → Some r ≡ get rows client → g r ≡ f (get s.clients client)
  by_row f g alike client r e = go (get table client) (kept.rowed client) ∙ ap f (sym (get-client client))
    where
      is : row_at rows client ≡ r
      is = ap (λ (o : Option ClientRow). unwrap_or o (new_row 0 0)) (sym e)

      go : (o : Option (ClientNodes NodeBody)) → is_some (get rows client) ≡ is_some o → g r ≡ f (option_map (client_seen (row_at rows client)) o)
      go None h = let some : true ≡ is_some (get rows client) = ap is_some e in cc
      go (Some c) h = alike r c ∙ ap (λ (q : ClientRow). f (Some (client_seen q c))) (sym is)

  -- who has no row is not open
  pub no_row : (client : ℕ) → None ≡ get rows client → None ≡ get s.clients client
  no_row client e = go (get table client) (kept.rowed client) ∙ sym (get-client client)
    where
      go : (o : Option (ClientNodes NodeBody)) → is_some (get rows client) ≡ is_some o → None ≡ option_map (client_seen (row_at rows client)) o
      go None h = refl
      go (Some c) h = let none : false ≡ is_some (get rows client) = ap is_some e in cc
