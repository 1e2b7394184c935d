-- The clients that are seen, after another body was written into a node.
use Rattle.std.proofs.Common.{◌≡◌, ◌∙◌, ℕ, true, List, [], ◌++◌, Option, Some, None, refl, sym, ap, subst}
use Rattle.std.specs.Prelude.{is_some}
use Rattle.std.specs.Option.{option_map}
use Rattle.std.specs.FinMap.{get}
use Rattle.midi_wire.specs.Readings.{rest}
use Rattle.node_table.specs.Nodes.{NodeSeen, node_at, with_body, with_its_body, put_seen}
use Rattle.node_table.specs.declared.number.Addr.{Addr}
use Rattle.node_table.specs.declared.number.Node.{Node}
use Rattle.node_table.specs.declared.number.Node.TheVariants.{Port}
use Rattle.route_filter.specs.declared.rule_args.RuleArgs.{RuleArgs}
use Rattle.seq_state.specs.State.{PortInfo, FilterInfo}
use Rattle.seq_state.specs.Effect.{has_port, has_filter, port_of, filter_of, with_change, put_port, put_filter, fed_of, port_fed, filter_ruled}
use Rattle.seq_state.specs.Step.{port_addr, filter_addr}
use Rattle.seq_clients.specs.Bodies.{stream_of, is_body_for, is_stream}
use Rattle.seq_clients.specs.Kept.{Nodes, Rows, port_seen, filter_seen, roster, AreRowsKept}
use Rattle.seq_clients.specs.Roster.{Roster, port_begun, with_client}
use Rattle.seq_clients.specs.declared.body.NodeBody.{NodeBody}
use Rattle.seq_clients.specs.declared.body.NodeBody.TheVariants as bodies
use Rattle.seq_clients.proofs.Seeing.{get-port, get-filter, port-there, filter-there}
use Rattle.seq_clients.proofs.Changing.{port-made, filter-made, made-kept}

module _ (table : Nodes) (rows : Rows) (s : Roster) (kept : AreRowsKept table rows) (view : roster table rows ≡ s) where
  -- the body of a node that may be there
  abbrev pub body_at : Addr → Option NodeBody
  body_at addr = option_map (λ n. n.body) (node_at table addr)

  pub written-kept : (client : ℕ) (nd : Node) (addr : Addr) (body : NodeBody) → addr ≡ record { client = client; node = nd } → is_body_for nd body ≡ true → AreRowsKept (with_body table addr body) rows
  written-kept client nd addr body at fit = subst (λ (x : Addr). AreRowsKept (with_body table x body) rows) (sym at) (go (node_at table (record { client = client; node = nd })))
    where
      go : (o : Option (NodeSeen NodeBody)) → AreRowsKept (put_seen table (record { client = client; node = nd }) (option_map (with_its_body body) o)) rows
      go None = kept
      go (Some n) = made-kept table rows s kept view client nd (with_its_body body n) fit

  -- ---- filters

  pub filter-ruled : (client filter : ℕ) (addr : Addr) (rule : RuleArgs) → addr ≡ filter_addr client filter → has_filter (get s.clients client) filter ≡ true →
      roster (with_body table addr (bodies.Rule rule)) rows ≡ with_client s client (with_change (get s.clients client) (put_filter filter (filter_ruled rule (filter_of (get s.clients client) filter))))
  filter-ruled client filter addr rule at there =
      ap (λ (x : Addr). roster (with_body table x (bodies.Rule rule)) rows) at
      ∙ go (node_at table (filter_addr client filter)) (filter-there table rows s kept view client filter ∙ there)
      ∙ ap (λ (o : Option FilterInfo). with_client s client (with_change (get s.clients client) (put_filter filter (filter_ruled rule o)))) (get-filter table rows s kept view client filter)
    where
      go : (o : Option (NodeSeen NodeBody)) → is_some o ≡ true → roster (put_seen table (filter_addr client filter) (option_map (with_its_body (bodies.Rule rule)) o)) rows ≡ with_client s client (with_change (get s.clients client) (put_filter filter (filter_ruled rule (option_map filter_seen o))))
      go None h = cc
      go (Some n) h = filter-made table rows s kept view client filter (with_its_body (bodies.Rule rule) n)

  pub filter-missed : (client filter : ℕ) (addr : Addr) → addr ≡ filter_addr client filter → has_filter (get s.clients client) filter ≡ true → None ≡ body_at addr → ⊥
  filter-missed client filter addr at there none = go (node_at table (filter_addr client filter)) (filter-there table rows s kept view client filter ∙ there) (none ∙ ap body_at at)
    where
      go : (o : Option (NodeSeen NodeBody)) → is_some o ≡ true → None ≡ option_map (λ n. n.body) o → ⊥
      go None h k = cc
      go (Some n) h k = cc

  -- ---- ports

  pub port-missed : (client port : ℕ) (addr : Addr) → addr ≡ port_addr client port → has_port (get s.clients client) port ≡ true → None ≡ body_at addr → ⊥
  port-missed client port addr at there none = go (node_at table (port_addr client port)) (port-there table rows s kept view client port ∙ there) (none ∙ ap body_at at)
    where
      go : (o : Option (NodeSeen NodeBody)) → is_some o ≡ true → None ≡ option_map (λ n. n.body) o → ⊥
      go None h k = cc
      go (Some n) h k = cc

  module _ (client port : ℕ) (addr : Addr) (at : addr ≡ port_addr client port) (was : NodeBody) (here : Some was ≡ body_at addr) where
    here_at : Some was ≡ body_at (port_addr client port)
    here_at = here ∙ ap body_at at

    pub stream-there : is_stream was ≡ true
    stream-there = go (node_at table (port_addr client port)) refl here_at
      where
        is : (b : NodeBody) → is_body_for (Port port) b ≡ true → is_stream b ≡ true
        is (bodies.Stream fed) h = h
        is (bodies.Rule rule) h = h

        go : (o : Option (NodeSeen NodeBody)) → node_at table (port_addr client port) ≡ o → Some was ≡ option_map (λ n. n.body) o → is_stream was ≡ true
        go None e h = cc
        go (Some n) e h = let same : was ≡ n.body = cc in ap is_stream same ∙ is n.body (kept.fitting client (Port port) n e)

    pub fed-there : stream_of was ≡ fed_of (port_of (get s.clients client) port)
    fed-there = go (node_at table (port_addr client port)) here_at ∙ ap fed_of (get-port table rows s kept view client port)
      where
        go : (o : Option (NodeSeen NodeBody)) → Some was ≡ option_map (λ n. n.body) o → stream_of was ≡ fed_of (option_map port_seen o)
        go None h = cc
        go (Some n) h = let same : was ≡ n.body = cc in ap stream_of same

    pub fed-kept : (body : NodeBody) → is_stream body ≡ true → AreRowsKept (with_body table addr body) rows
    fed-kept body e = written-kept client (Port port) addr body at (is body e)
      where
        is : (b : NodeBody) → is_stream b ≡ true → is_body_for (Port port) b ≡ true
        is (bodies.Stream fed) h = h
        is (bodies.Rule rule) h = h

    pub port-is-fed : (body : NodeBody) (bytes : List ℕ) → stream_of body ≡ rest (stream_of was ++ bytes) →
        roster (with_body table addr body) rows ≡ with_client s client (with_change (get s.clients client) (put_port port (port_fed bytes (port_of (get s.clients client) port))))
    port-is-fed body bytes e =
        ap (λ (x : Addr). roster (with_body table x body) rows) at
        ∙ go (node_at table (port_addr client port)) here_at
        ∙ ap (λ (o : Option PortInfo). with_client s client (with_change (get s.clients client) (put_port port (port_fed bytes o)))) (get-port table rows s kept view client port)
      where
        go : (o : Option (NodeSeen NodeBody)) → Some was ≡ option_map (λ n. n.body) o → roster (put_seen table (port_addr client port) (option_map (with_its_body body) o)) rows ≡ with_client s client (with_change (get s.clients client) (put_port port (port_fed bytes (option_map port_seen o))))
        go None h = cc
        go (Some n) h =
            let same : was ≡ n.body = cc in
            port-made table rows s kept view client port (with_its_body body n)
            ∙ ap (λ (f : List ℕ). with_client s client (with_change (get s.clients client) (put_port port (Some (record (port_seen n) { fed = f }))))) (e ∙ ap (λ (b : NodeBody). rest (stream_of b ++ bytes)) same)

    pub port-begins : (body : NodeBody) → stream_of body ≡ [] →
        roster (with_body table addr body) rows ≡ with_client s client (with_change (get s.clients client) (put_port port (port_begun (port_of (get s.clients client) port))))
    port-begins body e =
        ap (λ (x : Addr). roster (with_body table x body) rows) at
        ∙ go (node_at table (port_addr client port)) here_at
        ∙ ap (λ (o : Option PortInfo). with_client s client (with_change (get s.clients client) (put_port port (port_begun o)))) (get-port table rows s kept view client port)
      where
        go : (o : Option (NodeSeen NodeBody)) → Some was ≡ option_map (λ n. n.body) o → roster (put_seen table (port_addr client port) (option_map (with_its_body body) o)) rows ≡ with_client s client (with_change (get s.clients client) (put_port port (port_begun (option_map port_seen o))))
        go None h = cc
        go (Some n) h =
            port-made table rows s kept view client port (with_its_body body n)
            ∙ ap (λ (f : List ℕ). with_client s client (with_change (get s.clients client) (put_port port (Some (record (port_seen n) { fed = f }))))) e
