-- The clients that are seen, after a change of one of them.
use Rattle.std.proofs.Common.{◌≡◌, ◌≢◌, ◌∙◌, ℕ, true, false, List, Option, Some, None, refl, sym, ap, subst, inl, inr}
use Rattle.std.specs.Prelude.{is_some, unwrap_or}
use Rattle.std.specs.Option.{option_map}
use Rattle.std.specs.Ordering.{nat_cmp}
use Rattle.std.specs.FinMap
use Rattle.std.specs.FinMap.{FinMap, get, get-empty}
use Rattle.std.proofs.lemmas.Bool.{cases_eq}
use Rattle.cell_pools.specs.Pools.{empty_pool, after_take}
use Rattle.node_table.specs.Nodes as nodes
use Rattle.node_table.specs.Nodes.{NodeSeen, ClientNodes, node_in, node_at, put_client, put_node, drop_node, with_node, without_node}
use Rattle.node_table.specs.declared.number.Addr.{Addr}
use Rattle.node_table.specs.declared.number.Node.{Node}
use Rattle.node_table.specs.declared.number.Node.TheVariants.{Port, Filter}
use Rattle.node_table.proofs.Numbered.{get-insert_same, get-insert_other, get-remove_same, get-remove_other, remove_absent}
use Rattle.seq_state.specs.State.{Client, ClientPool, PortInfo, FilterInfo, with_entry}
use Rattle.seq_state.specs.Effect.{has_port, has_filter, queue_of, with_change, put_port, put_filter, new_client, without_oldest}
use Rattle.seq_state.specs.Step.{port_addr, filter_addr}
use Rattle.seq_clients.specs.Bodies.{is_body_for}
use Rattle.seq_clients.specs.Kept.{Nodes, Rows, port_seen, filter_seen, client_seen, row_at, roster, AreRowsKept}
use Rattle.seq_clients.specs.Roster.{Roster, with_client, with_pool}
use Rattle.seq_clients.specs.Rows.{new_row, with_pool_changed}
use Rattle.seq_clients.specs.declared.body.NodeBody.{NodeBody}
use Rattle.seq_clients.specs.declared.body.NodeBody.TheVariants.{Stream, Rule}
use Rattle.seq_clients.specs.declared.row.ClientRow.{ClientRow}
use Rattle.seq_clients.specs.Mapped.{with_values}
use Rattle.seq_clients.proofs.Mapped.{by_key, get-mapped, mapped-empty, mapped-insert, mapped-remove}
use Rattle.seq_clients.proofs.Seeing.{get-client, get-pool, none_in, by_row, no_row, open-client, port-there, filter-there}

-- ---- maps

module _ {X : Type 0} where
  pub is_put : (m n : FinMap nat_cmp X) (k : ℕ) (o : Option X) → get n k ≡ o → ((q : ℕ) → q ≢ k → get n q ≡ get m q) → n ≡ with_entry m k o
  is_put m n k None e h = by_key n (FinMap.remove m k) k (e ∙ sym (get-remove_same m k)) (λ q ne. h q ne ∙ sym (get-remove_other m k q ne))
  is_put m n k (Some x) e h = by_key n (FinMap.insert m k x) k (e ∙ sym (get-insert_same m k x)) (λ q ne. h q ne ∙ sym (get-insert_other m k x q ne))

  pub get-put_same : (m : FinMap nat_cmp X) (k : ℕ) (o : Option X) → get (with_entry m k o) k ≡ o
  get-put_same m k None = get-remove_same m k
  get-put_same m k (Some x) = get-insert_same m k x

  pub get-put_other : (m : FinMap nat_cmp X) (k : ℕ) (o : Option X) (q : ℕ) → q ≢ k → get (with_entry m k o) q ≡ get m q
  get-put_other m k None q ne = get-remove_other m k q ne
  get-put_other m k (Some x) q ne = get-insert_other m k x q ne

  -- what is put where it stands
  pub put_again : (m : FinMap nat_cmp X) (k : ℕ) (o : Option X) → get m k ≡ o → m ≡ with_entry m k o
  put_again m k o e = is_put m m k o e (λ q ne. refl)

  -- what is put later stays
  pub put_later : (m : FinMap nat_cmp X) (k : ℕ) (o p : Option X) → with_entry (with_entry m k o) k p ≡ with_entry m k p
  put_later m k o p = is_put m (with_entry (with_entry m k o) k p) k p (get-put_same (with_entry m k o) k p) (λ q ne. get-put_other (with_entry m k o) k p q ne ∙ get-put_other m k o q ne)

-- the same apart from a key
abbrev pub SameApart : {X : Type 0} → ℕ → FinMap nat_cmp X → FinMap nat_cmp X → Type 0
SameApart k m n = (q : ℕ) → q ≢ k → get n q ≡ get m q

-- ---- what fits

-- each node of a client has what is for it
abbrev pub Fits : Option (ClientNodes NodeBody) → Type 0
Fits o = (nd : Node) (n : NodeSeen NodeBody) → node_in o nd ≡ Some n → is_body_for nd n.body ≡ true

pub fits-none : Fits None
fits-none nd n e = let none : None ≡ Some n = sym (none_in nd) ∙ e in cc

pub fits-opened : (name : List ℕ) → Fits (Some (nodes.empty_client name))
fits-opened name nd n e = let none : None ≡ Some n = sym (at nd) ∙ e in cc
  where
    at : (nd : Node) → node_in (Some (nodes.empty_client {P = NodeBody} name)) nd ≡ None
    at (Port i) = get-empty nat_cmp i
    at (Filter i) = get-empty nat_cmp i

fits-one : (m : FinMap nat_cmp (NodeSeen NodeBody)) (i j : ℕ) (x n : NodeSeen NodeBody) (P : NodeBody → Type 0) → P x.body → (get m j ≡ Some n → P n.body) → get (FinMap.insert m i x) j ≡ Some n → P n.body
fits-one m i j x n P fit was e = elim (cases_eq j i) [
  | inl same ↦
      let is : Some x ≡ Some n = sym (get-insert_same m i x) ∙ ap (get (FinMap.insert m i x)) (sym same) ∙ e in
      let one : x ≡ n = cc in subst (λ (y : NodeSeen NodeBody). P y.body) one fit
  | inr ne ↦ was (sym (get-insert_other m i x j ne) ∙ e)
]

pub fits-put : (nd : Node) (x : NodeSeen NodeBody) → is_body_for nd x.body ≡ true → (c : ClientNodes NodeBody) → Fits (Some c) → Fits (Some (put_node nd x c))
fits-put (Port i) x fit c was (Port j) n e = fits-one c.ports i j x n (λ b. is_body_for (Port j) b ≡ true) (alike x.body fit) (was (Port j) n) e
  where
    alike : (b : NodeBody) → is_body_for (Port i) b ≡ true → is_body_for (Port j) b ≡ true
    alike (Stream fed) h = h
    alike (Rule rule) h = h
fits-put (Port i) x fit c was (Filter j) n e = was (Filter j) n e
fits-put (Filter i) x fit c was (Port j) n e = was (Port j) n e
fits-put (Filter i) x fit c was (Filter j) n e = fits-one c.filters i j x n (λ b. is_body_for (Filter j) b ≡ true) (alike x.body fit) (was (Filter j) n) e
  where
    alike : (b : NodeBody) → is_body_for (Filter i) b ≡ true → is_body_for (Filter j) b ≡ true
    alike (Stream fed) h = h
    alike (Rule rule) h = h

fits-less : (m : FinMap nat_cmp (NodeSeen NodeBody)) (i j : ℕ) (n : NodeSeen NodeBody) → get (FinMap.remove m i) j ≡ Some n → get m j ≡ Some n
fits-less m i j n e = elim (cases_eq j i) [
  | inl same ↦
      let none : None ≡ Some n = sym (get-remove_same m i) ∙ ap (get (FinMap.remove m i)) (sym same) ∙ e in cc
  | inr ne ↦ sym (get-remove_other m i j ne) ∙ e
]

pub fits-drop : (nd : Node) (c : ClientNodes NodeBody) → Fits (Some c) → Fits (Some (drop_node nd c))
fits-drop (Port i) c was (Port j) n e = was (Port j) n (fits-less c.ports i j n e)
fits-drop (Port i) c was (Filter j) n e = was (Filter j) n e
fits-drop (Filter i) c was (Port j) n e = was (Port j) n e
fits-drop (Filter i) c was (Filter j) n e = was (Filter j) n (fits-less c.filters i j n e)

pub fits-map : (f : ClientNodes NodeBody → ClientNodes NodeBody) → ((c : ClientNodes NodeBody) → Fits (Some c) → Fits (Some (f c))) → (o : Option (ClientNodes NodeBody)) → Fits o → Fits (option_map f o)
fits-map f h None was = was
fits-map f h (Some c) was = h c was

-- what is left of a pool that may be there
pub left-oldest : (max : ℕ) (o : Option ClientPool) → option_map (after_take max) o ≡ without_oldest max o
left-oldest max None = refl
left-oldest max (Some p) = refl

is_some-of : {X Y : Type 0} (f : X → Y) (o : Option X) → is_some (option_map f o) ≡ is_some o
is_some-of f None = refl
is_some-of f (Some x) = refl

module _ (table : Nodes) (rows : Rows) (s : Roster) (kept : AreRowsKept table rows) (view : roster table rows ≡ s) where
  -- ---- one client changes

  abbrev pub seen_in : Nodes → Rows → ℕ → Option Client
  seen_in ns rs client = option_map (client_seen (row_at rs client)) (get ns client)

  clients-put : (ns : Nodes) (rs : Rows) (client : ℕ) (o : Option Client) → SameApart client table ns → SameApart client rows rs → seen_in ns rs client ≡ o → (roster ns rs).clients ≡ with_entry s.clients client o
  clients-put ns rs client o others row_others e =
      is_put s.clients (roster ns rs).clients client o (get-mapped (λ k c. client_seen (row_at rs k) c) ns client ∙ e)
      (λ q ne. get-mapped (λ k c. client_seen (row_at rs k) c) ns q
      ∙ ap (λ (r : Option ClientRow). option_map (client_seen (unwrap_or r (new_row 0 0))) (get ns q)) (row_others q ne)
      ∙ ap (option_map (client_seen (row_at rows q))) (others q ne) ∙ sym (get-client table rows s kept view q))

  pools-put : (rs : Rows) (client : ℕ) (o : Option ClientPool) → SameApart client rows rs → option_map (λ r. r.pool) (get rs client) ≡ o → with_values (λ k r. r.pool) rs ≡ with_entry s.pools client o
  pools-put rs client o row_others e =
      is_put s.pools (with_values (λ k r. r.pool) rs) client o (get-mapped (λ k r. r.pool) rs client ∙ e)
      (λ q ne. get-mapped (λ k r. r.pool) rs q ∙ ap (option_map (λ r. r.pool)) (row_others q ne) ∙ sym (get-pool table rows s kept view q))

  pub both-put : (ns : Nodes) (rs : Rows) (client : ℕ) (o : Option Client) (p : Option ClientPool) → SameApart client table ns → SameApart client rows rs → seen_in ns rs client ≡ o → option_map (λ r. r.pool) (get rs client) ≡ p →
      roster ns rs ≡ with_pool (with_client s client o) client p
  both-put ns rs client o p others row_others e h =
      ap (λ (m : FinMap nat_cmp Client). record { clients = m; pools = with_values (λ k r. r.pool) rs }) (clients-put ns rs client o others row_others e)
      ∙ ap (λ (m : FinMap nat_cmp ClientPool). record { clients = with_entry s.clients client o; pools = m }) (pools-put rs client p row_others h)

  pub client-put : (ns : Nodes) (client : ℕ) (o : Option Client) → SameApart client table ns → seen_in ns rows client ≡ o → roster ns rows ≡ with_client s client o
  client-put ns client o others e =
      ap (λ (m : FinMap nat_cmp Client). record { clients = m; pools = with_values (λ k r. r.pool) rows }) (clients-put ns rows client o others (λ q ne. refl) e)
      ∙ ap (λ (r : Roster). record { clients = with_entry s.clients client o; pools = r.pools }) view

  pub pool-put : (rs : Rows) (client : ℕ) (p : Option ClientPool) → SameApart client rows rs → seen_in table rs client ≡ get s.clients client → option_map (λ r. r.pool) (get rs client) ≡ p → roster table rs ≡ with_pool s client p
  pool-put rs client p row_others e h =
      both-put table rs client (get s.clients client) p (λ q ne. refl) row_others e h
      ∙ ap (λ (m : FinMap nat_cmp Client). record { clients = m; pools = with_entry s.pools client p }) (sym (put_again s.clients client (get s.clients client) refl))

  -- who has nodes has a row still, and each node has what is for it
  pub kept-both : (ns : Nodes) (rs : Rows) (client : ℕ) → SameApart client table ns → SameApart client rows rs → is_some (get rs client) ≡ is_some (get ns client) → Fits (get ns client) → AreRowsKept ns rs
  kept-both ns rs client others row_others there fit =
      record {
        rowed = at;
        fitting = λ q. fits q;
      }
    where
      at : (q : ℕ) → is_some (get rs q) ≡ is_some (get ns q)
      at q = elim (cases_eq q client) [
        | inl same ↦ ap (λ (k : ℕ). is_some (get rs k)) same ∙ there ∙ ap (λ (k : ℕ). is_some (get ns k)) (sym same)
        | inr ne ↦ ap is_some (row_others q ne) ∙ kept.rowed q ∙ ap is_some (sym (others q ne))
      ]

      fits : (q : ℕ) → Fits (get ns q)
      fits q = elim (cases_eq q client) [
        | inl same ↦ subst (λ (k : ℕ). Fits (get ns k)) (sym same) fit
        | inr ne ↦ subst (λ (o : Option (ClientNodes NodeBody)). Fits o) (sym (others q ne)) (λ nd n e. kept.fitting q nd n e)
      ]

  -- ---- nodes

  abbrev pub with_nodes : ℕ → (ClientNodes NodeBody → ClientNodes NodeBody) → Nodes
  with_nodes client f = put_client table client (option_map f (get table client))

  with-same : (client : ℕ) (f : ClientNodes NodeBody → ClientNodes NodeBody) → get (with_nodes client f) client ≡ option_map f (get table client)
  with-same client f = go (get table client) refl
    where
      go : (o : Option (ClientNodes NodeBody)) → get table client ≡ o → get (put_client table client (option_map f o)) client ≡ option_map f o
      go None e = e
      go (Some c) e = get-insert_same table client (f c)

  with-others : (client : ℕ) (f : ClientNodes NodeBody → ClientNodes NodeBody) → SameApart client table (with_nodes client f)
  with-others client f q ne = go (get table client)
    where
      go : (o : Option (ClientNodes NodeBody)) → get (put_client table client (option_map f o)) q ≡ get table q
      go None = refl
      go (Some c) = get-insert_other table client (f c) q ne

  -- a change of a client's nodes that is seen as one of the client
  nodes-seen : (client : ℕ) (f : ClientNodes NodeBody → ClientNodes NodeBody) (g : Client → Client) → ((r : ClientRow) (c : ClientNodes NodeBody) → client_seen r (f c) ≡ g (client_seen r c)) →
      roster (with_nodes client f) rows ≡ with_client s client (with_change (get s.clients client) g)
  nodes-seen client f g alike =
      client-put (with_nodes client f) client (with_change (get s.clients client) g) (with-others client f)
      (ap (option_map (client_seen (row_at rows client))) (with-same client f) ∙ go (get table client) ∙ ap (λ (o : Option Client). with_change o g) (sym (get-client table rows s kept view client)))
    where
      go : (o : Option (ClientNodes NodeBody)) → option_map (client_seen (row_at rows client)) (option_map f o) ≡ with_change (option_map (client_seen (row_at rows client)) o) g
      go None = refl
      go (Some c) = ap Some (alike (row_at rows client) c)

  nodes-kept : (client : ℕ) (f : ClientNodes NodeBody → ClientNodes NodeBody) → ((c : ClientNodes NodeBody) → Fits (Some c) → Fits (Some (f c))) → AreRowsKept (with_nodes client f) rows
  nodes-kept client f fit =
      kept-both (with_nodes client f) rows client (with-others client f) (λ q ne. refl)
      (kept.rowed client ∙ sym (ap is_some (with-same client f) ∙ is_some-of f (get table client)))
      (subst (λ (o : Option (ClientNodes NodeBody)). Fits o) (sym (with-same client f)) (fits-map f fit (get table client) (λ nd n e. kept.fitting client nd n e)))

  abbrev port_put : (r : ClientRow) (c : ClientNodes NodeBody) (port : ℕ) (x : NodeSeen NodeBody) → client_seen r (put_node (Port port) x c) ≡ put_port port (Some (port_seen x)) (client_seen r c)
  port_put r c port x = ap (λ (ps : FinMap nat_cmp PortInfo). record (client_seen r c) { ports = ps }) (mapped-insert (λ n y. port_seen y) (λ n y. port_seen y) c.ports port x (λ q ne. refl))

  pub port-made : (client port : ℕ) (x : NodeSeen NodeBody) → roster (with_node table (port_addr client port) x) rows ≡ with_client s client (with_change (get s.clients client) (put_port port (Some (port_seen x))))
  port-made client port x = nodes-seen client (put_node (Port port) x) (put_port port (Some (port_seen x))) (λ r c. port_put r c port x)

  pub port-dropped : (client port : ℕ) → roster (without_node table (port_addr client port)) rows ≡ with_client s client (with_change (get s.clients client) (put_port port None))
  port-dropped client port =
      nodes-seen client (drop_node (Port port)) (put_port port None)
      (λ r c. ap (λ (ps : FinMap nat_cmp PortInfo). record (client_seen r c) { ports = ps }) (mapped-remove (λ n y. port_seen y) c.ports port))

  pub filter-made : (client filter : ℕ) (x : NodeSeen NodeBody) → roster (with_node table (filter_addr client filter) x) rows ≡ with_client s client (with_change (get s.clients client) (put_filter filter (Some (filter_seen x))))
  filter-made client filter x =
      nodes-seen client (put_node (Filter filter) x) (put_filter filter (Some (filter_seen x)))
      (λ r c. ap (λ (fs : FinMap nat_cmp FilterInfo). record (client_seen r c) { filters = fs }) (mapped-insert (λ n y. filter_seen y) (λ n y. filter_seen y) c.filters filter x (λ q ne. refl)))

  pub filter-dropped : (client filter : ℕ) → roster (without_node table (filter_addr client filter)) rows ≡ with_client s client (with_change (get s.clients client) (put_filter filter None))
  filter-dropped client filter =
      nodes-seen client (drop_node (Filter filter)) (put_filter filter None)
      (λ r c. ap (λ (fs : FinMap nat_cmp FilterInfo). record (client_seen r c) { filters = fs }) (mapped-remove (λ n y. filter_seen y) c.filters filter))

  pub made-kept : (client : ℕ) (nd : Node) (x : NodeSeen NodeBody) → is_body_for nd x.body ≡ true → AreRowsKept (with_node table (record { client = client; node = nd }) x) rows
  made-kept client nd x fit = nodes-kept client (put_node nd x) (fits-put nd x fit)

  pub dropped-kept : (client : ℕ) (nd : Node) → AreRowsKept (without_node table (record { client = client; node = nd })) rows
  dropped-kept client nd = nodes-kept client (drop_node nd) (fits-drop nd)

  -- ---- what a call asks for

  pub is-open : (client : ℕ) → is_some (get s.clients client) ≡ true → nodes.is_open table client ≡ true
  is-open client h = open-client table rows s kept view client ∙ h

  pub is-closed : (client : ℕ) → get s.clients client ≡ None → nodes.is_open table client ≡ false
  is-closed client h = open-client table rows s kept view client ∙ ap is_some h

  none_by : {X : Type 0} (o : Option X) → is_some o ≡ false → o ≡ None
  none_by None h = refl
  none_by (Some x) h = cc

  pub port-free : (client port : ℕ) (addr : Addr) → addr ≡ port_addr client port → has_port (get s.clients client) port ≡ false → node_at table addr ≡ None
  port-free client port addr at h = ap (λ (x : Addr). node_at table x) at ∙ none_by _ (port-there table rows s kept view client port ∙ h)

  pub filter-free : (client filter : ℕ) (addr : Addr) → addr ≡ filter_addr client filter → has_filter (get s.clients client) filter ≡ false → node_at table addr ≡ None
  filter-free client filter addr at h = ap (λ (x : Addr). node_at table x) at ∙ none_by _ (filter-there table rows s kept view client filter ∙ h)

  -- ---- clients

  module _ (client : ℕ) (name : List ℕ) (in_size out_size : ℕ) where
    opened_nodes : Nodes
    opened_nodes = FinMap.insert table client (nodes.empty_client name)

    opened_rows : Rows
    opened_rows = FinMap.insert rows client (new_row in_size out_size)

    opened-seen : client_seen (new_row in_size out_size) (nodes.empty_client name) ≡ new_client name in_size out_size
    opened-seen =
        ap (λ (ps : FinMap nat_cmp PortInfo). record { name = name; in_size = in_size; out_size = out_size; ports = ps; filters = with_values (λ n y. filter_seen y) FinMap.empty; queues = FinMap.empty }) (mapped-empty (λ n y. port_seen y))
        ∙ ap (λ (fs : FinMap nat_cmp FilterInfo). record { name = name; in_size = in_size; out_size = out_size; ports = FinMap.empty; filters = fs; queues = FinMap.empty }) (mapped-empty (λ n y. filter_seen y))

    opened-roster : roster opened_nodes opened_rows ≡ with_pool (with_client s client (Some (new_client name in_size out_size))) client (Some (empty_pool in_size))
    unfolding opened_nodes opened_rows
    opened-roster =
        both-put opened_nodes opened_rows client (Some (new_client name in_size out_size)) (Some (empty_pool in_size))
        (λ q ne. get-insert_other table client (nodes.empty_client name) q ne) (λ q ne. get-insert_other rows client (new_row in_size out_size) q ne)
        (ap (λ (r : Option ClientRow). option_map (client_seen (unwrap_or r (new_row 0 0))) (get opened_nodes client)) (get-insert_same rows client (new_row in_size out_size))
        ∙ ap (option_map (client_seen (new_row in_size out_size))) (get-insert_same table client (nodes.empty_client name)) ∙ ap Some opened-seen)
        (ap (option_map (λ r. r.pool)) (get-insert_same rows client (new_row in_size out_size)))

    opened-kept : AreRowsKept opened_nodes opened_rows
    unfolding opened_nodes opened_rows
    opened-kept =
        kept-both opened_nodes opened_rows client (λ q ne. get-insert_other table client (nodes.empty_client name) q ne) (λ q ne. get-insert_other rows client (new_row in_size out_size) q ne)
        (ap is_some (get-insert_same rows client (new_row in_size out_size)) ∙ sym (ap is_some (get-insert_same table client (nodes.empty_client name))))
        (subst (λ (o : Option (ClientNodes NodeBody)). Fits o) (sym (get-insert_same table client (nodes.empty_client name))) (fits-opened name))

    module _ (ns : Nodes) (rs : Rows) (r : ClientRow) (e : ns ≡ FinMap.insert table client (nodes.empty_client name)) (h : rs ≡ FinMap.insert rows client r) (is : r ≡ new_row in_size out_size) where
      with_new : rs ≡ FinMap.insert rows client (new_row in_size out_size)
      with_new = h ∙ ap (FinMap.insert rows client) is

      pub client-opened : roster ns rs ≡ with_pool (with_client s client (Some (new_client name in_size out_size))) client (Some (empty_pool in_size))
      unfolding opened_nodes opened_rows
      client-opened = ap (λ (n : Nodes). roster n rs) e ∙ ap (λ (q : Rows). roster opened_nodes q) with_new ∙ opened-roster

      pub opened-still : AreRowsKept ns rs
      unfolding opened_nodes opened_rows
      opened-still = subst (λ (n : Nodes). AreRowsKept n rs) (sym e) (subst (λ (q : Rows). AreRowsKept opened_nodes q) (sym with_new) opened-kept)

  module _ (client : ℕ) (ns : Nodes) (rs : Rows) (e : ns ≡ FinMap.remove table client) (h : rs ≡ FinMap.remove rows client) where
    nodes_apart : SameApart client table ns
    nodes_apart q ne = ap (λ (n : Nodes). get n q) e ∙ get-remove_other table client q ne

    rows_apart : SameApart client rows rs
    rows_apart q ne = ap (λ (n : Rows). get n q) h ∙ get-remove_other rows client q ne

    nodes_gone : get ns client ≡ None
    nodes_gone = ap (λ (n : Nodes). get n client) e ∙ get-remove_same table client

    row_gone : get rs client ≡ None
    row_gone = ap (λ (n : Rows). get n client) h ∙ get-remove_same rows client

    pub client-closed : roster ns rs ≡ with_pool (with_client s client None) client None
    client-closed = both-put ns rs client None None nodes_apart rows_apart (ap (option_map (client_seen (row_at rs client))) nodes_gone) (ap (option_map (λ r. r.pool)) row_gone)

    pub closed-still : AreRowsKept ns rs
    closed-still = kept-both ns rs client nodes_apart rows_apart (ap is_some row_gone ∙ sym (ap is_some nodes_gone)) (subst (λ (o : Option (ClientNodes NodeBody)). Fits o) (sym nodes_gone) fits-none)

  -- ---- a row is taken, changed and put back

  module _ (client : ℕ) (r with : ClientRow) (less rs : Rows) (was : Some r ≡ get rows client) (taken : less ≡ FinMap.remove rows client) (back : rs ≡ FinMap.insert less client with) where
    back_here : get rs client ≡ Some with
    back_here = ap (λ (n : Rows). get n client) back ∙ get-insert_same less client with

    back_apart : SameApart client rows rs
    back_apart q ne = ap (λ (n : Rows). get n q) back ∙ get-insert_other less client with q ne ∙ ap (λ (n : Rows). get n q) taken ∙ get-remove_other rows client q ne

    pub back-kept : AreRowsKept table rs
    back-kept = kept-both table rs client (λ q ne. refl) back_apart (ap is_some (back_here) ∙ ap is_some was ∙ kept.rowed client) (λ nd n e. kept.fitting client nd n e)

    seen-with : (g : Client → Client) → ((c : ClientNodes NodeBody) → client_seen with c ≡ g (client_seen r c)) → seen_in table rs client ≡ with_change (get s.clients client) g
    seen-with g alike =
        ap (λ (o : Option ClientRow). option_map (client_seen (unwrap_or o (new_row 0 0))) (get table client)) back_here ∙ go (get table client)
        ∙ ap (λ (o : Option ClientRow). with_change (option_map (client_seen (unwrap_or o (new_row 0 0))) (get table client)) g) was
        ∙ ap (λ (o : Option Client). with_change o g) (sym (get-client table rows s kept view client))
      where
        go : (o : Option (ClientNodes NodeBody)) → option_map (client_seen with) o ≡ with_change (option_map (client_seen r) o) g
        go None = refl
        go (Some c) = ap Some (alike c)

    -- the client is seen with the change, and its pool as it was
    pub row-seen : (g : Client → Client) → ((c : ClientNodes NodeBody) → client_seen with c ≡ g (client_seen r c)) → with.pool ≡ r.pool → roster table rs ≡ with_client s client (with_change (get s.clients client) g)
    row-seen g alike same =
        both-put table rs client (with_change (get s.clients client) g) (get s.pools client) (λ q ne. refl) back_apart (seen-with g alike)
        (ap (option_map (λ q. q.pool)) back_here ∙ ap Some same ∙ ap (option_map (λ q. q.pool)) was ∙ sym (get-pool table rows s kept view client))
        ∙ ap (λ (m : FinMap nat_cmp ClientPool). record { clients = with_entry s.clients client (with_change (get s.clients client) g); pools = m }) (sym (put_again s.pools client (get s.pools client) refl))

    -- the client is seen as it was, with another pool
    pub pool-seen : (f : ClientPool → ClientPool) → ((c : ClientNodes NodeBody) → client_seen with c ≡ client_seen r c) → with.pool ≡ f r.pool → roster table rs ≡ with_pool s client (option_map f (get s.pools client))
    pool-seen f alike is =
        pool-put rs client (option_map f (get s.pools client)) back_apart (seen-with (λ c. c) alike ∙ same (get s.clients client))
        (ap (option_map (λ q. q.pool)) back_here ∙ ap Some is ∙ ap (λ (o : Option ClientRow). option_map f (option_map (λ q. q.pool) o)) was ∙ ap (option_map f) (sym (get-pool table rows s kept view client)))
      where
        same : (o : Option Client) → with_change o (λ c. c) ≡ o
        same None = refl
        same (Some c) = refl

    -- nothing changed after all
    pub pool-same : ((c : ClientNodes NodeBody) → client_seen with c ≡ client_seen r c) → with.pool ≡ r.pool → roster table rs ≡ s
    pool-same alike is =
        pool-seen (λ p. p) alike is
        ∙ ap (λ (m : FinMap nat_cmp ClientPool). record s { pools = m }) (sym (put_again s.pools client (option_map (λ p. p) (get s.pools client)) (same (get s.pools client))))
      where
        same : (o : Option ClientPool) → o ≡ option_map (λ p. p) o
        same None = refl
        same (Some p) = refl

    -- what is told of its queues and its pool
    pub queue-told : (n : ℕ) → get r.queues n ≡ queue_of (get s.clients client) n
    queue-told n = by_row table rows s kept view (λ o. queue_of o n) (λ q. get q.queues n) (λ q c. refl) client r was

    pub pool-told : Some r.pool ≡ get s.pools client
    pool-told = ap (option_map (λ q. q.pool)) was ∙ sym (get-pool table rows s kept view client)

  -- there is no row to be taken
  module _ (client : ℕ) (rs : Rows) (none : None ≡ get rows client) (less : rs ≡ FinMap.remove rows client) where
    as_were : rs ≡ rows
    as_were = less ∙ remove_absent rows client (sym none)

    pub absent-kept : AreRowsKept table rs
    absent-kept = subst (λ (n : Rows). AreRowsKept table n) (sym as_were) kept

    pub absent-pool : None ≡ get s.pools client
    absent-pool = ap (option_map (λ q. q.pool)) none ∙ sym (get-pool table rows s kept view client)

    pub absent-queue : (n : ℕ) → None ≡ queue_of (get s.clients client) n
    absent-queue n = sym (get-empty nat_cmp n) ∙ ap (λ (o : Option Client). queue_of o n) (no_row table rows s kept view client none)

    -- and so nothing changes
    pub absent-seen : (g : Client → Client) → roster table rs ≡ with_client s client (with_change (get s.clients client) g)
    absent-seen g =
        let closed : None ≡ get s.clients client = no_row table rows s kept view client none in
        ap (roster table) as_were ∙ view ∙ ap (λ (m : FinMap nat_cmp Client). record s { clients = m }) (put_again s.clients client None (sym closed))
        ∙ ap (λ (o : Option Client). with_client s client (with_change o g)) closed

    pub absent-left : (f : Option ClientPool → Option ClientPool) → f None ≡ None → roster table rs ≡ with_pool s client (f (get s.pools client))
    absent-left f e =
        ap (roster table) as_were ∙ view ∙ ap (λ (m : FinMap nat_cmp ClientPool). record s { pools = m }) (put_again s.pools client None (sym absent-pool))
        ∙ ap (with_pool s client) (sym e ∙ ap f absent-pool)

  -- the pool of a row changes, if it is there
  module _ (client : ℕ) (f : ClientPool → ClientPool) (rs : Rows) (after : rs ≡ with_entry rows client (option_map (with_pool_changed f) (get rows client))) where
    with_row : (o : Option ClientRow) → o ≡ get rows client → rs ≡ with_entry rows client (option_map (with_pool_changed f) o)
    with_row o e = after ∙ ap (λ (x : Option ClientRow). with_entry rows client (option_map (with_pool_changed f) x)) (sym e)

    put-back : (r : ClientRow) → Some r ≡ get rows client → rs ≡ FinMap.insert (FinMap.remove rows client) client (with_pool_changed f r)
    put-back r e = with_row (Some r) e ∙ sym (put_later rows client None (Some (with_pool_changed f r)))

    pub pool-changed-kept : AreRowsKept table rs
    pool-changed-kept = go (get rows client) refl
      where
        go : (o : Option ClientRow) → o ≡ get rows client → AreRowsKept table rs
        go None e = absent-kept client rs e (with_row None e)
        go (Some r) e = back-kept client r (with_pool_changed f r) (FinMap.remove rows client) rs e refl (put-back r e)

    pub pool-changed-seen : roster table rs ≡ with_pool s client (option_map f (get s.pools client))
    pool-changed-seen = go (get rows client) refl
      where
        go : (o : Option ClientRow) → o ≡ get rows client → roster table rs ≡ with_pool s client (option_map f (get s.pools client))
        go None e = absent-left client rs e (with_row None e) (option_map f) refl
        go (Some r) e = pool-seen client r (with_pool_changed f r) (FinMap.remove rows client) rs e refl (put-back r e) f (λ c. refl) refl
