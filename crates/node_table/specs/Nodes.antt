-- Definition: The clients that are open, each with its name and its nodes.
use Rattle.std.specs.Prelude.{ℕ, Bool, ◌==◌, List, length, Option, Some, None, is_some, refl}
use Rattle.std.specs.Option.{option_map}
use Rattle.std.specs.Ordering.{nat_cmp}
use Rattle.std.specs.Coded.{Coded, code_by, coded×, coded_list, coded_ℕ}
use Rattle.std.specs.FinMap
use Rattle.std.specs.FinMap.{FinMap}
use Rattle.node_table.specs.Names.{is_name}
use Rattle.node_table.specs.declared.caps.Caps.{Caps}
use Rattle.node_table.specs.declared.number.Addr.{Addr}
use Rattle.node_table.specs.declared.number.Node.{Node}
use Rattle.node_table.specs.declared.number.Node.TheVariants.{Port, Filter}

-- a node, with a body of the caller's
pub record NodeSeen (P : Type 0) : Type 0 where
  pub name : List ℕ
  pub caps : Caps
  pub body : P

-- a node of these parts
abbrev pub node_seen : {P : Type 0} → List ℕ → Caps → P → NodeSeen P
node_seen name caps body = record { name = name; caps = caps; body = body }

-- a client's name, and its nodes by their numbers
pub record ClientNodes (P : Type 0) : Type 0 where
  pub name : List ℕ
  pub ports : FinMap nat_cmp (NodeSeen P)
  pub filters : FinMap nat_cmp (NodeSeen P)

abbrev pub coded_node_seen : {P : Type 0} → Coded P → Coded (NodeSeen P)
coded_node_seen {P} body = code_by (List ℕ × (ℕ × P))
    (coded× (coded_list coded_ℕ) (coded× coded_ℕ body)) (λ n. (n.name, (n.caps.0, n.body)))
    (λ p. record { name = p.0; caps = record { 0 = p.1.0 }; body = p.1.1 }) (λ _. refl)

abbrev pub coded_client_nodes : {P : Type 0} → Coded P → Coded (ClientNodes P)
coded_client_nodes {P} body =
    code_by (List ℕ × (FinMap nat_cmp (NodeSeen P) × FinMap nat_cmp (NodeSeen P)))
    (coded× (coded_list coded_ℕ)
    (coded× (FinMap.code coded_ℕ (coded_node_seen body))
    (FinMap.code coded_ℕ (coded_node_seen body))))
    (λ c. (c.name, (c.ports, c.filters)))
    (λ p. record { name = p.0; ports = p.1.0; filters = p.1.1 }) (λ _. refl)

-- a port has a name, and a filter has none
abbrev pub is_name_for : Node → List ℕ → Bool
is_name_for (Port n) name = is_name name
is_name_for (Filter n) name = length name == 0

module _ {P : Type 0} where
  -- a client as it is opened
  abbrev pub empty_client : List ℕ → ClientNodes P
  empty_client name = record { name = name; ports = FinMap.empty; filters = FinMap.empty }

  abbrev pub name_of : Option (ClientNodes P) → Option (List ℕ)
  name_of client = option_map (λ c. c.name) client

  -- the ports of a client that may be open
  abbrev pub ports_in : Option (ClientNodes P) → FinMap nat_cmp (NodeSeen P)
  ports_in None = FinMap.empty
  ports_in (Some c) = c.ports

  abbrev pub filters_in : Option (ClientNodes P) → FinMap nat_cmp (NodeSeen P)
  filters_in None = FinMap.empty
  filters_in (Some c) = c.filters

  -- a node of a client that may be open
  abbrev pub node_in : Option (ClientNodes P) → Node → Option (NodeSeen P)
  node_in client (Port n) = FinMap.get (ports_in client) n
  node_in client (Filter n) = FinMap.get (filters_in client) n

  abbrev pub put_node : Node → NodeSeen P → ClientNodes P → ClientNodes P
  put_node (Port n) x c = record c { ports = FinMap.insert c.ports n x }
  put_node (Filter n) x c = record c { filters = FinMap.insert c.filters n x }

  abbrev pub drop_node : Node → ClientNodes P → ClientNodes P
  drop_node (Port n) c = record c { ports = FinMap.remove c.ports n }
  drop_node (Filter n) c = record c { filters = FinMap.remove c.filters n }

  -- the clients after a change of one of them, where it is open
  abbrev pub put_client : FinMap nat_cmp (ClientNodes P) → ℕ → Option (ClientNodes P)
      → FinMap nat_cmp (ClientNodes P)
  put_client m client None = m
  put_client m client (Some c) = FinMap.insert m client c

  abbrev pub is_open : FinMap nat_cmp (ClientNodes P) → ℕ → Bool
  is_open m client = is_some (FinMap.get m client)

  -- the node at an address
  abbrev pub node_at : FinMap nat_cmp (ClientNodes P) → Addr → Option (NodeSeen P)
  node_at m addr = node_in (FinMap.get m addr.client) addr.node

  -- the clients with this node at the address, where its client is open
  abbrev pub with_node : FinMap nat_cmp (ClientNodes P) → Addr → NodeSeen P
      → FinMap nat_cmp (ClientNodes P)
  with_node m addr x =
      put_client m addr.client (option_map (put_node addr.node x) (FinMap.get m addr.client))

  -- the clients with no node at the address
  abbrev pub without_node : FinMap nat_cmp (ClientNodes P) → Addr → FinMap nat_cmp (ClientNodes P)
  without_node m addr =
      put_client m addr.client (option_map (drop_node addr.node) (FinMap.get m addr.client))

  -- a node with another body
  abbrev pub with_its_body : P → NodeSeen P → NodeSeen P
  with_its_body body n = record n { body = body }

  abbrev pub put_seen : FinMap nat_cmp (ClientNodes P) → Addr → Option (NodeSeen P)
      → FinMap nat_cmp (ClientNodes P)
  put_seen m addr None = m
  put_seen m addr (Some x) = with_node m addr x

  -- the clients with another body of the node at the address, where there is one
  abbrev pub with_body : FinMap nat_cmp (ClientNodes P) → Addr → P → FinMap nat_cmp (ClientNodes P)
  with_body m addr body = put_seen m addr (option_map (with_its_body body) (node_at m addr))

  -- the capabilities of a node, as a number
  abbrev pub bits_of : Option (NodeSeen P) → ℕ
  bits_of None = 0
  bits_of (Some n) = n.caps.0
