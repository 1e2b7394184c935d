-- Representation: How the clients are kept: their nodes in a table, and their rows beside it.
use Rattle.std.specs.Prelude.{◌≡◌, ℕ, true, Some, is_some, unwrap_or}
use Rattle.std.specs.Ordering.{nat_cmp}
use Rattle.std.specs.FinMap
use Rattle.std.specs.FinMap.{FinMap}
use Rattle.node_table.specs.Nodes.{NodeSeen, ClientNodes, node_in}
use Rattle.node_table.specs.declared.number.Node.{Node}
use Rattle.seq_state.specs.State.{PortInfo, FilterInfo, Client}
use Rattle.seq_clients.specs.Bodies.{stream_of, rule_of_body, is_body_for}
use Rattle.seq_clients.specs.Mapped.{with_values}
use Rattle.seq_clients.specs.Roster.{Roster}
use Rattle.seq_clients.specs.Rows.{new_row}
use Rattle.seq_clients.specs.declared.body.NodeBody.{NodeBody}
use Rattle.seq_clients.specs.declared.row.ClientRow.{ClientRow}

-- the nodes of each client
abbrev pub Nodes : Type 0
Nodes = FinMap nat_cmp (ClientNodes NodeBody)

-- what each client has beside them
abbrev pub Rows : Type 0
Rows = FinMap nat_cmp ClientRow

abbrev pub port_seen : NodeSeen NodeBody → PortInfo
port_seen n = record { name = n.name; caps = n.caps; fed = stream_of n.body }

abbrev pub filter_seen : NodeSeen NodeBody → FilterInfo
filter_seen n = record { caps = n.caps; rule = rule_of_body n.body }

-- a client, of its row and its nodes
abbrev pub client_seen : ClientRow → ClientNodes NodeBody → Client
client_seen r c =
    record {
      name = c.name;
      in_size = r.in_size;
      out_size = r.out_size;
      ports = with_values (λ n x. port_seen x) c.ports;
      filters = with_values (λ n x. filter_seen x) c.filters;
      queues = r.queues;
    }

-- the row of a client
abbrev pub row_at : Rows → ℕ → ClientRow
row_at rows client = unwrap_or (FinMap.get rows client) (new_row 0 0)

-- the clients and their pools
abbrev pub roster : Nodes → Rows → Roster
roster nodes rows =
    record {
      clients = with_values (λ client c. client_seen (row_at rows client) c) nodes;
      pools = with_values (λ client r. r.pool) rows;
    }

-- Who has nodes has a row, and each node has what is for it.
pub record AreRowsKept (nodes : Nodes) (rows : Rows) : Type 0 where
  pub rowed : (client : ℕ) → is_some (FinMap.get rows client) ≡ is_some (FinMap.get nodes client)
  pub fitting : (client : ℕ) (node : Node) (n : NodeSeen NodeBody) →
      node_in (FinMap.get nodes client) node ≡ Some n → is_body_for node n.body ≡ true
