-- Representation: The open clients and the subscriptions between their nodes.
use Rattle.std.specs.Prelude.{List, refl}
use Rattle.std.specs.Coded.{Coded, code_by, coded×, coded_list}
use Rattle.patch_graph.specs.Codes.{coded_edge}
use Rattle.patch_graph.specs.declared.edge.Edge.{Edge}
use Rattle.seq_clients.specs.Roster.{Roster, coded_roster}

pub record Network : Type 0 where
  pub clients : Roster
  pub graph : List Edge

abbrev pub coded_network : Coded Network
coded_network =
    code_by (Roster × List Edge) (coded× coded_roster (coded_list coded_edge))
    (λ n. (n.clients, n.graph)) (λ p. record { clients = p.0; graph = p.1 }) (λ _. refl)
