-- Representation: The code of a subscription, by which a model may have it in its value.
use Rattle.std.specs.Prelude.{refl}
use Rattle.std.specs.Coded.{Coded, code_by, coded×}
use Rattle.node_table.specs.Codes.{coded_addr}
use Rattle.node_table.specs.declared.number.Addr.{Addr}
use Rattle.patch_graph.specs.declared.edge.Edge.{Edge}

abbrev pub coded_edge : Coded Edge
coded_edge =
    code_by (Addr × Addr) (coded× coded_addr coded_addr)
    (λ e. (e.source, e.target)) (λ p. record { source = p.0; target = p.1 }) (λ _. refl)
