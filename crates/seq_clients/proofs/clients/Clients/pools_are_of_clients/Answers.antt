use Rattle.std.proofs.Common.{◌∙◌, ap}
use Rattle.std.specs.Option.{option_map}
use Rattle.seq_clients.proofs.Seeing.{get-pool}
use Rattle.seq_clients.proofs.clients.Clients.pools_are_of_clients.Goals as goal

pub returns : goal.returns
returns c = λ n beyond.
    get-pool c.self.inside.nodes c.self.inside.rows _ c.self.invariant c.self.view_is n
    ∙ ap (option_map (λ r. r.pool)) (c.rows_are_of_clients.ensures n beyond)
