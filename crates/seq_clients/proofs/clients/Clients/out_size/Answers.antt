use Rattle.std.proofs.Common.{ap, refl}
use Rattle.seq_state.specs.Effect.{out_size}
use Rattle.seq_clients.proofs.Seeing.{by_row, no_row}
use Rattle.seq_clients.proofs.clients.Clients.out_size.Goals as goal

pub returns-in-Some : goal.returns-in-Some
returns-in-Some c = by_row c.self.inside.nodes c.self.inside.rows _ c.self.invariant c.self.view_is out_size (λ r. r.out_size) (λ r n. refl) c.args.client _ c.in-Some.ensures

pub returns-in-None : goal.returns-in-None
returns-in-None c = ap out_size (no_row c.self.inside.nodes c.self.inside.rows _ c.self.invariant c.self.view_is c.args.client c.in-None.ensures)
