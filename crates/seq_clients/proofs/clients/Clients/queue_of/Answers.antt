use Rattle.std.proofs.Common.{◌∙◌, ap, refl, sym}
use Rattle.std.specs.Ordering.{nat_cmp}
use Rattle.std.specs.FinMap.{get, get-empty}
use Rattle.seq_state.specs.Effect.{queue_of}
use Rattle.seq_clients.proofs.Seeing.{by_row, no_row}
use Rattle.seq_clients.proofs.clients.Clients.queue_of.Goals as goal

pub returns-in-Some : goal.returns-in-Some
returns-in-Some c = c.get-in-Some.ensures ∙ by_row c.self.inside.nodes c.self.inside.rows _ c.self.invariant c.self.view_is (λ o. queue_of o c.args.queue) (λ r. get r.queues c.args.queue) (λ r n. refl) c.args.client _ c.in-Some.ensures

pub returns-in-None : goal.returns-in-None
returns-in-None c = sym (get-empty nat_cmp c.args.queue) ∙ ap (λ o. queue_of o c.args.queue) (no_row c.self.inside.nodes c.self.inside.rows _ c.self.invariant c.self.view_is c.args.client c.in-None.ensures)
