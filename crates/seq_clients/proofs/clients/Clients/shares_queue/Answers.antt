use Rattle.std.proofs.Common.{◌∙◌, ap, refl, sym, subst}
use Rattle.std.specs.Ordering.{nat_cmp}
use Rattle.std.specs.FinMap.{get, get-empty}
use Rattle.seq_state.specs.State.{queues_of}
use Rattle.seq_clients.specs.Roster.{NoneShared, SomeShared}
use Rattle.seq_clients.proofs.Seeing.{by_row, no_row}
use Rattle.seq_clients.proofs.clients.Clients.shares_queue.Goals as goal

pub returns-in-Some-clause-none : goal.returns-in-Some-clause-none
returns-in-Some-clause-none c = λ e.
    subst NoneShared (by_row c.self.inside.nodes c.self.inside.rows _ c.self.invariant c.self.view_is queues_of (λ r. r.queues) (λ r n. refl) c.args.client _ c.in-Some.ensures) (c.has_shared.ensures.none e)

pub returns-in-Some-clause-some : goal.returns-in-Some-clause-some
returns-in-Some-clause-some c = λ e.
    subst SomeShared (by_row c.self.inside.nodes c.self.inside.rows _ c.self.invariant c.self.view_is queues_of (λ r. r.queues) (λ r n. refl) c.args.client _ c.in-Some.ensures) (c.has_shared.ensures.some e)

pub returns-in-None-clause-none : goal.returns-in-None-clause-none
returns-in-None-clause-none c = λ e n q at.
    let absent = sym (get-empty nat_cmp n) ∙ ap (λ o. get (queues_of o) n) (no_row c.self.inside.nodes c.self.inside.rows _ c.self.invariant c.self.view_is c.args.client c.in-None.ensures) ∙ at in cc
