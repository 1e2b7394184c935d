use Rattle.std.proofs.Common.{◌∙◌, ap, refl, sym, subst}
use Rattle.node_table.specs.declared.number.Node.TheVariants.{Filter}
use Rattle.seq_clients.specs.Kept.{roster, AreRowsKept}
use Rattle.seq_clients.specs.declared.body.NodeBody.TheVariants as bodies
use Rattle.seq_clients.specs.declared.clients.Clients.TheInside.{Inside}
use Rattle.seq_clients.proofs.Bodies.{written-kept, filter-ruled, filter-missed}
use Rattle.seq_clients.proofs.clients.Clients.set_filter.Goals.{in-Some+in-Stream-1, in-Some+in-Rule-1, in_default}
use Rattle.seq_clients.proofs.clients.Clients.set_filter.Goals as goal

pub invariant_of-self : goal.invariant_of-self
invariant_of-self c =
    let still : Inside → Type 0 = λ i. AreRowsKept i.nodes i.rows in
    let written = written-kept c.self.inside.nodes c.self.inside.rows _ c.self.invariant c.self.view_is c.args.client (Filter c.args.filter) _ (bodies.Rule c.args.rule) c.filter_addr.ensures refl in
    elim c.match-body_mut.branch [
      | in-Some+in-Stream-1 w ↦ subst still (sym w.self-inside-is) written
      | in-Some+in-Rule-1 w ↦ subst still (sym w.self-inside-is) written
      | in_default w ↦ absurd (filter-missed c.self.inside.nodes c.self.inside.rows _ c.self.invariant c.self.view_is c.args.client c.args.filter _ c.filter_addr.ensures c.requires w.in_default.ensures.value)
    ]

pub returns : goal.returns
returns c =
    let ruled = filter-ruled c.self.inside.nodes c.self.inside.rows _ c.self.invariant c.self.view_is c.args.client c.args.filter _ c.args.rule c.filter_addr.ensures c.requires in
    elim c.match-body_mut.branch [
      | in-Some+in-Stream-1 w ↦ ap (λ (i : Inside). roster i.nodes i.rows) w.self-inside-is ∙ ruled
      | in-Some+in-Rule-1 w ↦ ap (λ (i : Inside). roster i.nodes i.rows) w.self-inside-is ∙ ruled
      | in_default w ↦ absurd (filter-missed c.self.inside.nodes c.self.inside.rows _ c.self.invariant c.self.view_is c.args.client c.args.filter _ c.filter_addr.ensures c.requires w.in_default.ensures.value)
    ]
