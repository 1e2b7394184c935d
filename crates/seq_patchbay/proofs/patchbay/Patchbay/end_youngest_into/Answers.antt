use Rattle.std.proofs.Common.{ap, sym, subst, ◌∙◌}
use Rattle.node_table.specs.Addresses.{same}
use Rattle.patch_graph.specs.Edges.{edge, has_edge, without_edge}
use Rattle.patch_graph.proofs.Same.{same-refl}
use Rattle.patch_graph.proofs.Removed.{or_true}
use Rattle.seq_sending.specs.Table.{AreWaysKept}
use Rattle.seq_patchbay.specs.Network.{Network}
use Rattle.seq_patchbay.proofs.patchbay.Patchbay.end_youngest_into.Goals as goal

pub invariant_of-self : goal.invariant_of-self
invariant_of-self c = subst (λ es. AreWaysKept c.self.inside.clients.clients es c.self.inside.ways) (sym c.in_default.ensures.kept) c.self.invariant

pub invariant_of-self-2 : goal.invariant_of-self-2
invariant_of-self-2 c =
    let s = c.self.inside in
    c.part.ensures s.clients.clients s.graph c.in-Some.ensures.rest c.in-Some.ensures.place c.self.invariant

pub returns-clause-gone : goal.returns-clause-gone
returns-clause-gone c =
    let n = c.args.node.now in
    let s = c.in-Some.field-0.source in (
      edge s n,
      ap (λ (x : Network). has_edge x.graph s n) (sym c.self.view_is) ∙ c.in-Some.ensures.there,
      or_true (same n s) (same n n) (same-refl n),
      c.in-Some.ensures.rest ∙ ap (λ (x : Network). without_edge x.graph s n) c.self.view_is,
    )
