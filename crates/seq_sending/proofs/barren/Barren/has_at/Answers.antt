use Rattle.std.proofs.Common.{ap, sym, ◌∙◌}
use Rattle.std.specs.Prelude.{slice_get}
use Rattle.seq_sending.proofs.Walked.{marked, stands}
use Rattle.seq_sending.proofs.barren.Barren.has_at.Goals as goal

pub returns-in-Some : goal.returns-in-Some
returns-in-Some g c clients edges moment pools are t =
    let is = c.is_of.ensures t in
    let found = c.in-Some.ensures.lookup in
    marked g.M.Carried.bytes clients edges moment pools c.in-Some.mark.now c.args.node.now c.args.hops (g.M.Carried.bytes c.args.message.now) is.0 is.1 is.2
    (are c.args.at c.in-Some.mark.now
    (ap (λ xs. slice_get xs c.args.at) (sym c.deref.ensures.value) ∙ stands c.deref.result.now c.args.at c.in-Some.mark.now found.0 found.1))
