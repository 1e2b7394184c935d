use Rattle.std.proofs.Common.{ap, sym, subst, ◌∙◌}
use Rattle.std.specs.Prelude.{slice_get}
use Rattle.node_table.specs.Kept.{IsPlace}
use Rattle.seq_sending.proofs.Walked.{stands}
use Rattle.seq_sending.proofs.kept_counts.CountTable.get.Goals as goal

pub returns : goal.returns
returns c clients edges kept message is =
    let source = c.args.source.now in
    let at = c.place_of-place.ensures.place in
    let k = c.in_ok-kept.kept.now in
    let found = c.in_ok-kept.ensures.lookup in
    let its = c.is_of.ensures c.if-not-is_of.false in
    let i = c.from-at.result in
    kept i k (ap (λ xs. slice_get xs i) (sym c.deref-2.ensures.value) ∙ stands c.deref-2.result.now i k found.0 found.1)
    source at.0 (subst (IsPlace source at.0) (sym its.0) at.1) message (is ∙ sym its.1)
