use Rattle.std.proofs.Common.{◌∙◌, ap, sym}
use Rattle.std.specs.FinMap as map
use Rattle.std.specs.FinMap.{get}
use Rattle.test_tables.proofs.Single.{single, absent_yet, free_yet, there, free_single, single_again}
use Rattle.test_tables.proofs.tests.agendas.stale_entries.Goals as goal

pub insert-requires-clause-absent : goal.insert-requires-clause-absent
insert-requires-clause-absent g c = ap (λ m. get m c.new-cell.result) c.new-agenda.ensures.empty ∙ absent_yet c.new-cell.result

pub insert-requires-clause-free : goal.insert-requires-clause-free
insert-requires-clause-free g c = λ q h. free_yet c.new-cell.result c.at.result q (ap (λ m. get m q) (sym c.new-agenda.ensures.empty) ∙ h)

pub loop-turn-init : goal.loop-turn-init
loop-turn-init g c = c.in_ok-insert.ensures.ok ∙ ap (λ m. map.insert m c.new-cell.result c.at.result) c.new-agenda.ensures.empty ∙ ap (single c.new-cell.result) c.at.ensures

pub rekey-requires-clause-present : goal.rekey-requires-clause-present
rekey-requires-clause-present g c = there c.loop-turn.agenda.keys c.new-cell.result _ c.loop-turn.invariant

pub rekey-requires-clause-free : goal.rekey-requires-clause-free
rekey-requires-clause-free g c = λ q h. free_single c.loop-turn.agenda.keys c.new-cell.result _ c.at-in-loop-turn.result c.loop-turn.invariant q h

pub loop-turn-preserved : goal.loop-turn-preserved
loop-turn-preserved g c =
    single_again c.loop-turn.agenda.keys _ c.new-cell.result _ c.at-in-loop-turn.result c.loop-turn.invariant c.in_ok-rekey.ensures.ok ∙ ap (single c.new-cell.result) c.at-in-loop-turn.ensures
