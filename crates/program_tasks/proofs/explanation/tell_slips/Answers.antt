use Rattle.std.proofs.Common.{◌++◌, [], ◌∷◌, subst}
use Rattle.byte_io.specs.Moved.{Took}
use Rattle.program_tasks.specs.Explained.{slip_line, path_for}
use Rattle.program_tasks.proofs.Told.{line_next, line_all}
use Rattle.program_tasks.proofs.explanation.tell_slips.Goals as goal

pub loop-slip-preserved : goal.loop-slip-preserved
loop-slip-preserved g c =
    line_next g.N.Notes.HasTold (λ s. slip_line (path_for c.args.session.now.scripts.items s.client) s) c.args.slips.now c.loop-slip.slip-index c.slip-item.result _ _ _ c.loop-slip-test.true c.slip-item.is c.loop-slip.invariant
    (subst (λ path. Took g.N.Notes.HasTold c.loop-slip.notes (slip_line path c.slip-item.result ++ 10 ∷ []) c.tell.new.self) c.path_for.ensures c.tell.ensures)

pub returns : goal.returns
returns g c = line_all g.N.Notes.HasTold (λ s. slip_line (path_for c.args.session.now.scripts.items s.client) s) c.args.slips.now c.loop-slip.slip-index _ _ c.loop-slip.auto.slip-index-end c.loop-slip-test.false c.loop-slip.invariant
