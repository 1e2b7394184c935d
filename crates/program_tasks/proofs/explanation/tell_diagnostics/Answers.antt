use Rattle.std.proofs.Common.{◌++◌, [], ◌∷◌, subst}
use Rattle.byte_io.specs.Moved.{Took}
use Rattle.program_tasks.specs.Explained.{diagnostic_line, path_for}
use Rattle.program_tasks.proofs.Told.{line_next, line_all}
use Rattle.program_tasks.proofs.explanation.tell_diagnostics.Goals as goal

pub loop-diagnostic-preserved : goal.loop-diagnostic-preserved
loop-diagnostic-preserved g c =
    line_next g.N.Notes.HasTold (λ d. diagnostic_line (path_for c.args.session.now.scripts.items d.client) d) c.args.diagnostics.now c.loop-diagnostic.diagnostic-index c.diagnostic-item.result _ _ _ c.loop-diagnostic-test.true c.diagnostic-item.is c.loop-diagnostic.invariant
    (subst (λ path. Took g.N.Notes.HasTold c.loop-diagnostic.notes (diagnostic_line path c.diagnostic-item.result ++ 10 ∷ []) c.tell.new.self) c.path_for.ensures c.tell.ensures)

pub returns : goal.returns
returns g c = line_all g.N.Notes.HasTold (λ d. diagnostic_line (path_for c.args.session.now.scripts.items d.client) d) c.args.diagnostics.now c.loop-diagnostic.diagnostic-index _ _ c.loop-diagnostic.auto.diagnostic-index-end c.loop-diagnostic-test.false c.loop-diagnostic.invariant
