use Rattle.std.proofs.Common.{◌≡◌, ◌++◌, take}
use Rattle.std.specs.List.{flat_map}
use Rattle.program_tasks.specs.Why.{diagnostic_at}
use Rattle.program_tasks.proofs.why_answer.push_diagnostics.Given as goal

abbrev pub invariant-loop-diagnostic : goal.invariant-loop-diagnostic
invariant-loop-diagnostic l =
    l.text.items ≡ l.fn.text.items ++ flat_map (diagnostic_at l.session.scripts.items l.at.client l.at.line) (take l.diagnostic-index l.diagnostics)
