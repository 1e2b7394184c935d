use Rattle.std.proofs.Common.{◌≡◌, ◌++◌, take}
use Rattle.std.specs.List.{flat_map}
use Rattle.program_tasks.specs.Why.{slip_at}
use Rattle.program_tasks.proofs.why_answer.push_slips.Given as goal

abbrev pub invariant-loop-slip : goal.invariant-loop-slip
invariant-loop-slip l =
    l.text.items ≡ l.fn.text.items ++ flat_map (slip_at l.session.scripts.items l.at.client l.at.line) (take l.slip-index l.slips)
