use Rattle.std.proofs.Common.{◌≡◌, false, take}
use Rattle.std.specs.Prelude.{◌==◌}
use Rattle.std.specs.List.{list_any}
use Rattle.program_tasks.specs.Sessions.{owners}
use Rattle.program_tasks.proofs.session.Session.fault_of.Given as goal

abbrev pub invariant-loop-script : goal.invariant-loop-script
invariant-loop-script l = list_any (λ c. c == l.client) (owners (take l.script-index l.script-items)) ≡ false
