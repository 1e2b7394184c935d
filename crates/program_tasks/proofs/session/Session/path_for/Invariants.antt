use Rattle.std.proofs.Common.{◌≡◌, drop}
use Rattle.program_tasks.specs.Explained.{path_for}
use Rattle.program_tasks.proofs.session.Session.path_for.Given as goal

abbrev pub invariant-loop-script : goal.invariant-loop-script
invariant-loop-script l = path_for l.self.scripts.items l.client ≡ path_for (drop l.script-index l.self.scripts.items) l.client
