use Rattle.script_text.proofs.Faults.{fault_law}
use Rattle.script_text.proofs.laws.unreadable_lines_have_faults.Goals as goal

pub returns : goal.returns
returns c = fault_law
