use Rattle.tool_text.proofs.Passing.{thru_lines}
use Rattle.tool_text.proofs.laws.thru_prints_messages.Goals as goal

pub returns : goal.returns
returns c = thru_lines
