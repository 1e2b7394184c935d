use Rattle.tool_text.proofs.OnTheWay.{fed_nothing}
use Rattle.tool_text.proofs.thru.Passage.new.Goals as goal

pub returns-clause-fed : goal.returns-clause-fed
returns-clause-fed g c = fed_nothing _ c.in_ok-joined.ensures.joined
