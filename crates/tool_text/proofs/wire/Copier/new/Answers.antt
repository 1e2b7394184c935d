use Rattle.tool_text.proofs.Copied.{nothing_copied}
use Rattle.tool_text.proofs.wire.Copier.new.Goals as goal

pub returns : goal.returns
returns c = nothing_copied _ _ _ c.new.ensures c.new-2.ensures c.new-3.ensures.items
