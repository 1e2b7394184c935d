use Rattle.memory.proofs.Outcomes.{on_err}
use Rattle.tool_text.proofs.Pieces.{part-stops}
use Rattle.tool_text.proofs.printing.flush.Goals as goal

pub returns-in_err-send-clause-short : goal.returns-in_err-send-clause-short
returns-in_err-send-clause-short g c = on_err c.from_residual.result (rw c.as_slice.ensures.value at (part-stops g.W.Sink.HasTaken _ _ _ c.in_err-send.ensures.part))
