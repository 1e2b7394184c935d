use Rattle.std.proofs.lemmas.Result.{on_ok_weaker, on_err_weaker}
use Rattle.memory.proofs.Outcomes.{on_err}
use Rattle.tool_text.specs.Thru.{thru_line, thru_text}
use Rattle.tool_text.proofs.Passed.{stops_at_once, rendered_same, stops_same}
use Rattle.tool_text.proofs.Passing.{thru_lines, no_lines}
use Rattle.tool_text.proofs.thru.thru_text.Goals as goal

pub returns-in_err-passage-clause-short : goal.returns-in_err-passage-clause-short
returns-in_err-passage-clause-short g c = on_err c.from_residual.result (stops_at_once g.R.Source.HasLeft g.W.Sink.HasTaken thru_text _ _)

pub print_stream-requires-clause-empty : goal.print_stream-requires-clause-empty
print_stream-requires-clause-empty g c = no_lines thru_line

pub returns-clause-text : goal.returns-clause-text
returns-clause-text g c =
    on_ok_weaker c.print_stream.result (λ k. rendered_same g.R.Source.HasLeft g.W.Sink.HasTaken _ thru_text _ _ _ _ thru_lines k.rendered) c.print_stream.ensures.passed

pub returns-clause-short : goal.returns-clause-short
returns-clause-short g c =
    on_err_weaker c.print_stream.result (stops_same g.R.Source.HasLeft g.W.Sink.HasTaken _ thru_text _ _ _ _ thru_lines) c.print_stream.ensures.short
