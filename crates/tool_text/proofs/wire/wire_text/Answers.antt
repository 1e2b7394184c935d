use Rattle.std.proofs.Common.{◌∙◌}
use Rattle.std.proofs.lemmas.Result.{on_ok_weaker, on_err_weaker}
use Rattle.memory.proofs.Outcomes.{on_err}
use Rattle.tool_text.specs.Stream.{message_lines}
use Rattle.text_forms.specs.Hex.{hex_line}
use Rattle.tool_text.specs.Wire.{wire_ending}
use Rattle.tool_text.proofs.Copied.{all_copied, copied_short}
use Rattle.tool_text.proofs.Passed.{stops_before}
use Rattle.tool_text.proofs.Passing.{no_lines}
use Rattle.tool_text.proofs.wire.wire_text.Goals as goal

pub print_stream-requires-clause-empty : goal.print_stream-requires-clause-empty
print_stream-requires-clause-empty g c = no_lines hex_line

pub returns-in_err-print_stream-clause-short : goal.returns-in_err-print_stream-clause-short
returns-in_err-print_stream-clause-short g c =
    on_err c.from_residual.result (stops_before g.R.Source.HasLeft g.W.Sink.HasTaken (message_lines hex_line) wire_ending _ _ _ _ c.in_err-print_stream.ensures.short)

pub returns-clause-text : goal.returns-clause-text
returns-clause-text g c =
    let passed = c.in_ok-print_stream.ensures.passed in
    on_ok_weaker c.print_written.result (λ k. all_copied g.R.Source.HasLeft g.W.Sink.HasTaken _ _ _ _ _ _ passed.rendered (c.as_slice.ensures.value ∙ passed.fed.written_back) k) c.print_written.ensures.text

pub returns-clause-short : goal.returns-clause-short
returns-clause-short g c =
    let passed = c.in_ok-print_stream.ensures.passed in
    on_err_weaker c.print_written.result (λ k. copied_short g.R.Source.HasLeft g.W.Sink.HasTaken _ _ _ _ _ _ passed.rendered (c.as_slice.ensures.value ∙ passed.fed.written_back) k) c.print_written.ensures.short
