use Rattle.std.proofs.Common.{◌∙◌}
use Rattle.log_forms.specs.Lines.{is_line_feed}
use Rattle.log_forms.proofs.Places.{place_found, place_within}
use Rattle.log_forms.proofs.line.line_len.Goals as goal

pub returns-clause-value : goal.returns-clause-value
returns-clause-value c = c.unwrap_or.ensures ∙ place_found is_line_feed c.args.text.now c.memchr.result c.memchr.ensures

pub returns-clause-within : goal.returns-clause-within
returns-clause-within c = place_within is_line_feed c.args.text.now _ (c.unwrap_or.ensures ∙ place_found is_line_feed c.args.text.now c.memchr.result c.memchr.ensures)
