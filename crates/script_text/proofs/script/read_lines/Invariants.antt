use Rattle.std.proofs.Common.{◌≡◌, ◌+◌, ◌≤◌, length, map}
use Rattle.std.specs.List.{position_or_len}
use Rattle.script_text.specs.Parsing.{with_fate}
use Rattle.script_text.specs.Scripts.{read_from}
use Rattle.script_text.specs.declared.script.TheConstants.{MOST_SCRIPT}
use Rattle.script_text.specs.Words.{is_line_end, lines}
use Rattle.script_text.proofs.script.read_lines.Given as goal

abbrev pub invariant-loop-end : goal.invariant-loop-end
invariant-loop-end l = record {
  read : with_fate l.reading.inputs.items l.reading.skips.items (read_from l.client (map (λ n. n.items) l.names) l.until l.reading.latest (l.reading.number + 1) (lines l.rest)) ≡ read_from l.client (map (λ n. n.items) l.names) l.until 0 1 (lines l.fn.text);
  where_line_ends : l.end ≡ position_or_len is_line_end l.rest;
  within : l.end ≤ length l.rest;
  count : l.reading.number + length l.rest ≤ MOST_SCRIPT;
}

abbrev pub decreases-loop-end : goal.decreases-loop-end
decreases-loop-end l = length l.rest
