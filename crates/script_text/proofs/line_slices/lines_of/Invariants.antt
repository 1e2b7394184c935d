use Rattle.std.proofs.Common.{◌≡◌, ◌≤◌, ◌++◌, length, map}
use Rattle.std.specs.List.{position_or_len}
use Rattle.script_text.specs.Words.{is_line_end, lines}
use Rattle.script_text.proofs.line_slices.lines_of.Given as goal

abbrev pub invariant-loop-end : goal.invariant-loop-end
invariant-loop-end l = record {
  found : map (λ x. x.now) l.found.items ++ lines l.rest ≡ lines l.fn.text;
  where_line_ends : l.end ≡ position_or_len is_line_end l.rest;
  within : l.end ≤ length l.rest;
  short : length l.rest ≤ length l.fn.text;
}

abbrev pub decreases-loop-end : goal.decreases-loop-end
decreases-loop-end l = length l.rest
