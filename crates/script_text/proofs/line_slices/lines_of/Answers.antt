use Rattle.std.proofs.Common.{◌+◌, refl, arith, ℕ}
use Rattle.std.proofs.lemmas.List.{take_rest, length-take, length-drop}
use Rattle.script_text.proofs.LineByLine.{one_more_line, last_of_lines}
use Rattle.script_text.proofs.line_slices.lines_of.Goals as goal

pub overflow_add-rest : goal.overflow_add-rest
overflow_add-rest c = let was = c.loop-end.invariant in omega (arith, was.short, c.loop-end-test.true)

pub loop-end-preserved : goal.loop-end-preserved
loop-end-preserved c =
    let was = c.loop-end.invariant in
    record {
      found = one_more_line c.loop-end.found.items c.push.new.self.items _ c.loop-end.rest.now _ c.loop-end.end _ was.where_line_ends c.loop-end-test.true refl (take_rest c.loop-end.rest.now (c.loop-end.end + 1)) c.in_ok-push.ensures.items was.found;
      where_line_ends = c.line_len-end-in-loop-end.ensures.value;
      within = c.line_len-end-in-loop-end.ensures.within;
      short = omega (arith, length-take {A = ℕ}, length-drop {A = ℕ}, was.short);
    }

pub returns : goal.returns
returns c =
    let was = c.loop-end.invariant in
    last_of_lines c.loop-end.found.items c.push-2.new.self.items _ c.loop-end.rest.now c.loop-end.end _ was.where_line_ends was.within c.loop-end-test.false refl c.in_ok-push-2.ensures.items was.found
