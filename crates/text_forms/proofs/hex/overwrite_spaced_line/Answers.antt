use Rattle.std.proofs.Common.{◌∙◌, take, arith}
use Rattle.text_forms.proofs.Hexed.{spelled_over}
use Rattle.text_forms.proofs.hex.overwrite_spaced_line.Goals as goal

pub loop-byte-preserved : goal.loop-byte-preserved
loop-byte-preserved c =
    let a = c.args in
    let l = c.loop-byte in
    let was = l.invariant in
    record {
      at = omega (arith, was.at);
      len = c.overwrite.ensures.len ∙ was.len;
      spelled = spelled_over l.text.items c.overwrite.new.text.items c.line_of_one.result (take a.at a.text.now.items) a.bytes.now l.end l.byte-index
          c.loop-byte-test.true (omega (arith, was.len)) c.overwrite.ensures.written c.line_of_one.ensures was.spelled;
    }
