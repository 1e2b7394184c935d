use Rattle.std.proofs.Common.{◌∙◌, sym, ap}
use Rattle.script_text.proofs.SaidBytes.{is_said, end_exclusive, exclusive_more}
use Rattle.script_text.proofs.message_words.say_exclusive_tail.Goals as goal

pub loop-word-preserved : goal.loop-word-preserved
loop-word-preserved c = record {
  said =
      exclusive_more c.loop-word.left c.in-Some-hex_byte.byte c.in-Some.word.now c.word.new.self (sym c.hex_byte.ensures ∙ c.in-Some-hex_byte.is) c.if-byte.false c.if-left-eq0.false (sym c.is_data.ensures ∙ c.if-not-is_data.false)
      ∙ ap (is_said (end_exclusive c.loop-word.left)) (sym c.in-Some.ensures.some)
      ∙ c.loop-word.invariant.said;
}
