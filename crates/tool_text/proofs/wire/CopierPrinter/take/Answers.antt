use Rattle.std.proofs.Common.{ap}
use Rattle.std.proofs.lemmas.Result.{on_ok_weaker}
use Rattle.memory.proofs.Outcomes.{on_ok-three}
use Rattle.midi_wire.specs.Parsing.{Parsing}
use Rattle.text_forms.specs.Hex.{hex_line}
use Rattle.tool_text.proofs.Copied.{one_more_copied}
use Rattle.tool_text.proofs.Passed.{lines_more}
use Rattle.tool_text.proofs.wire.CopierPrinter.take.Goals as goal

pub returns-clause-fed : goal.returns-clause-fed
returns-clause-fed c = λ read f.
    on_ok-three c.copy.result (λ p s b. one_more_copied _ _ _ _ _ _ read c.args.piece.now f p s b) c.copy.ensures.parser c.copy.ensures.writer c.copy.ensures.written

pub returns-clause-text : goal.returns-clause-text
returns-clause-text c = λ read f. on_ok_weaker c.copy.result (λ k. lines_more hex_line read c.args.piece.now _ _ _ (ap (λ (x : Parsing). x.rest) f.parsed) c.requires.empty k) c.copy.ensures.text
