use Rattle.std.proofs.lemmas.Result.{on_ok_weaker}
use Rattle.memory.proofs.Outcomes.{on_ok-three}
use Rattle.tool_text.specs.Thru.{thru_line}
use Rattle.tool_text.proofs.OnTheWay.{fed_more}
use Rattle.tool_text.proofs.Passed.{lines_more}
use Rattle.tool_text.proofs.thru.PassagePrinter.take.Goals as goal

pub returns-clause-fed : goal.returns-clause-fed
returns-clause-fed g c = λ read f.
    on_ok-three c.pass_on.result (λ p s n. fed_more _ _ read c.args.piece.now f p s n) c.pass_on.ensures.passing c.pass_on.ensures.stream c.pass_on.ensures.counted

pub returns-clause-text : goal.returns-clause-text
returns-clause-text g c = λ read f. on_ok_weaker c.pass_on.result (λ k. lines_more thru_line read c.args.piece.now _ _ _ f.stream c.requires.empty k) c.pass_on.ensures.text
