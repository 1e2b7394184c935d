use Rattle.std.proofs.Common.{◌∙◌, sym}
use Rattle.std.proofs.lemmas.Result.{IfOk-weaker}
use Rattle.script_text.specs.Words.{words}
use Rattle.smf_make.specs.SaidEvents.{behind_word}
use Rattle.smf_make.proofs.VoiceWords.{by-byte}
use Rattle.smf_make.proofs.event_line.event_by.Goals as goal

pub returns-in-Some-clause-ok : goal.returns-in-Some-clause-ok
returns-in-Some-clause-ok c =
    IfOk-weaker c.event_of_bytes.result _ _ (λ e is. by-byte (words c.args.text.now) (words c.in-Some.rest.now) (behind_word c.args.text.now) c.in-Some.first (sym c.in-Some.ensures) ∙ is) c.event_of_bytes.ensures.ok

pub returns-in-Some-clause-err : goal.returns-in-Some-clause-err
returns-in-Some-clause-err c = λ is. by-byte (words c.args.text.now) (words c.in-Some.rest.now) (behind_word c.args.text.now) c.in-Some.first (sym c.in-Some.ensures) ∙ c.event_of_bytes.ensures.err is
