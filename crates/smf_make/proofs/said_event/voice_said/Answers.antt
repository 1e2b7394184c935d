use Rattle.std.proofs.Common.{◌∙◌, sym, ap}
use Rattle.std.specs.Option.{option_map}
use Rattle.script_text.specs.Words.{words}
use Rattle.smf_make.specs.Events.{said_event}
use Rattle.smf_make.proofs.VoiceWords.{no-first, two-bytes, three-bytes}
use Rattle.smf_make.proofs.said_event.voice_said.Goals as goal

pub returns-in_err-first : goal.returns-in_err-first
returns-in_err-first c =
    ap (option_map said_event) c.from_residual.ensures
    ∙ no-first c.args.status (words c.args.text.now) (sym c.in_err-first.ensures)

pub returns-then-not-is_wordless : goal.returns-then-not-is_wordless
returns-then-not-is_wordless c =
    three-bytes c.args.status c.in_ok-first.first c.in_ok-second.second (words c.args.text.now) (words c.in_ok-first.rest.now) (words c.in_ok-second.rest.now) (sym c.in_ok-first.ensures) (sym c.in_ok-second.ensures) (sym c.is_wordless-2.ensures ∙ c.if-not-is_wordless.true)

pub returns : goal.returns
returns c =
    c.voice_of_two.ensures
    ∙ two-bytes c.args.status c.in_ok-first.first c.in_ok-second.second (words c.args.text.now) (words c.in_ok-first.rest.now) (words c.in_ok-second.rest.now) (sym c.in_ok-first.ensures) (sym c.in_ok-second.ensures) (sym c.is_wordless-2.ensures ∙ c.if-not-is_wordless.false)
