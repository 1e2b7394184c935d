use Rattle.std.proofs.Common.{◌∙◌, Some, sym, ap}
use Rattle.script_text.specs.LineFaults as faults
use Rattle.script_text.proofs.Forms.{no_form, some_form}
use Rattle.script_text.proofs.line_faults.command_fault.Goals as goal

pub returns-in_default-form_of : goal.returns-in_default-form_of
returns-in_default-form_of c =
    ap Some c.wrong_word.ensures ∙ no_form c.in-Some.word.now (faults.form_of c.in-Some.word.now) c.word.new.self c.in_default-form_of.ensures.kinds ∙ ap faults.command_fault (sym c.in-Some.ensures.some)

pub returns : goal.returns
returns c =
    c.form_fault.ensures
    ∙ some_form c.in-Some.word.now (faults.form_of c.in-Some.word.now) c.in-Some-form_of.form.kinds.now c.in-Some-form_of.form.rest c.word.new.self c.in-Some-form_of.ensures.kinds c.in-Some-form_of.ensures.rest
    ∙ ap faults.command_fault (sym c.in-Some.ensures.some)
