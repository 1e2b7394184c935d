use Rattle.std.proofs.Common.{◌∙◌}
use Rattle.script_text.specs.LineFaults.{Form}
use Rattle.script_text.specs.declared.line_form.LineForm.{LineForm}
use Rattle.script_text.proofs.Forms.{alike_found, copied_is}
use Rattle.script_text.proofs.line_form.form_in.Goals as goal

pub returns-clause-kinds : goal.returns-clause-kinds
returns-clause-kinds c =
    let found = c.get.ensures.lookup in
    alike_found (λ (f : LineForm). f.kinds.now) (λ (f : Form). f.kinds) c.args.forms.now c.args.word.now c.keyword.result c.copied.result (c.copied.ensures ∙ copied_is c.get.result c.args.forms.now c.keyword.result found.1 found.0) c.keyword.ensures c.requires.kinds

pub returns-clause-rest : goal.returns-clause-rest
returns-clause-rest c =
    let found = c.get.ensures.lookup in
    alike_found (λ (f : LineForm). f.rest) (λ (f : Form). f.rest) c.args.forms.now c.args.word.now c.keyword.result c.copied.result (c.copied.ensures ∙ copied_is c.get.result c.args.forms.now c.keyword.result found.1 found.0) c.keyword.ensures c.requires.rest
