use Rattle.std.proofs.Common.{◌∙◌}
use Rattle.smf_make.proofs.FirstWords.{none-said}
use Rattle.smf_make.proofs.words.is_wordless.Goals as goal

pub returns : goal.returns
returns c = c.is_empty.ensures ∙ none-said c.args.text.now c.unindented.result.now c.unindented.ensures.value
