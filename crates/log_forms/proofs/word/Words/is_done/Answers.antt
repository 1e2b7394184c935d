use Rattle.std.proofs.Common.{◌∙◌, ap}
use Rattle.log_forms.specs.Lines.{is_none_left}
use Rattle.log_forms.proofs.Cut.{is_none-left}
use Rattle.log_forms.proofs.word.Words.is_done.Goals as goal

pub returns : goal.returns
returns c = is_none-left c.self.inside.rest c.is_none.result c.is_none.ensures ∙ ap is_none_left c.self.view_is
