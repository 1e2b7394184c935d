use Rattle.std.proofs.Common.{◌∙◌, ◌<◌, ◌+◌, length, refl, sym, Some, None}
use Rattle.std.proofs.lemmas.List.{take_rest}
use Rattle.script_text.specs.Words.{is_line_end}
use Rattle.script_text.proofs.Places.{place_found}
use Rattle.smf_make.proofs.TextLines.{line-more, line-last}
use Rattle.smf_make.proofs.make.first_line.Goals as goal

pub returns-in-Some-clause-some : goal.returns-in-Some-clause-some
returns-in-Some-clause-some c =
    let found = c.in-Some.ensures.0 in
    let within : c.in-Some.end < length c.args.text.now = found.high in
    line-more c.args.text.now _ _ c.in-Some.end (place_found is_line_end c.args.text.now (Some c.in-Some.end) c.in-Some.ensures) within refl (take_rest c.args.text.now (c.in-Some.end + 1))

pub returns-in-None-clause-some : goal.returns-in-None-clause-some
returns-in-None-clause-some c =
    line-last c.args.text.now (sym (place_found is_line_end c.args.text.now None c.in-None.ensures)) (sym c.is_empty.ensures ∙ c.if-is_empty.false)
