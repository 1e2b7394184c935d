use Rattle.std.proofs.Common.{◌∙◌, ◌-◌, ℕ, List, length, take, drop, sym}
use Rattle.std.proofs.lemmas.List.{take_rest}
use Rattle.script_text.proofs.Usual.{number_first}
use Rattle.smf_make.proofs.FirstWords.{behind-digits}
use Rattle.smf_make.proofs.numbers.number_said.Goals as goal

pub returns-in-Some-clause-said : goal.returns-in-Some-clause-said
returns-in-Some-clause-said c =
    let line : List ℕ = c.args.line.now in
    let n : ℕ = c.in-Some.len in
    let h = c.in-Some.ensures in
    sym (number_first line (take (length line - n) (drop n line)) n c.in-Some.value h.whole h.some h.within h.digits h.value (take_rest line n))

pub returns-in-Some-clause-behind : goal.returns-in-Some-clause-behind
returns-in-Some-clause-behind c =
    let h = c.in-Some.ensures in
    take_rest c.args.line.now c.in-Some.len ∙ behind-digits c.args.line.now c.in-Some.len h.whole h.some h.digits
