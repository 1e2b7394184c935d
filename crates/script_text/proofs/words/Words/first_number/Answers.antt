use Rattle.std.proofs.Common.{◌-◌, ℕ, List, drop, take, length, sym, ap, ◌∙◌}
use Rattle.std.proofs.lemmas.List.{take_rest}
use Rattle.script_text.specs.Numbers.{u64}
use Rattle.script_text.specs.Table.{word_as}
use Rattle.script_text.proofs.Usual.{number_first}
use Rattle.script_text.proofs.words.Words.first_number.Goals as goal

pub returns-clause-some : goal.returns-clause-some
returns-clause-some c =
    let bytes : List ℕ = c.self.inside.rest.now in
    let n : ℕ = c.in_ok-value.len in
    let h = c.in_ok-value.ensures in
    sym (ap (word_as u64) c.self.view_is) ∙ number_first bytes (take (length bytes - n) (drop n bytes)) n c.in_ok-value.value h.whole h.some h.within h.digits h.value (take_rest bytes n)
