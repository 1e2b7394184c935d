use Rattle.std.proofs.Common.{◌≡◌, ◌∙◌, IfOk, map, ap, subst}
use Rattle.script_text.specs.Words.{words}
use Rattle.script_text.proofs.Usual.{timed_line}
use Rattle.script_text.proofs.line.fate_of.Goals as goal

pub returns-in-Some : goal.returns-in-Some
returns-in-Some c =
    subst (λ o. IfOk c.timed_fate.result (λ f. f ≡ o))
    (timed_line (map (λ n. n.items) c.args.names.now) c.args.until c.args.latest c.in-Some.moment c.args.line.now c.new-words.result c.first_number.new.self (c.new-words.ensures ∙ ap words c.without_return.ensures) c.in-Some.ensures.some)
    c.timed_fate.ensures
