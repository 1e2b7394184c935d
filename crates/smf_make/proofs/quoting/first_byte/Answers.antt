use Rattle.std.proofs.Common.{◌∷◌, ◌∙◌, List, ℕ, length, sym, ap, get_or}
use Rattle.std.specs.Option.{option_map}
use Rattle.std.proofs.lemmas.List.{take_rest}
use Rattle.std.proofs.lemmas.Bool.{eqb-true}
use Rattle.smf_make.specs.SaidEvents.{Whole, Escaping, quoted_from}
use Rattle.smf_make.proofs.QuotedBytes.{mark-first, nothing-first, backslash-first, plain-first, found-behind, nothing-behind, no-mark}
use Rattle.smf_make.proofs.quoting.first_byte.Goals as goal
use Rattle.smf_make.proofs.quoting.first_byte.Goals.{then-is_empty-via-then-is_empty, then-is_empty-via-else-is_empty+then-text-eq34}

pub returns-then-is_empty-clause-none : goal.returns-then-is_empty-clause-none
returns-then-is_empty-clause-none c = elim c.then-is_empty.branch [
  | then-is_empty-via-then-is_empty w ↦ nothing-first c.args.text.now (eqb-true (length c.args.text.now) 0 (sym c.is_empty.ensures ∙ w.if-is_empty.true))
  | then-is_empty-via-else-is_empty+then-text-eq34 w ↦ mark-first c.args.text.now (sym c.is_empty.ensures ∙ w.if-is_empty.false) w.if-text-eq34.true
]

pub returns-then-text-eq92-clause-some : goal.returns-then-text-eq92-clause-some
returns-then-text-eq92-clause-some c =
    found-behind c.escaped_byte.result _ _ _
    (backslash-first c.args.text.now (sym c.is_empty.ensures ∙ c.if-is_empty.false) c.if-text-eq92.true ∙ ap (quoted_from Escaping) (sym (take_rest c.args.text.now 1))) c.escaped_byte.ensures.some

pub returns-then-text-eq92-clause-none : goal.returns-then-text-eq92-clause-none
returns-then-text-eq92-clause-none c =
    nothing-behind c.escaped_byte.result _ _ _
    (backslash-first c.args.text.now (sym c.is_empty.ensures ∙ c.if-is_empty.false) c.if-text-eq92.true ∙ ap (quoted_from Escaping) (sym (take_rest c.args.text.now 1)))
    (no-mark c.args.text.now c.if-text-eq92.true) c.escaped_byte.ensures.none

pub returns-clause-some : goal.returns-clause-some
returns-clause-some c =
    plain-first c.args.text.now (sym c.is_empty.ensures ∙ c.if-is_empty.false) c.if-text-eq34.false c.if-text-eq92.false
    ∙ ap (λ (xs : List ℕ). option_map (λ more. get_or c.args.text.now 0 0 ∷ more) (quoted_from Whole xs)) (sym (take_rest c.args.text.now 1))
