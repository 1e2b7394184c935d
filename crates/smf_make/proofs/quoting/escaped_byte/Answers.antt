use Rattle.std.proofs.Common.{◌∷◌, ◌∙◌, List, ℕ, Option, sym, ap, drop}
use Rattle.std.specs.Option.{option_map, option_and_then}
use Rattle.std.proofs.lemmas.List.{take_rest}
use Rattle.smf_make.specs.SaidEvents.{Whole, quoted_from}
use Rattle.smf_make.proofs.QuotedBytes.{short-escape, other-escape, hex-escape}
use Rattle.smf_make.proofs.FirstWords.{where-none}
use Rattle.smf_make.proofs.quoting.escaped_byte.Goals as goal
use Rattle.smf_make.proofs.quoting.escaped_byte.Goals.{then-text-lt3-via-then-text-lt3, then-text-lt3-via-else-text-lt3+then-text-ne120}

abbrev with_rest : List ℕ → Option ℕ → Option (List ℕ)
with_rest text byte = option_and_then (λ b. option_map (λ more. b ∷ more) (quoted_from Whole (drop 3 text))) byte

pub returns-then-text-lt3-clause-none : goal.returns-then-text-lt3-clause-none
returns-then-text-lt3-clause-none c = elim c.then-text-lt3.branch [
  | then-text-lt3-via-then-text-lt3 w ↦ short-escape c.args.text.now w.if-text-lt3.true
  | then-text-lt3-via-else-text-lt3+then-text-ne120 w ↦ other-escape c.args.text.now w.if-text-lt3.false w.if-text-ne120.true
]

pub returns-in_err-byte-clause-none : goal.returns-in_err-byte-clause-none
returns-in_err-byte-clause-none c =
    where-none c.from_residual.result _ (hex-escape c.args.text.now c.if-text-lt3.false c.if-text-ne120.false ∙ sym (ap (with_rest c.args.text.now) c.in_err-byte.ensures))

pub returns-clause-some : goal.returns-clause-some
returns-clause-some c =
    hex-escape c.args.text.now c.if-text-lt3.false c.if-text-ne120.false ∙ sym (ap (with_rest c.args.text.now) c.in_ok-byte.ensures)
    ∙ ap (λ (xs : List ℕ). option_map (λ more. c.in_ok-byte.byte ∷ more) (quoted_from Whole xs)) (sym (take_rest c.args.text.now 3))
