use Rattle.std.proofs.Common.{◌≡◌, ◌≤◌, ◌<◌, ◌+◌, ◌-◌, ◌*◌, ◌∙◌, true, length, ap, arith, get_or, ℕ}
use Rattle.std.proofs.lemmas.Bool.Decides.{nat_tests}
use Rattle.script_text.specs.Words.{is_blank}
use Rattle.script_text.proofs.Digits.{fits_one_more, stays_small, digits_more, value_more, digits_end}
use Rattle.smf_make.proofs.numbers.front_number.Goals as goal
use Rattle.smf_make.proofs.numbers.front_number.Goals.{then-n-line, else-n-line}

pub overflow_mul-value : goal.overflow_mul-value
overflow_mul-value c = let h = fits_one_more c.loop-n.n c.loop-n.value 0 c.loop-n.invariant.small (omega arith) (omega arith) in omega (arith, h)

pub overflow_add-value : goal.overflow_add-value
overflow_add-value c =
    let digit : c.from.result ≤ 9 = omega (arith, c.from.ensures) in
    let h = fits_one_more c.loop-n.n c.loop-n.value c.from.result c.loop-n.invariant.small (omega arith) digit in
    omega (arith, h)

pub loop-n-preserved : goal.loop-n-preserved
loop-n-preserved c =
    let digit : ℕ = get_or c.args.line.now c.loop-n.n 0 - 48 in
    let is : c.from.result ≡ digit = c.from.ensures in
    let short : c.loop-n.n < length c.args.line.now = omega arith in
    record {
      digits = digits_more c.args.line.now c.loop-n.n short c.loop-n.invariant.digits (grind (arith, nat_tests));
      value = ap (λ n. c.loop-n.value * 10 + n) is ∙ value_more c.args.line.now c.loop-n.n c.loop-n.value short c.loop-n.invariant.value;
      small = stays_small c.loop-n.n c.loop-n.value c.from.result c.loop-n.invariant.small (omega (arith, c.from.ensures));
      within = omega arith;
    }

pub returns-clause-whole : goal.returns-clause-whole
returns-clause-whole c =
    let within : c.loop-n.n ≤ length c.args.line.now = omega arith in
    let blank : c.loop-n.n < length c.args.line.now → is_blank (get_or c.args.line.now c.loop-n.n 0) ≡ true = elim c.if-n-line.branch [
      | then-n-line w ↦ λ _. grind (arith, nat_tests, w.is_blank.ensures, w.value-is, c.if-not-is_blank.false)
      | else-n-line w ↦ λ l. absurd (omega arith)
    ] in
    digits_end c.args.line.now c.loop-n.n within c.loop-n.invariant.digits blank
