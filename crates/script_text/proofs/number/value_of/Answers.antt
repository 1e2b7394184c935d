use Rattle.std.proofs.Common.{◌≡◌, ◌≤◌, ◌+◌, ◌-◌, ◌*◌, ◌∙◌, ap, arith, get_or, ℕ}
use Rattle.std.proofs.lemmas.Bool.Decides.{nat_tests}
use Rattle.script_text.proofs.Digits.{fits_one_more, stays_small, digits_more, value_more}
use Rattle.script_text.proofs.number.value_of.Goals as goal

pub overflow_mul-value : goal.overflow_mul-value
overflow_mul-value c = let h = fits_one_more c.loop-byte.byte-index c.loop-byte.value 0 c.loop-byte.invariant.small (omega arith) (omega arith) in omega (arith, h)

pub overflow_add-value : goal.overflow_add-value
overflow_add-value c =
    let digit : c.from.result ≤ 9 = omega (arith, c.from.ensures) in
    let h = fits_one_more c.loop-byte.byte-index c.loop-byte.value c.from.result c.loop-byte.invariant.small (omega arith) digit in
    omega (arith, h)

pub loop-byte-preserved : goal.loop-byte-preserved
loop-byte-preserved c =
    let digit : ℕ = get_or c.args.word.now c.loop-byte.byte-index 0 - 48 in
    let is : c.from.result ≡ digit = c.from.ensures in
    record {
      digits = digits_more c.args.word.now c.loop-byte.byte-index c.loop-byte-test.true c.loop-byte.invariant.digits (grind (arith, nat_tests));
      value = ap (λ n. c.loop-byte.value * 10 + n) is ∙ value_more c.args.word.now c.loop-byte.byte-index c.loop-byte.value c.loop-byte-test.true c.loop-byte.invariant.value;
      small = stays_small c.loop-byte.byte-index c.loop-byte.value c.from.result c.loop-byte.invariant.small (omega (arith, c.from.ensures));
    }
