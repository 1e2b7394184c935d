use Rattle.std.proofs.Common.{◌∙◌, sym, arith}
use Rattle.script_text.proofs.Digits.{too_great, with_last}
use Rattle.script_text.proofs.number.twenty_digits.Goals as goal

pub returns-in_err-checked_mul : goal.returns-in_err-checked_mul
returns-in_err-checked_mul c =
    c.from_residual-in_err-checked_mul.ensures
    ∙ sym (too_great c.args.word.now c.split_at.result.0.now c.split_at.result.1.now c.in_ok-value.value c.in_ok-digit.digit c.split_at.ensures.by_index.0 (let h = c.split_at.ensures.back_len in let r = c.requires in omega arith) c.in_ok-value.ensures.value c.in_ok-digit.ensures.value
    (let h = c.in_err-checked_mul.ensures in grind (arith, h)))

pub returns-in_err-value-2 : goal.returns-in_err-value-2
returns-in_err-value-2 c =
    c.from_residual-in_err-value-2.ensures
    ∙ sym (too_great c.args.word.now c.split_at.result.0.now c.split_at.result.1.now c.in_ok-value.value c.in_ok-digit.digit c.split_at.ensures.by_index.0 (let h = c.split_at.ensures.back_len in let r = c.requires in omega arith) c.in_ok-value.ensures.value c.in_ok-digit.ensures.value
    (let h = c.in_err-value-2.ensures in let k = c.in_ok-checked_mul.ensures in grind (arith, h, k)))

pub returns : goal.returns
returns c =
    let h = c.in_ok-value-2.ensures in
    let k = c.in_ok-checked_mul.ensures in
    with_last c.args.word.now c.split_at.result.0.now c.split_at.result.1.now c.in_ok-value.value c.in_ok-digit.digit c.in_ok-value-2.value c.requires c.split_at.ensures.by_index.0 (let h = c.split_at.ensures.back_len in let r = c.requires in omega arith) c.in_ok-value.ensures.value c.in_ok-digit.ensures.value
    (omega (arith, h, k)) (omega (arith, h, k))
