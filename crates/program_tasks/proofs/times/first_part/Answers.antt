use Rattle.std.proofs.Common.{◌≡◌, ◌≤◌, ◌∙◌, ap, drop, length, subst, take}
use Rattle.program_tasks.proofs.Lengths.{part_is, shorter, unit_of}
use Rattle.program_tasks.proofs.times.first_part.Goals as goal

pub returns-clause-part : goal.returns-clause-part
returns-clause-part c =
    let behind : c.split_at.result.1.now ≡ drop c.digits_len.result c.args.word.now = c.split_at.ensures.back in
    part_is c.args.word.now c.split_at.result.0.now c.split_at-2.result.0.now c.split_at-2.result.1.now c.digits_len.result c.unit_len.result c.requires c.digits_len.ensures.value c.split_at.ensures.front
    (c.unit_len.ensures.value ∙ ap unit_of behind) (c.split_at-2.ensures.front ∙ ap (take c.unit_len.result) behind) (c.split_at-2.ensures.back ∙ ap (drop c.unit_len.result) behind)

pub returns-clause-shorter : goal.returns-clause-shorter
returns-clause-shorter c =
    let behind : c.split_at.result.1.now ≡ drop c.digits_len.result c.args.word.now = c.split_at.ensures.back in
    shorter c.args.word.now c.split_at-2.result.1.now c.digits_len.result c.unit_len.result c.requires c.digits_len.ensures.value (c.unit_len.ensures.value ∙ ap unit_of behind)
    c.digits_len.ensures.within (subst (λ xs. c.unit_len.result ≤ length xs) behind c.unit_len.ensures.within) (c.split_at-2.ensures.back ∙ ap (drop c.unit_len.result) behind)
