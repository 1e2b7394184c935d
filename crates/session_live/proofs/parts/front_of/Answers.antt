use Rattle.std.proofs.Common.{◌+◌, ◌/◌, ◌%◌, [], ◌∷◌, ◌∙◌, ap}
use Rattle.session_live.proofs.Fronts.{three_digits}
use Rattle.session_live.proofs.parts.front_of.Goals as goal

pub returns : goal.returns
returns c =
    ap (λ n. 49 ∷ (48 + n / 10 % 10) ∷ (48 + n % 10) ∷ 32 ∷ []) c.number-number.ensures.value
    ∙ three_digits c.args.client c.number-number.ensures.low c.number-number.ensures.high
