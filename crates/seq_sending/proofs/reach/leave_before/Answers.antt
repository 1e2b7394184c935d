use Rattle.std.proofs.Common.{arith}
use Rattle.std.specs.Prelude.{nat_lt}
use Rattle.std.proofs.lemmas.Grind.{common_steps}
use Rattle.std.proofs.lemmas.Fn.{filter_same}
use Rattle.seq_sending.proofs.reach.leave_before.Goals as goal

pub returns : goal.returns
returns c = filter_same _ (λ x. nat_lt x.way c.args.place) _ (λ x b f call. grind (arith, common_steps)) _ _ c.retain.ensures.filtered
