use Rattle.std.proofs.Common.{rules}
use Rattle.std.proofs.lemmas.Result.{on_ok_weaker}
use Rattle.session_live.proofs.Fronts.{delivery-fronted, behind-front}
use Rattle.session_live.proofs.parts.Writer.push_come.Goals as goal

pub returns : goal.returns
returns c = on_ok_weaker c.push_delivery.result
    (λ told. behind-front c.args.delivery.now.target.client c.args.text.now.items _ _ _ _ (search rules) told (delivery-fronted _ c.args.delivery.now))
    c.push_delivery.ensures
