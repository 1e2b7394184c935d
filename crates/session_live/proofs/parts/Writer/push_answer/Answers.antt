use Rattle.std.proofs.Common.{rules}
use Rattle.std.proofs.lemmas.Result.{on_ok_weaker}
use Rattle.session_live.proofs.Fronts.{reply-fronted, behind-front}
use Rattle.session_live.proofs.parts.Writer.push_answer.Goals as goal

pub returns : goal.returns
returns c = on_ok_weaker c.push_reply-2.result
    (λ told. behind-front c.args.client c.args.text.now.items _ _ _ _ (search rules) told (reply-fronted _ c.args.moment c.args.number c.args.reply.now (c.has_more_below.ensures c.if-has_more_below.false)))
    c.push_reply-2.ensures
