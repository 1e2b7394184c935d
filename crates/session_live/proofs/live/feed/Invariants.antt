use Rattle.std.proofs.Common.{length}
use Rattle.session_live.specs.Talk.{IsFed}
use Rattle.session_live.proofs.Told.{IsRead}
use Rattle.session_live.proofs.live.feed.Given as goal

abbrev pub invariant-loop-end : goal.invariant-loop-end
invariant-loop-end g l =
    IsRead l.fn.talk.files l.talk.files
    (IsFed l.fn.talk.files l.fn.talk.engine l.fn.talk.heard.said l.fn.talk.heard.loose l.fn.kept.bytes.items l.fn.kept.is_too_long)
    (IsFed l.talk.files l.talk.engine l.talk.heard.said l.talk.heard.loose l.kept.bytes.items l.kept.is_too_long)
    l.fn.text.items l.text.items l.fn.piece l.rest

abbrev pub decreases-loop-end : goal.decreases-loop-end
decreases-loop-end g l = length l.rest
