use Rattle.std.proofs.Common.{◌+◌}
use Rattle.std.proofs.lemmas.List.{take_rest}
use Rattle.std.proofs.lemmas.Result.{on_ok_weaker}
use Rattle.memory.proofs.Outcomes.{on_ok}
use Rattle.session_live.specs.Talk.{IsFed}
use Rattle.session_live.proofs.Told.{fed-kept, read-none, read-more, read-fed, read-text}
use Rattle.session_live.proofs.live.feed.Goals as goal

pub loop-end-init : goal.loop-end-init
loop-end-init g c = read-none _ _ _ _

-- src/live.rt:112:5
pub loop-end-preserved : goal.loop-end-preserved
loop-end-preserved g c =
    read-more _ _ _ _ _ _ _ _ _ _ c.loop-end.rest.now _ c.in-Some.end c.in-Some.ensures.some (take_rest c.loop-end.rest.now (c.in-Some.end + 1)) c.loop-end.invariant
    c.in_ok-end_line.ensures.fed c.in_ok-end_line.ensures.text c.end_line.ensures.files

-- src/live.rt:93:1
pub returns-clause-fed : goal.returns-clause-fed
returns-clause-fed g c =
    on_ok_weaker c.keep.result (λ k.
    read-fed _ _ _ _ _ _ _ c.loop-end.rest.now c.in_default.ensures.none c.loop-end.invariant
    (IsFed c.loop-end.talk.files c.loop-end.talk.engine c.loop-end.talk.heard.said c.loop-end.talk.heard.loose c.keep.new.self.bytes.items c.keep.new.self.is_too_long)
    (λ read f. fed-kept c.loop-end.talk.files c.loop-end.talk.engine c.loop-end.talk.heard.said c.loop-end.talk.heard.loose c.loop-end.kept.bytes.items c.loop-end.kept.is_too_long read c.loop-end.rest.now
    c.keep.new.self.bytes.items c.keep.new.self.is_too_long c.in_default.ensures.none k f))
    c.keep.ensures

-- src/live.rt:93:1
pub returns-clause-text : goal.returns-clause-text
returns-clause-text g c =
    on_ok c.keep.result (read-text _ _ _ _ _ _ _ c.loop-end.rest.now c.in_default.ensures.none c.loop-end.invariant)
