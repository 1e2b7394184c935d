use Rattle.std.proofs.Common.{◌≡◌, ◌+◌, ◌∷◌, drop, sym, ◌∙◌, subst}
use Rattle.midi_wire.specs.Messages.{AllMessages}
use Rattle.smf_files.proofs.Writing.{front, bad-later, one-taken, all-more}
use Rattle.smf_files.proofs.write.first_bad.Goals as goal

pub loop-i-preserved : goal.loop-i-preserved
loop-i-preserved c =
    let more : drop c.loop-i.i c.args.events.now ≡ c.index-events-i.result ∷ drop (c.loop-i.i + 1) c.args.events.now = front c.args.events.now c.loop-i.i c.index-events-i.result c.loop-i-test.true c.index-events-i.is in
    record {
      bad = c.loop-i.invariant.bad ∙ bad-later c.args.events.now c.loop-i.i c.loop-i.before c.index-events-i.result more (sym c.can_follow.ensures.value ∙ c.if-not-can_follow.false);
      messages = subst AllMessages (sym (one-taken c.args.events.now c.loop-i.i c.index-events-i.result c.loop-i-test.true c.index-events-i.is)) (all-more _ c.index-events-i.result.message c.loop-i.invariant.messages (c.can_follow.ensures.message c.if-not-can_follow.false));
    }
