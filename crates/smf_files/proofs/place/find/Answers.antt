use Rattle.std.proofs.Common.{◌++◌, ap, ◌≤◌, ◌*◌, ◌+◌, length, refl, arith, sym, ◌∙◌, subst}
use Rattle.std.specs.Prelude.{IsTrue}
use Rattle.smf_grammar.specs.Pairs.{running_after}
use Rattle.smf_grammar.specs.Contents.{message_of, event_if, events_from}
use Rattle.smf_grammar.specs.Seen.{pair_seen, event_seen, IsRunning}
use Rattle.smf_files.specs.Playing.{rest_of, is_whole}
use Rattle.smf_files.proofs.Places.{whole-fault, whole-more, More, events-last, events-more, silent, sound-status, found}
use Rattle.smf_files.proofs.Suffixes.{rest-all, rest-trans, pair-rest}
use Rattle.smf_files.proofs.Short.{Short, short}
use Rattle.smf_files.proofs.place.find.Goals as goal

pub unreachable-requires : goal.unreachable-requires
unreachable-requires c = whole-fault _ _ _ c.pairs.invariant.whole c.in-Err.ensures.value

pub pairs-init : goal.pairs-init
pairs-init c = record {
  events = refl;
  rest = rest-all c.args.left.now;
  whole = c.requires.whole;
  status = c.requires.status;
  early = c.requires.early;
}

pub returns-then-is_end-clause-events : goal.returns-then-is_end-clause-events
returns-then-is_end-clause-events c = sym (events-last c.pairs.tick c.pairs.running c.pairs.left.now _ (pair_seen c.in-Ok.found.0) c.in-Ok.ensures.value (sym c.is_end.ensures ∙ c.if-is_end.true)) ∙ c.pairs.invariant.events

pub returns-then-is_message-clause-events : goal.returns-then-is_message-clause-events
returns-then-is_message-clause-events c =
    let more : More c.pairs.running c.pairs.left.now c.in-Ok.found.1.now (pair_seen c.in-Ok.found.0) = whole-more _ _ _ _ c.pairs.invariant.whole c.in-Ok.ensures.value (sym c.is_end.ensures ∙ c.if-is_end.false) in
    (found (c.pairs.tick + c.in-Ok.found.0.delta) c.pairs.running c.pairs.left.now c.in-Ok.found.1.now c.args.left.now (pair_seen c.in-Ok.found.0) (record { tick = c.pairs.tick + c.in-Ok.found.0.delta; left = length c.pairs.left.now; track = c.args.track; running = c.pairs.running }) c.pairs.invariant.rest c.in-Ok.ensures.value refl refl refl
    (sym c.is_message.ensures ∙ c.if-is_message.true) c.in-Ok.ensures.sound c.pairs.invariant.status more.whole (omega (arith, c.in-Ok.ensures.shorter, c.in-Ok.ensures.small))).1
    ∙ sym (events-more c.pairs.tick c.pairs.running c.pairs.left.now c.in-Ok.found.1.now (pair_seen c.in-Ok.found.0) more) ∙ c.pairs.invariant.events

pub returns-then-is_message-clause-place : goal.returns-then-is_message-clause-place
returns-then-is_message-clause-place c =
    let more : More c.pairs.running c.pairs.left.now c.in-Ok.found.1.now (pair_seen c.in-Ok.found.0) = whole-more _ _ _ _ c.pairs.invariant.whole c.in-Ok.ensures.value (sym c.is_end.ensures ∙ c.if-is_end.false) in
    (found (c.pairs.tick + c.in-Ok.found.0.delta) c.pairs.running c.pairs.left.now c.in-Ok.found.1.now c.args.left.now (pair_seen c.in-Ok.found.0) (record { tick = c.pairs.tick + c.in-Ok.found.0.delta; left = length c.pairs.left.now; track = c.args.track; running = c.pairs.running }) c.pairs.invariant.rest c.in-Ok.ensures.value refl refl refl
    (sym c.is_message.ensures ∙ c.if-is_message.true) c.in-Ok.ensures.sound c.pairs.invariant.status more.whole (omega (arith, c.in-Ok.ensures.shorter, c.in-Ok.ensures.small))).0

pub pairs-preserved : goal.pairs-preserved
pairs-preserved c =
    let more : More c.pairs.running c.pairs.left.now c.in-Ok.found.1.now (pair_seen c.in-Ok.found.0) = whole-more _ _ _ _ c.pairs.invariant.whole c.in-Ok.ensures.value (sym c.is_end.ensures ∙ c.if-is_end.false) in
    record {
      events = rw c.status_after-running.ensures (sym (silent (c.pairs.tick + c.in-Ok.found.0.delta) _ (events_from (c.pairs.tick + c.in-Ok.found.0.delta) (rest_of (running_after (event_seen c.in-Ok.found.0.event)) c.in-Ok.found.1.now)) (sym c.is_message.ensures ∙ c.if-is_message.false)) ∙ sym (events-more c.pairs.tick c.pairs.running c.pairs.left.now c.in-Ok.found.1.now (pair_seen c.in-Ok.found.0) more) ∙ c.pairs.invariant.events);
      rest = rest-trans _ _ _ (pair-rest _ _ _ c.in-Ok.ensures.value) c.pairs.invariant.rest;
      whole = subst (λ o. IsTrue (is_whole o c.in-Ok.found.1.now)) (sym c.status_after-running.ensures) more.whole;
      status = subst IsRunning (sym c.status_after-running.ensures) (sound-status (event_seen c.in-Ok.found.0.event) c.in-Ok.ensures.sound);
      early = omega (arith, c.in-Ok.ensures.shorter, c.in-Ok.ensures.small);
    }

pub returns-in-Some-clause-events : goal.returns-in-Some-clause-events
returns-in-Some-clause-events c =
    let s : Short c.pairs.running c.pairs.left.now c.in-Some.delta = short _ _ _ c.pairs.invariant.whole c.pairs.invariant.status c.in-Some.ensures in
    let more : More c.pairs.running c.pairs.left.now s.more s.pair = whole-more _ _ _ _ c.pairs.invariant.whole s.read s.ends in
    let early : c.pairs.tick + c.in-Some.delta + length s.more * 268435456 ≤ 4503599627370496 = omega (arith, s.shorter, c.in-Some.ensures.low, c.pairs.invariant.early) in
    (found (c.pairs.tick + c.in-Some.delta) c.pairs.running c.pairs.left.now s.more c.args.left.now s.pair (record { tick = c.pairs.tick + c.in-Some.delta; left = length c.pairs.left.now; track = c.args.track; running = c.pairs.running }) c.pairs.invariant.rest s.read refl refl refl s.some s.sound c.pairs.invariant.status more.whole early).1
    ∙ ap (λ n. event_if (c.pairs.tick + n) (message_of s.pair.event) ++ events_from (c.pairs.tick + n) (rest_of (running_after s.pair.event) s.more)) (sym s.delta_is)
    ∙ sym (events-more c.pairs.tick c.pairs.running c.pairs.left.now s.more s.pair more) ∙ c.pairs.invariant.events

pub returns-in-Some-clause-place : goal.returns-in-Some-clause-place
returns-in-Some-clause-place c =
    let s : Short c.pairs.running c.pairs.left.now c.in-Some.delta = short _ _ _ c.pairs.invariant.whole c.pairs.invariant.status c.in-Some.ensures in
    let more : More c.pairs.running c.pairs.left.now s.more s.pair = whole-more _ _ _ _ c.pairs.invariant.whole s.read s.ends in
    let early : c.pairs.tick + c.in-Some.delta + length s.more * 268435456 ≤ 4503599627370496 = omega (arith, s.shorter, c.in-Some.ensures.low, c.pairs.invariant.early) in
    (found (c.pairs.tick + c.in-Some.delta) c.pairs.running c.pairs.left.now s.more c.args.left.now s.pair (record { tick = c.pairs.tick + c.in-Some.delta; left = length c.pairs.left.now; track = c.args.track; running = c.pairs.running }) c.pairs.invariant.rest s.read refl refl refl s.some s.sound c.pairs.invariant.status more.whole early).0
