use Rattle.std.proofs.Common.{◌∙◌, ap, ℕ}
use Rattle.std.specs.Prelude.{Option, unwrap_or}
use Rattle.route_filter.proofs.Voices.{parts-of}
use Rattle.route_filter.proofs.voice.VoiceMessage.of.Goals as goal

pub invariant_of-result : goal.invariant_of-result
invariant_of-result c =
    let first = c.unwrap_or.ensures ∙ ap (λ (o : Option ℕ). unwrap_or o 0) c.byte_at.ensures in
    let second = c.unwrap_or-2.ensures ∙ ap (λ (o : Option ℕ). unwrap_or o 0) c.byte_at-2.ensures in
    (parts-of c.args.message.now _ _ _ c.status-status.ensures.message c.if-status-ge-EXCLUSIVE.false c.status-status.ensures.value first second).0

pub returns-clause-voice : goal.returns-clause-voice
returns-clause-voice c =
    let first = c.unwrap_or.ensures ∙ ap (λ (o : Option ℕ). unwrap_or o 0) c.byte_at.ensures in
    let second = c.unwrap_or-2.ensures ∙ ap (λ (o : Option ℕ). unwrap_or o 0) c.byte_at-2.ensures in
    (parts-of c.args.message.now _ _ _ c.status-status.ensures.message c.if-status-ge-EXCLUSIVE.false c.status-status.ensures.value first second).1
