use Rattle.route_filter.proofs.Voices.{one-message, two-message}
use Rattle.route_filter.proofs.voice.VoiceMessage.message.Goals as goal

pub with_one-requires : goal.with_one-requires
with_one-requires c = one-message _ _ _ _ c.self.invariant c.has_one_data.ensures c.if-has_one_data.true

pub with_two-requires : goal.with_two-requires
with_two-requires c = two-message _ _ _ _ c.self.invariant c.has_one_data.ensures c.if-has_one_data.false
