use Rattle.std.proofs.Common.{sym, ap, ◌∙◌}
use Rattle.midi_wire.specs.Writings.{is_channel}
use Rattle.midi_wire.proofs.Makers.{channel-there, channel-absent}
use Rattle.midi_wire.proofs.message.Message.channel_of.Goals as goal

pub returns-then-is_channel : goal.returns-then-is_channel
returns-then-is_channel c = channel-there c.args.self.now _ c.status-status.ensures.value (ap is_channel (sym c.of.ensures) ∙ sym c.is_channel.ensures ∙ c.if-is_channel.true)

pub returns-else-is_channel : goal.returns-else-is_channel
returns-else-is_channel c = channel-absent c.args.self.now _ c.status-status.ensures.value (ap is_channel (sym c.of.ensures) ∙ sym c.is_channel.ensures ∙ c.if-is_channel.false)
