use Rattle.midi_wire.proofs.Makers.{voice-one}
use Rattle.midi_wire.proofs.message.Message.voice_of_one.Goals as goal

pub with_one-requires : goal.with_one-requires
with_one-requires c = voice-one c.args.base c.args.channel c.args.first c.requires c.if-channel-lt-CHANNELS.true c.if-first-lt-FIRST_STATUS.true
