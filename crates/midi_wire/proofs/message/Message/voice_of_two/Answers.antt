use Rattle.midi_wire.proofs.Makers.{voice-two}
use Rattle.midi_wire.proofs.message.Message.voice_of_two.Goals as goal

pub with_two-requires : goal.with_two-requires
with_two-requires c = voice-two c.args.base c.args.channel c.args.first c.args.second c.requires c.if-channel-lt-CHANNELS.true c.if-first-lt-FIRST_STATUS.true c.if-second-lt-FIRST_STATUS.true
