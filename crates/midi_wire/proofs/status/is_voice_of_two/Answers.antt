use Rattle.std.proofs.Common.{arith}
use Rattle.midi_wire.proofs.Table.{voice-bit}
use Rattle.midi_wire.proofs.status.is_voice_of_two.Goals as goal

pub returns : goal.returns
returns c = voice-bit c.args.byte (omega arith)
