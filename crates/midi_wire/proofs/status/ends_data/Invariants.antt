use Rattle.std.proofs.Common.{◌≡◌, drop}
use Rattle.midi_wire.specs.Messages.{ends_data}
use Rattle.midi_wire.proofs.status.ends_data.Given as goal

-- the bytes so far are data, so what is left decides
abbrev pub invariant-loop-i : goal.invariant-loop-i
invariant-loop-i l = ends_data l.tail ≡ ends_data (drop l.i l.tail)
