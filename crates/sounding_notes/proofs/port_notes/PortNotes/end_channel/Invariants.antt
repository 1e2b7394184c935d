use Rattle.std.proofs.Common.{◌≡◌, ◌<◌, ◌==◌, ◌&&◌, ℕ, length, false, if◌then◌else◌}
use Rattle.std.specs.Prelude.{nat_lt}
use Rattle.sounding_notes.specs.Kept.{reads, port_places}
use Rattle.sounding_notes.specs.Sounding.{most_notes}
use Rattle.midi_wire.specs.Kinds.{channels}
use Rattle.sounding_notes.proofs.port_notes.PortNotes.end_channel.Given as goal

-- the notes of the channel have ended that are below
abbrev pub invariant-loop-note : goal.invariant-loop-note
invariant-loop-note l = record {
  whole : length l.self ≡ port_places;
  ended : (c n : ℕ) → c < channels → n < most_notes →
      reads l.self c n ≡ (if (c == l.channel) && nat_lt n l.note then false else reads l.initial.self c n);
}
