use Rattle.std.proofs.Common.{◌≡◌, map, take, drop}
use Rattle.midi_wire.specs.Messages.{AllMessages}
use Rattle.smf_grammar.specs.Texts.{bad_event}
use Rattle.smf_files.proofs.Writing.{shifted}
use Rattle.smf_files.proofs.write.first_bad.Given as goal

abbrev pub invariant-loop-i : goal.invariant-loop-i
invariant-loop-i l = record {
  bad : bad_event 0 l.events ≡ shifted l.i (bad_event l.before (drop l.i l.events));
  messages : AllMessages (map (λ e. e.message) (take l.i l.events));
}
