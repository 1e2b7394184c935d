use Rattle.std.proofs.Common.{◌≡◌, ◌∙◌, [], ◌∷◌, ◌++◌, ap, arith}
use Rattle.std.specs.Fmt.{digits}
use Rattle.midi_wire.specs.Messages.{begins}
use Rattle.smf_grammar.specs.Texts.{shortest}
use Rattle.smf_grammar.specs.Written.{written_file}
use Rattle.tempo_clock.specs.Ticks.{numerator, duration, tempo_or, resolution, tick_at}
use Rattle.port_files.specs.Tracks.{recording_of, port_track, tempo_track, name_pair, event_pairs, end_pair}
use Rattle.port_files.specs.Rows.{a_port, two_tempos, entries, first_events, second_events}
use Rattle.port_files.proofs.Ticks.{tick-is}
use Rattle.port_files.proofs.rows.worked_ports.Goals as goal

note : tick_at two_tempos 500000000 ≡ 96
unfolding numerator duration tempo_or resolution
note = tick-is two_tempos 500000000 96 (omega arith) (omega arith) (omega arith)

exclusive : tick_at two_tempos 1000000000 ≡ 288
unfolding numerator duration tempo_or resolution
exclusive = tick-is two_tempos 1000000000 288 (omega arith) (omega arith) (omega arith)

on : tick_at two_tempos 10416666 ≡ 1
unfolding numerator duration tempo_or resolution
on = tick-is two_tempos 10416666 1 (omega arith) (omega arith) (omega arith)

off : tick_at two_tempos 505208333 ≡ 97
unfolding numerator duration tempo_or resolution
off = tick-is two_tempos 505208333 97 (omega arith) (omega arith) (omega arith)

first : recording_of two_tempos (a_port 129 0) entries ≡ first_events 96 288
unfolding begins
first = ap (λ n. first_events n (tick_at two_tempos 1000000000)) note ∙ ap (λ n. first_events 96 n) exclusive

second : recording_of two_tempos (a_port 130 1) entries ≡ second_events 1 97
unfolding begins
second = ap (λ n. second_events n (tick_at two_tempos 505208333)) on ∙ ap (λ n. second_events 1 n) off

pub returns : goal.returns
unfolding digits shortest written_file
returns c = record {
  first = first;
  second = second;
  file =
      ap (λ es. written_file (record { format = 1; division = 96; tracks = tempo_track two_tempos ∷ (name_pair (a_port 129 0) ∷ event_pairs 0 es ++ end_pair ∷ []) ∷ port_track two_tempos entries (a_port 130 1) ∷ [] })) first
      ∙ ap (λ es. written_file (record { format = 1; division = 96; tracks = tempo_track two_tempos ∷ (name_pair (a_port 129 0) ∷ event_pairs 0 (first_events 96 288) ++ end_pair ∷ []) ∷ (name_pair (a_port 130 1) ∷ event_pairs 0 es ++ end_pair ∷ []) ∷ [] })) second;
}
