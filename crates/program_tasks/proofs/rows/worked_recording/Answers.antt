use Rattle.std.proofs.Common.{◌≡◌, ◌∙◌, ap, arith}
use Rattle.midi_wire.specs.Messages.{begins}
use Rattle.smf_grammar.specs.Texts.{shortest, file_text}
use Rattle.tempo_clock.specs.Ticks.{numerator, duration, tempo_or, resolution, tick_at}
use Rattle.program_tasks.specs.Recording.{recording_clock, recording_of}
use Rattle.program_tasks.specs.Rows.{a_port, entries, three_events}
use Rattle.port_files.proofs.Ticks.{tick-is}
use Rattle.program_tasks.proofs.rows.worked_recording.Goals as goal

first : tick_at recording_clock 600000 ≡ 0
unfolding numerator duration tempo_or resolution
first = tick-is recording_clock 600000 0 (omega arith) (omega arith) (omega arith)

second : tick_at recording_clock 1600000 ≡ 1
unfolding numerator duration tempo_or resolution
second = tick-is recording_clock 1600000 1 (omega arith) (omega arith) (omega arith)

third : tick_at recording_clock 499999999 ≡ 479
unfolding numerator duration tempo_or resolution
third = tick-is recording_clock 499999999 479 (omega arith) (omega arith) (omega arith)

events : recording_of (a_port 129 0) entries ≡ three_events 0 1 479
unfolding begins
events =
    ap (λ n. three_events n (tick_at recording_clock 1600000) (tick_at recording_clock 499999999)) first
    ∙ ap (λ n. three_events 0 n (tick_at recording_clock 499999999)) second
    ∙ ap (λ n. three_events 0 1 n) third

pub returns : goal.returns
unfolding shortest file_text
returns c = record {
  events = events;
  file = ap (λ es. file_text 480 500000 es) events;
}
