use Rattle.std.proofs.Common.{refl}
use Rattle.std.specs.Fmt.{digits}
use Rattle.midi_wire.specs.Messages.{begins}
use Rattle.smf_grammar.specs.Quantities.{quantity}
use Rattle.smf_grammar.specs.Pairs.{group_at, voice_at, sized_at, meta_at, event_at, pair_at}
use Rattle.smf_grammar.specs.Chunks.{header_of, header_at, chunk_at}
use Rattle.smf_grammar.specs.Reading.{pairs_from, pairs_of, tracks_from, file_reading}
use Rattle.smf_grammar.proofs.Whole.{reading-file}
use Rattle.smf_text.specs.AllTexts.{meta_words}
use Rattle.smf_text.specs.Rows.{example, example_file}
use Rattle.smf_text.proofs.PlacedExample.{placed-file}
use Rattle.smf_text.proofs.laws.worked_texts.Goals as goal

pub returns-clause-named : goal.returns-clause-named
unfolding meta_words digits
returns-clause-named c = record {
  sequence = refl;
  text = refl;
  copyright = refl;
  name = refl;
  instrument = refl;
  lyric = refl;
  marker = refl;
  cue = refl;
  program = refl;
  device = refl;
  channel = refl;
  port = refl;
  end = refl;
  tempo = refl;
  smpte = refl;
  time = refl;
  key = refl;
  sharps = refl;
  most_sharps = refl;
  most_flats = refl;
  sequencer = refl;
}

pub returns-clause-plain : goal.returns-clause-plain
unfolding meta_words digits
returns-clause-plain c = record {
  sequence = refl;
  channel = refl;
  port = refl;
  end = refl;
  tempo = refl;
  long_tempo = refl;
  smpte = refl;
  time = refl;
  key = refl;
  text_of_no_name = refl;
  other = refl;
  none = refl;
}

pub returns-clause-quoted : goal.returns-clause-quoted
unfolding meta_words digits
returns-clause-quoted c = record { empty = refl; controls = refl; quotation_mark = refl; backslash = refl; high = refl; sequencer = refl }

pub returns-clause-events : goal.returns-clause-events
unfolding meta_words digits
returns-clause-events c = record { note = refl; program = refl; exclusive = refl; first_part = refl; empty = refl; last_part = refl; escape = refl; end = refl }

pub returns-clause-file : goal.returns-clause-file
unfolding meta_words digits quantity group_at voice_at sized_at meta_at event_at pair_at header_of header_at chunk_at pairs_from pairs_of tracks_from file_reading begins
returns-clause-file c = record { read = reading-file example example_file refl; text = refl }

pub returns-clause-placed : goal.returns-clause-placed
returns-clause-placed c = placed-file
