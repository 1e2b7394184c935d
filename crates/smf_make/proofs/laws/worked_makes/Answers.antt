use Rattle.std.proofs.Common.{refl}
use Rattle.std.specs.Fmt.{digits}
use Rattle.midi_wire.specs.Messages.{begins}
use Rattle.smf_grammar.specs.Chunks.{header_of}
use Rattle.smf_grammar.specs.Texts.{shortest}
use Rattle.smf_text.specs.AllTexts.{meta_words}
use Rattle.smf_make.specs.SaidEvents.{quoted_from, timed_event, track_said, header_said}
use Rattle.smf_make.specs.SaidFiles.{said_file}
use Rattle.smf_make.proofs.laws.worked_makes.Goals as goal

pub returns-clause-named : goal.returns-clause-named
unfolding meta_words digits begins header_of shortest quoted_from timed_event track_said header_said said_file
returns-clause-named c = record {
  sequence = refl;
  text = refl;
  copyright = refl;
  name = refl;
  instrument = refl;
  lyric = refl;
  marker = refl;
  cue = refl;
  program = refl;
  device = refl;
  channel = refl;
  port = refl;
  end = refl;
  tempo = refl;
  smpte = refl;
  time = refl;
  key = refl;
  sharps = refl;
  most_sharps = refl;
  most_flats = refl;
  sequencer = refl;
  too_great = refl;
  too_few = refl;
  too_many = refl;
  too_sharp = refl;
  too_flat = refl;
  unknown = refl;
}

pub returns-clause-plain : goal.returns-clause-plain
unfolding meta_words digits begins header_of shortest quoted_from timed_event track_said header_said said_file
returns-clause-plain c = record {
  none = refl;
  other = refl;
  tempo = refl;
  short_tempo = refl;
  no_type = refl;
  one_digit = refl;
}

pub returns-clause-quoted : goal.returns-clause-quoted
unfolding meta_words digits begins header_of shortest quoted_from timed_event track_said header_said said_file
returns-clause-quoted c = record {
  empty = refl;
  escaped_byte = refl;
  marks = refl;
  blanks = refl;
  high = refl;
  unclosed = refl;
  unopened = refl;
  behind = refl;
  no_blank = refl;
  other_escape = refl;
  one_digit = refl;
}

pub returns-clause-events : goal.returns-clause-events
unfolding meta_words digits begins header_of shortest quoted_from timed_event track_said header_said said_file
returns-clause-events c = record {
  note = refl;
  lower = refl;
  program = refl;
  exclusive = refl;
  empty = refl;
  last_part = refl;
  timed = refl;
  last_tick = refl;
  no_tick = refl;
  data_missing = refl;
  no_data = refl;
  no_status = refl;
  real_time = refl;
  no_word = refl;
}

pub returns-clause-passed : goal.returns-clause-passed
unfolding meta_words digits begins header_of shortest quoted_from timed_event track_said header_said said_file
returns-clause-passed c = record {
  empty = refl;
  blanks = refl;
  remark = refl;
  track = refl;
}

pub returns-clause-faults : goal.returns-clause-faults
unfolding meta_words digits begins header_of shortest quoted_from timed_event track_said header_said said_file
returns-clause-faults c = record {
  nothing = refl;
  one_line_end = refl;
  bad_header = refl;
  bad_format = refl;
  bad_count = refl;
  bad_division = refl;
  no_track = refl;
  other_track = refl;
  no_event = refl;
  no_end = refl;
  fallen = refl;
  far = refl;
  no_second = refl;
  more = refl;
}

pub returns-clause-files : goal.returns-clause-files
unfolding meta_words digits begins header_of shortest quoted_from timed_event track_said header_said said_file
returns-clause-files c = record {
  printed = refl;
  typed = refl;
}
