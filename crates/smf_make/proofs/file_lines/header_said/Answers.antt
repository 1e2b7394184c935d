use Rattle.std.proofs.Common.{◌∙◌, [], sym, ap}
use Rattle.script_text.specs.Words.{words}
use Rattle.std.specs.Option.{option_map}
use Rattle.smf_grammar.specs.Seen.{header_seen}
use Rattle.smf_make.specs.SaidEvents.{header_said}
use Rattle.smf_make.proofs.FirstWords.{none-left}
use Rattle.smf_make.proofs.FileLines.{no-tracks, no-division, whole-header}
use Rattle.smf_make.proofs.file_lines.header_said.Goals as goal

pub returns-in_err-tracks : goal.returns-in_err-tracks
unfolding header_said
returns-in_err-tracks c =
    ap (option_map header_seen) c.from_residual-in_err-tracks.ensures
    ∙ sym (no-tracks (words c.args.line.now) (words c.in_ok-format.rest.now) [] [] c.in_ok-format.format 0 0 (sym c.in_ok-format.ensures) (sym c.in_err-tracks.ensures))

pub returns-in_err-division : goal.returns-in_err-division
unfolding header_said
returns-in_err-division c =
    ap (option_map header_seen) c.from_residual-in_err-division.ensures
    ∙ sym (no-division (words c.args.line.now) (words c.in_ok-format.rest.now) (words c.in_ok-tracks.rest.now) [] c.in_ok-format.format c.in_ok-tracks.tracks 0 (sym c.in_ok-format.ensures) (sym c.in_ok-tracks.ensures) (sym c.in_err-division.ensures))

pub returns : goal.returns
unfolding header_said
returns c =
    c.can_head.ensures
    ∙ sym (whole-header (words c.args.line.now) (words c.in_ok-format.rest.now) (words c.in_ok-tracks.rest.now) (words c.in_ok-division.rest.now) c.in_ok-format.format c.in_ok-tracks.tracks c.in_ok-division.division (sym c.in_ok-format.ensures) (sym c.in_ok-tracks.ensures) (sym c.in_ok-division.ensures)
    (none-left c.split_word.result _ c.split_word.ensures.none (sym c.is_some.ensures ∙ c.if-is_some.false)))
