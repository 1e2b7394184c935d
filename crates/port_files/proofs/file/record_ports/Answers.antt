use Rattle.std.proofs.Common.{◌∙◌, map, ap}
use Rattle.smf_grammar.specs.Seen.{tracks_seen, file_seen}
use Rattle.port_files.specs.Seen.{capped, tracks_kept}
use Rattle.port_files.specs.Tracks.{ports_file}
use Rattle.port_files.proofs.Capped.{lent-file, text, taken, refused, reads_back}
use Rattle.port_files.proofs.file.record_ports.Goals as goal

pub returns-clause-text : goal.returns-clause-text
returns-clause-text c =
    text 1 c.args.clock.now.division (ports_file c.args.clock.now c.args.ports.now c.args.entries.now).tracks (file_seen 1 c.division.result c.as_slice-2.result.now)
    (lent-file 1 c.args.clock.now.division c.division.result (ports_file c.args.clock.now c.args.ports.now c.args.entries.now).tracks (tracks_seen c.as_slice-2.result.now) c.division.ensures
    (ap tracks_seen c.as_slice-2.ensures.value ∙ c.in_ok-lent.ensures ∙ ap (λ ts. map (map capped) (tracks_kept ts)) c.as_slice.ensures.value ∙ ap (map (map capped)) c.in_ok-tracks.ensures))
    c.write_tracks.result c.write_tracks.ensures.text c.write_tracks.ensures.taken

pub returns-clause-taken : goal.returns-clause-taken
returns-clause-taken c =
    taken 1 c.args.clock.now.division (ports_file c.args.clock.now c.args.ports.now c.args.entries.now).tracks (file_seen 1 c.division.result c.as_slice-2.result.now)
    (lent-file 1 c.args.clock.now.division c.division.result (ports_file c.args.clock.now c.args.ports.now c.args.entries.now).tracks (tracks_seen c.as_slice-2.result.now) c.division.ensures
    (ap tracks_seen c.as_slice-2.ensures.value ∙ c.in_ok-lent.ensures ∙ ap (λ ts. map (map capped) (tracks_kept ts)) c.as_slice.ensures.value ∙ ap (map (map capped)) c.in_ok-tracks.ensures))
    c.write_tracks.result c.write_tracks.ensures.taken

pub returns-clause-refused : goal.returns-clause-refused
returns-clause-refused c =
    refused 1 c.args.clock.now.division (ports_file c.args.clock.now c.args.ports.now c.args.entries.now).tracks (file_seen 1 c.division.result c.as_slice-2.result.now)
    (lent-file 1 c.args.clock.now.division c.division.result (ports_file c.args.clock.now c.args.ports.now c.args.entries.now).tracks (tracks_seen c.as_slice-2.result.now) c.division.ensures
    (ap tracks_seen c.as_slice-2.ensures.value ∙ c.in_ok-lent.ensures ∙ ap (λ ts. map (map capped) (tracks_kept ts)) c.as_slice.ensures.value ∙ ap (map (map capped)) c.in_ok-tracks.ensures))
    c.write_tracks.result c.write_tracks.ensures.refused

pub returns-clause-reads_back : goal.returns-clause-reads_back
returns-clause-reads_back c =
    reads_back 1 c.args.clock.now.division (ports_file c.args.clock.now c.args.ports.now c.args.entries.now).tracks (file_seen 1 c.division.result c.as_slice-2.result.now)
    (lent-file 1 c.args.clock.now.division c.division.result (ports_file c.args.clock.now c.args.ports.now c.args.entries.now).tracks (tracks_seen c.as_slice-2.result.now) c.division.ensures
    (ap tracks_seen c.as_slice-2.ensures.value ∙ c.in_ok-lent.ensures ∙ ap (λ ts. map (map capped) (tracks_kept ts)) c.as_slice.ensures.value ∙ ap (map (map capped)) c.in_ok-tracks.ensures))
    c.write_tracks.result c.write_tracks.ensures.reads_back c.write_tracks.ensures.taken
