use Rattle.std.proofs.Common.{sym}
use Rattle.std.proofs.lemmas.List.{length-map}
use Rattle.smf_grammar.specs.Seen.{tracks_seen}
use Rattle.smf_files.proofs.WritingTracks.{file-steps}
use Rattle.smf_files.proofs.tracks.written.Goals as goal

pub returns : goal.returns
returns c = file-steps c.args.format _ c.args.division (tracks_seen c.args.tracks.now) _ _ _ _ _ _ (sym (length-map c.args.tracks.now _)) c.in_ok-out.ensures.items c.in_ok-push_chunk_header.ensures c.in_ok-push_u16.ensures c.in_ok-push_u16-2.ensures c.in_ok-push_u16-3.ensures c.in_ok-push_tracks.ensures
