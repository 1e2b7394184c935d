use Rattle.smf_files.proofs.Writing.{whole-steps}
use Rattle.smf_files.proofs.write.written.Goals as goal

pub returns : goal.returns
returns c = whole-steps _ _ _ c.args.events.now _ _ _ _ _ _ _ _ _ c.requires.measured c.in_ok-out.ensures.items c.in_ok-push_chunk_header.ensures c.in_ok-push_u16.ensures c.in_ok-push_u16-2.ensures c.in_ok-push_u16-3.ensures c.in_ok-push_chunk_header-2.ensures c.in_ok-push_tempo.ensures c.in_ok-push_events.ensures c.in_ok-extend_from_slice.ensures.items
