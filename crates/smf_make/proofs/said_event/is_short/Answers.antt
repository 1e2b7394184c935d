use Rattle.smf_files.proofs.WritingTracks.{bytes-fit}
use Rattle.smf_make.proofs.said_event.is_short.Goals as goal

pub returns : goal.returns
returns c = bytes-fit c.args.bytes.now c.type_inv.bytes
