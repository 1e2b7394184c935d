use Rattle.std.proofs.Common.{length}
use Rattle.seq_session.proofs.source.+readers_are_sound.Given as goal

abbrev pub decreases-readers_are_sound : goal.decreases-readers_are_sound
decreases-readers_are_sound g l = length l.scripts.now
