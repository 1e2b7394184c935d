use Rattle.std.proofs.Common.{refl}
use Rattle.midi_wire.specs.Messages.{begins}
use Rattle.midi_wire.specs.Readings.{reading, rest}
use Rattle.midi_wire.proofs.worked_streams.Goals as goal

pub returns-clause-running : goal.returns-clause-running
unfolding reading begins
returns-clause-running c = refl

pub returns-clause-inside : goal.returns-clause-inside
unfolding reading begins
returns-clause-inside c = refl

pub returns-clause-another : goal.returns-clause-another
unfolding reading begins
returns-clause-another c = refl

pub returns-clause-tune : goal.returns-clause-tune
unfolding reading begins
returns-clause-tune c = refl

pub returns-clause-tune_ends : goal.returns-clause-tune_ends
unfolding reading begins
returns-clause-tune_ends c = refl

pub returns-clause-unused_ends : goal.returns-clause-unused_ends
unfolding reading begins
returns-clause-unused_ends c = refl

pub returns-clause-matters : goal.returns-clause-matters
unfolding rest begins
returns-clause-matters c = (refl, refl, refl, refl)

pub returns-clause-running_written : goal.returns-clause-running_written
unfolding reading begins
returns-clause-running_written c = refl

pub returns-clause-written_back : goal.returns-clause-written_back
unfolding reading begins
returns-clause-written_back c = refl

pub returns-clause-two_statuses : goal.returns-clause-two_statuses
unfolding reading begins
returns-clause-two_statuses c = refl
