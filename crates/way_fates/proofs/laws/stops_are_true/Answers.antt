use Rattle.way_fates.proofs.Stopping.{passes-untested}
use Rattle.way_fates.proofs.Lawful.{stopped-where, stop-told}
use Rattle.way_fates.proofs.laws.stops_are_true.Goals as goal

pub returns : goal.returns
returns c = record {
  passes = passes-untested;
  stopped = λ roster moment source message path filter why told.
      stopped-where roster.clients filter why path message (stop-told roster moment source message path filter why told);
}
