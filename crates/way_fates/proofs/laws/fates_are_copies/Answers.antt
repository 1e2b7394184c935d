use Rattle.patch_graph.specs.Paths.{paths}
use Rattle.way_fates.specs.Laws.{roster_of}
use Rattle.way_fates.proofs.Lawful.{all-stopped, all-sent, all-arrived}
use Rattle.way_fates.proofs.laws.fates_are_copies.Goals as goal

pub returns : goal.returns
returns c s moment source message = record {
  stopped = all-stopped moment source message (roster_of s) (paths s.edges source);
  sent = all-sent moment source message (roster_of s) (paths s.edges source);
  arrived = all-arrived moment source message (roster_of s) (paths s.edges source);
}
