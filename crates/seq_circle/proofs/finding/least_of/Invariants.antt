use Rattle.std.proofs.Common.{◌≡◌, []}
use Rattle.seq_circle.specs.Finding.{absent_count}
use Rattle.seq_circle.specs.Least.{AreAsked}
use Rattle.seq_circle.proofs.finding.least_of.Given as goal

abbrev pub invariant-loop-members : goal.invariant-loop-members
invariant-loop-members l = record {
  owner : l.members.owner ≡ l.fn.owner;
  asked : AreAsked l.fn.owner l.inputs [] l.members.joined.items;
}

-- a pass that adds someone leaves fewer who are not there
abbrev pub decreases-loop-members : goal.decreases-loop-members
decreases-loop-members l = absent_count l.members.owner l.members.joined.items
