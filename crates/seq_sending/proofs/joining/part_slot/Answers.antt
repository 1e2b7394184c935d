use Rattle.std.proofs.Common.{sym, subst, ◌∙◌}
use Rattle.patch_graph.specs.Index.{targets_of}
use Rattle.seq_sending.specs.Table.{IsWayFound, IsSlotFound}
use Rattle.seq_sending.proofs.Joined.{here-changed, agree-removed, its-removed}
use Rattle.seq_sending.proofs.Known.{some-is}
use Rattle.seq_sending.proofs.joining.part_slot.Goals as goal
use Rattle.seq_sending.proofs.joining.part_slot.Goals.{then-is_current, else-is_current}

pub returns-else-not-known : goal.returns-else-not-known
returns-else-not-known c clients edges row at there port is stood kept found e = elim c.if-is_current.branch [
  | then-is_current w ↦
      let a = c.args in
      let g = a.graph.now in
      let s = a.source.now in
      let t = a.target.now in
      let new = w.part.new.self in
      subst (IsWayFound clients g a.changes.now at) (some-is new found (sym w.slot-is ∙ e))
      (here-changed clients edges g a.changes.now s row at there (agree-removed clients edges g s t port is) c.in-Some.found new
      (subst (IsSlotFound clients edges a.changes.now at) c.in-Some.is kept) w.part.ensures.at (λ _. c.is_current.ensures w.if-is_current.true)
      (λ ways. w.part.ensures.ways (sym w.known-is ∙ c.if-not-known.false) clients (targets_of edges s) stood (its-removed clients edges g s t port is) ways))
  | else-is_current w ↦ cc
]
