use Rattle.seq_settle.specs.Rekeyed.{AreLeaving}
use Rattle.std.specs.Prelude.{vec_len}
use Rattle.seq_settle.proofs.rekeying.rekey_all.Given as goal

abbrev pub invariant-loop-listed : goal.invariant-loop-listed
invariant-loop-listed g l = record {
  leaving : AreLeaving (g.D.Desk.clients l.desk) l.cells.cells l.order (g.A.Agenda.content l.agenda) l.queue l.left.items;
}

abbrev pub decreases-loop-listed : goal.decreases-loop-listed
decreases-loop-listed g l = vec_len l.left
