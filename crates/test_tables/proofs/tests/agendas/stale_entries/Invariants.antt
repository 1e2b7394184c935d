use Rattle.std.proofs.Common.{◌≡◌}
use Rattle.test_tables.proofs.Single.{single}
use Rattle.test_tables.proofs.tests.agendas.stale_entries.Given as goal

abbrev pub invariant-loop-turn : goal.invariant-loop-turn
invariant-loop-turn g l = l.agenda.keys ≡ single l.cell (record { moment = l.turn; rank = 0; place = 0 })
