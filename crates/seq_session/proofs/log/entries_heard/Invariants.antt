use Rattle.std.proofs.Common.{◌≡◌, ◌+◌, ◌<◌, ℕ, eqb, length, get_or, take}
use Rattle.std.specs.List.{count_by}
use Rattle.seq_session.specs.AllLogs.{hearer}
use Rattle.seq_session.proofs.log.entries_heard.Given as goal

abbrev pub invariant-loop-entry : goal.invariant-loop-entry
invariant-loop-entry l = record {
  so_far : (j : ℕ) → j < 64 → get_or l.counts j 0 ≡ count_by (λ e. eqb (hearer e) (128 + j)) (take l.entry-index l.entries);
  space : length l.counts ≡ 64;
}
