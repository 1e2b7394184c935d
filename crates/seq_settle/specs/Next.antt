-- Definition: When something is due next.
use Rattle.std.specs.Prelude.{ℕ, min, List, [], ◌∷◌, Option, Some, None}
use Rattle.seq_state.specs.State.{State}
use Rattle.seq_state.specs.Step.{Timed}
use Rattle.seq_state.specs.Laws.{all_timed}

abbrev pub earlier : ℕ → Option ℕ → ℕ
earlier m None = m
earlier m (Some k) = min m k

-- the least moment
abbrev pub least_moment : List Timed → Option ℕ
least_moment [] = None
least_moment (t ∷ ts) = Some (earlier t.moment (least_moment ts))

-- the least moment of all events that are pending, by their queues as they run now; none where none
-- has one
abbrev pub next_moment : State → Option ℕ
next_moment s = least_moment (all_timed s.clients s.pending)
