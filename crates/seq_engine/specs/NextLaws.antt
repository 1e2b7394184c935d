-- Law: What holds of the moment at which something is due next.
use Rattle.std.specs.Prelude.{◌≡◌, ℕ, ◌<◌, [], length, Some, None}
use Rattle.seq_state.specs.State.{State}
use Rattle.seq_state.specs.Step.{due, settle, all_at}
use Rattle.seq_state.specs.Laws.{AreFilled}
use Rattle.seq_settle.specs.Next.{next_moment}

-- Before the moment that is told nothing is due, and settling changes nothing.
pub record NextLaw : Type 0 where
  pub never : (s : State) (m : ℕ) → next_moment s ≡ None → due s m ≡ []
  pub before : (s : State) (m k : ℕ) → next_moment s ≡ Some k → m < k → due s m ≡ []
  pub idle : (s : State) (m : ℕ) → AreFilled s → due s m ≡ []
      → ((settle s m).state ≡ s) × ((settle s m).delivered ≡ [])
  -- at that moment something is sent, though it may reach nobody
  pub there : (s : State) (k : ℕ) → next_moment s ≡ Some k
      → (due s k ≡ all_at s.clients s.pending k) × (0 < length (due s k))
  -- after settling, what is due next is later
  pub later : (s : State) (m k : ℕ) → next_moment (settle s m).state ≡ Some k → m < k
