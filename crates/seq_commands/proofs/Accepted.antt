-- What is known of a command that is accepted.
use Rattle.std.proofs.Common.{◌≡◌, Bool, true, false, List, ◌∷◌, Option, Some, None, refl}
use Rattle.seq_state.specs.declared.refusal.Refusal.{Refusal}
use Rattle.seq_state.specs.State.{State}
use Rattle.seq_state.specs.Table.{Condition, first_refusal}
use Rattle.seq_state.specs.Step.{Stepped, unless}

-- the first condition doesn't hold, and none of the others
pub none-holds : (r : Refusal) (b : Bool) (cs : List Condition) → first_refusal ((r, b) ∷ cs) ≡ None →
    (b ≡ false) × (first_refusal cs ≡ None)
none-holds r true cs e = cc
none-holds r false cs e = (refl, e)

pub unless-none : (o : Option Refusal) (s : State) (effect : Stepped) → o ≡ None → unless o s effect ≡ effect
unless-none None s effect e = refl
unless-none (Some r) s effect e = cc
