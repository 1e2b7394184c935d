-- Keys that stay, and the key of a head.
use Rattle.std.proofs.Common.{◌≡◌, List, [], ◌∷◌, Some, refl, ap}
use Rattle.std.specs.Ordering.{nat_cmp}
use Rattle.std.specs.FinMap.{FinMap}
use Rattle.seq_state.specs.State.{Client, DueMessage}
use Rattle.seq_settle.specs.Moments.{SameMoments}
use Rattle.seq_settle.specs.Cells.{PlaybackCell, pending_in, key_of, cell_key, first_moment}
use Rattle.seq_settle.specs.Sends.{head_of, key_of_head, key_of_first, next_due}

-- a cell on a queue that gives the same moments has the same key
pub key_same : (was clients : FinMap nat_cmp Client) (c : PlaybackCell) → SameMoments was clients c.1.queue → key_of was (Some c) ≡ key_of clients (Some c)
key_same was clients c same = go c.1.events
  where
    go : (es : List DueMessage) → cell_key c (first_moment was (pending_in c) es) ≡ cell_key c (first_moment clients (pending_in c) es)
    go [] = refl
    go (x ∷ xs) = ap (cell_key c) (same c.1.accepted x.due)

-- what a cell says of itself gives its key
pub key_of_head-is : (clients : FinMap nat_cmp Client) (c : PlaybackCell) → key_of_head clients (head_of c) ≡ key_of clients (Some c)
key_of_head-is clients c = go c.1.events
  where
    go : (es : List DueMessage) → key_of_first clients (head_of c) (next_due es) ≡ cell_key c (first_moment clients (pending_in c) es)
    go [] = refl
    go (x ∷ xs) = refl
