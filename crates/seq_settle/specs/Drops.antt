-- Representation: Cells that go with a client, with one of its ports or queues, and cells on a
-- queue.
use Rattle.std.specs.Prelude.{◌≡◌, ℕ, ◌==◌, Bool, true, false, not, ◌&&◌, ◌||◌, if◌then◌else◌, Option, Some, None}
use Rattle.std.specs.FinMap
use Rattle.cell_pools.specs.Cells.{Store, StandsAt, SameBefore, keys_of, size_of}
use Rattle.seq_state.specs.State.{OwnedPlayback}
use Rattle.seq_settle.specs.declared.which.Which.{Which}
use Rattle.seq_settle.specs.declared.which.Which.TheVariants.{OfPort, OnQueue, All, AllAndOnQueues}
use Rattle.seq_settle.specs.declared.head.PlaybackHead.{PlaybackHead}
use Rattle.seq_settle.specs.Cells.{RankedPlayback, PlaybackCell, pending_in}

abbrev pub kept_cell : (OwnedPlayback → Bool) → Option PlaybackCell → Option PlaybackCell
kept_cell stays None = None
kept_cell stays (Some c) = if stays (pending_in c) then Some c else None

-- which of a client's playbacks go
abbrev pub goes : Which → ℕ → Bool
goes (OfPort port) p = p == port
goes (OnQueue queue) p = false
goes All p = true
goes AllAndOnQueues p = true

-- which of its queues go, with all that waits on them
abbrev pub queue_goes : Which → ℕ → Bool
queue_goes (OfPort port) n = false
queue_goes (OnQueue queue) n = n == queue
queue_goes All n = false
queue_goes AllAndOnQueues n = true

-- what stays where these of a client go
abbrev pub stays : ℕ → Which → OwnedPlayback → Bool
stays client which p = not (((p.client == client)
    && goes which p.playback.port) || ((p.queue.client == client)
    && queue_goes which p.queue.queue))

-- the same of what a cell says of itself
abbrev pub cell_goes : ℕ → Which → PlaybackHead → Bool
cell_goes client which h = ((h.client == client)
    && goes which h.port) || ((h.queue.client == client) && queue_goes which h.queue.queue)

-- A cell was dropped where it goes, and all else is as it was; before the place where its key stood
-- among its owner's, the keys are the same.
pub record IsDropped (client : ℕ) (which : Which) (old new : Store RankedPlayback)
    (key : ℕ) : Type 0 where
  pub cells : (q : ℕ) →
      FinMap.get new.cells q
      ≡ (if q == key then kept_cell (stays client which) (FinMap.get old.cells key)
      else FinMap.get old.cells q)
  pub before : (owner i : ℕ) → StandsAt (keys_of old owner) i key →
      SameBefore i (keys_of old owner) (keys_of new owner)
  pub sizes : (owner : ℕ) → size_of new owner ≡ size_of old owner
