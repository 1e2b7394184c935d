-- What is told at the end of a run.
use Rattle.std.proofs.Common.{◌≡◌, ℕ}
use Rattle.std.specs.List.{flat_map}
use Rattle.seq_patchbay.proofs.Listed.{same-listing}
use Rattle.seq_state.specs.State.{State}
use Rattle.seq_state.specs.Step.{due, event_copies, settle}
use Rattle.seq_engine.specs.Ending.{listing_of}

-- what is still sent changes nothing of the listing
pub settled_listing : (s : State) (end : ℕ) → listing_of (settle s end).state ≡ listing_of s
settled_listing s end = same-listing s.clients s.pools (flat_map (event_copies s) (due s end)) s.edges
