use Rattle.std.proofs.Common.{◌≡◌, ℕ, ◌<◌, length}
use Rattle.std.specs.Prelude.{slice_index}
use Rattle.std.specs.FinMap.{get}
use Rattle.seq_clients.specs.Roster.{room_of}
use Rattle.way_fates.proofs.rooms.Rooms.new.Given as goal

abbrev pub invariant-loop-number : goal.invariant-loop-number
invariant-loop-number l = record {
  whole : length l.left.items ≡ l.number;
  rooms : (c : ℕ) → c < l.number → slice_index l.left.items c ≡ room_of l.moment (get l.clients.pools c);
}
