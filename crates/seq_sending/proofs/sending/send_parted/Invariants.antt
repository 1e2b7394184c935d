use Rattle.std.proofs.Common.{◌≡◌, ◌≤◌, ◌+◌, ◌++◌, length, drop}
use Rattle.std.specs.Prelude.{vec_len, vec_capacity}
use Rattle.seq_state.specs.Step.{pools_after, copies_with_room}
use Rattle.seq_sending.specs.Ways.{copies_by_branches}
use Rattle.seq_sending.proofs.sending.send_parted.Given as goal

abbrev pub invariant-loop-branch : goal.invariant-loop-branch
invariant-loop-branch g l =
    let c = l.fn.clients in
    let bytes = g.M.Carried.bytes l.message in
    record {
      clients : l.clients.clients ≡ c.clients;
      pools : pools_after l.clients.pools (copies_by_branches l.moment bytes (drop l.branch-index l.branches)) ≡ pools_after c.pools (copies_by_branches l.moment bytes l.branches);
      sent : l.out.items ++ copies_with_room l.clients.pools (copies_by_branches l.moment bytes (drop l.branch-index l.branches)) ≡ l.fn.out.items ++ copies_with_room c.pools (copies_by_branches l.moment bytes l.branches);
      room : vec_len l.out + length l.branches ≤ vec_capacity l.out + l.branch-index;
    }
