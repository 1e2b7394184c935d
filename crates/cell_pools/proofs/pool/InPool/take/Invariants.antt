use Rattle.std.proofs.Common.{◌≡◌, ◌≤◌, ◌++◌, length, vec_capacity}
use Rattle.cell_pools.proofs.pool.InPool.take.Given as goal

abbrev pub invariant-loop-turn : goal.invariant-loop-turn
invariant-loop-turn g l = record {
  few : l.count ≤ length l.initial.self-inside.items.items;
  counted : length l.taken.items ≡ l._turn;
  moved : l.initial.self-inside.items.items ≡ l.taken.items ++ l.self-inside.items.items;
  room : l.count ≤ vec_capacity l.taken;
  size : l.self-inside.items.capacity ≡ l.initial.self-inside.items.capacity;
  lost : l.self-inside.lost ≡ l.initial.self-inside.lost;
  listening : l.self-inside.listening ≡ l.initial.self-inside.listening;
}
