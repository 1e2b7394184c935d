-- The bytes that are copied and those behind them make what was left.
use Rattle.std.proofs.Common.{arith, length, drop, ◌≤◌, ◌∙◌, sym, ap}
use Rattle.byte_io.specs.Memory.{MemInput}
use Rattle.byte_io.proofs.Moved.{moved, from_place}
use Rattle.byte_io.proofs.mem_source.MemSourceSource.read.Goals as goal

pub returns-clause-given : goal.returns-clause-given
returns-clause-given c =
    let room : c.min-n.result ≤ length (drop c.self.inside.at c.self.inside.bytes.items) = rw (← c.as_slice.ensures.value, ← from_place) (omega arith) in
    ap (λ (s : MemInput). s.left) (sym c.self.view_is) ∙ moved _ _ _ _ _ _ c.as_slice.ensures.value room c.copy_from_slice.ensures.after
