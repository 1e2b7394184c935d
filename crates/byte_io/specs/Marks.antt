-- Definition: The mark of a sink after a call that writes to it.
use Rattle.std.specs.Prelude.{◌≡◌, ◌⊎◌, Bool, true, false}

-- A sink that the answer does not blame has not failed; one that it blames has failed, or may take
-- no byte. Whether it may take none stays as it was.
pub record SinkMarks {W : Type 0} (failed takes_some : W → Bool) (old new : W)
    (blamed : Bool) : Type 0 where
  pub unmarked : blamed ≡ false → failed new ≡ false
  pub marked : blamed ≡ true → (failed new ≡ true) ⊎ (takes_some old ≡ false)
  pub eager : takes_some new ≡ takes_some old
