-- Definition: A text that is gathered and written piece by piece.
use Rattle.std.specs.Prelude.{◌≡◌, ℕ, List, ◌++◌}
use Rattle.byte_io.specs.Moved.{Took}

-- a sink took the first part of all, which a text that is gathered and one that is to come complete
pub record IsGathered {W : Type 0} (HasTaken : W → List ℕ → Type 0) (old new : W)
    (text rest all : List ℕ) : Type 0 where
  pub gained : List ℕ
  pub took : Took HasTaken old gained new
  pub whole : gained ++ text ++ rest ≡ all

-- a sink took the first part of all, perhaps nothing and perhaps everything
pub record TookFirst {W : Type 0} (HasTaken : W → List ℕ → Type 0) (old : W) (all : List ℕ)
    (new : W) : Type 0 where
  pub gained : List ℕ
  pub missing : List ℕ
  pub took : Took HasTaken old gained new
  pub whole : all ≡ gained ++ missing
