-- Definition: What files hold.
use Rattle.std.specs.Prelude.{◌≡◌, ◌+◌, ◌⊎◌, ℕ, Bool, true, List, Result, Ok, Err}
use Rattle.std.specs.Global.{Vec}
use Rattle.byte_io.specs.Moved.{GaveAll}
use Rattle.file_store.specs.declared.standing.Standing.{Standing}
use Rattle.smf_grammar.specs.Chunks.{most_bytes}

-- what a file holds, and of one that could not be read what stands at its path
abbrev pub bytes_read : Result (Vec ℕ) Standing → Result (List ℕ) Standing
bytes_read (Ok bytes) = Ok bytes.items
bytes_read (Err there) = Err there

module _ {R : Type 0} (IsOpened : List ℕ → R → Type 0) (HasLeft : R → List ℕ → Type 0) where
  -- These bytes are what the reads of the file at the path gave: all that it has, or so many.
  pub record IsOfFile (most : ℕ) (path bytes : List ℕ) : Type 0 where
    pub before : R
    pub after : R
    pub opened : IsOpened path before
    pub gave : GaveAll HasLeft most before bytes after

  module _ (CannotOpen : List ℕ → Type 0) (failed : R → Bool) where
    -- A read of the file at this path failed.
    pub record IsBroken (path : List ℕ) : Type 0 where
      pub before : R
      pub after : R
      pub opened : IsOpened path before
      pub broken : failed after ≡ true

    -- No file could be opened at this path, or a read of it failed.
    abbrev pub IsUnreadable : List ℕ → Type 0
    IsUnreadable path = CannotOpen path ⊎ IsBroken path

    module _ (IsStanding : List ℕ → Standing → Type 0) where
      -- what was read of the file at a path, and of one that could not be read what stands there
      abbrev pub IsContent : List ℕ → Result (List ℕ) Standing → Type 0
      IsContent path (Ok bytes) = IsOfFile (most_bytes + 1) path bytes
      IsContent path (Err there) = IsUnreadable path × IsStanding path there
