-- Definition: Bytes that went from a device, or to one.
use Rattle.std.specs.Prelude.{◌≡◌, ◌<◌, ◌≤◌, ◌⊎◌, ◌++◌, ℕ, Bool, List, [], length, true, false}
use Rattle.byte_io.specs.declared.fault.SinkFault.{SinkFault}
use Rattle.byte_io.specs.declared.fault.SinkFault.TheVariants.{Device, TookNothing}

-- Reads gave these bytes: whatever the source has left now, before it had these, and then that.
abbrev pub Gave : {R : Type 0} → (R → List ℕ → Type 0) → R → List ℕ → R → Type 0
Gave HasLeft old bytes new = (rest : List ℕ) → HasLeft new rest → HasLeft old (bytes ++ rest)

-- Reads gave these bytes, no more than were asked for; and then none was left, or as many had come.
pub record GaveAll {R : Type 0} (HasLeft : R → List ℕ → Type 0) (most : ℕ) (old : R)
    (bytes : List ℕ) (new : R) : Type 0 where
  pub gave : Gave HasLeft old bytes new
  pub within : length bytes ≤ most
  pub ended : HasLeft new [] ⊎ (length bytes ≡ most)

-- Reads gave some bytes, and no more than so many.
pub record GaveSome {R : Type 0} (HasLeft : R → List ℕ → Type 0) (most : ℕ)
    (old new : R) : Type 0 where
  pub given : List ℕ
  pub gave : Gave HasLeft old given new
  pub within : length given ≤ most

-- Writes took these bytes: whatever the sink had taken before, now it has taken that, and then
-- these.
abbrev pub Took : {W : Type 0} → (W → List ℕ → Type 0) → W → List ℕ → W → Type 0
Took HasTaken old bytes new =
    (before : List ℕ) → HasTaken old before → HasTaken new (before ++ bytes)

-- Writes took the first of these bytes, and some are missing.
pub record TookPart {W : Type 0} (HasTaken : W → List ℕ → Type 0) (old : W) (bytes : List ℕ)
    (new : W) : Type 0 where
  pub gained : List ℕ
  pub missing : List ℕ
  pub took : Took HasTaken old gained new
  pub split : bytes ≡ gained ++ missing
  pub short : 0 < length missing

-- only a fault of the device itself leaves its mark
abbrev pub is_device_fault : SinkFault → Bool
is_device_fault (Device fault) = true
is_device_fault TookNothing = false
