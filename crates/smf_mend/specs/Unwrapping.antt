-- Definition: What comes of what was read of a file by the lenient grammar, where that may stand
-- in a container.
use Rattle.std.specs.Prelude.{◌≡◌, ◌≤◌, ◌<◌, ◌⊎◌, ℕ, List, length}
use Rattle.smf_grammar.specs.Chunks.{most_bytes}
use Rattle.smf_grammar.specs.declared.fault.SmfFault.{SmfFault}
use Rattle.smf_grammar.specs.declared.fault.SmfFault.TheVariants.{TooLarge}
use Rattle.smf_mend.specs.declared.forgiven.Mended.{Mended}
use Rattle.smf_mend.specs.Containers.{midi_in}
use Rattle.smf_mend.specs.Mending.{IsMended, IsUnmended}

-- The bytes are no more than a file may have, and this came of the file in them.
pub record IsMendedIn (bytes : List ℕ) (m : Mended) : Type 0 where
  pub bounded : length bytes ≤ most_bytes
  pub mended : IsMended (midi_in bytes) m

-- they are more, or the file in them is refused
abbrev pub IsRefusedIn : List ℕ → SmfFault → Type 0
IsRefusedIn bytes x =
    ((x ≡ TooLarge) × (most_bytes < length bytes))
    ⊎ ((length bytes ≤ most_bytes) × IsUnmended (midi_in bytes) x)
