-- Definition: What comes of a file that is read by the lenient grammar: the bytes of a strict file
-- that says the same, and what was forgiven.
use Rattle.std.specs.Prelude.{◌≡◌, ◌<◌, ℕ, List, length, ◌⊎◌}
use Rattle.smf_grammar.specs.Chunks.{most_bytes}
use Rattle.smf_grammar.specs.Files.{MidiFile, IsFile}
use Rattle.smf_grammar.specs.Written.{written_file}
use Rattle.smf_grammar.specs.declared.fault.SmfFault.{SmfFault}
use Rattle.smf_grammar.specs.declared.fault.SmfFault.TheVariants.{TooLarge}
use Rattle.smf_mend.specs.declared.forgiven.Mended.{Mended}
use Rattle.smf_mend.specs.Lenient.{IsLenientFile, LenientFault}
use Rattle.smf_mend.specs.Forgiving.{forgives_status, forgives_data, file_places, forgiven_at}

-- the bytes are a file leniently, which is written, and so read by the strict grammar; and this was
-- forgiven
pub record IsMended (bytes : List ℕ) (m : Mended) : Type 0 where
  pub f : MidiFile
  pub lenient : IsLenientFile bytes f
  pub written : m.bytes.items ≡ written_file f
  pub strict : IsFile m.bytes.items f
  pub status : m.running_status ≡ forgiven_at (file_places forgives_status bytes lenient)
  pub data_bytes : m.high_data ≡ forgiven_at (file_places forgives_data bytes lenient)

-- the bytes are a file leniently, which takes more bytes than a file has at most
pub record IsOutgrown (bytes : List ℕ) : Type 0 where
  pub f : MidiFile
  pub lenient : IsLenientFile bytes f
  pub long : most_bytes < length (written_file f)

-- why bytes are not mended
abbrev pub IsUnmended : List ℕ → SmfFault → Type 0
IsUnmended bytes x = LenientFault bytes x ⊎ ((x ≡ TooLarge) × IsOutgrown bytes)
