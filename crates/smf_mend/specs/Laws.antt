-- Law: What holds of the lenient grammar, for all bytes.
use Rattle.std.specs.Prelude.{◌≡◌, ℕ, false, Option, List, [], ◌⊎◌, ◌↔◌, Ok, Err}
use Rattle.smf_grammar.specs.Files.{MidiFile, IsFile}
use Rattle.smf_grammar.specs.declared.fault.SmfFault.{SmfFault}
use Rattle.smf_mend.specs.Lenient.{softened, IsLenientFile, LenientFault}
use Rattle.smf_mend.specs.LenientReading.{lenient_reading}
use Rattle.smf_mend.specs.Forgiving.{forgives_status, forgives_data, file_places}

-- bit 7 is forgiven of a pair just where softening changes what is left
abbrev pub ForgivesSoftened : Type 0
ForgivesSoftened =
    (strict : Option ℕ) (left : List ℕ)
    → (forgives_data strict left ≡ false) ↔ (softened left ≡ left)

-- the bytes are this file leniently, and nothing is forgiven of them
pub record IsUnforgiven (bytes : List ℕ) (f : MidiFile) : Type 0 where
  pub lenient : IsLenientFile bytes f
  pub status : file_places forgives_status bytes lenient ≡ []
  pub data_bytes : file_places forgives_data bytes lenient ≡ []

-- each file of the strict grammar
abbrev pub StrictIsLenient : Type 0
StrictIsLenient = (bytes : List ℕ) (f : MidiFile) → IsFile bytes f → IsUnforgiven bytes f

-- the bytes are a file leniently, or they have a fault
abbrev pub LenientFileOrFault : Type 0
LenientFileOrFault =
    (bytes : List ℕ)
    → ((f : MidiFile) × IsLenientFile bytes f) ⊎ ((x : SmfFault) × LenientFault bytes x)

-- they are one file at most
abbrev pub OneLenientFile : Type 0
OneLenientFile =
    (bytes : List ℕ) (f g : MidiFile) → IsLenientFile bytes f → IsLenientFile bytes g → f ≡ g

-- they have one fault at most
abbrev pub OneLenientFault : Type 0
OneLenientFault =
    (bytes : List ℕ) (x y : SmfFault) → LenientFault bytes x → LenientFault bytes y → x ≡ y

-- and never both
abbrev pub NotBothLeniently : Type 0
NotBothLeniently =
    (bytes : List ℕ) (f : MidiFile) (x : SmfFault) → IsLenientFile bytes f
    → LenientFault bytes x → ⊥

-- reading computes which
abbrev pub ReadsLenientFiles : Type 0
ReadsLenientFiles =
    (bytes : List ℕ) (f : MidiFile) → (lenient_reading bytes ≡ Ok f) ↔ IsLenientFile bytes f

abbrev pub ReadsLenientFaults : Type 0
ReadsLenientFaults =
    (bytes : List ℕ) (x : SmfFault) → (lenient_reading bytes ≡ Err x) ↔ LenientFault bytes x
