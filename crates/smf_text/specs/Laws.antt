-- Law: What lines are printed of a file, and what places in front of them change.
use Rattle.std.specs.Prelude.{◌≡◌, ℕ, ◌+◌, Bool, false, List, length, nat_le, ◌==◌, ◌&&◌, ◌||◌, IsTrue, count_by, sum_by}
use Rattle.std.specs.List.{list_all}
use Rattle.smf_grammar.specs.Files.{MidiFile, IsFile}
use Rattle.smf_grammar.specs.Written.{all_bytes}
use Rattle.smf_text.specs.AllTexts.{all_text}
use Rattle.smf_text.specs.PlacedTexts.{placed_text}

-- so many bytes end a line, and all others are visible ASCII characters or spaces
pub record AreLines (count : ℕ) (text : List ℕ) : Type 0 where
  pub ended : count_by (λ b. b == 10) text ≡ count
  pub visible : IsTrue (list_all (λ b. (b == 10) || (nat_le 32 b && nat_le b 126)) text)

-- whatever bytes are a file: a line for the header, for each track and for each pair
abbrev pub LineForEach : Type 0
LineForEach =
    (bytes : List ℕ) (f : MidiFile) → IsTrue (all_bytes bytes) → IsFile bytes f
    → AreLines (1 + sum_by (λ ps. 1 + length ps) f.tracks) (all_text f)

-- without places it is the same text
abbrev pub SameWithoutPlaces : Type 0
SameWithoutPlaces =
    (bytes : List ℕ) (f : MidiFile) (file : IsFile bytes f)
    → placed_text false bytes file ≡ all_text f

-- whatever shows that bytes are a file, its text is one
abbrev pub OnePlacedText : Type 0
OnePlacedText =
    (placed : Bool) (bytes : List ℕ) (f : MidiFile) (file other : IsFile bytes f)
    → placed_text placed bytes file ≡ placed_text placed bytes other
