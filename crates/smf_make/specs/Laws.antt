-- Law: What the text of a file means.
use Rattle.std.specs.Prelude.{◌≡◌, ◌≤◌, ℕ, List, length, None, Ok, IsTrue}
use Rattle.smf_grammar.specs.Files.{MidiFile, IsFile}
use Rattle.smf_grammar.specs.Written.{all_bytes, written_file, file_refusal}
use Rattle.smf_text.specs.AllTexts.{all_text}
use Rattle.smf_make.specs.SaidFiles.{said_file}

-- the file can be written, and its bytes are this file
pub record CanBeMade (f : MidiFile) : Type 0 where
  pub taken : file_refusal f ≡ None
  pub file : IsFile (written_file f) f

-- each file that a text says
abbrev pub ReadsMade : Type 0
ReadsMade = (text : List ℕ) (f : MidiFile) → said_file text ≡ Ok f → CanBeMade f

-- what is printed of a file says it
abbrev pub MakesPrinted : Type 0
MakesPrinted = (f : MidiFile) → file_refusal f ≡ None → said_file (all_text f) ≡ Ok f

-- the file can be written in so many bytes or fewer, and what is printed of it says it again
pub record IsSaidAgain (size : ℕ) (f : MidiFile) : Type 0 where
  pub taken : file_refusal f ≡ None
  pub short : length (written_file f) ≤ size
  pub said : said_file (all_text f) ≡ Ok f

-- whatever bytes are a file
abbrev pub SaysRead : Type 0
SaysRead =
    (bytes : List ℕ) (f : MidiFile) → IsTrue (all_bytes bytes) → IsFile bytes f
    → IsSaidAgain (length bytes) f
