-- Definition: The names of a folder's files.
use Rattle.std.specs.Prelude.{ℕ, ◌==◌, ◌-◌, ◌&&◌, ◌||◌, Bool, true, false, not, List, length, drop, codes, IsPermutation, IsSorted}
use Rattle.std.specs.List.{filter, ends_with}
use Rattle.std.specs.Ordering.{nat_cmp}
use Rattle.std.specs.Cmp.Lexicographic.{slice_cmp}
use Rattle.std.specs.Str.{str_eq_ignore_ascii_case}

-- whether a name ends so, but perhaps for capitals
abbrev pub ends_alike : List ℕ → List ℕ → Bool
ends_alike ending name =
    str_eq_ignore_ascii_case (drop (length name - length ending) name) ending

-- whether a name ends in `.mid`
abbrev pub is_midi : List ℕ → Bool
is_midi name = ends_with (λ a b. a == b) name (codes ".mid")

-- whether a file with this name is taken: one whose name ends in `.mid`, and leniently also one
-- whose name ends in `.midi` or `.rmi`, or so in capitals
abbrev pub is_taken : Bool → List ℕ → Bool
is_taken false name = is_midi name
is_taken true name =
    ends_alike (codes ".mid") name
    || (ends_alike (codes ".midi") name || ends_alike (codes ".rmi") name)

-- whether a name ends in `.mid` but for capitals, and is not taken
abbrev pub is_in_capitals : Bool → List ℕ → Bool
is_in_capitals is_lenient name =
    ends_alike (codes ".mid") name && not (is_taken is_lenient name)

-- the names of this kind, each as often as it stands there, in byte order
pub record AreKept (kind : List ℕ → Bool) (names files : List (List ℕ)) : Type 0 where
  pub kept : IsPermutation (filter kind names) files
  pub sorted : IsSorted (slice_cmp nat_cmp) files

-- the names of the files that are taken
abbrev pub AreMidiFiles : Bool → List (List ℕ) → List (List ℕ) → Type 0
AreMidiFiles is_lenient names files = AreKept (is_taken is_lenient) names files

-- those that are not, for their capitals alone
abbrev pub AreInCapitals : Bool → List (List ℕ) → List (List ℕ) → Type 0
AreInCapitals is_lenient names files = AreKept (is_in_capitals is_lenient) names files
