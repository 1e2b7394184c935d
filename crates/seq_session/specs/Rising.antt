-- Definition: Client numbers that rise.
use Rattle.std.specs.Prelude.{◌<◌, ℕ, List, [], ◌∷◌}

-- each is above the one before, and the first above this one
abbrev pub RiseFrom : ℕ → List ℕ → Type 0
RiseFrom low [] = Unit {0}
RiseFrom low (client ∷ clients) = (low < client) × RiseFrom client clients

abbrev pub AreRising : List ℕ → Type 0
AreRising [] = Unit {0}
AreRising (client ∷ clients) = RiseFrom client clients
