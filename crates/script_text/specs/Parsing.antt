-- Representation: A script read line by line.
use Rattle.std.specs.Prelude.{◌≡◌, ◌+◌, ℕ, List, ◌∷◌, ◌++◌}
use Rattle.script_text.specs.declared.reading.ScriptInput.{ScriptInput}
use Rattle.script_text.specs.declared.reading.ScriptRead.{ScriptRead}
use Rattle.script_text.specs.declared.reading.Skip.{Skip}
use Rattle.script_text.specs.Scripts.{read_from}

-- a reading, with what was read before it
abbrev pub with_fate : List ScriptInput → List Skip → ScriptRead → ScriptRead
with_fate inputs skips r = record {
  client = r.client;
  inputs = inputs ++ r.inputs;
  skips = skips ++ r.skips;
}

-- whatever lines follow: with this line read, it is the same reading
abbrev pub IsLineRead :
    ℕ → List (List ℕ) → ℕ → List ℕ →
    List ScriptInput → List Skip → ℕ → ℕ →
    List ScriptInput → List Skip → ℕ → Type 0
IsLineRead client names end line inputs skips latest number inputs' skips' latest' =
    (ls : List (List ℕ)) →
    with_fate inputs skips (read_from client names end latest (number + 1) (line ∷ ls))
    ≡ with_fate inputs' skips' (read_from client names end latest' (number + 2) ls)
