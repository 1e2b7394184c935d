-- Law: What holds of all lines.
use Rattle.std.specs.Prelude.{◌≡◌, ◌↔◌, ℕ, false, IsTrue, List, ◌∷◌}
use Rattle.std.specs.Option.{is_some, is_none}
use Rattle.script_text.specs.declared.line.Fate.TheVariants.{Skipped}
use Rattle.script_text.specs.declared.reading.SkipReason.TheVariants.{Unreadable}
use Rattle.script_text.specs.LineFaults.{words_fault, line_fault}
use Rattle.script_text.specs.Scripts.{timed_command, is_remark, fate}

-- A line has a fault exactly where it is unreadable: its words are no command at a moment.
pub record FaultLaw : Type 0 where
  pub words : (names : List (List ℕ)) (w : List ℕ) (rest : List (List ℕ)) →
      is_remark w ≡ false →
      is_some (words_fault (w ∷ rest)) ≡ is_none (timed_command names (w ∷ rest))
  pub lines : (names : List (List ℕ)) (end latest : ℕ) (line : List ℕ) →
      IsTrue (is_some (line_fault line)) ↔ (fate names end latest line ≡ Skipped Unreadable)
