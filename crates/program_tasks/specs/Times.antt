-- Definition: A length of time as a word says it, `1m30s`, and when a run ends.
use Rattle.std.specs.Prelude.{◌≡◌, ℕ, ◌+◌, ◌*◌, nat_le, Bool, not, if◌then◌else◌, List, [], ◌∷◌, Option, Some, None, codes}
use Rattle.std.specs.Str.{bytes_eq}
use Rattle.session_circle.specs.declared.every_end.TheConstants.{NO_END}
use Rattle.script_text.specs.Numbers.{both, is_digit, only_if, u64}
use Rattle.program_tasks.specs.declared.end_word.EndWord.{EndWord}
use Rattle.program_tasks.specs.declared.end_word.EndWord.TheVariants.{Until, For, ToEnd}
use Rattle.program_tasks.specs.declared.program_fault.ProgramFault.{ProgramFault}
use Rattle.program_tasks.specs.declared.program_fault.ProgramFault.TheVariants.{NotAMoment, NotATime}

abbrev pub is_no_digit : ℕ → Bool
is_no_digit b = not (is_digit b)

-- how many nanoseconds a unit has
abbrev pub unit_nanos : List ℕ → Option ℕ
unit_nanos unit =
    if bytes_eq unit (codes "ns") then Some 1 else
    (if bytes_eq unit (codes "us") then Some 1000 else
    (if bytes_eq unit (codes "ms") then Some 1000000 else
    (if bytes_eq unit (codes "s") then Some 1000000000 else
    (if bytes_eq unit (codes "m") then Some 60000000000 else
    (if bytes_eq unit (codes "h") then Some 3600000000000 else None)))))

-- A number, and the unit behind it.
pub record TimePart : Type 0 where
  pub digits : List ℕ
  pub unit : List ℕ

-- a digit more in front
abbrev pub with_digit : ℕ → List TimePart → List TimePart
with_digit b [] = record { digits = b ∷ []; unit = [] } ∷ []
with_digit b (p ∷ parts) = record p { digits = b ∷ p.digits } ∷ parts

-- what is no digit in front of a part: in front of its number it ends a part of its own
abbrev pub before_part : ℕ → TimePart → List ℕ → List TimePart → List TimePart
before_part b p [] parts = record p { unit = b ∷ p.unit } ∷ parts
before_part b p (d ∷ digits) parts = record { digits = []; unit = b ∷ [] } ∷ p ∷ parts

abbrev pub with_letter : ℕ → List TimePart → List TimePart
with_letter b [] = record { digits = []; unit = b ∷ [] } ∷ []
with_letter b (p ∷ parts) = before_part b p p.digits parts

-- `1m30s` has the parts 1 m and 30 s
abbrev pub parts_of_time : List ℕ → List TimePart
parts_of_time [] = []
parts_of_time (b ∷ word) =
    if is_digit b then with_digit b (parts_of_time word) else with_letter b (parts_of_time word)

abbrev pub part_nanos : TimePart → Option ℕ
part_nanos p = both (λ n nanos. n * nanos) (u64 p.digits) (unit_nanos p.unit)

abbrev pub sum_of_parts : List TimePart → Option ℕ
sum_of_parts [] = Some 0
sum_of_parts (p ∷ parts) = both (λ m n. m + n) (part_nanos p) (sum_of_parts parts)

abbrev pub if_u64 : Option ℕ → Option ℕ
if_u64 time = only_if (λ n. nat_le n 18446744073709551615) time

-- the length of time that a word says, in nanoseconds: the sum of its parts, of which it has one or
-- more
abbrev pub time_said : List ℕ → Option ℕ
time_said [] = None
time_said (b ∷ word) = if_u64 (sum_of_parts (parts_of_time (b ∷ word)))

-- ---- the end of a run

-- the moment at which a run ends, from its beginning; one that goes on to its end has none
abbrev pub end_said : EndWord → Option ℕ
end_said (Until word) = u64 word.now
end_said (For word) = time_said word.now
end_said ToEnd = Some NO_END

-- the fault that tells the word that says no moment, or no length of time
abbrev pub IsNoEnd : EndWord → ProgramFault → Type 0
IsNoEnd (Until word) (NotAMoment told) = told.now ≡ word.now
IsNoEnd (For word) (NotATime told) = told.now ≡ word.now
IsNoEnd _ _ = ⊥
