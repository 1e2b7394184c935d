-- The refusal that is reported is the lowest.
use Rattle.std.proofs.Common.{◌≡◌, ℕ, Bool, true, false, not, cond, eqb, ◌||◌, List, [], ◌∷◌, Option, Some, None, refl, ap, arith}
use Rattle.std.specs.Prelude.{nat_le, nat_lt}
use Rattle.std.specs.List.{list_all}
use Rattle.std.proofs.lemmas.Bool.Decides.{nat_tests}
use Rattle.std.proofs.lemmas.Bool.{eq-eqb}
use Rattle.seq_state.specs.declared.input.Command.{Command}
use Rattle.seq_state.specs.declared.input.Command.TheVariants.{Close}
use Rattle.seq_state.specs.declared.refusal.Refusal.{Refusal}
use Rattle.seq_state.specs.Refusals.{number_of}
use Rattle.seq_state.specs.Table.{CommandView, Condition, first_refusal, command_row}
use Rattle.seq_state.specs.Step.{view_of, row_of}
use Rattle.seq_state.specs.Changes.{rises, numbers, holds, none_below, IsLowest, LowestLaw}
use Rattle.seq_state.proofs.Lists.{both_left, both_right, and_both}

rows_rise : (a : CommandView) (command : Command) → rises (numbers (command_row a command).conditions) ≡ true
unfolding command_row
rows_rise a Close = refl
rows_rise a command = refl

below : (n m : ℕ) (b : Bool) → nat_lt n m ≡ true → (not b || nat_le n m) ≡ true
below n m true h = grind (arith, nat_tests)
below n m false h = refl

-- of conditions with higher numbers none is below
none_lower : (r : Refusal) (cs : List Condition) → list_all (λ m. nat_lt (number_of r) m) (numbers cs) ≡ true → none_below r cs ≡ true
none_lower r [] h = refl
none_lower r (c ∷ cs) h =
    and_both (not c.1 || nat_le (number_of r) (number_of c.0)) (none_below r cs)
    (below (number_of r) (number_of c.0) c.1 (both_left (nat_lt (number_of r) (number_of c.0)) (list_all (λ m. nat_lt (number_of r) m) (numbers cs)) h))
    (none_lower r cs (both_right (nat_lt (number_of r) (number_of c.0)) (list_all (λ m. nat_lt (number_of r) m) (numbers cs)) h))

same_number : (n : ℕ) → eqb n n ≡ true
same_number n = eq-eqb n n refl

not_less : (n : ℕ) → nat_le n n ≡ true
not_less n = grind (arith, nat_tests)

lowest : (cs : List Condition) → rises (numbers cs) ≡ true → IsLowest cs (first_refusal cs)
lowest [] h = refl
lowest (c ∷ cs) h = go c.1 (lowest cs (both_right (list_all (λ m. nat_lt (number_of c.0) m) (numbers cs)) (rises (numbers cs)) h))
  where
    higher : list_all (λ m. nat_lt (number_of c.0) m) (numbers cs) ≡ true
    higher = both_left (list_all (λ m. nat_lt (number_of c.0) m) (numbers cs)) (rises (numbers cs)) h

    skip : (o : Option Refusal) → IsLowest cs o → IsLowest ((c.0, false) ∷ cs) o
    skip None l = l
    skip (Some r) l = l

    go : (b : Bool) → IsLowest cs (first_refusal cs) → IsLowest ((c.0, b) ∷ cs) (cond b (Some c.0) (first_refusal cs))
    go true l = (
      ap (λ x. x || holds c.0 cs) (same_number (number_of c.0)),
      and_both (nat_le (number_of c.0) (number_of c.0)) (none_below c.0 cs) (not_less (number_of c.0)) (none_lower c.0 cs higher),
    )
    go false l = skip (first_refusal cs) l

pub lowest_law : LowestLaw
lowest_law = record {
  rising = rows_rise;
  lowest = λ files s moment actor command. lowest (row_of files s moment actor command).conditions (rows_rise (view_of files s moment actor command) command);
}
