-- Definition: The scripts of all clients as one list.
use Rattle.std.specs.Prelude.{◌≡◌, ℕ, ◌==◌, nat_le, nat_lt, Bool, ◌&&◌, ◌||◌, if◌then◌else◌, List, [], ◌∷◌, map}
use Rattle.std.specs.List.{flat_map}
use Rattle.seq_state.specs.declared.input.Input.{Input}
use Rattle.script_text.specs.declared.reading.ScriptInput.{ScriptInput}
use Rattle.script_text.specs.declared.reading.ScriptRead.{ScriptRead}
use Rattle.seq_session.specs.declared.merged.Merged.{Merged}

-- by moment, then by client, then by line
abbrev pub not_after : ScriptInput → ScriptInput → Bool
not_after a b =
    nat_lt a.input.moment b.input.moment
    || ((a.input.moment == b.input.moment) && (nat_lt a.input.actor b.input.actor
    || ((a.input.actor == b.input.actor) && nat_le a.line b.line)))

-- an input in its place
abbrev pub with_input : ScriptInput → List ScriptInput → List ScriptInput
with_input a [] = a ∷ []
with_input a (b ∷ bs) = if not_after a b then a ∷ b ∷ bs else (b ∷ with_input a bs)

abbrev pub sorted_inputs : List ScriptInput → List ScriptInput
sorted_inputs [] = []
sorted_inputs (a ∷ more) = with_input a (sorted_inputs more)

-- the inputs of all scripts, in the order of the run
abbrev pub inputs_in_order : List ScriptRead → List ScriptInput
inputs_in_order reads = sorted_inputs (flat_map (λ r. r.inputs) reads)

abbrev pub inputs_of : List ScriptInput → List Input
inputs_of xs = map (λ x. x.input) xs

abbrev pub lines_of : List ScriptInput → List ℕ
lines_of xs = map (λ x. x.line) xs

-- the list of the run, and beside it the lines
abbrev pub merge_of : List ScriptRead → Merged
merge_of reads =
    record { inputs = inputs_of (inputs_in_order reads); lines = lines_of (inputs_in_order reads) }

-- two sorted lists as one; of two that are alike, that of the first list comes first
abbrev pub joined_onto : ScriptInput → (List ScriptInput → List ScriptInput) →
    List ScriptInput → List ScriptInput
joined_onto a rest [] = a ∷ rest []
joined_onto a rest (b ∷ bs) =
    if not_after a b then a ∷ rest (b ∷ bs) else (b ∷ joined_onto a rest bs)

abbrev pub merged_with : List ScriptInput → List ScriptInput → List ScriptInput
merged_with [] bs = bs
merged_with (a ∷ more) bs = joined_onto a (merged_with more) bs

-- each reading stands in the order already, as each reading of a script does
abbrev pub AreSorted : List ScriptRead → Type 0
AreSorted [] = Unit {0}
AreSorted (r ∷ reads) = (sorted_inputs r.inputs ≡ r.inputs) × AreSorted reads
