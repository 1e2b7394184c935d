-- Messages of a channel have one data byte or two.
use Rattle.std.proofs.Common.{◌≡◌, ℕ, ◌∙◌, Bool, true, false, List, ◌∷◌, length, refl, sym, ap}
use Rattle.std.specs.Prelude.{◌==◌, ◌&&◌, if◌then◌else◌, Some, None}
use Rattle.std.proofs.lemmas.Bool.{ne_eqb}
use Rattle.midi_wire.specs.declared.status.Width.{Width}
use Rattle.midi_wire.specs.declared.status.Width.TheVariants.{One, Two}
use Rattle.midi_wire.specs.declared.status.StatusClass.{StatusClass}
use Rattle.midi_wire.specs.Messages.{is_group, is_tail, is_message, all_data}
use Rattle.script_text.specs.Numbers.{only_if}
use Rattle.smf_grammar.specs.Pairs.{Voice}
use Rattle.smf_grammar.specs.Seen.{is_voice, is_event_sound}
use Rattle.smf_grammar.proofs.WrittenFile.{channel-begins}

no-group : (w : Width) (data_bytes : List ℕ) → (length data_bytes ≡ 1 → ⊥) → (length data_bytes ≡ 2 → ⊥) → is_group w data_bytes ≡ false
no-group One data_bytes h k = let e : (length data_bytes == 1) ≡ false = ne_eqb (length data_bytes) 1 h in ap (λ (t : Bool). t && all_data data_bytes) e
no-group Two data_bytes h k = let e : (length data_bytes == 2) ≡ false = ne_eqb (length data_bytes) 2 k in ap (λ (t : Bool). t && all_data data_bytes) e

unsound : (status : ℕ) (data_bytes : List ℕ) (t : Bool) → is_voice status ≡ t → (length data_bytes ≡ 1 → ⊥) → (length data_bytes ≡ 2 → ⊥) → (t && is_message (status ∷ data_bytes)) ≡ false
unsound status data_bytes false e h k = refl
unsound status data_bytes true e h k =
    let begun = channel-begins status e in
    ap (λ (c : StatusClass). is_tail c data_bytes) begun.1 ∙ no-group begun.0 data_bytes h k

pub no-voice : (status : ℕ) (data_bytes : List ℕ) → (length data_bytes ≡ 1 → ⊥) → (length data_bytes ≡ 2 → ⊥) → None ≡ only_if is_event_sound (Some (Voice status data_bytes))
no-voice status data_bytes h k =
    let bad : is_event_sound (Voice status data_bytes) ≡ false = unsound status data_bytes (is_voice status) refl h k in
    sym (ap (λ (t : Bool). if t then Some (Voice status data_bytes) else None) bad)
