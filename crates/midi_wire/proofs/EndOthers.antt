-- Ends of blocks that give nothing.
use Rattle.std.proofs.Common.{◌≡◌, ℕ, List, [], ◌∷◌, ◌++◌, sym}
use Rattle.std.specs.Prelude.{IsTrue}
use Rattle.midi_wire.specs.declared.parser.LastBlock.{LastBlock}
use Rattle.midi_wire.specs.declared.parser.LastBlock.TheVariants.{Idle, Waiting, Half, Collecting, Overlong}
use Rattle.midi_wire.specs.Messages.{begins}
use Rattle.midi_wire.specs.Readings.{reading, rest}
use Rattle.midi_wire.specs.Parsing.{pending_bytes, is_sound}
use Rattle.midi_wire.proofs.Calls.{end-idle, end-waiting, end-overlong, waits-two, waits-for}

pub end-others : (k : LastBlock) (payload v : List ℕ) → (k ≡ Collecting → ⊥) → pending_bytes k payload ≡ v → IsTrue (is_sound k payload) → rest v ≡ v → reading (v ++ 247 ∷ []) ≡ []
end-others Idle payload v n e s h = end-idle v (sym e) h
end-others (Waiting status width) payload v n e s h = end-waiting v status [] (sym e) h (waits-for width (begins status) s)
end-others (Half status first) payload v n e s h = end-waiting v status (first ∷ []) (sym e) h (waits-two (begins status) s)
end-others Collecting payload v n e s h = absurd (n (λ i. Collecting))
end-others Overlong payload v n e s h = end-overlong v (sym e) h
