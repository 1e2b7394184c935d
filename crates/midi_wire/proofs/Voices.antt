-- Messages with two data bytes, read as a whole.
use Rattle.std.proofs.Common.{◌≡◌, ℕ, ◌≤◌, ◌<◌, true, false, ◌⊎◌, inl, inr, List, [], ◌∷◌, ◌++◌, refl, sym, ap, ◌∙◌, append-nil, append_assoc, arith}
use Rattle.std.proofs.lemmas.Bool.{cases_lt}
use Rattle.midi_wire.specs.Messages.{Two, Channel, begins}
use Rattle.midi_wire.specs.Readings.{reading, rest}
use Rattle.midi_wire.specs.Parsing.{waits, waits_for_two}
use Rattle.midi_wire.specs.Writings.{is_channel}
use Rattle.midi_wire.proofs.Table.{channel-from}
use Rattle.midi_wire.proofs.Written.{begins-low-not}
use Rattle.midi_wire.proofs.Settled.{IsBlockStatus, reads-in-two, rests-in-two}
use Rattle.midi_wire.proofs.Machine.{status-reading, status-rest}
use Rattle.midi_wire.proofs.Calls.{after-data-reading, after-data-rest, two-silent, two-half, two-told, two-left, after_group, begin-waiting-reading, begin-waiting-rest}

-- ---- two data bytes under a status that waits for both

half-rest : (s a : ℕ) → rest (s ∷ []) ≡ s ∷ [] → waits_for_two (begins s) ≡ true → a < 128 → rest (s ∷ a ∷ []) ≡ s ∷ a ∷ []
half-rest s a h w l = after-data-rest (s ∷ []) s [] a refl h l ∙ two-half (begins s) s a w

pair-reading : (s a b : ℕ) → rest (s ∷ []) ≡ s ∷ [] → waits_for_two (begins s) ≡ true → a < 128 → b < 128 → reading (s ∷ a ∷ b ∷ []) ≡ (s ∷ a ∷ b ∷ []) ∷ []
pair-reading s a b h w l m =
    let half : rest (s ∷ a ∷ []) ≡ s ∷ a ∷ [] = half-rest s a h w l in
    reads-in-two (s ∷ a ∷ []) (b ∷ [])
    ∙ ap (λ ms. ms ++ reading (rest (s ∷ a ∷ []) ++ b ∷ [])) (after-data-reading (s ∷ []) s [] a refl h l ∙ two-silent (begins s) s a w)
    ∙ ap (λ u. reading (u ++ b ∷ [])) half
    ∙ after-data-reading (s ∷ a ∷ []) s (a ∷ []) b refl half m ∙ two-told (begins s) s a b w

pair-rest : (s a b : ℕ) → rest (s ∷ []) ≡ s ∷ [] → waits_for_two (begins s) ≡ true → a < 128 → b < 128 → rest (s ∷ a ∷ b ∷ []) ≡ after_group (is_channel (begins s)) s
pair-rest s a b h w l m =
    after-data-rest (s ∷ a ∷ []) s (a ∷ []) b refl (half-rest s a h w l) m ∙ two-left (begins s) s a b (is_channel (begins s)) w refl

-- ---- the status of a channel, and both

voice-status : (s : ℕ) → begins s ≡ Channel Two → IsBlockStatus s
voice-status s e =
    record { high = begins-low-not s (Channel Two) e (λ n. cc); low = go (cases_lt s 248) }
  where
    go : (s < 248) ⊎ (248 ≤ s) → s < 248
    go (inl l) = l
    go (inr l) = let bad : is_channel (begins s) ≡ true = ap is_channel e in let no : is_channel (begins s) ≡ false = channel-from s (omega arith) in cc

voice-alone : (s : ℕ) → begins s ≡ Channel Two → (reading (s ∷ []) ≡ []) × (rest (s ∷ []) ≡ s ∷ [])
voice-alone s e =
    let st : IsBlockStatus s = voice-status s e in
    (begin-waiting-reading s st.high st.low (ap waits e), begin-waiting-rest s st.high st.low (ap waits e))

voice-message : (s a b : ℕ) → begins s ≡ Channel Two → a < 128 → b < 128 → reading (s ∷ a ∷ b ∷ []) ≡ (s ∷ a ∷ b ∷ []) ∷ []
voice-message s a b e l m = pair-reading s a b (voice-alone s e).1 (ap waits_for_two e) l m

after-voice : (s a b : ℕ) → begins s ≡ Channel Two → a < 128 → b < 128 → rest (s ∷ a ∷ b ∷ []) ≡ s ∷ []
after-voice s a b e l m = pair-rest s a b (voice-alone s e).1 (ap waits_for_two e) l m ∙ ap (λ k. after_group (is_channel k) s) e

pub voice-reading : (v : List ℕ) (s a b : ℕ) → rest v ≡ v → begins s ≡ Channel Two → a < 128 → b < 128 → reading (v ++ s ∷ a ∷ b ∷ []) ≡ reading (v ++ 247 ∷ []) ++ ((s ∷ a ∷ b ∷ []) ∷ [])
voice-reading v s a b h e l m =
    ap (λ u. reading u) (sym (append_assoc v (s ∷ []) (a ∷ b ∷ [])))
    ∙ reads-in-two (v ++ s ∷ []) (a ∷ b ∷ [])
    ∙ ap (λ ms. ms ++ reading (rest (v ++ s ∷ []) ++ a ∷ b ∷ [])) (status-reading v s h (voice-status s e) ∙ ap (λ ms. reading (v ++ 247 ∷ []) ++ ms) (voice-alone s e).0 ∙ append-nil (reading (v ++ 247 ∷ [])))
    ∙ ap (λ u. reading (v ++ 247 ∷ []) ++ reading (u ++ a ∷ b ∷ [])) (status-rest v s h (voice-status s e) ∙ (voice-alone s e).1)
    ∙ ap (λ ms. reading (v ++ 247 ∷ []) ++ ms) (voice-message s a b e l m)

pub voice-rest : (v : List ℕ) (s a b : ℕ) → rest v ≡ v → begins s ≡ Channel Two → a < 128 → b < 128 → rest (v ++ s ∷ a ∷ b ∷ []) ≡ s ∷ []
voice-rest v s a b h e l m =
    ap (λ u. rest u) (sym (append_assoc v (s ∷ []) (a ∷ b ∷ [])))
    ∙ rests-in-two (v ++ s ∷ []) (a ∷ b ∷ [])
    ∙ ap (λ u. rest (u ++ a ∷ b ∷ [])) (status-rest v s h (voice-status s e) ∙ (voice-alone s e).1)
    ∙ after-voice s a b e l m

-- ---- both data bytes under running status

pub running-reading : (v u : List ℕ) (s a b : ℕ) → v ≡ s ∷ [] → u ≡ a ∷ b ∷ [] → begins s ≡ Channel Two → a < 128 → b < 128 → reading (v ++ u) ≡ (s ∷ a ∷ b ∷ []) ∷ []
running-reading v u s a b i j e l m = ap (λ w. reading (w ++ u)) i ∙ ap (λ w. reading (s ∷ w)) j ∙ voice-message s a b e l m

pub running-rest : (v u : List ℕ) (s a b : ℕ) → v ≡ s ∷ [] → u ≡ a ∷ b ∷ [] → begins s ≡ Channel Two → a < 128 → b < 128 → v ≡ rest (v ++ u)
running-rest v u s a b i j e l m = i ∙ sym (ap (λ w. rest (w ++ u)) i ∙ ap (λ w. rest (s ∷ w)) j ∙ after-voice s a b e l m)
