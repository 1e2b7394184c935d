-- The notes of a channel, a port, a client and all, where a test passes.
use Rattle.std.proofs.Common.{◌≡◌, ℕ, suc, ◌<◌, ◌≤◌, Bool, true, cond, ◌==◌, length, List, [], ◌∷◌, ◌++◌, refl, sym, ap, ◌∙◌, arith, append-nil}
use Rattle.std.proofs.lemmas.Bool.Decides.{nat_tests}
use Rattle.std.specs.List.{filter, flat_map, range_with_len}
use Rattle.node_table.specs.declared.number.PortAddr.{PortAddr}
use Rattle.seq_state.specs.Heard.{port_at}
use Rattle.sounding_notes.specs.declared.listing.SoundingNote.{SoundingNote}
use Rattle.sounding_notes.specs.Sounding.{note_at, notes_of_channel, notes_of_port, notes_of_client, all_notes}
use Rattle.sounding_notes.specs.Kept.{IsNote, reads_in, reads_at, port_notes}
use Rattle.sounding_notes.proofs.Added.{AreAdded, added_all, filter_each, filter_single, filter_none, same_each}

module _ (p : SoundingNote → Bool) where
  -- a note of a channel, if it passes
  abbrev pub one_note : PortAddr → ℕ → ℕ → List SoundingNote
  one_note target channel note = cond (p (note_at target channel note)) (note_at target channel note ∷ []) []

  -- those that pass, part by part
  pub of_channel : (target : PortAddr) (channel : ℕ) → filter p (notes_of_channel target channel) ≡ flat_map (one_note target channel) (range_with_len 0 128)
  unfolding notes_of_channel
  of_channel target channel = filter_single p (note_at target channel) (range_with_len 0 128)

  pub of_port : (target : PortAddr) → filter p (notes_of_port target) ≡ flat_map (λ channel. filter p (notes_of_channel target channel)) (range_with_len 0 16)
  unfolding notes_of_port
  of_port target = filter_each p (notes_of_channel target) (range_with_len 0 16)

  pub of_client : (client : ℕ) → filter p (notes_of_client client) ≡ flat_map (λ port. filter p (notes_of_port (port_at client port))) (range_with_len 0 16)
  unfolding notes_of_client
  of_client client = filter_each p (λ port. notes_of_port (port_at client port)) (range_with_len 0 16)

  pub of_all : filter p all_notes ≡ flat_map (λ client. filter p (notes_of_client client)) (range_with_len 128 64)
  unfolding all_notes
  of_all = filter_each p notes_of_client (range_with_len 128 64)

  -- the loops at their ends
  pub channel_done : (target : PortAddr) (channel n : ℕ) (old new : List SoundingNote) → 128 ≤ n → AreAdded (one_note target channel) 0 n 128 old new → new ≡ old ++ filter p (notes_of_channel target channel)
  channel_done target channel n old new l h = added_all (one_note target channel) 0 n 128 old new l h ∙ ap (λ xs. old ++ xs) (sym (of_channel target channel))

  pub port_done : (target : PortAddr) (n : ℕ) (old new : List SoundingNote) → 16 ≤ n → AreAdded (λ channel. filter p (notes_of_channel target channel)) 0 n 16 old new → new ≡ old ++ filter p (notes_of_port target)
  port_done target n old new l h = added_all (λ channel. filter p (notes_of_channel target channel)) 0 n 16 old new l h ∙ ap (λ xs. old ++ xs) (sym (of_port target))

  pub client_done : (client n : ℕ) (old new : List SoundingNote) → 16 ≤ n → AreAdded (λ port. filter p (notes_of_port (port_at client port))) 0 n 16 old new → new ≡ old ++ filter p (notes_of_client client)
  client_done client n old new l h = added_all (λ port. filter p (notes_of_port (port_at client port))) 0 n 16 old new l h ∙ ap (λ xs. old ++ xs) (sym (of_client client))

  pub all_done : (n : ℕ) (old new : List SoundingNote) → 192 ≤ n → AreAdded (λ client. filter p (notes_of_client client)) 128 n 192 old new → new ≡ old ++ filter p all_notes
  all_done n old new l h = added_all (λ client. filter p (notes_of_client client)) 128 n 192 old new l h ∙ ap (λ xs. old ++ xs) (sym of_all)

-- ---- two tests that agree

module _ (p q : SoundingNote → Bool) where
  pub same_at_port : (target : PortAddr) → ((channel note : ℕ) → channel < 16 → note < 128 → p (note_at target channel note) ≡ q (note_at target channel note)) → filter p (notes_of_port target) ≡ filter q (notes_of_port target)
  same_at_port target h =
      of_port p target
      ∙ same_each (λ channel. filter p (notes_of_channel target channel)) (λ channel. filter q (notes_of_channel target channel)) 0 16
      (λ channel low high. of_channel p target channel
      ∙ same_each (one_note p target channel) (one_note q target channel) 0 128
      (λ note below above. ap (λ b. cond b (note_at target channel note ∷ []) []) (h channel note (omega (arith, high)) (omega (arith, above))))
      ∙ sym (of_channel q target channel))
      ∙ sym (of_port q target)

  pub same_at_all : ((n : SoundingNote) → IsNote n → p n ≡ q n) → filter p all_notes ≡ filter q all_notes
  same_at_all h =
      of_all p
      ∙ same_each (λ client. filter p (notes_of_client client)) (λ client. filter q (notes_of_client client)) 128 64
      (λ client low high. of_client p client
      ∙ same_each (λ port. filter p (notes_of_port (port_at client port))) (λ port. filter q (notes_of_port (port_at client port))) 0 16
      (λ port bottom top. same_at_port (port_at client port) (λ channel note c n. h (note_at (port_at client port) channel note) (record { low = low; high = high; port = omega (arith, top); channel = c; note = n })))
      ∙ sym (of_client q client))
      ∙ sym (of_all q)

-- what a table says of the notes of a port
pub at_port : (ports : List (List Bool)) (target : PortAddr) → filter (reads_in (port_notes ports target)) (notes_of_port target) ≡ filter (reads_at ports) (notes_of_port target)
at_port ports target = same_at_port (reads_in (port_notes ports target)) (reads_at ports) target (λ channel note c n. refl)

-- a port with no place has no note
pub silent_port : (places : List Bool) (target : PortAddr) (old : List SoundingNote) (silent : Bool) → silent ≡ true → silent ≡ (length places == 0) → old ≡ old ++ filter (reads_in places) (notes_of_port target)
silent_port [] target old silent empty is = sym (append-nil old) ∙ ap (λ xs. old ++ xs) (sym (filter_none (reads_in []) (notes_of_port target) (λ n. refl)))
silent_port (b ∷ places) target old silent empty is = let none : suc (length places) ≡ 0 = grind (arith, nat_tests) in absurd (omega arith)

-- what a port adds, said of the table
pub port_added : (ports : List (List Bool)) (places : List Bool) (target : PortAddr) (client port : ℕ) (old new : List SoundingNote) → places ≡ port_notes ports target → target ≡ port_at client port → new ≡ old ++ filter (reads_in places) (notes_of_port target) → new ≡ old ++ filter (reads_at ports) (notes_of_port (port_at client port))
port_added ports places target client port old new is at h =
    h ∙ ap (λ ps. old ++ filter (reads_in ps) (notes_of_port target)) is ∙ ap (λ xs. old ++ xs) (at_port ports target) ∙ ap (λ t. old ++ filter (reads_at ports) (notes_of_port t)) at
