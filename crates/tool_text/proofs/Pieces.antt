-- A text that is gathered and written piece by piece.
use Rattle.std.proofs.Common.{◌≡◌, ◌<◌, ℕ, zero, suc, ◌+◌, List, [], ◌∷◌, ◌++◌, ◌∙◌, length, drop, get_or, refl, arith, ap, sym, subst, append_assoc, append-nil}
use Rattle.std.specs.List.{flat_map}
use Rattle.std.proofs.lemmas.List.Concat.{flat_map-append}
use Rattle.byte_io.specs.Moved.{Took, TookPart}
use Rattle.byte_io.proofs.Moved.{took_none, took_more}
use Rattle.text_forms.specs.Hex.{spaced_hex}
use Rattle.tool_text.specs.Gathered.{IsGathered, TookFirst}

-- ---- texts

-- what was pushed behind a text is all written but what is left
go-on : (gained more text pushed left line rest all : List ℕ) → gained ++ text ++ (line ++ rest) ≡ all → pushed ≡ text ++ line → more ++ left ++ [] ≡ pushed → gained ++ more ++ left ++ rest ≡ all
go-on gained more text pushed left line rest all g e h =
    ap (λ (xs : List ℕ). xs ++ rest) (append_assoc gained more left ∙ ap (λ (xs : List ℕ). gained ++ xs) (sym (append-nil (more ++ left)) ∙ h ∙ e) ∙ sym (append_assoc gained text line))
    ∙ append_assoc (gained ++ text) line rest ∙ g

-- a part of it is written
stop-within : (gained more missing text pushed line rest all : List ℕ) → gained ++ text ++ (line ++ rest) ≡ all → pushed ≡ text ++ line → pushed ≡ more ++ missing → all ≡ gained ++ more ++ (missing ++ rest)
stop-within gained more missing text pushed line rest all g e h =
    sym g ∙ sym (append_assoc (gained ++ text) line rest)
    ∙ ap (λ (xs : List ℕ). xs ++ rest) (append_assoc gained text line ∙ ap (λ (xs : List ℕ). gained ++ xs) (sym e ∙ h) ∙ sym (append_assoc gained more missing))
    ∙ append_assoc (gained ++ more) missing rest

front : {A : Type 0} (line : A → List ℕ) (xs : List A) (i : ℕ) (d : A) → i < length xs → flat_map line (drop i xs) ≡ line (get_or xs i d) ++ flat_map line (drop (i + 1) xs)
front line [] i d h = absurd (omega arith)
front line (x ∷ xs) zero d h = refl
front line (x ∷ xs) (suc i) d h = let n : suc i + 1 ≡ suc (i + 1) = omega arith in front line xs i d (omega arith) ∙ ap (λ (k : ℕ). line (get_or xs i d) ++ flat_map line (drop k (x ∷ xs))) (sym n)

in-two : (part left left' : List ℕ) → left ≡ part ++ left' → spaced_hex left ≡ spaced_hex part ++ spaced_hex left'
in-two part left left' split = ap spaced_hex split ∙ simp flat_map-append

module _ {W : Type 0} (HasTaken : W → List ℕ → Type 0) where
  -- ---- one piece

  pub part-stops : (old new : W) (text : List ℕ) → TookPart HasTaken old text new → TookFirst HasTaken old text new
  part-stops old new text p = record { gained = p.gained; missing = p.missing; took = p.took; whole = p.split }

  pub stops-none : (old : W) (text : List ℕ) → TookFirst HasTaken old text old
  stops-none old text = record { gained = []; missing = text; took = took_none HasTaken old; whole = refl }

  -- ---- one piece after another

  pub goes-none : (old : W) (text rest : List ℕ) → IsGathered HasTaken old old text rest (text ++ rest)
  goes-none old text rest = record { gained = []; took = took_none HasTaken old; whole = refl }

  pub goes-more : (old mid new : W) (text pushed left line rest all : List ℕ) → IsGathered HasTaken old mid text (line ++ rest) all → pushed ≡ text ++ line → IsGathered HasTaken mid new left [] pushed → IsGathered HasTaken old new left rest all
  goes-more old mid new text pushed left line rest all g e h = record {
    gained = g.gained ++ h.gained;
    took = took_more HasTaken old mid new g.gained h.gained g.took h.took;
    whole = go-on g.gained h.gained text pushed left line rest all g.whole e h.whole;
  }

  pub stops-more : (old mid new : W) (text pushed line rest all : List ℕ) → IsGathered HasTaken old mid text (line ++ rest) all → pushed ≡ text ++ line → TookFirst HasTaken mid pushed new → TookFirst HasTaken old all new
  stops-more old mid new text pushed line rest all g e h = record {
    gained = g.gained ++ h.gained;
    missing = h.missing ++ rest;
    took = took_more HasTaken old mid new g.gained h.gained g.took h.took;
    whole = stop-within g.gained h.gained h.missing text pushed line rest all g.whole e h.whole;
  }

  pub goes-stops : (old new : W) (text rest all : List ℕ) → IsGathered HasTaken old new text rest all → TookFirst HasTaken old all new
  goes-stops old new text rest all g = record { gained = g.gained; missing = text ++ rest; took = g.took; whole = sym g.whole ∙ append_assoc g.gained text rest }

  -- the last part
  pub goes-all : (old mid new : W) (text part pushed all : List ℕ) → IsGathered HasTaken old mid text part all → pushed ≡ text ++ part → Took HasTaken mid pushed new → Took HasTaken old all new
  goes-all old mid new text part pushed all g e k =
      subst (λ (xs : List ℕ). Took HasTaken old xs new) (ap (λ (xs : List ℕ). g.gained ++ xs) e ∙ sym (append_assoc g.gained text part) ∙ g.whole) (took_more HasTaken old mid new g.gained pushed g.took k)

  pub stops-all : (old mid new : W) (text part pushed all : List ℕ) → IsGathered HasTaken old mid text part all → pushed ≡ text ++ part → TookFirst HasTaken mid pushed new → TookFirst HasTaken old all new
  stops-all old mid new text part pushed all g e k =
      stops-more old mid new text pushed part [] all (subst (λ (xs : List ℕ). IsGathered HasTaken old mid text xs all) (sym (append-nil part)) g) e k

  -- ---- lists of lines

  pub goes-line : {A : Type 0} (line : A → List ℕ) (xs : List A) (i : ℕ) (d : A) (old mid new : W) (text pushed left all : List ℕ) → i < length xs → IsGathered HasTaken old mid text (flat_map line (drop i xs)) all →
      pushed ≡ text ++ line (get_or xs i d) → IsGathered HasTaken mid new left [] pushed → IsGathered HasTaken old new left (flat_map line (drop (i + 1) xs)) all
  goes-line line xs i d old mid new text pushed left all h g e k =
      goes-more old mid new text pushed left (line (get_or xs i d)) (flat_map line (drop (i + 1) xs)) all (subst (λ (rest : List ℕ). IsGathered HasTaken old mid text rest all) (front line xs i d h) g) e k

  pub stops-line : {A : Type 0} (line : A → List ℕ) (xs : List A) (i : ℕ) (d : A) (old mid new : W) (text pushed all : List ℕ) → i < length xs → IsGathered HasTaken old mid text (flat_map line (drop i xs)) all →
      pushed ≡ text ++ line (get_or xs i d) → TookFirst HasTaken mid pushed new → TookFirst HasTaken old all new
  stops-line line xs i d old mid new text pushed all h g e k =
      stops-more old mid new text pushed (line (get_or xs i d)) (flat_map line (drop (i + 1) xs)) all (subst (λ (rest : List ℕ). IsGathered HasTaken old mid text rest all) (front line xs i d h) g) e k

  -- ---- bytes in hexadecimal

  pub goes-part : (part left left' : List ℕ) (old mid new : W) (text pushed gathered all : List ℕ) → left ≡ part ++ left' → IsGathered HasTaken old mid text (spaced_hex left) all →
      pushed ≡ text ++ spaced_hex part → IsGathered HasTaken mid new gathered [] pushed → IsGathered HasTaken old new gathered (spaced_hex left') all
  goes-part part left left' old mid new text pushed gathered all split g e k =
      goes-more old mid new text pushed gathered (spaced_hex part) (spaced_hex left') all (subst (λ (rest : List ℕ). IsGathered HasTaken old mid text rest all) (in-two part left left' split) g) e k

  pub stops-part : (part left left' : List ℕ) (old mid new : W) (text pushed all : List ℕ) → left ≡ part ++ left' → IsGathered HasTaken old mid text (spaced_hex left) all →
      pushed ≡ text ++ spaced_hex part → TookFirst HasTaken mid pushed new → TookFirst HasTaken old all new
  stops-part part left left' old mid new text pushed all split g e k =
      stops-more old mid new text pushed (spaced_hex part) (spaced_hex left') all (subst (λ (rest : List ℕ). IsGathered HasTaken old mid text rest all) (in-two part left left' split) g) e k

  -- no byte is left
  pub goes-last : (left : List ℕ) (old new : W) (text all : List ℕ) → left ≡ [] → IsGathered HasTaken old new text (spaced_hex left) all → IsGathered HasTaken old new text [] all
  goes-last left old new text all none g = subst (λ (bytes : List ℕ). IsGathered HasTaken old new text (spaced_hex bytes) all) none g
