-- Logs that are held in memory until they are printed.
use Rattle.std.proofs.Common.{◌≡◌, ℕ, zero, suc, ◌<◌, false, List, [], ◌∷◌, ◌++◌, ◌∙◌, length, map, take, drop, get_or, replicate, refl, sym, ap, subst, append_assoc, arith}
use Rattle.std.specs.List.{AllByRecursion, flat_map}
use Rattle.byte_io.specs.Moved.{Took, TookPart}
use Rattle.seq_session.specs.Devices.{Wrote}
use Rattle.program_tasks.specs.Held.{HeldText, nothing_held}
use Rattle.program_tasks.proofs.Fronts.{gained_before, gained_after}

-- the pieces before one, and it, and those after it
parts : {T : Type 0} (text : T → List ℕ) (pieces : List T) (i : ℕ) (piece : T) → i < length pieces → piece ≡ get_or pieces i piece →
    flat_map text pieces ≡ flat_map text (take i pieces) ++ (text piece ++ flat_map text (drop (suc i) pieces))
parts text [] i piece l e = absurd (omega arith)
parts text (p ∷ pieces) zero piece l e = ap (λ q. text q ++ flat_map text pieces) (sym e)
parts text (p ∷ pieces) (suc i) piece l e =
    ap (λ xs. text p ++ xs) (parts text pieces i piece (omega arith) e)
    ∙ sym (append_assoc (text p) (flat_map text (take i pieces)) (text piece ++ flat_map text (drop (suc i) pieces)))

-- a piece that is written in part
pub piece_stops : {W T : Type 0} (HasTaken : W → List ℕ → Type 0) (text : T → List ℕ) (pieces : List T) (i : ℕ) (piece : T) (old mid new : W) → i < length pieces → piece ≡ get_or pieces i piece →
    Took HasTaken old (flat_map text (take i pieces)) mid → TookPart HasTaken mid (text piece) new → TookPart HasTaken old (flat_map text pieces) new
piece_stops HasTaken text pieces i piece old mid new l e before g =
    let more = flat_map text (drop (suc i) pieces) in
    subst (λ t. TookPart HasTaken old t new) (sym (parts text pieces i piece l e))
    (gained_after HasTaken old mid new (flat_map text (take i pieces)) (text piece ++ more) before (gained_before HasTaken mid new (text piece) more g))

-- ---- logs that began empty

-- each holds what it was written
pub wrote_held : (count : ℕ) (olds news : List HeldText) (texts : List (List ℕ)) → olds ≡ replicate count nothing_held →
    Wrote (λ h bytes. h.taken ≡ bytes) olds news texts → map (λ h. h.taken) news ≡ texts
wrote_held count [] [] [] e w = refl
wrote_held count [] [] (t ∷ texts) e w = absurd w
wrote_held count [] (n ∷ news) texts e w = absurd w
wrote_held count (o ∷ olds) [] texts e w = absurd w
wrote_held count (o ∷ olds) (n ∷ news) [] e w = absurd w
wrote_held zero (o ∷ olds) (n ∷ news) (t ∷ texts) e w = cc
wrote_held (suc count) (o ∷ olds) (n ∷ news) (t ∷ texts) e w =
    let first : o ≡ nothing_held = ap (λ xs. get_or xs 0 nothing_held) e in
    let more : olds ≡ replicate count nothing_held = ap (drop 1) e in
    let here : n.taken ≡ t = w.0 [] (ap (λ h. h.taken) first) in
    ap (λ x. x ∷ map (λ h. h.taken) news) here ∙ ap (λ xs. t ∷ xs) (wrote_held count olds news texts more w.1)

-- none of them has failed
pub all_open : (count : ℕ) (logs : List HeldText) → logs ≡ replicate count nothing_held → AllByRecursion (λ h. h.failed ≡ false) logs
all_open count [] e = tt
all_open zero (o ∷ logs) e = cc
all_open (suc count) (o ∷ logs) e =
    (ap (λ h. h.failed) (let first : o ≡ nothing_held = ap (λ xs. get_or xs 0 nothing_held) e in first), all_open count logs (let more : logs ≡ replicate count nothing_held = ap (drop 1) e in more))
