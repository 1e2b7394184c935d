-- The chunk of a container that is looked for.
use Rattle.std.proofs.Common.{◌≡◌, ◌<◌, ℕ, zero, suc, ◌-◌, Bool, true, false, List, ◌∙◌, length, take, drop, refl, arith, ap, sym}
use Rattle.std.specs.Prelude.{Option, Some, None, if◌then◌else◌, codes}
use Rattle.smf_grammar.specs.Chunks.{starts}
use Rattle.smf_mend.specs.Containers.{is_rmid, has_riff_chunk, riff_content, riff_left, data_among, content_or, midi_in}
use Rattle.smf_mend.proofs.Behind.{cut-all}

pub data-ends : (n : ℕ) (left : List ℕ) → n ≡ 0 → data_among n left ≡ None
unfolding data_among
data-ends zero left h = refl
data-ends (suc n) left h = absurd (omega arith)

pub data-stops : (n : ℕ) (left : List ℕ) → 0 < n → has_riff_chunk left ≡ false → data_among n left ≡ None
unfolding data_among
data-stops zero left h none = absurd (omega arith)
data-stops (suc n) left h none = ap (λ (t : Bool). if t then (if starts (codes "data") left then Some (riff_content left) else data_among n (riff_left left)) else None) none

pub data-here : (n : ℕ) (left : List ℕ) → 0 < n → has_riff_chunk left ≡ true → starts (codes "data") left ≡ true → data_among n left ≡ Some (riff_content left)
unfolding data_among
data-here zero left h there is = absurd (omega arith)
data-here (suc n) left h there is =
    ap (λ (t : Bool). if t then (if starts (codes "data") left then Some (riff_content left) else data_among n (riff_left left)) else None) there
    ∙ ap (λ (t : Bool). if t then Some (riff_content left) else data_among n (riff_left left)) is

pub data-later : (n m : ℕ) (left : List ℕ) → 0 < n → m ≡ n - 1 → has_riff_chunk left ≡ true → starts (codes "data") left ≡ false → data_among n left ≡ data_among m (riff_left left)
unfolding data_among
data-later zero m left h e there is = absurd (omega arith)
data-later (suc n) m left h e there is =
    let same : n ≡ m = omega arith in
    ap (λ (t : Bool). if t then (if starts (codes "data") left then Some (riff_content left) else data_among n (riff_left left)) else None) there
    ∙ ap (λ (t : Bool). if t then Some (riff_content left) else data_among n (riff_left left)) is
    ∙ ap (λ (k : ℕ). data_among k (riff_left left)) same

pub no-container : (bytes : List ℕ) → is_rmid bytes ≡ false → bytes ≡ midi_in bytes
unfolding midi_in
no-container bytes is = sym (ap (λ (t : Bool). if t then content_or bytes (data_among (length bytes) (drop 12 bytes)) else bytes) is)

found-in : (bytes : List ℕ) (found : Option (List ℕ)) → is_rmid bytes ≡ true → data_among (length bytes) (take (length bytes - 12) (drop 12 bytes)) ≡ found → content_or bytes found ≡ midi_in bytes
unfolding midi_in
found-in bytes found is e =
    sym (ap (λ (t : Bool). if t then content_or bytes (data_among (length bytes) (drop 12 bytes)) else bytes) is
    ∙ ap (λ (l : List ℕ). content_or bytes (data_among (length bytes) l)) (sym (cut-all bytes 12))
    ∙ ap (content_or bytes) e)

pub content-in : (bytes content : List ℕ) → is_rmid bytes ≡ true → data_among (length bytes) (take (length bytes - 12) (drop 12 bytes)) ≡ Some content → content ≡ midi_in bytes
content-in bytes content is e = found-in bytes (Some content) is e

pub nothing-in : (bytes : List ℕ) → is_rmid bytes ≡ true → data_among (length bytes) (take (length bytes - 12) (drop 12 bytes)) ≡ None → bytes ≡ midi_in bytes
nothing-in bytes is e = found-in bytes None is e
