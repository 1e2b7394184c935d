-- Files whose divisions have ticks.
use Rattle.std.proofs.Common.{◌≡◌, ℕ, ◌+◌, ◌<◌, ◌≤◌, true, List, [], ◌∷◌, ◌++◌, map, length, take, get_or, refl, sym, ap, ◌∙◌}
use Rattle.std.specs.List.{list_all}
use Rattle.std.proofs.lemmas.Bool.{lt-ltb}
use Rattle.std.proofs.lemmas.List.{take_more, take_all}
use Rattle.tempo_clock.specs.Ticks.{resolution}
use Rattle.smf_grammar.specs.Files.{MidiFile}
use Rattle.smf_grammar.specs.Contents.{entries_of}
use Rattle.smf_grammar.specs.Played.{as_played}
use Rattle.seq_state.specs.Laws.{has_ticks}
use Rattle.seq_state.proofs.Lists.{list_all-append, and_both}

map-append : {X Y : Type 0} (f : X → Y) (xs ys : List X) → map f (xs ++ ys) ≡ map f xs ++ map f ys
map-append f [] ys = refl
map-append f (x ∷ xs) ys = ap (λ zs. f x ∷ zs) (map-append f xs ys)

pub ticks-more : (files : List MidiFile) (i : ℕ) (f : MidiFile) → i < length files → f ≡ get_or files i f → list_all has_ticks (map as_played (take i files)) ≡ true →
    0 < resolution (record { division = f.division; entries = entries_of f }) → list_all has_ticks (map as_played (take (i + 1) files)) ≡ true
ticks-more files i f l e so t =
    ap (λ fs. list_all has_ticks (map as_played fs)) (take_more files i f l ∙ ap (λ x. take i files ++ x ∷ []) (sym e))
    ∙ ap (list_all has_ticks) (map-append as_played (take i files) (f ∷ []))
    ∙ list_all-append has_ticks (map as_played (take i files)) (as_played f ∷ []) so (and_both (has_ticks (as_played f)) true (lt-ltb 0 (resolution (record { division = f.division; entries = entries_of f })) t) refl)

pub ticks-all : (files : List MidiFile) (i : ℕ) → length files ≤ i → list_all has_ticks (map as_played (take i files)) ≡ true → list_all has_ticks (map as_played files) ≡ true
ticks-all files i l so = ap (λ fs. list_all has_ticks (map as_played fs)) (sym (take_all i files l)) ∙ so
