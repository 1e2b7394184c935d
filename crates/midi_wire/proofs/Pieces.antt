-- A stream in any pieces.
use Rattle.std.proofs.Common.{◌≡◌, ℕ, List, [], ◌∷◌, ◌++◌, sym, ap, ◌∙◌, append-nil, append_assoc}
use Rattle.std.specs.List.{concat}
use Rattle.midi_wire.specs.Readings.{reading, rest}
use Rattle.midi_wire.specs.Laws.{reading_of_pieces, rest_of_pieces, ReadsInPieces, RestsInPieces}
use Rattle.midi_wire.proofs.Settled.{reads-in-two, rests-in-two, reading-none, rest-none}

reads-on : (s : List ℕ) (pieces : List (List ℕ)) → reading (s ++ concat pieces) ≡ reading s ++ reading_of_pieces (rest s) pieces
reads-on s [] = ap (λ u. reading u) (append-nil s) ∙ sym (append-nil (reading s))
reads-on s (p ∷ more) =
    ap (λ u. reading u) (sym (append_assoc s p (concat more)))
    ∙ reads-on (s ++ p) more
    ∙ ap (λ ms. ms ++ reading_of_pieces (rest (s ++ p)) more) (reads-in-two s p)
    ∙ ap (λ r. (reading s ++ reading (rest s ++ p)) ++ reading_of_pieces r more) (rests-in-two s p)
    ∙ append_assoc (reading s) (reading (rest s ++ p)) (reading_of_pieces (rest (rest s ++ p)) more)

pub reads-in-pieces : ReadsInPieces
reads-in-pieces pieces =
    sym (reads-on [] pieces ∙ ap (λ ms. ms ++ reading_of_pieces (rest []) pieces) reading-none ∙ ap (λ r. reading_of_pieces r pieces) rest-none)

rests-on : (s : List ℕ) (pieces : List (List ℕ)) → rest (s ++ concat pieces) ≡ rest_of_pieces (rest s) pieces
rests-on s [] = ap (λ u. rest u) (append-nil s)
rests-on s (p ∷ more) =
    ap (λ u. rest u) (sym (append_assoc s p (concat more)))
    ∙ rests-on (s ++ p) more
    ∙ ap (λ r. rest_of_pieces r more) (rests-in-two s p)

pub rests-in-pieces : RestsInPieces
rests-in-pieces pieces = sym (rests-on [] pieces ∙ ap (λ r. rest_of_pieces r pieces) rest-none)
