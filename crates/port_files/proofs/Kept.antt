-- One more track at the end.
use Rattle.std.proofs.Common.{◌≡◌, ℕ, ◌+◌, ◌<◌, List, [], ◌∷◌, ◌++◌, length, map, drop, get_or, arith}
use Rattle.std.proofs.lemmas.Grind.{common_steps}
use Rattle.std.specs.Global.{Vec}
use Rattle.smf_grammar.specs.Pairs.{Pair}
use Rattle.port_files.specs.Seen.{tracks_kept}

pub kept-more : {P : Type 0} (f : P → List Pair) (ts : List (Vec Pair)) (t : Vec Pair) (ps : List P) (i : ℕ) (p : P) → i < length ps → p ≡ get_or ps i p → t.items ≡ f p →
    tracks_kept (ts ++ t ∷ []) ++ map f (drop (i + 1) ps) ≡ tracks_kept ts ++ map f (drop i ps)
kept-more f ts t ps i p l is e = grind (arith, common_steps)
