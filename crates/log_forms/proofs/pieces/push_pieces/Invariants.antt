use Rattle.std.proofs.Common.{◌≡◌, ◌++◌, take}
use Rattle.std.specs.List.{flat_map}
use Rattle.log_forms.proofs.pieces.push_pieces.Given as goal

-- the pieces so far stand behind what was there
abbrev pub invariant-loop-piece : goal.invariant-loop-piece
invariant-loop-piece l = l.out.items ≡ l.initial.out.items ++ flat_map (λ p. p.now) (take l.piece-index l.pieces)
