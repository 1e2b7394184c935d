-- What readers and writers of the standard library move, where their bytes are known.
use Rattle.std.proofs.Common.{◌≡◌, ◌∙◌, ◌++◌, ℕ, ◌<◌, List, [], length, take, Option, Some, None, sym, ap, append-nil, subst}
use Rattle.std.specs.Io.KnownBytes.{Keeps, Appends, Consumes, IsAtEnd}
use Rattle.byte_io.specs.Std.{MayBe, IsKnownAs}

pub consumed : (old new : Option (List ℕ)) (bytes : List ℕ) → Consumes old new bytes → (rest : List ℕ) → MayBe new rest → MayBe old (bytes ++ rest)
consumed None new bytes h rest r = tt
consumed (Some xs) None bytes h rest r = absurd h
consumed (Some xs) (Some ys) bytes h rest r = h ∙ ap (λ (zs : List ℕ). bytes ++ zs) r

pub kept_unread : (old new : Option (List ℕ)) → Keeps old new → (rest : List ℕ) → MayBe new rest → MayBe old rest
kept_unread None new h rest r = tt
kept_unread (Some xs) None h rest r = absurd h
kept_unread (Some xs) (Some ys) h rest r = sym h ∙ r

pub at_end : (known : Option (List ℕ)) → IsAtEnd known → MayBe known []
at_end None h = tt
at_end (Some xs) h = h

pub appended : (old new : Option (List ℕ)) (bytes : List ℕ) → Appends old new bytes → (before : List ℕ) → IsKnownAs old before → IsKnownAs new (before ++ bytes)
appended None new bytes h before b = absurd b
appended (Some xs) None bytes h before b = absurd h
appended (Some xs) (Some ys) bytes h before b = h ∙ ap (λ (zs : List ℕ). zs ++ bytes) b

pub kept_written : (old new : Option (List ℕ)) → Keeps old new → (before : List ℕ) → IsKnownAs old before → IsKnownAs new (before ++ [])
kept_written None new h before b = absurd b
kept_written (Some xs) None h before b = absurd h
kept_written (Some xs) (Some ys) h before b = h ∙ b ∙ sym (append-nil before)
