-- Those of a list that are kept, one by one.
use Rattle.std.proofs.Common.{◌≡◌, ◌<◌, ◌+◌, ◌++◌, ℕ, Bool, List, [], ◌∷◌, ◌∙◌, length, take, get_or, sym, ap}
use Rattle.std.specs.List.{filter}
use Rattle.std.proofs.lemmas.List.{take_more}
use Rattle.std.proofs.lemmas.List.Elements.{filter-append}

-- one more, where it is kept
pub kept_next : {X : Type 0} (keeps : X → Bool) (xs : List X) (i : ℕ) (x : X) (kept more : List X) → i < length xs → x ≡ get_or xs i x →
    kept ≡ filter keeps (take i xs) → more ≡ kept ++ filter keeps (x ∷ []) → more ≡ filter keeps (take (i + 1) xs)
kept_next keeps xs i x kept more lt here before now =
    now ∙ ap (λ ks. ks ++ filter keeps (x ∷ [])) before ∙ sym (filter-append keeps (take i xs) (x ∷ []))
    ∙ ap (filter keeps) (ap (λ n. take i xs ++ n ∷ []) here ∙ sym (take_more xs i x lt))
