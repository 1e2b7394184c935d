-- A list of keys without one of them, whose place the last takes.
use Rattle.std.proofs.Common.{◌≡◌, ◌≢◌, ◌<◌, ◌≤◌, ◌+◌, ◌-◌, ◌∙◌, ℕ, List, length, take, get_or, set, Some, None, ap, sym, arith}
use Rattle.std.specs.Prelude.{slice_get}
use Rattle.std.specs.List.{swap_remove}
use Rattle.std.proofs.lemmas.List.{length-set, length-take-le, get_or-take, get_or-set_same, get_or-set_other, take-take, take-set}
use Rattle.std.proofs.lemmas.Option.{slice_get-get_or, slice_get_past}

module _ (keys : List ℕ) (index : ℕ) (inside : index < length keys) where
  long : length (swap_remove keys index 0) ≡ length keys - 1
  long = length-take-le (length keys - 1) (set keys index (get_or keys (length keys - 1) 0)) (let e : length (set keys index (get_or keys (length keys - 1) 0)) ≡ length keys = length-set keys index (get_or keys (length keys - 1) 0) in omega arith)

  get-swapped : (j : ℕ) → j + 1 < length keys → slice_get (swap_remove keys index 0) j ≡ Some (get_or (set keys index (get_or keys (length keys - 1) 0)) j 0)
  get-swapped j l =
      slice_get-get_or (swap_remove keys index 0) j 0 (omega (arith, long)) ∙ ap Some (get_or-take (length keys - 1) (set keys index (get_or keys (length keys - 1) 0)) j 0 (omega arith))

  -- the last place is gone
  pub swapped-past : (j : ℕ) → length keys ≤ j + 1 → slice_get (swap_remove keys index 0) j ≡ None
  swapped-past j l = slice_get_past (swap_remove keys index 0) j (omega (arith, long))

  -- the last key stands where the removed one was
  pub swapped-here : index + 1 < length keys → slice_get (swap_remove keys index 0) index ≡ slice_get keys (length keys - 1)
  swapped-here l =
      get-swapped index l ∙ ap Some (get_or-set_same keys index (get_or keys (length keys - 1) 0) 0 inside) ∙ sym (slice_get-get_or keys (length keys - 1) 0 (omega arith))

  -- the others stand where they were
  pub swapped-other : (j : ℕ) → j + 1 < length keys → j ≢ index → slice_get (swap_remove keys index 0) j ≡ slice_get keys j
  swapped-other j l ne = get-swapped j l ∙ ap Some (get_or-set_other keys index j (get_or keys (length keys - 1) 0) 0 ne) ∙ sym (slice_get-get_or keys j 0 (omega arith))

  pub take-swapped : take index (swap_remove keys index 0) ≡ take index keys
  take-swapped = take-take index (length keys - 1) (set keys index (get_or keys (length keys - 1) 0)) (omega arith) ∙ take-set keys index (get_or keys (length keys - 1) 0)
