-- The range from a key on has all keys that are not before it, in order: its first entry is the least of them, and where it has none no cell waits there.
use Rattle.std.proofs.Common.{◌≡◌, ℕ, Bool, true, false, None, Some, List, [], ◌∷◌, refl, sym, ap, ◌∙◌}
use Rattle.std.specs.BTreeMap.{BTreeMap, get}
use Rattle.std.specs.BTreeMap.Range.{IsRangeOf}
use Rattle.std.specs.Option.{is_some}
use Rattle.std.specs.declared.ops.Bound.TheVariants.{Included, Unbounded}
use Rattle.seq_settle.specs.declared.waiting.QueueKey.{QueueKey}
use Rattle.seq_settle.specs.Waiting.{is_before, queue_cmp}
use Rattle.seq_settle.proofs.QueueKeys.{before-cmp}
use Rattle.seq_settle.proofs.waiting.WaitingCells.first_from.Goals as goal

module _ (cells : BTreeMap QueueKey ℕ) (from : QueueKey) (found : List (QueueKey × ℕ)) (range : IsRangeOf queue_cmp (Included from) Unbounded cells found) where
  -- where nothing is found, each cell waits before the key
  none-behind : found ≡ [] → (k : QueueKey) (q : ℕ) → get queue_cmp cells k ≡ Some q → is_before k from ≡ true
  none-behind empty k q at = go (is_before k from) refl
    where
      go : (b : Bool) → is_before k from ≡ b → b ≡ true
      go true e = refl
      go false e = let none : get queue_cmp cells k ≡ None = range.5 empty k (sym (before-cmp k from) ∙ e, tt) in cc

  -- of the cells that wait behind the key, none is before the first that is found
  first-least : (first : QueueKey × ℕ) (rest : List (QueueKey × ℕ)) → found ≡ first ∷ rest → (k : QueueKey) (q : ℕ) → get queue_cmp cells k ≡ Some q → is_before k from ≡ false →
      is_before k first.0 ≡ false
  first-least first rest is k q at behind = before-cmp k first.0 ∙ (rw is at (range.2 k (sym (before-cmp k from) ∙ behind, tt) (ap is_some at)))

pub returns-in_err-key-clause-none : goal.returns-in_err-key-clause-none
returns-in_err-key-clause-none c = rw c.from_residual.ensures (none-behind c.args.self.now.cells _ _ (c.range.ensures.in_range tt) c.in_err-key.ensures.steps.0)

pub returns-clause-least : goal.returns-clause-least
returns-clause-least c = first-least c.args.self.now.cells _ _ (c.range.ensures.in_range tt) _ _ c.in_ok-key.ensures.steps
