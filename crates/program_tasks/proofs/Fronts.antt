-- First parts of a text that a sink has taken.
use Rattle.std.proofs.Common.{◌≡◌, ℕ, ◌+◌, ◌<◌, List, ◌++◌, length, sym, ap, ◌∙◌, append_assoc, length-append, arith}
use Rattle.byte_io.specs.Moved.{Took, TookPart}
use Rattle.byte_io.proofs.Moved.{took_more}

module _ {W : Type 0} (HasTaken : W → List ℕ → Type 0) where
  -- more was to follow
  pub gained_before : (old new : W) (text more : List ℕ) → TookPart HasTaken old text new → TookPart HasTaken old (text ++ more) new
  gained_before old new text more g =
      let short : 0 < length g.missing = g.short in
      record {
        gained = g.gained;
        missing = g.missing ++ more;
        took = g.took;
        split = ap (λ ys. ys ++ more) g.split ∙ append_assoc g.gained g.missing more;
        short = let e : length (g.missing ++ more) ≡ length g.missing + length more = length-append g.missing more in omega arith;
      }

  -- some was taken before
  pub gained_after : (old mid new : W) (front text : List ℕ) → Took HasTaken old front mid → TookPart HasTaken mid text new → TookPart HasTaken old (front ++ text) new
  gained_after old mid new front text t g = record {
    gained = front ++ g.gained;
    missing = g.missing;
    took = took_more HasTaken old mid new front g.gained t g.took;
    split = ap (λ ys. front ++ ys) g.split ∙ sym (append_assoc front g.gained g.missing);
    short = g.short;
  }
