-- What a line more does to a shut circle.
use Rattle.std.proofs.Common.{◌≡◌, ℕ, Bool, true, false, not, cond, ◌&&◌, ◌||◌, List, [], ◌∷◌, ◌++◌, sym, ap, arith}
use Rattle.std.specs.List.{list_all}
use Rattle.seq_state.specs.declared.input.Input.{Input}
use Rattle.seq_state.specs.Circle.{only}
use Rattle.seq_state.proofs.Lists.{filter-outside}
use Rattle.seq_circle.specs.Shut.{opens, stays_within}
use Rattle.seq_circle.specs.Laws.{LineMoreLaw}

-- a test of what members say, with a line more
line_all : (p : Input → Bool) (member : ℕ → Bool) (before after : List Input) (i : Input) → list_all p (only member (before ++ i ∷ after)) ≡ (list_all p (only member (before ++ after)) && (not (member i.actor) || p i))
line_all p member [] after i = go (member i.actor)
  where
    mine : (x y : Bool) → (x && y) ≡ (y && (false || x))
    mine x y = grind arith

    theirs : (x y : Bool) → y ≡ (y && (true || x))
    theirs x y = grind arith

    go : (b : Bool) → list_all p (cond b (i ∷ only member after) (only member after)) ≡ (list_all p (only member after) && (not b || p i))
    go true = mine (p i) (list_all p (only member after))
    go false = theirs (p i) (list_all p (only member after))
line_all p member (x ∷ before) after i = go (member x.actor) (line_all p member before after i)
  where
    deeper : (x y z q : Bool) → y ≡ (z && q) → (x && y) ≡ ((x && z) && q)
    deeper x y z q e = grind arith

    go : (b : Bool) → list_all p (only member (before ++ i ∷ after)) ≡ (list_all p (only member (before ++ after)) && (not (member i.actor) || p i)) →
        list_all p (cond b (x ∷ only member (before ++ i ∷ after)) (only member (before ++ i ∷ after)))
        ≡ (list_all p (cond b (x ∷ only member (before ++ after)) (only member (before ++ after))) && (not (member i.actor) || p i))
    go true more = deeper (p x) (list_all p (only member (before ++ i ∷ after))) (list_all p (only member (before ++ after))) (not (member i.actor) || p i) more
    go false more = more

both_more : (a s t x y n v w : Bool) → s ≡ (x && (n || v)) → t ≡ (y && (n || w)) → ((a && s) && t) ≡ (((a && x) && y) && (n || (v && w)))
both_more a s t x y n v w e f = grind arith

pub line_more_law : LineMoreLaw
line_more_law = record {
  line = λ owner member before after i.
      let makes : Input → Bool = λ j. not (opens owner j.actor j.command) in
      both_more (member owner) (list_all (stays_within owner member) (only member (before ++ i ∷ after))) (list_all makes (only member (before ++ i ∷ after)))
      (list_all (stays_within owner member) (only member (before ++ after))) (list_all makes (only member (before ++ after)))
      (not (member i.actor)) (stays_within owner member i) (makes i)
      (line_all (stays_within owner member) member before after i) (line_all makes member before after i);
  strangers = λ owner member inputs.
      ap (λ is. (member owner && list_all (stays_within owner member) is) && list_all (λ i. not (opens owner i.actor i.command)) is)
      (sym (filter-outside (λ (i : Input). member i.actor) (λ (i : Input). member i.actor) (λ i h. h) inputs));
}
