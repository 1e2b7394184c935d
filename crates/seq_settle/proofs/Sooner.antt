-- The soonest of moments, and going over what waits for it.
use Rattle.std.proofs.Common.{◌≡◌, ℕ, ◌+◌, ◌≤◌, ◌<◌, Bool, true, false, ◌⊎◌, inl, inr, Option, Some, None, refl, sym, ap, subst, ◌∙◌, arith}
use Rattle.std.specs.Option.{option_map}
use Rattle.std.specs.Prelude.{IfSome, IfNone}
use Rattle.std.specs.Ordering.{nat_cmp}
use Rattle.std.specs.FinMap
use Rattle.std.specs.FinMap.{FinMap}
use Rattle.std.proofs.lemmas.Bool.Decides.{nat_tests}
use Rattle.std.proofs.lemmas.Option.{none-some, same_Some}
use Rattle.tempo_clock.specs.Laws.{NoLater}
use Rattle.tempo_clock.specs.declared.due.Due.{Due}
use Rattle.seq_state.specs.State.{Client}
use Rattle.agenda_heap.specs.declared.due_key.DueKey.{DueKey}
use Rattle.agenda_heap.specs.Due.{IsBare}
use Rattle.seq_settle.specs.declared.head.PlaybackHead.{PlaybackHead}
use Rattle.seq_settle.specs.declared.order.QueueOrder.{QueueOrder}
use Rattle.seq_settle.specs.declared.waiting.QueueKey.{QueueKey}
use Rattle.seq_settle.specs.Cells.{PlaybackCell, AreCells, key_of}
use Rattle.seq_settle.specs.Moments.{moment_at}
use Rattle.seq_settle.specs.Order.{queue_key, IsPlaced, AreTimed}
use Rattle.seq_settle.specs.Sends.{head_of, key_of_head, next_due}
use Rattle.seq_settle.specs.Soonest.{is_sooner, sooner, IsDueAt, IsFirstMoment, IsSoonest, WaitsUntil}
use Rattle.seq_settle.specs.Waiting.{cell_at, is_before}
use Rattle.seq_settle.proofs.Bounds.{no-sooner}
use Rattle.seq_settle.proofs.Looked.{looked-keyed}
use Rattle.seq_settle.proofs.Timed.{keyed-is}
use Rattle.seq_settle.proofs.Turn.{key_of-some, not_less_moment}
use Rattle.seq_settle.proofs.Woken.{before-or-first, behind-in-row}

-- ---- two moments

pub no-later-same : (a : Option ℕ) → NoLater a a
no-later-same None = tt
no-later-same (Some m) = omega arith

pub no-later-then : (a b c : Option ℕ) → NoLater a b → NoLater b c → NoLater a c
no-later-then a b None h k = tt
no-later-then a None (Some n) h k = absurd k
no-later-then None (Some m) (Some n) h k = absurd h
no-later-then (Some l) (Some m) (Some n) h k = omega (arith, h, k)

-- what is not sooner is no earlier
pub not-sooner : (a b : Option ℕ) → is_sooner a b ≡ false → NoLater b a
not-sooner None b h = tt
not-sooner (Some m) None h = cc
not-sooner (Some m) (Some n) h = grind (arith, nat_tests)

sooner-not-later : (a b : Option ℕ) → is_sooner a b ≡ true → NoLater a b
sooner-not-later None b h = cc
sooner-not-later (Some m) None h = tt
sooner-not-later (Some m) (Some n) h = grind (arith, nat_tests)

-- the sooner of two is no later than either, and is one of them
pub sooner-one : (a b : Option ℕ) → (NoLater (sooner a b) a × NoLater (sooner a b) b) × ((sooner a b ≡ a) ⊎ (sooner a b ≡ b))
sooner-one a b = go (is_sooner b a) refl
  where
    go : (t : Bool) → is_sooner b a ≡ t → (NoLater (sooner a b) a × NoLater (sooner a b) b) × ((sooner a b ≡ a) ⊎ (sooner a b ≡ b))
    go true e = rw e ((sooner-not-later b a e, no-later-same b), inr refl)
    go false e = rw e ((no-later-same a, not-sooner b a e), inl refl)

-- ---- going over what waits, from the least key up

-- the moment is one of those that stand before a key and wait, and none of them is earlier
pub record IsSoonestBefore (clients : FinMap nat_cmp Client) (cells : FinMap nat_cmp PlaybackCell) (order : QueueOrder) (from : QueueKey) (least : Option ℕ) : Type 0 where
  pub there : (m : ℕ) → least ≡ Some m → WaitsUntil clients cells order m
  pub first : (k : QueueKey) (q : ℕ) (key : DueKey) → cell_at order.waiting k ≡ Some q → is_before k from ≡ true → key_of clients (FinMap.get cells q) ≡ Some key → NoLater least (Some key.moment)

-- the moment of a key, if there is one
abbrev pub moment_of_key : Option DueKey → Option ℕ
moment_of_key o = option_map (λ k. k.moment) o

keyed-moment : (o : Option DueKey) (m : ℕ) → moment_of_key o ≡ Some m → (key : DueKey) × (o ≡ Some key) × (key.moment ≡ m)
keyed-moment None m e = absurd (none-some m e)
keyed-moment (Some k) m e = (k, refl, same_Some k.moment m e)

-- what a cell says of itself gives the moment of its key
pub looked-sooner : (clients : FinMap nat_cmp Client) (o : Option PlaybackCell) (h : PlaybackHead) (least least' moment : Option ℕ) → Some h ≡ option_map head_of o → moment ≡ moment_of_key (key_of_head clients h) → least' ≡ sooner least moment → least' ≡ sooner least (moment_of_key (key_of clients o))
looked-sooner clients o h least least' moment looked own is = is ∙ ap (sooner least) (own ∙ ap moment_of_key (sym (looked-keyed clients o h looked)))

module _ (clients : FinMap nat_cmp Client) (cells : FinMap nat_cmp PlaybackCell) (order : QueueOrder) (agenda : FinMap nat_cmp DueKey) (n : ℕ) (are : AreCells cells n) (timed : AreTimed clients cells order agenda) (from : QueueKey)
    (k0 : QueueKey) (q0 : ℕ) (here : cell_at order.waiting k0 ≡ Some q0) (behind : (k : QueueKey) (q : ℕ) → cell_at order.waiting k ≡ Some q → is_before k from ≡ false → is_before k k0 ≡ false)
    (least least' : Option ℕ) (before : IsSoonestBefore clients cells order from least) (is : least' ≡ sooner least (moment_of_key (key_of clients (FinMap.get cells q0)))) where
  abbrev own : Option ℕ
  own = moment_of_key (key_of clients (FinMap.get cells q0))

  lower : NoLater least' least × NoLater least' own
  lower = rw is (sooner-one least own).0

  there : (m : ℕ) → least' ≡ Some m → WaitsUntil clients cells order m
  there m e = go (sooner-one least own).1
    where
      go : (sooner least own ≡ least) ⊎ (sooner least own ≡ own) → WaitsUntil clients cells order m
      go (inl same) = before.there m (sym same ∙ sym is ∙ e)
      go (inr same) =
          let f = keyed-moment (key_of clients (FinMap.get cells q0)) m (sym same ∙ sym is ∙ e) in
          record { place = k0; cell = q0; key = f.0; waits = here; keyed = f.1; at = f.2 }

  old : (k : QueueKey) (q : ℕ) (key : DueKey) → cell_at order.waiting k ≡ Some q → is_before k from ≡ true → key_of clients (FinMap.get cells q) ≡ Some key → NoLater least' (Some key.moment)
  old k q key at t f = no-later-then least' least (Some key.moment) lower.0 (before.first k q key at t f)

  -- one more was looked at
  pub soonest-one : IsSoonestBefore clients cells order (record { row = k0.row; time = k0.time; rank = k0.rank + 1 }) least'
  soonest-one = record {
    there = there;
    first = λ k q key at t f. go k q key at f (before-or-first clients cells order agenda n are timed from k0 q0 here behind k q at t);
  }
    where
      go : (k : QueueKey) (q : ℕ) (key : DueKey) → cell_at order.waiting k ≡ Some q → key_of clients (FinMap.get cells q) ≡ Some key → (is_before k from ≡ true) ⊎ (k0 ≡ k) → NoLater least' (Some key.moment)
      go k q key at f (inl t) = old k q key at t f
      go k q key at f (inr same) =
          let one : q0 ≡ q = same_Some q0 q (sym here ∙ ap (cell_at order.waiting) same ∙ at) in
          let mine : own ≡ Some key.moment = ap (λ x. moment_of_key (key_of clients (FinMap.get cells x))) one ∙ ap moment_of_key f in
          subst (λ o. NoLater least' o) mine lower.1

  -- its row was, where what is behind it comes no sooner
  pub soonest-row : (d : PlaybackCell) → FinMap.get cells q0 ≡ Some d → (bound : Option ℕ) → ((due : Due) → next_due d.1.events ≡ Some due → bound ≡ moment_at clients d.1.queue 0 due) → is_sooner bound least' ≡ false →
      IsSoonestBefore clients cells order (record { row = k0.row + 1; time = 0; rank = 0 }) least'
  soonest-row d at0 bound bound-is late = record {
    there = there;
    first = λ k q key at t f. go k q key at t f (is_before k from) refl;
  }
    where
      go : (k : QueueKey) (q : ℕ) (key : DueKey) → cell_at order.waiting k ≡ Some q → is_before k (record { row = k0.row + 1; time = 0; rank = 0 }) ≡ true → key_of clients (FinMap.get cells q) ≡ Some key →
          (b : Bool) → is_before k from ≡ b → NoLater least' (Some key.moment)
      go k q key at t f true e = old k q key at e f
      go k q key at t f false e =
          let w = behind-in-row clients cells order agenda n are timed from k0 q0 here behind d at0 k q key at e t f in
          no-later-then least' bound (Some key.moment) (not-sooner bound least' late)
          (subst (λ o. NoLater o (Some key.moment)) (sym (bound-is w.0 w.3)) (subst (λ o. NoLater (moment_at clients d.1.queue 0 w.0) o) w.5 (no-sooner clients d.1.queue w.2 w.0 w.1 w.4)))

-- all was looked at
pub soonest-end : (clients : FinMap nat_cmp Client) (cells : FinMap nat_cmp PlaybackCell) (order : QueueOrder) (from : QueueKey) (least : Option ℕ) → IsSoonestBefore clients cells order from least →
    ((k : QueueKey) (q : ℕ) → cell_at order.waiting k ≡ Some q → is_before k from ≡ true) → IsSoonest (WaitsUntil clients cells order) least
soonest-end clients cells order from least before all = record {
  there = before.there;
  first = λ m w. subst (λ x. NoLater least (Some x)) w.at (before.first w.place w.cell w.key w.waits (all w.place w.cell w.waits) w.keyed);
}

-- ---- with what the agenda has

-- the moment of an agenda's least key; none where it has none
pub record IsFirstOf (agenda : FinMap nat_cmp DueKey) (first : Option ℕ) : Type 0 where
  pub some : (m : ℕ) → first ≡ Some m → IsFirstMoment agenda m
  pub none : first ≡ None → IsBare agenda

pub first-of : (agenda : FinMap nat_cmp DueKey) (o : Option ℕ) → IfSome o (λ m. IsFirstMoment agenda m) → IfNone o (IsBare agenda) → IsFirstOf agenda o
first-of agenda None h k = record { some = λ m e. absurd (none-some m e); none = λ e. k }
first-of agenda (Some n) h k = record { some = λ m e. subst (IsFirstMoment agenda) (same_Some n m e) h; none = λ e. absurd (none-some n (sym e)) }

module _ (clients : FinMap nat_cmp Client) (cells : FinMap nat_cmp PlaybackCell) (order : QueueOrder) (agenda : FinMap nat_cmp DueKey) (timed : AreTimed clients cells order agenda) where
  -- a key is the agenda's, or waits
  either : (P : ℕ → Type 0) → ((q : ℕ) (key : DueKey) → FinMap.get agenda q ≡ Some key → P key.moment) → ((m : ℕ) → WaitsUntil clients cells order m → P m) → (m : ℕ) → IsDueAt clients cells m → P m
  either P has waits m d =
      let h = key_of-some clients (FinMap.get cells d.cell) d.key d.keyed in
      subst P d.at (go h.0 h.1 (timed.placed d.cell h.0 h.1))
    where
      go : (c : PlaybackCell) → FinMap.get cells d.cell ≡ Some c → IsPlaced clients order agenda d.cell c → P d.key.moment
      go c here (inl p) = has d.cell d.key (p.0 ∙ sym (ap (key_of clients) here) ∙ d.keyed)
      go c here (inr p) = waits d.key.moment (record { place = queue_key c; cell = d.cell; key = d.key; waits = p.1; keyed = d.keyed; at = refl })

  first-due : (first : Option ℕ) → IsFirstOf agenda first → (m : ℕ) → first ≡ Some m → IsDueAt clients cells m
  first-due first f m e =
      let x : IsFirstMoment agenda m = f.some m e in
      record { cell = x.first.0; key = x.key; keyed = keyed-is clients cells order agenda timed x.first.0 x.key x.first.1.here; at = x.at }

  first-least : (first : Option ℕ) → IsFirstOf agenda first → (q : ℕ) (key : DueKey) → FinMap.get agenda q ≡ Some key → NoLater first (Some key.moment)
  first-least first f q key e = go first refl
    where
      go : (o : Option ℕ) → first ≡ o → NoLater o (Some key.moment)
      go None g = let bad : key.moment < key.moment = f.none g key.moment q key e in absurd (omega arith)
      go (Some m) g =
          let x : IsFirstMoment agenda m = f.some m g in
          let le : x.key.moment ≤ key.moment = not_less_moment key x.key (x.first.1.least q key e) in
          omega (arith, x.at)

  -- nothing that waits is sooner
  pub soonest-first : (first : Option ℕ) → IsFirstOf agenda first → is_sooner (Some order.earliest) first ≡ false → IsSoonest (IsDueAt clients cells) first
  soonest-first first f late = record {
    there = first-due first f;
    first = either (λ m. NoLater first (Some m)) (first-least first f)
        (λ m w. no-later-then first (Some order.earliest) (Some m) (not-sooner (Some order.earliest) first late)
        (let early : order.earliest ≤ w.key.moment = timed.early w.place w.cell w.key w.waits w.keyed in omega (arith, w.at)));
  }

  pub soonest-both : (first waiting : Option ℕ) → IsFirstOf agenda first → IsSoonest (WaitsUntil clients cells order) waiting → IsSoonest (IsDueAt clients cells) (sooner first waiting)
  soonest-both first waiting f is = record {
    there = λ m e. go m e (sooner-one first waiting).1;
    first = either (λ m. NoLater (sooner first waiting) (Some m))
        (λ q key e. no-later-then (sooner first waiting) first (Some key.moment) (sooner-one first waiting).0.0 (first-least first f q key e))
        (λ m w. no-later-then (sooner first waiting) waiting (Some m) (sooner-one first waiting).0.1 (is.first m w));
  }
    where
      go : (m : ℕ) → sooner first waiting ≡ Some m → (sooner first waiting ≡ first) ⊎ (sooner first waiting ≡ waiting) → IsDueAt clients cells m
      go m e (inl same) = first-due first f m (sym same ∙ e)
      go m e (inr same) = let w : WaitsUntil clients cells order m = is.there m (sym same ∙ e) in record { cell = w.cell; key = w.key; keyed = w.keyed; at = w.at }

  -- what waits is not due before the soonest of it
  pub timed-soonest : (waiting : Option ℕ) → IsSoonest (WaitsUntil clients cells order) waiting → (earliest : ℕ) → ((m : ℕ) → waiting ≡ Some m → earliest ≡ m) → AreTimed clients cells (record order { earliest = earliest }) agenda
  timed-soonest waiting is earliest at = record {
    none = timed.none;
    placed = timed.placed;
    waits = timed.waits;
    early = λ k q key e f. go key waiting refl (is.first key.moment (record { place = k; cell = q; key = key; waits = e; keyed = f; at = refl }));
  }
    where
      go : (key : DueKey) (o : Option ℕ) → waiting ≡ o → NoLater waiting (Some key.moment) → earliest ≤ key.moment
      go key None e l = absurd (subst (λ o. NoLater o (Some key.moment)) e l)
      go key (Some m) e l = let le : m ≤ key.moment = subst (λ o. NoLater o (Some key.moment)) e l in omega (arith, at m e)
