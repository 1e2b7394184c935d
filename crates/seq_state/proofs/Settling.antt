-- Settling in two goes.
use Rattle.std.proofs.Common.{◌≡◌, ℕ, zero, suc, ◌≤◌, ◌<◌, Bool, true, false, not, cond, leb, ◌⊎◌, inl, inr, List, [], ◌∷◌, ◌++◌, map, Option, Some, None, refl, sym, ap, subst, ◌∙◌, arith, append-nil, append_assoc}
use Rattle.std.specs.Prelude.{nat_le}
use Rattle.std.specs.List.{filter, flat_map}
use Rattle.std.specs.Ordering.{nat_cmp}
use Rattle.std.specs.FinMap
use Rattle.std.specs.FinMap.{FinMap}
use Rattle.std.proofs.lemmas.Bool.Decides.{nat_tests}
use Rattle.std.proofs.lemmas.Bool.{false≢true, le-leb, lt-leb, cases_lt}
use Rattle.seq_state.specs.declared.log.Delivery.{Delivery}
use Rattle.seq_state.specs.State.{OwnedPlayback, DueMessage, Client, with_entry, ClientPool, State}
use Rattle.seq_state.specs.Step.{copies_with_room, upto, is_at, is_by, Timed, event_moment, is_left, playback_at, has_event, playback_after, all_at, offer, pools_after, pool_has_room, event_copies, due, settle, without_due}
use Rattle.seq_state.specs.Laws.{SettlingLaw}
use Rattle.seq_state.proofs.Lists.{filter-wider, filter-apart, flat_map-append}

-- ---- one moment after another

pub upto-none : {X : Type 0} (g : ℕ → List X) (n : ℕ) → ((k : ℕ) → k ≤ n → g k ≡ []) → upto g n ≡ []
unfolding upto
upto-none g zero h = h zero (omega arith)
upto-none g (suc n) h = ap (λ xs. xs ++ g (suc n)) (upto-none g n (λ k l. h k (omega arith))) ∙ h (suc n) (omega arith)

-- g is f with the moments up to m taken away
early : {X : Type 0} (f g : ℕ → List X) (m : ℕ) → ((k : ℕ) → g k ≡ cond (leb k m) [] (f k)) → (k : ℕ) → k ≤ m → g k ≡ []
early f g m h k l = h k ∙ ap (λ b. cond b [] (f k)) (le-leb k m l)

later : {X : Type 0} (f g : ℕ → List X) (m : ℕ) → ((k : ℕ) → g k ≡ cond (leb k m) [] (f k)) → (k : ℕ) → m < k → g k ≡ f k
later f g m h k l = h k ∙ ap (λ b. cond b [] (f k)) (lt-leb k m l)

upto-split_all : {X : Type 0} (f g : ℕ → List X) (m : ℕ) → ((k : ℕ) → g k ≡ cond (leb k m) [] (f k)) → upto f m ++ upto g m ≡ upto f m
upto-split_all f g m h = ap (λ xs. upto f m ++ xs) (upto-none g m (early f g m h)) ∙ append-nil (upto f m)

pub upto-split : {X : Type 0} (f g : ℕ → List X) (m n : ℕ) → ((k : ℕ) → g k ≡ cond (leb k m) [] (f k)) → m ≤ n → upto f m ++ upto g n ≡ upto f n
unfolding upto
upto-split f g m zero h l = let z : m ≡ zero = omega arith in subst (λ k. upto f k ++ g zero ≡ f zero) (sym z) (ap (λ xs. f zero ++ xs) (early f g m h zero (omega arith)) ∙ append-nil (f zero))
upto-split f g m (suc n) h l =
    go (cases_lt n m) (upto-split f g m n h)
  where
    go : (n < m) ⊎ (m ≤ n) → (m ≤ n → upto f m ++ upto g n ≡ upto f n) → upto f m ++ upto g (suc n) ≡ upto f (suc n)
    go (inl lt) later = let z : m ≡ suc n = omega arith in ap (λ k. upto f k ++ upto g (suc n)) z ∙ subst (λ k. upto f k ++ upto g k ≡ upto f k) z (upto-split_all f g m h)
    go (inr le) more = sym (append_assoc (upto f m) (upto g n) (g (suc n))) ∙ ap (λ xs. xs ++ g (suc n)) (more le) ∙ ap (λ xs. upto f n ++ xs) (later f g m h (suc n) (omega arith))

-- ---- what is due, after what was due before

at_not_by : (k m : ℕ) (o : Option ℕ) → nat_le k m ≡ true → is_at k o ≡ true → not (is_by m o) ≡ true → ⊥
at_not_by k m None l a b = false≢true a
at_not_by k m (Some j) l a b = grind (arith, nat_tests)

at_past : (k m : ℕ) (o : Option ℕ) → nat_le k m ≡ false → is_at k o ≡ true → not (is_by m o) ≡ true
at_past k m None l a = refl
at_past k m (Some j) l a = grind (arith, nat_tests)

abbrev timed : ℕ → OwnedPlayback → DueMessage → Timed
timed k p e = record { moment = k; client = p.client; port = p.playback.port; message = e.message }

module _ (clients : FinMap nat_cmp Client) where
  abbrev at : ℕ → OwnedPlayback → DueMessage → Bool
  at k p e = is_at k (event_moment clients p e)

  abbrev past : ℕ → OwnedPlayback → DueMessage → Bool
  past m p e = not (is_by m (event_moment clients p e))

  no_events : (k : ℕ) (p : OwnedPlayback) → is_left p ≡ false → playback_at clients k p ≡ []
  no_events k p h = go p.playback.events h
    where
      go : (es : List DueMessage) → has_event es ≡ false → map (timed k p) (filter (at k p) es) ≡ []
      go [] h = refl
      go (e ∷ es) h = absurd (false≢true (sym h))

  -- of what is pending after m, nothing is due up to m, and all that was is due later
  playback_at-after : (m k : ℕ) (p : OwnedPlayback) (b : Bool) → nat_le k m ≡ b → playback_at clients k (playback_after clients m p) ≡ cond b [] (playback_at clients k p)
  playback_at-after m k p true h = ap (map (timed k p)) (filter-apart (at k p) (past m p) (λ e a b. at_not_by k m (event_moment clients p e) h a b) p.playback.events)
  playback_at-after m k p false h = ap (map (timed k p)) (filter-wider (at k p) (past m p) (λ e a. at_past k m (event_moment clients p e) h a) p.playback.events)

  after : ℕ → List OwnedPlayback → List OwnedPlayback
  after m ps = filter is_left (map (playback_after clients m) ps)

  all_at-after : (m k : ℕ) (ps : List OwnedPlayback) → all_at clients (after m ps) k ≡ cond (nat_le k m) [] (all_at clients ps k)
  unfolding after
  all_at-after m k [] = nothing (nat_le k m)
    where
      nothing : (b : Bool) → let none : List Timed = [] in none ≡ cond b none none
      nothing true = refl
      nothing false = refl
  all_at-after m k (p ∷ ps) =
      kept (is_left (playback_after clients m p)) refl ∙ ap (λ xs. xs ++ all_at clients (after m ps) k) (playback_at-after m k p (nat_le k m) refl)
      ∙ ap (λ xs. cond (nat_le k m) [] (playback_at clients k p) ++ xs) (all_at-after m k ps) ∙ both (nat_le k m)
    where
      kept : (b : Bool) → is_left (playback_after clients m p) ≡ b → all_at clients (cond b (playback_after clients m p ∷ after m ps) (after m ps)) k ≡ playback_at clients k (playback_after clients m p) ++ all_at clients (after m ps) k
      kept true h = refl
      kept false h = ap (λ xs. xs ++ all_at clients (after m ps) k) (sym (no_events k (playback_after clients m p) h))

      both : (b : Bool) → cond b [] (playback_at clients k p) ++ cond b [] (all_at clients ps k) ≡ cond b [] (playback_at clients k p ++ all_at clients ps k)
      both true = refl
      both false = refl

  by_more : (m n : ℕ) → m ≤ n → (o : Option ℕ) → not (is_by n o) ≡ true → not (is_by m o) ≡ true
  by_more m n l None h = refl
  by_more m n l (Some j) h = grind (arith, nat_tests)

  playback_after-after : (m n : ℕ) → m ≤ n → (p : OwnedPlayback) → playback_after clients n (playback_after clients m p) ≡ playback_after clients n p
  playback_after-after m n l p =
      ap (λ es. record { client = p.client; queue = p.queue; playback = record { port = p.playback.port; accepted = p.playback.accepted; events = es } })
      (filter-wider (past n p) (past m p) (λ e h. by_more m n l (event_moment clients p e) h) p.playback.events)

  none_left : (n : ℕ) (q : OwnedPlayback) → is_left q ≡ false → is_left (playback_after clients n q) ≡ false
  none_left n q h = go q.playback.events h
    where
      go : (es : List DueMessage) → has_event es ≡ false → has_event (filter (past n q) es) ≡ false
      go [] h = refl
      go (e ∷ es) h = absurd (false≢true (sym h))

  after-after : (m n : ℕ) → m ≤ n → (ps : List OwnedPlayback) → after n (after m ps) ≡ after n ps
  unfolding after
  after-after m n l [] = refl
  after-after m n l (p ∷ ps) = kept (is_left (playback_after clients m p)) refl (after-after m n l ps)
    where
      q : OwnedPlayback
      q = playback_after clients m p

      r : OwnedPlayback
      r = playback_after clients n p

      put_on : OwnedPlayback → List OwnedPlayback → List OwnedPlayback
      put_on w xs = cond (is_left w) (w ∷ xs) xs

      kept : (b : Bool) → is_left q ≡ b → after n (after m ps) ≡ after n ps → after n (cond b (q ∷ after m ps) (after m ps)) ≡ cond (is_left r) (r ∷ after n ps) (after n ps)
      kept true h more = ap (λ w. put_on w (after n (after m ps))) (playback_after-after m n l p) ∙ ap (put_on r) more
      kept false h more =
          let none : is_left r ≡ false = sym (ap is_left (playback_after-after m n l p)) ∙ none_left n q h in
          more ∙ sym (ap (λ b. cond b (r ∷ after n ps) (after n ps)) none)

-- ---- what is delivered in two goes

pub offered-append : (pools : FinMap nat_cmp ClientPool) (xs ys : List Delivery) → pools_after (pools_after pools xs) ys ≡ pools_after pools (xs ++ ys)
offered-append pools [] ys = refl
offered-append pools (d ∷ xs) ys = offered-append (with_entry pools d.target.client (offer (FinMap.get pools d.target.client) d)) xs ys

pub delivered-append : (pools : FinMap nat_cmp ClientPool) (xs ys : List Delivery) → copies_with_room pools xs ++ copies_with_room (pools_after pools xs) ys ≡ copies_with_room pools (xs ++ ys)
delivered-append pools [] ys = refl
delivered-append pools (d ∷ xs) ys =
    one (pool_has_room d.moment (FinMap.get pools d.target.client)) _ _ _ (delivered-append (with_entry pools d.target.client (offer (FinMap.get pools d.target.client) d)) xs ys)
  where
    one : (b : Bool) (xs ys zs : List Delivery) → xs ++ ys ≡ zs → cond b (d ∷ xs) xs ++ ys ≡ cond b (d ∷ zs) zs
    one true xs ys zs e = ap (λ ws. d ∷ ws) e
    one false xs ys zs e = e

-- ---- the law

abbrev state_with : State → FinMap nat_cmp ClientPool → List OwnedPlayback → State
state_with s pools pending = record { clients = s.clients; pools = pools; edges = s.edges; pending = pending }

pub settling_law : SettlingLaw
unfolding after
settling_law s m n l =
    let pools = s.pools in
    let first : List Delivery = flat_map (event_copies s) (due s m) in
    let t : State = (settle s m).state in
    let second : List Delivery = flat_map (event_copies s) (due t n) in
    let all : first ++ second ≡ flat_map (event_copies s) (due s n) =
    sym (flat_map-append (event_copies s) (due s m) (due t n))
    ∙ ap (flat_map (event_copies s)) (upto-split (all_at s.clients s.pending) (all_at s.clients t.pending) m n (λ k. all_at-after s.clients m k s.pending) l) in (
      ap (λ ps. state_with s (pools_after (pools_after pools first) second) ps) (after-after s.clients m n l s.pending)
          ∙ ap (λ q. state_with s q (without_due s n).pending) (offered-append pools first second ∙ ap (pools_after pools) all),
      delivered-append pools first second ∙ ap (copies_with_room pools) all,
    )
