-- One more byte of a stream, and then a whole second part.
use Rattle.std.proofs.Common.{◌≡◌, ℕ, ◌+◌, ◌≤◌, ◌<◌, Bool, true, false, ◌⊎◌, inl, inr, List, [], ◌∷◌, ◌++◌, length, refl, sym, ap, subst, ◌∙◌, arith, append-nil, append_assoc, eq-eqb}
use Rattle.std.specs.Prelude.{if◌then◌else◌, ◌==◌}
use Rattle.std.proofs.lemmas.Bool.{cases_Bool, ne_eqb}
use Rattle.midi_wire.specs.Messages.{StatusClass, Channel, Common, TuneRequest, Exclusive, RealTime, Nothing, begins, is_real_time}
use Rattle.midi_wire.specs.Readings.{Placed, PlacedMessage, placed_from, real_times, without_real_times, blocks, all_given, stream_blocks, placed_messages, messages_at, by_place, reading, rest, last_matters, real_time}
use Rattle.midi_wire.proofs.Blocks.{placed, placed_from-snoc, real_times-append, without-append, add, blocks-snoc}
use Rattle.midi_wire.proofs.Table.{below_real}
use Rattle.midi_wire.proofs.Steps.{all_at, gained, left, real_of, step_gives, step_leaves, all_given-add, last_matters-add}

real_time-at : (k : StatusClass) (n b : ℕ) → real_time k (placed n b) ≡ all_at n (real_of k b)
real_time-at (Channel w) n b = refl
real_time-at (Common w) n b = refl
real_time-at TuneRequest n b = refl
real_time-at Exclusive n b = refl
real_time-at RealTime n b = refl
real_time-at Nothing n b = refl

-- ---- one more byte

abbrev gives_by_blocks : Bool → List ℕ → ℕ → List (List ℕ)
gives_by_blocks t r b = if t then [] else gained r b

abbrev gives_in_real_time : Bool → ℕ → List (List ℕ)
gives_in_real_time t b = if t then real_of (begins b) b else []

stream_blocks-snoc : (s : List ℕ) (b : ℕ) → stream_blocks (s ++ b ∷ []) ≡ (if is_real_time b then stream_blocks s else add (stream_blocks s) (placed (length s) b))
stream_blocks-snoc s b =
    ap (λ xs. blocks (without_real_times xs)) (placed_from-snoc 0 s b ∙ ap (λ (k : ℕ). placed_from 0 s ++ placed k b ∷ []) zero_plus)
    ∙ ap (λ xs. blocks xs) (without-append (placed_from 0 s) (placed (length s) b ∷ []))
    ∙ go (is_real_time b)
  where
    zero_plus : 0 + length s ≡ length s
    zero_plus = omega arith

    go : (t : Bool) → blocks (without_real_times (placed_from 0 s) ++ (if t then [] else (placed (length s) b ∷ []))) ≡ (if t then stream_blocks s else add (stream_blocks s) (placed (length s) b))
    go true = ap (λ xs. blocks xs) (append-nil (without_real_times (placed_from 0 s)))
    go false = blocks-snoc (without_real_times (placed_from 0 s)) (placed (length s) b)

pub rest-snoc : (s : List ℕ) (b : ℕ) → rest (s ++ b ∷ []) ≡ step_leaves (rest s) b
unfolding rest step_leaves
rest-snoc s b =
    ap (λ bs. last_matters bs) (stream_blocks-snoc s b) ∙ go (is_real_time b)
  where
    go : (t : Bool) → last_matters (if t then stream_blocks s else add (stream_blocks s) (placed (length s) b)) ≡ (if t then last_matters (stream_blocks s) else left (last_matters (stream_blocks s)) b)
    go true = refl
    go false = last_matters-add (stream_blocks s) (placed (length s) b)

given-snoc : (s : List ℕ) (b : ℕ) → all_given (stream_blocks (s ++ b ∷ [])) ≡ all_given (stream_blocks s) ++ all_at (length s) (gives_by_blocks (is_real_time b) (rest s) b)
unfolding rest
given-snoc s b =
    ap (λ bs. all_given bs) (stream_blocks-snoc s b) ∙ go (is_real_time b)
  where
    go : (t : Bool) → all_given (if t then stream_blocks s else add (stream_blocks s) (placed (length s) b)) ≡ all_given (stream_blocks s) ++ all_at (length s) (gives_by_blocks t (last_matters (stream_blocks s)) b)
    go true = sym (append-nil (all_given (stream_blocks s)))
    go false = all_given-add (stream_blocks s) (placed (length s) b)

real_times-snoc : (s : List ℕ) (b : ℕ) → real_times (placed_from 0 (s ++ b ∷ [])) ≡ real_times (placed_from 0 s) ++ all_at (length s) (gives_in_real_time (is_real_time b) b)
real_times-snoc s b =
    ap (λ xs. real_times xs) (placed_from-snoc 0 s b ∙ ap (λ (k : ℕ). placed_from 0 s ++ placed k b ∷ []) zero_plus)
    ∙ real_times-append (placed_from 0 s) (placed (length s) b ∷ [])
    ∙ ap (λ ts. real_times (placed_from 0 s) ++ ts) (append-nil (real_time (begins b) (placed (length s) b)) ∙ real_time-at (begins b) (length s) b ∙ ap (λ ms. all_at (length s) ms) (go (cases_Bool (is_real_time b))))
  where
    zero_plus : 0 + length s ≡ length s
    zero_plus = omega arith

    go : (is_real_time b ≡ true) ⊎ (is_real_time b ≡ false) → real_of (begins b) b ≡ gives_in_real_time (is_real_time b) b
    go (inl e) = ap (λ t. gives_in_real_time t b) (sym e)
    go (inr e) = below_real b e ∙ ap (λ t. gives_in_real_time t b) (sym e)

-- ---- places

-- each place is below n
abbrev pub AllBelow : ℕ → List PlacedMessage → Type 0
AllBelow n [] = Unit {0}
AllBelow n (t ∷ ts) = (t.place < n) × AllBelow n ts

below-append : (n : ℕ) (a b : List PlacedMessage) → AllBelow n a → AllBelow n b → AllBelow n (a ++ b)
below-append n [] b p q = q
below-append n (t ∷ a) b p q = (p.0, below-append n a b p.1 q)

below-wider : (n m : ℕ) (a : List PlacedMessage) → n ≤ m → AllBelow n a → AllBelow m a
below-wider n m [] l p = tt
below-wider n m (t ∷ a) l p = (omega (arith, p.0), below-wider n m a l p.1)

below-at : (n m : ℕ) (ms : List (List ℕ)) → n < m → AllBelow m (all_at n ms)
below-at n m [] l = tt
below-at n m (x ∷ ms) l = (l, below-at n m ms l)

below-first : (n : ℕ) (a b : List PlacedMessage) → AllBelow n (a ++ b) → AllBelow n a
below-first n [] b p = tt
below-first n (t ∷ a) b p = (p.0, below-first n a b p.1)

below-second : (n : ℕ) (a b : List PlacedMessage) → AllBelow n (a ++ b) → AllBelow n b
below-second n [] b p = p
below-second n (t ∷ a) b p = below-second n a b p.1

placed_messages-snoc : (s : List ℕ) (b : ℕ) → placed_messages (s ++ b ∷ []) ≡ (all_given (stream_blocks s) ++ all_at (length s) (gives_by_blocks (is_real_time b) (rest s) b)) ++ (real_times (placed_from 0 s) ++ all_at (length s) (gives_in_real_time (is_real_time b) b))
placed_messages-snoc s b = ap (λ ts. ts ++ real_times (placed_from 0 (s ++ b ∷ []))) (given-snoc s b) ∙ ap (λ ts. (all_given (stream_blocks s) ++ all_at (length s) (gives_by_blocks (is_real_time b) (rest s) b)) ++ ts) (real_times-snoc s b)

length-more : (s : List ℕ) (b : ℕ) → length (s ++ b ∷ []) ≡ length s + 1
length-more [] b = refl
length-more (c ∷ s) b = let ih = length-more s b in omega arith

messages_below-snoc : (s : List ℕ) (b : ℕ) → AllBelow (length s) (placed_messages s) → AllBelow (length (s ++ b ∷ [])) (placed_messages (s ++ b ∷ []))
messages_below-snoc s b p =
    let more : length s < length (s ++ b ∷ []) = omega (arith, length-more s b) in
    let within : length s ≤ length (s ++ b ∷ []) = omega arith in
    subst (λ ts. AllBelow (length (s ++ b ∷ [])) ts) (sym (placed_messages-snoc s b))
    (below-append _ _ _
    (below-append _ _ _ (below-wider _ _ _ within (below-first _ (all_given (stream_blocks s)) (real_times (placed_from 0 s)) p)) (below-at _ _ (gives_by_blocks (is_real_time b) (rest s) b) more))
    (below-append _ _ _ (below-wider _ _ _ within (below-second _ (all_given (stream_blocks s)) (real_times (placed_from 0 s)) p)) (below-at _ _ (gives_in_real_time (is_real_time b) b) more)))

messages_below-on : (s t : List ℕ) → AllBelow (length s) (placed_messages s) → AllBelow (length (s ++ t)) (placed_messages (s ++ t))
messages_below-on s [] p = subst (λ u. AllBelow (length u) (placed_messages u)) (sym (append-nil s)) p
messages_below-on s (b ∷ t) p = subst (λ u. AllBelow (length u) (placed_messages u)) (append_assoc s (b ∷ []) t) (messages_below-on (s ++ b ∷ []) t (messages_below-snoc s b p))

pub messages_below : (s : List ℕ) → AllBelow (length s) (placed_messages s)
messages_below s = messages_below-on [] s tt

-- ---- the messages of one place

at-append : (p : ℕ) (a b : List PlacedMessage) → messages_at p (a ++ b) ≡ messages_at p a ++ messages_at p b
at-append p [] b = refl
at-append p (t ∷ a) b =
    go (t.place == p) (at-append p a b)
  where
    go : (k : Bool) → messages_at p (a ++ b) ≡ messages_at p a ++ messages_at p b → (if k then (t.message ∷ messages_at p (a ++ b)) else messages_at p (a ++ b)) ≡ (if k then (t.message ∷ messages_at p a) else messages_at p a) ++ messages_at p b
    go true ih = ap (λ ms. t.message ∷ ms) ih
    go false ih = ih

at-same : (n : ℕ) (ms : List (List ℕ)) → messages_at n (all_at n ms) ≡ ms
at-same n [] = refl
at-same n (m ∷ ms) = ap (λ k. if k then (m ∷ messages_at n (all_at n ms)) else messages_at n (all_at n ms)) (eq-eqb n n refl) ∙ ap (λ xs. m ∷ xs) (at-same n ms)

at-other : (p n : ℕ) (ms : List (List ℕ)) → p < n → messages_at p (all_at n ms) ≡ []
at-other p n [] l = refl
at-other p n (m ∷ ms) l = ap (λ k. if k then (m ∷ messages_at p (all_at n ms)) else messages_at p (all_at n ms)) (ne_eqb n p (λ e. absurd (omega (arith, e, l)))) ∙ at-other p n ms l

at-below : (n : ℕ) (ts : List PlacedMessage) → AllBelow n ts → messages_at n ts ≡ []
at-below n [] p = refl
at-below n (t ∷ ts) p = ap (λ k. if k then (t.message ∷ messages_at n ts) else messages_at n ts) (ne_eqb t.place n (λ e. absurd (omega (arith, e, p.0)))) ∙ at-below n ts p.1

by_place-append : (xs ys : List Placed) (ts : List PlacedMessage) → by_place (xs ++ ys) ts ≡ by_place xs ts ++ by_place ys ts
by_place-append [] ys ts = refl
by_place-append (x ∷ xs) ys ts = ap (λ ms. messages_at x.place ts ++ ms) (by_place-append xs ys ts) ∙ sym (append_assoc (messages_at x.place ts) (by_place xs ts) (by_place ys ts))

-- what stands at a later place changes no earlier one
by_place-later : (k : ℕ) (s : List ℕ) (a b : List PlacedMessage) (n : ℕ) (f g : List (List ℕ)) → k + length s ≤ n → by_place (placed_from k s) ((a ++ all_at n f) ++ (b ++ all_at n g)) ≡ by_place (placed_from k s) (a ++ b)
by_place-later k [] a b n f g l = refl
by_place-later k (c ∷ s) a b n f g l =
    let before : k < n = omega arith in
    let later : (k + 1) + length s ≤ n = omega arith in
    let here : messages_at k ((a ++ all_at n f) ++ (b ++ all_at n g)) ≡ messages_at k (a ++ b) =
    at-append k (a ++ all_at n f) (b ++ all_at n g)
    ∙ ap (λ ms. ms ++ messages_at k (b ++ all_at n g)) (at-append k a (all_at n f) ∙ ap (λ ms. messages_at k a ++ ms) (at-other k n f before) ∙ append-nil (messages_at k a))
    ∙ ap (λ ms. messages_at k a ++ ms) (at-append k b (all_at n g) ∙ ap (λ ms. messages_at k b ++ ms) (at-other k n g before) ∙ append-nil (messages_at k b))
    ∙ sym (at-append k a b) in
    ap (λ ms. ms ++ by_place (placed_from (k + 1) s) ((a ++ all_at n f) ++ (b ++ all_at n g))) here
    ∙ ap (λ ms. messages_at k (a ++ b) ++ ms) (by_place-later (k + 1) s a b n f g later)

at-last : (n : ℕ) (a b : List PlacedMessage) (f g : List (List ℕ)) → AllBelow n a → AllBelow n b → messages_at n ((a ++ all_at n f) ++ (b ++ all_at n g)) ≡ f ++ g
at-last n a b f g p q =
    at-append n (a ++ all_at n f) (b ++ all_at n g)
    ∙ ap (λ ms. ms ++ messages_at n (b ++ all_at n g)) (at-append n a (all_at n f) ∙ ap (λ ms. ms ++ messages_at n (all_at n f)) (at-below n a p) ∙ at-same n f)
    ∙ ap (λ ms. f ++ ms) (at-append n b (all_at n g) ∙ ap (λ ms. ms ++ messages_at n (all_at n g)) (at-below n b q) ∙ at-same n g)

-- ---- reading one more byte

abbrev all_messages : List ℕ → ℕ → List PlacedMessage
all_messages s b = (all_given (stream_blocks s) ++ all_at (length s) (gives_by_blocks (is_real_time b) (rest s) b)) ++ (real_times (placed_from 0 s) ++ all_at (length s) (gives_in_real_time (is_real_time b) b))

pub reading-snoc : (s : List ℕ) (b : ℕ) → reading (s ++ b ∷ []) ≡ reading s ++ step_gives (rest s) b
unfolding reading step_gives
reading-snoc s b =
    ap (λ ts. by_place (placed_from 0 (s ++ b ∷ [])) ts) (placed_messages-snoc s b)
    ∙ ap (λ xs. by_place xs (all_messages s b)) (placed_from-snoc 0 s b ∙ ap (λ (k : ℕ). placed_from 0 s ++ placed k b ∷ []) zero_plus)
    ∙ by_place-append (placed_from 0 s) (placed (length s) b ∷ []) (all_messages s b)
    ∙ ap (λ ms. ms ++ by_place (placed (length s) b ∷ []) (all_messages s b)) (by_place-later 0 s (all_given (stream_blocks s)) (real_times (placed_from 0 s)) (length s) (gives_by_blocks (is_real_time b) (rest s) b) (gives_in_real_time (is_real_time b) b) within)
    ∙ ap (λ ms. by_place (placed_from 0 s) (placed_messages s) ++ ms) (append-nil (messages_at (length s) (all_messages s b)) ∙ at-last (length s) (all_given (stream_blocks s)) (real_times (placed_from 0 s)) (gives_by_blocks (is_real_time b) (rest s) b) (gives_in_real_time (is_real_time b) b) (below-first _ (all_given (stream_blocks s)) (real_times (placed_from 0 s)) (messages_below s)) (below-second _ (all_given (stream_blocks s)) (real_times (placed_from 0 s)) (messages_below s)) ∙ go (is_real_time b))
  where
    zero_plus : 0 + length s ≡ length s
    zero_plus = omega arith

    within : 0 + length s ≤ length s
    within = omega arith

    go : (t : Bool) → gives_by_blocks t (rest s) b ++ gives_in_real_time t b ≡ (if t then real_of (begins b) b else gained (rest s) b)
    go true = refl
    go false = append-nil (gained (rest s) b)

-- ---- many bytes

-- the messages that bytes give after what mattered
abbrev pub gives : List ℕ → List ℕ → List (List ℕ)
gives r [] = []
gives r (b ∷ t) = step_gives r b ++ gives (step_leaves r b) t

abbrev pub leaves : List ℕ → List ℕ → List ℕ
leaves r [] = r
leaves r (b ∷ t) = leaves (step_leaves r b) t

pub reading-gives : (s t : List ℕ) → reading (s ++ t) ≡ reading s ++ gives (rest s) t
reading-gives s [] = ap (λ u. reading u) (append-nil s) ∙ sym (append-nil (reading s))
reading-gives s (b ∷ t) =
    ap (λ u. reading u) (sym (append_assoc s (b ∷ []) t))
    ∙ reading-gives (s ++ b ∷ []) t
    ∙ ap (λ ms. ms ++ gives (rest (s ++ b ∷ [])) t) (reading-snoc s b)
    ∙ ap (λ r. (reading s ++ step_gives (rest s) b) ++ gives r t) (rest-snoc s b)
    ∙ append_assoc (reading s) (step_gives (rest s) b) (gives (step_leaves (rest s) b) t)

pub rest-leaves : (s t : List ℕ) → rest (s ++ t) ≡ leaves (rest s) t
rest-leaves s [] = ap (λ u. rest u) (append-nil s)
rest-leaves s (b ∷ t) =
    ap (λ u. rest u) (sym (append_assoc s (b ∷ []) t))
    ∙ rest-leaves (s ++ b ∷ []) t
    ∙ ap (λ r. leaves r t) (rest-snoc s b)
