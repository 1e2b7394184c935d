-- A search through filters, from the last backwards: what it has found reaches it, and in the end nothing else does.
use Rattle.std.proofs.Common.{◌≡◌, ◌⊎◌, ◌↔◌, inl, inr, ℕ, zero, suc, ◌+◌, ◌<◌, ◌≤◌, ◌==◌, Bool, true, false, cond, if◌then◌else◌, ◌&&◌, ◌||◌, List, [], ◌∷◌, ◌++◌, map, length, Some, None, refl, ap, sym, subst, ◌∙◌, arith}
use Rattle.std.specs.List.{filter, list_any, slice_get}
use Rattle.std.proofs.lemmas.Bool.{false≢true, or_cases, cases_lt, eqb-true}
use Rattle.std.proofs.lemmas.List.{length-append}
use Rattle.std.proofs.lemmas.List.Folds.{list_any-append}
use Rattle.std.proofs.lemmas.Option.{slice_get_within}
use Rattle.node_table.specs.Addresses.{same, is_filter}
use Rattle.node_table.specs.declared.number.Addr.{Addr}
use Rattle.patch_graph.specs.declared.edge.Edge.{Edge}
use Rattle.patch_graph.specs.Edges.{is_edge, has_edge}
use Rattle.patch_graph.specs.Chains.{Reaches}
use Rattle.patch_graph.specs.Index.{origins_of, targets_of}
use Rattle.patch_graph.specs.Found.{with_found, with_filters}
use Rattle.patch_graph.proofs.Same.{same-is, same-refl, same-from}
use Rattle.patch_graph.proofs.Chained.{IsHop, one_hop, hop_on, along_reached, reach_start}

abbrev pub In : Addr → List Addr → Type 0
In x xs = list_any (same x) xs ≡ true

-- ---- one found more

found_kept : (xs : List Addr) (a x : Addr) → In x xs → In x (with_found xs a)
found_kept xs a x h = by (list_any (same a) xs)
  where
    by : (b : Bool) → In x (if b then xs else xs ++ a ∷ [])
    by true = h
    by false = list_any-append (same x) xs (a ∷ []) ∙ ap (λ c. c || (same x a || false)) h

found_new : (xs : List Addr) (a : Addr) → In a (with_found xs a)
found_new xs a = by (list_any (same a) xs) refl
  where
    by : (b : Bool) → list_any (same a) xs ≡ b → In a (if b then xs else xs ++ a ∷ [])
    by true h = h
    by false h = list_any-append (same a) xs (a ∷ []) ∙ ap (λ c. list_any (same a) xs || (c || false)) (same-refl a) ∙ or_true (list_any (same a) xs)
      where
        or_true : (b : Bool) → (b || true) ≡ true
        or_true true = refl
        or_true false = refl

found_from : (xs : List Addr) (a x : Addr) → In x (with_found xs a) → In x xs ⊎ (same x a ≡ true)
found_from xs a x h = by (list_any (same a) xs) h
  where
    last : (b c : Bool) → (b || (c || false)) ≡ true → (b ≡ true) ⊎ (c ≡ true)
    last true c h = inl refl
    last false c h = inr (sym (or_false c) ∙ h)
      where
        or_false : (c : Bool) → (c || false) ≡ c
        or_false true = refl
        or_false false = refl

    by : (b : Bool) → In x (if b then xs else xs ++ a ∷ []) → In x xs ⊎ (same x a ≡ true)
    by true k = inl k
    by false k = last (list_any (same x) xs) (same x a) (sym (list_any-append (same x) xs (a ∷ [])) ∙ k)

get-front : (xs ys : List Addr) (i : ℕ) → i < length xs → slice_get (xs ++ ys) i ≡ slice_get xs i
get-front [] ys i l = absurd (omega arith)
get-front (x ∷ xs) ys zero l = refl
get-front (x ∷ xs) ys (suc i) l = get-front xs ys i (omega arith)

found_get : (xs : List Addr) (a : Addr) (i : ℕ) → i < length xs → slice_get (with_found xs a) i ≡ slice_get xs i
found_get xs a i l = by (list_any (same a) xs)
  where
    by : (b : Bool) → slice_get (if b then xs else xs ++ a ∷ []) i ≡ slice_get xs i
    by true = refl
    by false = get-front xs (a ∷ []) i l

found_length : (xs : List Addr) (a : Addr) → length xs ≤ length (with_found xs a)
found_length xs a = by (list_any (same a) xs)
  where
    by : (b : Bool) → length xs ≤ length (if b then xs else xs ++ a ∷ [])
    by true = omega arith
    by false = simp length-append (omega arith)

-- ---- the filters of a list more

abbrev step : List Addr → Addr → List Addr
step ys t = if is_filter t then with_found ys t else ys

step_kept : (xs : List Addr) (t x : Addr) → In x xs → In x (step xs t)
step_kept xs t x h = by (is_filter t)
  where
    by : (b : Bool) → In x (if b then with_found xs t else xs)
    by true = found_kept xs t x h
    by false = h

filters_kept : (ts xs : List Addr) (x : Addr) → In x xs → In x (with_filters xs ts)
filters_kept [] xs x h = h
filters_kept (t ∷ ts) xs x h = filters_kept ts (step xs t) x (step_kept xs t x h)

filters_new : (ts xs : List Addr) (x : Addr) → In x ts → is_filter x ≡ true → In x (with_filters xs ts)
filters_new [] xs x h f = absurd (false≢true h)
filters_new (t ∷ ts) xs x h f = by (or_cases (same x t) (list_any (same x) ts) h) (λ k. filters_new ts (step xs t) x k f)
  where
    here : (b : Bool) → is_filter t ≡ b → same x t ≡ true → In x (if b then with_found xs t else xs)
    here true k s = subst (λ y. In y (with_found xs t)) (sym (same-is x t s)) (found_new xs t)
    here false k s = absurd (false≢true (sym k ∙ ap is_filter (sym (same-is x t s)) ∙ f))

    by : (same x t ≡ true) ⊎ In x ts → (In x ts → In x (with_filters (step xs t) ts)) → In x (with_filters (step xs t) ts)
    by (inl s) more = filters_kept ts (step xs t) x (here (is_filter t) refl s)
    by (inr k) more = more k

filters_from : (ts xs : List Addr) (x : Addr) → In x (with_filters xs ts) → In x xs ⊎ (In x ts × (is_filter x ≡ true))
filters_from [] xs x h = inl h
filters_from (t ∷ ts) xs x h = by (filters_from ts (step xs t) x h)
  where
    or_left : (a b : Bool) → a ≡ true → (a || b) ≡ true
    or_left a b h = grind arith

    or_right : (a b : Bool) → b ≡ true → (a || b) ≡ true
    or_right a b h = grind arith

    new : (b : Bool) → is_filter t ≡ b → In x (if b then with_found xs t else xs) → In x xs ⊎ (In x (t ∷ ts) × (is_filter x ≡ true))
    new false k i = inl i
    new true k i = old (found_from xs t x i)
      where
        old : In x xs ⊎ (same x t ≡ true) → In x xs ⊎ (In x (t ∷ ts) × (is_filter x ≡ true))
        old (inl j) = inl j
        old (inr s) = inr (or_left (same x t) (list_any (same x) ts) s, ap is_filter (same-is x t s) ∙ k)

    by : In x (step xs t) ⊎ (In x ts × (is_filter x ≡ true)) → In x xs ⊎ (In x (t ∷ ts) × (is_filter x ≡ true))
    by (inl i) = new (is_filter t) refl i
    by (inr k) = inr (or_right (same x t) (list_any (same x) ts) k.0, k.1)

step_length : (xs : List Addr) (t : Addr) → length xs ≤ length (step xs t)
step_length xs t = by (is_filter t)
  where
    by : (b : Bool) → length xs ≤ length (if b then with_found xs t else xs)
    by true = found_length xs t
    by false = omega arith

step_get : (xs : List Addr) (t : Addr) (i : ℕ) → i < length xs → slice_get (step xs t) i ≡ slice_get xs i
step_get xs t i l = by (is_filter t)
  where
    by : (b : Bool) → slice_get (if b then with_found xs t else xs) i ≡ slice_get xs i
    by true = found_get xs t i l
    by false = refl

filters_length : (ts xs : List Addr) → length xs ≤ length (with_filters xs ts)
filters_length [] xs = omega arith
filters_length (t ∷ ts) xs = let h : length xs ≤ length (step xs t) = step_length xs t in let k : length (step xs t) ≤ length (with_filters (step xs t) ts) = filters_length ts (step xs t) in omega arith

filters_get : (ts xs : List Addr) (i : ℕ) → i < length xs → slice_get (with_filters xs ts) i ≡ slice_get xs i
filters_get [] xs i l = refl
filters_get (t ∷ ts) xs i l = let h : length xs ≤ length (step xs t) = step_length xs t in filters_get ts (step xs t) i (omega arith) ∙ step_get xs t i l

-- ---- where a found node stands

pub in_from_get : (xs : List Addr) (i : ℕ) (x : Addr) → slice_get xs i ≡ Some x → In x xs
in_from_get [] i x h = cc
in_from_get (y ∷ xs) zero x h = let e : x ≡ y = cc in ap (λ b. b || list_any (same x) xs) (same-from x y e)
in_from_get (y ∷ xs) (suc i) x h = by (same x y) (in_from_get xs i x h)
  where
    by : (b : Bool) → In x xs → (b || list_any (same x) xs) ≡ true
    by true k = refl
    by false k = k

get_from_in : (xs : List Addr) (x : Addr) → In x xs → (i : ℕ) × (i < length xs) × (slice_get xs i ≡ Some x)
get_from_in [] x h = absurd (false≢true h)
get_from_in (y ∷ xs) x h = by (or_cases (same x y) (list_any (same x) xs) h) (get_from_in xs x)
  where
    by : (same x y ≡ true) ⊎ In x xs → (In x xs → (i : ℕ) × (i < length xs) × (slice_get xs i ≡ Some x)) → (i : ℕ) × (i < suc (length xs)) × (slice_get (y ∷ xs) i ≡ Some x)
    by (inl s) more = (0, omega arith, ap Some (sym (same-is x y s)))
    by (inr k) more = let m : (i : ℕ) × (i < length xs) × (slice_get xs i ≡ Some x) = more k in (suc m.0, omega (arith, m.1), m.2)

past_end : (xs : List Addr) (i : ℕ) → slice_get xs i ≡ None → length xs ≤ i
past_end [] i h = omega arith
past_end (x ∷ xs) zero h = cc
past_end (x ∷ xs) (suc i) h = let k : length xs ≤ i = past_end xs i h in omega arith

pub origins-in : (edges : List Edge) (a x : Addr) → list_any (same x) (origins_of edges a) ≡ has_edge edges x a
origins-in [] a x = refl
origins-in (e ∷ es) a x = by (same a e.target) (origins-in es a x)
  where
    and_true : (b : Bool) → (b && true) ≡ b
    and_true true = refl
    and_true false = refl

    and_false : (b : Bool) → (b && false) ≡ false
    and_false true = refl
    and_false false = refl

    by : (b : Bool) → list_any (same x) (origins_of es a) ≡ has_edge es x a → list_any (same x) (map (λ e. e.source) (cond b (e ∷ filter (λ e. same a e.target) es) (filter (λ e. same a e.target) es))) ≡ ((same x e.source && b) || has_edge es x a)
    by true h = ap (λ c. same x e.source || c) h ∙ sym (ap (λ c. c || has_edge es x a) (and_true (same x e.source)))
    by false h = h ∙ sym (ap (λ c. c || has_edge es x a) (and_false (same x e.source)))

-- ---- the search

-- as many turns are done, and all filters that are joined to their nodes are found
pub record IsSearch (edges : List Edge) (to : Addr) (found : List Addr) (turn : ℕ) : Type 0 where
  pub sound : (x : Addr) → In x found → Reaches edges x to
  pub start : (x : Addr) → IsHop edges x to → In x found
  pub done : (i : ℕ) (x : Addr) → i < turn → slice_get found i ≡ Some x → (y : Addr) → IsHop edges y x → In y found
  pub within : turn ≤ length found

hop_found : (edges : List Edge) (x a : Addr) (xs : List Addr) → IsHop edges x a → In x (with_filters xs (origins_of edges a))
hop_found edges x a xs h = filters_new (origins_of edges a) xs x (origins-in edges a x ∙ h.there) h.from_filter

pub search-start : (edges : List Edge) (to : Addr) (found : List Addr) → is_filter to ≡ true → found ≡ with_filters [] (origins_of edges to) → IsSearch edges to found 0
search-start edges to found f e =
    subst (λ xs. IsSearch edges to xs 0) (sym e) (record {
      sound = λ x h. by x (filters_from (origins_of edges to) [] x h);
      start = λ x h. hop_found edges x to [] h;
      done = λ i x l. absurd (omega arith);
      within = omega arith;
    })
  where
    by : (x : Addr) → In x [] ⊎ (In x (origins_of edges to) × (is_filter x ≡ true)) → Reaches edges x to
    by x (inl h) = absurd (false≢true h)
    by x (inr h) = one_hop edges x to (record { there = sym (origins-in edges to x) ∙ h.0; from_filter = h.1; to_filter = f })

pub search-more : (edges : List Edge) (to : Addr) (found new : List Addr) (turn : ℕ) (node : Addr) → IsSearch edges to found turn → slice_get found turn ≡ Some node → new ≡ with_filters found (origins_of edges node) → IsSearch edges to new (turn + 1)
search-more edges to found new turn node h at e =
    subst (λ xs. IsSearch edges to xs (turn + 1)) (sym e) (record {
      sound = λ x k. by x (filters_from (origins_of edges node) found x k);
      start = λ x k. filters_kept (origins_of edges node) found x (h.start x k);
      done = λ i x l k y hop. elim (cases_lt i turn) [
        | inl below ↦ filters_kept (origins_of edges node) found y (h.done i x below (sym (filters_get (origins_of edges node) found i (omega (arith, inside))) ∙ k) y hop)
        | inr above ↦ let same_turn : i ≡ turn = omega arith in
            let is : Some node ≡ Some x = sym at ∙ sym (filters_get (origins_of edges node) found turn inside) ∙ ap (slice_get (with_filters found (origins_of edges node))) (sym same_turn) ∙ k in
            let node_is : x ≡ node = cc in
            hop_found edges y node found (subst (IsHop edges y) node_is hop)
      ];
      within = let k : length found ≤ length (with_filters found (origins_of edges node)) = filters_length (origins_of edges node) found in omega (arith, inside);
    })
  where
    inside : turn < length found
    inside = slice_get_within found turn node at

    to_end : Reaches edges node to
    to_end = h.sound node (in_from_get found turn node at)

    by : (x : Addr) → In x found ⊎ (In x (origins_of edges node) × (is_filter x ≡ true)) → Reaches edges x to
    by x (inl k) = h.sound x k
    by x (inr k) = hop_on edges x node to (record { there = sym (origins-in edges node x) ∙ k.0; from_filter = k.1; to_filter = reach_start edges node to to_end }) to_end

-- after the last turn
pub search-end : (edges : List Edge) (to : Addr) (found : List Addr) (turn : ℕ) (from : Addr) → IsSearch edges to found turn → slice_get found turn ≡ None → In from found ↔ Reaches edges from to
search-end edges to found turn from h last = (h.sound from, along_reached edges to (λ a. In a found) h.start (λ a b hop k. closed_in b k a hop) from)
  where
    closed_in : (b : Addr) → In b found → (y : Addr) → IsHop edges y b → In y found
    closed_in b k y hop = let m : (i : ℕ) × (i < length found) × (slice_get found i ≡ Some b) = get_from_in found b k in
        let end : length found ≤ turn = past_end found turn last in
        h.done m.0 b (omega (arith, m.1)) m.2 y hop

-- where nothing is joined to the last
pub none-joined : (edges : List Edge) (from to : Addr) (xs : List Addr) → is_filter to ≡ true → xs ≡ origins_of edges to → (length xs == 0) ≡ true → Reaches edges from to → ⊥
none-joined edges from to (x ∷ xs) f e h r = let k : length (x ∷ xs) ≡ 0 = eqb-true (length (x ∷ xs)) 0 h in absurd (omega arith)
none-joined edges from to [] f e h r = false≢true ((search-end edges to [] 0 from (search-start edges to [] f (ap (with_filters []) e)) refl).1 r)

-- where no filter is joined to the first
hop_onward : (edges : List Edge) (a b : Addr) → is_filter b ≡ true → has_edge edges a b ≡ true → list_any is_filter (targets_of edges a) ≡ true
hop_onward [] a b f h = absurd (false≢true h)
hop_onward (e ∷ es) a b f h = by (or_cases (is_edge a b e) (has_edge es a b) h) (hop_onward es a b f)
  where
    left : (c d : Bool) → (c && d) ≡ true → c ≡ true
    left c d k = grind arith

    right : (c d : Bool) → (c && d) ≡ true → d ≡ true
    right c d k = grind arith

    here : (s : Bool) → s ≡ true → same b e.target ≡ true → list_any is_filter (map (λ e. e.target) (cond s (e ∷ filter (λ e. same a e.source) es) (filter (λ e. same a e.source) es))) ≡ true
    here true k i = ap (λ c. c || list_any is_filter (map (λ e. e.target) (filter (λ e. same a e.source) es))) (ap is_filter (sym (same-is b e.target i)) ∙ f)
    here false k i = absurd (false≢true k)

    later : (s : Bool) → list_any is_filter (map (λ e. e.target) (filter (λ e. same a e.source) es)) ≡ true → list_any is_filter (map (λ e. e.target) (cond s (e ∷ filter (λ e. same a e.source) es) (filter (λ e. same a e.source) es))) ≡ true
    later true k = or_true (is_filter e.target) (list_any is_filter (map (λ e. e.target) (filter (λ e. same a e.source) es))) k
      where
        or_true : (c d : Bool) → d ≡ true → (c || d) ≡ true
        or_true c d m = grind arith
    later false k = k

    by : (is_edge a b e ≡ true) ⊎ (has_edge es a b ≡ true) → (has_edge es a b ≡ true → list_any is_filter (targets_of es a) ≡ true) → list_any is_filter (targets_of (e ∷ es) a) ≡ true
    by (inl k) more = here (same a e.source) (left (same a e.source) (same b e.target) k) (right (same a e.source) (same b e.target) k)
    by (inr k) more = later (same a e.source) (more k)

pub none-onward : (edges : List Edge) (from to : Addr) → list_any is_filter (targets_of edges from) ≡ false → Reaches edges from to → ⊥
none-onward edges from to none r =
    along_reached edges to (λ a. list_any is_filter (targets_of edges a) ≡ false → ⊥) (λ a h k. false≢true (sym k ∙ hop_onward edges a to h.to_filter h.there)) (λ a b h more k. false≢true (sym k ∙ hop_onward edges a b h.to_filter h.there)) from r none
