-- Lists in which a place is closed.
use Rattle.std.proofs.Common.{◌≡◌, ◌<◌, ◌≤◌, ℕ, suc, ◌+◌, ◌-◌, List, [], ◌∷◌, ◌++◌, length, map, take, drop, get_or, Some, refl, ap, subst, sym, ◌∙◌, arith, append_assoc}
use Rattle.std.specs.List.{remove, zip, slice_get}
use Rattle.std.proofs.Math.Seq.{paste, take-add, drop-append_seam}
use Rattle.std.proofs.lemmas.List.{take-append-drop, take-append-le, take-take, drop-drop, length-take-le, length-drop, drop_all, append-nil, get_or-drop, drop-append-le, length-map, length-append, take_rest}
use Rattle.std.proofs.lemmas.List.Edits.{take-paste, drop-paste, remove-append_right}
use Rattle.std.proofs.lemmas.Slice.{take-put_mid}
use borrow.Rule.Slice.PartMut.{put_mid, mid_of, post_of}
use Rattle.std.proofs.lemmas.Option.{slice_get-get_or}
use Rattle.patch_graph.specs.Aged.{IsRising}
use Rattle.patch_graph.proofs.Linked.{zip-remove, zip-append, pair_at, length_zipped, without_age, removed_age, removed_link}

module _ {X : Type 0} where
  -- the place behind so many elements, which go up by one
  pub lifted : (xs : List X) (at n d m : ℕ) → d ≡ suc at → m ≡ at + n → m < length xs → remove (paste xs d (drop at xs) n) at ≡ remove xs m
  lifted xs at n d m e f l =
      let rest : List X = take n (drop at xs) ++ drop (d + n) xs in
      let long : length (take d xs) ≡ d = length-take-le d xs (omega arith) in
      let front : take at (take d xs ++ rest) ≡ take at xs = take-append-le at (take d xs) rest (omega arith) ∙ take-take at d xs (omega arith) in
      let back : drop (suc at) (take d xs ++ rest) ≡ rest = ap (λ k. drop k (take d xs ++ rest)) (sym e ∙ sym long) ∙ drop-append_seam (take d xs) rest in
      let all : take m xs ≡ take at xs ++ take n (drop at xs) = ap (λ k. take k xs) f ∙ take-add at n xs in
      let ends : d + n ≡ suc m = omega arith in
      ap (λ ys. remove ys at) (append_assoc (take d xs) (take n (drop at xs)) (drop (d + n) xs))
      ∙ (λ j. front j ++ back j) ∙ sym (append_assoc (take at xs) (take n (drop at xs)) (drop (d + n) xs)) ∙ (λ j. sym all j ++ drop (ends j) xs)

  -- the first place, before so many elements, which go down by one
  lowered : (xs : List X) (n : ℕ) → n < length xs → remove (paste xs 0 (drop 1 xs) n) n ≡ remove xs 0
  lowered xs n l =
      let ys : List X = paste xs 0 (drop 1 xs) n in
      let room : n ≤ length (drop 1 xs) = omega (arith, length-drop 1 xs) in
      let behind : n ≡ 0 + n = omega arith in
      let next : suc n ≡ n + 1 = omega arith in
      let ends : n + 1 ≡ 1 + n = omega arith in
      let front : take n ys ≡ take n (drop 1 xs) = ap (λ k. take k ys) behind ∙ take-paste xs 0 (drop 1 xs) n (omega arith) room in
      let rest : drop n ys ≡ drop n xs = ap (λ k. drop k ys) behind ∙ drop-paste xs 0 (drop 1 xs) n (omega arith) room ∙ ap (λ k. drop k xs) (sym behind) in
      let back : drop (suc n) ys ≡ drop n (drop 1 xs) =
      ap (λ k. drop k ys) next ∙ sym (drop-drop 1 n ys) ∙ ap (drop 1) rest ∙ drop-drop 1 n xs ∙ ap (λ k. drop k xs) ends ∙ sym (drop-drop n 1 xs) in
      (λ j. front j ++ back j) ∙ take-append-drop n (drop 1 xs)

  -- the same in the part from a place on
  pub lowered_part : (xs ys : List X) (at n : ℕ) → at + n < length xs → ys ≡ paste (mid_of at (length xs - at) xs) 0 (drop 1 (mid_of at (length xs - at) xs)) n →
      remove (put_mid at (length xs - at) xs ys) (at + n) ≡ remove xs at
  lowered_part xs ys at n l e =
      let front : length (take at xs) ≡ at = length-take-le at xs (omega arith) in
      let none : post_of at (length xs - at) xs ≡ [] = drop_all (length xs - at) (drop at xs) (omega (arith, length-drop at xs)) in
      let moved : List X = paste (drop at xs) 0 (drop 1 (drop at xs)) n in
      let part : ys ++ post_of at (length xs - at) xs ≡ moved = ap (λ zs. ys ++ zs) none ∙ append-nil ys ∙ e ∙ ap (λ zs. paste zs 0 (drop 1 zs) n) (take_rest xs at) in
      let behind : (at + n) - at ≡ n = omega arith in
      let here : at - at ≡ 0 = omega arith in
      ap (λ zs. remove (take at xs ++ zs) (at + n)) part ∙ remove-append_right (take at xs) moved at (at + n) front (omega arith)
      ∙ ap (λ i. take at xs ++ remove moved i) behind ∙ ap (λ zs. take at xs ++ zs) (lowered (drop at xs) n (omega (arith, length-drop at xs)))
      ∙ ap (λ i. take at xs ++ remove (drop at xs) i) (sym here) ∙ sym (remove-append_right (take at xs) (drop at xs) at at front (omega arith)) ∙ ap (λ zs. remove zs at) (take-append-drop at xs)

  last_removed : (xs : List X) (p : ℕ) → p + 1 ≡ length xs → take p xs ≡ remove xs p
  last_removed xs p e = sym (ap (λ ys. take p xs ++ ys) (drop_all (suc p) xs (omega arith)) ∙ append-nil (take p xs))

  -- ---- lists of which a first part is left out

  past_first : (xs ys : List X) (f : ℕ) → f ≤ length xs → drop f (take f xs ++ ys) ≡ ys
  past_first xs ys f l = ap (λ k. drop k (take f xs ++ ys)) (sym (length-take-le f xs l)) ∙ drop-append_seam (take f xs) ys

  pub removed_behind : (xs : List X) (f p : ℕ) → f ≤ p → p < length xs → drop f (remove xs p) ≡ remove (drop f xs) (p - f)
  removed_behind xs f p h l =
      let short : f ≤ length xs = omega arith in
      ap (λ ys. drop f (remove ys p)) (sym (take-append-drop f xs)) ∙ ap (drop f) (remove-append_right (take f xs) (drop f xs) f p (length-take-le f xs short) h)
      ∙ past_first xs (remove (drop f xs) (p - f)) f short

  -- what was removed left the first place free
  pub removed_upward : (xs new : List X) (f p : ℕ) → f ≤ p → p < length xs → length new ≡ length xs → remove new f ≡ remove xs p → drop (f + 1) new ≡ remove (drop f xs) (p - f)
  removed_upward xs new f p h l long e =
      ap (λ k. drop k new) (let next : f + 1 ≡ suc f = omega arith in next)
      ∙ sym (past_first new (drop (suc f) new) f (omega arith)) ∙ ap (drop f) e ∙ removed_behind xs f p h l

module _ {X : Type 0} where
  -- the end of a vector, in which the first place was left free
  pub part_closed : (n : ℕ) (items s ys : List X) (f p : ℕ) → n ≡ length items → s ≡ items → f ≤ p → p < length items → length ys ≡ length (mid_of f (length s - f) s) → remove ys 0 ≡ remove (mid_of f (length s - f) s) (p - f) →
      remove (take n (put_mid f (length s - f) s ys ++ drop (length (put_mid f (length s - f) s ys)) items)) f ≡ remove items p
  part_closed n items s ys f p count e h l long closed =
      let same : length s ≡ length items = ap length e in
      let front : length (take f items) ≡ f = length-take-le f items (omega arith) in
      let end_is : mid_of f (length s - f) s ≡ drop f items = take_rest s f ∙ ap (drop f) e in
      let end_long : length ys ≡ length items - f = long ∙ ap length end_is ∙ length-drop f items in
      let fits : n ≤ length (put_mid f (length s - f) s ys) =
      omega (arith, length-append (take f s) (ys ++ post_of f (length s - f) s), length-append ys (post_of f (length s - f) s), length-take-le f s (omega arith)) in
      let all : take n (put_mid f (length s - f) s ys ++ drop (length (put_mid f (length s - f) s ys)) items) ≡ take f items ++ ys =
      take-append-le n (put_mid f (length s - f) s ys) (drop (length (put_mid f (length s - f) s ys)) items) fits
      ∙ take-put_mid f (length s - f) s ys n (omega arith) (omega arith) ∙ ap (λ xs. take f xs ++ ys) e in
      ap (λ xs. remove xs f) all ∙ remove-append_right (take f items) ys f f front (omega arith)
      ∙ ap (λ i. take f items ++ remove ys i) (let none : f - f ≡ 0 = omega arith in none)
      ∙ ap (λ xs. take f items ++ xs) (closed ∙ ap (λ xs. remove xs (p - f)) end_is)
      ∙ sym (remove-append_right (take f items) (drop f items) f p front h) ∙ ap (λ xs. remove xs p) (take-append-drop f items)

pub dropped_long : {X Y : Type 0} (ks : List X) (vs : List Y) (f : ℕ) → length vs ≡ length ks → length (drop f vs) ≡ length (drop f ks)
dropped_long ks vs f e = length-drop f vs ∙ ap (λ n. n - f) e ∙ sym (length-drop f ks)

-- nodes beside ages, of which one pair goes
module _ {X : Type 0} (ks ks' : List X) (vs vs' : List ℕ) (f i : ℕ) (long : length vs ≡ length ks) (within : f + i < length ks) where
  place : (f + i) - f ≡ i
  place = omega arith

  pub pairs_upward : length ks' ≡ length ks → length vs' ≡ length vs → remove ks' f ≡ remove ks (f + i) → remove vs' f ≡ remove vs (f + i) → zip (drop (f + 1) ks') (drop (f + 1) vs') ≡ remove (zip (drop f ks) (drop f vs)) i
  pairs_upward k v d e =
      (λ j. zip ((removed_upward ks ks' f (f + i) (omega arith) within k d ∙ ap (remove (drop f ks)) place) j) ((removed_upward vs vs' f (f + i) (omega arith) (omega arith) v e ∙ ap (remove (drop f vs)) place) j))
      ∙ zip-remove (drop f ks) (drop f vs) i (dropped_long ks vs f long)

  pub pairs_downward : ks' ≡ remove ks (f + i) → vs' ≡ remove vs (f + i) → zip (drop f ks') (drop f vs') ≡ remove (zip (drop f ks) (drop f vs)) i
  pairs_downward d e =
      (λ j. zip ((ap (drop f) d ∙ removed_behind ks f (f + i) (omega arith) within ∙ ap (remove (drop f ks)) place) j) ((ap (drop f) e ∙ removed_behind vs f (f + i) (omega arith) (omega arith) ∙ ap (remove (drop f vs)) place) j))
      ∙ zip-remove (drop f ks) (drop f vs) i (dropped_long ks vs f long)

-- nodes beside ages, of which the last pair goes
module _ {X : Type 0} (ks ks' : List X) (vs vs' : List ℕ) (f i n m : ℕ) (k : X) (v : ℕ) (long : length vs ≡ length ks) (count : n ≡ length ks) (counted : m ≡ length vs) (some : f < n) (at : f + i ≡ n - 1) (key : k ≡ get_or ks (n - 1) k) (value : v ≡ get_or vs (m - 1) v) where
  abbrev pairs : List (X × ℕ)
  pairs = zip (drop f ks) (drop f vs)

  at_too : f + i ≡ m - 1
  at_too = omega arith

  inside : i < length pairs
  inside = omega (arith, length_zipped (drop f ks) (drop f vs) (dropped_long ks vs f long), length-drop f ks)

  last : length pairs - 1 ≡ i
  last = omega (arith, length_zipped (drop f ks) (drop f vs) (dropped_long ks vs f long), length-drop f ks)

  pair_is : ◌≡◌ {A = X × ℕ} (get_or pairs i (k, v)) (k, v)
  pair_is = pair_at (drop f ks) (drop f vs) pairs i k v (dropped_long ks vs f long) refl (omega (arith, length-drop f ks))
      (key ∙ ap (λ j. get_or ks j k) (sym at) ∙ sym (get_or-drop f ks i k)) (value ∙ ap (λ j. get_or vs j v) (sym at_too) ∙ sym (get_or-drop f vs i v))

  pub last_pair : slice_get pairs (length pairs - 1) ≡ Some (k, v)
  last_pair = ap (slice_get pairs) last ∙ slice_get-get_or pairs i (k, v) inside ∙ ap Some pair_is

  pub pairs_popped : (next : ℕ) → IsRising 0 pairs next → ks' ≡ take (n - 1) ks → vs' ≡ take (m - 1) vs → zip (drop f ks') (drop f vs') ≡ without_age v pairs
  pairs_popped next h d e =
      pairs_downward ks ks' vs vs' f i long (omega arith)
      (d ∙ ap (λ j. take j ks) (sym at) ∙ last_removed ks (f + i) (omega arith)) (e ∙ ap (λ j. take j vs) (sym at_too) ∙ last_removed vs (f + i) (omega arith))
      ∙ removed_age 0 pairs next i v (k, v) h inside (ap (λ (x : X × ℕ). x.1) pair_is)

-- nodes beside ages, with one pair more, behind those that some part of both was before
pub pairs_joined : {X : Type 0} (ks ks' ls : List X) (vs vs' ws : List ℕ) (f : ℕ) (k : X) (v : ℕ) → length vs ≡ length ks → f ≤ length ks → drop f ks ≡ ls → drop f vs ≡ ws → ks' ≡ ks ++ k ∷ [] → vs' ≡ vs ++ v ∷ [] → zip (drop f ks') (drop f vs') ≡ zip ls ws ++ (k, v) ∷ []
pairs_joined ks ks' ls vs vs' ws f k v long within d e g h =
    (λ j. zip ((ap (drop f) g ∙ drop-append-le f ks (k ∷ []) within) j) ((ap (drop f) h ∙ drop-append-le f vs (v ∷ []) (omega arith)) j))
    ∙ zip-append (drop f ks) (k ∷ []) (drop f vs) (v ∷ []) (dropped_long ks vs f long) ∙ (λ j. zip (d j) (e j) ++ (k, v) ∷ [])

-- nodes beside ages, of which the pair of an age goes
module _ {X : Type 0} (ks : List X) (vs : List ℕ) (xs : List (X × ℕ)) (ages : List ℕ) (f i age next : ℕ) (long : length vs ≡ length ks) (is : zip (drop f ks) (drop f vs) ≡ xs) (rising : IsRising 0 (zip (drop f ks) (drop f vs)) next) (halves : ages ≡ map (λ x. x.1) xs) (low : i < length ages) (found : get_or ages i 0 ≡ age) where
  pub stands : f + i < length ks
  stands =
      let ages_long : length ages ≡ length xs = ap length halves ∙ length-map xs (λ (x : X × ℕ). x.1) in
      let same : length (zip (drop f ks) (drop f vs)) ≡ length xs = ap length is in
      omega (arith, length_zipped (drop f ks) (drop f vs) (dropped_long ks vs f long), length-drop f ks)

  gone : remove (zip (drop f ks) (drop f vs)) i ≡ without_age age xs
  gone =
      ap (λ ys. remove ys i) is
      ∙ removed_link xs i age next (subst (λ ys. IsRising 0 ys next) is rising) (subst (λ ys. i < length ys) halves low) (ap (λ ys. get_or ys i 0) (sym halves) ∙ found)

  pub gone_upward : (ks' : List X) (vs' : List ℕ) → length ks' ≡ length ks → length vs' ≡ length vs → remove ks' f ≡ remove ks (f + i) → remove vs' f ≡ remove vs (f + i) → zip (drop (f + 1) ks') (drop (f + 1) vs') ≡ without_age age xs
  gone_upward ks' vs' k v d e = pairs_upward ks ks' vs vs' f i long stands k v d e ∙ gone

  pub gone_downward : (ks' : List X) (vs' : List ℕ) → ks' ≡ remove ks (f + i) → vs' ≡ remove vs (f + i) → zip (drop f ks') (drop f vs') ≡ without_age age xs
  gone_downward ks' vs' d e = pairs_downward ks ks' vs vs' f i long stands d e ∙ gone
