-- Messages of one class go the same ways.
use Rattle.std.proofs.Common.{◌≡◌, ◌<◌, ◌≤◌, ◌+◌, ◌*◌, ◌/◌, ◌%◌, ◌⊎◌, inl, inr, ℕ, zero, suc, Bool, true, false, List, [], ◌∷◌, Option, Some, None, refl, sym, ap, subst, ◌∙◌}
use Rattle.std.specs.Prelude.{pos, ◌+ℤ◌, ◌&&◌, is_some, if◌then◌else◌, option_map, slice_get, slice_index, unwrap_or, sum_by}
use Rattle.std.specs.Ordering.{nat_cmp}
use Rattle.std.specs.FinMap.{FinMap}
use Rattle.std.proofs.lemmas.Bool.{cases_lt, lt-ltb}
use Rattle.std.proofs.lemmas.List.Sums.{sum_by-cons}
use Rattle.std.proofs.lemmas.Option.{unwrap_or-slice_get}
use Rattle.midi_wire.specs.Messages.{begins}
use Rattle.midi_wire.specs.Writings.{status_of, is_channel}
use Rattle.midi_wire.specs.Kinds.{kind_of, kind_of_status}
use Rattle.midi_wire.proofs.WrittenNext.{message-not-channel}
use Rattle.route_filter.specs.declared.rule_args.RuleArgs.{RuleArgs}
use Rattle.route_filter.specs.Rules.{has_kind}
use Rattle.route_filter.specs.Passing.{has_note, note_of, takes_channel, takes_note, as_note, with_first, shifted_by, on_channel, on_rule_channel, rule_output}
use Rattle.route_filter.proofs.Passes.{system-passed}
use Rattle.node_table.specs.declared.number.Addr.{Addr}
use Rattle.node_table.specs.declared.number.Node.{Node}
use Rattle.node_table.specs.declared.number.Node.TheVariants.{Port, Filter}
use Rattle.patch_graph.specs.declared.edge.Edge.{Edge}
use Rattle.patch_graph.specs.Index.{targets_of}
use Rattle.seq_state.specs.State.{Client, FilterInfo}
use Rattle.seq_state.specs.Copies.{filter_at, passed_by}
use Rattle.seq_sending.specs.Counts.{ways_of, ways_past, ways_at, ways_for}
use Rattle.seq_sending.specs.Classes.{first_data, way_class}
use Rattle.seq_sending.specs.KeptCounts.{AreCounts, AreClassCounts}
use Rattle.seq_sending.specs.Laws.{ClassLaw}
use Rattle.seq_sending.specs.declared.class.WayClass.{WayClass}
use Rattle.node_table.specs.Numbers.{first_client}
use Rattle.patch_graph.specs.Paths.{hops}

-- messages of one class
record Alike (m n : List ℕ) : Type 0 where
  status : status_of m ≡ status_of n
  first : status_of m < 240 → slice_get m 1 ≡ slice_get n 1

-- no message on both sides, or messages of one class
abbrev BothAlike : Option (List ℕ) → Option (List ℕ) → Type 0
BothAlike None None = Unit {0}
BothAlike (Some m) (Some n) = Alike m n
BothAlike None (Some n) = ⊥
BothAlike (Some m) None = ⊥

first-below : (m : List ℕ) → status_of m < 240 → first_data m ≡ slice_get m 1
first-below m l = ap (λ (t : Bool). if t then slice_get m 1 else None) (lt-ltb (status_of m) 240 l)

alike : (m n : List ℕ) → way_class m ≡ way_class n → Alike m n
alike m n e =
    let s : status_of m ≡ status_of n = ap (λ c. c.status) e in
    record {
      status = s;
      first = λ l. sym (first-below m l) ∙ ap (λ c. c.first) e ∙ first-below n (subst (λ k. k < 240) s l);
    }

-- ---- a shift and another channel

none-some : (a : ℕ) → None ≡ Some a → ⊥
none-some a e = cc

first-alike : (m n : List ℕ) (k : ℕ) → status_of m < 240 → Alike m n → Alike (with_first m k) (with_first n k)
first-alike [] [] k l h = h
first-alike [] (t ∷ []) k l h = h
first-alike [] (t ∷ b ∷ ys) k l h = absurd (none-some b (h.first l))
first-alike (s ∷ []) [] k l h = h
first-alike (s ∷ []) (t ∷ []) k l h = h
first-alike (s ∷ []) (t ∷ b ∷ ys) k l h = absurd (none-some b (h.first l))
first-alike (s ∷ a ∷ xs) [] k l h = absurd (none-some a (sym (h.first l)))
first-alike (s ∷ a ∷ xs) (t ∷ []) k l h = absurd (none-some a (sym (h.first l)))
first-alike (s ∷ a ∷ xs) (t ∷ b ∷ ys) k l h = record { status = h.status; first = λ _. refl }

-- no message is on no channel
no-status : is_channel (begins 0) ≡ true → ⊥
unfolding begins
no-status e = cc

channel-low : (m : List ℕ) → is_channel (begins (status_of m)) ≡ true → status_of m < 240
channel-low m e =
    go (cases_lt (status_of m) 240)
  where
    go : (status_of m < 240) ⊎ (240 ≤ status_of m) → status_of m < 240
    go (inl l) = l
    go (inr g) = let f : false ≡ true = sym (message-not-channel m g) ∙ e in let i : ⊥ = cc in absurd i

moved-alike : (c : ℕ) (m n : List ℕ) → is_channel (begins (status_of m)) ≡ true → Alike m n → Alike (on_channel c m) (on_channel c n)
moved-alike c [] n e h = absurd (no-status e)
moved-alike c (s ∷ xs) [] e h = absurd (no-status (ap (λ k. is_channel (begins k)) (sym h.status) ∙ e))
moved-alike c (s ∷ xs) (t ∷ ys) e h = record { status = ap (λ k. k / 16 * 16 + c) h.status; first = λ _. h.first (channel-low (s ∷ xs) e) }

-- by whether the message has a channel
abbrev moved_if : Bool → ℕ → List ℕ → List ℕ
moved_if t c m = if is_some (if t then Some (status_of m % 16) else None) then on_channel c m else m

channel-alike : (channel : Option ℕ) (m n : List ℕ) → Alike m n → Alike (on_rule_channel channel m) (on_rule_channel channel n)
channel-alike None m n h = h
channel-alike (Some c) m n h =
    subst (λ t. Alike (on_rule_channel (Some c) m) (moved_if t c n)) (ap (λ k. is_channel (begins k)) h.status) (go (is_channel (begins (status_of m))) refl)
  where
    go : (t : Bool) → is_channel (begins (status_of m)) ≡ t → Alike (moved_if t c m) (moved_if t c n)
    go true e = moved-alike c m n e h
    go false e = h

-- ---- a rule

-- what a rule makes of a message with this note, by whether it is taken
abbrev made_if : RuleArgs → Bool → Option ℕ → List ℕ → Option (List ℕ)
made_if rule t note m = if t then option_map (on_rule_channel rule.channel) (shifted_by rule.shift note m) else None

made-alike : (rule : RuleArgs) (t : Bool) (note : Option ℕ) (m n : List ℕ) → status_of m < 240 → Alike m n → BothAlike (made_if rule t note m) (made_if rule t note n)
made-alike rule false _ m n l h = tt
made-alike rule true None m n l h = channel-alike rule.channel m n h
made-alike rule true (Some a) m n l h =
    go (as_note (pos a +ℤ rule.shift))
  where
    go : (o : Option ℕ) → BothAlike (option_map (on_rule_channel rule.channel) (option_map (with_first m) o)) (option_map (on_rule_channel rule.channel) (option_map (with_first n) o))
    go None = tt
    go (Some k) = channel-alike rule.channel (with_first m k) (with_first n k) (first-alike m n k l h)

note-same : (m n : List ℕ) → status_of m < 240 → Alike m n → note_of m ≡ note_of n
note-same m n l h =
    let first : slice_index m 1 ≡ slice_index n 1 = sym (unwrap_or-slice_get m 1 0) ∙ ap (λ o. unwrap_or o 0) (h.first l) ∙ unwrap_or-slice_get n 1 0 in
    ap (λ k. if has_note (kind_of m) then Some k else None) first ∙ ap (λ s. if has_note (kind_of_status s) then Some (slice_index n 1) else None) h.status

-- whether a message with this status and this note is taken
abbrev takes : RuleArgs → ℕ → Option ℕ → Bool
takes rule s note = has_kind rule.kinds.0 (kind_of_status s) && (takes_channel rule (if is_channel (begins s) then Some (s % 16) else None) && takes_note rule note)

voice-alike : (rule : RuleArgs) (m n : List ℕ) → status_of m < 240 → Alike m n → BothAlike (rule_output rule m) (rule_output rule n)
voice-alike rule m n l h =
    subst (λ s. BothAlike (rule_output rule m) (made_if rule (takes rule s (note_of n)) (note_of n) n)) h.status
    (subst (λ note. BothAlike (rule_output rule m) (made_if rule (takes rule (status_of m) note) note n)) (note-same m n l h)
    (made-alike rule (takes rule (status_of m) (note_of m)) (note_of m) m n l h))

system-alike : (rule : RuleArgs) (m n : List ℕ) → 240 ≤ status_of m → Alike m n → BothAlike (rule_output rule m) (rule_output rule n)
system-alike rule m n g h =
    subst (λ o. BothAlike o (rule_output rule n)) (sym (system-passed rule m g))
    (subst (λ o. BothAlike (if has_kind rule.kinds.0 (kind_of m) then Some m else None) o) (sym (system-passed rule n (subst (λ k. 240 ≤ k) h.status g)))
    (subst (λ s. BothAlike (if has_kind rule.kinds.0 (kind_of m) then Some m else None) (if has_kind rule.kinds.0 (kind_of_status s) then Some n else None)) h.status
    (go (has_kind rule.kinds.0 (kind_of m)))))
  where
    go : (t : Bool) → BothAlike (if t then Some m else None) (if t then Some n else None)
    go true = h
    go false = tt

passed-alike : (f : Option FilterInfo) (m n : List ℕ) → Alike m n → BothAlike (passed_by f m) (passed_by f n)
passed-alike None m n h = h
passed-alike (Some f) m n h =
    go (cases_lt (status_of m) 240)
  where
    go : (status_of m < 240) ⊎ (240 ≤ status_of m) → BothAlike (rule_output f.rule m) (rule_output f.rule n)
    go (inl l) = voice-alike f.rule m n l h
    go (inr g) = system-alike f.rule m n g h

-- ---- the ways

sum-same : {X : Type 0} (f g : X → ℕ) → ((x : X) → f x ≡ g x) → (xs : List X) → sum_by f xs ≡ sum_by g xs
sum-same f g same [] = refl
sum-same f g same (x ∷ xs) = sum_by-cons f x xs ∙ ap (λ k. k + sum_by f xs) (same x) ∙ ap (λ k. g x + k) (sum-same f g same xs) ∙ sym (sum_by-cons g x xs)

of-alike : (f : List ℕ → ℕ) → ((m n : List ℕ) → Alike m n → f m ≡ f n) → (o p : Option (List ℕ)) → BothAlike o p → ways_of f o ≡ ways_of f p
of-alike f same None None h = refl
of-alike f same (Some m) (Some n) h = same m n h
of-alike f same None (Some n) h = absurd h
of-alike f same (Some m) None h = absurd h

module _ (clients : FinMap nat_cmp Client) (edges : List Edge) (c : ℕ) where
  at-alike : (f : List Addr → List ℕ → ℕ) → ((ts : List Addr) (m n : List ℕ) → Alike m n → f ts m ≡ f ts n) → (m n : List ℕ) → Alike m n → (client : ℕ) (node : Node) →
      ways_at c (ways_past clients edges f) m (record { client = client; node = node }) ≡ ways_at c (ways_past clients edges f) n (record { client = client; node = node })
  at-alike f same m n h client (Port p) = refl
  at-alike f same m n h client (Filter k) =
      of-alike (f (targets_of edges (record { client = client; node = Filter k }))) (same (targets_of edges (record { client = client; node = Filter k })))
      (passed_by (filter_at clients client (Filter k)) m) (passed_by (filter_at clients client (Filter k)) n) (passed-alike (filter_at clients client (Filter k)) m n h)

  ways-alike : (k : ℕ) (targets : List Addr) (m n : List ℕ) → Alike m n → ways_for clients edges c k targets m ≡ ways_for clients edges c k targets n
  unfolding ways_for
  ways-alike zero targets m n h = refl
  ways-alike (suc k) targets m n h =
      sum-same (ways_at c (ways_past clients edges (λ ts x. ways_for clients edges c k ts x)) m) (ways_at c (ways_past clients edges (λ ts x. ways_for clients edges c k ts x)) n)
      (λ t. at-alike (λ ts x. ways_for clients edges c k ts x) (λ ts x y e. ways-alike k ts x y e) m n h t.client t.node) targets

pub class_law : ClassLaw
class_law clients edges c n targets message other e = ways-alike clients edges c n targets message other (alike message other e)

-- so the counts of a message are those of its class
pub class-counts : (clients : FinMap nat_cmp Client) (edges : List Edge) (targets : List Addr) (message counts : List ℕ) (class : WayClass) →
    class ≡ way_class message → AreCounts clients edges targets message counts → AreClassCounts clients edges targets class counts
class-counts clients edges targets message counts class e are other is = record {
  rows = are.rows;
  each = λ row low. are.each row low ∙ class_law clients edges (first_client + row) hops targets message other (sym e ∙ sym is);
}
