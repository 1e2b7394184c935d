-- What fates say of the copies, and what stops say of the tests.
use Rattle.std.proofs.Common.{◌≡◌, ℕ, ◌≤◌, Bool, true, false, cond, not, List, [], ◌∷◌, map, Option, Some, None, refl, sym, ap, subst, ◌∙◌, arith}
use Rattle.std.specs.Prelude.{pos, ◌+ℤ◌, nat_lt, is_some, is_none, unwrap_or}
use Rattle.std.specs.Option.{option_and_then, option_map, option_or, option_to_list}
use Rattle.std.specs.List.{filter_map, cons_option}
use Rattle.std.specs.Ordering.{nat_cmp}
use Rattle.std.specs.FinMap.{FinMap, get}
use Rattle.std.proofs.lemmas.Bool.Decides.{nat_tests}
use Rattle.midi_wire.specs.Kinds.{kind_of, channel_number}
use Rattle.node_table.specs.declared.number.Addr.{Addr}
use Rattle.node_table.specs.declared.number.Node.{Node}
use Rattle.node_table.specs.declared.number.Node.TheVariants.{Port, Filter}
use Rattle.patch_graph.specs.declared.edge.Edge.{Edge}
use Rattle.patch_graph.specs.Paths.{end_of, nodes_of}
use Rattle.route_filter.specs.declared.rule_args.RuleArgs.{RuleArgs}
use Rattle.route_filter.specs.Passing.{note_of, as_note, takes_channel, rule_output}
use Rattle.route_filter.specs.Rules.{has_kind, has_channel}
use Rattle.seq_state.specs.declared.log.Delivery.{Delivery}
use Rattle.seq_state.specs.State.{Client, FilterInfo}
use Rattle.seq_state.specs.Copies.{filter_at, passed_by, copy_on_path, delivery, copy}
use Rattle.seq_state.specs.Step.{pool_has_room, pools_after, copies_with_room}
use Rattle.seq_clients.specs.Roster.{Roster, input_size}
use Rattle.way_fates.specs.Stops.{stop_of_channel, stop_of_note, stop_by}
use Rattle.way_fates.specs.Fates.{stop_at, stopped_at, fate_at, fate_on, copy_by, past_path, fates_on}
use Rattle.way_fates.specs.Laws.{is_stopped, arrives, copies_where, TakesKind, IsNoteTested, IsFirstFailed, IsStoppedAt}
use Rattle.way_fates.specs.declared.stop.Stop.{Stop}
use Rattle.way_fates.specs.declared.stop.Stop.TheVariants as stop
use Rattle.way_fates.specs.declared.fate.Fate.{Fate}
use Rattle.way_fates.specs.declared.fate.Fate.TheVariants.{Stopped, Arrives, Lost}
use Rattle.way_fates.proofs.Roomed.{stopped-copy}

-- ---- the fate of one way

module _ (clients : FinMap nat_cmp Client) where
  -- it tells of a stop exactly where the message is stopped
  stopped-told : (nodes : List Addr) (m : List ℕ) (end : Fate) → is_stopped end ≡ false → is_stopped (unwrap_or (stopped_at clients nodes m) end) ≡ is_some (stopped_at clients nodes m)
  stopped-told [] m end e = e
  stopped-told (a ∷ nodes) m end e = go (λ x. stopped-told nodes x end e) (stop_at (filter_at clients a.client a.node) m) (passed_by (filter_at clients a.client a.node) m)
    where
      go : ((x : List ℕ) → is_stopped (unwrap_or (stopped_at clients nodes x) end) ≡ is_some (stopped_at clients nodes x)) → (s : Option Stop) (o : Option (List ℕ)) →
          is_stopped (unwrap_or (option_or (option_map (Stopped a) s) (option_and_then (stopped_at clients nodes) o)) end) ≡ is_some (option_or (option_map (Stopped a) s) (option_and_then (stopped_at clients nodes) o))
      go further (Some why) o = refl
      go further None None = e
      go further None (Some x) = further x

ends : (roster : Roster) (moment client : ℕ) → is_stopped (fate_at roster moment client) ≡ false
ends roster moment client = go (pool_has_room moment (get roster.pools client))
  where
    go : (b : Bool) → is_stopped (cond b Arrives (Lost (input_size (get roster.clients client)))) ≡ false
    go true = refl
    go false = refl

module _ (moment : ℕ) (source : Addr) (message : List ℕ) where
  stopped-on : (roster : Roster) (p : List Edge) → is_stopped (fate_on roster moment source message p) ≡ is_none (copy_on_path roster.clients p message)
  stopped-on roster p =
      stopped-told roster.clients (nodes_of p) message (fate_at roster moment (end_of source p).client) (ends roster moment (end_of source p).client) ∙ stopped-copy roster.clients p message

  pub all-stopped : (roster : Roster) (ps : List (List Edge)) →
      map (λ way. is_stopped way.fate) (fates_on roster moment source message ps) ≡ map (λ p. is_none (copy_on_path roster.clients p message)) ps
  all-stopped roster [] = refl
  all-stopped roster (p ∷ ps) =
      ap (λ b. b ∷ map (λ way. is_stopped way.fate) (fates_on (past_path roster moment source message p) moment source message ps)) (stopped-on roster p)
      ∙ ap (λ bs. is_none (copy_on_path roster.clients p message) ∷ bs) (all-stopped (past_path roster moment source message p) ps)

  -- ---- the copies that are sent

  abbrev copy_of : Roster → List Edge → Option Delivery
  copy_of roster p = copy_by roster.clients moment source message p

  not-stopped : (roster : Roster) (p : List Edge) → cond (not (is_stopped (fate_on roster moment source message p))) (copy_of roster p) None ≡ copy_of roster p
  not-stopped roster p = ap (λ b. cond (not b) (copy_of roster p) None) (stopped-on roster p) ∙ go (copy_on_path roster.clients p message)
    where
      go : (o : Option (List ℕ)) → cond (not (is_none o)) (copy moment (end_of source p) o) None ≡ copy moment (end_of source p) o
      go None = refl
      go (Some m) = refl

  abbrev told : (Fate → Bool) → Roster → List (List Edge) → Roster → List Delivery
  told test roster ps pools = copies_where test roster.clients moment source message ps (fates_on pools moment source message ps)

  pub all-sent : (roster : Roster) (ps : List (List Edge)) →
      copies_where (λ fate. not (is_stopped fate)) roster.clients moment source message ps (fates_on roster moment source message ps) ≡ filter_map (copy_of roster) ps
  all-sent roster [] = refl
  all-sent roster (p ∷ ps) = λ j. cons_option (not-stopped roster p j) (all-sent (past_path roster moment source message p) ps j)

  -- ---- the copies that arrive

  abbrev kept : Roster → List Delivery → List Delivery
  kept roster ds = copies_with_room roster.pools ds

  one-arrives : (roster : Roster) (p : List Edge) (rest : List Delivery) → cons_option (cond (arrives (fate_on roster moment source message p)) (copy_of roster p) None) (copies_with_room (past_path roster moment source message p).pools rest)
      ≡ copies_with_room roster.pools (cons_option (copy_of roster p) rest)
  one-arrives roster p rest = go (end_of source p) (stopped_at roster.clients (nodes_of p) message) (copy_on_path roster.clients p message) (stopped-copy roster.clients p message)
    where
      with-room : (b : Bool) (d : Delivery) (ds : List Delivery) (end : ℕ) → cons_option (cond (arrives (cond b Arrives (Lost end))) (Some d) None) ds ≡ cond b (d ∷ ds) ds
      with-room true d ds end = refl
      with-room false d ds end = refl

      at-end : (client : ℕ) (node : Node) (m : List ℕ) →
          cons_option (cond (arrives (fate_at roster moment client)) (delivery moment client node m) None) (copies_with_room (pools_after roster.pools (option_to_list (delivery moment client node m))) rest)
          ≡ copies_with_room roster.pools (cons_option (delivery moment client node m) rest)
      at-end client (Port n) m =
          let d : Delivery = record { moment = moment; target = record { client = client; port = n }; message = m } in
          with-room (pool_has_room moment (get roster.pools client)) d (copies_with_room (pools_after roster.pools (d ∷ [])) rest) (input_size (get roster.clients client))
      at-end client (Filter n) m = never (arrives (fate_at roster moment client))
        where
          never : (b : Bool) → (let none : Option Delivery = None in cons_option (cond b none None) (copies_with_room roster.pools rest) ≡ copies_with_room roster.pools rest)
          never true = refl
          never false = refl

      never : (b : Bool) → (let none : Option Delivery = None in cons_option (cond b none None) (copies_with_room roster.pools rest) ≡ copies_with_room roster.pools rest)
      never true = refl
      never false = refl

      go : (end : Addr) (s : Option Fate) (o : Option (List ℕ)) → is_some s ≡ is_none o →
          cons_option (cond (arrives (unwrap_or s (fate_at roster moment end.client))) (copy moment end o) None) (copies_with_room (pools_after roster.pools (option_to_list (copy moment end o))) rest)
          ≡ copies_with_room roster.pools (cons_option (copy moment end o) rest)
      go end None None e = absurd (let f : false ≡ true = e in cc)
      go end (Some f) None e = never (arrives f)
      go end None (Some m) e = at-end end.client end.node m
      go end (Some f) (Some m) e = absurd (let g : true ≡ false = e in cc)

  pub all-arrived : (roster : Roster) (ps : List (List Edge)) →
      copies_where arrives roster.clients moment source message ps (fates_on roster moment source message ps) ≡ copies_with_room roster.pools (filter_map (copy_of roster) ps)
  all-arrived roster [] = refl
  all-arrived roster (p ∷ ps) =
      ap (cons_option (cond (arrives (fate_on roster moment source message p)) (copy_of roster p) None)) (all-arrived (past_path roster moment source message p) ps)
      ∙ one-arrives roster p (filter_map (copy_of roster) ps)

-- ---- the first test that fails

module _ (rule : RuleArgs) (m : List ℕ) where
  is-it : (why why' : Stop) → Some why ≡ Some why' → IsFirstFailed rule m why → IsFirstFailed rule m why'
  is-it why why' e f = subst (IsFirstFailed rule m) (ap (λ o. unwrap_or o why) e) f

  by-shift : (note : ℕ) (why : Stop) → IsNoteTested rule m note → rule.low ≤ note → note ≤ rule.high → (o : Option ℕ) → as_note (pos note +ℤ rule.shift) ≡ o →
      cond (is_some o) None (Some (stop.NoteShifted note rule.shift)) ≡ Some why → IsFirstFailed rule m why
  by-shift note why tested low high (Some n) e f = absurd (let g : false ≡ true = ap is_some f in cc)
  by-shift note why tested low high None e f = is-it (stop.NoteShifted note rule.shift) why f (tested, low, high, refl, e)

  by-note : (note : ℕ) (why : Stop) → IsNoteTested rule m note → stop_of_note rule (Some note) ≡ Some why → IsFirstFailed rule m why
  by-note note why tested f = go (nat_lt note rule.low) (nat_lt rule.high note) refl refl f
    where
      go : (below above : Bool) → nat_lt note rule.low ≡ below → nat_lt rule.high note ≡ above →
          cond below (Some (stop.NoteBelow note rule.low)) (cond above (Some (stop.NoteAbove note rule.high)) (cond (is_some (as_note (pos note +ℤ rule.shift))) None (Some (stop.NoteShifted note rule.shift)))) ≡ Some why →
          IsFirstFailed rule m why
      go true above b a g = is-it (stop.NoteBelow note rule.low) why g (tested, refl, grind (arith, nat_tests))
      go false true b a g = is-it (stop.NoteAbove note rule.high) why g (tested, grind (arith, nat_tests), refl, grind (arith, nat_tests))
      go false false b a g = by-shift note why tested (grind (arith, nat_tests)) (grind (arith, nat_tests)) (as_note (pos note +ℤ rule.shift)) refl g

  by-notes : (why : Stop) → TakesKind rule m → takes_channel rule (channel_number m) ≡ true → (n : Option ℕ) → note_of m ≡ n → stop_of_note rule n ≡ Some why → IsFirstFailed rule m why
  by-notes why kind channel None e f = absurd (let g : false ≡ true = ap is_some f in cc)
  by-notes why kind channel (Some note) e f = by-note note why (record { kind = kind; channel = channel; noted = e }) f

  by-channel : (why : Stop) → TakesKind rule m → (c : Option ℕ) → channel_number m ≡ c → option_or (stop_of_channel rule c) (stop_of_note rule (note_of m)) ≡ Some why → IsFirstFailed rule m why
  by-channel why kind None e f = by-notes why kind (ap (takes_channel rule) e) (note_of m) refl f
  by-channel why kind (Some n) e f = go (has_channel rule.channels n) refl f
    where
      go : (b : Bool) → has_channel rule.channels n ≡ b → option_or (cond b None (Some (stop.Channel n))) (stop_of_note rule (note_of m)) ≡ Some why → IsFirstFailed rule m why
      go true h g = by-notes why kind (ap (takes_channel rule) e ∙ h) (note_of m) refl g
      go false h g = is-it (stop.Channel n) why g (kind, e, h)

  pub first-failed : (why : Stop) → stop_by rule m ≡ Some why → IsFirstFailed rule m why
  first-failed why f = go (has_kind rule.kinds.0 (kind_of m)) refl f
    where
      go : (b : Bool) → has_kind rule.kinds.0 (kind_of m) ≡ b → option_or (cond b None (Some stop.Kind)) (option_or (stop_of_channel rule (channel_number m)) (stop_of_note rule (note_of m))) ≡ Some why → IsFirstFailed rule m why
      go true h g = by-channel why h (channel_number m) refl g
      go false h g = is-it stop.Kind why g h

-- ---- where a message is stopped

module _ (clients : FinMap nat_cmp Client) (filter : Addr) (why : Stop) where
  abbrev Stops : List Edge → List ℕ → Type 0
  Stops path m = IsStoppedAt clients path m filter why

  -- behind a node that lets it pass
  further-on : (e : Edge) (es : List Edge) (m passed : List ℕ) → passed_by (filter_at clients e.target.client e.target.node) m ≡ Some passed → Stops es passed → Stops (e ∷ es) m
  further-on e es m passed f s = record {
    before = e ∷ s.before;
    edge = s.edge;
    after = s.after;
    whole = ap (λ xs. e ∷ xs) s.whole;
    here = s.here;
    carried = s.carried;
    comes = ap (option_and_then (copy_on_path clients s.before)) f ∙ s.comes;
    info = s.info;
    there = s.there;
    failed = s.failed;
  }

  -- what a stop tells, and none where the stop is another's
  abbrev filter_in : Fate → Addr
  filter_in (Stopped a w) = a
  filter_in _ = filter

  abbrev why_in : Fate → Stop
  why_in (Stopped a w) = w
  why_in _ = why

  stopped-here : (e : Edge) (es : List Edge) (m : List ℕ) (f : FilterInfo) (w : Stop) → filter_at clients e.target.client e.target.node ≡ Some f → stop_by f.rule m ≡ Some w →
      Some (Stopped e.target w) ≡ Some (Stopped filter why) → Stops (e ∷ es) m
  stopped-here e es m f w there stop is =
      let told : Stopped e.target w ≡ Stopped filter why = ap (λ o. unwrap_or o (Stopped e.target w)) is in
      let at : e.target ≡ filter = ap filter_in told in
      let by : w ≡ why = ap why_in told in
      record {
        before = [];
        edge = e;
        after = es;
        whole = refl;
        here = at;
        carried = m;
        comes = refl;
        info = f;
        there = ap (λ (a : Addr). filter_at clients a.client a.node) (sym at) ∙ there;
        failed = first-failed f.rule m why (stop ∙ ap Some by);
      }

  pub stopped-where : (path : List Edge) (m : List ℕ) → stopped_at clients (nodes_of path) m ≡ Some (Stopped filter why) → Stops path m
  stopped-where [] m h = absurd (let g : false ≡ true = ap is_some h in cc)
  stopped-where (e ∷ es) m h = go (λ x k. stopped-where es x k) (filter_at clients e.target.client e.target.node) refl h
    where
      Further : Type 0
      Further = (x : List ℕ) → stopped_at clients (nodes_of es) x ≡ Some (Stopped filter why) → Stops es x

      past : Further → (f : FilterInfo) (s : Option Stop) (o : Option (List ℕ)) → filter_at clients e.target.client e.target.node ≡ Some f → stop_by f.rule m ≡ s → rule_output f.rule m ≡ o →
          option_or (option_map (Stopped e.target) s) (option_and_then (stopped_at clients (nodes_of es)) o) ≡ Some (Stopped filter why) → Stops (e ∷ es) m
      past further f (Some w) o there stop out k = stopped-here e es m f w there stop k
      past further f None None there stop out k = absurd (let g : false ≡ true = ap is_some k in cc)
      past further f None (Some x) there stop out k = further-on e es m x (ap (λ o. passed_by o m) there ∙ out) (further x k)

      go : Further → (f : Option FilterInfo) → filter_at clients e.target.client e.target.node ≡ f →
          option_or (option_map (Stopped e.target) (stop_at f m)) (option_and_then (stopped_at clients (nodes_of es)) (passed_by f m)) ≡ Some (Stopped filter why) → Stops (e ∷ es) m
      go further None there k = further-on e es m m (ap (λ o. passed_by o m) there) (further m k)
      go further (Some f) there k = past further f (stop_by f.rule m) (rule_output f.rule m) there refl refl k

-- a fate that tells of a stop
pub stop-told : (roster : Roster) (moment : ℕ) (source : Addr) (message : List ℕ) (path : List Edge) (filter : Addr) (why : Stop) → fate_on roster moment source message path ≡ Stopped filter why →
    stopped_at roster.clients (nodes_of path) message ≡ Some (Stopped filter why)
stop-told roster moment source message path filter why h = go (stopped_at roster.clients (nodes_of path) message) h
  where
    go : (o : Option Fate) → unwrap_or o (fate_at roster moment (end_of source path).client) ≡ Stopped filter why → o ≡ Some (Stopped filter why)
    go (Some f) k = ap Some k
    go None k = absurd (let g : false ≡ true = sym (ends roster moment (end_of source path).client) ∙ ap is_stopped k in cc)
