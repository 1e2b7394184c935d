-- The logs of all clients, entry by entry.
use Rattle.std.proofs.Common.{◌≡◌, ℕ, zero, suc, ◌+◌, ◌≤◌, ◌<◌, Bool, true, false, not, cond, eqb, List, [], ◌∷◌, ◌++◌, map, length, take, get_or, slice_set, Some, None, refl, sym, ap, subst, ◌∙◌, arith, append-nil, append_assoc}
use Rattle.std.specs.Prelude.{slice_get}
use Rattle.std.specs.List.{position_or_len}
use Rattle.std.proofs.lemmas.Bool.{eqb-true, eq-eqb, ne_eqb, true≢false, false≢true}
use Rattle.std.proofs.lemmas.List.{take_more, map-append}
use Rattle.seq_state.specs.declared.log.Delivery.{Delivery}
use Rattle.seq_state.specs.declared.log.LogEntry.{LogEntry}
use Rattle.seq_state.specs.declared.log.LogEntry.TheVariants.{Delivered, Replied}
use Rattle.seq_state.specs.declared.log.Reply.{Reply}
use Rattle.seq_state.proofs.Lists.{flat_map-append}
use Rattle.script_text.specs.declared.reading.ScriptRead.{ScriptRead}
use Rattle.seq_session.specs.Rising.{RiseFrom, AreRising}
use Rattle.seq_session.specs.AllLogs.{clients_read, hearer, logs_of, TellMore, with_text}
use Rattle.seq_session.specs.Logs.{entry_text, entries_text, log_text, skips_text, delivery_line, reply_text}

-- ---- one text of several

pub with_set : {X : Type 0} (f : X → List ℕ) (xs : List X) (seat : ℕ) (x v : X) (more : List ℕ) → slice_get xs seat ≡ Some x → f v ≡ f x ++ more → map f (slice_set xs seat v) ≡ with_text (map f xs) seat more
with_set f [] seat x v more e h = cc
with_set f (y ∷ xs) zero x v more e h = let same : y ≡ x = some_same y x e in ap (λ t. t ∷ map f xs) (h ∙ ap (λ z. f z ++ more) (sym same))
  where
    some_same : {A : Type 0} (a b : A) → Some a ≡ Some b → a ≡ b
    some_same a b e = cc
with_set f (y ∷ xs) (suc seat) x v more e h = ap (λ ts. f y ∷ ts) (with_set f xs seat x v more e h)

pub with_past : {X : Type 0} (f : X → List ℕ) (xs : List X) (seat : ℕ) (more : List ℕ) → slice_get xs seat ≡ None → map f xs ≡ with_text (map f xs) seat more
with_past f [] seat more e = refl
with_past f (y ∷ xs) zero more e = cc
with_past f (y ∷ xs) (suc seat) more e = ap (λ ts. f y ∷ ts) (with_past f xs seat more e)

get_within : {X : Type 0} (xs : List X) (seat : ℕ) (x : X) → seat < length xs → x ≡ get_or xs seat x → slice_get xs seat ≡ Some x
get_within [] seat x l e = absurd (omega arith)
get_within (y ∷ xs) zero x l e = ap Some (sym e)
get_within (y ∷ xs) (suc seat) x l e = get_within xs seat x (omega arith) e

get_past : {X : Type 0} (xs : List X) (seat : ℕ) → length xs ≤ seat → slice_get xs seat ≡ None
get_past [] seat l = refl
get_past (y ∷ xs) zero l = absurd (omega arith)
get_past (y ∷ xs) (suc seat) l = get_past xs seat (omega arith)

pub with_set_at : {X : Type 0} (f : X → List ℕ) (xs : List X) (seat : ℕ) (x v : X) (more : List ℕ) → seat < length xs → x ≡ get_or xs seat x → f v ≡ f x ++ more → map f (slice_set xs seat v) ≡ with_text (map f xs) seat more
with_set_at f xs seat x v more l e h = with_set f xs seat x v more (get_within xs seat x l e) h

pub with_none : {X : Type 0} (f : X → List ℕ) (xs : List X) (seat : ℕ) (more : List ℕ) → length xs ≤ seat → map f xs ≡ with_text (map f xs) seat more
with_none f xs seat more l = with_past f xs seat more (get_past xs seat l)

-- ---- the text of the one that hears

module _ (P P' : ScriptRead → List ℕ) (E : ℕ → List ℕ) (h : ℕ) (step : (r : ScriptRead) → P' r ≡ P r ++ E r.client) (others : (c : ℕ) → eqb h c ≡ false → E c ≡ []) where
  unheard : (r : ScriptRead) → eqb h r.client ≡ false → P' r ≡ P r
  unheard r e = step r ∙ ap (λ t. P r ++ t) (others r.client e) ∙ append-nil (P r)

  none_after : (low : ℕ) (reads : List ScriptRead) → RiseFrom low (clients_read reads) → h ≤ low → map P reads ≡ map P' reads
  none_after low [] r l = refl
  none_after low (x ∷ reads) r l =
      let k : low < x.client = r.0 in
      ap (λ t. t ∷ map P reads) (sym (unheard x (ne_eqb h x.client (λ e. omega arith)))) ∙ ap (λ ts. P' x ∷ ts) (none_after x.client reads r.1 (omega arith))

  seat_after : (low : ℕ) (reads : List ScriptRead) → RiseFrom low (clients_read reads) → with_text (map P reads) (position_or_len (λ r. eqb r.client h) reads) (E h) ≡ map P' reads
  seat_after low [] r = refl
  seat_after low (x ∷ reads) r = go (eqb x.client h) refl (seat_after x.client reads r.1)
    where
      go : (b : Bool) → eqb x.client h ≡ b → with_text (map P reads) (position_or_len (λ r. eqb r.client h) reads) (E h) ≡ map P' reads →
          with_text (P x ∷ map P reads) (cond (not b) (1 + position_or_len (λ r. eqb r.client h) reads) 0) (E h) ≡ P' x ∷ map P' reads
      go true e more =
          let same : x.client ≡ h = eqb-true x.client h e in
          ap (λ c. (P x ++ E c) ∷ map P reads) (sym same) ∙ ap (λ t. t ∷ map P reads) (sym (step x)) ∙ ap (λ ts. P' x ∷ ts) (none_after x.client reads r.1 (omega arith))
      go false e more =
          ap (λ k. with_text (P x ∷ map P reads) k (E h)) one_more
          ∙ ap (λ t. t ∷ with_text (map P reads) (position_or_len (λ r. eqb r.client h) reads) (E h)) (sym (unheard x (ne_eqb h x.client (λ k. differ (eqb x.client h) e (eq-eqb x.client h (sym k))))))
          ∙ ap (λ ts. P' x ∷ ts) more
        where
          one_more : 1 + position_or_len (λ r. eqb r.client h) reads ≡ suc (position_or_len (λ r. eqb r.client h) reads)
          one_more = omega arith

          differ : (b : Bool) → b ≡ false → b ≡ true → ⊥
          differ true f t = true≢false f
          differ false f t = false≢true t

  pub seat_more : (reads : List ScriptRead) → AreRising (clients_read reads) → with_text (map P reads) (position_or_len (λ r. eqb r.client h) reads) (E h) ≡ map P' reads
  seat_more [] r = refl
  seat_more (x ∷ reads) r = go (eqb x.client h) refl (seat_after x.client reads r)
    where
      go : (b : Bool) → eqb x.client h ≡ b → with_text (map P reads) (position_or_len (λ r. eqb r.client h) reads) (E h) ≡ map P' reads →
          with_text (P x ∷ map P reads) (cond (not b) (1 + position_or_len (λ r. eqb r.client h) reads) 0) (E h) ≡ P' x ∷ map P' reads
      go true e more =
          let same : x.client ≡ h = eqb-true x.client h e in
          ap (λ c. (P x ++ E c) ∷ map P reads) (sym same) ∙ ap (λ t. t ∷ map P reads) (sym (step x)) ∙ ap (λ ts. P' x ∷ ts) (none_after x.client reads r (omega arith))
      go false e more =
          ap (λ k. with_text (P x ∷ map P reads) k (E h)) one_more
          ∙ ap (λ t. t ∷ with_text (map P reads) (position_or_len (λ r. eqb r.client h) reads) (E h)) (sym (unheard x (ne_eqb h x.client (λ k. differ (eqb x.client h) e (eq-eqb x.client h (sym k))))))
          ∙ ap (λ ts. P' x ∷ ts) more
        where
          one_more : 1 + position_or_len (λ r. eqb r.client h) reads ≡ suc (position_or_len (λ r. eqb r.client h) reads)
          one_more = omega arith

          differ : (b : Bool) → b ≡ false → b ≡ true → ⊥
          differ true f t = true≢false f
          differ false f t = false≢true t

-- ---- one entry more

not_heard : (lines : List ℕ) (e : LogEntry) (c : ℕ) → eqb (hearer e) c ≡ false → entry_text c lines e ≡ []
not_heard lines (Delivered d) c h = ap (λ b. cond b (delivery_line d) []) h
not_heard lines (Replied place moment client reply) c h = ap (λ b. cond b (reply_text moment (slice_get lines place) reply) []) h

log_more : (lines : List ℕ) (entries : List LogEntry) (e : LogEntry) (r : ScriptRead) → log_text r lines (entries ++ e ∷ []) ≡ log_text r lines entries ++ entry_text r.client lines e
log_more lines entries e r =
    ap (λ t. skips_text r.skips ++ t) (flat_map-append (entry_text r.client lines) entries (e ∷ []) ∙ ap (λ t. entries_text r.client lines entries ++ t) (append-nil (entry_text r.client lines e)))
    ∙ sym (append_assoc (skips_text r.skips) (entries_text r.client lines entries) (entry_text r.client lines e))

pub heard_more : (reads : List ScriptRead) (lines : List ℕ) (e : LogEntry) (olds news : List (List ℕ)) (seat : ℕ) (more : List ℕ) → AreRising (clients_read reads) → seat ≡ position_or_len (λ r. eqb r.client (hearer e)) reads →
    entry_text (hearer e) lines e ≡ more → news ≡ with_text olds seat more → TellMore reads lines (e ∷ []) olds news
heard_more reads lines e olds news seat more rise s m n = λ entries o.
    n ∙ ap (λ ts. with_text ts seat more) o
    ∙ ap (λ k. with_text (logs_of reads lines entries) k more) s
    ∙ ap (with_text (logs_of reads lines entries) (position_or_len (λ r. eqb r.client (hearer e)) reads)) (sym m)
    ∙ seat_more (λ r. log_text r lines entries) (λ r. log_text r lines (entries ++ e ∷ [])) (λ c. entry_text c lines e) (hearer e) (log_more lines entries e) (not_heard lines e) reads rise

-- what a client hears of is told to it
pub delivery_heard : (lines : List ℕ) (d : Delivery) → entry_text d.target.client lines (Delivered d) ≡ delivery_line d
delivery_heard lines d = ap (λ b. cond b (delivery_line d) []) (eq-eqb d.target.client d.target.client refl)

pub reply_heard : (lines : List ℕ) (place moment client : ℕ) (reply : Reply) → entry_text client lines (Replied place moment client reply) ≡ reply_text moment (slice_get lines place) reply
reply_heard lines place moment client reply = ap (λ b. cond b (reply_text moment (slice_get lines place) reply) []) (eq-eqb client client refl)

-- ---- several entries more

-- where nothing happens, the logs are the skipped lines
pub no_entries : (reads : List ScriptRead) (lines : List ℕ) → map (λ r. skips_text r.skips) reads ≡ logs_of reads lines []
no_entries [] lines = refl
no_entries (r ∷ reads) lines =
    ap (λ t. t ∷ map (λ r. skips_text r.skips) reads) (sym (append-nil (skips_text r.skips))) ∙ ap (λ ts. log_text r lines [] ∷ ts) (no_entries reads lines)

module _ (reads : List ScriptRead) (lines : List ℕ) where
  pub tell_none : (texts : List (List ℕ)) → TellMore reads lines [] texts texts
  tell_none texts = λ entries o. o ∙ ap (logs_of reads lines) (sym (append-nil entries))

  pub tell_both : (first second : List LogEntry) (olds mids news : List (List ℕ)) → TellMore reads lines first olds mids → TellMore reads lines second mids news → TellMore reads lines (first ++ second) olds news
  tell_both first second olds mids news f s = λ entries o. s (entries ++ first) (f entries o) ∙ ap (logs_of reads lines) (append_assoc entries first second)

  -- an entry more of a list
  pub tell_next : (entries : List LogEntry) (i : ℕ) (e : LogEntry) (olds news : List (List ℕ)) → i < length entries → e ≡ get_or entries i e →
      olds ≡ logs_of reads lines (take i entries) → TellMore reads lines (e ∷ []) olds news → news ≡ logs_of reads lines (take (i + 1) entries)
  tell_next entries i e olds news l at o more =
      more (take i entries) o ∙ ap (logs_of reads lines) (sym (take_more entries i e l ∙ ap (λ x. take i entries ++ x ∷ []) (sym at)))

  -- a delivery more
  pub tell_next_delivery : (ds : List Delivery) (i : ℕ) (d : Delivery) (olds mids news : List (List ℕ)) → i < length ds → d ≡ get_or ds i d →
      TellMore reads lines (map Delivered (take i ds)) olds mids → TellMore reads lines (Delivered d ∷ []) mids news → TellMore reads lines (map Delivered (take (i + 1) ds)) olds news
  tell_next_delivery ds i d olds mids news l at f s =
      subst (λ es. TellMore reads lines es olds news)
      (sym (ap (map Delivered) (take_more ds i d l ∙ ap (λ x. take i ds ++ x ∷ []) (sym at)) ∙ map-append Delivered (take i ds) (d ∷ [])))
      (tell_both (map Delivered (take i ds)) (Delivered d ∷ []) olds mids news f s)
