-- Logs that are written piece by piece.
use Rattle.std.proofs.Common.{◌≡◌, ◌≤◌, ◌+◌, ℕ, suc, Result, Ok, Err, IfOk, IfErr, IfSome, IsSome, OnOk, Option, Bool, true, false, List, [], ◌∷◌, ◌++◌, map, length, inl, inr, None, refl, sym, ap, subst, ◌∙◌, arith, append_assoc, append-nil}
use Rattle.std.proofs.lemmas.Bool.{false≢true}
use Rattle.std.proofs.lemmas.List.{length-map}
use Rattle.byte_io.specs.Moved.{Took, TookPart}
use Rattle.byte_io.proofs.Moved.{took_none, took_more}
use Rattle.smf_grammar.specs.Played.{PlayedFile}
use Rattle.seq_state.specs.declared.input.Input.{Input}
use Rattle.seq_state.specs.declared.log.LogEntry.{LogEntry}
use Rattle.seq_state.specs.State.{start}
use Rattle.seq_state.proofs.Lists.{flat_map-append}
use Rattle.script_text.specs.declared.reading.ScriptRead.{ScriptRead}
use Rattle.seq_session.specs.AllLogs.{clients_read, logs_of, TellMore}
use Rattle.seq_session.specs.declared.fault.SessionFault.{SessionFault}
use Rattle.seq_session.specs.declared.fault.SessionFault.TheVariants.{OutOfMemory, Read, Write, WriteListing}
use Rattle.seq_session.specs.Devices.{AreOpen, AreRead, Wrote, WroteUpTo, LogsTell, log_of_fault, log_blamed}
use Rattle.seq_session.specs.Logs.{entry_text, entries_text, log_text, skips_text}
use Rattle.seq_session.specs.declared.merged.Merged.{Merged}
use Rattle.seq_session.specs.declared.source.Script.{Script}
use Rattle.seq_session.specs.declared.source.ScriptSource.{ScriptSource}
use Rattle.seq_session.specs.Merging.{merge_of}
use Rattle.seq_session.specs.Rising.{AreRising}
use Rattle.seq_session.specs.Sessions.{FolderContents, script_reading, all_logs, listing_after, script_clients}
use Rattle.seq_session.specs.Streams.{emptied, turns, texts_after, logs_after, IsStreamed, TookBetween, WroteBetween, StopsAfter, StopsBetween, IsStoppedAt}
use Rattle.seq_session.proofs.Alone.{all_alone, logs_merged}
use Rattle.seq_session.proofs.Turns.{all_turns}

-- ---- texts

-- a log is the longer by what more entries say
pub text_more : (lines : List ℕ) (a b : List LogEntry) (r : ScriptRead) → log_text r lines (a ++ b) ≡ log_text r lines a ++ log_text (emptied r) lines b
text_more lines a b r =
    ap (λ t. skips_text r.skips ++ t) (flat_map-append (entry_text r.client lines) a b)
    ∙ sym (append_assoc (skips_text r.skips) (entries_text r.client lines a) (entries_text r.client lines b))

-- readings with nothing in them say nothing
pub says_nothing : (reads : List ScriptRead) (lines : List ℕ) → map (λ r. []) (map emptied reads) ≡ logs_of (map emptied reads) lines []
says_nothing [] lines = refl
says_nothing (r ∷ reads) lines = ap (λ ts. [] ∷ ts) (says_nothing reads lines)

-- ---- what was written

module _ {W : Type 0} (HasTaken : W → List ℕ → Type 0) where
  -- nothing is written
  pub wrote_none : {X : Type 0} (xs : List X) (logs : List W) → length logs ≡ length xs → Wrote HasTaken logs logs (map (λ x. []) xs)
  wrote_none [] [] n = tt
  wrote_none [] (log ∷ logs) n = absurd (omega arith)
  wrote_none (x ∷ xs) [] n = absurd (omega arith)
  wrote_none (x ∷ xs) (log ∷ logs) n = (took_none HasTaken log, wrote_none xs logs (omega arith))

  pub wrote_length : (olds news : List W) (texts : List (List ℕ)) → Wrote HasTaken olds news texts → (length news ≡ length olds) × (length texts ≡ length olds)
  wrote_length [] [] [] w = (refl, refl)
  wrote_length [] [] (t ∷ texts) w = absurd w
  wrote_length [] (n ∷ news) texts w = absurd w
  wrote_length (o ∷ olds) [] texts w = absurd w
  wrote_length (o ∷ olds) (n ∷ news) [] w = absurd w
  wrote_length (o ∷ olds) (n ∷ news) (t ∷ texts) w =
      let rest : (length news ≡ length olds) × (length texts ≡ length olds) = wrote_length olds news texts w.1 in
      (ap suc rest.0, ap suc rest.1)

  module _ (lines : List ℕ) (a b : List LogEntry) where
    -- what more entries say is written behind what was
    pub wrote_more : (reads : List ScriptRead) (olds mids news : List W) → Wrote HasTaken olds mids (logs_of reads lines a) → Wrote HasTaken mids news (logs_of (map emptied reads) lines b) →
        Wrote HasTaken olds news (logs_of reads lines (a ++ b))
    wrote_more [] [] [] [] w v = tt
    wrote_more [] [] [] (n ∷ news) w v = absurd v
    wrote_more [] [] (m ∷ mids) news w v = absurd w
    wrote_more [] (o ∷ olds) [] news w v = absurd w
    wrote_more [] (o ∷ olds) (m ∷ mids) news w v = absurd w
    wrote_more (r ∷ reads) [] [] news w v = absurd w
    wrote_more (r ∷ reads) [] (m ∷ mids) news w v = absurd w
    wrote_more (r ∷ reads) (o ∷ olds) [] news w v = absurd w
    wrote_more (r ∷ reads) (o ∷ olds) (m ∷ mids) [] w v = absurd v
    wrote_more (r ∷ reads) (o ∷ olds) (m ∷ mids) (n ∷ news) w v = (
      subst (λ t. Took HasTaken o t n) (sym (text_more lines a b r)) (took_more HasTaken o m n (log_text r lines a) (log_text (emptied r) lines b) w.0 v.0),
      wrote_more reads olds mids news w.1 v.1,
    )

    took_between : (r : ScriptRead) (o m n : W) → Took HasTaken o (log_text r lines a) m → TookPart HasTaken m (log_text (emptied r) lines b) n →
        TookBetween HasTaken o (log_text r lines a) (log_text r lines (a ++ b)) n
    took_between r o m n w part = record {
      gained = part.gained;
      missing = part.missing;
      took = took_more HasTaken o m n (log_text r lines a) part.gained w part.took;
      split = text_more lines a b r ∙ ap (λ t. log_text r lines a ++ t) part.split;
    }

    -- and where it stops at a log
    pub wrote_between : (client : ℕ) (clients : List ℕ) (reads : List ScriptRead) (olds mids news : List W) → Wrote HasTaken olds mids (logs_of reads lines a) →
        WroteUpTo HasTaken client clients mids news (logs_of (map emptied reads) lines b) → WroteBetween HasTaken client clients olds news (logs_of reads lines a) (logs_of reads lines (a ++ b))
    wrote_between client [] reads olds mids news w u = absurd u
    wrote_between client (c ∷ clients) reads olds [] news w u = absurd u
    wrote_between client (c ∷ clients) reads olds (m ∷ mids) [] w u = absurd u
    wrote_between client (c ∷ clients) [] olds (m ∷ mids) (n ∷ news) w u = absurd u
    wrote_between client (c ∷ clients) (r ∷ reads) [] (m ∷ mids) (n ∷ news) w u = absurd w
    wrote_between client (c ∷ clients) (r ∷ reads) (o ∷ olds) (m ∷ mids) (n ∷ news) w u = elim u [
      | inl stop ↦ inl (stop.0, (took_between r o m n w.0 stop.1.0, subst (λ xs. Wrote HasTaken olds xs (logs_of reads lines a)) (sym stop.1.1) w.1))
      | inr on ↦ inr (
        subst (λ t. Took HasTaken o t n) (sym (text_more lines a b r)) (took_more HasTaken o m n (log_text r lines a) (log_text (emptied r) lines b) w.0 on.0),
        wrote_between client clients reads olds mids news w.1 on.1,
      )
    ]

  -- where it stops at a log before which nothing was written
  pub wrote_first : (client : ℕ) (clients : List ℕ) (reads : List ScriptRead) (texts : List (List ℕ)) (olds news : List W) → length texts ≡ length reads → WroteUpTo HasTaken client clients olds news texts →
      length olds ≡ length texts → WroteBetween HasTaken client clients olds news (map (λ r. []) reads) texts
  wrote_first client [] reads texts olds news n u k = absurd u
  wrote_first client (c ∷ clients) reads texts [] news n u k = absurd u
  wrote_first client (c ∷ clients) reads texts (o ∷ olds) [] n u k = absurd u
  wrote_first client (c ∷ clients) reads [] (o ∷ olds) (w ∷ news) n u k = absurd u
  wrote_first client (c ∷ clients) [] (t ∷ texts) (o ∷ olds) (w ∷ news) n u k = absurd (omega arith)
  wrote_first client (c ∷ clients) (r ∷ reads) (t ∷ texts) (o ∷ olds) (w ∷ news) n u k = elim u [
    | inl stop ↦ inl (
      stop.0,
      (
        record { gained = stop.1.0.gained; missing = stop.1.0.missing; took = stop.1.0.took; split = stop.1.0.split },
        subst (λ xs. Wrote HasTaken olds xs (map (λ x. []) reads)) (sym stop.1.1) (wrote_none reads olds (omega arith)),
      ),
    )
    | inr on ↦ inr (on.0, wrote_first client clients reads texts olds news (omega arith) on.1 (omega arith))
  ]

-- logs of which none is blamed are open
pub open_told : {W : Type 0} (failed eager : W → Bool) (clients : List ℕ) (logs : List W) → LogsTell failed eager None clients logs → AreOpen failed logs
open_told failed eager [] [] t = tt
open_told failed eager [] (log ∷ logs) t = absurd t
open_told failed eager (c ∷ clients) [] t = absurd t
open_told failed eager (c ∷ clients) (log ∷ logs) t = (not_failed (failed log) refl t.0.told, open_told failed eager clients logs t.1)
  where
    not_failed : (b : Bool) → failed log ≡ b → (failed log ≡ true → false ≡ true) → failed log ≡ false
    not_failed true e f = absurd (false≢true (f e))
    not_failed false e f = e

-- ---- turn by turn

module _ {W : Type 0} (HasTaken : W → List ℕ → Type 0) (reads : List ScriptRead) (lines : List ℕ) (files : List PlayedFile) (inputs : List Input) (end : ℕ) where
  abbrev happened : ℕ → List LogEntry
  happened n = turns files start 0 inputs end n

  abbrev after : ℕ → List (List ℕ)
  after n = texts_after reads lines files inputs end n

  -- The logs have what they say after some turn of the run, and the texts what more was said up to this one.
  pub record AreHeld (olds now : List W) (i : ℕ) (texts : List (List ℕ)) : Type 0 where
    pub turn : ℕ
    pub within : turn ≤ i
    pub held : List LogEntry
    pub told : happened turn ++ held ≡ happened i
    pub texts_are : texts ≡ logs_of (map emptied reads) lines held
    pub wrote : Wrote HasTaken olds now (after (suc turn))

  pub none_held : (olds now : List W) (texts : List (List ℕ)) (i : ℕ) → texts ≡ map (λ r. []) (map emptied reads) → Wrote HasTaken olds now (after (suc i)) → AreHeld olds now i texts
  none_held olds now texts i empty wrote = record {
    turn = i;
    within = omega arith;
    held = [];
    told = append-nil (happened i);
    texts_are = empty ∙ says_nothing reads lines;
    wrote = wrote;
  }

  -- a turn more is held
  pub held_more : (silent : List ScriptRead) → silent ≡ map emptied reads → (olds now : List W) (i : ℕ) (texts news : List (List ℕ)) (more : List LogEntry) → AreHeld olds now i texts →
      happened (i + 1) ≡ happened i ++ more → TellMore silent lines more texts news → AreHeld olds now (i + 1) news
  held_more silent same olds now i texts news more was next tells = record {
    turn = was.turn;
    within = let l = was.within in omega (arith, l);
    held = was.held ++ more;
    told = sym (append_assoc (happened was.turn) was.held more) ∙ ap (λ es. es ++ more) was.told ∙ sym next;
    texts_are = subst (λ rs. TellMore rs lines more texts news) same tells was.held was.texts_are;
    wrote = was.wrote;
  }

  -- what is held is written
  pub held_written : (olds now news : List W) (i : ℕ) (texts : List (List ℕ)) → AreHeld olds now i texts → Wrote HasTaken now news texts → Wrote HasTaken olds news (after (suc i))
  held_written olds now news i texts was w =
      subst (λ es. Wrote HasTaken olds news (logs_of reads lines es)) was.told
      (wrote_more HasTaken lines (happened was.turn) was.held reads olds now news was.wrote (subst (Wrote HasTaken now news) was.texts_are w))

  -- or not all of it
  pub held_part : (client : ℕ) (clients : List ℕ) (olds now news : List W) (i : ℕ) (texts : List (List ℕ)) → AreHeld olds now i texts → WroteUpTo HasTaken client clients now news texts →
      StopsBetween HasTaken after client clients olds news
  held_part client clients olds now news i texts was u = record {
    fewer = suc was.turn;
    more = suc i;
    order = let l = was.within in omega (arith, l);
    logs =
        subst (λ es. WroteBetween HasTaken client clients olds news (after (suc was.turn)) (logs_of reads lines es)) was.told
        (wrote_between HasTaken lines (happened was.turn) was.held client clients reads olds now news was.wrote (subst (WroteUpTo HasTaken client clients now news) was.texts_are u));
  }

  -- where a fault comes before more is written
  pub held_stops : (olds now : List W) (i : ℕ) (texts : List (List ℕ)) → AreHeld olds now i texts → StopsAfter HasTaken after olds now
  held_stops olds now i texts was = record { turn = suc was.turn; logs = was.wrote }

  -- what a fault of a write leaves
  pub part_stops : (e : SessionFault) (clients : List ℕ) (olds now news : List W) (i : ℕ) (texts : List (List ℕ)) → AreHeld olds now i texts → IsSome (log_of_fault e) → IfSome (log_of_fault e) (λ k. WroteUpTo HasTaken k clients now news texts) →
      IsStoppedAt HasTaken after clients olds news e
  part_stops (Write client) clients olds now news i texts was some part = held_part client clients olds now news i texts was part
  part_stops OutOfMemory clients olds now news i texts was some part = cc
  part_stops (Read client) clients olds now news i texts was some part = cc
  part_stops WriteListing clients olds now news i texts was some part = cc

  -- before anything is written
  pub none_stops : (logs : List W) → length logs ≡ length reads → StopsAfter HasTaken after logs logs
  none_stops logs e = record { turn = 0; logs = wrote_none HasTaken reads logs e }

  pub first_stops : (e : SessionFault) (clients : List ℕ) (olds news : List W) → length olds ≡ length reads → IsSome (log_of_fault e) → IfSome (log_of_fault e) (λ k. WroteUpTo HasTaken k clients olds news (logs_of reads lines [])) →
      IsStoppedAt HasTaken after clients olds news e
  first_stops (Write client) clients olds news count some part = record {
    fewer = 0;
    more = 1;
    order = omega arith;
    logs = wrote_first HasTaken client clients reads (logs_of reads lines []) olds news (length-map reads (λ r. log_text r lines [])) part (count ∙ sym (length-map reads (λ r. log_text r lines [])));
  }
  first_stops OutOfMemory clients olds news count some part = cc
  first_stops (Read client) clients olds news count some part = cc
  first_stops WriteListing clients olds news count some part = cc

-- out of memory is a fault for which this holds
pub for_memory : {T : Type 0} (r : Result T SessionFault) (Q : SessionFault → Type 0) → IfErr r (λ e. e ≡ OutOfMemory) → Q OutOfMemory → IfErr r Q
for_memory (Ok x) Q is q = tt
for_memory (Err e) Q is q = subst Q (sym is) q

pub at_fault : {T : Type 0} (r : Result T SessionFault) (P : Option ℕ → Type 0) (Q : SessionFault → Type 0) → ((e : SessionFault) → IsSome (log_of_fault e) → P (log_of_fault e) → Q e) → IfErr r (λ e. IsSome (log_of_fault e)) →
    P (log_blamed r) → IfErr r Q
at_fault (Ok x) P Q f some part = tt
at_fault (Err e) P Q f some part = f e some part

pub on_ok : {T E : Type 0} (r : Result T E) (P Q : Type 0) → (P → Q) → OnOk r P → OnOk r Q
on_ok (Ok x) P Q f p = f p
on_ok (Err e) P Q f p = tt

pub on_any : {T E : Type 0} (r : Result T E) (P : Type 0) → P → OnOk r P
on_any (Ok x) P p = p
on_any (Err e) P p = tt

-- ---- what the texts say at all

pub record HaveSaid (reads : List ScriptRead) (lines : List ℕ) (texts : List (List ℕ)) : Type 0 where
  pub entries : List LogEntry
  pub are : texts ≡ logs_of reads lines entries

pub said_more : (reads : List ScriptRead) (lines : List ℕ) (more : List LogEntry) (olds news : List (List ℕ)) → HaveSaid reads lines olds → TellMore reads lines more olds news → HaveSaid reads lines news
said_more reads lines more olds news was tells = record { entries = was.entries ++ more; are = tells was.entries was.are }

pub said_nothing : (reads : List ScriptRead) (lines : List ℕ) (texts : List (List ℕ)) → reads ≡ map emptied reads → texts ≡ map (λ r. []) reads → HaveSaid reads lines texts
said_nothing reads lines texts silent empty = record {
  entries = [];
  are = empty ∙ ap (map (λ r. [])) silent ∙ says_nothing reads lines ∙ ap (λ rs. logs_of rs lines []) (sym silent);
}

pub said_count : {X : Type 0} (f : X → List ℕ) (xs : List X) (reads : List ScriptRead) (lines : List ℕ) (n : ℕ) → HaveSaid reads lines (map f xs) → length reads ≡ n → length xs ≡ n
said_count f xs reads lines n was e = sym (length-map xs f) ∙ ap length was.are ∙ length-map reads (λ r. log_text r lines was.entries) ∙ e

abbrev pub none : List ℕ
none = []

-- as many texts with nothing in them
pub all_empty : {X Y : Type 0} (xs : List X) (ys : List Y) → length xs ≡ length ys → map (λ x. none) xs ≡ map (λ y. none) ys
all_empty [] [] e = refl
all_empty [] (y ∷ ys) e = absurd (omega arith)
all_empty (x ∷ xs) [] e = absurd (omega arith)
all_empty (x ∷ xs) (y ∷ ys) e = ap (λ ts. none ∷ ts) (all_empty xs ys (omega arith))

-- what has nothing in it stays so
pub emptied_twice : (reads : List ScriptRead) → map emptied reads ≡ map emptied (map emptied reads)
emptied_twice [] = refl
emptied_twice (r ∷ reads) = ap (λ rs. emptied r ∷ rs) (emptied_twice reads)

pub emptied_clients : (reads : List ScriptRead) → clients_read (map emptied reads) ≡ clients_read reads
emptied_clients [] = refl
emptied_clients (r ∷ reads) = ap (λ cs. r.client ∷ cs) (emptied_clients reads)

-- ---- a whole session

module _ (folder : FolderContents) (end : ℕ) (scripts : List Script) where
  -- after the last turn the logs are whole
  pub last_logs : (reads : List ScriptRead) (merged : Merged) → reads ≡ map (script_reading folder end) scripts → merged ≡ merge_of (map (script_reading folder end) scripts) →
      texts_after reads merged.lines folder.files merged.inputs end (length merged.inputs + 2) ≡ all_logs folder end scripts
  last_logs reads merged r m =
      ap (texts_after reads merged.lines folder.files merged.inputs end) (let e : length merged.inputs + 2 ≡ suc (suc (length merged.inputs)) = omega arith in e)
      ∙ ap (logs_of reads merged.lines) (all_turns folder.files end start 0 merged.inputs) ∙ logs_merged folder end scripts reads merged r m

  -- the logs of what was merged are those of the scripts
  pub logs_stopped : {W : Type 0} (HasTaken : W → List ℕ → Type 0) (reads : List ScriptRead) (merged : Merged) (olds news : List W) (e : SessionFault) → reads ≡ map (script_reading folder end) scripts →
      merged ≡ merge_of (map (script_reading folder end) scripts) → IsStoppedAt HasTaken (texts_after reads merged.lines folder.files merged.inputs end) (script_clients scripts) olds news e →
      IsStoppedAt HasTaken (logs_after folder end scripts) (script_clients scripts) olds news e
  logs_stopped HasTaken reads merged olds news e r m is =
      subst (λ (n : Merged). IsStoppedAt HasTaken (texts_after (map (script_reading folder end) scripts) n.lines folder.files n.inputs end) (script_clients scripts) olds news e) m
      (subst (λ rs. IsStoppedAt HasTaken (texts_after rs merged.lines folder.files merged.inputs end) (script_clients scripts) olds news e) r is)

  pub made_stream : {R W : Type 0} (HasLeft : R → List ℕ → Type 0) (HasTaken : W → List ℕ → Type 0) (sources rests : List (ScriptSource R)) (olds news : List W) (r : Result (List ℕ) SessionFault) → AreRead HasLeft sources rests scripts →
      AreRising (script_clients scripts) → OnOk r (Wrote HasTaken olds news (all_logs folder end scripts)) → IfOk r (λ l. l ≡ listing_after folder end scripts) → IfOk r (IsStreamed HasLeft HasTaken folder end sources rests olds news)
  made_stream HasLeft HasTaken sources rests olds news (Ok l) read rise wrote listed = record {
    scripts = scripts;
    read = read;
    logs = wrote;
    listed = listed;
    isolated = all_alone folder end HasTaken scripts rise olds news wrote;
  }
  made_stream HasLeft HasTaken sources rests olds news (Err e) read rise wrote listed = tt
