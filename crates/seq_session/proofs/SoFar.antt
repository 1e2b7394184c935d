-- The logs of a run, input by input.
use Rattle.std.proofs.Common.{◌≡◌, ℕ, ◌+◌, ◌<◌, ◌≤◌, List, [], ◌∷◌, ◌++◌, map, length, take, drop, get_or, refl, sym, ap, subst, ◌∙◌, append_assoc}
use Rattle.seq_state.specs.declared.input.Input.{Input}
use Rattle.seq_state.specs.declared.log.Delivery.{Delivery}
use Rattle.seq_state.specs.declared.log.LogEntry.{LogEntry}
use Rattle.seq_state.specs.declared.log.LogEntry.TheVariants.{Delivered, Replied}
use Rattle.seq_state.specs.declared.log.Reply.{Reply}
use Rattle.smf_grammar.specs.Played.{PlayedFile}
use Rattle.seq_state.specs.State.{State, start}
use Rattle.seq_state.specs.Step.{step, settle, state_after, log_from, plain}
use Rattle.seq_engine.proofs.Logs.{state_more, told_more, told_all}
use Rattle.script_text.specs.declared.reading.ScriptRead.{ScriptRead}
use Rattle.seq_session.specs.AllLogs.{logs_of, TellMore}
use Rattle.seq_session.specs.Logs.{skips_text}
use Rattle.seq_session.proofs.Seats.{no_entries}

module _ (reads : List ScriptRead) (lines : List ℕ) (files : List PlayedFile) (inputs : List Input) (end : ℕ) where
  -- the state after the first of the inputs
  abbrev stood : ℕ → State
  stood i = state_after files start (take i inputs)

  -- The texts are the logs of some entries, which with those of what is left are the entries of all.
  pub record AreSoFar (i : ℕ) (texts : List (List ℕ)) : Type 0 where
    pub entries : List LogEntry
    pub told : entries ++ log_from files (stood i) i (drop i inputs) end ≡ plain files inputs end
    pub logs : texts ≡ logs_of reads lines entries

  pub first_so_far : (texts : List (List ℕ)) → texts ≡ map (λ r. skips_text r.skips) reads → AreSoFar 0 texts
  first_so_far texts started = record { entries = []; told = refl; logs = started ∙ no_entries reads lines }

  pub next_so_far : (i : ℕ) (x : Input) (texts news : List (List ℕ)) (ds : List Delivery) (r : Reply) → i < length inputs → x ≡ get_or inputs i x → AreSoFar i texts →
      ds ≡ (step files (stood i) x).delivered → r ≡ (step files (stood i) x).reply → TellMore reads lines (map Delivered ds ++ Replied i x.moment x.actor r ∷ []) texts news → AreSoFar (i + 1) news
  next_so_far i x texts news ds r l at was e f more =
      let y : Input = get_or inputs i x in
      let added : List LogEntry = map Delivered ds ++ Replied i y.moment y.actor r ∷ [] in
      let all : List LogEntry = was.entries ++ added in
      record {
        entries = all;
        told =
            ap (λ t. all ++ log_from files t (i + 1) (drop (i + 1) inputs) end) (state_more files inputs i x l)
            ∙ told_more files (stood i) inputs end i x l was.entries all ds r was.told
            (e ∙ ap (λ (z : Input). (step files (stood i) z).delivered) at)
            (f ∙ ap (λ (z : Input). (step files (stood i) z).reply) at)
            (sym (append_assoc was.entries (map Delivered ds) (Replied i y.moment y.actor r ∷ [])));
        logs = subst (λ (z : Input). TellMore reads lines (map Delivered ds ++ Replied i z.moment z.actor r ∷ []) texts news) at more was.entries was.logs;
      }

  pub all_at_end : (i : ℕ) (texts news : List (List ℕ)) (ds : List Delivery) → length inputs ≤ i → AreSoFar i texts → ds ≡ (settle (stood i) end).delivered →
      TellMore reads lines (map Delivered ds) texts news → news ≡ logs_of reads lines (plain files inputs end)
  all_at_end i texts news ds l was e more =
      more was.entries was.logs
      ∙ ap (λ xs. logs_of reads lines (was.entries ++ map Delivered xs)) e
      ∙ ap (logs_of reads lines) (told_all files (stood i) inputs end i was.entries l was.told)
