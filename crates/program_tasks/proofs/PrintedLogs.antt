-- Logs that are printed one by one.
use Rattle.std.proofs.Common.{◌≡◌, ℕ, List, ◌∷◌, ◌++◌, map, Option, Some, None, sym, ap, ◌∙◌, subst}
use Rattle.byte_io.specs.Moved.{Took, TookPart}
use Rattle.byte_io.proofs.Moved.{took_more}
use Rattle.log_forms.specs.Forms.{log_in}
use Rattle.log_forms.specs.declared.form.LogForm.{LogForm}
use Rattle.program_tasks.specs.declared.words.ScriptWord.{ScriptWord}
use Rattle.program_tasks.specs.LogsPrinted.{headed_log, logs_text, logs_in, printed_text}
use Rattle.program_tasks.proofs.Fronts.{gained_before, gained_after}

module _ {W T : Type 0} (HasTaken : W → List ℕ → Type 0) (text : T → List ℕ) (scripts more_scripts : List ScriptWord) (logs more_logs : List T) (s : ScriptWord) (l : T) (old mid new : W)
    (are_s : scripts ≡ s ∷ more_scripts) (are_l : logs ≡ l ∷ more_logs) where
  -- the first log, and those after it
  first_log : logs_text scripts (map text logs) ≡ headed_log s.client (text l) ++ logs_text more_scripts (map text more_logs)
  first_log = ap (λ ss. logs_text ss (map text logs)) are_s ∙ ap (λ ls. logs_text (s ∷ more_scripts) (map text ls)) are_l

  pub logs_printed : Took HasTaken old (headed_log s.client (text l)) mid → Took HasTaken mid (logs_text more_scripts (map text more_logs)) new → Took HasTaken old (logs_text scripts (map text logs)) new
  logs_printed first rest = subst (λ t. Took HasTaken old t new) (sym first_log) (took_more HasTaken old mid new (headed_log s.client (text l)) (logs_text more_scripts (map text more_logs)) first rest)

  pub first_stops : TookPart HasTaken old (headed_log s.client (text l)) new → TookPart HasTaken old (logs_text scripts (map text logs)) new
  first_stops g = subst (λ t. TookPart HasTaken old t new) (sym first_log) (gained_before HasTaken old new (headed_log s.client (text l)) (logs_text more_scripts (map text more_logs)) g)

  pub later_stops : Took HasTaken old (headed_log s.client (text l)) mid → TookPart HasTaken mid (logs_text more_scripts (map text more_logs)) new → TookPart HasTaken old (logs_text scripts (map text logs)) new
  later_stops first g = subst (λ t. TookPart HasTaken old t new) (sym first_log) (gained_after HasTaken old mid new (headed_log s.client (text l)) (logs_text more_scripts (map text more_logs)) first g)

-- ---- in a form

module _ {W T : Type 0} (HasTaken : W → List ℕ → Type 0) (form : LogForm) (text : T → List ℕ) (scripts more_scripts : List ScriptWord) (logs more_logs : List T) (s : ScriptWord) (l : T) (old mid new : W)
    (are_s : scripts ≡ s ∷ more_scripts) (are_l : logs ≡ l ∷ more_logs) where
  first_formed : logs_in form scripts (map text logs) ≡ log_in form s.client (text l) ++ logs_in form more_scripts (map text more_logs)
  first_formed = ap (λ ss. logs_in form ss (map text logs)) are_s ∙ ap (λ ls. logs_in form (s ∷ more_scripts) (map text ls)) are_l

  pub formed_printed : Took HasTaken old (log_in form s.client (text l)) mid → Took HasTaken mid (logs_in form more_scripts (map text more_logs)) new → Took HasTaken old (logs_in form scripts (map text logs)) new
  formed_printed first rest = subst (λ t. Took HasTaken old t new) (sym first_formed) (took_more HasTaken old mid new (log_in form s.client (text l)) (logs_in form more_scripts (map text more_logs)) first rest)

-- ---- and then the listing

module _ {W : Type 0} (HasTaken : W → List ℕ → Type 0) (scripts : List ScriptWord) (logs : List (List ℕ)) (old mid new : W) where
  pub stops_early : (listing : Option (List ℕ)) → TookPart HasTaken old (logs_text scripts logs) new → TookPart HasTaken old (printed_text scripts logs listing) new
  stops_early None g = g
  stops_early (Some listing) g = gained_before HasTaken old new (logs_text scripts logs) listing g

  pub listing_stops : (listing : List ℕ) (l : Option (List ℕ)) → l ≡ Some listing → Took HasTaken old (logs_text scripts logs) mid → TookPart HasTaken mid listing new → TookPart HasTaken old (printed_text scripts logs l) new
  listing_stops listing l is t g =
      subst (λ (o : Option (List ℕ)). TookPart HasTaken old (printed_text scripts logs o) new) (sym is) (gained_after HasTaken old mid new (logs_text scripts logs) listing t g)

  pub listing_printed : (listing : List ℕ) (l : Option (List ℕ)) → l ≡ Some listing → Took HasTaken old (logs_text scripts logs) mid → Took HasTaken mid listing new → Took HasTaken old (printed_text scripts logs l) new
  listing_printed listing l is t g =
      subst (λ (o : Option (List ℕ)). Took HasTaken old (printed_text scripts logs o) new) (sym is) (took_more HasTaken old mid new (logs_text scripts logs) listing t g)
