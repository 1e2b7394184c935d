-- What is printed of a session.
use Rattle.std.proofs.Common.{◌≡◌, ℕ, Bool, true, false, List, [], ◌∷◌, ◌++◌, ◌∙◌, map, drop, get_or, refl, sym, ap}
use Rattle.std.specs.List.{flat_map}
use Rattle.seq_session.specs.declared.source.Script.{Script}
use Rattle.seq_session.specs.Sessions.{FolderContents, log_of, all_logs, listing_after}
use Rattle.program_tasks.specs.declared.words.ScriptWord.{ScriptWord}
use Rattle.log_forms.specs.Forms.{log_in, head_of}
use Rattle.log_forms.specs.declared.form.LogForm.{LogForm}
use Rattle.log_forms.specs.declared.form.LogForm.TheVariants.{Text, Json, Csv}
use Rattle.program_tasks.specs.declared.form_word.Printing.{Printing}
use Rattle.program_tasks.specs.LogsPrinted.{headed_log, logs_text, printed_text, listing_where, logs_in, listing_there, printed_in}
use Rattle.program_tasks.specs.Opened.{AreOfFiles}
use Rattle.program_tasks.specs.Printed.{headed_text, formed_logs, text_in, session_text}

module _ {R : Type 0} (IsOpened : List ℕ → R → Type 0) (HasLeft : R → List ℕ → Type 0) where
  -- the logs below their clients' numbers
  headed : (text : Script → List ℕ) (words : List ScriptWord) (logs : List (List ℕ)) (scripts : List Script) → AreOfFiles IsOpened HasLeft words scripts → logs ≡ map text scripts →
      logs_text words logs ≡ flat_map (λ s. headed_log s.client (text s)) scripts
  headed text [] logs [] o e = refl
  headed text [] logs (s ∷ scripts) o e = absurd o
  headed text (w ∷ words) logs [] o e = absurd o
  headed text (w ∷ words) [] (s ∷ scripts) o e = absurd (cc)
  headed text (w ∷ words) (l ∷ logs) (s ∷ scripts) o e =
      let first : l ≡ text s = ap (λ xs. get_or xs 0 []) e in
      let more : logs ≡ map text scripts = ap (drop 1) e in
      ap (λ c. headed_log c l ++ logs_text words logs) (sym o.0)
      ∙ ap (λ xs. headed_log s.client xs ++ logs_text words logs) first
      ∙ ap (λ xs. headed_log s.client (text s) ++ xs) (headed text words logs scripts o.2 more)

  -- the logs in a form
  formed : (form : LogForm) (text : Script → List ℕ) (words : List ScriptWord) (logs : List (List ℕ)) (scripts : List Script) → AreOfFiles IsOpened HasLeft words scripts → logs ≡ map text scripts →
      logs_in form words logs ≡ flat_map (λ s. log_in form s.client (text s)) scripts
  formed form text [] logs [] o e = refl
  formed form text [] logs (s ∷ scripts) o e = absurd o
  formed form text (w ∷ words) logs [] o e = absurd o
  formed form text (w ∷ words) [] (s ∷ scripts) o e = absurd (cc)
  formed form text (w ∷ words) (l ∷ logs) (s ∷ scripts) o e =
      let first : l ≡ text s = ap (λ xs. get_or xs 0 []) e in
      let more : logs ≡ map text scripts = ap (drop 1) e in
      ap (λ c. log_in form c l ++ logs_in form words logs) (sym o.0)
      ∙ ap (λ xs. log_in form s.client xs ++ logs_in form words logs) first
      ∙ ap (λ xs. log_in form s.client (text s) ++ xs) (formed form text words logs scripts o.2 more)

  module _ (folder : FolderContents) (end : ℕ) (words : List ScriptWord) (logs : List (List ℕ)) (scripts : List Script) (o : AreOfFiles IsOpened HasLeft words scripts) (e : logs ≡ all_logs folder end scripts) where
    -- the logs, and where it is asked for the listing behind them
    headed_as : (listing : List ℕ) (listed : Bool) → listing ≡ listing_after folder end scripts → printed_text words logs (listing_where listed listing) ≡ headed_text listed folder end scripts
    headed_as listing false is = headed (log_of folder end scripts) words logs scripts o e
    headed_as listing true is =
        ap (λ xs. logs_text words logs ++ xs) is
        ∙ ap (λ xs. xs ++ listing_after folder end scripts) (headed (log_of folder end scripts) words logs scripts o e)

    formed_as : (form : LogForm) (listing : List ℕ) (listed : Bool) → listing ≡ listing_after folder end scripts →
        head_of form ++ (logs_in form words logs ++ listing_there form (listing_where listed listing))
        ≡ head_of form ++ (formed_logs form folder end scripts ++ listing_there form (listing_where listed (listing_after folder end scripts)))
    formed_as form listing listed is =
        ap (λ xs. head_of form ++ (logs_in form words logs ++ listing_there form (listing_where listed xs))) is
        ∙ ap (λ xs. head_of form ++ (xs ++ listing_there form (listing_where listed (listing_after folder end scripts)))) (formed form (log_of folder end scripts) words logs scripts o e)

    text_as : (form : LogForm) (listing : List ℕ) (listed : Bool) → listing ≡ listing_after folder end scripts → printed_in form words logs (listing_where listed listing) ≡ text_in form listed folder end scripts
    text_as Text listing listed is = headed_as listing listed is
    text_as Json listing listed is = formed_as Json listing listed is
    text_as Csv listing listed is = formed_as Csv listing listed is

    pub printed_as : (listing : List ℕ) (printing : Printing) → listing ≡ listing_after folder end scripts →
        printed_in printing.form words logs (listing_where printing.listed listing) ≡ session_text printing folder end scripts
    printed_as listing printing is = text_as printing.form listing printing.listed is
