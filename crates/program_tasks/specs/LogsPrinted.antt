-- Definition: What is printed of a run.
use Rattle.std.specs.Prelude.{ℕ, Bool, true, false, List, [], ◌∷◌, ◌++◌, Option, Some, None, codes}
use Rattle.std.specs.Fmt.{decimal}
use Rattle.log_forms.specs.Forms.{log_in, listing_in, head_of}
use Rattle.log_forms.specs.declared.form.LogForm.{LogForm}
use Rattle.log_forms.specs.declared.form.LogForm.TheVariants.{Text}
use Rattle.program_tasks.specs.declared.words.ScriptWord.{ScriptWord}
use Rattle.tool_text.specs.declared.fault.ToolFault.{ToolFault}
use Rattle.tool_text.specs.declared.fault.ToolFault.TheVariants.{OutOfMemory, Write}

-- the line before a client's log
abbrev pub client_heading : ℕ → List ℕ
client_heading client = codes "client " ++ decimal client ++ 10 ∷ []

-- a client's number and its log
abbrev pub headed_log : ℕ → List ℕ → List ℕ
headed_log client log = client_heading client ++ log

-- the number of each script's client and the log in the same place
abbrev pub logs_text : List ScriptWord → List (List ℕ) → List ℕ
logs_text [] logs = []
logs_text (s ∷ scripts) [] = []
logs_text (s ∷ scripts) (l ∷ logs) = headed_log s.client l ++ logs_text scripts logs

-- and then the listing where there is one
abbrev pub printed_text : List ScriptWord → List (List ℕ) → Option (List ℕ) → List ℕ
printed_text scripts logs None = logs_text scripts logs
printed_text scripts logs (Some listing) = logs_text scripts logs ++ listing

-- ---- in a form that is not text

-- the clients' logs in a form, one after another
abbrev pub logs_in : LogForm → List ScriptWord → List (List ℕ) → List ℕ
logs_in form [] logs = []
logs_in form (s ∷ scripts) [] = []
logs_in form (s ∷ scripts) (l ∷ logs) = log_in form s.client l ++ logs_in form scripts logs

-- the listing in a form, where there is one
abbrev pub listing_there : LogForm → Option (List ℕ) → List ℕ
listing_there form None = []
listing_there form (Some listing) = listing_in form listing

-- what is printed of a run in a form: as text the logs below their clients' numbers, and else the
-- logs below what stands before all
abbrev pub printed_in : LogForm → List ScriptWord → List (List ℕ) → Option (List ℕ) → List ℕ
printed_in Text scripts logs listing = printed_text scripts logs listing
printed_in form scripts logs listing =
    head_of form ++ (logs_in form scripts logs ++ listing_there form listing)

-- the listing, where it is asked for
abbrev pub listing_where : Bool → List ℕ → Option (List ℕ)
listing_where true listing = Some listing
listing_where false listing = None

-- a fault of printing: never one of reading, nor of a file
abbrev pub IsOfPrinting : ToolFault → Type 0
IsOfPrinting OutOfMemory = Unit {0}
IsOfPrinting Write = Unit {0}
IsOfPrinting _ = ⊥
