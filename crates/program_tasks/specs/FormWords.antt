-- Definition: The words that name the form of logs.
use Rattle.std.specs.Prelude.{◌≢◌, ℕ, List, codes}
use Rattle.log_forms.specs.declared.form.LogForm.{LogForm}
use Rattle.log_forms.specs.declared.form.LogForm.TheVariants.{Text, Json, Csv}

-- the word that names a form
abbrev pub form_name : LogForm → List ℕ
form_name Text = codes "text"
form_name Json = codes "json"
form_name Csv = codes "csv"

-- the word names no form
abbrev pub IsNoForm : List ℕ → Type 0
IsNoForm word = (form : LogForm) → form_name form ≢ word
