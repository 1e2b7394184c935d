-- Definition: A log and a listing in each form.
use Rattle.std.specs.Prelude.{ℕ, List, []}
use Rattle.std.specs.List.{flat_map}
use Rattle.std.specs.Fmt.{decimal}
use Rattle.log_forms.specs.declared.form.LogForm.{LogForm}
use Rattle.log_forms.specs.declared.form.LogForm.TheVariants.{Text, Json, Csv}
use Rattle.log_forms.specs.Lines.{lines}
use Rattle.log_forms.specs.Entries.{entry_of}
use Rattle.log_forms.specs.Json.{json_entry, json_listed}
use Rattle.log_forms.specs.Csv.{csv_entry, csv_listed, head}

-- what a line of a client's log is as JSON, and as CSV
unfoldable pub json_line : ℕ → List ℕ → List ℕ
json_line client line = json_entry (decimal client) (entry_of line)

unfoldable pub csv_line : ℕ → List ℕ → List ℕ
csv_line client line = csv_entry (decimal client) (entry_of line)

-- the lines of a client's log in a form
abbrev pub log_in : LogForm → ℕ → List ℕ → List ℕ
log_in Text client text = text
log_in Json client text = flat_map (json_line client) (lines text)
log_in Csv client text = flat_map (csv_line client) (lines text)

-- the lines of a listing
abbrev pub listing_in : LogForm → List ℕ → List ℕ
listing_in Text text = text
listing_in Json text = flat_map json_listed (lines text)
listing_in Csv text = flat_map csv_listed (lines text)

-- what stands before all logs of a file
abbrev pub head_of : LogForm → List ℕ
head_of Text = []
head_of Json = []
head_of Csv = head
