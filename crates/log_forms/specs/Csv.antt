-- Definition: Entries as rows of CSV (RFC 4180) that end with a line feed.
use Rattle.std.specs.Prelude.{ℕ, ◌==◌, Bool, ◌||◌, if◌then◌else◌, List, [], ◌∷◌, ◌++◌, Option, Some, None, codes}
use Rattle.std.specs.List.{flat_map, list_any}
use Rattle.std.specs.Fmt.{decimal}
use Rattle.std.specs.Str.{byte}
use Rattle.text_forms.specs.Hex.{in_hex}
use Rattle.log_forms.specs.declared.kind.Shape.{Shape}
use Rattle.log_forms.specs.Kinds.{kind_of, kind_name, shape_of, status_in, first_data, second_data, channel_from_1}
use Rattle.log_forms.specs.Entries.{Arrival, Entry, Outcome, Skip, Delivery, Received, Reply, Listed, Done, Count, Queue, Pools, Refused}

-- ---- rows

-- fields with commas between
abbrev pub row : List (List ℕ) → List ℕ
row [] = codes "\n"
row (field ∷ []) = field ++ codes "\n"
row (field ∷ next ∷ fields) = field ++ codes "," ++ row (next ∷ fields)

-- the names of the columns
abbrev pub head : List ℕ
head = row (
    codes "entry" ∷ codes "client" ∷ codes "line" ∷ codes "moment" ∷ codes "port"
    ∷ codes "outcome" ∷ codes "detail" ∷ codes "kind" ∷ codes "channel"
    ∷ codes "data1" ∷ codes "data2" ∷ codes "bytes" ∷ [])

-- ---- fields

abbrev pub is_quote : ℕ → Bool
is_quote b = b == byte "\""

abbrev pub needs_quotes : ℕ → Bool
needs_quotes b = is_quote b || ((b == byte ",") || ((b == byte "\n") || b == byte "\r"))

abbrev pub doubled : ℕ → List ℕ
doubled b = if is_quote b then codes "\"\"" else b ∷ []

-- a text in quotation marks where it needs them; those within are doubled
abbrev pub field : List ℕ → List ℕ
field text =
    if list_any needs_quotes text then codes "\"" ++ flat_map doubled text ++ codes "\"" else text

abbrev pub maybe : Option ℕ → List ℕ
maybe None = []
maybe (Some n) = decimal n

-- ---- entries; the number of the client is a text like the others

-- the columns from the kind on
abbrev pub message_columns : Shape → List ℕ → List (List ℕ)
message_columns m bytes =
    kind_name (kind_of (status_in m)) ∷ maybe (channel_from_1 (status_in m))
    ∷ maybe (first_data m) ∷ maybe (second_data m) ∷ bytes ∷ []

abbrev pub no_message : List (List ℕ)
no_message = [] ∷ [] ∷ [] ∷ [] ∷ [] ∷ []

abbrev pub csv_arrival : List ℕ → List ℕ → Arrival → List ℕ
csv_arrival entry client a = row (entry ∷ client ∷ [] ∷ a.moment ∷ a.port ∷ [] ∷ []
    ∷ message_columns (shape_of a.message) (in_hex a.message))

abbrev pub outcome_word : Outcome → List ℕ
outcome_word (Refused n name) = codes "refused"
outcome_word _ = codes "ok"

-- what stands behind that word on the line
abbrev pub detail : Outcome → List ℕ
detail Done = []
detail (Count n) = n
detail (Queue state tick nanos) = state ++ codes " " ++ tick ++ codes " " ++ nanos
detail (Pools waiting lost used) =
    codes "waiting " ++ waiting ++ codes " lost " ++ lost ++ codes " used " ++ used
detail (Refused n name) = n ++ codes " " ++ name

-- the columns from the outcome on
abbrev pub outcome_columns : Outcome → List (List ℕ)
outcome_columns outcome = outcome_word outcome ∷ detail outcome ∷ no_message

abbrev pub csv_reply : List ℕ → List ℕ → List ℕ → Outcome → List ℕ
csv_reply client moment line outcome =
    row (codes "reply" ∷ client ∷ line ∷ moment ∷ [] ∷ outcome_columns outcome)

abbrev pub csv_skip : List ℕ → List ℕ → List ℕ → List ℕ
csv_skip client line reason =
    row (codes "skip" ∷ client ∷ line ∷ [] ∷ [] ∷ [] ∷ reason ∷ no_message)

abbrev pub csv_listed : List ℕ → List ℕ
csv_listed text = row (codes "list" ∷ [] ∷ [] ∷ [] ∷ [] ∷ [] ∷ field text ∷ no_message)

abbrev pub csv_entry : List ℕ → Entry → List ℕ
csv_entry client (Skip line reason) = csv_skip client line reason
csv_entry client (Delivery a) = csv_arrival (codes "delivery") client a
csv_entry client (Received a) = csv_arrival (codes "received") client a
csv_entry client (Reply moment line outcome) = csv_reply client moment line outcome
csv_entry client (Listed text) = csv_listed text
