-- Representation: The logs of all clients together.
use Rattle.std.specs.Prelude.{◌≡◌, ◌==◌, ◌<◌, ◌+◌, ℕ, zero, suc, List, [], ◌∷◌, ◌++◌, map, get_or}
use Rattle.std.specs.Coded.{×_prop, Unit-prop, le_prop}
use Rattle.std.specs.List.{position_or_len}
use Rattle.node_table.specs.Numbers.{first_client, most_clients}
use Rattle.seq_state.specs.declared.log.LogEntry.{LogEntry}
use Rattle.seq_state.specs.declared.log.LogEntry.TheVariants.{Delivered, Replied}
use Rattle.script_text.specs.declared.reading.ScriptRead.{ScriptRead}
use Rattle.seq_session.specs.Logs.{log_text}
use Rattle.seq_session.specs.Rising.{RiseFrom, AreRising}

-- the clients of readings
abbrev pub clients_read : List ScriptRead → List ℕ
clients_read reads = map (λ r. r.client) reads

-- there is one way in which numbers rise, as it is asked of what a struct keeps
pub RiseFrom-prop : (low : ℕ) (clients : List ℕ) → IsProp (RiseFrom low clients)
RiseFrom-prop low [] = Unit-prop
RiseFrom-prop low (client ∷ clients) = ×_prop le_prop (RiseFrom-prop client clients)

pub AreRising-prop : (clients : List ℕ) → IsProp (AreRising clients)
AreRising-prop [] = Unit-prop
AreRising-prop (client ∷ clients) = RiseFrom-prop client clients

-- the client that hears of an entry
abbrev pub hearer : LogEntry → ℕ
hearer (Delivered d) = d.target.client
hearer (Replied place moment client reply) = client

-- a table has where each client's script stands, by the clients' rows; past the last where there
-- is none
abbrev pub AreSeats : List ScriptRead → List ℕ → Type 0
AreSeats reads seats =
    (k : ℕ) → k < most_clients
    → get_or seats k 0 ≡ position_or_len (λ r. r.client == (first_client + k)) reads

-- the logs of all clients where these entries happen; `lines` are those of the inputs
abbrev pub logs_of : List ScriptRead → List ℕ → List LogEntry → List (List ℕ)
logs_of reads lines entries = map (λ r. log_text r lines entries) reads

-- texts that were the logs of any entries are the logs of these with more behind them
abbrev pub TellMore : List ScriptRead → List ℕ → List LogEntry → List (List ℕ) → List (List ℕ)
    → Type 0
TellMore reads lines more olds news =
    (entries : List LogEntry) → olds ≡ logs_of reads lines entries
    → news ≡ logs_of reads lines (entries ++ more)

-- the texts with more at the end of one of them, if it is there
abbrev pub with_text : List (List ℕ) → ℕ → List ℕ → List (List ℕ)
with_text [] seat more = []
with_text (t ∷ texts) zero more = (t ++ more) ∷ texts
with_text (t ∷ texts) (suc seat) more = t ∷ with_text texts seat more
