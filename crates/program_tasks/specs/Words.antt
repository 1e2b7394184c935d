-- Definition: The words of the command line that name scripts and ports.
use Rattle.std.specs.Prelude.{◌≡◌, ◌≤◌, ℕ, ◌==◌, nat_lt, Bool, false, if◌then◌else◌, List, [], ◌∷◌, ◌++◌, map, take, drop, length, Option, Some, None, Contains, count_by}
use Rattle.std.specs.List.{before_first, after_first, position_or_len, slice_split}
use Rattle.std.specs.Option.{option_map, option_and_then}
use Rattle.std.specs.Str.{byte}
use Rattle.node_table.specs.declared.number.PortAddr.{PortAddr}
use Rattle.script_text.specs.Numbers.{both, client_number, node_number}
use Rattle.program_tasks.specs.declared.words.ScriptWord.{ScriptWord}
use Rattle.program_tasks.specs.declared.program_fault.ProgramFault.{ProgramFault}
use Rattle.program_tasks.specs.declared.program_fault.ProgramFault.TheVariants.{OutOfMemory, NotPorts, NotAScript, TwoScripts}

-- what stands before the first such byte of a word, and what stands after it
abbrev pub parts_at : ℕ → List ℕ → Option (List ℕ × List ℕ)
parts_at sign word =
    if nat_lt (position_or_len (λ b. b == sign) word) (length word)
    then Some (before_first (λ b. b == sign) word, after_first (λ b. b == sign) word) else None

-- whose script stands where, `CLIENT=PATH`
abbrev pub script_named : List ℕ → Option (ℕ × List ℕ)
script_named word =
    option_and_then (λ c. option_map (λ n. (n, c.1)) (client_number c.0)) (parts_at (byte "=") word)

-- a port, `CLIENT:N`
abbrev pub port_named : List ℕ → Option PortAddr
port_named word =
    option_and_then
    (λ c. both (λ n p. record { client = n; port = p }) (client_number c.0) (node_number c.1))
    (parts_at (byte ":") word)

-- ---- ports

-- the ports that words name, if each of them names one
abbrev pub each_port : List (List ℕ) → Option (List PortAddr)
each_port [] = Some []
each_port (w ∷ words) = both (λ port ports. port ∷ ports) (port_named w) (each_port words)

-- ports with commas between, `CLIENT:N,CLIENT:N`: one or more
abbrev pub ports_named : List ℕ → Option (List PortAddr)
ports_named word = each_port (slice_split (λ b. b == byte ",") word)

-- out of memory, or the word names no ports
abbrev pub IsOfPorts : List ℕ → ProgramFault → Type 0
IsOfPorts word OutOfMemory = Unit {0}
IsOfPorts word (NotPorts told) = (told.now ≡ word) × (ports_named word ≡ None)
IsOfPorts word _ = ⊥

-- ---- all scripts

-- a script as it was named
abbrev pub seen_script : ScriptWord → ℕ × List ℕ
seen_script s = (s.client, s.path.now)

abbrev pub scripts_seen : List ScriptWord → List (ℕ × List ℕ)
scripts_seen scripts = map seen_script scripts

-- a script in its place among others by client, if its client has none yet
abbrev pub with_script : ℕ × List ℕ → List (ℕ × List ℕ) → Option (List (ℕ × List ℕ))
with_script s [] = Some (s ∷ [])
with_script s (t ∷ scripts) =
    if nat_lt s.0 t.0 then Some (s ∷ t ∷ scripts)
    else (if s.0 == t.0 then None else option_map (λ more. t ∷ more) (with_script s scripts))

-- a script at a place among others
abbrev pub put_at : ℕ × List ℕ → List (ℕ × List ℕ) → ℕ → List (ℕ × List ℕ)
put_at s scripts n = take n scripts ++ s ∷ drop n scripts

-- the scripts with that which a word names
abbrev pub with_word : List ℕ → List (ℕ × List ℕ) → Option (List (ℕ × List ℕ))
with_word word scripts = option_and_then (λ s. with_script s scripts) (script_named word)

-- the scripts with those that words name, in turn
abbrev pub with_words : List (List ℕ) → List (ℕ × List ℕ) → Option (List (ℕ × List ℕ))
with_words [] scripts = Some scripts
with_words (w ∷ words) scripts = option_and_then (with_words words) (with_word w scripts)

-- the scripts that words name, by client; none where a word names none, or a client has two
abbrev pub scripts_named : List (List ℕ) → Option (List (ℕ × List ℕ))
scripts_named words = with_words words []

-- ---- what is wrong with words

-- whether it is the client's
abbrev pub is_script_of : ℕ → Option (ℕ × List ℕ) → Bool
is_script_of client None = false
is_script_of client (Some script) = script.0 == client

-- whether a word names the client's script
abbrev pub names : ℕ → List ℕ → Bool
names client word = is_script_of client (script_named word)

-- out of memory, or the words name no scripts: this word names none, or two name this client's
abbrev pub IsOfWords : List (List ℕ) → ProgramFault → Type 0
IsOfWords words OutOfMemory = Unit {0}
IsOfWords words (NotAScript word) =
    (scripts_named words ≡ None) × Contains words word.now × (script_named word.now ≡ None)
IsOfWords words (TwoScripts client) =
    (scripts_named words ≡ None) × (2 ≤ count_by (names client) words)
IsOfWords words _ = ⊥

-- out of memory, or the word adds no script: it names none, or one of a client that has one
abbrev pub IsOfWord : List ℕ → List (ℕ × List ℕ) → ProgramFault → Type 0
IsOfWord word scripts OutOfMemory = Unit {0}
IsOfWord word scripts (NotAScript said) = (said.now ≡ word) × (script_named word ≡ None)
IsOfWord word scripts (TwoScripts client) =
    (path : List ℕ)
    × (script_named word ≡ Some (client, path)) × (with_script (client, path) scripts ≡ None)
IsOfWord word scripts _ = ⊥

-- out of memory, or the script's client has one
abbrev pub IsOfScript : ℕ × List ℕ → List (ℕ × List ℕ) → ProgramFault → Type 0
IsOfScript script scripts OutOfMemory = Unit {0}
IsOfScript script scripts (TwoScripts client) =
    (client ≡ script.0) × (with_script script scripts ≡ None)
IsOfScript script scripts _ = ⊥
