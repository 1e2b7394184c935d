-- Definition: What a word says: numbers, bytes, addresses and times.
use Rattle.std.specs.Prelude.{ℕ, ℤ, pos, neg_ℤ, ◌+◌, ◌-◌, ◌*◌, ◌==◌, nat_le, Bool, ◌&&◌, if◌then◌else◌, List, [], ◌∷◌, length, Option, Some, None}
use Rattle.std.specs.List.{list_all, slice_split, position_or_len}
use Rattle.std.specs.Option.{option_map, option_and_then}
use Rattle.std.specs.Str.{byte, bytes_eq}
use Rattle.midi_wire.specs.Messages.{is_message}
use Rattle.node_table.specs.Capabilities.{are_known}
use Rattle.node_table.specs.declared.caps.Caps.{Caps}
use Rattle.node_table.specs.declared.number.Addr.{Addr}
use Rattle.node_table.specs.declared.number.Node.{Node}
use Rattle.node_table.specs.declared.number.Node.TheVariants.{Port, Filter}
use Rattle.seq_state.specs.declared.input.DueAt.{DueAt}
use Rattle.seq_state.specs.declared.input.DueAt.TheVariants.{Tick, TickAfter, Nanos, NanosAfter}
use Rattle.node_table.specs.declared.number.QueueAddr.{QueueAddr}
use Rattle.script_text.specs.Words.{is_colon}

-- the value, where it passes the test
abbrev pub only_if : {A : Type 0} → (A → Bool) → Option A → Option A
only_if test None = None
only_if test (Some x) = if test x then Some x else None

-- f of both values, where both are there
abbrev pub both : {A B C : Type 0} → (A → B → C) → Option A → Option B → Option C
both f None y = None
both f (Some x) y = option_map (f x) y

-- any word says itself
abbrev pub any : List ℕ → Option (List ℕ)
any word = Some word

-- ---- numbers

abbrev pub is_digit : ℕ → Bool
is_digit b = nat_le 48 b && nat_le b 57

-- digits read on from a value
abbrev pub read_on : ℕ → List ℕ → ℕ
read_on n [] = n
read_on n (b ∷ bytes) = read_on (n * 10 + (b - 48)) bytes

-- 1 to 20 digits
abbrev pub is_number : List ℕ → Bool
is_number word = nat_le 1 (length word) && nat_le (length word) 20 && list_all is_digit word

abbrev pub number : List ℕ → Option ℕ
number word = if is_number word then Some (read_on 0 word) else None

-- a number that is not greater
abbrev pub up_to : ℕ → List ℕ → Option ℕ
up_to most word = only_if (λ n. nat_le n most) (number word)

abbrev pub u8 : List ℕ → Option ℕ
u8 word = up_to 255 word

abbrev pub u16 : List ℕ → Option ℕ
u16 word = up_to 65535 word

abbrev pub u32 : List ℕ → Option ℕ
u32 word = up_to 4294967295 word

abbrev pub u64 : List ℕ → Option ℕ
u64 word = up_to 18446744073709551615 word

-- semitones: a minus or none, and a number
abbrev pub shift : List ℕ → Option ℤ
shift [] = None
shift (b ∷ word) =
    if b == byte "-" then option_map (λ n. neg_ℤ (pos n)) (up_to 32768 word)
    else option_map pos (up_to 32767 (b ∷ word))

-- the number of a port or of a filter
abbrev pub node_number : List ℕ → Option ℕ
node_number word = up_to 15 word

abbrev pub queue_number : List ℕ → Option ℕ
queue_number word = up_to 7 word

abbrev pub client_number : List ℕ → Option ℕ
client_number word = only_if (nat_le 128) (up_to 191 word)

-- a sum of capabilities
abbrev pub caps : List ℕ → Option Caps
caps word = option_map (λ n. record { 0 = n }) (only_if are_known (up_to 255 word))

-- ---- bytes

abbrev pub hex_digit : ℕ → Option ℕ
hex_digit b =
    if is_digit b then Some (b - 48) else
    (if nat_le 65 b && nat_le b 70 then Some (b - 55) else
    (if nat_le 97 b && nat_le b 102 then Some (b - 87) else None))

-- two hexadecimal digits
abbrev pub hex_byte : List ℕ → Option ℕ
hex_byte (h ∷ l ∷ []) = both (λ x y. x * 16 + y) (hex_digit h) (hex_digit l)
hex_byte _ = None

abbrev pub hex_bytes : List (List ℕ) → Option (List ℕ)
hex_bytes [] = Some []
hex_bytes (w ∷ words) = both (λ b bytes. b ∷ bytes) (hex_byte w) (hex_bytes words)

-- one byte or more
abbrev pub some_bytes : List (List ℕ) → Option (List ℕ)
some_bytes [] = None
some_bytes (w ∷ words) = hex_bytes (w ∷ words)

-- the full bytes of one message
abbrev pub message : List (List ℕ) → Option (List ℕ)
message words = only_if is_message (some_bytes words)

-- ---- addresses

-- what stands before the one colon of a word, the letter after it, and what follows
abbrev pub parts_of : List (List ℕ) → Option (List ℕ × (ℕ × List ℕ))
parts_of (client ∷ (letter ∷ n) ∷ []) = Some (client, (letter, n))
parts_of _ = None

abbrev pub parts : List ℕ → Option (List ℕ × (ℕ × List ℕ))
parts word = parts_of (slice_split is_colon word)

abbrev pub node : ℕ → List ℕ → Option Node
node letter n =
    if letter == byte "p" then option_map Port (node_number n)
    else (if letter == byte "f" then option_map Filter (node_number n) else None)

-- `128:p0` or `128:f0`
abbrev pub addr : List ℕ → Option Addr
addr word =
    option_and_then
    (λ p. both (λ c n. record { client = c; node = n }) (client_number p.0) (node p.1.0 p.1.1))
    (parts word)

abbrev pub queue_by : ℕ → List ℕ → Option ℕ
queue_by letter n = if letter == byte "q" then queue_number n else None

-- `128:q0`
abbrev pub queue : List ℕ → Option QueueAddr
queue word =
    option_and_then
    (λ p. both (λ c q. record { client = c; queue = q }) (client_number p.0) (queue_by p.1.0 p.1.1))
    (parts word)

-- ---- times

-- in ticks or in nanoseconds, by its letter
abbrev pub due_by : ℕ → (ℕ → DueAt) → (ℕ → DueAt) → Option ℕ → Option DueAt
due_by letter ticks nanos n =
    if letter == byte "t" then option_map ticks n
    else (if letter == byte "n" then option_map nanos n else None)

-- `t480`, `t+480`, `n100` or `n+100`
abbrev pub due_word : List ℕ → Option DueAt
due_word (letter ∷ sign ∷ word) =
    if sign == byte "+" then due_by letter TickAfter NanosAfter (u64 word)
    else due_by letter Tick Nanos (u64 (sign ∷ word))
due_word _ = None

-- ---- files

-- the place of the first with this name; where there is none, one past the last
abbrev pub number_of_name : List ℕ → List (List ℕ) → ℕ
number_of_name name names = position_or_len (λ n. bytes_eq n name) names
