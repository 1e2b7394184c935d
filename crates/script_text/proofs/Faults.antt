-- A line has a fault exactly where it is unreadable.
use Rattle.std.proofs.Common.{◌≡◌, ◌↔◌, ℕ, ◌+◌, Bool, true, false, cond, IsTrue, List, [], ◌∷◌, Option, Some, None, refl, sym, ap, ◌∙◌}
use Rattle.std.specs.Prelude.{nat_lt}
use Rattle.std.proofs.lemmas.Bool.{false≢true}
use Rattle.std.specs.List.{find}
use Rattle.std.specs.Option.{is_some, is_none, option_map, option_and_then, option_or}
use Rattle.std.specs.Str.{bytes_eq}
use Rattle.midi_wire.specs.Messages.{is_message}
use Rattle.seq_state.specs.declared.input.Command.{Command}
use Rattle.seq_state.specs.declared.input.Command.TheVariants.{Open, Close, CreatePort, DeletePort, CreateFilter, SetFilter, DeleteFilter, Connect, Disconnect, Bytes, Send, CreateQueue, CreateQueueFrom, DeleteQueue, Start, Stop, Continue, Tempo, QueueStatus, Share, Schedule, Play, DropOutput, Receive, Listen, Unlisten, PoolStatus}
use Rattle.route_filter.specs.declared.rule_args.RuleArgs.{RuleArgs}
use Rattle.script_text.specs.declared.line.Fate.TheVariants.{PassedOver, Skipped, Taken}
use Rattle.script_text.specs.declared.reading.SkipReason.TheVariants.{Unreadable, PastEnd, Late}
use Rattle.script_text.specs.declared.line_faults.LineFault.{LineFault}
use Rattle.script_text.specs.declared.line_faults.LineFault.TheVariants.{Wrong, NoMessage, TooMany}
use Rattle.script_text.specs.declared.line_form.Rest.{Rest}
use Rattle.script_text.specs.declared.line_form.Rest.TheVariants as rest
use Rattle.script_text.specs.declared.word_kind.WordKind.{WordKind}
use Rattle.script_text.specs.declared.word_kind.WordKind.TheVariants as kind
use Rattle.script_text.specs.LineFaults.{says, Form, forms, rule_kinds, wrong_word, moment_fault, byte_fault, bytes_fault, end_fault, fault_from, form_fault, command_fault, timed_fault, words_fault, line_fault}
use Rattle.script_text.specs.Laws.{FaultLaw}
use Rattle.script_text.specs.Numbers.{any, only_if, both, u8, u16, u32, u64, shift, node_number, queue_number, caps, hex_byte, hex_bytes, some_bytes, message, addr, queue, due_word}
use Rattle.script_text.specs.Scripts.{timed_command, fate, fate_of, fate_in_time, is_remark}
use Rattle.script_text.specs.Table.{Reads, CommandForm, ◌▸◌, all, at_end, maybe, file, rule, table, by_word, command}
use Rattle.script_text.specs.Words.{words, without_return}

-- words say something exactly where they have no fault, at whatever place they begin
record Agree {A : Type 0} (reads : Reads A) (kinds : List WordKind) (after : Rest) : Type 0 where
  pub at : (place : ℕ) (ws : List (List ℕ)) → is_some (fault_from place kinds after ws) ≡ is_none (reads ws)

map-none : {A B : Type 0} (f : A → B) (o : Option A) → is_none o ≡ is_none (option_map f o)
map-none f None = refl
map-none f (Some x) = refl

-- ---- one word, and then more

next : {A B : Type 0} (read : List ℕ → Option A) (more : A → Reads B) (k : WordKind) (kinds : List WordKind) (after : Rest) → ((w : List ℕ) → says k w ≡ is_some (read w)) → ((x : A) → Agree (more x) kinds after) → Agree (read ▸ more) (k ∷ kinds) after
next {A} read more k kinds after h f = record { at = at }
  where
    at : (place : ℕ) (ws : List (List ℕ)) → is_some (fault_from place (k ∷ kinds) after ws) ≡ is_none ((read ▸ more) ws)
    at place [] = refl
    at place (w ∷ ws) = ap (λ b. is_some (cond b (fault_from (place + 1) kinds after ws) (Some (wrong_word place w (Wrong place k))))) (h w) ∙ go (read w)
      where
        go : (o : Option A) → is_some (cond (is_some o) (fault_from (place + 1) kinds after ws) (Some (wrong_word place w (Wrong place k)))) ≡ is_none (option_and_then (λ (t : A × List (List ℕ)). more t.0 t.1) (option_map (λ x. (x, ws)) o))
        go None = refl
        go (Some x) = (f x).at (place + 1) ws

-- ---- what may follow

nothing : {A : Type 0} (x : A) → Agree (at_end x) [] rest.Nothing
nothing x = record { at = at }
  where
    at : (place : ℕ) (ws : List (List ℕ)) → is_some (end_fault place ws) ≡ is_none (at_end x ws)
    at place [] = refl
    at place (w ∷ ws) = refl

byte_by_byte : (place : ℕ) (ws : List (List ℕ)) → is_some (byte_fault place ws) ≡ is_none (hex_bytes ws)
byte_by_byte place [] = refl
byte_by_byte place (w ∷ ws) = go (hex_byte w) (byte_by_byte (place + 1) ws)
  where
    go : (o : Option ℕ) → is_some (byte_fault (place + 1) ws) ≡ is_none (hex_bytes ws) → is_some (cond (is_some o) (byte_fault (place + 1) ws) (Some (wrong_word place w (Wrong place kind.Byte)))) ≡ is_none (both (λ b bytes. b ∷ bytes) o (hex_bytes ws))
    go None h = refl
    go (Some b) h = h ∙ map-none (λ bytes. b ∷ bytes) (hex_bytes ws)

some : (place : ℕ) (ws : List (List ℕ)) → is_some (bytes_fault place ws) ≡ is_none (some_bytes ws)
some place [] = refl
some place (w ∷ ws) = byte_by_byte place (w ∷ ws)

bytes : {A : Type 0} (make : List ℕ → A) → Agree (all some_bytes make) [] rest.Bytes
bytes make = record { at = λ place ws. some place ws ∙ map-none make (some_bytes ws) }

one_message : {A : Type 0} (make : List ℕ → A) → Agree (all message make) [] rest.Message
one_message make = record { at = λ place ws. go (bytes_fault place ws) (some_bytes ws) (some place ws) ∙ map-none make (message ws) }
  where
    tested : (b : List ℕ) (t : Bool) → is_some (cond (is_some (cond t (Some b) None)) None (Some NoMessage)) ≡ is_none (cond t (Some b) None)
    tested b true = refl
    tested b false = refl

    go : (f : Option LineFault) (o : Option (List ℕ)) → is_some f ≡ is_none o → is_some (option_or f (cond (is_some (only_if is_message o)) None (Some NoMessage))) ≡ is_none (only_if is_message o)
    go None None h = refl
    go (Some f) None h = refl
    go None (Some b) h = tested b (is_message b)
    go (Some f) (Some b) h = cc

channel : {A : Type 0} (make : Option ℕ → A) → Agree (all (maybe u8) make) [] rest.Channel
channel {A} make = record { at = at }
  where
    one : (f : LineFault) (o : Option ℕ) → is_some (cond (is_some o) None (Some f)) ≡ is_none (option_map make (option_map Some o))
    one f None = refl
    one f (Some x) = refl

    more : (f g : LineFault) (b : Bool) → is_some (cond b (Some f) (Some g)) ≡ true
    more f g true = refl
    more f g false = refl

    at : (place : ℕ) (ws : List (List ℕ)) → is_some (fault_from place [] rest.Channel ws) ≡ is_none (all (maybe u8) make ws)
    at place [] = refl
    at place (w ∷ []) = one (wrong_word place w (Wrong place kind.Number8)) (u8 w)
    at place (w ∷ v ∷ ws) = more (wrong_word (place + 1) v (TooMany (place + 1))) (wrong_word place w (Wrong place kind.Number8)) (is_some (u8 w))

-- ---- each row of the table

rule_agrees : (make : RuleArgs → Command) → Agree (rule make) rule_kinds rest.Channel
rule_agrees make =
    next u16 _ kind.Number16 _ _ (λ w. refl) (λ channels. next u16 _ kind.Number16 _ _ (λ w. refl) (λ kinds. next u8 _ kind.Number8 _ _ (λ w. refl) (λ low. next u8 _ kind.Number8 _ _ (λ w. refl) (λ high. next shift _ kind.Shift _ _ (λ w. refl) (λ semitones. channel (λ channel. make (record { channels = channels; kinds = record { 0 = kinds }; low = low; high = high; shift = semitones; channel = channel })))))))

-- a row and a form are of one word
record SameRow (row : CommandForm) (f : Form) : Type 0 where
  pub word : row.word ≡ f.word
  pub agree : Agree row.says f.kinds f.rest

abbrev AllSame : List CommandForm → List Form → Type 0
AllSame [] [] = Unit {0}
AllSame (r ∷ rows) (f ∷ fs) = SameRow r f × AllSame rows fs
AllSame _ _ = ⊥

infixr 5 ◌then◌
◌then◌ : {A B : Type 0} → A → B → A × B
(row then rows) = (row, rows)

rows_agree : (names : List (List ℕ)) → AllSame (table names) forms
rows_agree names =
    record { word = refl; agree = next queue _ kind.Queue _ _ (λ w. refl) (λ q. next node_number _ kind.NodeNumber _ _ (λ w. refl) (λ p. next due_word _ kind.Due _ _ (λ w. refl) (λ at. one_message (Schedule q p at)))) }
    then record { word = refl; agree = next node_number _ kind.NodeNumber _ _ (λ w. refl) (λ p. one_message (Send p)) }
    then record { word = refl; agree = next node_number _ kind.NodeNumber _ _ (λ w. refl) (λ p. bytes (Bytes p)) }
    then record { word = refl; agree = next queue _ kind.Queue _ _ (λ w. refl) (λ q. next node_number _ kind.NodeNumber _ _ (λ w. refl) (λ p. next (file names) _ kind.File _ _ (λ w. refl) (λ f. nothing (Play q p f)))) }
    then record { word = refl; agree = next u32 _ kind.Number32 _ _ (λ w. refl) (λ max. nothing (Receive max)) }
    then record { word = refl; agree = next any _ kind.Name _ _ (λ w. refl) (λ name. next u32 _ kind.Number32 _ _ (λ w. refl) (λ in_size. next u32 _ kind.Number32 _ _ (λ w. refl) (λ out_size. nothing (Open name in_size out_size)))) }
    then record { word = refl; agree = nothing Close }
    then record { word = refl; agree = next node_number _ kind.NodeNumber _ _ (λ w. refl) (λ p. next any _ kind.Name _ _ (λ w. refl) (λ name. next caps _ kind.Caps _ _ (λ w. refl) (λ c. nothing (CreatePort p name c)))) }
    then record { word = refl; agree = next node_number _ kind.NodeNumber _ _ (λ w. refl) (λ p. nothing (DeletePort p)) }
    then record { word = refl; agree = next node_number _ kind.NodeNumber _ _ (λ w. refl) (λ f. next caps _ kind.Caps _ _ (λ w. refl) (λ c. rule_agrees (CreateFilter f c))) }
    then record { word = refl; agree = next node_number _ kind.NodeNumber _ _ (λ w. refl) (λ f. rule_agrees (SetFilter f)) }
    then record { word = refl; agree = next node_number _ kind.NodeNumber _ _ (λ w. refl) (λ f. nothing (DeleteFilter f)) }
    then record { word = refl; agree = next addr _ kind.Address _ _ (λ w. refl) (λ source. next addr _ kind.Address _ _ (λ w. refl) (λ target. nothing (Connect source target))) }
    then record { word = refl; agree = next addr _ kind.Address _ _ (λ w. refl) (λ source. next addr _ kind.Address _ _ (λ w. refl) (λ target. nothing (Disconnect source target))) }
    then record { word = refl; agree = next queue_number _ kind.QueueNumber _ _ (λ w. refl) (λ n. next u32 _ kind.Number32 _ _ (λ w. refl) (λ ppq. next u32 _ kind.Number32 _ _ (λ w. refl) (λ tempo. nothing (CreateQueue n ppq tempo)))) }
    then record { word = refl; agree = next queue_number _ kind.QueueNumber _ _ (λ w. refl) (λ n. next (file names) _ kind.File _ _ (λ w. refl) (λ f. nothing (CreateQueueFrom n f))) }
    then record { word = refl; agree = next queue _ kind.Queue _ _ (λ w. refl) (λ q. nothing (DeleteQueue q)) }
    then record { word = refl; agree = next queue _ kind.Queue _ _ (λ w. refl) (λ q. nothing (Start q)) }
    then record { word = refl; agree = next queue _ kind.Queue _ _ (λ w. refl) (λ q. nothing (Stop q)) }
    then record { word = refl; agree = next queue _ kind.Queue _ _ (λ w. refl) (λ q. nothing (Continue q)) }
    then record { word = refl; agree = next queue _ kind.Queue _ _ (λ w. refl) (λ q. next u32 _ kind.Number32 _ _ (λ w. refl) (λ tempo. nothing (Tempo q tempo))) }
    then record { word = refl; agree = next queue _ kind.Queue _ _ (λ w. refl) (λ q. nothing (QueueStatus q)) }
    then record { word = refl; agree = next queue _ kind.Queue _ _ (λ w. refl) (λ q. nothing (Share q)) }
    then record { word = refl; agree = nothing DropOutput }
    then record { word = refl; agree = nothing Listen }
    then record { word = refl; agree = nothing Unlisten }
    then record { word = refl; agree = nothing PoolStatus }
    then tt

-- ---- a line

looked_up : (rows : List CommandForm) (fs : List Form) → AllSame rows fs → (word : List ℕ) (ws : List (List ℕ)) → is_some (form_fault word (find (λ f. bytes_eq f.word word) fs) ws) ≡ is_none (by_word rows word ws)
looked_up [] [] same word ws = refl
looked_up [] (f ∷ fs) same word ws = absurd same
looked_up (r ∷ rows) [] same word ws = absurd same
looked_up (r ∷ rows) (f ∷ fs) same word ws =
    ap (λ x. is_some (form_fault word (cond (bytes_eq x word) (Some f) (find (λ g. bytes_eq g.word word) fs)) ws)) (sym same.0.word)
    ∙ go (bytes_eq r.word word) (looked_up rows fs same.1 word ws)
  where
    go : (b : Bool) → is_some (form_fault word (find (λ g. bytes_eq g.word word) fs) ws) ≡ is_none (by_word rows word ws) → is_some (form_fault word (cond b (Some f) (find (λ g. bytes_eq g.word word) fs)) ws) ≡ is_none (cond b (r.says ws) (by_word rows word ws))
    go true later = same.0.agree.at 3 ws
    go false later = later

commands_agree : (names ws : List (List ℕ)) → is_some (command_fault ws) ≡ is_none (command names ws)
commands_agree names [] = refl
commands_agree names (word ∷ ws) = looked_up (table names) forms (rows_agree names) word ws

timed_agree : (names ws : List (List ℕ)) (w : List ℕ) → is_some (timed_fault (w ∷ ws)) ≡ is_none (timed_command names (w ∷ ws))
timed_agree names ws w = go (u64 w)
  where
    go : (o : Option ℕ) → is_some (cond (is_some o) (command_fault ws) (Some (moment_fault w))) ≡ is_none {T = ℕ × Command} (option_and_then (λ m. option_map (λ c. (m, c)) (command names ws)) o)
    go None = refl
    go (Some m) = commands_agree names ws ∙ map-none {B = ℕ × Command} (λ c. (m, c)) (command names ws)

words_agree : (names ws : List (List ℕ)) (w : List ℕ) → is_remark w ≡ false → is_some (words_fault (w ∷ ws)) ≡ is_none (timed_command names (w ∷ ws))
words_agree names ws w e = ap (λ b. is_some (cond b None (timed_fault (w ∷ ws)))) e ∙ timed_agree names ws w

-- no command is unreadable
in_time : (end latest : ℕ) (s : ℕ × Command) → fate_in_time end latest (Some s) ≡ Skipped Unreadable → ⊥
in_time end latest s = go (nat_lt end s.0) (nat_lt s.0 latest)
  where
    go : (a b : Bool) → cond a (Skipped PastEnd) (cond b (Skipped Late) (Taken s.0 s.1)) ≡ Skipped Unreadable → ⊥
    go true b h = cc
    go false true h = cc
    go false false h = cc

lines_agree : (names : List (List ℕ)) (end latest : ℕ) (line : List ℕ) → IsTrue (is_some (line_fault line)) ↔ (fate names end latest line ≡ Skipped Unreadable)
lines_agree names end latest line = go (words (without_return line))
  where
    timed : (f : Bool) (o : Option (ℕ × Command)) → f ≡ is_none o → IsTrue f ↔ (fate_in_time end latest o ≡ Skipped Unreadable)
    timed f None h = (λ _. refl, λ _. h)
    timed f (Some s) h = (λ t. absurd (false≢true (sym h ∙ t)), λ e. absurd (in_time end latest s e))

    passed : IsTrue false ↔ (PassedOver ≡ Skipped Unreadable)
    passed = (λ t. absurd (false≢true t), λ e. cc)

    told : (w : List ℕ) (ws : List (List ℕ)) (b : Bool) → IsTrue (is_some (cond b None (timed_fault (w ∷ ws)))) ↔ (cond b PassedOver (fate_in_time end latest (timed_command names (w ∷ ws))) ≡ Skipped Unreadable)
    told w ws true = passed
    told w ws false = timed (is_some (timed_fault (w ∷ ws))) (timed_command names (w ∷ ws)) (timed_agree names ws w)

    go : (ws : List (List ℕ)) → IsTrue (is_some (words_fault ws)) ↔ (fate_of names end latest ws ≡ Skipped Unreadable)
    go [] = passed
    go (w ∷ ws) = told w ws (is_remark w)

pub fault_law : FaultLaw
fault_law = record { words = λ names w ws e. words_agree names ws w e; lines = lines_agree }
