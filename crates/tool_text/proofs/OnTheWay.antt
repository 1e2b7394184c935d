-- An engine that is fed piece by piece.
use Rattle.std.proofs.Common.{◌≡◌, ◌<◌, ◌≤◌, ◌+◌, ◌*◌, ℕ, Bool, false, List, [], ◌++◌, length, refl, sym, ap, subst, ◌∙◌, arith, length-append, append-nil, append_assoc}
use Rattle.std.specs.List.{flat_map}
use Rattle.std.proofs.lemmas.List.{nil_from_length}
use Rattle.std.proofs.lemmas.List.Concat.{flat_map-append}
use Rattle.midi_wire.specs.Readings.{reading, rest}
use Rattle.midi_wire.proofs.Settled.{reads-in-two, rests-in-two}
use Rattle.cell_pools.specs.Pools.{most_waiting}
use Rattle.seq_state.specs.declared.input.Command.{Command}
use Rattle.seq_state.specs.declared.input.Command.TheVariants.{Bytes, Receive}
use Rattle.seq_state.specs.declared.log.Delivery.{Delivery}
use Rattle.smf_grammar.specs.Played.{PlayedFile}
use Rattle.seq_state.specs.State.{State}
use Rattle.seq_state.specs.Step.{step, state_after}
use Rattle.seq_engine.specs.Seen.{Seen}
use Rattle.tool_text.specs.Stream.{message_lines}
use Rattle.tool_text.specs.Thru.{input_at_start, most_piece, passage, passage_line, thru_line, fed_stream, engine_joined, after_input, IsJoined, IsPassing, IsFed}
use Rattle.tool_text.proofs.Fed.{fed_delivers, passed_joined, passed_stream}
use Rattle.tool_text.proofs.Few.{piece-few}
use Rattle.tool_text.proofs.Joined.{joined-state, joined-stream}

-- ---- a piece in parts

-- a piece was passed on but for what is left of it, in at most two steps for each byte, and the
-- lines for what was passed on were added
pub record IsOnTheWay (first now : Seen) (piece left old new : List ℕ) : Type 0 where
  pub passing : IsPassing now
  pub counted : now.steps + 2 * length left ≤ first.steps + 2 * length piece
  pub written : new ++ message_lines thru_line (fed_stream now.state ++ left) ≡ old ++ message_lines thru_line (fed_stream first.state ++ piece)
  pub stream : rest (fed_stream now.state ++ left) ≡ rest (fed_stream first.state ++ piece)

lines-in-two : (s t : List ℕ) → message_lines thru_line (s ++ t) ≡ message_lines thru_line s ++ message_lines thru_line (rest s ++ t)
lines-in-two s t = ap (flat_map thru_line) (reads-in-two s t) ∙ flat_map-append thru_line (reading s) (reading (rest s ++ t))

pub goes-on : (first e e' : Seen) (piece left part left' old text text' : List ℕ) → IsOnTheWay first e piece left old text → left ≡ part ++ left' → 0 < length part →
    IsPassing e' → e'.steps ≡ e.steps + 2 → text' ≡ text ++ message_lines thru_line (fed_stream e.state ++ part) → fed_stream e'.state ≡ rest (fed_stream e.state ++ part) → IsOnTheWay first e' piece left' old text'
goes-on first e e' piece left part left' old text text' w split some p steps added stream =
    let s : List ℕ = fed_stream e.state in
    let whole : (s ++ part) ++ left' ≡ s ++ left = append_assoc s part left' ∙ ap (λ xs. s ++ xs) (sym split) in
    let was : e.steps + 2 * length left ≤ first.steps + 2 * length piece = w.counted in
    let n : length left ≡ length part + length left' = ap length split ∙ length-append part left' in
    record {
      passing = p;
      counted = omega arith;
      written =
          ap (λ xs. xs ++ message_lines thru_line (fed_stream e'.state ++ left')) added
          ∙ ap (λ r. (text ++ message_lines thru_line (s ++ part)) ++ message_lines thru_line (r ++ left')) stream
          ∙ append_assoc text (message_lines thru_line (s ++ part)) (message_lines thru_line (rest (s ++ part) ++ left'))
          ∙ ap (λ xs. text ++ xs) (sym (lines-in-two (s ++ part) left') ∙ ap (message_lines thru_line) whole)
          ∙ w.written;
      stream = ap (λ r. rest (r ++ left')) stream ∙ sym (rests-in-two (s ++ part) left') ∙ ap rest whole ∙ w.stream;
    }

-- what is kept of a stream completes no message
silent : (r : List ℕ) → rest r ≡ r → reading (r ++ []) ≡ []
silent r same =
    let none : length (reading (rest r ++ [])) ≤ 2 * 0 = piece-few r [] in
    ap (λ q. reading (q ++ [])) (sym same) ∙ nil_from_length (reading (rest r ++ [])) (omega arith)

module _ (first e : Seen) (piece left old new : List ℕ) (w : IsOnTheWay first e piece left old new) (none : left ≡ []) where
  pub arrives : new ≡ old ++ message_lines thru_line (fed_stream first.state ++ piece)
  arrives =
      sym (append-nil new)
      ∙ ap (λ ms. new ++ flat_map thru_line ms) (sym (silent (fed_stream e.state) w.passing.joined.stream))
      ∙ ap (λ xs. new ++ message_lines thru_line (fed_stream e.state ++ xs)) (sym none)
      ∙ w.written

  pub stream-arrives : fed_stream e.state ≡ rest (fed_stream first.state ++ piece)
  stream-arrives =
      sym w.passing.joined.stream
      ∙ ap rest (sym (append-nil (fed_stream e.state)))
      ∙ ap (λ xs. rest (fed_stream e.state ++ xs)) (sym none)
      ∙ w.stream

  pub counted-there : e.steps ≤ first.steps + 2 * length piece
  counted-there = let was : e.steps + 2 * length left ≤ first.steps + 2 * length piece = w.counted in omega arith

-- ---- from the beginning on

pub fed_nothing : (e : Seen) → e ≡ engine_joined → IsFed e []
unfolding rest
fed_nothing e is =
    let steps : e.steps ≡ 5 = ap (λ (x : Seen). x.steps) is in
    record {
      passing = record {
        files = ap (λ (x : Seen). x.files) is;
        joined = subst IsJoined (sym (ap (λ (x : Seen). x.state) is)) joined-state;
        early = ap (λ (x : Seen). x.moment) is;
        sound = ap (λ (x : Seen). x.failed) is;
      };
      counted = omega arith;
      stream = ap (λ (x : Seen). fed_stream x.state) is ∙ joined-stream;
    }

pub fed_more : (e e' : Seen) (read piece : List ℕ) → IsFed e read → IsPassing e' → fed_stream e'.state ≡ rest (fed_stream e.state ++ piece) → e'.steps ≤ e.steps + 2 * length piece → IsFed e' (read ++ piece)
fed_more e e' read piece f passing stream counted =
    let was : e.steps ≤ 5 + 2 * length read = f.counted in
    let longer : length (read ++ piece) ≡ length read + length piece = length-append read piece in
    record {
      passing = passing;
      counted = omega arith;
      stream = stream ∙ ap (λ r. rest (r ++ piece)) f.stream ∙ sym (rests-in-two read piece);
    }

-- ---- the two steps of a part

module _ (e e1 e2 : Seen) (source sink : ℕ) (command : Command) (part : List ℕ) (p : IsPassing e) (short : length part ≤ most_piece) (who : source ≡ 128) (what : command ≡ Bytes 0 part) where
  abbrev same-input : input_at_start source command ≡ input_at_start 128 (Bytes 0 part)
  same-input = ap (λ c. input_at_start c command) who ∙ ap (input_at_start 128) what

  pub part-lines : (ds : List Delivery) → ds ≡ (step e.files e.state (input_at_start source command)).delivered → flat_map passage_line ds ≡ message_lines thru_line (fed_stream e.state ++ part)
  part-lines ds given =
      ap (flat_map passage_line) given
      ∙ ap (λ i. flat_map passage_line (step e.files e.state i).delivered) same-input
      ∙ ap (λ fs. flat_map passage_line (step fs e.state (input_at_start 128 (Bytes 0 part))).delivered) p.files
      ∙ fed_delivers e.state part p.joined short

  module _ (fed : e1 ≡ after_input e (input_at_start source command)) (taker : sink ≡ 129) (emptied : e2 ≡ after_input e1 (input_at_start sink (Receive most_waiting))) where
    abbrev there : State → Seen
    there s = record { files = []; state = s; moment = 0; steps = e.steps + 2; failed = false }

    after-part : e2 ≡ there (state_after [] e.state (passage part))
    after-part =
        let goes : List PlayedFile → ℕ → Bool → Seen = λ fs n b. record { files = fs; state = (step fs (step fs e.state (input_at_start 128 (Bytes 0 part))).state (input_at_start 129 (Receive most_waiting))).state; moment = 0; steps = n; failed = b } in
        emptied
        ∙ ap (λ x. after_input x (input_at_start sink (Receive most_waiting))) fed
        ∙ ap (λ c. after_input (after_input e (input_at_start source command)) (input_at_start c (Receive most_waiting))) taker
        ∙ ap (λ i. after_input (after_input e i) (input_at_start 129 (Receive most_waiting))) same-input
        ∙ ap (λ fs. goes fs (e.steps + 1 + 1) e.failed) p.files
        ∙ ap (λ n. goes [] n e.failed) (let two : e.steps + 1 + 1 ≡ e.steps + 2 = omega arith in two)
        ∙ ap (goes [] (e.steps + 2)) p.sound

    pub part-passing : IsPassing e2
    part-passing = subst IsPassing (sym after-part) (record { files = refl; joined = passed_joined e.state part p.joined short; early = refl; sound = refl })

    pub part-stream : fed_stream e2.state ≡ rest (fed_stream e.state ++ part)
    part-stream = ap (λ (x : Seen). fed_stream x.state) after-part ∙ passed_stream e.state part p.joined short
