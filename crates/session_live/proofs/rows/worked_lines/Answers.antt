use Rattle.std.proofs.Common.{◌≡◌, ℕ, ◌<◌, false, cond, List, [], ◌∷◌, ◌++◌, map, length, Option, Some, None, refl, ap, arith}
use Rattle.std.specs.Prelude.{nat_le, is_some, codes}
use Rattle.std.specs.FinMap
use Rattle.std.specs.Fmt.{digits}
use Rattle.std.specs.Ordering.{nat_cmp}
use Rattle.std.proofs.lemmas.Bool.Decides.{nat_tests}
use Rattle.seq_state.specs.declared.input.Command.TheVariants.{Open}
use Rattle.seq_state.specs.declared.refusal.Refusal.TheVariants.{AlreadyOpen}
use Rattle.seq_state.specs.State.{Client, start}
use Rattle.seq_state.specs.Step.{upto, Stepped, unless, effect_of}
use Rattle.seq_state.specs.Table.{command_row}
use Rattle.script_text.specs.declared.reading.SkipReason.TheVariants.{TooLong}
use Rattle.script_text.specs.LiveLines.{live_line}
use Rattle.session_live.specs.declared.heard.TheConstants.{MOST_LINE}
use Rattle.session_live.specs.Lines.{Skipped, nothing_heard, skipped_loose, item_of, item}
use Rattle.session_live.specs.Answers.{Comes, Answers, ended, parts_text, live_text}
use Rattle.session_live.specs.Rows.{opening, no_files}
use Rattle.session_live.proofs.rows.worked_lines.Goals as goal

too_long : (line : List ℕ) → MOST_LINE < length line → item [] nothing_heard line ≡ Skipped None 1 TooLong
too_long line l = ap (λ b. cond b (item_of nothing_heard (live_line [] line)) (skipped_loose nothing_heard TooLong)) over
  where
    over : nat_le (length line) MOST_LINE ≡ false
    over = grind (arith, nat_tests)

pub returns-clause-lines : goal.returns-clause-lines
returns-clause-lines c = record {
  all = refl;
  empty = refl;
  open_line = refl;
  moment = refl;
  past_moments = refl;
  listing = refl;
  unknown_client = refl;
  too_long = too_long;
  alone = refl;
}

pub returns-clause-circles : goal.returns-clause-circles
returns-clause-circles c = record { flood = refl; skipped = refl }

pub returns-clause-parts : goal.returns-clause-parts
unfolding digits
returns-clause-parts c = record { comes = refl; replies = refl; received = refl; skips = refl; loose = refl; next = refl; never = refl }

pub returns-clause-logs : goal.returns-clause-logs
unfolding digits
returns-clause-logs c = record { of_129 = refl; of_12 = refl }

-- who is not open yet is not refused
opened : live_text no_files (codes "5 128 open a 8 8\n") ≡ codes "128 5 line 1 ok\nnext never\n"
unfolding digits upto command_row
opened =
    let effect : Stepped = effect_of [] start 5 128 (Open (codes "a") 8 8) in
    let answered : Stepped → List ℕ = λ a. parts_text (ended (map Comes a.delivered ++ Answers 1 opening a.reply ∷ []) a.state ++ []) in
    let closed : FinMap.get start.clients 128 ≡ None = FinMap.get-empty nat_cmp 128 in
    ap (λ (client : Option Client). answered (unless (cond (is_some client) (Some AlreadyOpen) None) start effect)) closed

pub returns-clause-texts : goal.returns-clause-texts
unfolding digits upto
returns-clause-texts c = record { skipped = refl; opened = opened; listed = refl }

pub returns-clause-runs : goal.returns-clause-runs
returns-clause-runs c = record { merged = refl; remark = refl }
