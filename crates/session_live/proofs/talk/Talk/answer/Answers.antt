use Rattle.std.proofs.Common.{◌+◌, ◌≤◌, ◌∙◌, length, sym, ap, arith}
use Rattle.std.proofs.lemmas.Result.{on_ok_weaker}
use Rattle.script_text.specs.declared.live_lines.LiveLine.TheVariants.{Unknown, Says, Passes, Asks}
use Rattle.script_text.specs.declared.reading.SkipReason.TheVariants.{Unreadable, Late, TooLong}
use Rattle.script_text.specs.LiveLines.{live_line}
use Rattle.session_live.specs.declared.heard.TheConstants.{MOST_LINE}
use Rattle.session_live.specs.Lines.{Skipped, Said, input_of, item, skipped_by, skipped_loose}
use Rattle.session_live.specs.Talk.{next_number}
use Rattle.session_live.proofs.Told.{item-short, item-long, item-unknown, says-late, says-timely, passes-late, passes-timely, told-by, heard-said, heard-waited, heard-listed, as-item, as-told, on_ok-two, on_ok-four, on_ok-heard}
use Rattle.session_live.proofs.talk.Talk.answer.Goals as goal

-- src/talk.rt:71:13
pub returns-then-line-gt-MOST_LINE-clause-heard : goal.returns-then-line-gt-MOST_LINE-clause-heard
returns-then-line-gt-MOST_LINE-clause-heard g c =
    on_ok_weaker c.answer_too_long.result (λ f h s a. as-item _ _ _ _ _ h s (skipped_loose h TooLong) _ (item-long c.args.self.now.files.names h c.args.line.now c.if-line-gt-MOST_LINE.true) (f h s a)) c.answer_too_long.ensures.heard

-- src/talk.rt:78:21
pub returns-then-moment-now-clause-heard : goal.returns-then-moment-now-clause-heard
returns-then-moment-now-clause-heard g c =
    let short : length c.args.line.now ≤ MOST_LINE = omega (arith, c.if-line-gt-MOST_LINE.false) in
    let l = sym c.in-Says.is ∙ c.in_ok-live_line.ensures ∙ ap (λ ns. live_line ns c.args.line.now) c.names.ensures.names in
    on_ok_weaker c.skip-then-moment-now.result (λ f h s a. as-item _ _ _ _ _ h s (skipped_by h c.in-Says.client Late) _
    (item-short c.args.self.now.files.names h c.args.line.now (Says c.in-Says.client c.in-Says.moment c.in-Says.command) short l
    ∙ says-late h c.in-Says.client c.in-Says.moment c.in-Says.command c.now.result (c.now.ensures ∙ a.latest) c.if-moment-now.true) (f h s a)) c.skip-then-moment-now.ensures.heard

-- src/talk.rt:95:21
pub returns-then-moment-now-2-clause-heard : goal.returns-then-moment-now-2-clause-heard
returns-then-moment-now-2-clause-heard g c =
    let short : length c.args.line.now ≤ MOST_LINE = omega (arith, c.if-line-gt-MOST_LINE.false) in
    let l = sym c.in-Passes.is ∙ c.in_ok-live_line.ensures ∙ ap (λ ns. live_line ns c.args.line.now) c.names.ensures.names in
    on_ok_weaker c.skip-then-moment-now-2.result (λ f h s a. as-item _ _ _ _ _ h s (skipped_loose h Late) _
    (item-short c.args.self.now.files.names h c.args.line.now (Passes c.in-Passes.moment) short l
    ∙ passes-late h c.in-Passes.moment c.now-in-Passes.result (c.now-in-Passes.ensures ∙ a.latest) c.if-moment-now-2.true) (f h s a)) c.skip-then-moment-now-2.ensures.heard

-- src/talk.rt:57:5
pub returns-in-Unknown-clause-heard : goal.returns-in-Unknown-clause-heard
returns-in-Unknown-clause-heard g c =
    let short : length c.args.line.now ≤ MOST_LINE = omega (arith, c.if-line-gt-MOST_LINE.false) in
    let l = sym c.in-Unknown.is ∙ c.in_ok-live_line.ensures ∙ ap (λ ns. live_line ns c.args.line.now) c.names.ensures.names in
    on_ok_weaker c.skip.result (λ f h s a. as-item _ _ _ _ _ h s (Skipped c.in-Unknown.client (next_number h c.in-Unknown.client) Unreadable) _
    (item-short c.args.self.now.files.names h c.args.line.now (Unknown c.in-Unknown.client) short l ∙ item-unknown h c.in-Unknown.client) (f h s a)) c.skip.ensures.heard

-- src/talk.rt:57:5
pub returns-in-Unknown-clause-text : goal.returns-in-Unknown-clause-text
returns-in-Unknown-clause-text g c =
    let short : length c.args.line.now ≤ MOST_LINE = omega (arith, c.if-line-gt-MOST_LINE.false) in
    let l = sym c.in-Unknown.is ∙ c.in_ok-live_line.ensures ∙ ap (λ ns. live_line ns c.args.line.now) c.names.ensures.names in
    on_ok_weaker c.skip.result (λ f h s a. as-told c.args.self.now.files.files s (Skipped c.in-Unknown.client (next_number h c.in-Unknown.client) Unreadable) _
    (item-short c.args.self.now.files.names h c.args.line.now (Unknown c.in-Unknown.client) short l ∙ item-unknown h c.in-Unknown.client) _ _ (f h s a)) c.skip.ensures.text

-- src/talk.rt:57:5
pub returns-else-moment-now-clause-heard : goal.returns-else-moment-now-clause-heard
returns-else-moment-now-clause-heard g c =
    let short : length c.args.line.now ≤ MOST_LINE = omega (arith, c.if-line-gt-MOST_LINE.false) in
    let timely : c.now.result ≤ c.in-Says.moment = omega (arith, c.if-moment-now.false) in
    let l = sym c.in-Says.is ∙ c.in_ok-live_line.ensures ∙ ap (λ ns. live_line ns c.args.line.now) c.names.ensures.names in
    on_ok-heard _ _ c.take.result (λ h s a.
    on_ok-four c.take.result (λ f t m k. heard-said _ _ _ _ h s a _ _ _ (item c.args.self.now.files.names h c.args.line.now) (h.said c.in-Says.client + 1) (input_of c.in-Says.client c.in-Says.moment c.in-Says.command)
    (item-short c.args.self.now.files.names h c.args.line.now (Says c.in-Says.client c.in-Says.moment c.in-Says.command) short l
    ∙ says-timely h c.in-Says.client c.in-Says.moment c.in-Says.command c.now.result (c.now.ensures ∙ a.latest) timely) f t m k)
    c.take.ensures.files c.take.ensures.state c.take.ensures.moment (c.take.ensures.counts h a.counts))

-- src/talk.rt:57:5
pub returns-else-moment-now-clause-text : goal.returns-else-moment-now-clause-text
returns-else-moment-now-clause-text g c =
    let short : length c.args.line.now ≤ MOST_LINE = omega (arith, c.if-line-gt-MOST_LINE.false) in
    let timely : c.now.result ≤ c.in-Says.moment = omega (arith, c.if-moment-now.false) in
    let l = sym c.in-Says.is ∙ c.in_ok-live_line.ensures ∙ ap (λ ns. live_line ns c.args.line.now) c.names.ensures.names in
    on_ok-heard _ _ c.take.result (λ h s a.
    on_ok_weaker c.take.result (λ t. told-by _ _ _ _ h s a (Said (h.said c.in-Says.client + 1) (input_of c.in-Says.client c.in-Says.moment c.in-Says.command)) (item c.args.self.now.files.names h c.args.line.now)
    (item-short c.args.self.now.files.names h c.args.line.now (Says c.in-Says.client c.in-Says.moment c.in-Says.command) short l
    ∙ says-timely h c.in-Says.client c.in-Says.moment c.in-Says.command c.now.result (c.now.ensures ∙ a.latest) timely) _ _ t)
    (c.take.ensures.text h a.counts))

-- src/talk.rt:57:5
pub returns-else-moment-now-2-clause-heard : goal.returns-else-moment-now-2-clause-heard
returns-else-moment-now-2-clause-heard g c =
    let short : length c.args.line.now ≤ MOST_LINE = omega (arith, c.if-line-gt-MOST_LINE.false) in
    let timely : c.now-in-Passes.result ≤ c.in-Passes.moment = omega (arith, c.if-moment-now-2.false) in
    let l = sym c.in-Passes.is ∙ c.in_ok-live_line.ensures ∙ ap (λ ns. live_line ns c.args.line.now) c.names.ensures.names in
    on_ok-heard _ _ c.wait.result (λ h s a.
    on_ok-four c.wait.result (λ f t m k. heard-waited _ _ _ _ h s a _ _ _ (item c.args.self.now.files.names h c.args.line.now) c.in-Passes.moment
    (item-short c.args.self.now.files.names h c.args.line.now (Passes c.in-Passes.moment) short l
    ∙ passes-timely h c.in-Passes.moment c.now-in-Passes.result (c.now-in-Passes.ensures ∙ a.latest) timely) f t m k)
    c.wait.ensures.files c.wait.ensures.state c.wait.ensures.moment (c.wait.ensures.counts h a.counts))

-- src/talk.rt:57:5
pub returns-in-Asks-clause-heard : goal.returns-in-Asks-clause-heard
returns-in-Asks-clause-heard g c =
    let short : length c.args.line.now ≤ MOST_LINE = omega (arith, c.if-line-gt-MOST_LINE.false) in
    let l = sym c.in-Asks.is ∙ c.in_ok-live_line.ensures ∙ ap (λ ns. live_line ns c.args.line.now) c.names.ensures.names in
    on_ok-heard _ _ c.list.result (λ h s a.
    on_ok-two c.list.result (λ e k. heard-listed _ _ _ _ h s a _ _ _ (item c.args.self.now.files.names h c.args.line.now)
    (item-short c.args.self.now.files.names h c.args.line.now Asks short l) e k)
    c.list.ensures.engine (c.list.ensures.counts h a.counts))
