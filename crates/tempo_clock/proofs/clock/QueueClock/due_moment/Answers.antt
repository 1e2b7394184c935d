use Rattle.std.proofs.Common.{◌≡◌, ◌<◌, ◌+◌, ◌-◌, ◌^◌, ◌∙◌, ℕ, max, Option, None, Some, ap, sym, subst}
use Rattle.std.specs.Result.{OkIff}
use Rattle.tempo_clock.specs.Clocks.{Clock, due_time, moment_of}
use Rattle.tempo_clock.proofs.Moments.{moment-held, moment-running}
use Rattle.tempo_clock.proofs.clock.QueueClock.due_moment.Goals as goal
use Rattle.tempo_clock.proofs.clock.QueueClock.due_moment.Goals.{in-Tick, in-Nanos}

pub returns-in_err-since : goal.returns-in_err-since
returns-in_err-since c =
    let held : record { map = c.self.inside.map; time = c.self.inside.time; since = None } ≡ c.args.self.now
    = ap (λ (s : Option ℕ). record { map = c.self.inside.map; time = c.self.inside.time; since = s }) (sym c.in_err-since.was) ∙ c.self.view_is in
    c.from_residual.ensures ∙ sym (moment-held c.self.inside.map c.self.inside.time c.args.accepted c.args.due) ∙ ap (λ (k : Clock). moment_of k c.args.accepted c.args.due) held

pub returns : goal.returns
returns c =
    let runs : record { map = c.self.inside.map; time = c.self.inside.time; since = Some c.in_ok-since.since } ≡ c.args.self.now
    = ap (λ (s : Option ℕ). record { map = c.self.inside.map; time = c.self.inside.time; since = s }) (sym c.in_ok-since.was) ∙ c.self.view_is in
    let time : c.match-due.time ≡ due_time c.self.inside.map c.args.due = elim c.match-due.branch [
      | in-Tick w ↦ w.time-is ∙ w.nanos_at-time.ensures.value ∙ ap (due_time c.self.inside.map) (sym w.in-Tick.is)
      | in-Nanos w ↦ w.time-is ∙ ap (due_time c.self.inside.map) (sym w.in-Nanos.is)
    ] in
    let since = c.in_ok-since.since in
    let moment : c.max-moment.result ≡ max (since + (c.match-due.time - c.self.inside.time)) c.args.accepted
    = c.max-moment.ensures ∙ ap (λ n. max (since + n) c.args.accepted) c.saturating_sub-wait.ensures in
    c.ok.ensures.value ∙ moment-running c.self.inside.map c.self.inside.time c.in_ok-since.since c.args.accepted c.match-due.time c.args.due time _ (subst (λ n. OkIff c.try_from.result (n < 2 ^ 64) n) moment c.try_from.ensures)
    ∙ ap (λ (k : Clock). moment_of k c.args.accepted c.args.due) runs
