use Rattle.std.proofs.Common.{◌≡◌, ◌∙◌, ◌++◌, ap, append-nil, subst, List, ℕ}
use Rattle.std.specs.Prelude.{OnOk, codes}
use Rattle.log_forms.specs.Kept.{outcome_seen}
use Rattle.log_forms.proofs.Joined.{reply_joined}
use Rattle.log_forms.proofs.json.push_reply.Goals as goal

pub returns : goal.returns
returns c =
    let a = c.args in
    let front = c.in_ok-push_pieces.ensures ∙ ap (λ (xs : List ℕ). a.out.now.items ++ (codes "{\"entry\":\"reply\",\"client\":" ++ (a.client.now ++ (codes ",\"moment\":" ++ (a.moment.now ++ (codes ",\"line\":" ++ xs)))))) (append-nil a.line.now) in
    let whole = reply_joined a.out.now.items c.push_pieces.new.out.items a.client.now a.moment.now a.line.now (outcome_seen a.outcome.now) front in
    subst (λ (xs : List ℕ). OnOk c.push_outcome.result (c.push_outcome.new.out.items ≡ xs)) whole c.push_outcome.ensures
