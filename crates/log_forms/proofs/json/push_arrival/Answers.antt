use Rattle.std.proofs.Common.{◌≡◌, subst, List, ℕ}
use Rattle.std.specs.Prelude.{OnOk}
use Rattle.log_forms.specs.Kept.{arrival_seen}
use Rattle.log_forms.proofs.Joined.{arrival_joined}
use Rattle.log_forms.proofs.json.push_arrival.Goals as goal

pub returns : goal.returns
returns c =
    let whole = arrival_joined c.args.out.now.items c.push_pieces.new.out.items c.args.entry.now c.args.client.now c.as_text.result.now (arrival_seen c.args.arrival.now) c.shape.result c.as_text.ensures c.shape.ensures c.in_ok-push_pieces.ensures in
    subst (λ (xs : List ℕ). OnOk c.push_message.result (c.push_message.new.out.items ≡ xs)) whole c.push_message.ensures
