use Rattle.route_filter.proofs.Statuses.{note-by-status}
use Rattle.route_filter.proofs.rule.has_note.Goals as goal

pub returns : goal.returns
returns c = note-by-status c.args.status
