use Rattle.std.proofs.Common.{◌∙◌, ap, sym}
use Rattle.std.specs.Option.{option_map}
use Rattle.seq_clients.specs.Roster.{room_of}
use Rattle.seq_clients.proofs.Seeing.{get-pool}
use Rattle.seq_clients.proofs.clients.Clients.room.Goals as goal

pub returns-in-Some : goal.returns-in-Some
returns-in-Some c = c.room.ensures ∙ ap (λ o. room_of c.args.moment (option_map (λ r. r.pool) o)) c.in-Some.ensures ∙ ap (room_of c.args.moment) (sym (get-pool c.self.inside.nodes c.self.inside.rows _ c.self.invariant c.self.view_is c.args.client))

pub returns-in-None : goal.returns-in-None
returns-in-None c = ap (λ o. room_of c.args.moment (option_map (λ r. r.pool) o)) c.in-None.ensures ∙ ap (room_of c.args.moment) (sym (get-pool c.self.inside.nodes c.self.inside.rows _ c.self.invariant c.self.view_is c.args.client))
