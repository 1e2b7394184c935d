use Rattle.std.proofs.Common.{◌∙◌, ap, Some}
use Rattle.std.specs.Option.{option_map}
use Rattle.seq_clients.proofs.Seeing.{caps-there}
use Rattle.seq_clients.proofs.clients.Clients.caps.Goals as goal

pub returns-in-Some : goal.returns-in-Some
returns-in-Some c = ap Some c.caps.ensures ∙ ap (option_map (λ n. n.caps)) c.in-Some.ensures ∙ caps-there c.self.inside.nodes c.self.inside.rows _ c.self.invariant c.self.view_is c.args.addr.now

pub returns-in-None : goal.returns-in-None
returns-in-None c = ap (option_map (λ n. n.caps)) c.in-None.ensures ∙ caps-there c.self.inside.nodes c.self.inside.rows _ c.self.invariant c.self.view_is c.args.addr.now
