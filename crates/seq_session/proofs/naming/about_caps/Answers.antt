use Rattle.std.proofs.Common.{◌≡◌, ◌∙◌, ap, sym, inl, inr}
use Rattle.seq_session.specs.Diagnostics.{about_caps, lack_of}
use Rattle.seq_session.proofs.naming.about_caps.Goals as goal

pub returns-in-Connect : goal.returns-in-Connect
returns-in-Connect c made kept =
    let found : c.lack_of.result ≡ lack_of c.args.actor c.in-Connect.source (made c.in-Connect.source) c.in-Connect.target (made c.in-Connect.target) =
    c.lack_of.ensures
    ∙ ap (λ r. lack_of c.args.actor c.in-Connect.source r c.in-Connect.target c.caps_at-write.result) (c.caps_at-read.ensures made kept)
    ∙ ap (λ w. lack_of c.args.actor c.in-Connect.source (made c.in-Connect.source) c.in-Connect.target w) (c.caps_at-write.ensures made kept) in
    elim c.in-Connect.is [
      | inl connect ↦ found ∙ ap (about_caps made c.args.actor) (sym connect)
      | inr disconnect ↦ found ∙ ap (about_caps made c.args.actor) (sym disconnect)
    ]
