use Rattle.std.proofs.Common.{◌≡◌, ◌++◌, OnOk, sym, subst, ap}
use Rattle.smf_text.specs.Words.{shape_seen}
use Rattle.smf_text.proofs.Ones.{each-shape}
use Rattle.smf_text.proofs.meta.push_shaped.Goals as goal

pub returns-in-Each : goal.returns-in-Each
returns-in-Each c =
    subst (λ xs. OnOk c.push_each.result (c.push_each.new.text.items ≡ c.args.text.now.items ++ xs)) (sym (each-shape (shape_seen c.args.shape) c.in-Each.field-0 c.args.payload.now (ap shape_seen c.in-Each.is) c.requires)) c.push_each.ensures
