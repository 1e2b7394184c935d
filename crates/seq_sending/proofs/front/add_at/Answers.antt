use Rattle.std.proofs.Common.{◌≡◌, ◌+◌, true, false, set, ap, ◌∙◌, arith}
use Rattle.std.proofs.lemmas.List.{set-get_or}
use Rattle.seq_sending.proofs.Totals.{ways-there}
use Rattle.seq_sending.proofs.Reached.{if-ok}
use Rattle.seq_sending.proofs.front.add_at.Goals as goal

pub returns-clause-added : goal.returns-clause-added
returns-clause-added g c f =
    let a = c.args in
    let x = c.index_mut.result.now in
    if-ok c.add.result (λ there. there ≡ true → (c.add.new.self ≡ record x { ways = x.ways + a.ways }) × (x.node ≡ a.node.now) × (g.M.Carried.bytes x.message ≡ g.M.Carried.bytes a.message.now)) _
    (λ there is t. ways-there g.M.Carried.bytes f a.entries.now.items a.at x c.add.new.self a.node.now (g.M.Carried.bytes a.message.now) a.ways (omega arith) c.index_mut.ensures.value (is t).0 (is t).1 (is t).2)
    c.add.ensures.there

pub returns-clause-other : goal.returns-clause-other
returns-clause-other g c =
    let a = c.args in
    let x = c.index_mut.result.now in
    if-ok c.add.result (λ there. there ≡ false → c.add.new.self ≡ x) _
    (λ there is t. ap (set a.entries.now.items a.at) (is t ∙ c.index_mut.ensures.value) ∙ set-get_or a.entries.now.items a.at x)
    c.add.ensures.other
