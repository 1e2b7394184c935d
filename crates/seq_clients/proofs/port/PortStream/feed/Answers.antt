use Rattle.std.proofs.Common.{◌≡◌, ◌∙◌, ◌++◌, false, ap, sym, subst}
use Rattle.std.specs.Prelude.{length}
use Rattle.std.proofs.lemmas.List.{append-nil}
use Rattle.midi_wire.specs.Readings.{rest}
use Rattle.seq_clients.proofs.Streams.{silent, fed-kept, new-kept}
use Rattle.seq_clients.specs.declared.port.PortStream.TheInside.{Inside}
use Rattle.seq_clients.proofs.port.PortStream.feed.Goals as goal
use Rattle.seq_clients.proofs.port.PortStream.feed.Goals.{in-Ok, in-Err}

pub returns-then-is_empty-clause-told : goal.returns-then-is_empty-clause-told
returns-then-is_empty-clause-told c =
    sym (append-nil c.args.out.now.items) ∙ ap (λ s. c.args.out.now.items ++ s) (silent _ _ _ c.self.invariant.1 c.self.view_is (sym c.is_empty.ensures ∙ c.if-is_empty.true))

pub returns-then-is_empty-clause-number : goal.returns-then-is_empty-clause-number
returns-then-is_empty-clause-number c = ap length (silent _ _ _ c.self.invariant.1 c.self.view_is (sym c.is_empty.ensures ∙ c.if-is_empty.true))

pub invariant_of-self-2 : goal.invariant_of-self-2
invariant_of-self-2 c =
    let kept : Inside → Type 0 = λ i. (i.parser.failed ≡ false) × (rest i.parser.rest ≡ i.parser.rest) in
    elim c.match-feed.branch [
      | in-Ok w ↦ subst kept (sym w.self-inside-is) (fed-kept _ _ w.in-Ok.ensures.state)
      | in-Err w ↦ subst kept (sym w.self-inside-is) (new-kept _ w.new.ensures)
    ]
