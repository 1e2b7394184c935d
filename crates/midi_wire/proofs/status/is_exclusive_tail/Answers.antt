use Rattle.std.proofs.Common.{◌≡◌, ◌+◌, length, arith, true, ap, ◌∙◌, sym}
use Rattle.std.specs.Prelude.{Bool, nat_le, ◌&&◌}
use Rattle.std.proofs.lemmas.Bool.{le-leb}
use Rattle.midi_wire.specs.Messages.{begins, most_data, ends_data}
use Rattle.midi_wire.proofs.status.is_exclusive_tail.Goals as goal

pub returns-then-tail : goal.returns-then-tail
unfolding begins
returns-then-tail c =
    let fits : nat_le (length c.args.tail.now) (most_data + 1) ≡ true = le-leb (length c.args.tail.now) (most_data + 1) (omega arith) in
    c.ends_data.ensures ∙ ap (λ (t : Bool). t && ends_data c.args.tail.now) (sym fits)
