use Rattle.std.proofs.Common.{◌≡◌, ◌+◌, List, ℕ, ◌++◌, [], take, length, sym, ap, ◌∙◌, append_assoc, length-append, arith}
use Rattle.std.proofs.lemmas.Bool.{eqb-true}
use Rattle.std.proofs.lemmas.List.{nil_from_length}
use Rattle.midi_wire.specs.Readings.{reading, rest}
use Rattle.midi_wire.specs.Parsing.{Parsing}
use Rattle.midi_wire.proofs.Machine.{rest-again}
use Rattle.midi_wire.proofs.Outcomes.{taken-reading, taken-rest, none-left}
use Rattle.midi_wire.proofs.parser.StreamParser.feed.Goals as goal

pub loop-left-preserved : goal.loop-left-preserved
loop-left-preserved c =
    let p : List ℕ = c.loop-left.self-inside.pending in
    let seen : List (List ℕ) = reading (p ++ take c.in_ok-taken.taken c.loop-left.left.now) in
    record {
      told = (
        c.loop-left.invariant.told.0 ++ seen,
        c.in_ok-taken.ensures.told ∙ ap (λ ms. ms ++ seen) c.loop-left.invariant.told.1 ∙ append_assoc c.args.out.now.items c.loop-left.invariant.told.0 seen,
        c.loop-left.invariant.told.2 ∙ ap (λ ms. c.loop-left.invariant.told.0 ++ ms) (taken-reading p c.take_front.new.self c.loop-left.left.now c.in_ok-taken.taken c.in_ok-taken.ensures.leaves) ∙ sym (append_assoc c.loop-left.invariant.told.0 seen _),
      );
      leaves = c.loop-left.invariant.leaves ∙ taken-rest p c.take_front.new.self c.loop-left.left.now c.in_ok-taken.taken c.in_ok-taken.ensures.leaves;
      settled = ap (λ v. rest v) c.in_ok-taken.ensures.leaves ∙ rest-again _ ∙ sym c.in_ok-taken.ensures.leaves;
      marked = c.loop-left.invariant.marked;
    }

pub returns-clause-told : goal.returns-clause-told
returns-clause-told c =
    let over : c.loop-left.left.now ≡ [] = nil_from_length c.loop-left.left.now (eqb-true (length c.loop-left.left.now) 0 (sym c.is_empty.ensures ∙ c.loop-left-test.false)) in
    let whole : reading (c.self.inside.pending ++ c.args.piece.now) ≡ c.loop-left.invariant.told.0 = c.loop-left.invariant.told.2 ∙ none-left c.loop-left.invariant.told.0 c.loop-left.self-inside.pending c.loop-left.left.now c.loop-left.invariant.settled over in
    c.loop-left.invariant.told.1
    ∙ ap (λ ms. c.args.out.now.items ++ ms) (sym whole ∙ ap (λ (q : Parsing). reading (q.rest ++ c.args.piece.now)) c.self.view_is)

pub returns-clause-number : goal.returns-clause-number
returns-clause-number c =
    let more : length c.loop-left.out.items ≡ length c.args.out.now.items + length (reading (c.args.self.now.rest ++ c.args.piece.now)) = ap length (returns-clause-told c) ∙ length-append c.args.out.now.items (reading (c.args.self.now.rest ++ c.args.piece.now)) in
    omega arith
