use Rattle.std.proofs.Common.{◌≡◌, ◌++◌, ◌∙◌, length, ap, refl, arith}
use Rattle.std.proofs.lemmas.List.{get_or-replicate}
use Rattle.std.specs.Slice.Iter.{chunks_rest, chunks_size}
use Rattle.text_forms.specs.Hex.{spaced_hex}
use Rattle.memory.proofs.Outcomes.{on_err}
use Rattle.text_forms.proofs.Hexed.{one_more_group}
use Rattle.text_forms.proofs.hex.push_spaced.Goals as goal

pub loop-group-init : goal.loop-group-init
loop-group-init c =
    let groups = c.into_iter-group-iterator.ensures.into_iter_gives in
    let size : chunks_size c.into_iter-group-iterator.result ≡ 64 = ap chunks_size groups ∙ c.chunks-group-items.ensures.size in
    record {
      can_next = omega (arith, size);
      finite = tt;
      size = size;
      room = refl;
      spaces = λ k h. get_or-replicate 192 _ 32 0 h;
      capacity = omega arith;
      text = ap (λ bytes. c.args.text.now.items ++ spaced_hex bytes) (ap chunks_rest groups ∙ c.chunks-group-items.ensures.rest);
    }

pub returns-in_err-extend_from_slice-clause-full : goal.returns-in_err-extend_from_slice-clause-full
returns-in_err-extend_from_slice-clause-full c =
    let was = c.loop-group.invariant in
    let before = c.args.text.now in
    let within = one_more_group before.items c.loop-group.text.items c.in-Some.group.now _ _ c.args.bytes.now c.in-Some.ensures.steps.1.0 was.text in
    let spelled = ap length c.spell.ensures.spelled in
    let full = c.in_err-extend_from_slice.ensures.full in
    on_err c.from_residual.result (omega (arith, within, was.capacity, before.ok.0, c.loop-group.text.ok.0, spelled, full))
