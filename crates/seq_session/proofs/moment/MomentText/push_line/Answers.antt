use Rattle.std.proofs.Common.{rules, ◌≡◌, ◌+◌, ◌++◌, take, ap, ◌∙◌, [], ◌∷◌, codes, append_assoc}
use Rattle.std.specs.Fmt.{decimal}
use Rattle.text_forms.specs.Hex.{spaced_hex}
use Rattle.seq_session.proofs.Ports.{line_front}
use Rattle.seq_session.proofs.moment.MomentText.push_line.Goals as goal

pub returns : goal.returns
returns c =
    let t = c.args.text.now.items in
    let front : take (c.len.result + c.turn_to.new.self.count) c.extend_from_slice.new.self.items ≡ t ++ decimal c.args.moment = line_front t c.turn_to.new.self.digits _ _ c.turn_to.new.self.count c.args.moment (search rules) c.in_ok-extend_from_slice.ensures.items (search rules) in
    c.overwrite_spaced_line.ensures
    ∙ ap (λ u. u ++ spaced_hex c.args.bytes.now ++ 10 ∷ []) (c.overwrite_port-end.ensures.written ∙ ap (λ u. u ++ codes " port " ++ decimal c.args.port) front)
    ∙ simp append_assoc
