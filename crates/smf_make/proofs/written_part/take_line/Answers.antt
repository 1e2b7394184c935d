use Rattle.std.proofs.Common.{◌∙◌, sym}
use Rattle.smf_make.proofs.LineByLine.{after-between, after-within}
use Rattle.smf_make.proofs.written_part.take_line.Goals as goal

pub returns-in-Between-clause-ok : goal.returns-in-Between-clause-ok
returns-in-Between-clause-ok c = after-between c.args.bytes.now.items c.args.part _ _ c.begin_track.result _ _ c.in-Between.is (sym c.is_passed_over.ensures ∙ c.if-is_passed_over.false) c.begin_track.ensures.ok

pub returns-in-Within-clause-ok : goal.returns-in-Within-clause-ok
returns-in-Within-clause-ok c = after-within c.args.bytes.now.items c.args.part _ c.add_event.result _ _ c.in-Within.is (sym c.is_passed_over.ensures ∙ c.if-is_passed_over.false) c.add_event.ensures.ok
