use Rattle.std.proofs.Common.{ap, sym, ◌∙◌}
use Rattle.std.specs.Option.{option_map}
use Rattle.std.specs.List.{slice_get}
use Rattle.std.specs.Rc.{rc_value}
use Rattle.smf_files.proofs.Chunks.{nows}
use Rattle.smf_files.proofs.Merging.{tick-here, over-here}
use Rattle.smf_files.proofs.cursor.Cursor.peek_tick.Goals as goal

pub returns-in-Some : goal.returns-in-Some
returns-in-Some c =
    tick-here (nows (rc_value c.self.inside.contents).items) c.self.inside.heads.items c.in-Some.head.now c.self.invariant (c.in-Some.ensures.value ∙ ap (λ hs. slice_get hs 0) c.deref.ensures.value)
    ∙ ap (λ es. option_map (λ e. e.tick) (slice_get es 0)) c.self.view_is

pub returns-in-None : goal.returns-in-None
returns-in-None c =
    ap (λ es. option_map (λ e. e.tick) (slice_get es 0)) (sym (over-here (nows (rc_value c.self.inside.contents).items) c.self.inside.heads.items (c.in-None.ensures.value ∙ ap (λ hs. slice_get hs 0) c.deref.ensures.value)) ∙ c.self.view_is)
