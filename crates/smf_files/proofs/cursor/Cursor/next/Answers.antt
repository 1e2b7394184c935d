use Rattle.std.proofs.Common.{◌<◌, ◌≤◌, ◌+◌, ◌*◌, length, rules, ap, sym, ◌∙◌, subst}
use Rattle.std.specs.Prelude.{IsTrue, is_some}
use Rattle.std.specs.List.{slice_get}
use Rattle.std.specs.Rc.{rc_value}
use Rattle.memory.proofs.Outcomes.{on_err}
use Rattle.smf_grammar.specs.Contents.{message_of}
use Rattle.smf_grammar.specs.Seen.{is_event_sound, IsRunning}
use Rattle.smf_files.specs.Playing.{event_in, running_in, left_of, is_whole, IsExclusive, IsNextExclusive}
use Rattle.smf_files.proofs.Chunks.{nows}
use Rattle.smf_files.proofs.Places.{sound-status}
use Rattle.smf_files.proofs.Merging.{Here, Follows, here, track-here, over-here, follows-here, next-first, next-playing, next-exclusive}
use Rattle.smf_files.proofs.cursor.Cursor.next.Goals as goal

pub returns-in-None-clause-none : goal.returns-in-None-clause-none
returns-in-None-clause-none c = sym c.self.view_is ∙ over-here (nows (rc_value c.self.inside.contents).items) c.self.inside.heads.items (c.in-None.ensures.value ∙ ap (λ hs. slice_get hs 0) c.deref.ensures.value)

pub returns-in-None-clause-over : goal.returns-in-None-clause-over
returns-in-None-clause-over c = sym c.self.view_is ∙ over-here (nows (rc_value c.self.inside.contents).items) c.self.inside.heads.items (c.in-None.ensures.value ∙ ap (λ hs. slice_get hs 0) c.deref.ensures.value)

pub index-requires : goal.index-requires
index-requires c =
    let within : c.in-Some.head.now.track < length (rc_value c.self.inside.contents).items = track-here _ _ c.in-Some.head.now c.self.invariant (c.in-Some.ensures.value ∙ ap (λ hs. slice_get hs 0) c.deref.ensures.value) in
    search rules

pub open-opened-requires-clause-within : goal.open-opened-requires-clause-within
open-opened-requires-clause-within c =
    let w : Here (rc_value c.self.inside.contents).items c.self.inside.heads.items c.in-Some.head.now c.index.result.now = here _ _ _ _ c.index.result.now c.self.invariant (c.in-Some.ensures.value ∙ ap (λ hs. slice_get hs 0) c.deref.ensures.value) (ap (λ v. v.items) c.deref-2.ensures) c.index.ensures in
    w.place.within

pub open-opened-requires-clause-some : goal.open-opened-requires-clause-some
open-opened-requires-clause-some c =
    let w : Here (rc_value c.self.inside.contents).items c.self.inside.heads.items c.in-Some.head.now c.index.result.now = here _ _ _ _ c.index.result.now c.self.invariant (c.in-Some.ensures.value ∙ ap (λ hs. slice_get hs 0) c.deref.ensures.value) (ap (λ v. v.items) c.deref-2.ensures) c.index.ensures in
    w.place.next.some

pub open-opened-requires-clause-status : goal.open-opened-requires-clause-status
open-opened-requires-clause-status c =
    let w : Here (rc_value c.self.inside.contents).items c.self.inside.heads.items c.in-Some.head.now c.index.result.now = here _ _ _ _ c.index.result.now c.self.invariant (c.in-Some.ensures.value ∙ ap (λ hs. slice_get hs 0) c.deref.ensures.value) (ap (λ v. v.items) c.deref-2.ensures) c.index.ensures in
    w.place.next.status

pub message_of-requires-clause-some : goal.message_of-requires-clause-some
message_of-requires-clause-some c =
    let w : Here (rc_value c.self.inside.contents).items c.self.inside.heads.items c.in-Some.head.now c.index.result.now = here _ _ _ _ c.index.result.now c.self.invariant (c.in-Some.ensures.value ∙ ap (λ hs. slice_get hs 0) c.deref.ensures.value) (ap (λ v. v.items) c.deref-2.ensures) c.index.ensures in
    subst (λ e. IsTrue (is_some (message_of e))) (sym c.open-opened.ensures.event) w.place.next.some

pub message_of-requires-clause-sound : goal.message_of-requires-clause-sound
message_of-requires-clause-sound c =
    let w : Here (rc_value c.self.inside.contents).items c.self.inside.heads.items c.in-Some.head.now c.index.result.now = here _ _ _ _ c.index.result.now c.self.invariant (c.in-Some.ensures.value ∙ ap (λ hs. slice_get hs 0) c.deref.ensures.value) (ap (λ v. v.items) c.deref-2.ensures) c.index.ensures in
    subst (λ e. IsTrue (is_event_sound e)) (sym c.open-opened.ensures.event) w.place.next.sound

pub find-next-requires-clause-whole : goal.find-next-requires-clause-whole
find-next-requires-clause-whole c =
    let w : Here (rc_value c.self.inside.contents).items c.self.inside.heads.items c.in-Some.head.now c.index.result.now = here _ _ _ _ c.index.result.now c.self.invariant (c.in-Some.ensures.value ∙ ap (λ hs. slice_get hs 0) c.deref.ensures.value) (ap (λ v. v.items) c.deref-2.ensures) c.index.ensures in
    subst (λ o. IsTrue (is_whole o c.open-opened.result.left.now)) (sym c.open-opened.ensures.running)
    (subst (λ xs. IsTrue (is_whole (running_in c.in-Some.head.now (left_of c.index.result.now.now c.in-Some.head.now)) xs)) (sym c.open-opened.ensures.left) w.place.next.whole)

pub find-next-requires-clause-status : goal.find-next-requires-clause-status
find-next-requires-clause-status c =
    let w : Here (rc_value c.self.inside.contents).items c.self.inside.heads.items c.in-Some.head.now c.index.result.now = here _ _ _ _ c.index.result.now c.self.invariant (c.in-Some.ensures.value ∙ ap (λ hs. slice_get hs 0) c.deref.ensures.value) (ap (λ v. v.items) c.deref-2.ensures) c.index.ensures in
    subst IsRunning (sym c.open-opened.ensures.running) (sound-status (event_in c.in-Some.head.now (left_of c.index.result.now.now c.in-Some.head.now)) w.place.next.sound)

pub find-next-requires-clause-early : goal.find-next-requires-clause-early
find-next-requires-clause-early c =
    let w : Here (rc_value c.self.inside.contents).items c.self.inside.heads.items c.in-Some.head.now c.index.result.now = here _ _ _ _ c.index.result.now c.self.invariant (c.in-Some.ensures.value ∙ ap (λ hs. slice_get hs 0) c.deref.ensures.value) (ap (λ v. v.items) c.deref-2.ensures) c.index.ensures in
    subst (λ xs. c.in-Some.head.now.tick + length xs * 268435456 ≤ 4503599627370496) (sym c.open-opened.ensures.left) w.place.next.early

pub invariant_of-self : goal.invariant_of-self
invariant_of-self c =
    let w : Here (rc_value c.self.inside.contents).items c.self.inside.heads.items c.in-Some.head.now c.index.result.now = here _ _ _ _ c.index.result.now c.self.invariant (c.in-Some.ensures.value ∙ ap (λ hs. slice_get hs 0) c.deref.ensures.value) (ap (λ v. v.items) c.deref-2.ensures) c.index.ensures in
    let f : Follows (nows (rc_value c.self.inside.contents).items) c.in-Some.head.now c.find-next.result = follows-here _ _ _ _ c.open-opened.result.left.now c.open-opened.result.running c.find-next.result w c.open-opened.ensures.left c.open-opened.ensures.running c.find-next.ensures.events c.find-next.ensures.place c.find-next.ensures.track in
    next-playing _ _ _ _ c.find-next.result w.top_is f c.replace_first.ensures.permutation (c.replace_first.ensures.order c.self.invariant.order)

pub returns-clause-some : goal.returns-clause-some
returns-clause-some c =
    let w : Here (rc_value c.self.inside.contents).items c.self.inside.heads.items c.in-Some.head.now c.index.result.now = here _ _ _ _ c.index.result.now c.self.invariant (c.in-Some.ensures.value ∙ ap (λ hs. slice_get hs 0) c.deref.ensures.value) (ap (λ v. v.items) c.deref-2.ensures) c.index.ensures in
    let f : Follows (nows (rc_value c.self.inside.contents).items) c.in-Some.head.now c.find-next.result = follows-here _ _ _ _ c.open-opened.result.left.now c.open-opened.result.running c.find-next.result w c.open-opened.ensures.left c.open-opened.ensures.running c.find-next.ensures.events c.find-next.ensures.place c.find-next.ensures.track in
    sym c.self.view_is
    ∙ next-first _ _ c.replace_first.new.heads.items _ c.find-next.result c.in_ok-message.message w.top_is f c.replace_first.ensures.permutation
    (ap (λ xs. message_of (event_in c.in-Some.head.now (left_of xs c.in-Some.head.now))) (sym w.content) ∙ ap message_of (sym c.open-opened.ensures.event) ∙ c.in_ok-message.ensures.ok)

pub returns-in_err-message-clause-exclusive : goal.returns-in_err-message-clause-exclusive
returns-in_err-message-clause-exclusive c =
    let w : Here (rc_value c.self.inside.contents).items c.self.inside.heads.items c.in-Some.head.now c.index.result.now = here _ _ _ _ c.index.result.now c.self.invariant (c.in-Some.ensures.value ∙ ap (λ hs. slice_get hs 0) c.deref.ensures.value) (ap (λ v. v.items) c.deref-2.ensures) c.index.ensures in
    on_err c.from_residual.result (subst IsNextExclusive c.self.view_is (next-exclusive _ _ _ w.top_is
    (subst IsExclusive (c.open-opened.ensures.event ∙ ap (λ xs. event_in c.in-Some.head.now (left_of xs c.in-Some.head.now)) w.content) c.in_err-message.ensures.exclusive)))
