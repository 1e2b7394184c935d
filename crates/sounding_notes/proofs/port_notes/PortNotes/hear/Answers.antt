use Rattle.std.proofs.Common.{◌∙◌, ap, sym, subst, refl, List, Bool}
use Rattle.sounding_notes.specs.Kept.{reads, IsHeard}
use Rattle.sounding_notes.specs.Sounding.{after_message}
use Rattle.sounding_notes.proofs.Hearing.{data_of_three, exclusive_ends_none, heard_with_places}
use Rattle.sounding_notes.proofs.port_notes.PortNotes.hear.Goals as goal

pub hear_three-requires-clause-data : goal.hear_three-requires-clause-data
hear_three-requires-clause-data c = data_of_three c.args.message.now c.in-Short-Three.status c.in-Short-Three.first c.in-Short-Three.second c.is_message.ensures (rw c.in-Short-Three.field-0-is at c.in-Short-Three.ensures)

pub returns-in_ok-resize-in-Short-Three : goal.returns-in_ok-resize-in-Short-Three
returns-in_ok-resize-in-Short-Three c channel note small low =
    let old = c.self-in-Short-Three.inside.places in
    let m = c.args.message.now in
    let e = c.in_ok-resize-in-Short-Three.ensures in
    heard_with_places m old.items c.resize.new.self.items c.hear_three.new.self _ old.ok.0 e.by_index.0 (λ k d. e.by_index.1 k d refl)
    (subst (λ m. IsHeard m c.resize.new.self.items c.hear_three.new.self) (rw c.in-Short-Three.field-0-is at c.in-Short-Three.ensures) c.hear_three.ensures) channel note small low
    ∙ ap (λ (places : List Bool). after_message channel note (reads places channel note) m) c.self-in-Short-Three.view_is

pub returns-in-Exclusive : goal.returns-in-Exclusive
returns-in-Exclusive c channel note small low =
    sym (ap (λ m. after_message channel note (reads c.args.self.now channel note) m) (sym c.in-Exclusive.ensures) ∙ exclusive_ends_none channel note (reads c.args.self.now channel note) c.in-Exclusive.field-0.now small)
