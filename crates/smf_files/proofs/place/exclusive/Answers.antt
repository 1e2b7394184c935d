use Rattle.std.proofs.Common.{◌≡◌, ℕ, List, ◌∷◌, sym, subst}
use Rattle.std.specs.Prelude.{IsTrue, IfOk}
use Rattle.midi_wire.specs.Messages.{is_message}
use Rattle.smf_files.proofs.Exclusives.{payload-some, payload-whole}
use Rattle.smf_files.proofs.place.exclusive.Goals as goal

pub slice_bounds-data_bytes-count : goal.slice_bounds-data_bytes-count
slice_bounds-data_bytes-count c = payload-some c.args.payload.now c.requires

pub exclusive-requires : goal.exclusive-requires
exclusive-requires c = subst (λ (xs : List ℕ). IsTrue (is_message (240 ∷ xs))) (sym (payload-whole c.args.payload.now c.requires)) c.requires

pub returns : goal.returns
returns c = subst (λ (xs : List ℕ). IfOk c.exclusive.result (λ m. m ≡ 240 ∷ xs)) (payload-whole c.args.payload.now c.requires) c.exclusive.ensures
