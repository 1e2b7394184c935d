use Rattle.std.proofs.Common.{[], ◌∷◌, refl, arith, inr}
use Rattle.std.specs.Prelude.{Some}
use Rattle.std.specs.Fmt.{digits}
use Rattle.midi_wire.specs.Messages.{begins}
use Rattle.smf_grammar.specs.declared.fault.PairFault.TheVariants as pair_fault
use Rattle.smf_grammar.specs.Quantities.{quantity}
use Rattle.smf_grammar.specs.Pairs.{Voice, Exclusive, Meta, group_at, voice_at, sized_at, meta_at, event_at, pair_at}
use Rattle.smf_grammar.specs.Chunks.{header_of, header_at, chunk_at}
use Rattle.smf_grammar.specs.Files.{Track}
use Rattle.smf_grammar.specs.Reading.{pairs_from, pairs_of, tracks_from, file_reading}
use Rattle.smf_grammar.specs.Texts.{shortest}
use Rattle.smf_grammar.specs.Written.{written_file}
use Rattle.smf_mend.specs.Lenient.{event_left, softened}
use Rattle.smf_mend.specs.Rows.{at_delta}
use Rattle.smf_mend.proofs.laws.worked_mends.Goals as goal

pub returns-clause-over_others : goal.returns-clause-over_others
unfolding quantity group_at voice_at sized_at meta_at event_at pair_at header_of header_at chunk_at pairs_from pairs_of tracks_from file_reading begins shortest written_file event_left softened
returns-clause-over_others c = record {
  refused = refl;
  lenient = record {
    header = _;
    after = _;
    items = Track _ ∷ [];
    unread = [];
    headed = refl;
    stand = (
      _,
      _,
      refl,
      (
        refl,
        record {
          before = at_delta 0 (Voice 144 (60 ∷ 64 ∷ [])) ∷ at_delta 0 (Meta 1 (97 ∷ [])) ∷ at_delta 96 (Voice 144 (60 ∷ 0 ∷ [])) ∷ at_delta 0 (Exclusive (247 ∷ [])) ∷ at_delta 0 (Voice 144 (62 ∷ 64 ∷ [])) ∷ [];
          last = at_delta 0 (Meta 47 []);
          after = Some 144;
          rest = 0 ∷ 255 ∷ 47 ∷ 0 ∷ [];
          unread = [];
          whole = refl;
          stand = (_, refl, refl, (_, refl, refl, (_, refl, refl, (_, refl, refl, (_, refl, refl, (refl, refl))))));
          next = refl;
          ends = refl;
        },
      ),
      refl,
    );
    counted = refl;
    format = refl;
    division = refl;
    tracks = refl;
  };
  status_places = refl;
  data_places = refl;
  written = refl;
}

pub returns-clause-high_programs : goal.returns-clause-high_programs
unfolding quantity group_at voice_at sized_at meta_at event_at pair_at header_of header_at chunk_at pairs_from pairs_of tracks_from file_reading begins shortest written_file event_left softened
returns-clause-high_programs c = record {
  refused = refl;
  lenient = record {
    header = _;
    after = _;
    items = Track _ ∷ [];
    unread = [];
    headed = refl;
    stand = (
      _,
      _,
      refl,
      (
        refl,
        record {
          before = at_delta 128 (Voice 192 (5 ∷ [])) ∷ at_delta 0 (Voice 192 (6 ∷ [])) ∷ [];
          last = at_delta 0 (Meta 47 []);
          after = Some 192;
          rest = 0 ∷ 255 ∷ 47 ∷ 0 ∷ [];
          unread = [];
          whole = refl;
          stand = (_, refl, refl, (_, refl, refl, (refl, refl)));
          next = refl;
          ends = refl;
        },
      ),
      refl,
    );
    counted = refl;
    format = refl;
    division = refl;
    tracks = refl;
  };
  status_places = refl;
  data_places = refl;
  written = refl;
}

pub returns-clause-not_forgiven : goal.returns-clause-not_forgiven
unfolding quantity group_at voice_at sized_at meta_at event_at pair_at header_of header_at chunk_at pairs_from pairs_of tracks_from file_reading begins shortest written_file event_left softened
returns-clause-not_forgiven c = record {
  no_status = inr (record {
    header = _;
    after = _;
    items = [];
    rest = _;
    headed = refl;
    stand = refl;
    fewer = omega arith;
    next = (refl, record { fault = pair_fault.NoStatus; rest = _; stops = record { before = []; after = _; stand = (refl, refl); next = refl }; told = refl });
  });
  control = inr (record {
    header = _;
    after = _;
    items = [];
    rest = _;
    headed = refl;
    stand = refl;
    fewer = omega arith;
    next = (refl, record { fault = pair_fault.BadData; rest = _; stops = record { before = []; after = _; stand = (refl, refl); next = refl }; told = refl });
  });
}

pub returns-clause-told : goal.returns-clause-told
unfolding digits
returns-clause-told c = record { status = refl; program = refl }
