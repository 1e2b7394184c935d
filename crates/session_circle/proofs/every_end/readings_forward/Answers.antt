use Rattle.std.proofs.Common.{◌≡◌, ◌∙◌, map, ap, sym}
use Rattle.session_circle.specs.EveryEnd.{first_back, whole_reading}
use Rattle.session_circle.proofs.Ends.{is_first_back, none_back}
use Rattle.session_circle.proofs.every_end.readings_forward.Goals as goal

pub returns-in-Some : goal.returns-in-Some
returns-in-Some c =
    let reads : c.as_slice.result.now ≡ map (whole_reading c.args.files.now) c.args.scripts.now = c.as_slice.ensures.value ∙ c.in_ok-reads.ensures.readings in
    is_first_back c.args.files.now c.args.scripts.now _ _ (ap first_back (sym reads) ∙ sym c.in-Some.ensures)

pub returns-in-None : goal.returns-in-None
returns-in-None c =
    let reads : c.as_slice.result.now ≡ map (whole_reading c.args.files.now) c.args.scripts.now = c.as_slice.ensures.value ∙ c.in_ok-reads.ensures.readings in
    record {
      none_goes_back = none_back c.args.files.now c.args.scripts.now (ap first_back (sym reads) ∙ sym c.in-None.ensures);
      reads_are = c.in_ok-reads.ensures.readings;
    }
