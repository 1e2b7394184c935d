use Rattle.midiseq.proofs.sessions.is_asked.Goals as goal

pub returns : goal.returns
returns c = record {
  strict = c.get_flag-strict.result;
  strict_flag = record { absent = c.get_flag-strict.ensures.none; present = c.get_flag-strict.ensures.value };
  explains = c.get_flag-asked.result;
  explain_flag = record { absent = c.get_flag-asked.ensures.none; present = c.get_flag-asked.ensures.value };
  is = c.is_explained.ensures;
}
