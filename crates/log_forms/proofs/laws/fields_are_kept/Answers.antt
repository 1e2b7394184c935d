use Rattle.log_forms.proofs.RunLines.{delivery_kept, got_kept, skip_kept, done_kept, count_kept, queue_kept, pools_kept, refused_kept}
use Rattle.log_forms.proofs.laws.fields_are_kept.Goals as goal

pub returns : goal.returns
returns c = record {
  delivery = delivery_kept;
  got = got_kept;
  skip = skip_kept;
  done = λ moment line hm hl. done_kept moment line hm hl;
  count = λ moment line n hm hl. count_kept moment line hm hl n;
  queue = λ moment line state tick nanos hm hl. queue_kept moment line hm hl state tick nanos;
  pools = λ moment line waiting lost used hm hl. pools_kept moment line hm hl waiting lost used;
  refused = λ moment line n name hm hl. refused_kept moment line hm hl n name;
}
