use Rattle.std.proofs.Common.{refl}
use Rattle.seq_clients.proofs.Arrays.{empty_seen}
use Rattle.seq_clients.proofs.queues.QueueTable.new.Goals as goal

pub returns : goal.returns
returns c = empty_seen (λ o. o) 0 8 _ c.nothing.ensures.none refl
