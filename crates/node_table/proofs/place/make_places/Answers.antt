use Rattle.node_table.proofs.Places.{filled_up, table_length}
use Rattle.node_table.proofs.place.make_places.Goals as goal

pub returns-clause-same : goal.returns-clause-same
returns-clause-same g c = filled_up _ _ _ _ _ _ (table_length _ c.requires) c.resize.ensures.items
