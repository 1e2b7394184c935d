-- Definition: Which numbers clients bear, and how many ports, filters and queues each may have.
use Rattle.std.specs.Prelude.{ℕ}

abbrev pub first_client : ℕ
first_client = 128

abbrev pub last_client : ℕ
last_client = 191

abbrev pub most_clients : ℕ
most_clients = 64

abbrev pub most_ports : ℕ
most_ports = 16

abbrev pub most_filters : ℕ
most_filters = 16

abbrev pub most_queues : ℕ
most_queues = 8

-- A client has a place for each of its ports, then one for each of its filters.
abbrev pub client_places : ℕ
client_places = 32

abbrev pub places : ℕ
places = 2048
