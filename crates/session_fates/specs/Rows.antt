-- Worked rows: What is told of a few ways.
use Rattle.std.specs.Prelude.{◌≡◌, ℕ, negsuc, List, [], ◌∷◌, codes, true, false}
use Rattle.node_table.specs.declared.number.Addr.{Addr}
use Rattle.node_table.specs.declared.number.Node.TheVariants.{Port, Filter}
use Rattle.way_fates.specs.declared.stop.Stop.TheVariants as stop
use Rattle.way_fates.specs.declared.fate.Fate.{Fate}
use Rattle.way_fates.specs.declared.fate.Fate.TheVariants.{Stopped, Arrives, Lost}
use Rattle.way_fates.specs.declared.fate.WayFate.{WayFate}
use Rattle.session_fates.specs.Told.{way_line, fates_text}

abbrev pub port : ℕ → ℕ → Addr
port client n = record { client = client; node = Port n }

abbrev pub filter_of : ℕ → ℕ → Addr
filter_of client n = record { client = client; node = Filter n }

abbrev pub way : List Addr → Fate → WayFate
way route fate = record { route = route; fate = fate }

-- from port 0 of client 128
abbrev pub told : List Addr → Fate → List ℕ
told route fate = way_line (port 128 0) (way route fate)

-- through a filter of client 131 to a port of client 135
abbrev pub through : List Addr
through = filter_of 131 0 ∷ port 135 0 ∷ []

pub record WorkedLines : Type 0 where
  pub arrives : told (port 134 0 ∷ []) Arrives ≡ codes "128:p0 > 134:p0 arrives\n"
  -- the way is told up to the filter that stops the message
  pub below : told through (Stopped (filter_of 131 0) (stop.NoteBelow 36 60))
      ≡ codes "128:p0 > 131:f0 stopped: note 36 is below 60\n"
  pub above : told through (Stopped (filter_of 131 0) (stop.NoteAbove 90 80))
      ≡ codes "128:p0 > 131:f0 stopped: note 90 is above 80\n"
  pub shifted : told through (Stopped (filter_of 131 0) (stop.NoteShifted 5 (negsuc 11)))
      ≡ codes "128:p0 > 131:f0 stopped: note 5 shifted by -12 is no note\n"
  -- channel 1 is the second, and musicians count from 1
  pub channel : told through (Stopped (filter_of 131 0) (stop.Channel 1))
      ≡ codes "128:p0 > 131:f0 stopped: channel 2 is not let through\n"
  pub kind : told through (Stopped (filter_of 131 0) stop.Kind)
      ≡ codes "128:p0 > 131:f0 stopped: messages of its kind are not let through\n"
  pub lost : told through (Lost 2000)
      ≡ codes "128:p0 > 131:f0 > 135:p0 lost: pool of 2000 full\n"
  pub no_port : fates_text false (port 128 0) [] 0 ≡ codes "128:p0 is not there\n"
  pub no_way : fates_text true (port 128 0) [] 0 ≡ codes "128:p0 leads to no port\n"
  pub more : fates_text true (port 128 0) (way (port 134 0 ∷ []) Arrives ∷ []) 7
      ≡ codes "128:p0 > 134:p0 arrives\nand 7 ways more\n"
