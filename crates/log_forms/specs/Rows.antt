-- Worked rows: Lines in each form.
use Rattle.std.specs.Prelude.{◌≡◌, ℕ, List, [], ◌∷◌, ◌++◌, codes}
use Rattle.log_forms.specs.declared.form.LogForm.TheVariants.{Json, Csv}
use Rattle.log_forms.specs.Forms.{log_in, listing_in, head_of}
use Rattle.log_forms.specs.Lines.{lines}

-- what a log of client 129 is as JSON, and as CSV
abbrev pub as_json : List ℕ → List ℕ
as_json log = log_in Json 129 log

abbrev pub as_csv : List ℕ → List ℕ
as_csv log = log_in Csv 129 log

-- What stands behind the last line feed is a line, and an empty line is one too.
pub record WorkedLines : Type 0 where
  pub last : lines (codes "a\nb") ≡ codes "a" ∷ codes "b" ∷ []
  pub ended : lines (codes "a\nb\n") ≡ codes "a" ∷ codes "b" ∷ []
  pub none : lines [] ≡ []
  pub empty : lines (codes "\n\na") ≡ [] ∷ [] ∷ codes "a" ∷ []

pub record WorkedJson : Type 0 where
  pub delivery : as_json (codes "5 port 0 90 3C 40\n")
      ≡ codes "{\"entry\":\"delivery\",\"client\":129,\"moment\":5,\"port\":0,"
      ++ codes "\"bytes\":\"90 3C 40\",\"kind\":\"note_on\",\"channel\":1,"
      ++ codes "\"note\":60,\"velocity\":64}\n"
  pub got : as_json (codes "got 5 port 0 E0 00 40\n")
      ≡ codes "{\"entry\":\"received\",\"client\":129,\"moment\":5,\"port\":0,"
      ++ codes "\"bytes\":\"E0 00 40\",\"kind\":\"pitch_bend\",\"channel\":1,\"value\":8192}\n"
  pub clock : as_json (codes "5 port 0 F8\n")
      ≡ codes "{\"entry\":\"delivery\",\"client\":129,\"moment\":5,\"port\":0,"
      ++ codes "\"bytes\":\"F8\",\"kind\":\"clock\"}\n"
  pub exclusive : as_json (codes "5 port 0 F0 7D F7\n")
      ≡ codes "{\"entry\":\"delivery\",\"client\":129,\"moment\":5,\"port\":0,"
      ++ codes "\"bytes\":\"F0 7D F7\",\"kind\":\"exclusive\"}\n"
  pub done : as_json (codes "5 line 3 ok\n")
      ≡ codes "{\"entry\":\"reply\",\"client\":129,\"moment\":5,\"line\":3,\"outcome\":\"ok\"}\n"
  pub count : as_json (codes "5 line 3 ok 3\n")
      ≡ codes "{\"entry\":\"reply\",\"client\":129,\"moment\":5,\"line\":3,\"outcome\":\"ok\","
      ++ codes "\"count\":3}\n"
  pub queue : as_json (codes "5 line 3 ok running 480 500000000\n")
      ≡ codes "{\"entry\":\"reply\",\"client\":129,\"moment\":5,\"line\":3,\"outcome\":\"ok\","
      ++ codes "\"queue\":\"running\",\"tick\":480,\"nanos\":500000000}\n"
  pub pools : as_json (codes "5 line 3 ok waiting 3 lost 0 used 1\n")
      ≡ codes "{\"entry\":\"reply\",\"client\":129,\"moment\":5,\"line\":3,\"outcome\":\"ok\","
      ++ codes "\"waiting\":3,\"lost\":0,\"used\":1}\n"
  pub refused : as_json (codes "5 line 3 refused 10 NotPermitted\n")
      ≡ codes "{\"entry\":\"reply\",\"client\":129,\"moment\":5,\"line\":3,"
      ++ codes "\"outcome\":\"refused\",\"refusal\":10,\"name\":\"NotPermitted\"}\n"
  pub skip : as_json (codes "skip 2 unreadable\n")
      ≡ codes "{\"entry\":\"skip\",\"client\":129,\"line\":2,\"reason\":\"unreadable\"}\n"
  -- escapes keep each object on its line
  pub listing : listing_in Json (codes "client 128 ke\"y\\s in 1 out 1\n\t\r\n")
      ≡ codes "{\"entry\":\"list\",\"text\":\"client 128 ke\\\"y\\\\s in 1 out 1\"}\n"
      ++ codes "{\"entry\":\"list\",\"text\":\"\\u0009\\u000d\"}\n"
  -- two lines, of which the last has no line feed
  pub two : as_json (codes "skip 2 late\nskip 3 late")
      ≡ codes "{\"entry\":\"skip\",\"client\":129,\"line\":2,\"reason\":\"late\"}\n"
      ++ codes "{\"entry\":\"skip\",\"client\":129,\"line\":3,\"reason\":\"late\"}\n"

pub record WorkedCsv : Type 0 where
  pub head : head_of Csv
      ≡ codes "entry,client,line,moment,port,outcome,detail,kind,channel,data1,data2,bytes\n"
  pub delivery : as_csv (codes "5 port 0 90 3C 40\n")
      ≡ codes "delivery,129,,5,0,,,note_on,1,60,64,90 3C 40\n"
  pub got : as_csv (codes "got 5 port 0 C9 07\n")
      ≡ codes "received,129,,5,0,,,program_change,10,7,,C9 07\n"
  pub exclusive : as_csv (codes "5 port 0 F0 7D F7\n")
      ≡ codes "delivery,129,,5,0,,,exclusive,,,,F0 7D F7\n"
  pub done : as_csv (codes "5 line 3 ok\n") ≡ codes "reply,129,3,5,,ok,,,,,,\n"
  pub count : as_csv (codes "5 line 3 ok 3\n") ≡ codes "reply,129,3,5,,ok,3,,,,,\n"
  pub queue : as_csv (codes "5 line 3 ok stopped 480 500000000\n")
      ≡ codes "reply,129,3,5,,ok,stopped 480 500000000,,,,,\n"
  pub pools : as_csv (codes "5 line 3 ok waiting 3 lost 0 used 1\n")
      ≡ codes "reply,129,3,5,,ok,waiting 3 lost 0 used 1,,,,,\n"
  pub refused : as_csv (codes "5 line 3 refused 10 NotPermitted\n")
      ≡ codes "reply,129,3,5,,refused,10 NotPermitted,,,,,\n"
  pub skip : as_csv (codes "skip 2 unreadable\n")
      ≡ codes "skip,129,2,,,,unreadable,,,,,\n"
  pub plain : listing_in Csv (codes "client 128 a in 1 out 1\n")
      ≡ codes "list,,,,,,client 128 a in 1 out 1,,,,,\n"
  pub comma : listing_in Csv (codes "client 128 a,b in 1 out 1\n")
      ≡ codes "list,,,,,,\"client 128 a,b in 1 out 1\",,,,,\n"
  pub quote : listing_in Csv (codes "client 128 a\"b in 1 out 1\n")
      ≡ codes "list,,,,,,\"client 128 a\"\"b in 1 out 1\",,,,,\n"

-- A line that no run writes is taken over: a zero in front of a number, a small hexadecimal digit,
-- two spaces, a word too many, and no byte of a message.
pub record WorkedOthers : Type 0 where
  pub zero : as_csv (codes "05 port 0 F8") ≡ codes "list,,,,,,05 port 0 F8,,,,,\n"
  pub small_digit : as_csv (codes "5 port 0 f8") ≡ codes "list,,,,,,5 port 0 f8,,,,,\n"
  pub two_spaces : as_csv (codes "5  port 0 F8") ≡ codes "list,,,,,,5  port 0 F8,,,,,\n"
  pub more_words : as_csv (codes "5 line 3 ok 2 3") ≡ codes "list,,,,,,5 line 3 ok 2 3,,,,,\n"
  pub no_byte : as_csv (codes "5 port 0") ≡ codes "list,,,,,,5 port 0,,,,,\n"
