-- What was read so far is printed.
use Rattle.std.proofs.Common.{◌≡◌, length, false, []}
use Rattle.tool_text.proofs.Passed.{Passed}
use Rattle.tool_text.proofs.printing.print_stream.Given as goal

abbrev pub invariant-pieces : goal.invariant-pieces
invariant-pieces g l = record {
  input_sound : g.R.Source.failed l.input ≡ false;
  out_sound : g.W.Sink.failed l.out ≡ false;
  eager : g.W.Sink.takes_some l.out ≡ g.W.Sink.takes_some l.fn.out;
  space : length l.chunk ≡ 4096;
  empty : l.text.items ≡ [];
  same : g.P.Printer.lines l.printer ≡ g.P.Printer.lines l.fn.printer;
  passed : Passed g.P.Printer.most g.R.Source.HasLeft g.W.Sink.HasTaken (g.P.Printer.WasFed l.printer) (g.P.Printer.lines l.fn.printer) l.fn.input l.input l.fn.out l.out l.room;
}

abbrev pub decreases-pieces : goal.decreases-pieces
decreases-pieces g l = l.room
