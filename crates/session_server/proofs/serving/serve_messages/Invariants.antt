use Rattle.std.proofs.Common.{◌≡◌, ◌-◌, ◌≤◌}
use Rattle.tds_packets.specs.Reading.{byte_limit}
use Rattle.session_server.specs.Parts.{IsSized}
use Rattle.batch_meaning.specs.Progress.{Ready}
use Rattle.session_server.proofs.Served.{Served}
use Rattle.session_server.proofs.serving.serve_messages.Given as goal

-- each message so far has its response, and no byte was taken behind them
abbrev pub invariant-loop-end : goal.invariant-loop-end
invariant-loop-end g l = record {
  served : Served l.config g.L.Source.left g.L.Source.given l.initial.line l.line (g.P.Port.past l.initial.port) (g.P.Port.past l.port) (g.L.Sink.written l.initial.line) (g.L.Sink.written l.line) l.spid l.reader l.state l.session;
  ready : Ready l.session (g.P.Port.past l.port);
  sized : IsSized l.state;
  reads : g.L.Source.faults l.line ≡ g.L.Source.faults l.initial.line;
  writes : g.L.Sink.faults l.line ≡ g.L.Sink.faults l.initial.line;
  held : g.L.Line.held l.line ≡ g.L.Line.held l.initial.line;
  within : l.reader ≤ byte_limit;
}

abbrev pub decreases-loop-end : goal.decreases-loop-end
decreases-loop-end g l = byte_limit - l.reader
