use Rattle.std.proofs.Common.{◌≡◌, false, inl, sym, ◌∙◌}
use Rattle.std.specs.Result.{is_err}
use Rattle.tsqld.specs.Program.{house_seats}
use Rattle.tsqld.proofs.Runs.{tallied_from, where_ok}
use Rattle.tsqld.proofs.program.listen.Goals as goal

pub returns-clause-full : goal.returns-clause-full
returns-clause-full g c = c.serve_hall-tally.ensures.full house_seats c.requires.full

pub returns-clause-listened : goal.returns-clause-listened
returns-clause-listened g c =
    let well : is_err c.begin.result ≡ false = sym c.is_err.ensures.value ∙ c.if-is_err.false in
    let same = where_ok c.begin.result well c.begin.ensures.no_fault in
    inl (record {
      tally = c.serve_hall-tally.result;
      begun = λ few. c.serve_hall-tally.ensures.begun.0 ∙ where_ok c.begin.result well c.begin.ensures.begun;
      at_port = c.serve_hall-tally.ensures.begun.1 ∙ where_ok c.begin.result well c.begin.ensures.at_port;
      worked = rw c.begin.ensures.told at c.serve_hall-tally.ensures.worked;
      others = c.serve_hall-tally.ensures.others;
      tallied = tallied_from _ _ _ _ _ _ same c.begin.ensures.finished c.begin.ensures.failed c.begin.ensures.closed c.begin.ensures.made c.begin.ensures.back c.serve_hall-tally.ensures.tallied;
      closes = c.serve_hall-tally.ensures.may_close;
      printed = c.print_served.ensures.printed;
    })
