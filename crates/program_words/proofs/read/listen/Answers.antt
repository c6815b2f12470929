use Rattle.std.proofs.Common.{◌≡◌, None, Some, arith, rules, codes}
use Rattle.clap.specs.Words.{found_of, rows_of}
use Rattle.program_words.specs.Asked.{port_in, values_of}
use Rattle.program_words.proofs.Ranges.{number_or_in_range}
use Rattle.program_words.proofs.read.listen.Goals as goal

pub overflow_cast-result : goal.overflow_cast-result
overflow_cast-result c =
    let values = values_of (rows_of (found_of c.args.options.now)) in
    let is : port_in values ≡ Some c.in_ok-port.port = search rules in
    let within = number_or_in_range None 65535 c.in_ok-port.port (values (codes "port")) tt is in
    record { fits = omega (arith, within.1) }
