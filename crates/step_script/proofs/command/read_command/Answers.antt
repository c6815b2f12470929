use Rattle.std.proofs.Common.{ℕ, List, [], Bor}
use Rattle.step_script.proofs.Counts.{six_words}
use Rattle.step_script.proofs.command.read_command.Goals as goal

pub returns-in-len6 : goal.returns-in-len6
returns-in-len6 c =
    let none : Bor (List ℕ) = record { ref_ptr = (0, 0); now = [] } in
    let whole = six_words c.args.session c.args.words.now none c.in-len6.len_at_least c.in-len6.len_below in
    rw whole (c.asked-in-len6.ensures _ c.read_fetch.ensures)
