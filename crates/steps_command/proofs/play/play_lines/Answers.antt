use Rattle.std.proofs.Common.{◌≡◌, ◌++◌, ◌+◌, List, ℕ, Option, None, Some, Err, arith}
use Rattle.std.proofs.lemmas.Result.{err_from_is_err_and}
use Rattle.steps_command.specs.Script.{lines_of, newline}
use Rattle.step_script.specs.Pieces.{pieces}
use Rattle.steps_command.specs.Play.{Stage, first_manners}
use Rattle.steps_command.proofs.Leads.{stop_line, answer_line, printed_on}
use Rattle.steps_command.proofs.play.play_lines.Goals as goal

pub returns-in_err-play_line : goal.returns-in_err-play_line
returns-in_err-play_line g c =
    let p = err_from_is_err_and c.from_residual.result c.from_residual.ensures.1 in
    let cut = rw c.in-Some.is at c.cut.ensures.pieces in
    let kept = c.loop-behind.invariant.printed in
    let said = c.in_err-play_line.ensures in
    let now : Stage = record { engine = g.E.ScriptEngine.state c.loop-behind.engine; manners = c.loop-behind.manners } in
    rw (p.1, p.2) (
      kept.0 ++ said.0,
      printed_on c.args.out.now.items c.loop-behind.out.items c.play_line.new.out.items kept.0 said.0 kept.1 said.1,
      kept.2 said.0 (Err c.in_err-play_line.field-0.0) (stop_line c.args.passes c.loop-behind.left.now c.cut.result.0.now c.in-Some.behind.now now c.loop-behind.number said.0 (Err c.in_err-play_line.field-0.0) cut said.2),
    )

pub loop-behind-preserved : goal.loop-behind-preserved
loop-behind-preserved g c =
    let cut = rw c.in-Some.is at c.cut.ensures.pieces in
    let shorter = rw c.in-Some.is at c.cut.ensures.shorter in
    let kept = c.loop-behind.invariant.printed in
    let said = c.in_ok-play_line.ensures in
    let first : Stage = record { engine = g.E.ScriptEngine.state c.args.engine.now; manners = first_manners } in
    let now : Stage = record { engine = g.E.ScriptEngine.state c.loop-behind.engine; manners = c.loop-behind.manners } in
    let mid : Stage = record { engine = g.E.ScriptEngine.state c.play_line.new.engine; manners = c.play_line.new.manners } in
    record {
      few = omega (arith, c.loop-behind.invariant.few, shorter);
      printed = (
        kept.0 ++ said.0,
        printed_on c.args.out.now.items c.loop-behind.out.items c.play_line.new.out.items kept.0 said.0 kept.1 said.1,
        answer_line first (lines_of c.args.passes (pieces newline c.args.text.now)) now mid c.loop-behind.number c.args.passes c.loop-behind.left.now c.cut.result.0.now c.in-Some.behind.now kept.0 said.0 said.2.0 cut kept.2 said.2.1
            said.2.2,
      );
    }
