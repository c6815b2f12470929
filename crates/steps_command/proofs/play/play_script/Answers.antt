use Rattle.std.proofs.Common.{◌≡◌, List, ℕ, length, take, ap, subst, ◌∙◌}
use Rattle.std.specs.Prelude.{nat_lt}
use Rattle.std.proofs.lemmas.List.{take_min}
use Rattle.step_script.specs.Pieces.{pieces}
use Rattle.steps_command.specs.Script.{lines_of, newline, script_limit, script_lines}
use Rattle.steps_command.specs.Play.{Stage, Plays, first_manners}
use Rattle.steps_command.proofs.play.play_script.Goals as goal

pub returns : goal.returns
unfolding script_lines
returns g c =
    let played = c.play_lines.ensures in
    let input = c.args.input.now in
    let first : Stage = record { engine = g.E.ScriptEngine.state c.args.engine.now; manners = first_manners } in
    let front : take c.min.result input ≡ take script_limit input = ap (λ (n : ℕ). take n input) c.min.ensures ∙ take_min script_limit input in
    (played.0, played.1, subst (λ (text : List ℕ). Plays first 1 (lines_of (nat_lt script_limit (length input)) (pieces newline text)) played.0 c.play_lines.result) front played.2)
