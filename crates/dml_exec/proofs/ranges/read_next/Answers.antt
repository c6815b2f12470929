use Rattle.std.proofs.Common.{true, false, ap, refl, Some, Ok}
use Rattle.std.specs.Option.{option_map}
use Rattle.step_model.specs.declared.range.Start.TheVariants.{Past}
use Rattle.dml_exec.specs.Reading.{fits, is_short, key_width}
use Rattle.dml_exec.proofs.Held.{asks_over, asks_room}
use Rattle.dml_exec.proofs.RangeSteps.{asks_known, asks_unknown, fetched}
use Rattle.dml_exec.proofs.ranges.read_next.Goals as goal

pub returns-in-Ok-clause-asks : goal.returns-in-Ok-clause-asks
returns-in-Ok-clause-asks g c = fetched (key_width (option_map (λ of. of.now) c.args.shape) c.args.part) (fits (option_map (λ of. of.now) c.args.shape) c.args.part) _ c.args.rows.now.items _ c.requires.fetch c.in-Row.ensures.past c.in-Row.ensures.reply (asks_room true _ (asks_over (ap (λ rows. Ok (rows, Some (Past c.in-Row.key))) c.in-Ok.ensures)))

pub returns-in-Row-clause-asks : goal.returns-in-Row-clause-asks
returns-in-Row-clause-asks g c = fetched (key_width (option_map (λ of. of.now) c.args.shape) c.args.part) (fits (option_map (λ of. of.now) c.args.shape) c.args.part) _ c.args.rows.now.items _ c.requires.fetch c.in-Row.ensures.past c.in-Row.ensures.reply (asks_room false _ (asks_over refl))

pub returns-in-Ok-behind_gone-clause-asks : goal.returns-in-Ok-behind_gone-clause-asks
returns-in-Ok-behind_gone-clause-asks g c = fetched (key_width (option_map (λ of. of.now) c.args.shape) c.args.part) (fits (option_map (λ of. of.now) c.args.shape) c.args.part) _ c.args.rows.now.items _ c.requires.fetch c.in-Gone.ensures.past c.in-Gone.ensures.reply
    (asks_known (is_short (key_width (option_map (λ of. of.now) c.args.shape) c.args.part) c.in-Gone.key) _ (asks_over (ap (λ start. Ok (c.args.rows.now.items, Some start)) c.in-Ok-behind_gone.ensures.start)))

pub returns-in-Gone-clause-asks : goal.returns-in-Gone-clause-asks
returns-in-Gone-clause-asks g c = fetched (key_width (option_map (λ of. of.now) c.args.shape) c.args.part) (fits (option_map (λ of. of.now) c.args.shape) c.args.part) _ c.args.rows.now.items _ c.requires.fetch c.in-Gone.ensures.past c.in-Gone.ensures.reply
    (asks_unknown (is_short (key_width (option_map (λ of. of.now) c.args.shape) c.args.part) c.in-Gone.key) _ c.in-Err-behind_gone.ensures.sure)

pub returns-in-End-clause-asks : goal.returns-in-End-clause-asks
returns-in-End-clause-asks g c = fetched (key_width (option_map (λ of. of.now) c.args.shape) c.args.part) (fits (option_map (λ of. of.now) c.args.shape) c.args.part) _ c.args.rows.now.items _ c.requires.fetch c.in-End.ensures.past c.in-End.ensures.reply (asks_over refl)

pub returns-in-Memory-clause-asks : goal.returns-in-Memory-clause-asks
returns-in-Memory-clause-asks g c = fetched (key_width (option_map (λ of. of.now) c.args.shape) c.args.part) (fits (option_map (λ of. of.now) c.args.shape) c.args.part) _ c.args.rows.now.items _ c.requires.fetch c.in-Memory.ensures.past c.in-Memory.ensures.reply (asks_over refl)

pub returns-in-TimedOut-clause-asks : goal.returns-in-TimedOut-clause-asks
returns-in-TimedOut-clause-asks g c = fetched (key_width (option_map (λ of. of.now) c.args.shape) c.args.part) (fits (option_map (λ of. of.now) c.args.shape) c.args.part) _ c.args.rows.now.items _ c.requires.fetch c.in-TimedOut.ensures.past c.in-TimedOut.ensures.reply (asks_over refl)

pub returns-in-Victim-clause-asks : goal.returns-in-Victim-clause-asks
returns-in-Victim-clause-asks g c = fetched (key_width (option_map (λ of. of.now) c.args.shape) c.args.part) (fits (option_map (λ of. of.now) c.args.shape) c.args.part) _ c.args.rows.now.items _ c.requires.fetch c.in-Victim.ensures.past c.in-Victim.ensures.reply (asks_over refl)
