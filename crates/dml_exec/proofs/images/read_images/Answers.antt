use Rattle.std.proofs.Common.{true, false, ap, refl, sym, ◌∙◌}
use Rattle.std.specs.List.{list_any}
use Rattle.std.specs.Option.{option_map}
use Rattle.scalar_eval.specs.Scopes.{values_of}
use Rattle.dml_exec.specs.Reading.{given_of, images_of, is_read_fetched}
use Rattle.dml_exec.proofs.Held.{asks_over, asks_room}
use Rattle.dml_exec.proofs.ReadTables.{reads_fetched}
use Rattle.dml_exec.proofs.images.read_images.Goals as goal

pub read_all-requires : goal.read_all-requires
read_all-requires g c =
    let given = given_of (option_map (λ tables. tables.now) c.args.given) in
    record { may = λ fetched. c.requires.may (sym (reads_fetched given (values_of c.args.vars.now) c.args.shapes.now c.args.of.now) ∙ ap (list_any (is_read_fetched given)) (sym c.in-Ok.ensures) ∙ fetched) }

pub returns-in-Ok-clause-asks : goal.returns-in-Ok-clause-asks
unfolding images_of
returns-in-Ok-clause-asks g c = asks_room true _ (rw c.in-Ok.ensures at c.read_all.ensures.asks)

pub returns-in-Err-clause-asks : goal.returns-in-Err-clause-asks
unfolding images_of
returns-in-Err-clause-asks g c = asks_room false _ (asks_over refl)
