use Rattle.std.proofs.Common.{◌≡◌, [], refl, sym, arith}
use Rattle.std.proofs.lemmas.Bool.{eqb-true, eqb-false}
use Rattle.std.proofs.lemmas.List.{nil_from_length}
use Rattle.batch_forms.proofs.Taken.{first_told}
use Rattle.batch_forms.proofs.drivers.with_handle.Goals as goal

pub returns-then-is_empty : goal.returns-then-is_empty
returns-then-is_empty c =
    let none : c.args.parameters.items ≡ [] = nil_from_length c.args.parameters.items (omega (arith, c.args.parameters.ok.0, eqb-true _ _ (sym c.if-is_empty.ensures))) in
    rw none refl

pub returns : goal.returns
returns c = first_told c.args.handle c.args.parameters.items c.index_mut.result.now c.tell.new.parameter (omega (arith, c.args.parameters.ok.0, eqb-false _ _ (sym c.if-is_empty.ensures))) c.index_mut.ensures.value c.tell.ensures
