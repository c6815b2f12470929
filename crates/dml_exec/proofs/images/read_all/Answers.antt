use Rattle.std.proofs.Common.{◌≡◌, ◌∙◌, ◌∷◌, refl, sym, rules}
use Rattle.std.proofs.lemmas.List.{nil_from_length}
use Rattle.std.proofs.lemmas.Result.{err_from_is_err_and}
use Rattle.step_model.proofs.Dialogs.{front_here}
use Rattle.std.specs.Option.{option_map}
use Rattle.dml_exec.specs.Reading.{given_of, is_read_fetched}
use Rattle.dml_exec.proofs.RangeSteps.{images_done, images_failed, images_full, images_next, first_may, rest_may}
use Rattle.dml_exec.proofs.images.read_all.Goals as goal

pub loop-read-init : goal.loop-read-init
loop-read-init g c =
    let all : c.into_iter-read-iterator.result.rest.items ≡ c.args.reads.items = search rules in
    record { may = rw all c.requires.may; standing = refl; leads = rw (c.new-images.ensures.items, all) front_here }

pub returns-in_err-rows-clause-asks : goal.returns-in_err-rows-clause-asks
returns-in_err-rows-clause-asks g c =
    let p = err_from_is_err_and c.from_residual.result c.from_residual.ensures.1 in
    let is : c.loop-read.read-iterator.rest.items ≡ c.in-Some.read ∷ c.next.new.self.rest.items = search rules in
    rw (p.1, p.2) (images_failed _ c.args.shapes.now c.args.level c.loop-read.images.items _ c.in-Some.read c.next.new.self.rest.items is c.loop-read.invariant.leads _ c.in_err-rows.ensures.asks)

pub returns-then-not-add-clause-asks : goal.returns-then-not-add-clause-asks
returns-then-not-add-clause-asks g c =
    let is : c.loop-read.read-iterator.rest.items ≡ c.in-Some.read ∷ c.next.new.self.rest.items = search rules in
    images_full _ c.args.shapes.now c.args.level c.loop-read.images.items _ c.in-Some.read c.next.new.self.rest.items is c.loop-read.invariant.leads _ c.in_ok-rows.ensures.asks

pub read_table-requires : goal.read_table-requires
read_table-requires g c =
    let is : c.loop-read.read-iterator.rest.items ≡ c.in-Some.read ∷ c.next.new.self.rest.items = search rules in
    record { may = first_may (is_read_fetched (given_of (option_map (λ tables. tables.now) c.args.given))) c.in-Some.read is c.loop-read.invariant.may }

pub loop-read-preserved : goal.loop-read-preserved
loop-read-preserved g c =
    let is : c.loop-read.read-iterator.rest.items ≡ c.in-Some.read ∷ c.next.new.self.rest.items = search rules in
    record {
      may = rest_may (is_read_fetched (given_of (option_map (λ tables. tables.now) c.args.given))) c.in-Some.read is c.loop-read.invariant.may c.in_ok-rows.ensures.standing;
      standing = c.in_ok-rows.ensures.standing ∙ c.loop-read.invariant.standing;
      leads = rw (c.add.ensures (search rules))
          (images_next _ c.args.shapes.now c.args.level c.loop-read.images.items _ c.in-Some.read c.next.new.self.rest.items is c.loop-read.invariant.leads _ c.in_ok-rows.ensures.asks);
    }

pub returns-clause-asks : goal.returns-clause-asks
returns-clause-asks g c =
    images_done _ c.args.shapes.now c.args.level c.loop-read.images.items c.loop-read.read-iterator.rest.items
    (nil_from_length c.loop-read.read-iterator.rest.items (sym c.loop-read.read-iterator.rest.ok.0 ∙ c.in-None.ensures.steps.0)) c.loop-read.invariant.leads
