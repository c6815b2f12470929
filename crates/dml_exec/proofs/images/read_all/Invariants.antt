use Rattle.std.proofs.Common.{◌≡◌, [], true}
use Rattle.std.specs.List.{list_any}
use Rattle.std.specs.Option.{option_map}
use Rattle.step_model.specs.Dialog.{Leads}
use Rattle.dml_exec.specs.Asking.{MayWork}
use Rattle.dml_exec.specs.Reading.{given_of, images_from, is_read_fetched}
use Rattle.dml_exec.proofs.images.read_all.Given as goal

-- the ranges that are left lead to the whole
abbrev pub invariant-loop-read : goal.invariant-loop-read
invariant-loop-read g l = record {
  may : list_any (is_read_fetched (given_of (option_map (λ tables. tables.now) l.given))) l.read-iterator.rest.items ≡ true → MayWork (g.P.Port.past l.port) l.manner;
  standing : (g.P.Port.past l.port).standing ≡ (g.P.Port.past l.initial.port).standing;
  leads : Leads (g.P.Port.past l.initial.port) (g.P.Port.past l.port) l.manner
      (images_from (given_of (option_map (λ tables. tables.now) l.given)) l.shapes l.level [] l.fn.reads.items)
      (images_from (given_of (option_map (λ tables. tables.now) l.given)) l.shapes l.level l.images.items l.read-iterator.rest.items);
}
