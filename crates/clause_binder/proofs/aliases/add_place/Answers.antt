use Rattle.std.proofs.Common.{◌≡◌, Some, None, is_some, false, ap, sym, subst, ◌∙◌, rules}
use Rattle.std.specs.Prelude.{if◌then◌else◌}
use Rattle.value_types.specs.Units.{same_units}
use Rattle.clause_binder.specs.ByName.{or_place, place_at}
use Rattle.clause_binder.proofs.ByName.{place_added}
use Rattle.clause_binder.proofs.aliases.add_place.Goals as goal

pub returns-in_ok-insert : goal.returns-in_ok-insert
returns-in_ok-insert c q =
    let gone : c.contains_key.result ≡ false = search rules in
    let fresh : is_some (place_at c.args.first.now c.in_ok-copy.field-0) ≡ false = ap (λ n. is_some (place_at c.args.first.now n)) c.in_ok-copy.ensures ∙ sym c.contains_key.ensures ∙ gone in
    subst (λ n. place_at c.insert.new.self q ≡ or_place (place_at c.args.first.now q) (if same_units q n then Some c.args.place else None)) c.in_ok-copy.ensures
    (place_added c.args.first.now c.insert.new.self c.in_ok-copy.field-0 c.args.place c.in_ok-insert.ensures.updates.0 fresh q)
