use Rattle.std.proofs.Common.{◌≡◌, ◌++◌, List, rules, subst, sym}
use Rattle.value_types.specs.declared.value.Value.{Value}
use Rattle.bound_tree.specs.Typed.{AreOf, system_kinds}
use Rattle.batch_meaning.specs.Raised.{error_values}
use Rattle.session_state.specs.Parts.{counts_in}
use Rattle.session_state.proofs.Casting.{system_typed}
use Rattle.session_state.proofs.system.system_in.Goals as goal

pub new-requires-clause-typed : goal.new-requires-clause-typed
new-requires-clause-typed c =
    let is : c.append.new.self.items ≡ counts_in c.args.session.now ++ error_values c.args.around.now.caught = search rules in
    subst (λ (l : List Value). AreOf system_kinds l) (sym is) (system_typed c.args.session.now c.args.around.now.caught
    (rw c.in_ok-values.ensures.counts at c.in_ok-values.ensures.typed) (rw c.in_ok-errors.ensures.errors at c.in_ok-errors.ensures.typed))
