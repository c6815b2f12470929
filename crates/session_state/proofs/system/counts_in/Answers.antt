use Rattle.std.proofs.Common.{◌≡◌, List, rules, subst, sym}
use mir.Syntax.{w32}
use mir.Val.{SFits}
use Rattle.value_types.specs.declared.value.Value.{Value}
use Rattle.bound_tree.specs.Typed.{AreOf}
use Rattle.session_state.specs.Parts.{count_kinds, counts_in}
use Rattle.session_state.proofs.Casting.{counts_typed}
use Rattle.session_state.proofs.system.counts_in.Goals as goal

pub returns-clause-typed : goal.returns-clause-typed
returns-clause-typed c =
    let is : c.in_ok-vec.field-0.items ≡ counts_in c.args.session.now = search rules in
    let error : SFits w32 c.error.result = search rules in
    let fetched : SFits w32 c.fetch_status.result = search rules in
    subst (λ (l : List Value). AreOf count_kinds l) (sym is) (counts_typed c.args.session.now (rw c.count.ensures.count at c.count.ensures.most) (rw c.row_count.ensures.count at c.row_count.ensures.most) (rw c.error.ensures at error) (rw c.fetch_status.ensures at fetched))
