use Rattle.std.proofs.Common.{◌≡◌, ℕ, ◌-◌, List, [], length, min, take, Option, Some, None, sym, ap, ◌∙◌}
use Rattle.std.proofs.lemmas.List.{nil_from_length}
use Rattle.std.specs.Option.{MatchOption, IfNone}
use Rattle.lock_table.proofs.Fronts.{begins_cut}
use Rattle.lock_table.proofs.Numbers.{all_but_take}
use Rattle.lock_table.proofs.own_locks.OwnLocks.pop.Goals as goal

-- where nothing was taken there was nothing
none_taken : {A : Type 0} (result : Option A) (P : Type 0) (Q : A → Type 0) {B : Type 0} (xs : List B) (n : ℕ) → n ≡ length xs → MatchOption result ((n ≡ 0) × P) Q → IfNone result (xs ≡ [])
none_taken None P Q xs n long none = nil_from_length xs (sym long ∙ none.0)
none_taken (Some lock) P Q xs n long some = tt

pub returns-clause-rest : goal.returns-clause-rest
returns-clause-rest c = rw (← c.self.view_is)
    (c.pop-lock.ensures.rest ∙ ap (λ (n : ℕ). take (n - 1) c.self.inside.locks.items) c.self.inside.locks.ok.0 ∙ all_but_take c.self.inside.locks.items)

pub returns-clause-none : goal.returns-clause-none
returns-clause-none c = rw (← c.self.view_is) (none_taken c.pop-lock.result _ _ c.self.inside.locks.items c.self.inside.locks.len c.self.inside.locks.ok.0 c.pop-lock.ensures.cases)

pub invariant_of-self : goal.invariant_of-self
invariant_of-self c =
    begins_cut c.self.inside.whole_count c.min-self-inside.result (c.self.inside.locks.len - 1) c.self.inside.locks.items c.pop-lock.new.self.items c.self.invariant c.pop-lock.ensures.rest
    (c.min-self-inside.ensures ∙ ap (min c.self.inside.whole_count) (c.len.ensures ∙ c.pop-lock.new.self.ok.0))
