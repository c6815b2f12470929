use Rattle.std.proofs.Common.{◌≡◌, ℕ, [], ◌∙◌, rules, arith}
use Rattle.std.proofs.lemmas.List.{get_or_past}
use Rattle.lock_table.specs.BySession.{list_of}
use Rattle.lock_table.proofs.Lists.{none_listed}
use Rattle.lock_table.proofs.Numbers.{of_lists, below_or_past}
use Rattle.lock_table.proofs.LockTable.new.Goals as goal

empty : (c : goal.After-none) → (who : ℕ) → list_of who c.from_fn.result ≡ []
empty c who =
    below_or_past (list_of who c.from_fn.result ≡ []) who 65
    (λ below. let called = (c.from_fn.ensures.items.at who [] below).2 in search rules)
    (λ past. get_or_past c.from_fn.result who [] (omega (arith, past, c.from_fn.ensures.items.long)))

pub invariant_of-result : goal.invariant_of-result
invariant_of-result c = none_listed c.from_fn.result c.none.result c.from_fn.ensures.items.long (empty c) c.none.ensures

pub returns : goal.returns
returns c session = of_lists session c.from_fn.result ∙ empty c session
