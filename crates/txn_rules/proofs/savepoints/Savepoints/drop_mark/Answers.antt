use Rattle.std.proofs.Common.{◌≡◌, rules}
use Rattle.std.proofs.lemmas.Fn.{filter_same}
use Rattle.txn_rules.specs.Savepoints.{is_other, without}
use Rattle.txn_rules.proofs.savepoints.Savepoints.drop_mark.Goals as goal

left : (c : goal.After-retain) → c.retain.new.self.items ≡ without c.args.mark c.self.inside.savepoints.items
left c = filter_same _ (is_other c.args.mark) _ (λ x b f called. search rules) _ _ c.retain.ensures.filtered

pub returns : goal.returns
returns c = rw (← c.self.view_is) (left c)
