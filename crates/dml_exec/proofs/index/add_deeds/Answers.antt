use Rattle.std.proofs.Common.{◌≡◌, ◌∙◌, ◌++◌, ap, rules}
use Rattle.dml_exec.proofs.IndexSteps.{added_all, gone_all, if_more, set_all}
use Rattle.dml_exec.proofs.index.add_deeds.Goals as goal

pub returns-in-Inserted : goal.returns-in-Inserted
returns-in-Inserted c = if_more c.add_rows.result (λ x new. added_all c.args.table.now c.args.places.now _ _ _ _ c.in-Inserted.is new) (rw c.as_slice.ensures at c.add_rows.ensures)

pub returns-in_ok-append-in-Set : goal.returns-in_ok-append-in-Set
returns-in_ok-append-in-Set c =
    let behind : c.append.new.self.items ≡ c.args.changes.now.items ++ c.in_ok-erased-in-Set.erased.items = search rules in
    if_more c.add_rewrites.result
    (λ x new. set_all c.args.table.now c.args.places.now _ _ _ _ _ _ _ c.in-Set.is (rw (c.as_slice-in-Set.ensures, c.as_slice-in-Set-2.ensures) at c.in_ok-erased-in-Set.ensures) behind new)
    (rw (c.as_slice-in-Set-3.ensures, c.as_slice-in-Set-4.ensures) at c.add_rewrites.ensures)

pub returns-in_ok-append-in-Erased : goal.returns-in_ok-append-in-Erased
returns-in_ok-append-in-Erased c =
    let behind : c.append-in-Erased.new.self.items ≡ c.args.changes.now.items ++ c.in_ok-erased-in-Erased.erased.items = search rules in
    gone_all c.args.table.now c.args.places.now _ _ _ _ c.in-Erased.is (behind ∙ ap (λ list. c.args.changes.now.items ++ list) (rw c.as_slice-in-Erased.ensures at c.in_ok-erased-in-Erased.ensures))
