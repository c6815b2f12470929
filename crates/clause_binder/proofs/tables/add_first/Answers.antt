use Rattle.std.proofs.Common.{◌≡◌, sym, ◌∙◌, false, rules}
use Rattle.clause_binder.proofs.ByName.{sets_at, table_added}
use Rattle.clause_binder.proofs.tables.add_first.Goals as goal

pub returns-in_ok-insert : goal.returns-in_ok-insert
returns-in_ok-insert c =
    let gone : c.contains_key.result ≡ false = search rules in
    table_added c.args.first.now c.insert.new.self c.as_slice-name.result.now c.args.table
    (sets_at c.args.first.now c.insert.new.self c.as_slice-name.result c.args.table c.in_ok-insert.ensures.updates.0)
    (sym c.contains_key.ensures ∙ gone) c.as_slice-name.ensures
