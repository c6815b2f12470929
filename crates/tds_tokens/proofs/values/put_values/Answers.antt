use Rattle.std.proofs.Common.{◌≡◌, ◌++◌, [], inl, inr, length, sym, ap, ◌∙◌, arith}
use Rattle.std.proofs.lemmas.List.{append-nil}
use Rattle.tds_tokens.specs.Spelling.{row_bytes}
use Rattle.tds_tokens.proofs.RowEnds.{row_bytes-no_columns, row_bytes-no_values}
use Rattle.tds_tokens.proofs.values.put_values.Goals as goal
use Rattle.tds_tokens.proofs.values.put_values.Goals.{In-None}

-- no value is left at the end
none : (c : In-None) → row_bytes c.loop-column.column-iterator.a.rest.now c.loop-column.column-iterator.b.rest.now ≡ []
none c =
    elim c.in-None.ensures.steps [
      | inl ended ↦ row_bytes-no_columns _ _ ended.1.0
      | inr ended ↦ row_bytes-no_values _ _ ended.1.0
    ]

pub returns-clause-items : goal.returns-clause-items
returns-clause-items c =
    sym (append-nil c.loop-column.out.items) ∙ sym (ap (λ bytes. c.loop-column.out.items ++ bytes) (none c)) ∙ c.loop-column.invariant.items

pub returns-clause-len : goal.returns-clause-len
returns-clause-len c = omega (arith, ap length (none c))
