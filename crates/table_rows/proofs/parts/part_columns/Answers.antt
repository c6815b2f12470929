use Rattle.std.proofs.Common.{◌≡◌, sym, ap, ◌∙◌, ℕ, ◌-◌, length, slice_get, None, Some, arith}
use Rattle.std.specs.Option.{option_map}
use Rattle.tsql_tree.specs.declared.definition.ForeignTree.{ForeignTree}
use Rattle.tsql_tree.specs.declared.definition.KeyTree.{KeyTree}
use Rattle.table_rows.proofs.PartColumns.{foreign_part, unique_part}
use Rattle.table_rows.proofs.parts.part_columns.Goals as goal

pub returns-in-Some : goal.returns-in-Some
returns-in-Some c =
    let at : c.from-place.result ≡ c.args.place = c.from-place.ensures in
    let is : option_map (λ (unique : KeyTree). unique.columns) (slice_get c.args.shape.now.uniques c.args.place) ≡ Some c.in-Some.names.now =
    ap (λ (n : ℕ). option_map (λ (unique : KeyTree). unique.columns) (slice_get c.args.shape.now.uniques n)) (sym at) ∙ sym c.unique_columns.ensures ∙ ap (option_map (λ names. names.now)) c.in-Some.is in
    unique_part c.args.shape.now c.args.place c.in-Some.names.now is

pub returns-in-None : goal.returns-in-None
returns-in-None c =
    let at : c.from-place.result ≡ c.args.place = c.from-place.ensures in
    let is : option_map (λ (unique : KeyTree). unique.columns) (slice_get c.args.shape.now.uniques c.args.place) ≡ None =
    ap (λ (n : ℕ). option_map (λ (unique : KeyTree). unique.columns) (slice_get c.args.shape.now.uniques n)) (sym at) ∙ sym c.unique_columns.ensures ∙ ap (option_map (λ names. names.now)) c.in-None.is in
    let place : c.saturating_sub.result ≡ c.args.place - length c.args.shape.now.uniques = omega (arith, c.saturating_sub.ensures, c.len.ensures, at) in
    c.foreign_columns.ensures
    ∙ ap (λ (n : ℕ). option_map (λ (foreign : ForeignTree). foreign.columns) (slice_get c.args.shape.now.foreigns n)) place
    ∙ foreign_part c.args.shape.now c.args.place is
