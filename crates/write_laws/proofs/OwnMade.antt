-- A plan of own rows alone is made as it was planned, whatever was found.
use Rattle.std.proofs.Common.{◌≡◌, refl, sym, ap, ◌∙◌, subst, Bool, true, false, not, ◌&&◌, if◌then◌else◌, List, [], ◌∷◌, ◌++◌}
use Rattle.std.specs.List.{AllByRecursion}
use Rattle.value_types.specs.declared.table_name.TableName.{TableName}
use Rattle.value_types.specs.declared.value.Value.{Value}
use Rattle.tsql_tree.specs.declared.definition.TableTree.{TableTree}
use Rattle.step_model.specs.declared.change.Deed.{Deed}
use Rattle.step_model.specs.declared.change.Deed.TheVariants as deed
use Rattle.step_model.specs.declared.change.Planned.{Planned}
use Rattle.step_model.specs.declared.manner.Manner.{Manner}
use Rattle.step_model.specs.declared.op.Op.{Op}
use Rattle.step_model.specs.declared.reply.Reply.{Reply}
use Rattle.step_model.specs.declared.reply.Reply.TheVariants as replies
use Rattle.step_model.specs.Exchange.{Exchange}
use Rattle.step_model.specs.Own.{is_insert, is_own, planned_by}
use Rattle.dml_exec.specs.Planning.{as_found, as_told}
use Rattle.statement_paths.specs.Paths.{AreApplied, done_of}
use Rattle.write_laws.specs.Made.{AreMade, IsMadeBy, op_of}
use Rattle.write_laws.proofs.Made.{writes_make}

abbrev AreOwn : List Planned → Type 0
AreOwn changes = AllByRecursion (λ change. is_own change ≡ true) changes

-- none of it is asked for
as_planned : (plan : List Planned) → (found : List Bool) → AreOwn plan → as_found plan found ≡ plan
as_planned [] found own = refl
as_planned (change ∷ plan) [] own = refl
as_planned (change ∷ plan) (there ∷ found) own =
    ap (λ (b : Bool). if not b && not (is_insert change.deed) then as_told there change ++ as_found plan found else change ∷ as_found plan (there ∷ found)) own.0
    ∙ ap (λ (l : List Planned). change ∷ l) (as_planned plan (there ∷ found) own.1)

-- each change was done
deed_done : (table : TableName) (key : List Value) (deed : Deed) → planned_by (op_of table key deed) replies.Done ≡ record { table = table; key = key; deed = deed } ∷ []
deed_done table key deed.Erase = refl
deed_done table key (deed.Replace row) = refl
deed_done table key (deed.Insert row) = refl

one_done : (change : Planned) (op : Op) (reply : Reply) → is_own change ≡ true → op ≡ op_of change.table change.key change.deed → IsMadeBy change reply → planned_by op reply ≡ change ∷ []
one_done change op replies.Done own is made = ap (λ (o : Op). planned_by o replies.Done) is ∙ deed_done change.table change.key change.deed
one_done change op replies.Exists own is made = absurd (let no : false ≡ true = sym made.0 ∙ own in cc)
one_done change op reply own is made = absurd made

all_done : (changes : List Planned) (put : List Exchange) → AreOwn changes → AreMade changes put → done_of put ≡ changes
all_done [] put own made = ap done_of made
all_done (change ∷ changes) put own made =
    ap done_of made.2
    ∙ ap (λ (l : List Planned). planned_by made.0.op made.0.reply ++ l) (all_done changes made.1 own.1 made.5)
    ∙ ap (λ (l : List Planned). l ++ changes) (one_done change made.0.op made.0.reply own.0 made.3 made.4)

pub own_applied : (manner : Manner) (shapes : List TableTree) (plan planned : List Planned) (part : List Exchange) → AreOwn plan → AreApplied manner shapes plan planned part → planned ≡ plan
own_applied manner shapes plan planned part own applied =
    applied.makes
    ∙ all_done plan applied.put own (subst (λ (l : List Planned). AreMade l applied.put) (as_planned plan applied.found own) (writes_make manner shapes (as_found plan applied.found) applied.put applied.puts))
