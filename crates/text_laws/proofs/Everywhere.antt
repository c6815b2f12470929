-- What holds of a statement and of each that it holds, at whatever level.
use Rattle.std.specs.Prelude.{◌≡◌, ℕ, zero, suc, List, [], ◌∷◌}
use Rattle.std.specs.List.{AllByRecursion}
use Rattle.std.proofs.Common.{sym, subst}
use Rattle.tsql_tree.specs.declared.statement.Form.{Form-F}
use Rattle.tsql_tree.specs.declared.statement.Statement.{Statement}
use Rattle.binder.specs.Names.{Layer, form_of}
use Rattle.text_laws.specs.Laws.{EachIn, Within, Everywhere}

pub all_more : (P Q : Statement → Type 0) → ((of : Statement) → P of → Q of) → (statements : List Statement) → AllByRecursion P statements → AllByRecursion Q statements
all_more P Q more [] all = tt
all_more P Q more (of ∷ rest) all = (more of all.0, all_more P Q more rest all.1)

each_more : (P Q : Statement → Type 0) → ((of : Statement) → P of → Q of) → (layer : Layer) → EachIn P layer → EachIn Q layer
each_more P Q more (Form-F.If test so otherwise) each = (more so each.0, λ of is. more of (each.1 of is))
each_more P Q more (Form-F.While test body) each = more body each
each_more P Q more (Form-F.Block body) each = all_more P Q more body each
each_more P Q more (Form-F.TryCatch body handler) each = (all_more P Q more body each.0, all_more P Q more handler each.1)
each_more P Q more _ each = tt

-- of what holds of a statement and everywhere in it
pub everywhere_by : (P : Statement → Type 0) (of : Statement) (layer : Layer) → form_of of ≡ layer → P of → EachIn (Everywhere P) layer → Everywhere P of
everywhere_by P of layer is here each zero = tt
everywhere_by P of layer is here each (suc levels) =
    (here, subst (EachIn (λ inner. Within levels P inner)) (sym is) (each_more (Everywhere P) (λ inner. Within levels P inner) (λ inner all. all levels) layer each))

within_more : (P Q : Statement → Type 0) → ((of : Statement) → P of → Q of) → (levels : ℕ) (of : Statement) → Within levels P of → Within levels Q of
within_more P Q more zero of all = tt
within_more P Q more (suc levels) of all = (more of all.0, each_more (λ inner. Within levels P inner) (λ inner. Within levels Q inner) (λ inner each. within_more P Q more levels inner each) (form_of of) all.1)

pub everywhere_more : (P Q : Statement → Type 0) → ((of : Statement) → P of → Q of) → (of : Statement) → Everywhere P of → Everywhere Q of
everywhere_more P Q more of all levels = within_more P Q more levels of (all levels)
