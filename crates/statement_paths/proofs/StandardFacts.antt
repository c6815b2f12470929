-- Worked parts: what is asked where nothing is there to be found, and CREATE TABLE in the open transaction and in one of its own.
use Rattle.std.proofs.Common.{◌≡◌, ℕ, true, false, inr, List, [], ◌∷◌, ◌++◌, None, Some, Ok, refl, sym, subst}
use Rattle.std.specs.Prelude.{codes}
use Rattle.tsql_tree.specs.declared.definition.TableTree.{TableTree}
use Rattle.tsql_tree.specs.declared.statement.Form.{Form-F}
use Rattle.tsql_tree.specs.declared.statement.Statement.{Statement}
use Rattle.bound_tree.specs.declared.write.Bound.TheVariants as bound
use Rattle.binder.specs.Names.{Layer, form_of, looked_up}
use Rattle.table_rows.specs.Definitions.{is_objects, objects_name}
use Rattle.step_model.specs.declared.manner.Manner.{Manner}
use Rattle.step_model.specs.declared.op.Op.TheVariants.{Begin, Mark, BackTo, Relax, Commit}
use Rattle.step_model.specs.declared.range.Start.TheVariants.{First}
use Rattle.step_model.specs.declared.reply.Reply.TheVariants.{Began, Marked, Done, End, Ended, Exists}
use Rattle.step_model.specs.Exchange.{Exchange}
use Rattle.batch_meaning.specs.Asking.{definition_fetch, objects_fetch}
use Rattle.batch_meaning.specs.Changing.{created}
use Rattle.batch_meaning.specs.Progress.{SessionProgress}
use Rattle.batch_meaning.specs.Raised.{Around}
use Rattle.batch_meaning.specs.Selecting.{bound_over, no_effect}
use Rattle.batch_meaning.specs.Working.{known_by}
use Rattle.statement_paths.specs.Paths.{definition_put, replied, AreDefined, AreLookedUp, IsAround, IsDone, IsDoneAs, IsFailed, NoneCommits}

-- where no name is looked up nothing is asked
no_names : (manner : Manner) → AreLookedUp manner (λ name. None) [] [] [] []
no_names manner = (refl, refl)

-- of `objects` nothing is asked, and the names behind it are not looked up
objects_last : (manner : Manner) (name : List ℕ) → AreLookedUp manner (λ name. None) [] (objects_name ∷ name ∷ []) [] []
objects_last manner name = (None, [], [], refl, (refl, refl), inr (refl, refl, refl))

-- a name that is not there is one fetch
no_table : (manner : Manner) (at : ℕ) → AreLookedUp manner (λ name. None) [] (codes "t" ∷ []) (replied manner (definition_fetch (codes "t")) (End at) ∷ []) []
no_table manner at = (None, replied manner (definition_fetch (codes "t")) (End at) ∷ [], [], refl, (replied manner (definition_fetch (codes "t")) (End at), refl, (refl, refl, tt), refl), inr (refl, refl, refl))

-- a name that is known is not looked up, and stands for no table here
known_none : (manner : Manner) (name other : List ℕ) → AreLookedUp manner (λ name. Some None) [] (name ∷ other ∷ []) [] []
known_none manner name other = (None, [], [], refl, (refl, refl), inr (refl, refl, refl))

-- where nothing is defined `objects` is one fetch, and no fewer
no_definitions : (manner : Manner) (at : ℕ) → AreDefined manner First [] (replied manner (objects_fetch First) (End at) ∷ []) []
no_definitions manner at = ((refl, refl, tt), (refl, refl))

-- the begin of a transaction and the end of a statement's locks commit nothing
none_committed : (manner : Manner) → NoneCommits (replied manner Begin Began ∷ replied manner Relax Done ∷ [])
none_committed manner = (λ is. cc, ((λ is. cc), tt))

-- where an object of the name is there, the definition is taken back
present_failed : (manner : Manner) (name text : List ℕ) (mark : ℕ) → IsFailed manner (replied manner Mark (Marked mark) ∷ replied manner (created name text) Exists ∷ replied manner (BackTo mark) Done ∷ [])
present_failed manner name text mark = record {
  read = [];
  undone = replied manner Mark (Marked mark) ∷ replied manner (created name text) Exists ∷ replied manner (BackTo mark) Done ∷ [];
  parts = refl;
  reads = tt;
  undoes = inr (inr (record { mark = mark; between = replied manner (created name text) Exists ∷ []; parts = refl; forward = ((tt, tt), tt) }));
}

-- CREATE TABLE, where it names no other table
module _ (around : Around) (p : SessionProgress) (statement : Statement) (table : TableTree) (text : List ℕ) (mark place : ℕ) (is : form_of statement ≡ Form-F.CreateTable table text) (names : looked_up statement ≡ [])
    (binds : bound_over [] p.vars statement ≡ Ok bound.Plain) (another : is_objects table.name ≡ false) where
  abbrev worked : List Exchange
  worked = replied p.settings.manner Mark (Marked mark) ∷ replied p.settings.manner (created table.name text) Done ∷ []

  created_as : IsDoneAs around p (Form-F.CreateTable table text) statement (definition_put table.name text ∷ []) no_effect worked
  created_as = record {
    definitions = [];
    of = bound.Plain;
    looked = [];
    worked = worked;
    parts = refl;
    looks = subst (λ (l : List (List ℕ)). AreLookedUp p.settings.manner (known_by around statement) [] l [] []) (sym names) (refl, refl);
    binds = binds;
    works = record { mark = mark; parts = refl; another = another; plans = refl; tells = refl };
  }

  created_done : IsDone around p statement (definition_put table.name text ∷ []) no_effect worked
  created_done = subst (λ (form : Layer). IsDoneAs around p form statement (definition_put table.name text ∷ []) no_effect worked) (sym is) created_as

  -- in the open transaction it ends with its locks
  created_open : IsAround true true true p.settings.manner worked (worked ++ replied p.settings.manner Relax Done ∷ [])
  created_open = (replied p.settings.manner Relax Done ∷ [], refl, inr refl)

  -- in one of its own it is five exchanges
  created_own : IsAround true false true p.settings.manner worked (replied p.settings.manner Begin Began ∷ worked ++ replied p.settings.manner Relax Done ∷ replied p.settings.manner Commit (Ended place) ∷ [])
  created_own = (replied p.settings.manner Relax Done ∷ [], place, refl, inr refl)
