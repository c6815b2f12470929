-- What was looked up is defined in the database at the transaction's place, but for what a name is known to stand for.
use Rattle.std.proofs.Common.{◌≡◌, ◌⊎◌, inl, inr, ℕ, Bool, true, false, List, [], ◌∷◌, ◌++◌, Option, None, Some, refl, sym, subst}
use Rattle.std.specs.List.{AllByRecursion}
use Rattle.tsql_tree.specs.declared.definition.Definition.{Definition}
use Rattle.tsql_tree.specs.declared.definition.Definition.TheVariants.{Table, Procedure, Trigger}
use Rattle.step_model.specs.declared.manner.Manner.{Manner}
use Rattle.step_model.specs.declared.op.Op.{Op}
use Rattle.step_model.specs.declared.reply.Reply.{Reply}
use Rattle.step_model.specs.declared.reply.Reply.TheVariants as replies
use Rattle.step_model.specs.Database.{Database}
use Rattle.step_model.specs.Exchange.{Exchange, CanReply}
use Rattle.step_model.specs.Fits.{AnswersIn}
use Rattle.table_rows.specs.Definitions.{defined_name, is_objects, tables_of}
use Rattle.batch_meaning.specs.Asking.{KnownNames, definition_fetch, with_found}
use Rattle.write_laws.proofs.Changes.{all_both}
use Rattle.statement_paths.specs.Asked.{AskOnly}
use Rattle.write_laws.specs.Reads.{HoldsIt}
use Rattle.statement_paths.specs.Paths.{AreLookedUp, IsFound, IsFoundBy, IsLookedUp}
use Rattle.write_laws.specs.Indexed.{own_rows}
use Rattle.write_laws.specs.Sound.{IsDefined, Firm}
use Rattle.write_laws.proofs.Found.{found_defined}

abbrev pub DefinedIn : Database → Definition → Type 0
DefinedIn db definition = IsDefined db (defined_name definition) definition

-- some name is known to stand for it
abbrev pub IsKnownAs : KnownNames → Definition → Type 0
IsKnownAs known_names definition = (name : List ℕ) × (known_names name ≡ Some (Some definition))

abbrev pub IsThere : Database → KnownNames → Definition → Type 0
IsThere db known_names definition = DefinedIn db definition ⊎ IsKnownAs known_names definition

abbrev pub Answered : Database → List Exchange → Type 0
Answered db part = AllByRecursion (λ x. AnswersIn db x.op x.reply) part

pub all_left : {A : Type 0} (P : A → Type 0) (xs ys : List A) → AllByRecursion P (xs ++ ys) → AllByRecursion P xs
all_left P [] ys all = tt
all_left P (x ∷ xs) ys all = (all.0, all_left P xs ys all.1)

pub all_right : {A : Type 0} (P : A → Type 0) (xs ys : List A) → AllByRecursion P (xs ++ ys) → AllByRecursion P ys
all_right P [] ys all = all
all_right P (x ∷ xs) ys all = all_right P xs ys all.1

-- each of them is a fetch that holds its range
one_holds : (manner : Manner) (b : Bool) (name : List ℕ) (exchanges : List Exchange) (found : Option Definition) → IsLookedUp manner b name exchanges found → AskOnly HoldsIt exchanges
one_holds manner true name exchanges found is = subst (AskOnly HoldsIt) (sym is.0) tt
one_holds manner false name exchanges found is =
    subst (AskOnly HoldsIt) (sym is.1) ((subst HoldsIt (sym is.2.0) tt, subst (λ (op : Op). CanReply op is.0.reply) (sym is.2.0) is.2.2), tt)

pub by_holds : (manner : Manner) (known : Option (Option Definition)) (name : List ℕ) (exchanges : List Exchange) (found : Option Definition) → IsFoundBy manner known name exchanges found → AskOnly HoldsIt exchanges
by_holds manner None name exchanges found is = one_holds manner (is_objects name) name exchanges found is
by_holds manner (Some other) name exchanges found is = subst (AskOnly HoldsIt) (sym is.0) tt

pub looked_holds : (manner : Manner) (known_names : KnownNames) (names : List (List ℕ)) (so_far definitions : List Definition) (exchanges : List Exchange) → AreLookedUp manner known_names so_far names exchanges definitions → AskOnly HoldsIt exchanges
looked_holds manner known_names [] so_far definitions exchanges is = subst (AskOnly HoldsIt) (sym is.0) tt
looked_holds manner known_names (name ∷ names) so_far definitions exchanges (found, first, later, parts, looked, goes) =
    subst (AskOnly HoldsIt) (sym parts) (all_both (λ (x : Exchange). HoldsIt x.op × CanReply x.op x.reply) first later (by_holds manner (known_names name) name first found looked) (elim goes [
      | inl on ↦ looked_holds manner known_names names (with_found so_far found) definitions later on.1
      | inr ends ↦ subst (AskOnly HoldsIt) (sym ends.1) tt
    ]))

-- what one finds is defined
module _ (db : Database) (firm : Firm (own_rows db)) (known_names : KnownNames) where
  abbrev AllThere : List Definition → Type 0
  AllThere definitions = AllByRecursion (IsThere db known_names) definitions

  -- one definition more, or none
  abbrev IsThereIf : Option Definition → Type 0
  IsThereIf None = Unit {0}
  IsThereIf (Some definition) = IsThere db known_names definition

  with_there : (so_far : List Definition) (found : Option Definition) → AllThere so_far → IsThereIf found → AllThere (with_found so_far found)
  with_there so_far None all one = all
  with_there so_far (Some definition) all one = all_both (IsThere db known_names) so_far (definition ∷ []) all (one, tt)

  found_by : (name : List ℕ) (reply : Reply) (found : Option Definition) → AnswersIn db (definition_fetch name) reply → IsFound reply found → IsThereIf found
  found_by name (replies.Row key row at) None answer is = tt
  found_by name (replies.Row key row at) (Some definition) answer is = inl (found_defined (own_rows db) key row definition firm answer.1 is)
  found_by name (replies.Gone key at) found answer is = subst IsThereIf (sym is) tt
  found_by name (replies.End at) found answer is = subst IsThereIf (sym is) tt
  found_by name reply found answer is = absurd is

  one_found : (manner : Manner) (b : Bool) (name : List ℕ) (exchanges : List Exchange) (found : Option Definition) → IsLookedUp manner b name exchanges found → Answered db exchanges → IsThereIf found
  one_found manner true name exchanges found is answered = subst IsThereIf (sym is.1) tt
  one_found manner false name exchanges found is answered =
      let answer : Answered db (is.0 ∷ []) = subst (Answered db) is.1 answered in
      found_by name is.0.reply found (subst (λ (op : Op). AnswersIn db op is.0.reply) is.2.0 answer.0) is.3

  is_known : (name : List ℕ) (known : Option Definition) → known_names name ≡ Some known → IsThereIf known
  is_known name None is = tt
  is_known name (Some definition) is = inr (name, is)

  name_found : (manner : Manner) (name : List ℕ) (known : Option (Option Definition)) → known_names name ≡ known → (exchanges : List Exchange) (found : Option Definition) → IsFoundBy manner known name exchanges found → Answered db exchanges → IsThereIf found
  name_found manner name None same exchanges found is answered = one_found manner (is_objects name) name exchanges found is answered
  name_found manner name (Some known) same exchanges found is answered = subst IsThereIf (sym is.1) (is_known name known same)

  pub looked_there : (manner : Manner) (names : List (List ℕ)) (so_far definitions : List Definition) (exchanges : List Exchange) → AreLookedUp manner known_names so_far names exchanges definitions → Answered db exchanges
      → AllThere so_far → AllThere definitions
  looked_there manner [] so_far definitions exchanges is answered all = subst AllThere (sym is.1) all
  looked_there manner (name ∷ names) so_far definitions exchanges (found, first, later, parts, looked, goes) answered all =
      let answered : Answered db (first ++ later) = subst (Answered db) parts answered in
      let one = name_found manner name (known_names name) refl first found looked (all_left (λ x. AnswersIn db x.op x.reply) first later answered) in
      elim goes [
        | inl on ↦ looked_there manner names (with_found so_far found) definitions later on.1 (all_right (λ x. AnswersIn db x.op x.reply) first later answered) (with_there so_far found all one)
        | inr ends ↦ subst AllThere (sym ends.2) all
      ]

-- ---- one name

abbrev pub IsDefinedIf : Database → Option Definition → Type 0
IsDefinedIf db None = Unit {0}
IsDefinedIf db (Some definition) = DefinedIn db definition

-- where it stands for nothing else, what was found for it is defined
module _ (db : Database) (firm : Firm (own_rows db)) where
  by_reply : (name : List ℕ) (reply : Reply) (found : Option Definition) → AnswersIn db (definition_fetch name) reply → IsFound reply found → IsDefinedIf db found
  by_reply name (replies.Row key row at) None answer is = tt
  by_reply name (replies.Row key row at) (Some definition) answer is = found_defined (own_rows db) key row definition firm answer.1 is
  by_reply name (replies.Gone key at) found answer is = subst (IsDefinedIf db) (sym is) tt
  by_reply name (replies.End at) found answer is = subst (IsDefinedIf db) (sym is) tt
  by_reply name reply found answer is = absurd is

  by_objects : (manner : Manner) (b : Bool) (name : List ℕ) (exchanges : List Exchange) (found : Option Definition) → IsLookedUp manner b name exchanges found → Answered db exchanges → IsDefinedIf db found
  by_objects manner true name exchanges found is answered = subst (IsDefinedIf db) (sym is.1) tt
  by_objects manner false name exchanges found is answered =
      let answer : Answered db (is.0 ∷ []) = subst (Answered db) is.1 answered in
      by_reply name is.0.reply found (subst (λ (op : Op). AnswersIn db op is.0.reply) is.2.0 answer.0) is.3

  pub name_defined : (manner : Manner) (name : List ℕ) (known : Option (Option Definition)) (exchanges : List Exchange) (found : Option Definition) → ((definition : Definition) → known ≡ Some (Some definition) → ⊥) → IsFoundBy manner known name exchanges found
      → Answered db exchanges → IsDefinedIf db found
  name_defined manner name (Some None) exchanges found none is answered = subst (IsDefinedIf db) (sym is.1) tt
  name_defined manner name (Some (Some definition)) exchanges found none is answered = absurd (none definition refl)
  name_defined manner name None exchanges found none is answered = by_objects manner (is_objects name) name exchanges found is answered

-- the tables among definitions
pub tables_there : (db : Database) (known_names : KnownNames) (definitions : List Definition) → AllByRecursion (IsThere db known_names) definitions → AllByRecursion (λ shape. IsThere db known_names (Table shape)) (tables_of definitions)
tables_there db known_names [] all = tt
tables_there db known_names (Table table ∷ definitions) all = (all.0, tables_there db known_names definitions all.1)
tables_there db known_names (Procedure procedure ∷ definitions) all = tables_there db known_names definitions all.1
tables_there db known_names (Trigger trigger ∷ definitions) all = tables_there db known_names definitions all.1
