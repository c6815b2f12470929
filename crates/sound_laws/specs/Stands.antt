-- Own: what stands among a session's exchanges where no statement is at work: the database at its transaction's place in the log, with
-- the transaction's changes so far, is intact, and so it was at each live mark, to which the transaction may go back. Where no
-- transaction is open that is what the log's own database is. And that what a tree asks keeps it: a statement finds it so and leaves it
-- so, whichever transaction it is in, and however it ends.
use Rattle.std.specs.Prelude.{◌≡◌, ℕ, ◌+◌, List, ◌∷◌, ◌++◌, length, take}
use Rattle.std.specs.List.{AllByRecursion}
use Rattle.step_model.specs.declared.op.Op.TheVariants.{Commit}
use Rattle.step_model.specs.declared.reply.Reply.TheVariants.{Ended}
use Rattle.step_model.specs.Database.{Database}
use Rattle.step_model.specs.Exchange.{Exchange}
use Rattle.step_model.specs.Fits.{committed_by, place_of}
use Rattle.step_model.specs.Log.{Commit as Logged, State}
use Rattle.step_model.specs.Own.{Progress, progress_of}
use Rattle.constraint_check.specs.Laws.{behind}
use Rattle.batch_meaning.specs.Doing.{Doing, Held, Left}
use Rattle.batch_meaning.specs.Progress.{SessionProgress}
use Rattle.write_laws.specs.Indexed.{Indexed, own_rows}
use Rattle.write_laws.specs.Sound.{Firm}
use Rattle.sound_laws.specs.Tied.{Tied}

-- ---- a database

-- What statements keep: the tables' own rows are firm, and the index parts follow them.
pub record Intact (db : Database) : Type 0 where
  pub firm : Firm (own_rows db)
  pub indexed : Indexed db

-- ---- what stands

-- the database at a transaction's place, with its changes so far, is intact, and so it was at each of its live marks
pub record StandsAt (base : Database) (progress : Progress) : Type 0 where
  pub now : Intact (behind base progress.own)
  pub marks : AllByRecursion (λ marked. Intact (behind base marked.own)) progress.marks

-- the database of the log at the place of a transaction of which these exchanges are still to come
abbrev pub base_of : List Logged → List Exchange → Database
base_of log later = State (take (place_of (length log) later) log)

-- it stands so, if that one is intact
abbrev pub Stands : List Logged → List Exchange → List Exchange → Type 0
Stands log before later = Intact (base_of log later) → StandsAt (base_of log later) (progress_of before)

-- ---- commits

-- an exchange that ended a transaction at a place of the log keeps the database there intact, by what it committed, if anything
abbrev pub Keeps : List Logged → List Exchange → Exchange → Type 0
Keeps log before exchange =
    (place : ℕ) → exchange.reply ≡ Ended place → Intact (State (take place log)) → Intact (State (take (place + length (committed_by exchange.op exchange.reply (progress_of before))) log))

-- each commit among these exchanges does
abbrev pub CommitsKeep : List Logged → List Exchange → List Exchange → Type 0
CommitsKeep log before part = (front behind : List Exchange) (exchange : Exchange) → part ≡ front ++ exchange ∷ behind → exchange.op ≡ Commit → Keeps log (before ++ front) exchange

-- ---- trees

-- A tree, asked among the exchanges of a session, brings it from where one fact holds to where another one does, by what it came to; and
-- each commit that it asks keeps its database intact, also where the tree is left in the middle. A fact speaks of the exchanges so far, and
-- of those that are still to come. Session and port agree, where the tree begins, on whether a transaction is open.
abbrev pub Brings : {A : Type 0} → List Logged → List Exchange → (List Exchange → List Exchange → Type 0) → Doing A → (A → List Exchange → List Exchange → Type 0) → Type 0
Brings {A} log mine From tree To = (before part later : List Exchange) (p : SessionProgress) → mine ≡ before ++ (part ++ later) → p.is_open ≡ (progress_of before).is_open → From before (part ++ later)
    → ((new : SessionProgress) → Left tree p part new → CommitsKeep log before part)
    × ((result : A) (new : SessionProgress) → Held tree p part result new → CommitsKeep log before part × To result (before ++ part) later)

-- what it asks keeps what stands
abbrev pub Carries : {A : Type 0} → Doing A → Type 0
Carries {A} tree = (session : ℕ) (begin log : List Logged) (mine : List Exchange) → Tied session begin log mine → Brings log mine (Stands log) tree (λ (result : A). Stands log)
