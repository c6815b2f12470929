-- Own: a transaction that wrote once: it had written nothing, then what was planned was made, as index rows were found, and checked, and
-- then it has written nothing more until its commit.
use Rattle.std.specs.Prelude.{◌≡◌, ℕ, List, [], ◌∷◌, ◌++◌, length}
use Rattle.tsql_tree.specs.declared.definition.TableTree.{TableTree}
use Rattle.step_model.specs.declared.change.Planned.{Planned}
use Rattle.step_model.specs.declared.manner.Manner.{Manner}
use Rattle.step_model.specs.declared.op.Op.TheVariants.{Commit}
use Rattle.step_model.specs.declared.reply.Reply.TheVariants.{Ended}
use Rattle.step_model.specs.Exchange.{Exchange}
use Rattle.step_model.specs.Fits.{NoneEnds}
use Rattle.step_model.specs.Own.{progress_of}
use Rattle.statement_paths.specs.Paths.{AreApplied}
use Rattle.write_laws.specs.Reads.{key_size}

-- the key has as many values as its table's
abbrev pub KeyFits : List TableTree → Planned → Type 0
KeyFits shapes change = length change.key ≡ key_size shapes change.table

-- Among a session's exchanges, one transaction wrote these changes and nothing else, and was committed at this place.
pub record WroteOnce (mine : List Exchange) (shapes : List TableTree) (plan planned : List Planned) (place : ℕ) : Type 0 where
  pub front : List Exchange
  pub part : List Exchange
  pub between : List Exchange
  pub commit : Exchange
  pub later : List Exchange
  pub split : mine ≡ front ++ (part ++ (between ++ commit ∷ later))
  pub unwritten : (progress_of front).own ≡ []
  pub manner : Manner
  pub wrote : AreApplied manner shapes plan planned part
  pub goes_on : NoneEnds between
  pub no_more : (progress_of (front ++ (part ++ between))).own ≡ (progress_of (front ++ part)).own
  pub commits : commit.op ≡ Commit
  pub ended : commit.reply ≡ Ended place
