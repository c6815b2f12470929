-- Own: which errors tokens tell, by their numbers; and that the tokens of a response are whole, as each response ends with one last DONE ([MS-TDS] 2.2.7.6), by
-- whose status nothing follows.
use Rattle.std.specs.Prelude.{◌≡◌, ◌≢◌, ℕ, ℤ, pos, Bool, List, [], ◌∷◌, ◌++◌, Option, None, Some, bit_and}
use Rattle.std.specs.List.{AllByRecursion}
use Rattle.step_model.specs.Ranges.{no_memory, deadlock, lock_timeout}
use Rattle.tds_tokens.specs.Numbers.{done_more}
use Rattle.tds_tokens.specs.declared.token.Token.{Token}
use Rattle.tds_tokens.specs.declared.token.Token.TheVariants.{Error, Finished}
use Rattle.batch_meaning.specs.declared.exit.Exit.{Exit}
use Rattle.batch_meaning.specs.declared.exit.Exit.TheVariants.{Raise, RaiseUp}
use Rattle.batch_meaning.specs.declared.raised.Raised.{Raised}

-- ---- numbers

-- it is none of the errors that stand for a refusal: 701, 1205 and 1222
abbrev pub IsNoRefusal : ℤ → Type 0
IsNoRefusal number = (number ≢ pos no_memory) × (number ≢ pos deadlock) × (number ≢ pos lock_timeout)

-- a batch began more statements than it may; the number is not taken from what the laws judge
abbrev pub limit_reached : ℕ
limit_reached = 49001

abbrev pub IsNoLimit : ℤ → Type 0
IsNoLimit number = number ≢ pos limit_reached

-- a batch would send more bytes than it may, or a result has more rows
abbrev pub limit_passed : ℕ
limit_passed = 49002

abbrev pub IsNotPast : ℤ → Type 0
IsNotPast number = number ≢ pos limit_passed

-- ---- errors whose numbers are such

-- a token is no ERROR of another number
abbrev pub ErrorIs : (ℤ → Type 0) → Token → Type 0
ErrorIs Such (Error told) = Such told.number
ErrorIs Such token = Unit {0}

-- none of the tokens is one
abbrev pub TellsOnly : (ℤ → Type 0) → List Token → Type 0
TellsOnly Such tokens = AllByRecursion (ErrorIs Such) tokens

-- so is an error that is on its way
abbrev pub LeavesOnly : (ℤ → Type 0) → Exit → Type 0
LeavesOnly Such (Raise raised) = Such raised.number
LeavesOnly Such (RaiseUp raised) = Such raised.number
LeavesOnly Such exit = Unit {0}

-- and the one of the CATCH around, which THROW raises again
abbrev pub CaughtOnly : (ℤ → Type 0) → Option Raised → Type 0
CaughtOnly Such None = Unit {0}
CaughtOnly Such (Some raised) = Such raised.number

-- ---- the end of a response

-- the status of a DONE says that more follows
abbrev pub SaysMore : ℕ → Type 0
SaysMore status = bit_and status done_more ≡ done_more

-- a token is no DONE behind which nothing follows
abbrev pub MoreFollows : Token → Type 0
MoreFollows (Finished kind status command rows) = SaysMore status
MoreFollows token = Unit {0}

-- the tokens end with a last one, by whether an error ended what is over, and none before it is the end
pub record EndsWith (last : Bool → Token) (tokens : List Token) : Type 0 where
  pub front : List Token
  pub failed : Bool
  pub whole : tokens ≡ front ++ last failed ∷ []
  pub more : AllByRecursion MoreFollows front
