-- The tokens that are sent have bytes: counts and texts fit their fields.
use Rattle.std.proofs.Common.{◌≡◌, ℕ, ℤ, ◌≤◌, Bool, true, false, List, [], ◌∷◌, ◌++◌, length, take, inl, refl, sym, subst, length-take, arith, if◌then◌else◌}
use Rattle.error_table.specs.declared.action.Action.{Action}
use Rattle.error_table.specs.declared.action.Action.TheVariants.{Statement as EndsStatement, Batch, BatchAndTransaction, Doom}
use Rattle.tds_tokens.specs.declared.columns.ColumnInfo.{ColumnInfo}
use Rattle.tds_tokens.specs.declared.notice.Notice.{Notice}
use Rattle.tds_tokens.specs.Numbers.{done_final, done_error, command_none, env_begin, env_collation, env_commit, env_rollback}
use Rattle.tds_tokens.specs.declared.token.DoneKind.{DoneKind}
use Rattle.tds_tokens.specs.declared.token.Token.{Token}
use Rattle.tds_tokens.specs.declared.token.Token.TheVariants.{EnvBytes, Finished, ReturnStatus}
use Rattle.tds_tokens.specs.Fit.{FitsNotice, FitTokens}
use Rattle.tds_tokens.specs.Spelling.{columns_after}
use Rattle.tds_tokens.proofs.Lengths.{length-notice_bytes}
use Rattle.batch_meaning.specs.declared.raised.Raised.{Raised}
use Rattle.batch_meaning.specs.Databases.{context_told, context_tokens}
use Rattle.batch_meaning.specs.Meaning.{told_tokens}
use Rattle.batch_meaning.specs.Raised.{error_token, info_token}
use Rattle.session_state.specs.Sendable.{IsFit}
use Rattle.batch_meaning.specs.Tokens.{descriptor, procedure_done, statement_done, last_done, transaction_begun, transaction_committed, transaction_rolled_back}

-- ---- one list behind another

fit_append : (first second : List Token) (columns : List ColumnInfo) → FitTokens columns first → IsFit second → FitTokens columns (first ++ second)
unfolding FitTokens
fit_append [] second columns one two = two columns
fit_append (token ∷ first) second columns one two = (one.0, fit_append first second (columns_after columns token) one.1 two)

pub fit_both : (first second : List Token) → IsFit first → IsFit second → IsFit (first ++ second)
fit_both first second one two = λ columns. fit_append first second columns (one columns) two

pub fit_none : IsFit []
unfolding FitTokens
fit_none = λ columns. tt

-- ---- errors

-- no name is longer than this
abbrev HasName : Raised → Type 0
HasName raised = length raised.procedure ≤ 128

short_fits : (notice : Notice) → length notice.text ≤ 2000 → length notice.procedure ≤ 128 → FitsNotice notice
short_fits notice short named = record {
  text = omega arith;
  procedure = omega arith;
  whole = omega (arith, length-notice_bytes notice);
}

-- what is told of an error or a message
notice_fits : (raised : Raised) → HasName raised → FitsNotice (record { number = raised.number; state = raised.state; class = raised.class; text = take 2000 raised.text; procedure = raised.procedure; line = raised.line })
notice_fits raised named =
    short_fits (record { number = raised.number; state = raised.state; class = raised.class; text = take 2000 raised.text; procedure = raised.procedure; line = raised.line }) (omega (arith, length-take 2000 raised.text)) named

-- an error, by what it ends
pub told_fits : (kind : DoneKind) (action : Action) (command : ℕ) (raised : Raised) → HasName raised → IsFit (told_tokens kind action command raised)
unfolding FitTokens
told_fits kind Batch command raised named = λ columns. (notice_fits raised named, tt)
told_fits kind BatchAndTransaction command raised named = λ columns. (notice_fits raised named, tt)
told_fits kind EndsStatement command raised named = λ columns. (notice_fits raised named, (tt, tt))
told_fits kind Doom command raised named = λ columns. (notice_fits raised named, (tt, tt))

-- a message
pub info_fits : (raised : Raised) → HasName raised → IsFit (info_token raised ∷ [])
unfolding FitTokens
info_fits raised named = λ columns. (notice_fits raised named, tt)

-- the database, and the message that tells it
pub context_fits : (procedure : List ℕ) (line : ℤ) → HasName (context_told procedure line) → IsFit (context_tokens procedure line)
unfolding FitTokens
context_fits procedure line named = λ columns. ((inl refl, omega arith, omega arith), (notice_fits (context_told procedure line) named, tt))

-- the end of a procedure, and an error in front of it
pub procedure_fits : (status : ℤ) → IsFit (procedure_done status)
unfolding FitTokens
procedure_fits status = λ columns. (tt, (tt, tt))

pub error_and_fits : (raised : Raised) (status : ℤ) → HasName raised → IsFit (error_token raised ∷ procedure_done status)
unfolding FitTokens
error_and_fits raised status named = λ columns. (notice_fits raised named, (tt, (tt, tt)))

-- the status of a procedure, in front of what it has returned
pub returned_fits : (status : ℤ) (behind : List Token) → IsFit behind → IsFit (ReturnStatus status ∷ behind)
unfolding FitTokens
returned_fits status behind fit = λ columns. (tt, fit columns)

-- an error in front of tokens
pub in_front_fits : (raised : Raised) (behind : List Token) → HasName raised → IsFit behind → IsFit (error_token raised ∷ behind)
unfolding FitTokens
in_front_fits raised behind named fit = λ columns. (notice_fits raised named, fit columns)

-- a DONE alone
pub done_fit : (kind : DoneKind) (status command rows : ℕ) → IsFit (Finished kind status command rows ∷ [])
unfolding FitTokens
done_fit kind status command rows = λ columns. (tt, tt)

-- the end of a batch or a call
pub last_done_fit : (kind : DoneKind) (failed : Bool) → IsFit (last_done kind failed ∷ [])
last_done_fit kind failed = done_fit kind (if failed then done_error else done_final) command_none 0

-- a statement's end with its count
pub told_fit : (kind : DoneKind) (no_count : Bool) (command rows : ℕ) (columns : List ColumnInfo) → FitTokens columns (statement_done kind no_count command rows ∷ [])
unfolding FitTokens
told_fit kind true command rows columns = (tt, tt)
told_fit kind false command rows columns = (tt, tt)

-- so many rows were written
pub written_fit : (kind : DoneKind) (no_count : Bool) (command rows : ℕ) → IsFit (statement_done kind no_count command rows ∷ [])
written_fit kind no_count command rows = λ columns. told_fit kind no_count command rows columns

-- a transaction's change of environment
pub env_fits : (kind : ℕ) (fresh former : List ℕ) → env_collation ≤ kind → kind ≤ env_rollback → length fresh ≤ 8 → length former ≤ 8 → IsFit (EnvBytes kind fresh former ∷ [])
unfolding FitTokens
env_fits kind fresh former low high one two = λ columns. ((low, high, omega (arith, one), omega (arith, two)), tt)

-- its descriptor has eight bytes
descriptor_small : (serial : ℕ) → length (descriptor serial) ≤ 8
descriptor_small serial = let eight : length (descriptor serial) ≡ 8 = refl in omega arith

pub begun_fits : (serial : ℕ) → IsFit (transaction_begun serial ∷ [])
begun_fits serial = env_fits env_begin (descriptor serial) [] (omega arith) (omega arith) (descriptor_small serial) (omega arith)

pub committed_fits : (serial : ℕ) → IsFit (transaction_committed serial ∷ [])
committed_fits serial = env_fits env_commit [] (descriptor serial) (omega arith) (omega arith) (omega arith) (descriptor_small serial)

pub rolled_back_fits : (serial : ℕ) → IsFit (transaction_rolled_back serial ∷ [])
rolled_back_fits serial = env_fits env_rollback [] (descriptor serial) (omega arith) (omega arith) (omega arith) (descriptor_small serial)

-- ---- by what was made

-- these tokens, as a list in any vector
pub fits_as : (tokens made : List Token) → tokens ≡ made → IsFit made → IsFit tokens
fits_as tokens made is fit = subst IsFit (sym is) fit

-- what was added, or wasn't
pub fits_if : (added : Bool) (tokens first second : List Token) → tokens ≡ (if added then first ++ second else first) → IsFit first → IsFit second → IsFit tokens
fits_if true tokens first second is one two = subst IsFit (sym is) (fit_both first second one two)
fits_if false tokens first second is one two = subst IsFit (sym is) one
