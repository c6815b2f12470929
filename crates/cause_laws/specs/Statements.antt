-- Own: `StatementTells`, `BatchTells` and `CallTells`. Each ERROR 1205 and 1222 that a batch or a call by RPC sends has its cause in the
-- exchanges of one statement: of the one that sends it; or where that is a THROW, of the one whose error is thrown again. A statement
-- is found at its point of what was done, and its own exchanges are those of a run in which no other statement runs.
use Rattle.std.specs.Prelude.{◌≡◌, ◌⊎◌, ◌==◌, ℕ, zero, suc, ℤ, pos, Bool, true, if◌then◌else◌, List, [], ◌∷◌, ◌++◌, Option, Some}
use Rattle.std.specs.List.{list_any}
use Rattle.table_rows.specs.Definitions.{IsDefinitionIn}
use Rattle.tsql_tree.specs.declared.definition.Definition.{Definition}
use Rattle.tsql_tree.specs.declared.statement.Form.{Form-F}
use Rattle.tsql_tree.specs.declared.statement.Statement.{Statement}
use Rattle.binder.specs.Names.{form_of}
use Rattle.step_model.specs.Exchange.{CanReply, Exchange}
use Rattle.tds_tokens.specs.declared.notice.Notice.{Notice}
use Rattle.tds_tokens.specs.declared.token.Token.{Token}
use Rattle.tds_tokens.specs.declared.token.Token.TheVariants.{Error}
use Rattle.batch_meaning.specs.declared.errand.Errand.{Errand}
use Rattle.batch_meaning.specs.declared.exit.Exit.{Exit}
use Rattle.batch_meaning.specs.declared.exit.Exit.TheVariants.{Raise, RaiseUp}
use Rattle.batch_meaning.specs.declared.form.ReadText.{ReadText}
use Rattle.batch_meaning.specs.declared.raised.Raised.{Raised}
use Rattle.batch_meaning.specs.Doing.{Doing, asks, defines, makes, never, over, reads, room, ◌then◌, Held}
use Rattle.batch_meaning.specs.Meaning.{Meaning, batch, begun_unseen, defines_object, fails_for, mean_by, mean_of, spends}
use Rattle.batch_meaning.specs.Progress.{SessionProgress, asked, counts, made}
use Rattle.batch_meaning.specs.Raised.{Around}
use Rattle.batch_meaning.specs.Rpc.{ReadsFor, execs, finds_named, rpc}
use Rattle.batch_meaning.specs.Statements.{ReadsAs}
use Rattle.batch_meaning.specs.Unseen.{is_unseen}
use Rattle.cause_laws.specs.Causes.{CaughtOther, LockError, is_answer, number_of}

-- ---- points of what was done

-- what is left to do, from which progress, and the exchanges of that
abbrev pub Point : Type 0 → Type 1
Point A = Doing A → SessionProgress → List Exchange → Type 0

-- Along the tree, from this progress, by these exchanges, one comes to such a point.
unfoldable pub Passes : {A : Type 0} → Point A → Point A
Passes Such (over a) p exchanges = Such (over a) p exchanges
Passes Such (reads look) p exchanges = Such (reads look) p exchanges ⊎ Passes Such (look p) p exchanges
Passes Such (makes step next) p exchanges = Such (makes step next) p exchanges ⊎ Passes Such next (made step p) exchanges
Passes Such (defines entry go) p exchanges = Such (defines entry go) p exchanges
    ⊎ ((found : Option Definition) × IsDefinitionIn entry found × Passes Such (go found) p exchanges)
Passes Such (asks op go) p [] = Such (asks op go) p []
Passes Such (asks op go) p (x ∷ later) = Such (asks op go) p (x ∷ later) ⊎ ((x.op ≡ op)
    × (x.manner ≡ p.settings.manner) × CanReply op x.reply × Passes Such (go x.reply) (asked op x.reply p) later)
Passes Such (room go) p exchanges = Such (room go) p exchanges ⊎ ((enough : Bool) × Passes Such (go enough) p exchanges)
Passes Such never p exchanges = Such never p exchanges

-- ---- a statement that ran

-- What begins: a statement; a definition, which is a batch by itself; or the EXEC of a call by RPC, whose procedure is looked up.
pub data Begun : Type 0 where
  Runs : Statement → Around → Begun
  Defines : ℤ → Definition → List ℕ → Begun
  Execs : Errand → List ℕ → Option (List ℕ) → Begun

-- what it does, by the meaning of the statements that it runs
abbrev pub tree_by : (Statement → Meaning) → Begun → Doing Exit
tree_by one (Runs statement around) = reads λ p. if p.statements_left == 0 then spends statement around
    else makes counts (begun_unseen (λ q. is_unseen q (form_of statement)) (fails_for around statement) (mean_by one statement around))
tree_by one (Defines line of units) = defines_object line of units
tree_by one (Execs call name object) = execs one call (finds_named call name object)

-- what it does where it runs none: no other would come to its end
abbrev pub alone : Begun → Doing Exit
alone begun = tree_by (λ inner at. never) begun

-- At this point it begins; with exchanges of its own it comes to its end, having run no other; and what is left goes on behind it,
-- to the end of all.
pub record Ran {A : Type 0} (rest : Doing A) (old : SessionProgress) (exchanges : List Exchange) (a : A) (new : SessionProgress) : Type 0 where
  pub begun : Begun
  pub levels : ℕ
  pub go : Exit → Doing A
  pub own : List Exchange
  pub behind : List Exchange
  pub exit : Exit
  pub mid : SessionProgress
  pub begins : rest ≡ (tree_by (λ inner at. mean_of levels inner at) begun then go)
  pub parts : exchanges ≡ own ++ behind
  pub runs : Held (alone begun) old own exit mid
  pub goes_on : Held (go exit) mid behind a new

-- ---- what it has to do with an error

-- one of its own exchanges is the error's cause
abbrev pub Answered : LockError → Begun → List Exchange → Type 0
Answered error begun own = list_any (λ x. is_answer error x.reply) own ≡ true

-- it is a THROW in the CATCH of this
abbrev pub Throws : Raised → Begun → List Exchange → Type 0
Throws raised (Runs statement around) own = (form_of statement ≡ Form-F.ThrowAgain) × (around.caught ≡ Some raised)
Throws raised begun own = ⊥

-- what is said of a statement that has begun with this progress, and was left so, with that
abbrev pub End : Type 1
End = SessionProgress → Exit → SessionProgress → Type 0

-- it has sent this ERROR, with these tokens of all in front of it
abbrev pub Sends : List Token → Notice → End
Sends front told old exit new =
    (before after : List Token) × (front ≡ old.tokens ++ before) × (new.tokens ≡ front ++ Error told ∷ after)

-- it has left this error on its way to a CATCH
abbrev pub Leaves : Raised → Exit → Type 0
Leaves raised (Raise one) = one ≡ raised
Leaves raised (RaiseUp one) = one ≡ raised
Leaves raised exit = ⊥

abbrev pub Raises : Raised → End
Raises raised old exit new = Leaves raised exit

-- ---- from the cause to the error

-- The statement ends so itself; or it leaves an error on its way, and behind it a THROW in the CATCH of that ends so, or leaves it on
-- its way again: so many times it is thrown again.
unfoldable pub ComesTo : ℕ → End → {A : Type 0} {rest : Doing A} {old new : SessionProgress} {exchanges : List Exchange} {a : A}
    → Ran rest old exchanges a new → Type 0
ComesTo zero Such {old = old} ran = Such old ran.exit ran.mid
ComesTo (suc times) Such {A = A} {new = new} {a = a} ran = (raised : Raised) × Leaves raised ran.exit
    × Passes (λ (rest : Doing A) old exchanges. (next : Ran rest old exchanges a new) × Throws raised next.begun next.own
    × ComesTo times Such next) (ran.go ran.exit) ran.mid ran.behind

-- one of the statements that ran is such, and comes to such an end
abbrev pub Finds : ℕ → (Begun → List Exchange → Type 0) → End → {A : Type 0} → A → SessionProgress → Point A
Finds times Such To {A = A} a new tree p exchanges = Passes (λ (rest : Doing A) old later. (ran : Ran rest old later a new)
    × Such ran.begun ran.own × ComesTo times To ran) tree p exchanges

-- ---- the laws

-- An ERROR with these tokens in front of it has its cause: a statement whose own exchanges have that has sent it, or has raised what
-- was thrown again until a THROW has sent it.
abbrev pub HasCause : LockError → List Token → Notice → {A : Type 0} → Doing A → SessionProgress → List Exchange → A → SessionProgress → Type 0
HasCause error front told tree old exchanges a new =
    (times : ℕ) × Finds times (Answered error) (Sends front told) a new tree old exchanges

-- So has each ERROR of its number among these tokens.
abbrev pub AllCaused : LockError → List Token → {A : Type 0} → Doing A → SessionProgress → List Exchange → A → SessionProgress → Type 0
AllCaused error tokens tree old exchanges a new = (front behind : List Token) (told : Notice)
    → tokens ≡ front ++ Error told ∷ behind → told.number ≡ pos (number_of error)
    → HasCause error front told tree old exchanges a new

-- So has each that a statement has sent behind what was sent before it, and so has the error that it leaves on its way. Of statements in
-- the CATCH of such an error, and of those that they call, nothing is said: what they throw again was raised before them.
abbrev pub StatementTells : Type 0
StatementTells = (error : LockError) (levels : ℕ) (around : Around) (statement : Statement) (old new : SessionProgress)
    (exchanges : List Exchange) (exit : Exit) → CaughtOther error around.caught → Held (mean_of levels statement around) old exchanges exit new
    → ((front behind : List Token) (told : Notice) → new.tokens ≡ (old.tokens ++ front) ++ Error told ∷ behind
    → told.number ≡ pos (number_of error) → HasCause error (old.tokens ++ front) told (mean_of levels statement around) old exchanges exit new)
    × ((raised : Raised) → Leaves raised exit → raised.number ≡ pos (number_of error)
    → (times : ℕ) × Finds times (Answered error) (Raises raised) exit new (mean_of levels statement around) old exchanges)

-- of a batch, as its text is read
abbrev pub BatchTells : Type 0
BatchTells = (error : LockError) (text : List ℕ) (read : ReadText) (old new : SessionProgress) (exchanges : List Exchange)
    → ReadsAs text read → Held (batch read) old exchanges tt new → AllCaused error new.tokens (batch read) old exchanges tt new

-- of a call by RPC, as its text is read
abbrev pub CallTells : Type 0
CallTells = (error : LockError) (call : Errand) (read : ReadText) (old new : SessionProgress) (exchanges : List Exchange)
    → ReadsFor call.text read → Held (rpc call read) old exchanges tt new
    → AllCaused error new.tokens (rpc call read) old exchanges tt new
