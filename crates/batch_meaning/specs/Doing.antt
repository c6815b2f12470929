-- Own: what a session does, as a tree: it reads how far it has come, makes a named step, reads what a row of `objects`
-- defines, or asks its port an operation and goes on by the reply. One tree says which operations are asked, in which order, and what
-- becomes of the session by the replies; the code asks and steps, and builds no tree.
use Rattle.std.specs.Prelude.{◌≡◌, ◌⊎◌, Bool, List, [], ◌∷◌, ◌++◌, Option, Result, Ok, Err}
use Rattle.value_types.specs.declared.memory.Memory.{Memory}
use Rattle.tsql_tree.specs.declared.definition.Definition.{Definition}
use Rattle.value_types.specs.declared.value.Value.{Value}
use Rattle.table_rows.specs.Definitions.{IsDefinitionIn}
use Rattle.step_model.specs.declared.op.Op.{Op}
use Rattle.step_model.specs.declared.reply.Reply.{Reply}
use Rattle.step_model.specs.Exchange.{Exchange, CanReply}
use Rattle.step_model.specs.Port.{PortPast, GoesOn}
use Rattle.batch_meaning.specs.Progress.{SessionProgress, SessionStep, made, asked}

-- A value; how to go on by the progress; a step, and what follows; a row of `objects` with its key, and how to go
-- on by what it defines, which is one thing or nothing; an operation, and how to go on by its reply; how to go on
-- where memory was left for what comes next, or wasn't, which is the one free answer; or nothing, behind a reply
-- that does not come.
pub data Doing (A : Type 0) : Type 0 where
  over : A → Doing A
  reads : (SessionProgress → Doing A) → Doing A
  makes : SessionStep → Doing A → Doing A
  defines : List Value × List Value → (Option Definition → Doing A) → Doing A
  asks : Op → (Reply → Doing A) → Doing A
  room : (Bool → Doing A) → Doing A
  never : Doing A

-- one thing, and behind it another
infixl 10 ◌then◌
unfoldable pub ◌then◌ : {A B : Type 0} → Doing A → (A → Doing B) → Doing B
(over a) then go = go a
(reads look) then go = reads (λ p. look p then go)
(makes step next) then go = makes step (next then go)
(defines entry next) then go = defines entry (λ found. next found then go)
(asks op next) then go = asks op (λ reply. next reply then go)
(room next) then go = room (λ enough. next enough then go)
never then go = never

-- ---- what was done

-- these exchanges are all of it: from this progress it came to this result, with this progress
unfoldable pub Held : {A : Type 0} → Doing A → SessionProgress → List Exchange → A → SessionProgress → Type 0
Held (over a) p exchanges result new = (exchanges ≡ []) × (result ≡ a) × (new ≡ p)
Held (reads look) p exchanges result new = Held (look p) p exchanges result new
Held (makes step next) p exchanges result new = Held next (made step p) exchanges result new
Held (defines entry go) p exchanges result new = (found : Option Definition) × IsDefinitionIn entry found × Held (go found) p exchanges result new
Held (asks op go) p [] result new = ⊥
Held (asks op go) p (x ∷ later) result new = (x.op ≡ op) × (x.manner ≡ p.settings.manner) × CanReply op x.reply × Held (go x.reply) (asked op x.reply p) later result new
Held (room go) p exchanges result new = (enough : Bool) × Held (go enough) p exchanges result new
Held never p exchanges result new = ⊥

-- they are a front of it, where it was left with this progress; it may be left where it is over, too, and
-- behind a reply that does not come
unfoldable pub Left : {A : Type 0} → Doing A → SessionProgress → List Exchange → SessionProgress → Type 0
Left (over a) p exchanges new = (exchanges ≡ []) × (new ≡ p)
Left (reads look) p exchanges new = Left (look p) p exchanges new
Left (makes step next) p exchanges new = ((exchanges ≡ []) × (new ≡ p)) ⊎ Left next (made step p) exchanges new
Left (defines entry go) p exchanges new = ((exchanges ≡ []) × (new ≡ p)) ⊎ ((found : Option Definition) × IsDefinitionIn entry found × Left (go found) p exchanges new)
Left (asks op go) p [] new = new ≡ p
Left (asks op go) p (x ∷ later) new = (x.op ≡ op) × (x.manner ≡ p.settings.manner) × CanReply op x.reply × Left (go x.reply) (asked op x.reply p) later new
Left (room go) p exchanges new = (enough : Bool) × Left (go enough) p exchanges new
Left never p exchanges new = (exchanges ≡ []) × (new ≡ p)

-- it came to a result, or was left for want of memory
abbrev pub Came : {A : Type 0} → Doing A → SessionProgress → List Exchange → Result A Memory → SessionProgress → Type 0
Came tree p exchanges (Ok result) new = Held tree p exchanges result new
Came tree p exchanges (Err memory) new = Left tree p exchanges new

-- one operation was asked, in the session's manner, and replied so
pub record Exchanged (before after : PortPast) (op : Op) (old : SessionProgress) (reply : Reply) (new : SessionProgress) : Type 0 where
  pub past : GoesOn before after (record { op = op; manner = old.settings.manner; reply = reply } ∷ [])
  pub can : CanReply op reply
  pub same : new ≡ asked op reply old

-- what is left to do: whatever the rest comes to from now on, the whole comes to from before
pub record Leads {A : Type 0} (before now : PortPast) (whole : Doing A) (old : SessionProgress) (rest : Doing A) (mid : SessionProgress) : Type 0 where
  pub front : List Exchange
  pub past : GoesOn before now front
  pub goes : (later : List Exchange) (result : Result A Memory) (new : SessionProgress) → Came rest mid later result new → Came whole old (front ++ later) result new

-- between two moments of the port this was done
pub record Did {A : Type 0} (before after : PortPast) (tree : Doing A) (old : SessionProgress) (result : Result A Memory) (new : SessionProgress) : Type 0 where
  pub exchanges : List Exchange
  pub past : GoesOn before after exchanges
  pub came : Came tree old exchanges result new
