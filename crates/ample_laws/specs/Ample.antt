-- Own: `Ample`: what a session does where memory was never wanting. `Held` of batch_meaning leaves open how a question for room was answered; here each was
-- answered by yes. And which replies refuse an operation.
use Rattle.std.specs.Prelude.{◌≡◌, Bool, true, false, List, [], ◌∷◌, Option}
use Rattle.std.specs.List.{AllByRecursion}
use Rattle.tsql_tree.specs.declared.definition.Definition.{Definition}
use Rattle.table_rows.specs.Definitions.{IsDefinitionIn}
use Rattle.step_model.specs.declared.reply.Reply.{Reply}
use Rattle.step_model.specs.declared.reply.Reply.TheVariants.{Memory, Missing, TimedOut, Victim}
use Rattle.step_model.specs.Exchange.{Exchange, CanReply}
use Rattle.batch_meaning.specs.Doing.{Doing, over, reads, makes, defines, asks, room, never}
use Rattle.batch_meaning.specs.Progress.{SessionProgress, made, asked}

-- these exchanges are all of it: from this progress it came to this result, with this progress, and there was room wherever that was asked
unfoldable pub Ample : {A : Type 0} → Doing A → SessionProgress → List Exchange → A → SessionProgress → Type 0
Ample (over a) p exchanges result new = (exchanges ≡ []) × (result ≡ a) × (new ≡ p)
Ample (reads look) p exchanges result new = Ample (look p) p exchanges result new
Ample (makes step next) p exchanges result new = Ample next (made step p) exchanges result new
Ample (defines entry go) p exchanges result new = (found : Option Definition) × IsDefinitionIn entry found × Ample (go found) p exchanges result new
Ample (asks op go) p [] result new = ⊥
Ample (asks op go) p (x ∷ later) result new = (x.op ≡ op) × (x.manner ≡ p.settings.manner) × CanReply op x.reply × Ample (go x.reply) (asked op x.reply p) later result new
Ample (room go) p exchanges result new = Ample (go true) p exchanges result new
Ample never p exchanges result new = ⊥

-- A reply that refuses its operation: memory was wanting for it, another session's lock stood in its way, the session fell as the victim of a deadlock; or there is
-- no row to change, which is told as want of memory (own).
abbrev pub is_refusal : Reply → Bool
is_refusal Memory = true
is_refusal Missing = true
is_refusal (TimedOut holder held wanted on) = true
is_refusal (Victim cycle) = true
is_refusal reply = false

-- no reply of the exchanges is one
abbrev pub NoneRefused : List Exchange → Type 0
NoneRefused exchanges = AllByRecursion (λ x. is_refusal x.reply ≡ false) exchanges
