-- Own: exchanges that ask operations of one kind alone.
use Rattle.std.specs.Prelude.{List}
use Rattle.std.specs.List.{AllByRecursion}
use Rattle.step_model.specs.declared.op.Op.{Op}
use Rattle.step_model.specs.declared.op.Op.TheVariants.{Fetch}
use Rattle.step_model.specs.Exchange.{CanReply, Exchange}

-- a fetch, of whatever hold
abbrev pub IsFetch : Op → Type 0
IsFetch (Fetch table start stop hold part) = Unit {0}
IsFetch op = ⊥

-- exchanges that ask such operations alone
abbrev pub AskOnly : (Op → Type 0) → List Exchange → Type 0
AskOnly P exchanges = AllByRecursion (λ exchange. P exchange.op × CanReply exchange.op exchange.reply) exchanges
