-- Own: which steps may come, and steps one after another, of any sessions; and the engine before any step.
use Rattle.std.specs.Prelude.{◌≡◌, ℕ, ◌==◌, List, [], ◌∷◌, map, if◌then◌else◌}
use Rattle.step_model.specs.declared.manner.Manner.{Manner}
use Rattle.step_model.specs.declared.op.Op.{Op}
use Rattle.step_model.specs.Exchange.{Exchange, Standing, IsSession, MayAsk}
use Rattle.step_model.specs.State.{Engine, is_open, saved_of}
use Rattle.step_model.specs.Step.{Step}

-- the engine before any step
abbrev pub opening : Engine
opening = record { entries = []; active = []; log = [] }

-- where a session stands in a state of the engine
abbrev pub standing_of : ℕ → Engine → Standing
standing_of session engine = record { is_open = is_open session engine; marks = map (λ saved. saved.mark) (saved_of session engine) }

-- a session may ask an operation in a manner
abbrev pub MayStep : Engine → ℕ → Op → Manner → Type 0
MayStep engine session op manner = IsSession session × MayAsk (standing_of session engine) op manner

-- a session asks an operation in a manner, and gets a reply
pub record Asked : Type 0 where
  pub session : ℕ
  pub exchange : Exchange

-- the exchanges of one session among steps
abbrev pub mine_of : ℕ → List Asked → List Exchange
mine_of session [] = []
mine_of session (asked ∷ others) = if asked.session == session then asked.exchange ∷ mine_of session others else mine_of session others

-- steps one after another, of any sessions
abbrev pub Run : Engine → List Asked → Engine → Type 0
Run old [] new = new ≡ old
Run old (asked ∷ others) new = (mid : Engine) × MayStep old asked.session asked.exchange.op asked.exchange.manner
    × Step old asked.session asked.exchange.op asked.exchange.manner asked.exchange.reply mid × Run mid others new
