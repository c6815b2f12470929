-- What a dialog comes to, from what its parts come to.
use Rattle.std.proofs.Common.{◌≡◌, Bool, true, false, if◌then◌else◌, List, [], ◌∷◌, ◌++◌, Result, Ok, Err, refl, sym, subst, append_assoc}
use Rattle.step_model.specs.declared.manner.Manner.{Manner}
use Rattle.step_model.specs.declared.op.Op.{Op}
use Rattle.step_model.specs.declared.reply.Reply.{Reply}
use Rattle.step_model.specs.declared.reply.Reply.TheVariants.{Memory}
use Rattle.step_model.specs.Exchange.{Exchange, CanReply}
use Rattle.step_model.specs.Port.{PortPast, GoesOn}
use Rattle.step_model.specs.Dialog.{IsQuiet, Dialog, over, asks, room, never, tries, ◌then◌, Held, Leads, Asks}
use Rattle.step_model.proofs.Pasts.{goes_nowhere, goes_further}
use Rattle.dml_exec.specs.Asking.{on_ok, ◌>>=◌}

held_then : {A B : Type 0} (manner : Manner) (dialog : Dialog A) (go : A → Dialog B) (first second : List Exchange) (a : A) (b : B)
    → Held manner dialog first a → Held manner (go a) second b → Held manner (dialog then go) (first ++ second) b
unfolding Held ◌then◌
held_then manner (over c) go first second a b held more = rw (held.0) (subst (λ x. Held manner (go x) second b) held.1 more)
held_then manner (asks op quiet next) go [] second a b held more = absurd held
held_then manner (asks op quiet next) go (x ∷ first) second a b held more = (held.0, held.1, held.2, held_then manner (next x.reply) go first second a b held.3 more)
held_then manner (room next) go first second a b held more = (held.0, held_then manner (next held.0) go first second a b held.1 more)
held_then manner never go first second a b held more = absurd held

-- ---- between two moments of the port

pub asks_over : {now : PortPast} {manner : Manner} {A : Type 0} {a result : A} → result ≡ a → Asks now now manner (over a) result
unfolding Held
asks_over {now = now} is = record { exchanges = []; past = goes_nowhere now; held = (refl, is) }

module _ {before after : PortPast} {manner : Manner} where
  pub asks_room : {A : Type 0} {result : A} (enough : Bool) (go : Bool → Dialog A) → Asks before after manner (go enough) result → Asks before after manner (room go) result
  unfolding Held
  asks_room enough go was = record { exchanges = was.exchanges; past = was.past; held = (enough, was.held) }

  -- one operation, and what comes of its reply
  pub asks_one : {mid : PortPast} {A : Type 0} {result : A} {op : Op} (quiet : IsQuiet op) (go : Reply → Dialog A) (reply : Reply)
      → GoesOn before mid (record { op = op; manner = manner; reply = reply } ∷ []) → CanReply op reply → Asks mid after manner (go reply) result → Asks before after manner (asks op quiet go) result
  unfolding Held
  asks_one {mid = mid} {op = op} quiet go reply went can was = record {
    exchanges = record { op = op; manner = manner; reply = reply } ∷ was.exchanges;
    past = goes_further before mid after (record { op = op; manner = manner; reply = reply } ∷ []) was.exchanges went was.past;
    held = (refl, refl, can, was.held);
  }

  -- there is memory to ask it, or not
  pub asks_tried : {mid : PortPast} {A : Type 0} {result : A} {op : Op} (quiet : IsQuiet op) (go : Reply → Dialog A) (reply : Reply)
      → GoesOn before mid (record { op = op; manner = manner; reply = reply } ∷ []) → CanReply op reply → Asks mid after manner (go reply) result → Asks before after manner (tries op quiet go) result
  unfolding tries
  asks_tried {op = op} quiet go reply went can was = asks_room true (λ enough. if enough then asks op quiet go else go Memory) (asks_one quiet go reply went can was)

  pub asks_untried : {A : Type 0} {result : A} (op : Op) (quiet : IsQuiet op) (go : Reply → Dialog A) → Asks before after manner (go Memory) result → Asks before after manner (tries op quiet go) result
  unfolding tries
  asks_untried op quiet go was = asks_room false (λ enough. if enough then asks op quiet go else go Memory) was

  -- one dialog behind another
  pub asks_then : {mid : PortPast} {A B : Type 0} {a : A} {b : B} (dialog : Dialog A) (go : A → Dialog B) → Asks before mid manner dialog a → Asks mid after manner (go a) b → Asks before after manner (dialog then go) b
  asks_then {mid = mid} {a = a} {b = b} dialog go first second = record {
    exchanges = first.exchanges ++ second.exchanges;
    past = goes_further before mid after first.exchanges second.exchanges first.past second.past;
    held = held_then manner dialog go first.exchanges second.exchanges a b first.held second.held;
  }

  -- a failure of the first is that of both
  pub asks_failed : {A B E : Type 0} (dialog : Dialog (Result A E)) (go : A → Dialog (Result B E)) (e : E) → Asks before after manner dialog (Err e) → Asks before after manner (dialog >>= go) (Err e)
  asks_failed dialog go e first = asks_then dialog (on_ok go) first (asks_over refl)

  pub asks_behind : {mid : PortPast} {A B E : Type 0} (dialog : Dialog (Result A E)) (go : A → Dialog (Result B E)) (a : A) (b : Result B E) → Asks before mid manner dialog (Ok a) → Asks mid after manner (go a) b → Asks before after manner (dialog >>= go) b
  asks_behind dialog go a b first second = asks_then dialog (on_ok go) first second

-- ---- what is left

module _ {before now : PortPast} {manner : Manner} {A : Type 0} {whole : Dialog A} where
  -- the rest comes to this
  pub leads_to : {after : PortPast} {result : A} {rest : Dialog A} → Leads before now manner whole rest → Asks now after manner rest result → Asks before after manner whole result
  leads_to {after = after} {result = result} leads was = record {
    exchanges = leads.front ++ was.exchanges;
    past = goes_further before now after leads.front was.exchanges leads.past was.past;
    held = leads.goes was.exchanges result was.held;
  }

  -- a part of it was held
  pub leads_then : {next : PortPast} {B : Type 0} {b : B} (dialog : Dialog B) (go : B → Dialog A) → Leads before now manner whole (dialog then go) → Asks now next manner dialog b → Leads before next manner whole (go b)
  leads_then {next = next} {b = b} dialog go leads was = record {
    front = leads.front ++ was.exchanges;
    past = goes_further before now next leads.front was.exchanges leads.past was.past;
    goes = λ later result held. subst (λ (x : List Exchange). Held manner whole x result) (sym (append_assoc leads.front was.exchanges later))
        (leads.goes (was.exchanges ++ later) result (held_then manner dialog go was.exchanges later b result was.held held));
  }
