-- A dialog that is being held: what is left of it, after one step more.
use Rattle.std.proofs.Common.{◌≡◌, ℕ, Bool, false, List, [], ◌∷◌, ◌++◌, refl, sym, ap, ◌∙◌, subst, append_assoc, append-nil}
use Rattle.step_model.specs.declared.manner.Manner.{Manner}
use Rattle.step_model.specs.declared.op.Op.{Op}
use Rattle.step_model.specs.declared.op.Op.TheVariants as op
use Rattle.step_model.specs.declared.reply.Reply.{Reply}
use Rattle.step_model.specs.declared.reply.Reply.TheVariants.{Marked, Done, Ended, Memory}
use Rattle.step_model.specs.Exchange.{Exchange, Standing, CanReply}
use Rattle.step_model.specs.Port.{PortPast, GoesOn, standing_after, standing_from}
use Rattle.step_model.specs.Dialog.{IsQuiet, Dialog, over, asks, room, never, tries, Held, Leads, Asks}
use Rattle.step_model.proofs.Pasts.{goes_nowhere, goes_further}

pub front_here : {now : PortPast} {A : Type 0} {manner : Manner} {dialog : Dialog A} → Leads now now manner dialog dialog
front_here {now = now} = record { front = []; past = goes_nowhere now; goes = λ later result held. held }

module _ {A : Type 0} {before now : PortPast} {manner : Manner} {whole : Dialog A} where
  -- nothing is left to ask
  pub front_over : (result : A) → Leads before now manner whole (over result) → Asks before now manner whole result
  unfolding Held
  front_over result leads = record {
    exchanges = leads.front;
    past = leads.past;
    held = subst (λ (x : List Exchange). Held manner whole x result) (append-nil leads.front) (leads.goes [] result (refl, refl));
  }

  -- memory is left, or wanting
  pub front_room : (enough : Bool) (go : Bool → Dialog A) → Leads before now manner whole (room go) → Leads before now manner whole (go enough)
  unfolding Held
  front_room enough go leads = record { front = leads.front; past = leads.past; goes = λ later result held. leads.goes later result (enough, held) }

  -- memory is wanting before the operation is asked
  pub front_refused : (op : Op) (quiet : IsQuiet op) (go : Reply → Dialog A) → Leads before now manner whole (tries op quiet go) → Leads before now manner whole (go Memory)
  unfolding Held tries
  front_refused op quiet go leads = record { front = leads.front; past = leads.past; goes = λ later result held. leads.goes later result (false, held) }

  -- one operation more
  pub front_asks : {next : PortPast} {op : Op} (quiet : IsQuiet op) (go : Reply → Dialog A) (reply : Reply)
      → GoesOn now next (record { op = op; manner = manner; reply = reply } ∷ []) → CanReply op reply → Leads before now manner whole (asks op quiet go) → Leads before next manner whole (go reply)
  unfolding Held
  front_asks {next = next} {op = op} quiet go reply told can leads = record {
    front = leads.front ++ record { op = op; manner = manner; reply = reply } ∷ [];
    past = goes_further before now next leads.front (record { op = op; manner = manner; reply = reply } ∷ []) leads.past told;
    goes = λ later result held. subst (λ (x : List Exchange). Held manner whole x result) (sym (append_assoc leads.front (record { op = op; manner = manner; reply = reply } ∷ []) later))
        (leads.goes (record { op = op; manner = manner; reply = reply } ∷ later) result (refl, refl, can, held));
  }

-- ---- what is open

ends_none : (op : Op) (place : ℕ) → IsQuiet op → CanReply op (Ended place) → ⊥
ends_none op.Commit place quiet can = quiet
ends_none op.Rollback place quiet can = quiet
ends_none op.Begin place quiet can = can
ends_none op.Mark place quiet can = can
ends_none op.Relax place quiet can = can
ends_none (op.BackTo mark) place quiet can = can
ends_none (op.Fetch table start stop hold part) place quiet can = can
ends_none (op.Insert table key row) place quiet can = can
ends_none (op.Replace table key row) place quiet can = can
ends_none (op.Erase table key) place quiet can = can

quiet_stays : (op : Op) (reply : Reply) (before : Standing) → IsQuiet op → CanReply op reply → (standing_after before op reply).is_open ≡ before.is_open
quiet_stays op (Ended place) before quiet can = absurd (ends_none op place quiet can)
quiet_stays op.Begin reply before quiet can = absurd quiet
quiet_stays op.Mark (Marked mark) before quiet can = refl
quiet_stays (op.BackTo mark) Done before quiet can = refl
quiet_stays op reply before quiet can = refl

-- a dialog leaves a transaction open, or none
pub held_stays : {A : Type 0} (manner : Manner) (dialog : Dialog A) (exchanges : List Exchange) (result : A) (before : Standing) → Held manner dialog exchanges result → (standing_from before exchanges).is_open ≡ before.is_open
unfolding Held
held_stays manner (over a) exchanges result before held = ap (λ (x : List Exchange). (standing_from before x).is_open) held.0
held_stays manner (asks op quiet go) [] result before held = absurd held
held_stays manner (asks op quiet go) (x ∷ later) result before held =
    let same : x.op ≡ op = held.0 in
    ap (λ (o : Op). (standing_from (standing_after before o x.reply) later).is_open) same
    ∙ held_stays manner (go x.reply) later result (standing_after before op x.reply) held.3
    ∙ quiet_stays op x.reply before quiet held.2
held_stays manner (room go) exchanges result before held = held_stays manner (go held.0) exchanges result before held.1
held_stays manner never exchanges result before held = absurd held

pub asks_stays : {before after : PortPast} {A : Type 0} {manner : Manner} {dialog : Dialog A} {result : A} → Asks before after manner dialog result → after.standing.is_open ≡ before.standing.is_open
asks_stays {before = before} {manner = manner} {dialog = dialog} {result = result} was =
    ap (λ (s : Standing). s.is_open) was.past.standing ∙ held_stays manner dialog was.exchanges result before.standing was.held
