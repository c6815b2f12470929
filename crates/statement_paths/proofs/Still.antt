-- What reads alone changes nothing of the session but that its locks are to be relaxed; where a statement begins a transaction for its work, that
-- is open.
use Rattle.std.proofs.Common.{◌≡◌, true, List, [], ◌∷◌, ◌++◌, Ok, refl, sym, ap, ◌∙◌, subst}
use Rattle.tsql_tree.specs.declared.definition.TableTree.{TableTree}
use Rattle.step_model.specs.declared.change.Planned.{Planned}
use Rattle.step_model.specs.declared.manner.Manner.{Manner}
use Rattle.step_model.specs.declared.op.Op.{Op}
use Rattle.step_model.specs.declared.op.Op.TheVariants as ops
use Rattle.step_model.specs.declared.reply.Reply.{Reply}
use Rattle.step_model.specs.declared.reply.Reply.TheVariants as replies
use Rattle.step_model.specs.Exchange.{Exchange, CanReply}
use Rattle.statement_paths.specs.Asked.{AskOnly, IsFetch}
use Rattle.batch_meaning.specs.Progress.{SessionProgress, SessionStep, touches, made, asked, asked_all}
use Rattle.batch_meaning.specs.Doing.{Doing, Held}
use Rattle.constraint_check.specs.Reads.{reads_for}
use Rattle.dml_exec.specs.Planning.{as_found}
use Rattle.dml_exec.specs.Writing.{asks_keys, checks_all, writes_all}
use Rattle.statement_paths.specs.Paths.{AreApplied, IsForward, replied}
use Rattle.statement_paths.proofs.Only.{IsTouch, Only, held_keeps, says_held}
use Rattle.statement_paths.proofs.Asking.{checks_say, fetch_forward, keys_say, writes_say}

-- a tree that fetches alone
abbrev pub Reads : {A : Type 0} → Doing A → Type 0
Reads tree = Only IsTouch IsFetch tree

abbrev pub Still : SessionProgress → SessionProgress → Type 0
Still p q = q ≡ record p { is_open = q.is_open; touched = q.touched }

pub touched_still : (p q : SessionProgress) → Still p q → Still p (record q { touched = true })
touched_still p q still = ap (λ (s : SessionProgress). record s { touched = true }) still

fetch_same : (op : Op) (reply : Reply) (q : SessionProgress) → IsFetch op → CanReply op reply → asked op reply q ≡ record q { touched = true }
fetch_same (ops.Fetch table start stop hold part) (replies.Ended place) q fetch can = absurd can
fetch_same (ops.Fetch table start stop hold part) reply q fetch can = refl
fetch_same op reply q fetch can = absurd fetch

module _ (p : SessionProgress) where
  by_step : (step : SessionStep) (q : SessionProgress) → IsTouch step → Still p q → Still p (made step q)
  by_step touches q touch still = touched_still p q still
  by_step step q touch still = absurd touch

  by_op : (op : Op) (reply : Reply) (q : SessionProgress) → IsFetch op → CanReply op reply → Still p q → Still p (asked op reply q)
  by_op op reply q fetch can still = subst (Still p) (sym (fetch_same op reply q fetch can)) (touched_still p q still)

  pub reads_still : {A : Type 0} (tree : Doing A) (new : SessionProgress) (exchanges : List Exchange) (a : A) → Reads tree → Held tree p exchanges a new → Still p new
  reads_still tree new exchanges a reads held = held_keeps IsTouch IsFetch (Still p) by_step by_op tree p new exchanges a reads held refl

  -- so do fetches
  pub fetches_still : (exchanges : List Exchange) (q : SessionProgress) → AskOnly IsFetch exchanges → Still p q → Still p (asked_all exchanges q)
  fetches_still [] q fetches still = still
  fetches_still (x ∷ later) q fetches still = fetches_still later (asked x.op x.reply q) fetches.1 (by_op x.op x.reply q fetches.0.0 fetches.0.1 still)

pub still_then : (p q r : SessionProgress) → Still p q → Still q r → Still p r
still_then p q r first second = second ∙ ap (λ (s : SessionProgress). record s { is_open = r.is_open; touched = r.touched }) first

pub still_manner : (p q : SessionProgress) → Still p q → q.settings.manner ≡ p.settings.manner
still_manner p q still = ap (λ (s : SessionProgress). s.settings.manner) still

-- ---- changes

forward_same : (op : Op) (reply : Reply) (q : SessionProgress) → IsForward op → CanReply op reply → asked op reply q ≡ record q { touched = true }
forward_same (ops.Fetch table start stop hold part) (replies.Ended place) q forward can = absurd can
forward_same (ops.Insert table key row) (replies.Ended place) q forward can = absurd can
forward_same (ops.Replace table key row) (replies.Ended place) q forward can = absurd can
forward_same (ops.Erase table key) (replies.Ended place) q forward can = absurd can
forward_same (ops.Fetch table start stop hold part) reply q forward can = refl
forward_same (ops.Insert table key row) reply q forward can = refl
forward_same (ops.Replace table key row) reply q forward can = refl
forward_same (ops.Erase table key) reply q forward can = refl
forward_same op reply q forward can = absurd forward

forwards_still : (p : SessionProgress) (exchanges : List Exchange) (q : SessionProgress) → AskOnly IsForward exchanges → Still p q → Still p (asked_all exchanges q)
forwards_still p [] q forward still = still
forwards_still p (x ∷ later) q forward still = forwards_still p later (asked x.op x.reply q) forward.1 (subst (Still p) (sym (forward_same x.op x.reply q forward.0.0 forward.0.1)) (touched_still p q still))

ask_both : (front back : List Exchange) → AskOnly IsForward front → AskOnly IsForward back → AskOnly IsForward (front ++ back)
ask_both [] back one two = two
ask_both (x ∷ front) back one two = (one.0, ask_both front back one.1 two)

-- and what follows fetches, from there
fetches_then : (p : SessionProgress) (asks rest : List Exchange) (q : SessionProgress) → AskOnly IsFetch asks → Still p q → ((r : SessionProgress) → Still p r → Still p (asked_all rest r)) → Still p (asked_all (asks ++ rest) q)
fetches_then p [] rest q fetch still on = on q still
fetches_then p (x ∷ asks) rest q fetch still on =
    fetches_then p asks rest (asked x.op x.reply q) fetch.1 (subst (Still p) (sym (forward_same x.op x.reply q (fetch_forward x.op fetch.0.0) fetch.0.1)) (touched_still p q still)) on

-- so do changes that stand, behind their mark
pub applied_still : (p : SessionProgress) (manner : Manner) (shapes : List TableTree) (plan planned : List Planned) (exchanges : List Exchange) (q : SessionProgress) → AreApplied manner shapes plan planned exchanges → Still p q → Still p (asked_all exchanges q)
applied_still p manner shapes plan planned exchanges q applied still =
    subst (λ (l : List Exchange). Still p (asked_all l q)) (sym applied.parts)
    (fetches_then p applied.asked (replied manner ops.Mark (replies.Marked applied.mark) ∷ (applied.put ++ applied.checked)) q (says_held IsFetch manner (asks_keys plan []) applied.asked (Ok applied.found) (keys_say plan []) applied.asks) still (λ r so.
    forwards_still p (applied.put ++ applied.checked) r
    (ask_both applied.put applied.checked (says_held IsForward manner (writes_all shapes (as_found plan applied.found)) applied.put (Ok tt) (writes_say shapes (as_found plan applied.found)) applied.puts)
    (says_held IsForward manner (checks_all shapes (reads_for plan shapes)) applied.checked (Ok tt) (checks_say shapes (reads_for plan shapes)) applied.checks)) so))
