-- What must hold before a session asks holds behind each exchange and each step.
use Rattle.std.proofs.Common.{◌≡◌, ℕ, ◌||◌, Bool, true, false, if◌then◌else◌, nat_eq, List, [], ◌∷◌, ◌++◌, refl, sym, ap, ◌∙◌, subst, eqb-true}
use Rattle.std.specs.Prelude.{nat_le, IsTrue, filter}
use Rattle.std.specs.List.{list_any}
use Rattle.std.proofs.lemmas.List.Elements.{All-cons, All-head, All-nil, All-tail, All-weaker}
use Rattle.std.proofs.lemmas.List.Folds.{list_any-append}
use Rattle.step_model.specs.declared.manner.Manner.{Manner}
use Rattle.step_model.specs.declared.op.Op.{Op}
use Rattle.step_model.specs.declared.op.Op.TheVariants.{Begin, BackTo, Mark}
use Rattle.step_model.specs.declared.reply.Reply.{Reply}
use Rattle.step_model.specs.declared.reply.Reply.TheVariants.{Began, Done, Ended, Marked}
use Rattle.step_model.specs.Dialog as said
use Rattle.step_model.specs.Dialog.{IsQuiet, Dialog}
use Rattle.step_model.specs.Exchange.{Exchange, IsPriority, Standing, MayCome}
use Rattle.step_model.specs.Port.{PortPast, standing_after, standing_from}
use Rattle.txn_rules.specs.declared.savepoints.Savepoint.{Savepoint}
use Rattle.txn_rules.specs.declared.state.TxnState.{TxnState}
use Rattle.txn_rules.specs.State.{is_closed}
use Rattle.batch_meaning.specs.Progress.{SessionProgress, AreLive, Ready, asked, asked_all, is_open_after, txn_after}
use Rattle.batch_meaning.specs.Doing.{Exchanged}

-- ---- what is open

open_after : (before : Bool) (marks : List ℕ) (op : Op) (reply : Reply) → is_open_after before op reply ≡ (standing_after (record { is_open = before; marks = marks }) op reply).is_open
open_after before marks op (Ended place) = refl
open_after before marks Begin Began = refl
open_after before marks Mark (Marked mark) = refl
open_after before marks (BackTo mark) Done = refl
open_after before marks op reply = refl

-- ---- which marks are live

abbrev IsLive : List ℕ → Savepoint → Type 0
IsLive marks savepoint = IsTrue (list_any (λ live. nat_eq live savepoint.mark) marks)

live_more : (marks more : List ℕ) (savepoint : Savepoint) → IsLive marks savepoint → IsLive (marks ++ more) savepoint
live_more marks more savepoint live = list_any-append (λ live. nat_eq live savepoint.mark) marks more ∙ ap (λ (b : Bool). b || list_any (λ live. nat_eq live savepoint.mark) more) live

or_right : (a b : Bool) → b ≡ true → (a || b) ≡ true
or_right true b is = refl
or_right false b is = is

still_live : (mark m : ℕ) (marks : List ℕ) → nat_le m mark ≡ true → list_any (λ live. nat_eq live m) marks ≡ true → list_any (λ live. nat_eq live m) (filter (λ live. nat_le live mark) marks) ≡ true
still_live mark m [] within live = live
still_live mark m (x ∷ marks) within live = by_first (nat_le x mark) (nat_eq x m) refl refl (still_live mark m marks within) live
  where
    by_first : (kept is : Bool) → nat_le x mark ≡ kept → nat_eq x m ≡ is → (list_any (λ live. nat_eq live m) marks ≡ true → list_any (λ live. nat_eq live m) (filter (λ live. nat_le live mark) marks) ≡ true)
        → (is || list_any (λ live. nat_eq live m) marks) ≡ true
        → list_any (λ live. nat_eq live m) (if kept then x ∷ filter (λ live. nat_le live mark) marks else filter (λ live. nat_le live mark) marks) ≡ true
    by_first true true keeps same later live = ap (λ (b : Bool). b || list_any (λ live. nat_eq live m) (filter (λ live. nat_le live mark) marks)) same
    by_first true false keeps other later live = or_right (nat_eq x m) _ (later live)
    by_first false true drops same later live = absurd (let none : false ≡ true = sym drops ∙ ap (λ (n : ℕ). nat_le n mark) (eqb-true x m same) ∙ within in cc)
    by_first false false drops other later live = later live

kept_live : (mark : ℕ) (marks : List ℕ) (saves : List Savepoint) → AreLive saves marks → AreLive (filter (λ savepoint. nat_le savepoint.mark mark) saves) (filter (λ live. nat_le live mark) marks)
kept_live mark marks [] live = All-nil (IsLive (filter (λ live. nat_le live mark) marks))
kept_live mark marks (savepoint ∷ saves) live = by_kept (nat_le savepoint.mark mark) refl (kept_live mark marks saves (All-tail (IsLive marks) savepoint saves live))
  where
    by_kept : (kept : Bool) → nat_le savepoint.mark mark ≡ kept → AreLive (filter (λ s. nat_le s.mark mark) saves) (filter (λ live. nat_le live mark) marks)
        → AreLive (if kept then savepoint ∷ filter (λ s. nat_le s.mark mark) saves else filter (λ s. nat_le s.mark mark) saves) (filter (λ live. nat_le live mark) marks)
    by_kept true is rest = All-cons (IsLive (filter (λ live. nat_le live mark) marks)) savepoint (filter (λ s. nat_le s.mark mark) saves)
        (still_live mark savepoint.mark marks is (All-head (IsLive marks) savepoint saves live)) rest
    by_kept false is rest = rest

live_after : (txn : TxnState) (standing : Standing) (op : Op) (reply : Reply) → (op ≡ Begin → txn.saves ≡ []) → AreLive txn.saves standing.marks → AreLive (txn_after txn op reply).saves (standing_after standing op reply).marks
live_after txn standing op (Ended place) begins live = All-nil (IsLive [])
live_after txn standing Begin Began begins live = subst (λ (saves : List Savepoint). AreLive saves []) (sym (begins refl)) (All-nil (IsLive []))
live_after txn standing Mark (Marked mark) begins live = All-weaker (IsLive standing.marks) (IsLive (standing.marks ++ mark ∷ [])) (live_more standing.marks (mark ∷ [])) txn.saves live
live_after txn standing (BackTo mark) Done begins live = kept_live mark standing.marks txn.saves live
live_after txn standing op reply begins live = live

-- ---- what is open while something is counted, and none saved where nothing is

counted_after : (txn : TxnState) (opened : Bool) (op : Op) (reply : Reply) → (is_closed txn ≡ false → opened ≡ true) → is_closed (txn_after txn op reply) ≡ false → is_open_after opened op reply ≡ true
counted_after txn opened op (Ended place) counted is = absurd (let no : true ≡ false = is in cc)
counted_after txn opened Begin Began counted is = refl
counted_after txn opened Mark (Marked mark) counted is = counted is
counted_after txn opened (BackTo mark) Done counted is = counted is
counted_after txn opened op reply counted is = counted is

idle_after : (txn : TxnState) (op : Op) (reply : Reply) → (is_closed txn ≡ true → txn.saves ≡ []) → is_closed (txn_after txn op reply) ≡ true → (txn_after txn op reply).saves ≡ []
idle_after txn op (Ended place) idle is = refl
idle_after txn (BackTo mark) Done idle is = ap (λ (saves : List Savepoint). filter (λ savepoint. nat_le savepoint.mark mark) saves) (idle is)
idle_after txn op reply idle is = idle is

shut : (closed opened : Bool) → (closed ≡ false → opened ≡ true) → opened ≡ false → closed ≡ true
shut true opened counted none = refl
shut false opened counted none = absurd (let no : true ≡ false = sym (counted refl) ∙ none in cc)

none_saved : {before : PortPast} {p : SessionProgress} (op : Op) → Ready p before → MayCome before.standing op → op ≡ Begin → p.txn.saves ≡ []
none_saved {before = before} {p = p} op ready may is = ready.idle (shut (is_closed p.txn) p.is_open ready.counted (ready.agree ∙ subst (λ (o : Op). MayCome before.standing o) is may))

-- ---- an exchange

pub ready_asked : {before after : PortPast} {op : Op} {reply : Reply} {p q : SessionProgress} → Ready p before → MayCome before.standing op → Exchanged before after op p reply q → Ready q after
ready_asked {before = before} {after = after} {op = op} {reply = reply} {p = p} {q = q} ready may was = record {
  agree = ap (λ (x : SessionProgress). x.is_open) was.same ∙ ap (λ (b : Bool). is_open_after b op reply) ready.agree ∙ open_after before.standing.is_open before.standing.marks op reply ∙ sym (ap (λ (s : Standing). s.is_open) was.past.standing);
  live = subst (λ (x : SessionProgress). AreLive x.txn.saves after.standing.marks) (sym was.same) (subst (λ (s : Standing). AreLive (txn_after p.txn op reply).saves s.marks) (sym was.past.standing) (live_after p.txn before.standing op reply (none_saved op ready may) ready.live));
  priority = subst (λ (x : SessionProgress). IsPriority x.settings.manner.priority) (sym was.same) ready.priority;
  counted = subst (λ (x : SessionProgress). is_closed x.txn ≡ false → x.is_open ≡ true) (sym was.same) (counted_after p.txn p.is_open op reply ready.counted);
  idle = subst (λ (x : SessionProgress). is_closed x.txn ≡ true → x.txn.saves ≡ []) (sym was.same) (idle_after p.txn op reply ready.idle);
}

-- ---- steps

-- ---- a dialog

-- where a session stands, of what is left to ask
record Stands (p : SessionProgress) (standing : Standing) : Type 0 where
  agree : p.is_open ≡ standing.is_open
  live : AreLive p.txn.saves standing.marks
  priority : IsPriority p.settings.manner.priority
  counted : is_closed p.txn ≡ false → p.is_open ≡ true
  idle : is_closed p.txn ≡ true → p.txn.saves ≡ []

stands_asked : (p : SessionProgress) (standing : Standing) (op : Op) (reply : Reply) → IsQuiet op → Stands p standing → Stands (asked op reply p) (standing_after standing op reply)
stands_asked p standing op reply quiet stands = record {
  agree = ap (λ (b : Bool). is_open_after b op reply) stands.agree ∙ open_after standing.is_open standing.marks op reply;
  live = live_after p.txn standing op reply (λ is. absurd (subst IsQuiet is quiet)) stands.live;
  priority = stands.priority;
  counted = counted_after p.txn p.is_open op reply stands.counted;
  idle = idle_after p.txn op reply stands.idle;
}

stands_said : {A : Type 0} (manner : Manner) (dialog : Dialog A) (p : SessionProgress) (standing : Standing) (exchanges : List Exchange) (a : A) → said.Held manner dialog exchanges a → Stands p standing → Stands (asked_all exchanges p) (standing_from standing exchanges)
unfolding said.Held
stands_said manner (said.over c) p standing exchanges a held stands = subst (λ (l : List Exchange). Stands (asked_all l p) (standing_from standing l)) (sym held.0) stands
stands_said manner (said.asks op quiet go) p standing [] a held stands = absurd held
stands_said manner (said.asks op quiet go) p standing (x ∷ later) a held stands =
    stands_said manner (go x.reply) (asked x.op x.reply p) (standing_after standing x.op x.reply) later a held.3 (stands_asked p standing x.op x.reply (subst IsQuiet (sym held.0) quiet) stands)
stands_said manner (said.room go) p standing exchanges a held stands = stands_said manner (go held.0) p standing exchanges a held.1 stands
stands_said manner said.never p standing exchanges a held stands = absurd held

pub ready_said : {before after : PortPast} {A : Type 0} {manner : Manner} (dialog : Dialog A) {p : SessionProgress} {a : A} → Ready p before → (asks : said.Asks before after manner dialog a) → Ready (asked_all asks.exchanges p) after
ready_said {before = before} {after = after} {manner = manner} dialog {p = p} {a = a} ready asks =
    let stands : Stands (asked_all asks.exchanges p) after.standing = subst (λ (s : Standing). Stands (asked_all asks.exchanges p) s) (sym asks.past.standing)
    (stands_said manner dialog p before.standing asks.exchanges a asks.held (record { agree = ready.agree; live = ready.live; priority = ready.priority; counted = ready.counted; idle = ready.idle })) in
    record { agree = stands.agree; live = stands.live; priority = stands.priority; counted = stands.counted; idle = stands.idle }
