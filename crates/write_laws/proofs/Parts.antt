-- All exchanges that fetch by range read one database: they change nothing, and end no transaction.
use Rattle.std.proofs.Common.{◌≡◌, ℕ, Bool, true, false, List, [], ◌∷◌, ◌++◌, length, map, take, if◌then◌else◌, Result, Ok, Err, refl, sym, ap, subst, ◌∙◌, append-nil, append_assoc}
use Rattle.std.specs.List.{AllByRecursion, flat_map}
use Rattle.step_model.specs.declared.change.Change.{Change}
use Rattle.step_model.specs.declared.change.Planned.{Planned}
use Rattle.step_model.specs.declared.manner.Manner.{Manner}
use Rattle.step_model.specs.declared.op.Hold.TheVariants.{Range}
use Rattle.step_model.specs.declared.op.Op.{Op}
use Rattle.step_model.specs.declared.op.Op.TheVariants.{Fetch}
use Rattle.step_model.specs.declared.reply.Reply.{Reply}
use Rattle.step_model.specs.declared.reply.Reply.TheVariants.{Ended}
use Rattle.step_model.specs.Database.{Database, With, nothing, with_change}
use Rattle.step_model.specs.Dialog.{Dialog, over, asks, room, never, ◌then◌, Held}
use Rattle.step_model.specs.Exchange.{Exchange, CanReply}
use Rattle.step_model.specs.Fits.{AnswersIn, HoldsRange, place_of, ranges_hold, is_ended, view, NoneEnds}
use Rattle.step_model.specs.Log.{Commit as Logged, State, state_at}
use Rattle.step_model.specs.Own.{Progress, change_of, none_open, progress_after, progress_from, progress_of}
use Rattle.constraint_check.specs.Laws.{KeysAreOne}
use Rattle.constraint_check.proofs.Behind.{one_with}
use Rattle.history_laws.proofs.Splits.{not_ended, progress_more}
use Rattle.dml_exec.specs.Asking.{on_ok, ◌>>=◌, with_room, with_room_if}
use Rattle.write_laws.specs.Reading.{FetchesLeave}
use Rattle.statement_paths.specs.Asked.{AskOnly, IsFetch}
use Rattle.write_laws.specs.Reads.{at_place, HoldsIt}

-- ---- what a dialog asks

-- each operation that a dialog asks is of such a kind
module _ (P : Op → Type 0) where
  abbrev pub AsksOnly : {A : Type 0} → Dialog A → Type 0
  AsksOnly (over a) = Unit {0}
  AsksOnly (asks op quiet go) = P op × ((reply : Reply) → AsksOnly (go reply))
  AsksOnly (room go) = (enough : Bool) → AsksOnly (go enough)
  AsksOnly never = Unit {0}

  pub asks_then : {A B : Type 0} (dialog : Dialog A) (go : A → Dialog B) → AsksOnly dialog → ((a : A) → AsksOnly (go a)) → AsksOnly (dialog then go)
  unfolding ◌then◌
  asks_then (over a) go first second = second a
  asks_then (asks op quiet next) go first second = (first.0, λ reply. asks_then (next reply) go (first.1 reply) second)
  asks_then (room next) go first second = λ enough. asks_then (next enough) go (first enough) second
  asks_then never go first second = tt

  pub asks_ok : {A B E : Type 0} (dialog : Dialog (Result A E)) (go : A → Dialog (Result B E)) → AsksOnly dialog → ((a : A) → AsksOnly (go a)) → AsksOnly (dialog >>= go)
  asks_ok {A} {B} {E} dialog go first second = asks_then dialog (on_ok go) first by_came
    where
      by_came : (came : Result A E) → AsksOnly (on_ok go came)
      by_came (Ok a) = second a
      by_came (Err e) = tt

  pub asks_room : {A E : Type 0} (wanted : E) (dialog : Dialog (Result A E)) → AsksOnly dialog → AsksOnly (with_room wanted dialog)
  asks_room wanted dialog only = by_room
    where
      by_room : (enough : Bool) → AsksOnly (if enough then dialog else over (Err wanted))
      by_room true = only
      by_room false = tt

  pub asks_room_if : {A E : Type 0} (wants : Bool) (wanted : E) (dialog : Dialog (Result A E)) → AsksOnly dialog → AsksOnly (with_room_if wants wanted dialog)
  asks_room_if true wanted dialog only = asks_room wanted dialog only
  asks_room_if false wanted dialog only = only

  pub all_asked : {A : Type 0} (manner : Manner) (dialog : Dialog A) (part : List Exchange) (result : A) → AsksOnly dialog → Held manner dialog part result → AllByRecursion (λ x. P x.op × CanReply x.op x.reply) part
  unfolding Held
  all_asked manner (over a) part result only held = subst (λ (xs : List Exchange). AllByRecursion (λ x. P x.op × CanReply x.op x.reply) xs) (sym held.0) tt
  all_asked manner (asks op quiet go) [] result only held = absurd held
  all_asked manner (asks op quiet go) (x ∷ later) result only held =
      (subst (λ (o : Op). P o × CanReply o x.reply) (sym held.0) (only.0, held.2), all_asked manner (go x.reply) later result (only.1 x.reply) held.3)
  all_asked manner (room go) part result only held = all_asked manner (go held.0) part result (only held.0) held.1
  all_asked manner never part result only held = absurd held

-- of another kind too
pub asks_more : {A : Type 0} (P Q : Op → Type 0) → ((op : Op) → P op → Q op) → (dialog : Dialog A) → AsksOnly P dialog → AsksOnly Q dialog
asks_more P Q on (over a) only = tt
asks_more P Q on (asks op quiet go) only = (on op only.0, λ reply. asks_more P Q on (go reply) (only.1 reply))
asks_more P Q on (room go) only = λ enough. asks_more P Q on (go enough) (only enough)
asks_more P Q on never only = tt

-- it fetches by ranges alone, which it holds
abbrev pub Fetches : {A : Type 0} → Dialog A → Type 0
Fetches dialog = AsksOnly HoldsIt dialog

abbrev pub IsFetched : Exchange → Type 0
IsFetched x = HoldsIt x.op × CanReply x.op x.reply

-- ---- they leave their transaction as it was

own_same : (so_far : Progress) (op : Op) (reply : Reply) → HoldsIt op → CanReply op reply → (progress_after so_far op reply).own ≡ so_far.own
own_same so_far (Fetch table start stop Range part) (Ended place) holds can = absurd can
own_same so_far (Fetch table start stop Range part) reply holds can = append-nil so_far.own
own_same so_far op reply holds can = absurd holds

goes_on : (op : Op) (reply : Reply) → HoldsIt op → CanReply op reply → is_ended reply ≡ false
goes_on (Fetch table start stop Range part) (Ended place) holds can = absurd can
goes_on (Fetch table start stop Range part) reply holds can = refl
goes_on op reply holds can = absurd holds

pub same_place : (behind : ℕ) (part later : List Exchange) → AllByRecursion IsFetched part → place_of behind (part ++ later) ≡ place_of behind later
same_place behind [] later all = refl
same_place behind (x ∷ part) later all = not_ended x.reply (place_of behind (part ++ later)) (goes_on x.op x.reply all.0.0 all.0.1) ∙ same_place behind part later all.1

answer_of : (op : Op) (P : Type 0) → HoldsIt op → HoldsRange op P → P
answer_of (Fetch table start stop Range part) P holds h = h
answer_of op P holds h = absurd holds

-- so all their answers are of one database
pub answers : (log : List Logged) (mine before part later : List Exchange) → mine ≡ before ++ (part ++ later) → ranges_hold log mine → AllByRecursion IsFetched part
    → AllByRecursion (λ x. AnswersIn (at_place log before later) x.op x.reply) part
answers log mine before [] later is holds all = tt
answers log mine before (x ∷ part) later is holds all = (
  answer_of x.op (AnswersIn (at_place log before later) x.op x.reply) all.0.0
      (subst (λ (n : ℕ). HoldsRange x.op (AnswersIn (view log n before) x.op x.reply)) (same_place (length log) part later all.1) (holds before x (part ++ later) is)),
  subst (λ (own : List Planned). AllByRecursion (λ x. AnswersIn (state_at log (place_of (length log) later) (map change_of own)) x.op x.reply) part)
      (ap (λ (p : Progress). p.own) (progress_more none_open before x) ∙ own_same (progress_of before) x.op x.reply all.0.0 all.0.1)
      (answers log mine (before ++ x ∷ []) part later (is ∙ sym (append_assoc before (x ∷ []) (part ++ later))) holds all.1),
)

-- ---- keys of it that compare equal are one

one_with_all : (changes : List Change) (db : Database) → KeysAreOne db → KeysAreOne (With db changes)
one_with_all [] db one = one
one_with_all (change ∷ changes) db one = one_with_all changes (with_change db change) (one_with db one change)

pub one_state : (log : List Logged) → KeysAreOne (State log)
one_state log = one_with_all (flat_map (λ (commit : Logged). commit.changes) log) nothing (λ table key other is. refl)

pub one_view : (log : List Logged) (p : ℕ) (before : List Exchange) → KeysAreOne (view log p before)
one_view log p before = one_with_all (map change_of (progress_of before).own) (State (take p log)) (one_state (take p log))

pub one_place : (log : List Logged) (before later : List Exchange) → KeysAreOne (at_place log before later)
one_place log before later = one_view log (place_of (length log) later) before

pub own_stays : (part : List Exchange) (stand : Progress) → AllByRecursion IsFetched part → (progress_from stand part).own ≡ stand.own
own_stays [] stand all = refl
own_stays (x ∷ part) stand all = own_stays part (progress_after stand x.op x.reply) all.1 ∙ own_same stand x.op x.reply all.0.0 all.0.1

pub from_both : (stand : Progress) (first second : List Exchange) → progress_from stand (first ++ second) ≡ progress_from (progress_from stand first) second
from_both stand [] second = refl
from_both stand (x ∷ first) second = from_both (progress_after stand x.op x.reply) first second

-- ---- fetches of any hold

pub fetch_own : (so_far : Progress) (op : Op) (reply : Reply) → IsFetch op → CanReply op reply → (progress_after so_far op reply).own ≡ so_far.own
fetch_own so_far (Fetch table start stop hold part) (Ended place) fetch can = absurd can
fetch_own so_far (Fetch table start stop hold part) reply fetch can = append-nil so_far.own
fetch_own so_far op reply fetch can = absurd fetch

fetch_goes : (op : Op) (reply : Reply) → IsFetch op → CanReply op reply → is_ended reply ≡ false
fetch_goes (Fetch table start stop hold part) (Ended place) fetch can = absurd can
fetch_goes (Fetch table start stop hold part) reply fetch can = refl
fetch_goes op reply fetch can = absurd fetch

fetches_own : (part : List Exchange) (stand : Progress) → AskOnly IsFetch part → (progress_from stand part).own ≡ stand.own
fetches_own [] stand all = refl
fetches_own (x ∷ part) stand all = fetches_own part (progress_after stand x.op x.reply) all.1 ∙ fetch_own stand x.op x.reply all.0.0 all.0.1

fetches_go : (part : List Exchange) → AskOnly IsFetch part → NoneEnds part
fetches_go [] all = tt
fetches_go (x ∷ part) all = (fetch_goes x.op x.reply all.0.0 all.0.1, fetches_go part all.1)

pub fetches_leave : FetchesLeave
fetches_leave before part all = record {
  own = ap (λ (p : Progress). p.own) (from_both none_open before part) ∙ fetches_own part (progress_of before) all;
  goes_on = fetches_go part all;
}
