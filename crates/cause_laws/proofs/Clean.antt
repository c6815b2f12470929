-- Trees that tell no error that is looked for, and come to something of which a fact holds, whatever is replied, answered and left that may be. What was held of such a tree
-- has sent none.
use Rattle.std.proofs.Common.{◌≡◌, refl, sym, ap, ◌∙◌, subst, ℕ, pred, pos, List, [], ◌∷◌, ◌++◌, Option, Bool, true, false, Result, Ok, Err, if◌then◌else◌, append-nil, append_assoc, ℤ}
use Rattle.std.specs.List.{AllByRecursion}
use Rattle.std.specs.Prelude.{nat_lt}
use Rattle.tsql_tree.specs.declared.definition.Definition.{Definition}
use Rattle.step_model.specs.declared.reply.Reply.{Reply}
use Rattle.step_model.specs.declared.reply.Reply.TheVariants as replies
use Rattle.step_model.specs.Dialog as said
use Rattle.step_model.specs.Dialog.{Dialog}
use Rattle.step_model.specs.Exchange.{Exchange}
use Rattle.step_model.specs.Ranges.{no_memory}
use Rattle.tds_tokens.specs.declared.token.Token.{Token}
use Rattle.batch_meaning.specs.declared.failure.Failure.{Failure}
use Rattle.batch_meaning.specs.Asking.{comes_to, fails, fails_naming, marked, on_ok, unless_refused, where_begun, where_done, where_ended, with_room, ◌>>=◌, ◌gives◌}
use Rattle.batch_meaning.specs.Doing.{Doing, asks, defines, makes, never, over, reads, room, ◌then◌, Held}
use Rattle.batch_meaning.specs.Failures.{naming}
use Rattle.batch_meaning.specs.Progress.{SessionProgress, SessionStep, asked, begins, counts, made, sends, size_of}
use Rattle.batch_meaning.specs.Selecting.{result_full}
use Rattle.dml_exec.specs.Asking as dialogs
use Rattle.cause_laws.proofs.Usual.{IsUsual}
use Rattle.cause_laws.proofs.UsualValues.{UsualOr}
use Rattle.cause_laws.proofs.Watch.{Guard, IsOther, Says, SaysAll, StepSo, TellsBy, Watch}

-- ---- numbers

-- a usual number is another
pub usual_other : (error : Guard) (number : ℤ) → IsUsual number → IsOther error number
usual_other error number usual = error.watch.usual number usual

-- so is want of memory, where a question for room may be answered so
pub wants_other : (error : Guard) → error.watch.May false → IsOther error (pos no_memory)
wants_other error may = error.watch.wants may

-- ---- lists

pub all_both : {A : Type 0} (P : A → Type 0) (xs ys : List A) → AllByRecursion P xs → AllByRecursion P ys → AllByRecursion P (xs ++ ys)
all_both P [] ys one two = two
all_both P (x ∷ xs) ys one two = (one.0, all_both P xs ys one.1 two)

pub all_front : {A : Type 0} (P : A → Type 0) (xs ys : List A) → AllByRecursion P (xs ++ ys) → AllByRecursion P xs
all_front P [] ys all = tt
all_front P (x ∷ xs) ys all = (all.0, all_front P xs ys all.1)

pub all_behind : {A : Type 0} (P : A → Type 0) (xs ys : List A) → AllByRecursion P (xs ++ ys) → AllByRecursion P ys
all_behind P [] ys all = all
all_behind P (x ∷ xs) ys all = all_behind P xs ys all.1

-- ---- trees

-- a step that sends none; no batch begins
abbrev pub CleanStep : Watch → SessionStep → Type 0
CleanStep watch = StepSo watch.Other watch.Goes

-- how many statements are left behind a step
abbrev pub left_behind : SessionStep → ℕ → ℕ
left_behind counts left = pred left
left_behind step left = left

abbrev pub CleanAt : Watch → {A : Type 0} → (A → Type 0) → ℕ → Doing A → Type 0
CleanAt watch P left (over a) = P a
CleanAt watch P left (reads look) = (p : SessionProgress) → watch.At P left p look → CleanAt watch P left (look p)
CleanAt watch P left (makes step next) = CleanStep watch step × CleanAt watch P (left_behind step left) next
CleanAt watch P left (defines entry go) = (found : Option Definition) → CleanAt watch P left (go found)
CleanAt watch P left (asks op go) = (reply : Reply) → watch.Says reply → CleanAt watch P left (go reply)
CleanAt watch P left (room go) = (enough : Bool) → watch.May enough → CleanAt watch P left (go enough)
CleanAt watch P left never = Unit {0}

-- the same, at a place
abbrev pub Clean : Guard → {A : Type 0} → (A → Type 0) → Doing A → Type 0
Clean error P tree = CleanAt error.watch P error.left tree

-- ---- with fewer statements left

clean_fewer : (watch : Watch) {A : Type 0} (P : A → Type 0) (left : ℕ) (tree : Doing A) → CleanAt watch P left tree → CleanAt watch P (pred left) tree
clean_fewer watch P left (over a) clean = clean
clean_fewer watch P left (reads look) clean = λ p at. clean_fewer watch P left (look p) (clean p (watch.fewer P left p look at))
clean_fewer watch P left (makes step next) clean = (clean.0, by_step step (λ few. clean_fewer watch P few next) clean.1)
  where
    by_step : (step : SessionStep) → ((few : ℕ) → CleanAt watch P few next → CleanAt watch P (pred few) next) → CleanAt watch P (left_behind step left) next → CleanAt watch P (left_behind step (pred left)) next
    by_step counts on is = on (pred left) is
    by_step step on is = on left is
clean_fewer watch P left (defines entry go) clean = λ found. clean_fewer watch P left (go found) (clean found)
clean_fewer watch P left (asks op go) clean = λ reply says. clean_fewer watch P left (go reply) (clean reply says)
clean_fewer watch P left (room go) clean = λ enough may. clean_fewer watch P left (go enough) (clean enough may)
clean_fewer watch P left never clean = tt

clean_behind : (watch : Watch) {A : Type 0} (P : A → Type 0) (left : ℕ) (tree : Doing A) (step : SessionStep) → CleanAt watch P left tree → CleanAt watch P (left_behind step left) tree
clean_behind watch P left tree counts clean = clean_fewer watch P left tree clean
clean_behind watch P left tree step clean = clean

-- ---- what is known of it

pub clean_fine : (watch : Watch) {A : Type 0} (P : A → Type 0) (left : ℕ) (tree : Doing A) → CleanAt watch P left tree → watch.Fine P tree
clean_fine watch P left (over a) clean = watch.fine_over P a clean
clean_fine watch P left (reads look) clean = watch.fine_reads P left look (λ p at. clean_fine watch P left (look p) (clean p at))
clean_fine watch P left (makes step next) clean = watch.fine_makes P step next clean.0 (clean_fine watch P (left_behind step left) next clean.1)
clean_fine watch P left (defines entry go) clean = watch.fine_defines P entry go (λ found. clean_fine watch P left (go found) (clean found))
clean_fine watch P left (asks op go) clean = watch.fine_asks P op go (λ reply says. clean_fine watch P left (go reply) (clean reply says))
clean_fine watch P left (room go) clean = watch.fine_room P go (λ enough may. clean_fine watch P left (go enough) (clean enough may))
clean_fine watch P left never clean = watch.fine_never P

-- ---- what was sent

-- from one moment to another
abbrev pub SendsNone : Watch → SessionProgress → SessionProgress → Type 0
SendsNone watch p new = (sent : List Token) × (new.tokens ≡ p.tokens ++ sent) × AllByRecursion (TellsBy watch) sent

module _ (watch : Watch) where
  pub sends_nothing : (p new : SessionProgress) → new.tokens ≡ p.tokens → SendsNone watch p new
  sends_nothing p new same = ([], same ∙ sym (append-nil p.tokens), tt)

  pub sends_step : (step : SessionStep) (p : SessionProgress) → CleanStep watch step → SendsNone watch p (made step p)
  sends_step (sends tokens) p clean = (tokens, refl, clean)
  sends_step (begins vars) p clean = absurd clean
  sends_step step p clean = ([], sym (append-nil p.tokens), tt)

  pub sends_both : (p mid new : SessionProgress) → SendsNone watch p mid → SendsNone watch mid new → SendsNone watch p new
  sends_both p mid new one two = (one.0 ++ two.0, two.1 ∙ ap (λ (l : List Token). l ++ two.0) one.1 ∙ append_assoc p.tokens one.0 two.0, all_both (TellsBy watch) one.0 two.0 one.2 two.2)

  -- where each answer to a question for room may be, and however far the session has come
  pub held_clean : {A : Type 0} (P : A → Type 0) (left : ℕ) (tree : Doing A) (p new : SessionProgress) (exchanges : List Exchange) (a : A) → ((enough : Bool) → watch.May enough) → ((few : ℕ) (q : SessionProgress) (look : SessionProgress → Doing A) → watch.At P few q look)
      → CleanAt watch P left tree → SaysAll watch exchanges → Held tree p exchanges a new → P a × SendsNone watch p new
  unfolding Held
  held_clean P left (over c) p new exchanges a may at clean says held = (subst P (sym held.1) clean, sends_nothing p new (ap (λ (q : SessionProgress). q.tokens) held.2))
  held_clean P left (reads look) p new exchanges a may at clean says held = held_clean P left (look p) p new exchanges a may at (clean p (at left p look)) says held
  held_clean P left (makes step next) p new exchanges a may at clean says held =
      let more = held_clean P (left_behind step left) next (made step p) new exchanges a may at clean.1 says held in (more.0, sends_both p (made step p) new (sends_step step p clean.0) more.1)
  held_clean P left (defines entry go) p new exchanges a may at clean says held = held_clean P left (go held.0) p new exchanges a may at (clean held.0) says held.2
  held_clean P left (asks op go) p new [] a may at clean says held = absurd held
  held_clean P left (asks op go) p new (x ∷ later) a may at clean says held = held_clean P left (go x.reply) (asked op x.reply p) new later a may at (clean x.reply says.0) says.1 held.3
  held_clean P left (room go) p new exchanges a may at clean says held = held_clean P left (go held.0) p new exchanges a may at (clean held.0 (may held.0)) says held.1
  held_clean P left never p new exchanges a may at clean says held = absurd held

-- ---- one tree behind another

then_at : (watch : Watch) {A B : Type 0} (P : A → Type 0) (Q : B → Type 0) (left : ℕ) (tree : Doing A) (go : A → Doing B) → CleanAt watch P left tree → ((a : A) → P a → CleanAt watch Q left (go a)) → CleanAt watch Q left (tree then go)
unfolding ◌then◌
then_at watch P Q left (over a) go clean more = more a clean
then_at watch P Q left (reads look) go clean more = λ p at.
    then_at watch P Q left (look p) go (clean p (watch.behind P Q left p look go (λ a fine. clean_fine watch Q left (go a) (more a fine)) at)) more
then_at watch P Q left (makes step next) go clean more =
    (clean.0, then_at watch P Q (left_behind step left) next go clean.1 (λ a fine. clean_behind watch Q left (go a) step (more a fine)))
then_at watch P Q left (defines entry next) go clean more = λ found. then_at watch P Q left (next found) go (clean found) more
then_at watch P Q left (asks op next) go clean more = λ reply says. then_at watch P Q left (next reply) go (clean reply says) more
then_at watch P Q left (room next) go clean more = λ enough may. then_at watch P Q left (next enough) go (clean enough may) more
then_at watch P Q left never go clean more = tt

module _ (error : Guard) where
  pub clean_then : {A B : Type 0} (P : A → Type 0) (Q : B → Type 0) (tree : Doing A) (go : A → Doing B) → Clean error P tree → ((a : A) → P a → Clean error Q (go a)) → Clean error Q (tree then go)
  clean_then P Q tree go clean more = then_at error.watch P Q error.left tree go clean more

  pub clean_if : {A : Type 0} (P : A → Type 0) (test : Bool) (first other : Doing A) → Clean error P first → Clean error P other → Clean error P (if test then first else other)
  clean_if P true first other one two = one
  clean_if P false first other one two = two

  -- by whether tokens may still be sent: where they may not, 49002 is another number
  pub clean_test : {A : Type 0} (P : A → Type 0) (tokens : SessionProgress → List Token) (go : Bool → SessionProgress → Doing A)
      → ((bytes : ℕ) (q : SessionProgress) → tokens (record q { bytes_left = bytes }) ≡ tokens q)
      → ((q : SessionProgress) → Clean error P (go false q)) → (IsOther error (pos result_full) → (q : SessionProgress) → Clean error P (go true q))
      → Clean error P (reads λ q. go (nat_lt q.bytes_left (size_of (tokens q))) q)
  clean_test P tokens go same fits full = λ p at. by_test p (nat_lt p.bytes_left (size_of (tokens p)))
      (error.watch.full P error.left p tokens go same (λ q. clean_fine error.watch P error.left (go false q) (fits q)) at)
    where
      by_test : (p : SessionProgress) (test : Bool) → IsOther error (pos result_full) → Clean error P (go test p)
      by_test p true other = full other p
      by_test p false other = fits p

  -- by the answer to a question for room
  pub clean_enough : {A : Type 0} (P : A → Type 0) (first other : Doing A) → Clean error P first → (IsOther error (pos no_memory) → Clean error P other) → (enough : Bool) → error.watch.May enough → Clean error P (if enough then first else other)
  clean_enough P first other one two true may = one
  clean_enough P first other one two false may = two (wants_other error may)

  -- ---- what may fail

  -- something of which this holds, or a failure of another number
  abbrev pub OtherOr : {A : Type 0} → (A → Type 0) → Result A Failure → Type 0
  OtherOr P (Ok a) = P a
  OtherOr P (Err failure) = IsOther error failure.number

  pub usual_or : {A : Type 0} (P : A → Type 0) (came : Result A Failure) → UsualOr P came → OtherOr P came
  usual_or P (Ok a) usual = usual
  usual_or P (Err failure) usual = usual_other error failure.number usual

  pub clean_bind : {A B : Type 0} (P : A → Type 0) (Q : B → Type 0) (tree : Doing (Result A Failure)) (go : A → Doing (Result B Failure)) → Clean error (OtherOr P) tree → ((a : A) → P a → Clean error (OtherOr Q) (go a)) → Clean error (OtherOr Q) (tree >>= go)
  clean_bind {A = A} {B = B} P Q tree go clean more = clean_then (OtherOr P) (OtherOr Q) tree (on_ok go) clean by_came
    where
      by_came : (came : Result A Failure) → OtherOr P came → Clean error (OtherOr Q) (on_ok go came)
      by_came (Ok a) fine = more a fine
      by_came (Err failure) fine = fine

  pub clean_room : {A : Type 0} (P : A → Type 0) (tree : Doing (Result A Failure)) → Clean error (OtherOr P) tree → Clean error (OtherOr P) (with_room tree)
  clean_room P tree clean = clean_enough (OtherOr P) tree (fails no_memory) clean (λ other. other)

  pub clean_comes : {A : Type 0} (P : A → Type 0) (came : Result A Failure) → UsualOr P came → Clean error (OtherOr P) (comes_to came)
  clean_comes P came usual = clean_room P (over came) (usual_or P came usual)

  pub clean_naming : (A : Type 0) (P : A → Type 0) (number : ℕ) (name : List ℕ) → IsUsual (pos number) → Clean error (OtherOr P) (fails_naming {A = A} number name)
  clean_naming A P number name usual = clean_enough (OtherOr P) (over (Err (naming number name))) (fails no_memory) (usual_other error (pos number) usual) (λ other. other)

  -- ---- behind a reply

  module _ {A : Type 0} (P : A → Type 0) where
    pub clean_done : (next : Doing A) → Clean error P next → (reply : Reply) → Clean error P (where_done next reply)
    clean_done next clean replies.Done = clean
    clean_done next clean reply = tt

    pub clean_ended : (next : Doing A) → Clean error P next → (reply : Reply) → Clean error P (where_ended next reply)
    clean_ended next clean (replies.Ended place) = clean
    clean_ended next clean reply = tt

    pub clean_begun : (next : Doing (Result A Failure)) → Clean error (OtherOr P) next → (reply : Reply) → Clean error (OtherOr P) (where_begun next reply)
    clean_begun next clean replies.Began = clean
    clean_begun next clean reply = tt

    pub clean_marked : (next : ℕ → Doing (Result A Failure)) → ((mark : ℕ) → Clean error (OtherOr P) (next mark)) → (reply : Reply) → Clean error (OtherOr P) (marked next reply)
    clean_marked next clean (replies.Marked mark) = clean mark
    clean_marked next clean reply = tt

    -- a reply that refuses it is another error
    pub clean_refused : (go : Reply → Doing (Result A Failure)) → ((reply : Reply) → Says error reply → Clean error (OtherOr P) (go reply)) → (reply : Reply) → Says error reply → Clean error (OtherOr P) (unless_refused go reply)
    clean_refused go clean replies.Memory says = error.watch.memory says
    clean_refused go clean (replies.TimedOut holder held wanted on) says = error.watch.timed holder held wanted on says
    clean_refused go clean (replies.Victim cycle) says = error.watch.victim cycle says
    clean_refused go clean reply says = clean reply says

  -- ---- dialogs

  abbrev pub CleanDialog : {A : Type 0} → (A → Type 0) → Dialog A → Type 0
  CleanDialog P (said.over a) = P a
  CleanDialog P (said.asks op quiet go) = (reply : Reply) → Says error reply → CleanDialog P (go reply)
  CleanDialog P (said.room go) = (enough : Bool) → error.watch.May enough → CleanDialog P (go enough)
  CleanDialog P said.never = Unit {0}

  pub dialog_then : {A B : Type 0} (P : A → Type 0) (Q : B → Type 0) (dialog : Dialog A) (go : A → Dialog B) → CleanDialog P dialog → ((a : A) → P a → CleanDialog Q (go a)) → CleanDialog Q (said.◌then◌ dialog go)
  unfolding said.◌then◌
  dialog_then P Q (said.over a) go clean more = more a clean
  dialog_then P Q (said.asks op quiet next) go clean more = λ reply says. dialog_then P Q (next reply) go (clean reply says) more
  dialog_then P Q (said.room next) go clean more = λ enough may. dialog_then P Q (next enough) go (clean enough may) more
  dialog_then P Q said.never go clean more = tt

  pub clean_gives : {A B : Type 0} (P : A → Type 0) (Q : B → Type 0) (dialog : Dialog A) (go : A → Doing B) → CleanDialog P dialog → ((a : A) → P a → Clean error Q (go a)) → Clean error Q (dialog gives go)
  unfolding ◌gives◌
  clean_gives P Q (said.over a) go clean more = more a clean
  clean_gives P Q (said.asks op quiet next) go clean more = λ reply says. clean_gives P Q (next reply) go (clean reply says) more
  clean_gives P Q (said.room next) go clean more = λ enough may. clean_gives P Q (next enough) go (clean enough may) more
  clean_gives P Q said.never go clean more = tt

  -- an answer, or why there is none, of which this holds
  abbrev pub FineOr : {A E : Type 0} → (E → Type 0) → Result A E → Type 0
  FineOr F (Ok a) = Unit {0}
  FineOr F (Err why) = F why

  pub dialog_bind : {A B E : Type 0} (F : E → Type 0) (dialog : Dialog (Result A E)) (go : A → Dialog (Result B E)) → CleanDialog (FineOr F) dialog → ((a : A) → CleanDialog (FineOr F) (go a)) → CleanDialog (FineOr F) (dialogs.◌>>=◌ dialog go)
  dialog_bind {A = A} {B = B} {E = E} F dialog go clean more = dialog_then (FineOr F) (FineOr F) dialog (dialogs.on_ok go) clean by_came
    where
      by_came : (came : Result A E) → FineOr F came → CleanDialog (FineOr F) (dialogs.on_ok go came)
      by_came (Ok a) fine = more a
      by_came (Err why) fine = fine

  pub dialog_room : {A E : Type 0} (F : E → Type 0) (wanting : E) (dialog : Dialog (Result A E)) → (IsOther error (pos no_memory) → F wanting) → CleanDialog (FineOr F) dialog → CleanDialog (FineOr F) (dialogs.with_room wanting dialog)
  dialog_room F wanting dialog fine clean = by_room
    where
      by_room : (enough : Bool) → error.watch.May enough → CleanDialog (FineOr F) (if enough then dialog else said.over (Err wanting))
      by_room true may = clean
      by_room false may = fine (wants_other error may)
