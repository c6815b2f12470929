-- What a tree asks, by its operations alone: those that write nothing keep what stands, and fetches leave all as it was.
use Rattle.std.proofs.Common.{◌≡◌, ℕ, List, [], ◌∷◌, ◌++◌, length, map, take, Result, Ok, Err, sym, ap, subst, ◌∙◌, append_assoc}
use Rattle.step_model.specs.declared.change.Planned.{Planned}
use Rattle.step_model.specs.declared.op.Op.{Op}
use Rattle.step_model.specs.declared.op.Op.TheVariants as ops
use Rattle.step_model.specs.declared.reply.Reply.{Reply}
use Rattle.step_model.specs.declared.reply.Reply.TheVariants as replies
use Rattle.step_model.specs.Database.{Database, With}
use Rattle.step_model.specs.Exchange.{Exchange}
use Rattle.step_model.specs.Fits.{place_of}
use Rattle.step_model.specs.Log.{Commit as Logged, State}
use Rattle.step_model.specs.Own.{change_of, progress_of}
use Rattle.statement_paths.specs.Asked.{AskOnly, IsFetch}
use Rattle.write_laws.specs.Reads.{at_place}
use Rattle.write_laws.proofs.Parts.{fetches_leave}
use Rattle.batch_meaning.specs.declared.failure.Failure.{Failure}
use Rattle.batch_meaning.specs.Asking.{assigns_all, unless_refused, ◌>>=◌}
use Rattle.batch_meaning.specs.Doing.{Doing, over, reads, makes, defines, asks, room, never, Held}
use Rattle.batch_meaning.specs.Progress.{SessionProgress, SessionStep}
use Rattle.batch_meaning.specs.Values.{Assigned}
use Rattle.sound_laws.specs.Stands.{Carries, CommitsKeep, Intact, Keeps, Brings, Stands, base_of}
use Rattle.sound_laws.specs.Tied.{Tied}
use Rattle.statement_paths.proofs.Only.{AnyStep, IsTouch, NoCommit, Only, held_asks, left_asks}
use Rattle.statement_paths.proofs.Still.{Reads}
use Rattle.sound_laws.proofs.Coming.{none_split}
use Rattle.sound_laws.proofs.Here.{place_past}
use Rattle.sound_laws.proofs.Bringing.{brings_asks, brings_bind, brings_defines, brings_makes, brings_never, brings_over, brings_reads, brings_room}
use Rattle.sound_laws.proofs.Steps.{IsStill, commit_keeps, one_stands}

-- ---- which operations a tree asks

module _ (P : Op → Type 0) where
  pub only_assigns : {A : Type 0} (sets : List Assigned) (next : Doing A) → Only AnyStep P next → Only AnyStep P (assigns_all sets next)
  unfolding assigns_all
  only_assigns [] next only = only
  only_assigns (one ∷ rest) next only = (tt, only_assigns rest next only)

  -- behind a reply that refuses nothing is asked
  pub only_refused : {A : Type 0} (go : Reply → Doing (Result A Failure)) → ((reply : Reply) → Only AnyStep P (go reply)) → (reply : Reply) → Only AnyStep P (unless_refused go reply)
  only_refused go only replies.Memory = tt
  only_refused go only (replies.TimedOut holder held wanted on) = tt
  only_refused go only (replies.Victim cycle) = tt
  only_refused go only reply = only reply

-- who asks such operations asks others that these are among
pub only_more : {A : Type 0} (Steps : SessionStep → Type 0) (P Q : Op → Type 0) → ((op : Op) → P op → Q op) → (tree : Doing A) → Only Steps P tree → Only AnyStep Q tree
only_more Steps P Q more (over a) only = tt
only_more Steps P Q more (reads look) only = λ p. only_more Steps P Q more (look p) (only p)
only_more Steps P Q more (makes step next) only = (tt, only_more Steps P Q more next only.1)
only_more Steps P Q more (defines entry go) only = λ found. only_more Steps P Q more (go found) (only found)
only_more Steps P Q more (asks op go) only = (more op only.0, λ reply can. only_more Steps P Q more (go reply) (only.1 reply can))
only_more Steps P Q more (room go) only = λ enough. only_more Steps P Q more (go enough) (only enough)
only_more Steps P Q more never only = tt

pub fetch_still : (op : Op) → IsFetch op → IsStill op
fetch_still (ops.Fetch table start stop hold part) fetch = tt
fetch_still op fetch = absurd fetch

fetch_commits : (op : Op) → IsFetch op → NoCommit op
fetch_commits (ops.Fetch table start stop hold part) fetch is = absurd (let no : ops.Fetch table start stop hold part ≡ ops.Commit = is in cc)
fetch_commits op fetch is = absurd fetch

-- ---- what writes nothing

abbrev pub WritesNothing : {A : Type 0} → Doing A → Type 0
WritesNothing tree = Only AnyStep IsStill tree

module _ (session : ℕ) (begin log : List Logged) (mine : List Exchange) (tied : Tied session begin log mine) where
  still_brings : {A : Type 0} (tree : Doing A) → WritesNothing tree → Brings log mine (Stands log) tree (λ (a : A). Stands log)
  still_brings {A} (over a) only = brings_over log mine (Stands log) a (λ (a : A). Stands log) (λ before later is stands. stands)
  still_brings {A} (reads look) only = brings_reads log mine (Stands log) look (λ (a : A). Stands log) (λ p. still_brings (look p) (only p))
  still_brings {A} (makes step next) only = brings_makes log mine (Stands log) step next (λ (a : A). Stands log) (still_brings next only.1)
  still_brings {A} (defines entry go) only = brings_defines log mine (Stands log) entry go (λ (a : A). Stands log) (λ found is. still_brings (go found) (only found))
  still_brings {A} (asks op go) only = brings_asks log mine (Stands log) op go (λ reply. Stands log) (λ (a : A). Stands log)
      (λ before x later is of can stands. ((λ commits. commit_keeps session begin log mine tied before x later is commits stands), one_stands session begin log mine tied before x later is (subst IsStill (sym of) only.0) stands))
      (λ reply can. still_brings (go reply) (only.1 reply can))
  still_brings {A} (room go) only = brings_room log mine (Stands log) go (λ (a : A). Stands log) (λ enough. still_brings (go enough) (only enough))
  still_brings {A} never only = brings_never log mine (Stands log) (λ (a : A). Stands log)

-- what a tree asks that writes nothing keeps what stands
pub carries_still : {A : Type 0} (tree : Doing A) → WritesNothing tree → Carries tree
carries_still tree only session begin log mine tied = still_brings session begin log mine tied tree only

-- ---- what commits nothing

-- where nothing is committed each commit keeps its database
pub none_keep : (log : List Logged) (part before : List Exchange) → AskOnly NoCommit part → CommitsKeep log before part
none_keep log [] before none front behind exchange is commits = absurd (none_split front exchange behind is)
none_keep log (x ∷ part) before none [] behind exchange is commits = absurd (let same : x ≡ exchange = cc in none.0.0 (ap (λ (e : Exchange). e.op) same ∙ commits))
none_keep log (x ∷ part) before none (y ∷ front) behind exchange is commits =
    let rest : part ≡ front ++ exchange ∷ behind = cc in
    let same : x ≡ y = cc in
    subst (λ (xs : List Exchange). Keeps log xs exchange) (append_assoc before (x ∷ []) front ∙ ap (λ (e : Exchange). before ++ e ∷ front) same) (none_keep log part (before ++ x ∷ []) none.1 front behind exchange rest commits)

-- so of it only what it came to is asked
pub quiet_brings : {A : Type 0} (log : List Logged) (mine : List Exchange) (From : List Exchange → List Exchange → Type 0) (tree : Doing A) (To : A → List Exchange → List Exchange → Type 0) → Only AnyStep NoCommit tree
    → ((before part later : List Exchange) (p new : SessionProgress) (result : A) → mine ≡ before ++ (part ++ later) → Held tree p part result new → From before (part ++ later) → To result (before ++ part) later) → Brings log mine From tree To
quiet_brings log mine From tree To only goes before part later p is agree from = (
  λ new left. none_keep log part before (left_asks AnyStep NoCommit tree p new part only left),
  λ result new held. (none_keep log part before (held_asks AnyStep NoCommit tree p new part result only held), goes before part later p new result is held from),
)

-- ---- what only fetches

-- it leaves the database at its transaction's place, and what stands
pub fetch_place : (log : List Logged) (before part later : List Exchange) → AskOnly IsFetch part → at_place log (before ++ part) later ≡ at_place log before (part ++ later)
fetch_place log before part later only =
    let leaves = fetches_leave before part only in
    ap (λ (n : ℕ). With (State (take n log)) (map change_of (progress_of (before ++ part)).own)) (sym (place_past (length log) part later leaves.goes_on))
    ∙ ap (λ (own : List Planned). With (State (take (place_of (length log) (part ++ later)) log)) (map change_of own)) leaves.own

pub fetch_base : (log : List Logged) (before part later : List Exchange) → AskOnly IsFetch part → base_of log (part ++ later) ≡ base_of log later
fetch_base log before part later only = ap (λ (n : ℕ). State (take n log)) (place_past (length log) part later (fetches_leave before part only).goes_on)

-- before them it is the same
pub front_place : (log : List Logged) (before part later : List Exchange) → AskOnly IsFetch part → at_place log before (part ++ later) ≡ at_place log before later
front_place log before part later only = ap (λ (base : Database). With base (map change_of (progress_of before).own)) (fetch_base log before part later only)

-- What stands, and a fact of the exchanges so far and of those that are to come, where the database at the transaction's place is intact.
abbrev pub StandsBy : List Logged → (List Exchange → List Exchange → Type 0) → List Exchange → List Exchange → Type 0
StandsBy log F before later = Stands log before later × (Intact (base_of log later) → F before later)

-- so it is of a fact of that database
abbrev pub StandsWith : List Logged → (Database → Type 0) → List Exchange → List Exchange → Type 0
StandsWith log F = StandsBy log (λ before later. F (at_place log before later))

pub reads_still : {A : Type 0} (tree : Doing A) → Reads tree → WritesNothing tree
reads_still tree only = only_more IsTouch IsFetch IsStill fetch_still tree only

pub reads_commits : {A : Type 0} (tree : Doing A) → Reads tree → Only AnyStep NoCommit tree
reads_commits tree only = only_more IsTouch IsFetch NoCommit fetch_commits tree only

-- by what was read more is known
module _ (session : ℕ) (begin log : List Logged) (mine : List Exchange) (tied : Tied session begin log mine) where
  -- what is found out by a tree that only fetches
  abbrev pub FindsBy : {A : Type 0} → (List Exchange → List Exchange → Type 0) → Doing A → (A → List Exchange → List Exchange → Type 0) → Type 0
  FindsBy {A} F tree G = (before part later : List Exchange) (p new : SessionProgress) (a : A) → mine ≡ before ++ (part ++ later) → Held tree p part a new → AskOnly IsFetch part → Intact (at_place log before (part ++ later))
      → F before (part ++ later) → G a (before ++ part) later

  pub reads_bring_by : {A : Type 0} (F : List Exchange → List Exchange → Type 0) (tree : Doing A) (G : A → List Exchange → List Exchange → Type 0) → Reads tree → FindsBy F tree G → Brings log mine (StandsBy log F) tree (λ a. StandsBy log (G a))
  reads_bring_by F tree G only finds before part later p is agree from =
      let on = still_brings session begin log mine tied tree (reads_still tree only) before part later p is agree from.0 in (
        on.0,
        λ result new held. let was = on.1 result new held in
            let fetches = held_asks IsTouch IsFetch tree p new part result only held in (
              was.0,
              (
                was.1,
                λ intact. let there : Intact (base_of log (part ++ later)) = subst Intact (sym (fetch_base log before part later fetches)) intact in
                    finds before part later p new result is held fetches (from.0 there).now (from.1 there),
              ),
            ),
      )

  -- where it did not fail
  abbrev pub FindsOkBy : {A : Type 0} → (List Exchange → List Exchange → Type 0) → Doing (Result A Failure) → (A → List Exchange → List Exchange → Type 0) → Type 0
  FindsOkBy {A} F tree G = (before part later : List Exchange) (p new : SessionProgress) (a : A) → mine ≡ before ++ (part ++ later) → Held tree p part (Ok a) new → AskOnly IsFetch part → Intact (at_place log before (part ++ later))
      → F before (part ++ later) → G a (before ++ part) later

  abbrev OnOk : {A : Type 0} → (A → List Exchange → List Exchange → Type 0) → Result A Failure → List Exchange → List Exchange → Type 0
  OnOk G (Ok a) before later = G a before later
  OnOk G (Err failure) before later = Unit {0}

  pub reads_bind_by : {A B : Type 0} (F : List Exchange → List Exchange → Type 0) (tree : Doing (Result A Failure)) (G : A → List Exchange → List Exchange → Type 0) (go : A → Doing (Result B Failure)) → Reads tree → FindsOkBy F tree G
      → ((a : A) → Brings log mine (StandsBy log (G a)) (go a) (λ (b : Result B Failure). Stands log)) → Brings log mine (StandsBy log F) (tree >>= go) (λ (b : Result B Failure). Stands log)
  reads_bind_by {A} {B} F tree G go only finds on =
      brings_bind log mine (StandsBy log F) tree (λ came. StandsBy log (OnOk G came)) go (λ (b : Result B Failure). Stands log) (reads_bring_by F tree (OnOk G) only by_came) on (λ failure before later is was. was.0)
    where
      by_came : (before part later : List Exchange) (p new : SessionProgress) (came : Result A Failure) → mine ≡ before ++ (part ++ later) → Held tree p part came new → AskOnly IsFetch part → Intact (at_place log before (part ++ later))
          → F before (part ++ later) → OnOk G came (before ++ part) later
      by_came before part later p new (Ok a) is held fetches intact fact = finds before part later p new a is held fetches intact fact
      by_came before part later p new (Err failure) is held fetches intact fact = tt

  -- ---- of the database at the transaction's place

  abbrev pub FindsOk : {A : Type 0} → (Database → Type 0) → Doing (Result A Failure) → (A → Database → Type 0) → Type 0
  FindsOk {A} F tree G = (before part later : List Exchange) (p new : SessionProgress) (a : A) → mine ≡ before ++ (part ++ later) → Held tree p part (Ok a) new → Intact (at_place log before (part ++ later)) → F (at_place log before (part ++ later)) → G a (at_place log before (part ++ later))

  pub reads_bind : {A B : Type 0} (F : Database → Type 0) (tree : Doing (Result A Failure)) (G : A → Database → Type 0) (go : A → Doing (Result B Failure)) → Reads tree → FindsOk F tree G
      → ((a : A) → Brings log mine (StandsWith log (G a)) (go a) (λ (b : Result B Failure). Stands log)) → Brings log mine (StandsWith log F) (tree >>= go) (λ (b : Result B Failure). Stands log)
  reads_bind F tree G go only finds on =
      reads_bind_by (λ before later. F (at_place log before later)) tree (λ a before later. G a (at_place log before later)) go only
      (λ before part later p new a is held fetches intact fact. subst (G a) (sym (fetch_place log before part later fetches)) (finds before part later p new a is held intact fact)) on
