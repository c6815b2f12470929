-- Trees that make only such steps, and ask only such operations, whatever the replies are. What was held or left of one has asked only
-- such operations, and what each of them keeps of the session is kept.
use Rattle.std.proofs.Common.{◌≡◌, ℕ, inl, inr, Bool, true, false, if◌then◌else◌, List, [], ◌∷◌, Option, Result, Ok, Err, sym, subst}
use Rattle.std.specs.Prelude.{◌≢◌}
use Rattle.tsql_tree.specs.declared.definition.Definition.{Definition}
use Rattle.step_model.specs.declared.op.Op.{Op}
use Rattle.step_model.specs.declared.op.Op.TheVariants as ops
use Rattle.step_model.specs.declared.reply.Reply.{Reply}
use Rattle.step_model.specs.Exchange.{Exchange, CanReply}
use Rattle.step_model.specs.Dialog as said
use Rattle.step_model.specs.Dialog.{Dialog, IsQuiet}
use Rattle.statement_paths.specs.Asked.{AskOnly}
use Rattle.batch_meaning.specs.declared.failure.Failure.{Failure}
use Rattle.batch_meaning.specs.Progress.{SessionProgress, SessionStep, touches, made, asked}
use Rattle.batch_meaning.specs.Doing.{Doing, over, reads, makes, defines, asks, room, never, ◌then◌, Held, Left}
use Rattle.batch_meaning.specs.Asking.{fails, fails_naming, on_ok, ◌>>=◌, with_room, comes_to, ◌gives◌}

-- ---- dialogs

module _ (Ops : Op → Type 0) where
  none_asked : (exchanges : List Exchange) → exchanges ≡ [] → AskOnly Ops exchanges
  none_asked exchanges is = subst (AskOnly Ops) (sym is) tt

  -- a dialog that asks only such operations
  abbrev pub Says : {A : Type 0} → Dialog A → Type 0
  Says (said.over a) = Unit {0}
  Says (said.asks op quiet go) = Ops op × ((reply : Reply) → Says (go reply))
  Says (said.room go) = (enough : Bool) → Says (go enough)
  Says said.never = Unit {0}

  pub says_quiet : {A : Type 0} (dialog : Dialog A) → ((op : Op) → IsQuiet op → Ops op) → Says dialog
  says_quiet (said.over a) quiets = tt
  says_quiet (said.asks op quiet go) quiets = (quiets op quiet, λ reply. says_quiet (go reply) quiets)
  says_quiet (said.room go) quiets = λ enough. says_quiet (go enough) quiets
  says_quiet said.never quiets = tt

  pub says_then : {A B : Type 0} (dialog : Dialog A) (go : A → Dialog B) → Says dialog → ((a : A) → Says (go a)) → Says (said.◌then◌ dialog go)
  unfolding said.◌then◌
  says_then (said.over a) go says more = more a
  says_then (said.asks op quiet next) go says more = (says.0, λ reply. says_then (next reply) go (says.1 reply) more)
  says_then (said.room next) go says more = λ enough. says_then (next enough) go (says enough) more
  says_then said.never go says more = tt

  pub says_held : {A : Type 0} (manner : _) (dialog : Dialog A) (exchanges : List Exchange) (a : A) → Says dialog → said.Held manner dialog exchanges a → AskOnly Ops exchanges
  unfolding said.Held
  says_held manner (said.over c) exchanges a says held = subst (AskOnly Ops) (sym held.0) tt
  says_held manner (said.asks op quiet go) [] a says held = absurd held
  says_held manner (said.asks op quiet go) (x ∷ later) a says held =
      ((subst Ops (sym held.0) says.0, subst (λ (o : Op). CanReply o x.reply) (sym held.0) held.2), says_held manner (go x.reply) later a (says.1 x.reply) held.3)
  says_held manner (said.room go) exchanges a says held = says_held manner (go held.0) exchanges a (says held.0) held.1
  says_held manner said.never exchanges a says held = absurd held

-- ---- trees

module _ (Steps : SessionStep → Type 0) (Ops : Op → Type 0) where
  abbrev pub Only : {A : Type 0} → Doing A → Type 0
  Only (over a) = Unit {0}
  Only (reads look) = (p : SessionProgress) → Only (look p)
  Only (makes step next) = Steps step × Only next
  Only (defines entry go) = (found : Option Definition) → Only (go found)
  Only (asks op go) = Ops op × ((reply : Reply) → CanReply op reply → Only (go reply))
  Only (room go) = (enough : Bool) → Only (go enough)
  Only never = Unit {0}

  -- ---- one tree behind another

  pub only_then : {A B : Type 0} (tree : Doing A) (go : A → Doing B) → Only tree → ((a : A) → Only (go a)) → Only (tree then go)
  unfolding ◌then◌
  only_then (over a) go only more = more a
  only_then (reads look) go only more = λ p. only_then (look p) go (only p) more
  only_then (makes step next) go only more = (only.0, only_then next go only.1 more)
  only_then (defines entry next) go only more = λ found. only_then (next found) go (only found) more
  only_then (asks op next) go only more = (only.0, λ reply can. only_then (next reply) go (only.1 reply can) more)
  only_then (room next) go only more = λ enough. only_then (next enough) go (only enough) more
  only_then never go only more = tt

  pub only_if : {A : Type 0} (test : Bool) (first other : Doing A) → Only first → Only other → Only (if test then first else other)
  only_if true first other one two = one
  only_if false first other one two = two

  pub only_bind : {A B : Type 0} (tree : Doing (Result A Failure)) (go : A → Doing (Result B Failure)) → Only tree → ((a : A) → Only (go a)) → Only (tree >>= go)
  only_bind {A = A} {B = B} tree go only more = only_then tree (on_ok go) only by_came
    where
      by_came : (came : Result A Failure) → Only (on_ok go came)
      by_came (Ok a) = more a
      by_came (Err failure) = tt

  pub only_room : {A : Type 0} (tree : Doing (Result A Failure)) → Only tree → Only (with_room tree)
  only_room tree only = λ enough. only_if enough tree (fails _) only tt

  pub only_comes : {A : Type 0} (result : Result A Failure) → Only (comes_to result)
  only_comes result = only_room (over result) tt

  pub only_naming : (A : Type 0) (number : ℕ) (name : List ℕ) → Only (fails_naming {A = A} number name)
  only_naming A number name = λ enough. only_if enough (over (Err _)) (fails _) tt tt

  -- ---- dialogs

  pub only_gives : {A B : Type 0} (dialog : Dialog A) (go : A → Doing B) → Says Ops dialog → ((a : A) → Only (go a)) → Only (dialog gives go)
  unfolding ◌gives◌
  only_gives (said.over a) go says more = more a
  only_gives (said.asks op quiet next) go says more = (says.0, λ reply can. only_gives (next reply) go (says.1 reply) more)
  only_gives (said.room next) go says more = λ enough. only_gives (next enough) go (says enough) more
  only_gives said.never go says more = tt

  -- ---- what was done

  -- what was left has asked only such operations
  pub left_asks : {A : Type 0} (tree : Doing A) (p new : SessionProgress) (exchanges : List Exchange) → Only tree → Left tree p exchanges new → AskOnly Ops exchanges
  unfolding Left
  left_asks (over a) p new exchanges only left = none_asked Ops exchanges left.0
  left_asks (reads look) p new exchanges only left = left_asks (look p) p new exchanges (only p) left
  left_asks (makes step next) p new exchanges only (inl here) = none_asked Ops exchanges here.0
  left_asks (makes step next) p new exchanges only (inr later) = left_asks next (made step p) new exchanges only.1 later
  left_asks (defines entry go) p new exchanges only (inl here) = none_asked Ops exchanges here.0
  left_asks (defines entry go) p new exchanges only (inr later) = left_asks (go later.0) p new exchanges (only later.0) later.2
  left_asks (asks op go) p new [] only left = tt
  left_asks (asks op go) p new (x ∷ later) only left =
      ((subst Ops (sym left.0) only.0, subst (λ (o : Op). CanReply o x.reply) (sym left.0) left.2), left_asks (go x.reply) (asked op x.reply p) new later (only.1 x.reply left.2) left.3)
  left_asks (room go) p new exchanges only left = left_asks (go left.0) p new exchanges (only left.0) left.1
  left_asks never p new exchanges only left = none_asked Ops exchanges left.0

  -- so has what was held
  pub held_asks : {A : Type 0} (tree : Doing A) (p new : SessionProgress) (exchanges : List Exchange) (a : A) → Only tree → Held tree p exchanges a new → AskOnly Ops exchanges
  unfolding Held
  held_asks (over c) p new exchanges a only held = none_asked Ops exchanges held.0
  held_asks (reads look) p new exchanges a only held = held_asks (look p) p new exchanges a (only p) held
  held_asks (makes step next) p new exchanges a only held = held_asks next (made step p) new exchanges a only.1 held
  held_asks (defines entry go) p new exchanges a only held = held_asks (go held.0) p new exchanges a (only held.0) held.2
  held_asks (asks op go) p new [] a only held = absurd held
  held_asks (asks op go) p new (x ∷ later) a only held =
      ((subst Ops (sym held.0) only.0, subst (λ (o : Op). CanReply o x.reply) (sym held.0) held.2), held_asks (go x.reply) (asked op x.reply p) new later a (only.1 x.reply held.2) held.3)
  held_asks (room go) p new exchanges a only held = held_asks (go held.0) p new exchanges a (only held.0) held.1
  held_asks never p new exchanges a only held = absurd held

  -- what each such step and operation keeps is kept
  module _ (Kept : SessionProgress → Type 0) (by_step : (step : SessionStep) (p : SessionProgress) → Steps step → Kept p → Kept (made step p)) (by_op : (op : Op) (reply : Reply) (p : SessionProgress) → Ops op → CanReply op reply → Kept p → Kept (asked op reply p)) where
    pub held_keeps : {A : Type 0} (tree : Doing A) (p new : SessionProgress) (exchanges : List Exchange) (a : A) → Only tree → Held tree p exchanges a new → Kept p → Kept new
    unfolding Held
    held_keeps (over c) p new exchanges a only held kept = subst Kept (sym held.2) kept
    held_keeps (reads look) p new exchanges a only held kept = held_keeps (look p) p new exchanges a (only p) held kept
    held_keeps (makes step next) p new exchanges a only held kept = held_keeps next (made step p) new exchanges a only.1 held (by_step step p only.0 kept)
    held_keeps (defines entry go) p new exchanges a only held kept = held_keeps (go held.0) p new exchanges a (only held.0) held.2 kept
    held_keeps (asks op go) p new [] a only held kept = absurd held
    held_keeps (asks op go) p new (x ∷ later) a only held kept = held_keeps (go x.reply) (asked op x.reply p) new later a (only.1 x.reply held.2) held.3 (by_op op x.reply p only.0 held.2 kept)
    held_keeps (room go) p new exchanges a only held kept = held_keeps (go held.0) p new exchanges a (only held.0) held.1 kept
    held_keeps never p new exchanges a only held kept = absurd held

-- what makes fewer steps, and asks fewer operations
pub only_mono : {A : Type 0} (Steps More : SessionStep → Type 0) (Ops Others : Op → Type 0) → ((step : SessionStep) → Steps step → More step) → ((op : Op) → Ops op → Others op) → (tree : Doing A) → Only Steps Ops tree → Only More Others tree
only_mono Steps More Ops Others steps asked_too (over a) only = tt
only_mono Steps More Ops Others steps asked_too (reads look) only = λ p. only_mono Steps More Ops Others steps asked_too (look p) (only p)
only_mono Steps More Ops Others steps asked_too (makes step next) only = (steps step only.0, only_mono Steps More Ops Others steps asked_too next only.1)
only_mono Steps More Ops Others steps asked_too (defines entry go) only = λ found. only_mono Steps More Ops Others steps asked_too (go found) (only found)
only_mono Steps More Ops Others steps asked_too (asks op go) only = (asked_too op only.0, λ reply can. only_mono Steps More Ops Others steps asked_too (go reply) (only.1 reply can))
only_mono Steps More Ops Others steps asked_too (room go) only = λ enough. only_mono Steps More Ops Others steps asked_too (go enough) (only enough)
only_mono Steps More Ops Others steps asked_too never only = tt

-- ---- what is asked of a step, or of an operation

-- nothing
abbrev pub AnyStep : SessionStep → Type 0
AnyStep step = Unit {0}

abbrev pub AnyOp : Op → Type 0
AnyOp op = Unit {0}

-- the statement's end has something to relax
abbrev pub IsTouch : SessionStep → Type 0
IsTouch touches = Unit {0}
IsTouch step = ⊥

-- no commit
abbrev pub NoCommit : Op → Type 0
NoCommit op = op ≢ ops.Commit

pub quiet_commits : (op : Op) → IsQuiet op → NoCommit op
quiet_commits ops.Commit quiet is = quiet
quiet_commits (ops.Fetch table start stop hold part) quiet is = let no : ops.Fetch table start stop hold part ≡ ops.Commit = is in absurd (cc)
quiet_commits (ops.Insert table key row) quiet is = let no : ops.Insert table key row ≡ ops.Commit = is in absurd (cc)
quiet_commits (ops.Replace table key row) quiet is = let no : ops.Replace table key row ≡ ops.Commit = is in absurd (cc)
quiet_commits (ops.Erase table key) quiet is = let no : ops.Erase table key ≡ ops.Commit = is in absurd (cc)
quiet_commits ops.Mark quiet is = let no : ops.Mark ≡ ops.Commit = is in absurd (cc)
quiet_commits (ops.BackTo mark) quiet is = let no : ops.BackTo mark ≡ ops.Commit = is in absurd (cc)
quiet_commits ops.Begin quiet is = absurd quiet
quiet_commits ops.Relax quiet is = absurd quiet
quiet_commits ops.Rollback quiet is = absurd quiet
