-- Each commit of a batch of plain statements ends a statement's own transaction.
use Rattle.std.proofs.Common.{◌≡◌, ◌⊎◌, inl, inr, ℕ, Bool, true, false, List, [], ◌∷◌, ◌++◌, refl, sym, ap, ◌∙◌, subst, append_assoc, append-nil}
use Rattle.tsql_tree.specs.declared.statement.Statement.{Statement}
use Rattle.binder.specs.Names.{form_of}
use Rattle.step_model.specs.declared.manner.Manner.{Manner}
use Rattle.step_model.specs.declared.op.Op.TheVariants as ops
use Rattle.step_model.specs.declared.reply.Reply.TheVariants as replies
use Rattle.step_model.specs.Exchange.{Exchange}
use Rattle.step_model.specs.Own.{Progress as Stand, none_open, progress_from, progress_of}
use Rattle.write_laws.proofs.Parts.{from_both}
use Rattle.batch_meaning.specs.declared.exit.Exit.{Exit}
use Rattle.batch_meaning.specs.declared.exit.Exit.TheVariants.{On, Leave, Again, Return, Raise, RaiseUp, End}
use Rattle.batch_meaning.specs.declared.form.ReadText.TheVariants as text
use Rattle.batch_meaning.specs.declared.settings.Settings.{Settings}
use Rattle.batch_meaning.specs.Doing.{Doing, ◌then◌, Left}
use Rattle.batch_meaning.specs.Meaning.{batch, each_of, ends, goes_on, mean_of, meaning}
use Rattle.batch_meaning.specs.Progress.{SessionProgress, begins, counts, made, statement_limit}
use Rattle.batch_meaning.specs.Raised.{Around, around_batch}
use Rattle.batch_meaning.specs.Statements.{vars_of}
use Rattle.statement_paths.specs.Paths.{IsAround, NoneCommits, replied}
use Rattle.statement_paths.proofs.Apart.{Apart, held_left, left_apart}
use Rattle.statement_paths.proofs.Owned.{none_append}
use Rattle.batch_laws.specs.Committing.{is_plain, ArePlain, IsIdle, NoneFires}
use Rattle.batch_laws.specs.Laws.{BatchCommits, CommitsEnd, EndsWork}
use Rattle.batch_laws.proofs.Batches.{counts_idle, fires_first, fires_here, fires_later, mean_closed, plain_run}
use Rattle.batch_laws.proofs.Lefts.{Went, WentOr, done_parts, ends_quiet, mean_went, relaxed_calm}

-- ---- lists

head_same : {A : Type 0} (x y : A) (xs ys : List A) → x ∷ xs ≡ y ∷ ys → x ≡ y
head_same x y xs ys is = cc

tail_same : {A : Type 0} (x y : A) (xs ys : List A) → x ∷ xs ≡ y ∷ ys → xs ≡ ys
tail_same x y xs ys is = cc

-- an element of two lists together is one of the first, or of the second
abbrev Splits : List Exchange → List Exchange → List Exchange → Exchange → List Exchange → Type 0
Splits first second before x later = ((rest : List Exchange) × (first ≡ before ++ x ∷ rest)) ⊎ ((rest : List Exchange) × (before ≡ first ++ rest) × (second ≡ rest ++ x ∷ later))

splits : (first second before : List Exchange) (x : Exchange) (later : List Exchange) → first ++ second ≡ before ++ x ∷ later → Splits first second before x later
splits [] second before x later is = inr (before, refl, is)
splits (y ∷ first) second [] x later is = inl (first, ap (λ (z : Exchange). z ∷ first) (head_same y x (first ++ second) later is))
splits (y ∷ first) second (b ∷ before) x later is = by_splits (splits first second before x later (tail_same y b (first ++ second) (before ++ x ∷ later) is))
  where
    same : y ≡ b
    same = head_same y b (first ++ second) (before ++ x ∷ later) is

    by_splits : Splits first second before x later → Splits (y ∷ first) second (b ∷ before) x later
    by_splits (inl on) = inl (on.0, ap (λ (z : Exchange). z ∷ first) same ∙ ap (λ (l : List Exchange). b ∷ l) on.1)
    by_splits (inr on) = inr (on.0, ap (λ (z : Exchange). z ∷ before) (sym same) ∙ ap (λ (l : List Exchange). y ∷ l) on.1, on.2)

-- a commit is none of those of which none is one
no_commit : (before : List Exchange) (x : Exchange) (rest : List Exchange) → NoneCommits (before ++ x ∷ rest) → x.op ≡ ops.Commit → ⊥
no_commit [] x rest none is = none.0 is
no_commit (b ∷ before) x rest none is = no_commit before x rest none.1 is

no_element : {A : Type 0} (xs : List A) (x : A) (ys : List A) → [] ≡ xs ++ x ∷ ys → ⊥
no_element [] x ys is = let no : [] ≡ x ∷ ys = is in cc
no_element (y ∷ xs) x ys is = let no : [] ≡ y ∷ (xs ++ x ∷ ys) = is in cc

-- behind the last one nothing comes
last_alone : (rest : List Exchange) (last x : Exchange) (later : List Exchange) → last ∷ [] ≡ rest ++ x ∷ later → later ≡ []
last_alone [] last x later is = sym (tail_same last x [] later is)
last_alone (y ∷ rest) last x later is = absurd (no_element rest x later (tail_same last y [] (rest ++ x ∷ later) is))

-- ---- the transaction of a statement

-- a commit is its last exchange
around_ends : (asks_some is_open : Bool) (manner : Manner) (worked exchanges before : List Exchange) (x : Exchange) (rest : List Exchange) → NoneCommits worked → IsAround asks_some is_open true manner worked exchanges → exchanges ≡ before ++ x ∷ rest → x.op ≡ ops.Commit → rest ≡ []
around_ends false is_open manner worked exchanges before x rest calm here is commit = absurd (no_commit before x rest (subst NoneCommits (sym here ∙ is) calm) commit)
around_ends true true manner worked exchanges before x rest calm here is commit = absurd (no_commit before x rest (subst NoneCommits (sym here.1 ∙ is) (none_append worked here.0 calm (relaxed_calm manner here.0 here.2))) commit)
around_ends true false manner worked exchanges before x rest calm here is commit = by_splits (splits front (last ∷ []) before x rest (sym here.2 ∙ is))
  where
    last : Exchange
    last = replied manner ops.Commit (replies.Ended here.1)

    front : List Exchange
    front = replied manner ops.Begin replies.Began ∷ (worked ++ here.0)

    quiet : NoneCommits front
    quiet = ((λ so. let no : ops.Begin ≡ ops.Commit = so in cc), none_append worked here.0 calm (relaxed_calm manner here.0 here.3))

    by_splits : Splits front (last ∷ []) before x rest → rest ≡ []
    by_splits (inl on) = absurd (no_commit before x on.0 (subst NoneCommits on.1 quiet) commit)
    by_splits (inr on) = last_alone on.0 last x rest on.2

-- ---- one statement

calm_ends : (around : Around) (statements : List Statement) (settings : Settings) (exchanges : List Exchange) → NoneCommits exchanges → CommitsEnd around statements settings exchanges
calm_ends around statements settings exchanges calm before later x is commit = absurd (no_commit before x later (subst NoneCommits is calm) commit)

went_ends : (around : Around) (p : SessionProgress) (statement : Statement) (others : List Statement) (exchanges : List Exchange) → IsIdle p → Went around p statement exchanges → CommitsEnd around (statement ∷ others) p.settings exchanges
went_ends around p statement others exchanges idle (inl calm) before later x is commit = calm_ends around (statement ∷ others) p.settings exchanges calm before later x is commit
went_ends around p statement others exchanges idle (inr (exit, planned, effect, done, commits)) before later x is commit =
    let parts = done_parts around p statement exit planned effect exchanges (form_of statement) done in
    let last = around_ends parts.asks p.is_open p.settings.manner parts.worked exchanges before x later (parts.wrote none_open).calm parts.around is commit in
    record {
      ahead = [];
      statement = statement;
      others = others;
      among = refl;
      earlier = [];
      path = exchanges;
      parts = sym (is ∙ ap (λ (l : List Exchange). before ++ x ∷ l) last);
      none = refl;
      old = p;
      idle = idle;
      stays = refl;
      exit = exit;
      planned = planned;
      effect = effect;
      done = done;
    }

mean_ends : (levels : ℕ) (around : Around) (statement : Statement) (others : List Statement) (p new : SessionProgress) (exchanges : List Exchange) → is_plain (form_of statement) ≡ true → IsIdle p → NoneFires around (statement ∷ others) exchanges → Left (mean_of levels statement around) p exchanges new
    → CommitsEnd around (statement ∷ others) p.settings exchanges
mean_ends levels around statement others p new exchanges is idle calm left = by_went (mean_went levels around statement p new exchanges is idle.none.shut idle.seen left)
  where
    by_went : WentOr around (made counts p) statement exchanges → CommitsEnd around (statement ∷ others) p.settings exchanges
    by_went (inl went) = went_ends around (made counts p) statement others exchanges (counts_idle p idle) went
    by_went (inr fires) = absurd (calm (fires_here around statement others p exchanges exchanges [] idle (sym (append-nil exchanges)) fires))

-- ---- one behind another

later_ends : (around : Around) (statement : Statement) (others : List Statement) (settings : Settings) (first before rest : List Exchange) (x : Exchange) → progress_of first ≡ none_open → before ≡ first ++ rest → EndsWork around others settings rest x → EndsWork around (statement ∷ others) settings before x
later_ends around statement others settings first before rest x none is e = record {
  ahead = statement ∷ e.ahead;
  statement = e.statement;
  others = e.others;
  among = ap (λ (l : List Statement). statement ∷ l) e.among;
  earlier = first ++ e.earlier;
  path = e.path;
  parts = ap (λ (l : List Exchange). l ++ x ∷ []) is ∙ append_assoc first rest (x ∷ []) ∙ ap (λ (l : List Exchange). first ++ l) e.parts ∙ sym (append_assoc first e.earlier e.path);
  none = from_both none_open first e.earlier ∙ ap (λ (s : Stand). progress_from s e.earlier) none ∙ e.none;
  old = e.old;
  idle = e.idle;
  stays = e.stays;
  exit = e.exit;
  planned = e.planned;
  effect = e.effect;
  done = e.done;
}

both_end : (around : Around) (statement : Statement) (others : List Statement) (settings : Settings) (exchanges first second : List Exchange) → exchanges ≡ first ++ second → CommitsEnd around (statement ∷ others) settings first → progress_of first ≡ none_open
    → CommitsEnd around others settings second → CommitsEnd around (statement ∷ others) settings exchanges
both_end around statement others settings exchanges first second parts one none two before later x is commit = by_splits (splits first second before x later (sym parts ∙ is))
  where
    by_splits : Splits first second before x later → EndsWork around (statement ∷ others) settings before x
    by_splits (inl on) = one before on.0 x on.1 commit
    by_splits (inr on) = later_ends around statement others settings first before on.0 x none on.1 (two on.0 later x on.2 commit)

nothing_ends : (around : Around) (statements : List Statement) (settings : Settings) (exchanges : List Exchange) → exchanges ≡ [] → CommitsEnd around statements settings exchanges
nothing_ends around statements settings exchanges none before later x is commit = absurd (no_element before x later (sym none ∙ is))

module _ (levels : ℕ) (around : Around) where
  abbrev one : Statement → Around → Doing Exit
  one inner at = mean_of levels inner at

  run_ends : (statements : List Statement) (p new : SessionProgress) (exchanges : List Exchange) → ArePlain statements → IsIdle p → NoneFires around statements exchanges → Left (each_of one statements around) p exchanges new → CommitsEnd around statements p.settings exchanges
  unfolding each_of Left
  run_ends [] p new exchanges plain_all idle calm left = nothing_ends around [] p.settings exchanges left.0
  run_ends (statement ∷ others) p new exchanges plain_all idle calm left =
      by_left (λ q back now none rest. run_ends others q new back plain_all.1 now none rest) (left_apart (one statement around) (λ exit. goes_on (each_of one others around) exit) p new exchanges left)
    where
      by_came : (back : List Exchange) (mid : SessionProgress) (came : Exit) → IsIdle mid → ((q : SessionProgress) → IsIdle q → Left (each_of one others around) q back new → CommitsEnd around others q.settings back) → Left (goes_on (each_of one others around) came) mid back new → CommitsEnd around others mid.settings back
      by_came back mid On now goes rest = goes mid now rest
      by_came back mid Leave now goes rest = nothing_ends around others mid.settings back rest.0
      by_came back mid Again now goes rest = nothing_ends around others mid.settings back rest.0
      by_came back mid (Return status) now goes rest = nothing_ends around others mid.settings back rest.0
      by_came back mid (RaiseUp raised) now goes rest = nothing_ends around others mid.settings back rest.0
      by_came back mid (Raise raised) now goes rest = nothing_ends around others mid.settings back rest.0
      by_came back mid End now goes rest = nothing_ends around others mid.settings back rest.0

      by_left : ((q : SessionProgress) (back : List Exchange) → IsIdle q → NoneFires around others back → Left (each_of one others around) q back new → CommitsEnd around others q.settings back)
          → Left (one statement around) p exchanges new ⊎ Apart (one statement around) p exchanges (λ came mid back. Left (goes_on (each_of one others around) came) mid back new) → CommitsEnd around (statement ∷ others) p.settings exchanges
      by_left goes (inl here) = mean_ends levels around statement others p new exchanges plain_all.0 idle calm here
      by_left goes (inr on) =
          let closed = mean_closed levels around statement p on.mid on.front on.came plain_all.0 idle (λ fires. calm (fires_here around statement others p exchanges on.front on.back idle on.parts fires)) on.held in
          let later : NoneFires around others on.back = λ fires. calm (fires_later around statement others exchanges on.front on.back on.parts closed.none fires) in
          both_end around statement others p.settings exchanges on.front on.back on.parts
          (mean_ends levels around statement others p on.mid on.front plain_all.0 idle (λ fires. calm (fires_first around (statement ∷ others) exchanges on.front on.back on.parts fires)) (held_left (one statement around) p on.mid on.front on.came on.held)) closed.none
          (subst (λ (s : Settings). CommitsEnd around others s on.back) closed.stays.settings (by_came on.back on.mid on.came closed.idle (λ q now rest. goes q on.back now later rest) on.rest))

left_commits : (statements : List Statement) (old new : SessionProgress) (exchanges : List Exchange) → ArePlain statements → IsIdle old → NoneFires around_batch statements exchanges → Left (batch (text.Statements statements)) old exchanges new → CommitsEnd around_batch statements old.settings exchanges
unfolding batch Left
left_commits statements old new exchanges plain_all idle calm left = by_begins left
  where
    begun : SessionProgress
    begun = made (begins (vars_of statements)) old

    now : IsIdle begun
    now = record { none = record { shut = idle.none.shut; closed = idle.none.closed; sound = idle.none.sound }; seen = idle.seen }

    by_apart : Left (meaning statement_limit statements around_batch) begun exchanges new ⊎ Apart (meaning statement_limit statements around_batch) begun exchanges (λ exit mid back. Left (ends exit) mid back new) → CommitsEnd around_batch statements old.settings exchanges
    by_apart (inl here) = run_ends statement_limit around_batch statements begun new exchanges plain_all now calm here
    by_apart (inr on) =
        let quiet : NoneFires around_batch statements on.front = λ fires. calm (fires_first around_batch statements exchanges on.front on.back on.parts fires) in
        let ran = plain_run statement_limit around_batch statements begun on.mid on.front on.came plain_all now quiet on.held in
        let whole : on.front ≡ exchanges = sym (on.parts ∙ ap (λ (l : List Exchange). on.front ++ l) (ends_quiet on.came on.mid new on.back ran.2.none.sound on.rest) ∙ append-nil on.front) in
        subst (CommitsEnd around_batch statements old.settings) whole
        (run_ends statement_limit around_batch statements begun on.mid on.front plain_all now quiet (held_left (meaning statement_limit statements around_batch) begun on.mid on.front on.came on.held))

    by_begins : ((exchanges ≡ []) × (new ≡ old)) ⊎ Left (meaning statement_limit statements around_batch then ends) begun exchanges new → CommitsEnd around_batch statements old.settings exchanges
    by_begins (inl here) = nothing_ends around_batch statements old.settings exchanges here.0
    by_begins (inr later) = by_apart (left_apart (meaning statement_limit statements around_batch) ends begun new exchanges later)

pub batch_commits : BatchCommits
batch_commits statements old new exchanges plain_all idle calm (inl held) = left_commits statements old new exchanges plain_all idle calm (held_left (batch (text.Statements statements)) old new exchanges tt held)
batch_commits statements old new exchanges plain_all idle calm (inr left) = left_commits statements old new exchanges plain_all idle calm left
