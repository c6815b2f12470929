-- Plain statements one after another, where no transaction is open, and a batch of them.
use Rattle.std.proofs.Common.{◌≡◌, inl, inr, ℕ, Bool, true, false, if◌then◌else◌, List, [], ◌∷◌, ◌++◌, refl, sym, ap, ◌∙◌, subst, append_assoc, append-nil}
use Rattle.tsql_tree.specs.declared.statement.Statement.{Statement}
use Rattle.binder.specs.Names.{form_of}
use Rattle.step_model.specs.declared.change.Planned.{Planned}
use Rattle.step_model.specs.Exchange.{Exchange}
use Rattle.step_model.specs.Fits.{commits_from, commits_of, commit_of}
use Rattle.step_model.specs.Net.{Net}
use Rattle.step_model.specs.Own.{Progress as Stand, none_open, progress_from, progress_of}
use Rattle.tds_tokens.specs.declared.token.Token.{Token}
use Rattle.batch_meaning.specs.declared.exit.Exit.{Exit}
use Rattle.batch_meaning.specs.declared.exit.Exit.TheVariants.{On, Leave, Again, Return, Raise, RaiseUp, End}
use Rattle.batch_meaning.specs.Doing.{Doing, over, makes, ◌then◌, Held}
use Rattle.batch_meaning.specs.declared.raised.Raised.{Raised}
use Rattle.batch_meaning.specs.declared.settings.Settings.{Settings}
use Rattle.batch_meaning.specs.Failures.{naming}
use Rattle.batch_meaning.specs.Meaning.{batch, each_of, ends, ends_doomed, goes_on, has_failed, mean_of, meaning}
use Rattle.batch_meaning.specs.Progress.{SessionProgress, begins, counts, made, sends, statement_limit}
use Rattle.batch_meaning.specs.Raised.{Around, around_batch, error_token, raised_at}
use Rattle.batch_meaning.specs.Statements.{vars_of}
use Rattle.batch_meaning.specs.Tokens.{batch_done}
use Rattle.statement_paths.proofs.Apart.{held_apart}
use Rattle.write_laws.proofs.Parts.{from_both}
use Rattle.batch_laws.specs.Committing.{is_plain, Agrees, ArePlain, Commits, Ends, Fires, FiresAmong, FiresSome, IfOn, IsIdle, Leaves, NoneFires, Runs, Stays}
use Rattle.batch_laws.specs.Laws.{BatchRuns, PlainRun, RefusedEnds}
use Rattle.batch_laws.proofs.Ending.{Ended}
use Rattle.batch_laws.proofs.Leaving.{commits_both}
use Rattle.batch_laws.proofs.Turns.{Finished, FinishedOr, fires_further, mean_finished}
use Rattle.batch_laws.proofs.Unseen.{unseen_off}

-- ---- one statement

-- where none was open none is
pub closed_leaves : (was now : Bool) (exchanges : List Exchange) (planned : List Planned) → was ≡ false → Leaves was now none_open exchanges planned
    → (now ≡ false) × (progress_of exchanges ≡ none_open) × (commits_of exchanges ≡ commit_of (Net planned))
closed_leaves true now exchanges planned shut leaves = absurd (let no : true ≡ false = shut in cc)
closed_leaves false true exchanges planned shut leaves = absurd leaves
closed_leaves false false exchanges planned shut leaves = (refl, leaves.0, leaves.1)

-- it has ended, and left nothing open
pub record Closed (around : Around) (statement : Statement) (p : SessionProgress) (exchanges : List Exchange) (exit : Exit) (new : SessionProgress) : Type 0 where
  pub sent : List Token
  pub planned : List Planned
  pub tokens : new.tokens ≡ p.tokens ++ sent
  pub ended : Ends around (made counts p) statement exit sent planned exchanges new
  pub none : progress_of exchanges ≡ none_open
  pub commits : commits_of exchanges ≡ commit_of (Net planned)
  pub idle : IsIdle new
  pub stays : Stays p new

idle_agrees : (p : SessionProgress) → IsIdle p → Agrees p.is_open none_open
idle_agrees p idle = subst (λ (b : Bool). Agrees b none_open) (sym idle.none.shut) refl

pub counts_idle : (p : SessionProgress) → IsIdle p → IsIdle (made counts p)
counts_idle p idle = record { none = record { shut = idle.none.shut; closed = idle.none.closed; sound = idle.none.sound }; seen = idle.seen }

-- one that fires no triggers
pub mean_closed : (levels : ℕ) (around : Around) (statement : Statement) (p new : SessionProgress) (exchanges : List Exchange) (exit : Exit) → is_plain (form_of statement) ≡ true → IsIdle p → (Fires around (made counts p) statement exchanges → ⊥) → Held (mean_of levels statement around) p exchanges exit new
    → Closed around statement p exchanges exit new
mean_closed levels around statement p new exchanges exit is idle calm held = by_ways (mean_finished levels around statement p new exchanges exit none_open (idle_agrees p idle) is (unseen_off p (form_of statement) idle.seen) held)
  where
    by_ended : Finished around statement (made counts p) new exchanges exit none_open (idle_agrees p idle) → Ended around statement (made counts p) new exchanges exit none_open (idle_agrees p idle) → Closed around statement p exchanges exit new
    by_ended finished (sent, planned, tokens, ended, leaves) =
        let closed = closed_leaves p.is_open new.is_open exchanges planned idle.none.shut leaves in
        let shut = finished.idle (idle.none.closed, idle.none.sound) in
        let stays = finished.stays in
        record {
          sent = sent;
          planned = planned;
          tokens = tokens;
          ended = ended;
          none = closed.1;
          commits = closed.2;
          idle = record { none = record { shut = closed.0; closed = shut.0; sound = shut.1 }; seen = ap (λ (s : Settings). s.implicit) stays.settings ∙ idle.seen };
          stays = record { settings = stays.settings; serial = stays.serial; cursors = stays.cursors; fetched = stays.fetched };
        }

    by_ways : FinishedOr around statement (made counts p) new exchanges exit none_open (idle_agrees p idle) → Closed around statement p exchanges exit new
    by_ways (inl finished) = by_ended finished finished.ended
    by_ways (inr fires) = absurd (calm fires)

-- ---- triggers among statements

-- this one has fired them, in a session and behind a part of what it asked
pub some_here : (around : Around) (statement : Statement) (others : List Statement) (q : SessionProgress) (exchanges earlier path back : List Exchange) → exchanges ≡ (earlier ++ path) ++ back → Fires around q statement path → FiresSome around (statement ∷ others) exchanges
some_here around statement others q exchanges earlier path back parts fires = record {
  ahead = [];
  statement = statement;
  others = others;
  among = refl;
  earlier = earlier;
  path = path ++ back;
  parts = parts ∙ append_assoc earlier path back;
  old = q;
  fires = fires_further around q statement path back (path ++ back) refl fires;
}

-- or one of the others has
pub some_later : (around : Around) (statement : Statement) (others : List Statement) (exchanges front back : List Exchange) → exchanges ≡ front ++ back → FiresSome around others back → FiresSome around (statement ∷ others) exchanges
some_later around statement others exchanges front back parts f = record {
  ahead = statement ∷ f.ahead;
  statement = f.statement;
  others = f.others;
  among = ap (λ (l : List Statement). statement ∷ l) f.among;
  earlier = front ++ f.earlier;
  path = f.path;
  parts = parts ∙ ap (λ (l : List Exchange). front ++ l) f.parts ∙ sym (append_assoc front f.earlier f.path);
  old = f.old;
  fires = f.fires;
}

-- this one, as it begins, has fired them
pub fires_here : (around : Around) (statement : Statement) (others : List Statement) (p : SessionProgress) (exchanges front back : List Exchange) → IsIdle p → exchanges ≡ front ++ back → Fires around (made counts p) statement front → FiresAmong around (statement ∷ others) exchanges
unfolding some_here
fires_here around statement others p exchanges front back idle parts fires =
    record { some = some_here around statement others (made counts p) exchanges [] front back parts fires; none = refl; idle = counts_idle p idle }

pub fires_later : (around : Around) (statement : Statement) (others : List Statement) (exchanges front back : List Exchange) → exchanges ≡ front ++ back → progress_of front ≡ none_open → FiresAmong around others back → FiresAmong around (statement ∷ others) exchanges
unfolding some_later
fires_later around statement others exchanges front back parts none f = record {
  some = some_later around statement others exchanges front back parts f.some;
  none = from_both none_open front f.some.earlier ∙ ap (λ (s : Stand). progress_from s f.some.earlier) none ∙ f.none;
  idle = f.idle;
}

-- ---- one behind another

module _ (levels : ℕ) (around : Around) where
  abbrev one : Statement → Around → Doing Exit
  one inner at = mean_of levels inner at

  abbrev Ran : List Statement → SessionProgress → List Exchange → Exit → SessionProgress → Type 0
  Ran statements p exchanges exit new = ((tokens : List Token) × (new.tokens ≡ p.tokens ++ tokens) × Runs around statements p exit tokens (commits_of exchanges) exchanges new) × (progress_of exchanges ≡ none_open) × IsIdle new

  -- behind the first
  ran_on : (statement : Statement) (others : List Statement) (p mid new : SessionProgress) (exchanges front back : List Exchange) (came exit : Exit) → exchanges ≡ front ++ back → (first : Closed around statement p front came mid)
      → (later : List Token) (rest : Commits) → new.tokens ≡ mid.tokens ++ later → commits_of back ≡ rest → progress_of back ≡ none_open → IsIdle new
      → IfOn came (Runs around others mid exit later rest back new) ((exit ≡ came) × (later ≡ []) × (rest ≡ []) × (back ≡ []) × (new ≡ mid)) → Ran (statement ∷ others) p exchanges exit new
  ran_on statement others p mid new exchanges front back came exit parts first later rest tokens commits none idle goes =
      let progress : progress_of exchanges ≡ none_open = ap progress_of parts ∙ from_both none_open front back ∙ ap (λ (s : Stand). progress_from s back) first.none ∙ none in
      let all : commits_of exchanges ≡ commit_of (Net first.planned) ++ rest =
      ap commits_of parts ∙ commits_both none_open front back ∙ ap (λ (s : Stand). commits_of front ++ commits_from s back) first.none ∙ ap (λ (c : Commits). c ++ commits_of back) first.commits ∙ ap (λ (c : Commits). commit_of (Net first.planned) ++ c) commits in (
        (
          first.sent ++ later,
          tokens ∙ ap (λ (t : List Token). t ++ later) first.tokens ∙ append_assoc p.tokens first.sent later,
          (came, mid, first.sent, later, first.planned, rest, front, back, refl, all, parts, first.ended, first.stays, first.idle, goes),
        ),
        progress,
        idle,
      )

  run_held : (statements : List Statement) (p new : SessionProgress) (exchanges : List Exchange) (exit : Exit) → ArePlain statements → IsIdle p → NoneFires around statements exchanges → Held (each_of one statements around) p exchanges exit new
      → Ran statements p exchanges exit new
  unfolding each_of Held
  run_held [] p new exchanges exit plain_all idle calm held = (
    ([], ap (λ (q : SessionProgress). q.tokens) held.2 ∙ sym (append-nil p.tokens), (held.1, refl, ap commits_of held.0, held.0, held.2)),
    ap progress_of held.0,
    subst IsIdle (sym held.2) idle,
  )
  run_held (statement ∷ others) p new exchanges exit plain_all idle calm held =
      let on = held_apart (one statement around) (λ exit. goes_on (each_of one others around) exit) p new exchanges exit held in
      let first = mean_closed levels around statement p on.mid on.front on.came plain_all.0 idle (λ fires. calm (fires_here around statement others p exchanges on.front on.back idle on.parts fires)) on.held in
      by_came on.front on.back on.mid on.came on.parts first (λ q now rest. run_held others q new on.back exit plain_all.1 now (λ fires. calm (fires_later around statement others exchanges on.front on.back on.parts first.none fires)) rest) on.rest
    where
      stopped : (front back : List Exchange) (mid : SessionProgress) (came : Exit) → exchanges ≡ front ++ back → (first : Closed around statement p front came mid) → (back ≡ []) × (exit ≡ came) × (new ≡ mid)
          → ((exit ≡ came) × ◌≡◌ {A = List Token} [] [] × ◌≡◌ {A = Commits} [] [] × (back ≡ []) × (new ≡ mid) → IfOn came (Runs around others mid exit [] [] back new) ((exit ≡ came) × ◌≡◌ {A = List Token} [] [] × ◌≡◌ {A = Commits} [] [] × (back ≡ []) × (new ≡ mid)))
          → Ran (statement ∷ others) p exchanges exit new
      stopped front back mid came parts first rest goes =
          ran_on statement others p mid new exchanges front back came exit parts first [] [] (ap (λ (q : SessionProgress). q.tokens) rest.2 ∙ sym (append-nil mid.tokens)) (ap commits_of rest.0) (ap progress_of rest.0) (subst IsIdle (sym rest.2) first.idle)
          (goes (rest.1, refl, refl, rest.0, rest.2))

      by_came : (front back : List Exchange) (mid : SessionProgress) (came : Exit) → exchanges ≡ front ++ back → (first : Closed around statement p front came mid)
          → ((q : SessionProgress) → IsIdle q → Held (each_of one others around) q back exit new → Ran others q back exit new) → Held (goes_on (each_of one others around) came) mid back exit new → Ran (statement ∷ others) p exchanges exit new
      by_came front back mid On parts first goes rest =
          let others_ran = goes mid first.idle rest in
          ran_on statement others p mid new exchanges front back On exit parts first others_ran.0.0 (commits_of back) others_ran.0.1 refl others_ran.1 others_ran.2 others_ran.0.2
      by_came front back mid Leave parts first goes rest = stopped front back mid Leave parts first rest (λ is. is)
      by_came front back mid Again parts first goes rest = stopped front back mid Again parts first rest (λ is. is)
      by_came front back mid (Return status) parts first goes rest = stopped front back mid (Return status) parts first rest (λ is. is)
      by_came front back mid (Raise raised) parts first goes rest = stopped front back mid (Raise raised) parts first rest (λ is. is)
      by_came front back mid (RaiseUp raised) parts first goes rest = stopped front back mid (RaiseUp raised) parts first rest (λ is. is)
      by_came front back mid End parts first goes rest = stopped front back mid End parts first rest (λ is. is)

pub plain_run : PlainRun
unfolding Held
plain_run levels around statements old new exchanges exit plain_all idle calm held = run_held levels around statements old new exchanges exit plain_all idle calm held

-- ---- a batch

-- in front of more exchanges
pub fires_first : (around : Around) (statements : List Statement) (exchanges front back : List Exchange) → exchanges ≡ front ++ back → FiresAmong around statements front → FiresAmong around statements exchanges
fires_first around statements exchanges front back parts f = record {
  some = record {
    ahead = f.some.ahead;
    statement = f.some.statement;
    others = f.some.others;
    among = f.some.among;
    earlier = f.some.earlier;
    path = f.some.path ++ back;
    parts = parts ∙ ap (λ (l : List Exchange). l ++ back) f.some.parts ∙ append_assoc f.some.earlier f.some.path back;
    old = f.some.old;
    fires = fires_further around f.some.old f.some.statement f.some.path back (f.some.path ++ back) refl f.some.fires;
  };
  none = f.none;
  idle = f.idle;
}

pub ends_held : (exit : Exit) (p new : SessionProgress) (exchanges : List Exchange) (done : Unit {0}) → p.txn.doomed ≡ false → Held (ends exit) p exchanges done new → (exchanges ≡ []) × (new ≡ made (sends (batch_done (has_failed exit) ∷ [])) p)
unfolding ends Held
ends_held exit p new exchanges done sound held = by_doom p.txn.doomed sound held
  where
    by_doom : (doomed : Bool) → doomed ≡ false → Held (if doomed then ends_doomed else makes (sends (batch_done (has_failed exit) ∷ [])) (over tt)) p exchanges done new → (exchanges ≡ []) × (new ≡ made (sends (batch_done (has_failed exit) ∷ [])) p)
    by_doom true is was = absurd (let no : true ≡ false = is in cc)
    by_doom false is was = (was.0, was.2)

pub batch_runs : BatchRuns
unfolding batch Held
batch_runs statements old new exchanges plain_all idle calm held =
    let begun : SessionProgress = made (begins (vars_of statements)) old in
    let on = held_apart (meaning statement_limit statements around_batch) ends begun new exchanges tt held in
    let now : IsIdle begun = record { none = record { shut = idle.none.shut; closed = idle.none.closed; sound = idle.none.sound }; seen = idle.seen } in
    let ran = run_held statement_limit around_batch statements begun on.mid on.front on.came plain_all now (λ fires. calm (fires_first around_batch statements exchanges on.front on.back on.parts fires)) on.held in
    by_ran begun on.front on.back on.mid on.came on.parts refl ran (ends_held on.came on.mid new on.back tt ran.2.none.sound on.rest)
  where
    by_ran : (begun : SessionProgress) (front back : List Exchange) (mid : SessionProgress) (exit : Exit) → exchanges ≡ front ++ back → begun ≡ made (begins (vars_of statements)) old → Ran statement_limit around_batch statements begun front exit mid
        → (back ≡ []) × (new ≡ made (sends (batch_done (has_failed exit) ∷ [])) mid)
        → ((tokens : List Token) × (exit : Exit) × (last : SessionProgress) × (new.tokens ≡ tokens ++ batch_done (has_failed exit) ∷ []) × Runs around_batch statements (made (begins (vars_of statements)) old) exit tokens (commits_of exchanges) exchanges last) × (progress_of exchanges ≡ none_open) × IsIdle new
    by_ran begun front back mid exit parts same ran end =
        let whole : front ≡ exchanges = sym (parts ∙ ap (λ (l : List Exchange). front ++ l) end.0 ∙ append-nil front) in
        let started : begun.tokens ≡ [] = ap (λ (q : SessionProgress). q.tokens) same in (
          (
            ran.0.0,
            exit,
            mid,
            ap (λ (q : SessionProgress). q.tokens) end.1 ∙ ap (λ (t : List Token). t ++ batch_done (has_failed exit) ∷ []) (ran.0.1 ∙ ap (λ (t : List Token). t ++ ran.0.0) started),
            subst (λ (q : SessionProgress). Runs around_batch statements q exit ran.0.0 (commits_of exchanges) exchanges mid) same (subst (λ (l : List Exchange). Runs around_batch statements begun exit ran.0.0 (commits_of l) l mid) whole ran.0.2),
          ),
          subst (λ (l : List Exchange). progress_of l ≡ none_open) whole ran.1,
          subst IsIdle (sym end.1) (record { none = record { shut = ran.2.none.shut; closed = ran.2.none.closed; sound = ran.2.none.sound }; seen = ran.2.seen }),
        )

-- ---- a text that is refused

pub refused_ends : RefusedEnds
unfolding batch ◌then◌ Held
refused_ends line code near old new exchanges sound held =
    let raised : Raised = raised_at line (naming code near) in
    let begun : SessionProgress = made (begins []) old in
    let end = ends_held End (made (sends (error_token raised ∷ [])) begun) new exchanges tt sound held in
    (end.0, ap (λ (q : SessionProgress). q.tokens) end.1, ap (λ (q : SessionProgress). q.is_open) end.1)
