-- How a statement ends, and what it has sent.
use Rattle.std.proofs.Common.{◌≡◌, ◌⊎◌, inl, inr, ℕ, ℤ, pos, Bool, true, false, if◌then◌else◌, List, [], ◌∷◌, ◌++◌, refl, sym, ap, ◌∙◌, subst, append_assoc, append-nil}
use Rattle.std.specs.Prelude.{min}
use Rattle.tsql_tree.specs.declared.statement.Statement.{Statement}
use Rattle.binder.specs.Names.{Layer, form_of}
use Rattle.error_table.specs.declared.action.Action.{Action}
use Rattle.error_table.specs.declared.action.Action.TheVariants as act
use Rattle.step_model.specs.declared.change.Planned.{Planned}
use Rattle.step_model.specs.declared.op.Op.TheVariants as ops
use Rattle.step_model.specs.declared.reply.Reply.{Reply}
use Rattle.step_model.specs.declared.reply.Reply.TheVariants as replies
use Rattle.step_model.specs.Exchange.{CanReply, Exchange}
use Rattle.step_model.specs.Fits.{commits_from}
use Rattle.step_model.specs.Own.{Progress as Stand, progress_from}
use Rattle.txn_rules.specs.declared.state.TxnState.{TxnState}
use Rattle.txn_rules.specs.State.{after_end}
use Rattle.tds_tokens.specs.declared.token.Token.{Token}
use Rattle.write_laws.proofs.Parts.{from_both}
use Rattle.batch_meaning.specs.declared.exit.Exit.{Exit}
use Rattle.batch_meaning.specs.declared.exit.Exit.TheVariants.{End}
use Rattle.batch_meaning.specs.declared.failure.Failure.{Failure}
use Rattle.batch_meaning.specs.declared.raised.Raised.{Raised}
use Rattle.batch_meaning.specs.declared.settings.Settings.{Settings}
use Rattle.batch_meaning.specs.Asking.{assigns_all, where_ended}
use Rattle.batch_meaning.specs.Doing.{Doing, over, makes, asks, ◌then◌, Held}
use Rattle.batch_meaning.specs.Meaning.{caught_as, counted, ended_by, fails_for, leaves_rows, line_of, or_full, raises, raises_at, rolls_back_told, sends_some, strikes, succeeds, told_as, told_tokens, told_unless_own}
use Rattle.batch_meaning.specs.Progress.{SessionProgress, after_doom, asked, assigns, dooms, greatest_count, made, sends, tells_error, tells_rows}
use Rattle.batch_meaning.specs.Raised.{Around, action_in, is_caught_in, raised_in}
use Rattle.batch_meaning.specs.Selecting.{Effect}
use Rattle.batch_meaning.specs.Tokens.{command_of, done_kind, transaction_rolled_back}
use Rattle.batch_meaning.specs.Transactions.{unless_own}
use Rattle.batch_meaning.specs.Values.{Assigned}
use Rattle.statement_paths.specs.Paths.{replied, HasFailed}
use Rattle.statement_paths.proofs.Dialogs.{is_replied}
use Rattle.statement_paths.proofs.Owned.{nothing_more}
use Rattle.batch_laws.specs.Committing.{assigned_all, behind_effect, rows_behind, told_of, Agrees, DoneBy, Ends, IsBehind, IsWithin, Leaves, StrikesAt, StrikesBy}
use Rattle.batch_laws.proofs.Idle.{Behind}
use Rattle.batch_laws.proofs.Leaving.{commits_both}
use Rattle.batch_laws.proofs.Variables.{assigned_same}

-- ---- an error strikes

-- what is open behind it: what was, or an open transaction was rolled back
abbrev pub StaysOpen : SessionProgress → List Exchange → SessionProgress → Type 0
StaysOpen p exchanges new = ((exchanges ≡ []) × (new.is_open ≡ p.is_open)) ⊎ (((place : ℕ) × (exchanges ≡ replied p.settings.manner ops.Rollback (replies.Ended place) ∷ [])) × (p.is_open ≡ true) × (new.is_open ≡ false))

-- what stays of a session as it was
abbrev pub Keeps : SessionProgress → SessionProgress → Type 0
Keeps p new = new ≡ record p { tokens = new.tokens; bytes_left = new.bytes_left; error = new.error; txn = new.txn; is_open = new.is_open; is_own = new.is_own; stands = new.stands; touched = new.touched }

keeps_as : (p q new : SessionProgress) → new ≡ q → Keeps p q → Keeps p new
keeps_as p q new is kept = is ∙ kept ∙ ap (λ (s : SessionProgress). record p { tokens = s.tokens; bytes_left = s.bytes_left; error = s.error; txn = s.txn; is_open = s.is_open; is_own = s.is_own; stands = s.stands; touched = s.touched }) (sym is)

-- an error struck so
pub record Struck (around : Around) (p : SessionProgress) (command : ℕ) (line : ℤ) (raised : Raised) (exit : Exit) (exchanges : List Exchange) (new : SessionProgress) : Type 0 where
  pub tokens : List Token
  pub sent : new.tokens ≡ p.tokens ++ tokens
  pub strikes : StrikesAt around p command line raised exit tokens exchanges new
  pub stays : StaysOpen p exchanges new

-- by whether it is caught, what it ends and whether a transaction is open
pub record StruckBy (p : SessionProgress) (caught : Bool) (action : Action) (is_open : Bool) (told : List Token) (raised : Raised) (exit : Exit) (exchanges : List Exchange) (new : SessionProgress) : Type 0 where
  pub tokens : List Token
  pub sent : new.tokens ≡ p.tokens ++ tokens
  pub strikes : StrikesBy p caught action is_open told raised exit tokens exchanges new.txn
  pub error : new.error ≡ raised.number
  pub stays : StaysOpen p exchanges new

-- a session that has told this, and has the number of the error
pub record HasTold (p : SessionProgress) (told : List Token) (number : ℤ) (q : SessionProgress) : Type 0 where
  pub tokens : q.tokens ≡ p.tokens ++ told
  pub error : q.error ≡ number
  pub settings : q.settings ≡ p.settings
  pub txn : q.txn ≡ p.txn
  pub is_open : q.is_open ≡ p.is_open
  pub is_own : q.is_own ≡ p.is_own

module _ (p q new : SessionProgress) (exchanges : List Exchange) (exit : Exit) (told : List Token) (raised : Raised) (has : HasTold p told raised.number q) where
  -- nothing more is done
  nothing_held : (caught : Bool) (action : Action) (is_open : Bool) (s : SessionProgress) → s.tokens ≡ q.tokens → s.error ≡ q.error → s.is_open ≡ q.is_open → StrikesBy p caught action is_open told raised exit told exchanges new.txn → exchanges ≡ [] → new ≡ s → StruckBy p caught action is_open told raised exit exchanges new
  nothing_held caught action is_open s tokens error opened strikes none same = record {
    tokens = told;
    sent = ap (λ (r : SessionProgress). r.tokens) same ∙ tokens ∙ has.tokens;
    strikes = strikes;
    error = ap (λ (r : SessionProgress). r.error) same ∙ error ∙ has.error;
    stays = inl (none, ap (λ (r : SessionProgress). r.is_open) same ∙ opened ∙ has.is_open);
  }

  pub caught_held : (action : Action) (is_open : Bool) → Held (caught_as action raised) q exchanges exit new → StruckBy p true action is_open told raised exit exchanges new × Keeps q new
  unfolding Held
  caught_held act.Statement is_open held = (nothing_held true act.Statement is_open q refl refl refl (held.1, refl, held.0, ap (λ (r : SessionProgress). r.txn) held.2 ∙ has.txn) held.0 held.2, keeps_as q q new held.2 refl)
  caught_held act.Doom is_open held =
      (nothing_held true act.Doom is_open (made dooms q) refl refl refl (held.1, refl, held.0, ap (λ (r : SessionProgress). r.txn) held.2 ∙ ap after_doom has.txn) held.0 held.2, keeps_as q (made dooms q) new held.2 refl)
  caught_held act.Batch is_open held = (nothing_held true act.Batch is_open q refl refl refl (held.1, refl, held.0, ap (λ (r : SessionProgress). r.txn) held.2 ∙ has.txn) held.0 held.2, keeps_as q q new held.2 refl)
  caught_held act.BatchAndTransaction is_open held =
      (nothing_held true act.BatchAndTransaction is_open q refl refl refl (held.1, refl, held.0, ap (λ (r : SessionProgress). r.txn) held.2 ∙ has.txn) held.0 held.2, keeps_as q q new held.2 refl)

  -- an open transaction is rolled back
  rolled_told : (is_own : Bool) (r : SessionProgress) (later : List Exchange) → Held (told_unless_own is_own q.txn.serial then λ done. over End) r later exit new
      → (later ≡ []) × (exit ≡ End) × (new.tokens ≡ r.tokens ++ unless_own is_own (transaction_rolled_back q.txn.serial)) × (new.txn ≡ r.txn) × (new.error ≡ r.error) × (new.is_open ≡ r.is_open) × Keeps r new
  unfolding ◌then◌ Held
  rolled_told true r later held = (
    held.0,
    held.1,
    ap (λ (s : SessionProgress). s.tokens) held.2 ∙ sym (append-nil r.tokens),
    ap (λ (s : SessionProgress). s.txn) held.2,
    ap (λ (s : SessionProgress). s.error) held.2,
    ap (λ (s : SessionProgress). s.is_open) held.2,
    keeps_as r r new held.2 refl,
  )
  rolled_told false r later held = (
    held.0,
    held.1,
    ap (λ (s : SessionProgress). s.tokens) held.2,
    ap (λ (s : SessionProgress). s.txn) held.2,
    ap (λ (s : SessionProgress). s.error) held.2,
    ap (λ (s : SessionProgress). s.is_open) held.2,
    keeps_as r (made (sends (transaction_rolled_back q.txn.serial ∷ [])) r) new held.2 refl,
  )

  rolled_held : p.is_open ≡ true → Held (asks ops.Rollback (λ reply. where_ended (told_unless_own q.is_own q.txn.serial) reply then λ done. over End)) q exchanges exit new → StruckBy p false act.BatchAndTransaction true told raised exit exchanges new × Keeps q new
  unfolding ◌then◌ Held
  rolled_held opened held = by_list exchanges refl held
    where
      by_list : (xs : List Exchange) → exchanges ≡ xs → Held (asks ops.Rollback (λ reply. where_ended (told_unless_own q.is_own q.txn.serial) reply then λ done. over End)) q xs exit new → StruckBy p false act.BatchAndTransaction true told raised exit exchanges new × Keeps q new
      by_list [] is was = absurd was
      by_list (x ∷ later) is was = by_reply x.reply refl was.2 was.3
        where
          by_reply : (reply : Reply) → x.reply ≡ reply → CanReply ops.Rollback reply → Held (where_ended (told_unless_own q.is_own q.txn.serial) reply then λ done. over End) (asked ops.Rollback reply q) later exit new
              → StruckBy p false act.BatchAndTransaction true told raised exit exchanges new × Keeps q new
          by_reply (replies.Ended place) was_told can so =
              let end = rolled_told q.is_own (asked ops.Rollback (replies.Ended place) q) later so in
              let manner : q.settings.manner ≡ p.settings.manner = ap (λ (s : Settings). s.manner) has.settings in
              let whole : exchanges ≡ replied p.settings.manner ops.Rollback (replies.Ended place) ∷ [] =
              is ∙ ap (λ (y : Exchange). y ∷ later) (is_replied x p.settings.manner ops.Rollback (replies.Ended place) was.0 (was.1 ∙ manner) was_told) ∙ ap (λ (l : List Exchange). replied p.settings.manner ops.Rollback (replies.Ended place) ∷ l) end.0 in
              let own : unless_own q.is_own (transaction_rolled_back q.txn.serial) ≡ unless_own p.is_own (transaction_rolled_back p.txn.serial) =
              ap (λ (b : Bool). unless_own b (transaction_rolled_back q.txn.serial)) has.is_own ∙ ap (λ (t : TxnState). unless_own p.is_own (transaction_rolled_back t.serial)) has.txn in (
                record {
                  tokens = told ++ unless_own p.is_own (transaction_rolled_back p.txn.serial);
                  sent = end.2 ∙ ap (λ (l : List Token). l ++ unless_own q.is_own (transaction_rolled_back q.txn.serial)) has.tokens ∙ ap (λ (l : List Token). (p.tokens ++ told) ++ l) own ∙ append_assoc p.tokens told (unless_own p.is_own (transaction_rolled_back p.txn.serial));
                  strikes = (end.1, (place, whole), refl, end.3 ∙ ap after_end has.txn);
                  error = end.4 ∙ has.error;
                  stays = inr ((place, whole), opened, end.5);
                },
                end.6,
              )
          by_reply reply was_told can so = absurd can

  pub ended_held : (action : Action) → Held (ended_by action) q exchanges exit new → StruckBy p false action p.is_open told raised exit exchanges new × Keeps q new
  unfolding ended_by rolls_back_told ◌then◌ Held
  ended_held act.Statement held = (nothing_held false act.Statement p.is_open q refl refl refl (held.1, refl, held.0, ap (λ (r : SessionProgress). r.txn) held.2 ∙ has.txn) held.0 held.2, keeps_as q q new held.2 refl)
  ended_held act.Doom held = (nothing_held false act.Doom p.is_open q refl refl refl (held.1, refl, held.0, ap (λ (r : SessionProgress). r.txn) held.2 ∙ has.txn) held.0 held.2, keeps_as q q new held.2 refl)
  ended_held act.Batch held = (nothing_held false act.Batch p.is_open q refl refl refl (held.1, refl, held.0, ap (λ (r : SessionProgress). r.txn) held.2 ∙ has.txn) held.0 held.2, keeps_as q q new held.2 refl)
  ended_held act.BatchAndTransaction held = by_open q.is_open p.is_open refl has.is_open held
    where
      by_open : (is_open was_open : Bool) → p.is_open ≡ was_open → is_open ≡ was_open → Held ((if is_open then asks ops.Rollback (where_ended (told_unless_own q.is_own q.txn.serial)) else nothing_more) then λ done. over End) q exchanges exit new
          → StruckBy p false act.BatchAndTransaction was_open told raised exit exchanges new × Keeps q new
      by_open true true is same was = rolled_held is was
      by_open false false is same was = (nothing_held false act.BatchAndTransaction false q refl refl refl (was.1, refl, was.0, ap (λ (r : SessionProgress). r.txn) was.2 ∙ has.txn) was.0 was.2, keeps_as q q new was.2 refl)
      by_open true false is same was = absurd (let no : true ≡ false = same in cc)
      by_open false true is same was = absurd (let no : false ≡ true = same in cc)

module _ (p new : SessionProgress) (exchanges : List Exchange) (exit : Exit) (command : ℕ) (raised : Raised) where
  -- a session in which the number of the error stands
  abbrev struck : SessionProgress
  struck = made (tells_error raised.number) p

  strikes_held : (around : Around) (xact_abort : Bool) → Held (strikes around xact_abort command raised) p exchanges exit new
      → StruckBy p (is_caught_in around raised) (action_in around xact_abort raised) p.is_open (told_of (done_kind around) (is_caught_in around raised) (action_in around xact_abort raised) command raised) raised exit exchanges new × Keeps p new
  unfolding Held
  strikes_held around xact_abort held = by_caught (is_caught_in around raised) held
    where
      silent : HasTold p [] raised.number struck
      silent = record { tokens = sym (append-nil p.tokens); error = refl; settings = refl; txn = refl; is_open = refl; is_own = refl }

      by_caught : (caught : Bool) → Held (if caught then caught_as (action_in around xact_abort raised) raised else told_as (done_kind around) (action_in around xact_abort raised) command raised) struck exchanges exit new
          → StruckBy p caught (action_in around xact_abort raised) p.is_open (told_of (done_kind around) caught (action_in around xact_abort raised) command raised) raised exit exchanges new × Keeps p new
      by_caught true was = let end = caught_held p struck new exchanges exit [] raised silent (action_in around xact_abort raised) p.is_open was in (end.0, end.1)
      by_caught false was =
          let told : List Token = told_tokens (done_kind around) (action_in around xact_abort raised) command raised in
          let end = ended_held p (made (sends told) struck) new exchanges exit told raised (record { tokens = refl; error = refl; settings = refl; txn = refl; is_open = refl; is_own = refl }) (action_in around xact_abort raised) was in
          (end.0, end.1)

pub raises_held : (around : Around) (line : ℤ) (command : ℕ) (raised : Raised) (p new : SessionProgress) (exchanges : List Exchange) (exit : Exit) → Held (raises_at around line command raised) p exchanges exit new → Struck around p command line raised exit exchanges new × Keeps p new
unfolding raises_at Held
raises_held around line command raised p new exchanges exit held =
    let was = strikes_held p new exchanges exit command (or_full around p command line raised) around p.settings.xact_abort held in
    (record { tokens = was.0.tokens; sent = was.0.sent; strikes = (was.0.strikes, was.0.error); stays = was.0.stays }, was.1)

-- @@ROWCOUNT was set, or left
abbrev CountedBy : Bool → ℕ → Doing Exit → SessionProgress → List Exchange → Exit → SessionProgress → Type 0
CountedBy test rows next p exchanges exit new =
    (q : SessionProgress) × (q ≡ record p { row_count = q.row_count }) × Held next q exchanges exit new × (q.row_count ≡ (if test then p.row_count else min rows greatest_count))

counted_held : (form : Layer) (rows : ℕ) (next : Doing Exit) (p new : SessionProgress) (exchanges : List Exchange) (exit : Exit) → Held (counted form rows next) p exchanges exit new → CountedBy (leaves_rows form) rows next p exchanges exit new
unfolding Held
counted_held form rows next p new exchanges exit held = by_test (leaves_rows form) held
  where
    by_test : (test : Bool) → Held (if test then next else makes (tells_rows rows) next) p exchanges exit new → CountedBy test rows next p exchanges exit new
    by_test true was = (p, refl, was, refl)
    by_test false was = (made (tells_rows rows) p, refl, was, refl)

-- behind its count
pub counted_raises_held : (around : Around) (statement : Statement) (raised : Raised) (p new : SessionProgress) (exchanges : List Exchange) (exit : Exit) → Held (counted (form_of statement) 0 (raises around statement raised)) p exchanges exit new
    → Struck around p (command_of (form_of statement)) (line_of statement) raised exit exchanges new
unfolding Held
counted_raises_held around statement raised p new exchanges exit held = by_test (leaves_rows (form_of statement)) held
  where
    by_test : (test : Bool) → Held (if test then raises around statement raised else makes (tells_rows 0) (raises around statement raised)) p exchanges exit new → Struck around p (command_of (form_of statement)) (line_of statement) raised exit exchanges new
    by_test true was = (raises_held around (line_of statement) (command_of (form_of statement)) raised p new exchanges exit was).0
    by_test false was =
        let struck = (raises_held around (line_of statement) (command_of (form_of statement)) raised (made (tells_rows 0) p) new exchanges exit was).0 in
        record { tokens = struck.tokens; sent = struck.sent; strikes = struck.strikes; stays = struck.stays }

pub fails_held : (around : Around) (statement : Statement) (failure : Failure) (p new : SessionProgress) (exchanges : List Exchange) (exit : Exit) → Held (fails_for around statement failure) p exchanges exit new
    → Struck around p (command_of (form_of statement)) (line_of statement) (raised_in around.procedure (line_of statement) failure) exit exchanges new
unfolding fails_for
fails_held around statement failure p new exchanges exit held = counted_raises_held around statement (raised_in around.procedure (line_of statement) failure) p new exchanges exit held

-- ---- it succeeded

pub sets_held : (sets : List Assigned) (next : Doing Exit) (p new : SessionProgress) (exchanges : List Exchange) (exit : Exit) → Held (assigns_all sets next) p exchanges exit new
    → (q : SessionProgress) × (q ≡ record p { vars = (assigned_all sets p).vars }) × Held next q exchanges exit new
unfolding assigns_all Held
sets_held [] next p new exchanges exit held = (p, refl, held)
sets_held (one ∷ sets) next p new exchanges exit held =
    let on = sets_held sets next (made (assigns one.0 one.1) p) new exchanges exit held in (on.0, on.1, on.2)

sends_held : (tokens : List Token) (exit came : Exit) (p new : SessionProgress) (exchanges : List Exchange) → Held (sends_some tokens (over exit)) p exchanges came new
    → (exchanges ≡ []) × (came ≡ exit) × (new ≡ record p { tokens = p.tokens ++ tokens; bytes_left = new.bytes_left })
unfolding Held
sends_held [] exit came p new exchanges held = (
  held.0,
  held.1,
  held.2 ∙ ap (λ (t : List Token). record p { tokens = t }) (sym (append-nil p.tokens)) ∙ ap (λ (n : ℕ). record p { tokens = p.tokens ++ []; bytes_left = n }) (sym (ap (λ (q : SessionProgress). q.bytes_left) held.2)),
)
sends_held (token ∷ tokens) exit came p new exchanges held =
    (held.0, held.1, held.2 ∙ ap (λ (n : ℕ). record p { tokens = p.tokens ++ token ∷ tokens; bytes_left = n }) (sym (ap (λ (q : SessionProgress). q.bytes_left) held.2)))

pub succeeds_held : (statement : Statement) (effect : Effect) (exit came : Exit) (p new : SessionProgress) (exchanges : List Exchange) → Held (succeeds statement effect (over exit)) p exchanges came new
    → (exchanges ≡ []) × (came ≡ exit) × (new ≡ record (behind_effect (form_of statement) effect p) { bytes_left = new.bytes_left })
unfolding succeeds Held
succeeds_held statement effect exit came p new exchanges held =
    let sets = sets_held effect.sets _ p new exchanges came held in
    let count = counted_held (form_of statement) effect.rows _ sets.0 new exchanges came sets.2 in
    let sent = sends_held effect.tokens exit came (made (tells_error (pos 0)) count.0) new exchanges count.2 in (
      sent.0,
      sent.1,
      sent.2 ∙ ap ended count.1 ∙ ap (λ (n : ℕ). ended (record sets.0 { row_count = n })) count.3 ∙ ap (λ (s : SessionProgress). ended (record s { row_count = rows_behind (form_of statement) effect.rows s.row_count })) sets.1,
    )
  where
    ended : SessionProgress → SessionProgress
    ended s = record s { error = pos 0; tokens = s.tokens ++ effect.tokens; bytes_left = new.bytes_left }

-- ---- a statement

-- an error behind its work leaves what that has left, or its transaction was rolled back
module _ (old new : SessionProgress) (exchanges : List Exchange) (before : Stand) where
  -- a transaction that was open is rolled back
  rolled_leaves : (is_open : Bool) → is_open ≡ true → (front : List Exchange) (place : ℕ) → exchanges ≡ front ++ replied old.settings.manner ops.Rollback (replies.Ended place) ∷ [] → commits_from before front ≡ [] → new.is_open ≡ false
      → Leaves is_open new.is_open before exchanges []
  rolled_leaves false opened front place parts commits shut = absurd (let same : false ≡ true = opened in cc)
  rolled_leaves true opened front place parts commits shut =
      let last : Exchange = replied old.settings.manner ops.Rollback (replies.Ended place) in
      subst (λ (b : Bool). Leaves true b before exchanges []) (sym shut) (
        ap (progress_from before) parts ∙ from_both before front (last ∷ []),
        ap (commits_from before) parts ∙ commits_both before front (last ∷ []) ∙ ap (λ (l : List _). l ++ commits_from (progress_from before front) (last ∷ [])) commits,
      )

  -- what an open transaction commits
  open_commits : (is_open : Bool) (front : List Exchange) (planned : List Planned) → is_open ≡ true → Leaves is_open is_open before front planned → commits_from before front ≡ []
  open_commits true front planned opened leaves = leaves.2
  open_commits false front planned opened leaves = absurd (let same : false ≡ true = opened in cc)

  pub fail_as : (front back : List Exchange) (mid : SessionProgress) → IsBehind old mid → exchanges ≡ front ++ back → Leaves old.is_open old.is_open before front [] → StaysOpen mid back new → Leaves old.is_open new.is_open before exchanges []
  fail_as front back mid behind parts leaves (inl stays) =
      let whole : exchanges ≡ front = parts ∙ ap (λ (l : List Exchange). front ++ l) stays.0 ∙ append-nil front in
      subst (λ (b : Bool). Leaves old.is_open b before exchanges []) (sym (stays.1 ∙ behind.is_open)) (subst (λ (l : List Exchange). Leaves old.is_open old.is_open before l []) (sym whole) leaves)
  fail_as front back mid behind parts leaves (inr rolled) =
      let opened : old.is_open ≡ true = sym behind.is_open ∙ rolled.1 in
      let last : back ≡ replied old.settings.manner ops.Rollback (replies.Ended rolled.0.0) ∷ [] = rolled.0.1 ∙ ap (λ (s : Settings). replied s.manner ops.Rollback (replies.Ended rolled.0.0) ∷ []) behind.settings in
      rolled_leaves old.is_open opened front rolled.0.0 (parts ∙ ap (λ (l : List Exchange). front ++ l) last) (open_commits old.is_open front [] opened leaves) rolled.2

-- behind its work
module _ (around : Around) (statement : Statement) (old new : SessionProgress) (exchanges : List Exchange) (exit : Exit) (before : Stand) (agrees : Agrees old.is_open before) where
  abbrev pub Ended : Type 0
  Ended = (tokens : List Token) × (planned : List Planned) × (new.tokens ≡ old.tokens ++ tokens) × Ends around old statement exit tokens planned exchanges new × Leaves old.is_open new.is_open before exchanges planned

  -- it succeeded
  pub ok_ended : (effect : Effect) (leaves : Exit) (front back : List Exchange) (mid : SessionProgress) → exchanges ≡ front ++ back → Behind old mid → mid.vars ≡ old.vars
      → ((planned : List Planned) × DoneBy (form_of statement) around old statement leaves planned effect front × Leaves old.is_open old.is_open before front planned) → Held (succeeds statement effect (over leaves)) mid back exit new → Ended
  ok_ended effect leaves front back mid parts behind vars done rest =
      let end = succeeds_held statement effect leaves exit mid new back rest in
      let whole : exchanges ≡ front = parts ∙ ap (λ (l : List Exchange). front ++ l) end.0 ∙ append-nil front in
      let still : new.is_open ≡ old.is_open = ap (λ (q : SessionProgress). q.is_open) end.2 ∙ behind.near.is_open in (
        effect.tokens,
        done.0,
        ap (λ (q : SessionProgress). q.tokens) end.2 ∙ ap (λ (l : List Token). l ++ effect.tokens) behind.tokens,
        inl (
          effect,
          subst (λ (e : Exit). DoneBy (form_of statement) around old statement e done.0 effect exchanges) (sym end.1) (subst (λ (l : List Exchange). DoneBy (form_of statement) around old statement leaves done.0 effect l) (sym whole) done.1),
          refl,
          ap (λ (q : SessionProgress). q.row_count) end.2 ∙ ap (rows_behind (form_of statement) effect.rows) behind.rows,
          ap (λ (q : SessionProgress). q.error) end.2,
          ap (λ (q : SessionProgress). q.vars) end.2 ∙ assigned_same effect.sets old mid vars,
          subst (IsWithin old) (sym (ap (λ (q : SessionProgress). q.txn) end.2)) behind.near.within,
        ),
        subst (λ (b : Bool). Leaves old.is_open b before exchanges done.0) (sym still) (subst (λ (l : List Exchange). Leaves old.is_open old.is_open before l done.0) (sym whole) done.2),
      )

  -- it failed
  pub err_ended : (failure : Failure) (front back : List Exchange) (mid : SessionProgress) → exchanges ≡ front ++ back → Behind old mid → HasFailed around old statement front × Leaves old.is_open old.is_open before front [] → Held (fails_for around statement failure) mid back exit new → Ended
  err_ended failure front back mid parts behind failed rest =
      let struck = fails_held around statement failure mid new back exit rest in (
        struck.tokens,
        [],
        struck.sent ∙ ap (λ (l : List Token). l ++ struck.tokens) behind.tokens,
        inr (refl, (failure, front, back, mid, parts, failed.0, behind.near, struck.strikes)),
        fail_as old new exchanges before front back mid behind.near parts failed.1 struck.stays,
      )
