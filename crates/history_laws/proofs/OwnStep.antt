-- A step of a session keeps what is known of it, with the exchange more.
use Rattle.std.proofs.Common.{◌≡◌, ℕ, Bool, true, false, if◌then◌else◌, List, [], ◌∷◌, ◌++◌, map, IsTrue, refl, sym, ap, subst, ◌∙◌, append-nil}
use Rattle.std.specs.List.{AllByRecursion, AllZip}
use Rattle.value_types.specs.declared.table_name.TableName.{TableName}
use Rattle.value_types.specs.declared.value.Value.{Value}
use Rattle.step_model.specs.declared.change.Planned.{Planned}
use Rattle.step_model.specs.declared.resource.Resource.{Resource}
use Rattle.step_model.specs.declared.resource.Span.{Span}
use Rattle.step_model.specs.declared.resource.Span.TheVariants.{Statement, Transaction as Whole}
use Rattle.step_model.specs.Claims.{NoFoe}
use Rattle.step_model.specs.Database.{Database, With}
use Rattle.step_model.specs.Entries.{Entry, place_on, committed_at, pending_of, change_at}
use Rattle.step_model.specs.Exchange.{Exchange}
use Rattle.step_model.specs.Fits.{without_waits, at_of, NoneEnds, AnswersIn, FreshIn, IsCaused, numbers_of, is_ended, is_relax, is_wait, KeepsRow, WritesAt}
use Rattle.step_model.specs.Locks.{Lock}
use Rattle.step_model.specs.Log.{State}
use Rattle.step_model.specs.Moves.{without_wait, drop_wait, with_session, with_locks, add_locks}
use Rattle.step_model.specs.Own.{Progress, progress_of, last_at, change_of, progress_after}
use Rattle.step_model.specs.State.{Engine, locks_of, saved_of, has, is_open}
use Rattle.history_laws.specs.Guarded.{Guarded}
use Rattle.history_laws.specs.Knows.{Accords, Tied, FirstsFit, SameMark}
use Rattle.history_laws.specs.Relies.{Untouched, KeysOf, is_fetch}
use Rattle.history_laws.specs.Sane.{Sane}
use Rattle.history_laws.proofs.Sessions.{locks_granted}
use Rattle.history_laws.proofs.SaneMoves.{all_saved, MayKeep, sane_granted}
use Rattle.history_laws.proofs.GuardMoves.{guarded_same}
use Rattle.lock_modes.specs.declared.KeyPart.TheVariants.{U}
use Rattle.step_model.specs.declared.op.Hold.TheVariants.{Row as RowAlone, Range}
use Rattle.step_model.specs.declared.op.Op.{Op}
use Rattle.step_model.specs.declared.op.Op.TheVariants.{Begin, Fetch, Insert, Replace, Erase}
use Rattle.step_model.specs.declared.reply.Reply.{Reply}
use Rattle.step_model.specs.declared.reply.Reply.TheVariants.{Row, Gone, End as Over, Done, Exists, Missing, TimedOut, Victim, Memory}
use Rattle.history_laws.proofs.Sessions.{open_changed}
use Rattle.history_laws.proofs.OneMove.{sane_shift, frame_shift}
use Rattle.history_laws.proofs.EntryLists.{has_front}
use Rattle.std.specs.Prelude.{length}
use Rattle.history_laws.proofs.FitsGrows.{fits_more}
use Rattle.history_laws.proofs.OneMove.{Frame, tied_frame, fits_frame}
use Rattle.history_laws.proofs.OwnMore.{After, tied_more, keeps_rely}
use Rattle.history_laws.proofs.StepMoves.{Taken, nothing, a_lock, wait_shift, AllShifts, unshifted, shifted}

-- ---- more locks, and nothing else

frame_more : (session : ℕ) (old new : Engine) → new.entries ≡ old.entries → new.log ≡ old.log
    → is_open session new ≡ is_open session old → saved_of session new ≡ saved_of session old
    → ((test : Lock → Bool) (on : Resource) → has test session on old ≡ true → has test session on new ≡ true)
    → Frame session old new
frame_more session old new entries log opened saved more = record {
  opened = opened;
  saved = saved;
  pending = λ u x. ap (λ (es : List Entry). change_at (pending_of session es) u x) entries;
  committed = λ u x locked. ap (λ (es : List Entry). committed_at es u x) entries;
  guarded = λ span u x. guarded_same old new session span u x
      (ap (λ (es : List Entry). place_on es u x) entries) more;
  more = [];
  log = log ∙ sym (append-nil old.log);
  theirs = refl;
  untouched = λ span u x guarded. tt;
}

accords_frame : (session : ℕ) (old new : Engine) (steps : List Exchange) → Frame session old new → Sane new
    → Accords old session steps → Accords new session steps
accords_frame session old new steps frame sane knows = record {
  sane = sane;
  fits = fits_frame session old new knows.sane frame (without_waits steps) knows.tied knows.fits;
  tied = tied_frame session old new knows.sane frame (without_waits steps) knows.tied;
}

pub accords_calm : (session : ℕ) (old : Engine) (steps : List Exchange) → Accords old session steps
    → Accords (without_wait session old) session steps
accords_calm session old steps knows =
    accords_frame session old (without_wait session old) steps
    (frame_shift session drop_wait wait_shift session old) (sane_shift session drop_wait wait_shift old knows.sane)
    knows

-- changes of waits and marks leave what accords with any session's exchanges
pub accords_shifts : (session : ℕ) (old new : Engine) (steps : List Exchange) → AllShifts old new
    → Accords old session steps → Accords new session steps
accords_shifts session old new steps (unshifted is) knows = rw is knows
accords_shifts session old new steps (shifted who f shift rest) knows =
    accords_shifts session (with_session who f old) new steps rest
    (accords_frame session old (with_session who f old) steps (frame_shift who f shift session old)
    (sane_shift who f shift old knows.sane) knows)

pub accords_granted : (session : ℕ) (mid : Engine) (steps : List Exchange) (lock : Lock)
    → is_open session mid ≡ true → NoFoe session lock.on lock.pair mid → MayKeep mid lock
    → Accords mid session steps → Accords (with_locks session (lock ∷ []) mid) session steps
accords_granted session mid steps lock there free may knows =
    accords_frame session mid (with_locks session (lock ∷ []) mid) steps
    (frame_more session mid (with_locks session (lock ∷ []) mid) refl refl
    (open_changed session (add_locks (lock ∷ [])) (λ t. refl) mid)
    (all_saved session (add_locks (lock ∷ [])) (λ t. refl) (λ t. refl) mid session)
    (λ test on is. rw (locks_granted session (lock ∷ []) mid there)
    (has_front test on (locks_of session mid) (lock ∷ []) is)))
    (sane_granted session mid lock knows.sane there free may) knows

pub accords_taken : (session : ℕ) (mid new : Engine) (steps : List Exchange) → is_open session mid ≡ true
    → Taken session mid new → Accords mid session steps → Accords new session steps
accords_taken session mid new steps there (nothing is) knows = rw is knows
accords_taken session mid new steps there (a_lock lock free may is) knows =
    rw is (accords_granted session mid steps lock there free may knows)

-- ---- the list of exchanges, without waits

pub waits_more : (steps : List Exchange) (last : Exchange) → is_wait last.reply ≡ false
    → without_waits (steps ++ last ∷ []) ≡ without_waits steps ++ last ∷ []
waits_more [] last not_wait = rw not_wait refl
waits_more (e ∷ steps) last not_wait = by_test (is_wait e.reply) (waits_more steps last not_wait)
  where
    by_test : (b : Bool) → without_waits (steps ++ last ∷ []) ≡ without_waits steps ++ last ∷ []
        → (if b then without_waits (steps ++ last ∷ []) else e ∷ without_waits (steps ++ last ∷ []))
        ≡ (if b then without_waits steps else e ∷ without_waits steps) ++ last ∷ []
    by_test true rest = rest
    by_test false rest = ap (λ (es : List Exchange). e ∷ es) rest

waits_same : (steps : List Exchange) (last : Exchange) → is_wait last.reply ≡ true
    → without_waits (steps ++ last ∷ []) ≡ without_waits steps
waits_same [] last wait = rw wait refl
waits_same (e ∷ steps) last wait = by_test (is_wait e.reply) (waits_same steps last wait)
  where
    by_test : (b : Bool) → without_waits (steps ++ last ∷ []) ≡ without_waits steps
        → (if b then without_waits (steps ++ last ∷ []) else e ∷ without_waits (steps ++ last ∷ []))
        ≡ (if b then without_waits steps else e ∷ without_waits steps)
    by_test true rest = rest
    by_test false rest = ap (λ (es : List Exchange). e ∷ es) rest

-- ---- an exchange that ends no transaction

module _ (session : ℕ) (mid new : Engine) (steps : List Exchange) (last : Exchange)
    (knows : Accords mid session steps) (now : Sane new) where
  pub accords_more : is_wait last.reply ≡ false → is_ended last.reply ≡ false → new.log ≡ mid.log
      → AllByRecursion (λ number. number ≡ length mid.log) (numbers_of last.reply)
      → AnswersIn (With (State mid.log) (map change_of (progress_of (without_waits steps)).own)) last.op
      last.reply
      → FreshIn (With (State mid.log) (map change_of (progress_of (without_waits steps)).own)) last.op
      last.reply
      → IsCaused session last.manner.patience last.reply
      → After session mid new (without_waits steps) last knows.tied
      → ((span : Span) (t : TableName) (x : List Value) → (span ≡ Statement → is_relax last.op ≡ false)
      → Guarded span session t x mid → Guarded span session t x new)
      → ((span : Span) (t : TableName) (x : List Value) → KeysOf last.op last.reply [] span t x
      → Guarded span session t x new)
      → (IsTrue (is_fetch last.op) → (span : Span) (t : TableName) (x : List Value)
      → KeysOf last.op last.reply [] span t x → at_of last.reply ≡ length mid.log)
      → Accords new session (steps ++ last ∷ [])
  accords_more not_wait goes_on log numbered answered fresh caused after guarded relied at = record {
    sane = now;
    fits = rw (
      waits_more steps last not_wait,
      log,
    ) (fits_more session mid.log (without_waits steps) last knows.fits goes_on numbered answered fresh
        stable caused);
    tied = rw (waits_more steps last not_wait)
        (tied_more session mid new (without_waits steps) last knows.tied after log guarded relied at);
  }
    where
      stable : (before between : List Exchange) (fetch : Exchange)
          → without_waits steps ≡ before ++ fetch ∷ between → NoneEnds between
          → (t : TableName) (x : List Value) → WritesAt last.op last.reply t x
          → KeepsRow fetch.op fetch.reply between t x → Untouched mid.log (at_of fetch.reply) t x
      stable before between fetch split none t x writes keeps =
          let rely = keeps_rely fetch.op fetch.reply between t x keeps in
          knows.tied.steady before fetch between split none rely.2 rely.0 t x rely.1

-- ---- replies that stand for themselves

abbrev pub is_plain : Reply → Bool
is_plain Missing = true
is_plain (TimedOut holder holds_range asked on) = true
is_plain (Victim cycle) = true
is_plain Memory = true
is_plain reply = false

pub kept_progress : (p : Progress) → record p { own = p.own ++ [] } ≡ p
kept_progress p = ap (λ (own : List Planned). record p { own = own }) (append-nil p.own)

plain_progress : (p : Progress) (op : Op) (reply : Reply) → is_plain reply ≡ true
    → progress_after p op reply ≡ p
plain_progress p Begin Missing is = kept_progress p
plain_progress p Begin (TimedOut holder holds_range asked on) is = kept_progress p
plain_progress p Begin (Victim cycle) is = kept_progress p
plain_progress p Begin Memory is = kept_progress p
plain_progress p op Missing is = kept_progress p
plain_progress p op (TimedOut holder holds_range asked on) is = kept_progress p
plain_progress p op (Victim cycle) is = kept_progress p
plain_progress p op Memory is = kept_progress p
plain_progress p op reply is = cc

plain_answers : (db : Database) (op : Op) (reply : Reply) → is_plain reply ≡ true → AnswersIn db op reply
plain_answers db (Fetch table start stop hold part) Missing is = tt
plain_answers db (Fetch table start stop hold part) (TimedOut holder holds_range asked on) is = tt
plain_answers db (Fetch table start stop hold part) (Victim cycle) is = tt
plain_answers db (Fetch table start stop hold part) Memory is = tt
plain_answers db (Fetch table start stop hold part) reply is = cc
plain_answers db op reply is = tt

plain_fresh : (db : Database) (op : Op) (reply : Reply) → is_plain reply ≡ true → FreshIn db op reply
plain_fresh db (Insert table key row) Missing is = tt
plain_fresh db (Insert table key row) (TimedOut holder holds_range asked on) is = tt
plain_fresh db (Insert table key row) (Victim cycle) is = tt
plain_fresh db (Insert table key row) Memory is = tt
plain_fresh db (Insert table key row) reply is = cc
plain_fresh db op reply is = tt

plain_keys : (op : Op) (reply : Reply) → is_plain reply ≡ true
    → (later : List Exchange) (span : Span) (t : TableName) (x : List Value) → KeysOf op reply later span t x
    → ⊥
plain_keys op reply is later span t x keys = by_reply op reply span is keys
  where
    by_reply : (op : Op) (reply : Reply) (span : Span) → is_plain reply ≡ true → KeysOf op reply later span t x
        → ⊥
    by_reply (Fetch table start stop Range part) (Row key row at) Whole is keys = let h : false ≡ true =
        is in cc
    by_reply (Fetch table start stop Range part) (Gone key at) Whole is keys = let h : false ≡ true = is in cc
    by_reply (Fetch table start stop Range part) (Over at) Whole is keys = let h : false ≡ true = is in cc
    by_reply (Fetch table start stop RowAlone U) (Row key row at) Statement is keys = let h : false ≡ true =
        is in cc
    by_reply (Insert table key row) Done Whole is keys = let h : false ≡ true = is in cc
    by_reply (Insert table key row) Exists Whole is keys = let h : false ≡ true = is in cc
    by_reply (Replace table key row) Done Whole is keys = let h : false ≡ true = is in cc
    by_reply (Erase table key) Done Whole is keys = let h : false ≡ true = is in cc
    by_reply op reply span is keys = keys

plain_parts : (n : ℕ) (reply : Reply) → is_plain reply ≡ true
    → (is_wait reply ≡ false) × (is_ended reply ≡ false)
    × AllByRecursion (λ number. number ≡ n) (numbers_of reply)
plain_parts n Missing is = (refl, refl, tt)
plain_parts n (TimedOut holder holds_range asked on) is = (refl, refl, tt)
plain_parts n (Victim cycle) is = (refl, refl, tt)
plain_parts n Memory is = (refl, refl, tt)
plain_parts n reply is = cc

-- what stays after an exchange that changes neither the entries nor the own changes
pub after_same : (session : ℕ) (mid new : Engine) (mine : List Exchange) (last : Exchange)
    (tied : Tied mid session mine) → progress_after (progress_of mine) last.op last.reply ≡ progress_of mine
    → new.entries ≡ mid.entries → is_open session new ≡ is_open session mid
    → saved_of session new ≡ saved_of session mid → After session mid new mine last tied
after_same session mid new mine last tied same entries opened saved = record {
  is_open = opened ∙ tied.is_open ∙ ap (λ (p : Progress). p.is_open) (sym same);
  own = λ t x. ap (λ (es : List Entry). change_at (pending_of session es) t x) entries ∙ tied.own t x
      ∙ ap (λ (p : Progress). last_at p.own t x) (sym same);
  first = subst (λ (p : Progress). FirstsFit new.entries p.own) (sym same)
      (subst (λ (es : List Entry). FirstsFit es (progress_of mine).own) (sym entries) tied.first);
  marks = subst (λ (p : Progress). AllZip (SameMark new.entries) (saved_of session new) p.marks) (sym same)
      (rw (entries, saved) tied.marks);
}

pub accords_plain : (session : ℕ) (mid : Engine) (steps : List Exchange) (last : Exchange)
    → Accords mid session steps → is_plain last.reply ≡ true → IsCaused session last.manner.patience last.reply
    → Accords mid session (steps ++ last ∷ [])
accords_plain session mid steps last knows plain caused =
    let parts = plain_parts (length mid.log) last.reply plain in
    accords_more session mid mid steps last knows knows.sane parts.0 parts.1 refl parts.2
    (plain_answers (With (State mid.log) (map change_of (progress_of (without_waits steps)).own)) last.op
    last.reply plain)
    (plain_fresh (With (State mid.log) (map change_of (progress_of (without_waits steps)).own)) last.op
    last.reply plain) caused
    (after_same session mid mid (without_waits steps) last knows.tied
    (plain_progress (progress_of (without_waits steps)) last.op last.reply plain) refl refl refl)
    (λ span t x still guarded. guarded)
    (λ span t x keys. absurd (plain_keys last.op last.reply plain [] span t x keys))
    (λ fetches span t x keys. absurd (plain_keys last.op last.reply plain [] span t x keys))

pub accords_wait : (session : ℕ) (mid : Engine) (steps : List Exchange) (last : Exchange)
    → Accords mid session steps → is_wait last.reply ≡ true → Accords mid session (steps ++ last ∷ [])
accords_wait session mid steps last knows wait = record {
  sane = knows.sane;
  fits = rw (waits_same steps last wait) knows.fits;
  tied = rw (waits_same steps last wait) knows.tied;
}
