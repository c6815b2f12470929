-- What becomes of an error.
use Rattle.std.proofs.Common.{◌≡◌, ℕ, ℤ, Bool, true, false, List, [], ◌∷◌, Result, Ok, Err, nat_eq, refl, sym, ap, ◌∙◌, subst, if◌then◌else◌}
use Rattle.std.specs.Prelude.{IfErr, IfOk}
use Rattle.value_types.specs.declared.memory.Memory.{Memory}
use Rattle.binder.specs.Names.{Layer}
use Rattle.step_model.specs.Exchange.{IsPriority}
use Rattle.step_model.specs.Port.{PortPast}
use Rattle.txn_rules.specs.declared.savepoints.Savepoint.{Savepoint}
use Rattle.batch_meaning.specs.declared.settings.Settings.{Settings}
use Rattle.tds_tokens.specs.declared.token.Token.{Token}
use Rattle.batch_meaning.specs.declared.exit.Exit.{Exit}
use Rattle.batch_meaning.specs.declared.exit.Exit.TheVariants.{End}
use Rattle.batch_meaning.specs.declared.raised.Raised.{Raised}
use Rattle.batch_meaning.specs.Raised.{Around, action_in, is_caught_in}
use Rattle.batch_meaning.specs.Tokens.{done_kind}
use Rattle.batch_meaning.specs.Progress.{AreLive, Ready, SessionProgress, made, sends, tells_error, tells_rows}
use Rattle.batch_meaning.specs.Doing.{Did, makes, over, Doing}
use Rattle.batch_meaning.specs.Meaning.{caught_as, leaves_rows, or_full, raises_at, strikes, told_as, counted, sends_some}
use Rattle.batch_meaning.specs.Values.{Assigned}
use Rattle.session_state.specs.Parts.{assigned_all, Stepped}
use Rattle.batch_exec.specs.Running.{sent_some}
use Rattle.session_state.proofs.Stepping.{assigned_only, stepped_makes}
use Rattle.batch_meaning.proofs.Composed.{does_makes, does_out, does_over, does_reads}

-- an error is raised: this is what is told of it
pub does_raises : {before after : PortPast} (around : Around) (line : ℤ) (command : ℕ) (raised told : Raised) {p q new : SessionProgress} {result : Result Exit Memory} → told ≡ or_full around p command line raised → q ≡ made (tells_error told.number) p
    → Did before after (if is_caught_in around told then caught_as (action_in around p.settings.xact_abort told) told else told_as (done_kind around) (action_in around p.settings.xact_abort told) command told) q result new → Did before after (raises_at around line command raised) p result new
unfolding raises_at
does_raises {before = before} {after = after} around line command raised told {p = p} {new = new} {result = result} is same did =
    does_reads (subst (λ (r : Raised). Did before after (strikes around p.settings.xact_abort command r) p result new) is (does_makes same did))

-- tokens are sent, and it ends; or memory was wanting for them
pub does_refused : {past : PortPast} (tokens : List Token) {p new : SessionProgress} (result : Result Exit Memory) → IfOk result (λ exit. (exit ≡ End) × (new ≡ made (sends tokens) p)) → IfErr result (λ _. new ≡ p) → Did past past (makes (sends tokens) (over End)) p result new
does_refused {past = past} tokens {p = p} {new = new} (Ok exit) sent kept = subst (λ (e : Exit). Did past past (makes (sends tokens) (over End)) p (Ok e) new) (sym sent.0) (does_makes sent.1 (does_over refl))
does_refused tokens (Err memory) sent kept = does_out (Err memory) refl kept

-- ---- a statement that succeeded

pub stepped_counted : (form : Layer) (rows : ℕ) (next : Doing Exit) {p q new : SessionProgress} {result : Result Exit Memory} → q ≡ (if leaves_rows form then p else made (tells_rows rows) p) → Stepped next q result new → Stepped (counted form rows next) p result new
stepped_counted form rows next {p = p} {q = q} {new = new} {result = result} same was = by_form (leaves_rows form) refl
  where
    by_form : (leaves : Bool) → leaves_rows form ≡ leaves → Stepped (if leaves then next else makes (tells_rows rows) next) p result new
    by_form true is = subst (λ (x : SessionProgress). Stepped next x result new) (same ∙ ap (λ (b : Bool). if b then p else made (tells_rows rows) p) is) was
    by_form false is = stepped_makes (same ∙ ap (λ (b : Bool). if b then p else made (tells_rows rows) p) is) was

pub stepped_sends : (tokens : List Token) (next : Doing Exit) {p q new : SessionProgress} {result : Result Exit Memory} → q ≡ sent_some tokens p → Stepped next q result new → Stepped (sends_some tokens next) p result new
stepped_sends [] next {new = new} {result = result} same was = subst (λ (x : SessionProgress). Stepped next x result new) same was
stepped_sends (token ∷ tokens) next same was = stepped_makes same was

-- these are as they were
abbrev pub Stays : SessionProgress → SessionProgress → Type 0
Stays old new = (new.statements_left ≡ old.statements_left) × (new.is_open ≡ old.is_open) × (new.txn ≡ old.txn) × (new.settings ≡ old.settings)

stays_on : (p q r : SessionProgress) → Stays p q → Stays q r → Stays p r
stays_on p q r one two = (two.0 ∙ one.0, two.1 ∙ one.1, two.2 ∙ one.2, two.3 ∙ one.3)

stays_assigned : (sets : List Assigned) (p q : SessionProgress) → q ≡ assigned_all sets p → Stays p q
stays_assigned sets p q is =
    let same : q ≡ record p { vars = (assigned_all sets p).vars } = is ∙ assigned_only sets p in
    (ap (λ (x : SessionProgress). x.statements_left) same, ap (λ (x : SessionProgress). x.is_open) same, ap (λ (x : SessionProgress). x.txn) same, ap (λ (x : SessionProgress). x.settings) same)

stays_counted : (leaves : Bool) (rows : ℕ) (p : SessionProgress) → Stays p (if leaves then p else made (tells_rows rows) p)
stays_counted true rows p = (refl, refl, refl, refl)
stays_counted false rows p = (refl, refl, refl, refl)

stays_sent : (tokens : List Token) (p : SessionProgress) → Stays p (sent_some tokens p)
stays_sent [] p = (refl, refl, refl, refl)
stays_sent (token ∷ tokens) p = (refl, refl, refl, refl)

-- before its tokens are sent
pub stays_told : (sets : List Assigned) (form : Layer) (rows : ℕ) (number : ℤ) (p a b c : SessionProgress) → a ≡ assigned_all sets p → b ≡ (if leaves_rows form then a else made (tells_rows rows) a) → c ≡ made (tells_error number) b → Stays p c
stays_told sets form rows number p a b c assigned counted told =
    stays_on p a c (stays_assigned sets p a assigned) (subst (λ (x : SessionProgress). Stays a x) (sym told) (stays_on a b (made (tells_error number) b) (subst (λ (x : SessionProgress). Stays a x) (sym counted) (stays_counted (leaves_rows form) rows a)) (refl, refl, refl, refl)))

-- and behind that
pub stays_behind : (tokens : List Token) (p c d : SessionProgress) → Stays p c → d ≡ sent_some tokens c → Stays p d
stays_behind tokens p c d stays sent = stays_on p c d stays (subst (λ (x : SessionProgress). Stays c x) (sym sent) (stays_sent tokens c))

pub stays_kept : (p c d : SessionProgress) → Stays p c → d ≡ c → Stays p d
stays_kept p c d stays kept = subst (λ (x : SessionProgress). Stays p x) (sym kept) stays

-- ---- an error that is caught

-- the session is ready as before
pub ready_caught : {past : PortPast} (number : ℤ) (p q r : SessionProgress) → Ready p past → q ≡ made (tells_error number) p → r.is_open ≡ q.is_open → r.txn.saves ≡ q.txn.saves → r.txn.count ≡ q.txn.count → r.settings ≡ q.settings → Ready r past
ready_caught {past = past} number p q r ready told opened saves count settings =
    let same_open : r.is_open ≡ p.is_open = opened ∙ ap (λ (x : SessionProgress). x.is_open) told in
    let same_saves : r.txn.saves ≡ p.txn.saves = saves ∙ ap (λ (x : SessionProgress). x.txn.saves) told in
    let same_count : r.txn.count ≡ p.txn.count = count ∙ ap (λ (x : SessionProgress). x.txn.count) told in
    let same_settings : r.settings ≡ p.settings = settings ∙ ap (λ (x : SessionProgress). x.settings) told in
    record {
      agree = same_open ∙ ready.agree;
      live = subst (λ (points : List Savepoint). AreLive points past.standing.marks) (sym same_saves) ready.live;
      priority = subst (λ (s : Settings). IsPriority s.manner.priority) (sym same_settings) ready.priority;
      counted = λ is. same_open ∙ ready.counted (sym (ap (λ (n : ℕ). nat_eq n 0) same_count) ∙ is);
      idle = λ is. same_saves ∙ ready.idle (sym (ap (λ (n : ℕ). nat_eq n 0) same_count) ∙ is);
    }

-- ---- what tells an error, and no more

pub ready_told : {past : PortPast} (number : ℤ) (p q : SessionProgress) → Ready p past → q ≡ made (tells_error number) p → Ready q past
ready_told {past = past} number p q ready told = subst (λ (x : SessionProgress). Ready x past) (sym told) (record { agree = ready.agree; live = ready.live; priority = ready.priority; counted = ready.counted; idle = ready.idle })

-- where what it stands on is the same
pub ready_same : {past : PortPast} (p r : SessionProgress) → Ready p past → r.is_open ≡ p.is_open → r.txn.saves ≡ p.txn.saves → r.txn.count ≡ p.txn.count → r.settings ≡ p.settings → Ready r past
ready_same {past = past} p r ready same_open same_saves same_count same_settings = record {
  agree = same_open ∙ ready.agree;
  live = subst (λ (points : List Savepoint). AreLive points past.standing.marks) (sym same_saves) ready.live;
  priority = subst (λ (s : Settings). IsPriority s.manner.priority) (sym same_settings) ready.priority;
  counted = λ is. same_open ∙ ready.counted (sym (ap (λ (n : ℕ). nat_eq n 0) same_count) ∙ is);
  idle = λ is. same_saves ∙ ready.idle (sym (ap (λ (n : ℕ). nat_eq n 0) same_count) ∙ is);
}
