-- A statement that names one thing, which need be no table: DROP and EXEC. The name is looked up, and the statement is bound over nothing; by
-- what was found it goes on.
use Rattle.std.proofs.Common.{◌≡◌, ℕ, List, [], ◌∷◌, Option, Result, Ok, Err, subst}
use Rattle.tsql_tree.specs.declared.definition.Definition.{Definition}
use Rattle.tsql_tree.specs.declared.statement.Argument.{Argument}
use Rattle.tsql_tree.specs.declared.statement.DropKind.{DropKind}
use Rattle.tsql_tree.specs.declared.statement.Statement.{Statement}
use Rattle.bound_tree.specs.declared.write.Bound.{Bound}
use Rattle.step_model.specs.declared.change.Planned.{Planned}
use Rattle.step_model.specs.Exchange.{Exchange}
use Rattle.statement_paths.specs.Asked.{IsFetch}
use Rattle.batch_meaning.specs.declared.failure.Failure.{Failure}
use Rattle.batch_meaning.specs.Asking.{◌>>=◌, comes_to, finds_by, with_room}
use Rattle.batch_meaning.specs.Calls.{Call, call_over, finds_call}
use Rattle.batch_meaning.specs.Doing.{Doing, reads, ◌then◌, Held, Left}
use Rattle.batch_meaning.specs.Progress.{SessionProgress}
use Rattle.batch_meaning.specs.Raised.{Around}
use Rattle.batch_meaning.specs.Selecting.{Effect, bound_over}
use Rattle.batch_meaning.specs.Working.{asks_any, known_by, own}
use Rattle.batch_meaning.specs.Writes.{drops, drops_found}
use Rattle.statement_paths.specs.Paths.{IsDrop, IsFailed, IsNamed}
use Rattle.statement_paths.proofs.Only.{IsTouch, only_bind, only_comes}
use Rattle.statement_paths.proofs.Still.{Reads, Still, still_manner}
use Rattle.statement_paths.proofs.Apart.{comes_apart}
use Rattle.statement_paths.proofs.Looking.{finds_apart, finds_read}
use Rattle.statement_paths.proofs.Working.{bind_reads, comes_on}
use Rattle.statement_paths.proofs.Failing.{bind_or, comes_or, failed_more, read_failed, reads_failed}
use Rattle.statement_paths.proofs.Works.{IsWorkStep, Works, reads_work, drop_works}
use Rattle.statement_paths.proofs.Dropping.{drop_apart, drop_failed}
use Rattle.statement_paths.proofs.Owned.{Behind}
use Rattle.statement_paths.proofs.Statements.{HasCome, WasLeft, roomed_comes, roomed_left}
use Rattle.step_model.specs.Dialog.{IsQuiet}

module _ (around : Around) (p : SessionProgress) (statement : Statement) (name : List ℕ) {A : Type 0} (go : Option Definition → Doing (Result A Failure)) (IsBy : Option Definition → A → List Exchange → Type 0)
    (works : (found : Option Definition) → Works (go found))
    (done : (found : Option Definition) (q new : SessionProgress) (exchanges : List Exchange) (a : A) → Still p q → Held (go found) q exchanges (Ok a) new → IsBy found a exchanges)
    (failed : (found : Option Definition) (q new : SessionProgress) (exchanges : List Exchange) (failure : Failure) → Still p q → Held (go found) q exchanges (Err failure) new → IsFailed p.settings.manner exchanges) where
  abbrev pub Finding : Doing (Result (Option Definition) Failure)
  Finding = finds_by (known_by around statement name) name

  abbrev pub Binding : Doing (Result Bound Failure)
  Binding = reads λ p. comes_to (bound_over [] p.vars statement)

  abbrev pub named_work : Doing (Result A Failure)
  named_work = Finding >>= λ found. Binding >>= λ of. go found

  abbrev pub IsNamedAs : A → List Exchange → Type 0
  IsNamedAs a exchanges = IsNamed around p statement name (λ found worked. IsBy found a worked) exchanges

  binding_reads : Reads Binding
  binding_reads = λ p. only_comes IsTouch IsFetch (bound_over [] p.vars statement)

  named_works : Works named_work
  named_works = only_bind IsWorkStep IsQuiet Finding (λ found. Binding >>= λ of. go found) (reads_work Finding (finds_read (known_by around statement name) name))
      (λ found. only_bind IsWorkStep IsQuiet Binding (λ of. go found) (reads_work Binding binding_reads) (λ of. works found))

  named_done : (q new : SessionProgress) (exchanges : List Exchange) (a : A) → Still p q → Held named_work q exchanges (Ok a) new → IsNamedAs a exchanges
  unfolding Held ◌then◌
  named_done q new exchanges a still held =
      bind_reads around p Finding (λ found. Binding >>= λ of. go found) q new exchanges a (finds_read (known_by around statement name) name) still held (λ looked worked found r parts first same rest.
      comes_on around p (bound_over [] r.vars statement) (λ of. go found) r new worked a rest (λ of binds last.
      record {
        found = found;
        of = of;
        looked = looked;
        worked = worked;
        parts = parts;
        looks = finds_apart p.settings.manner (known_by around statement name) name q r looked found (still_manner p q still) first;
        binds = subst (λ (s : SessionProgress). bound_over [] s.vars statement ≡ Ok of) same binds;
        works = done found r new worked a same last;
      }))

  named_failed : (q new : SessionProgress) (exchanges : List Exchange) (failure : Failure) → Still p q → Held named_work q exchanges (Err failure) new → IsFailed p.settings.manner exchanges
  unfolding Held ◌then◌
  named_failed q new exchanges failure still held =
      bind_or p Finding (λ found. Binding >>= λ of. go found) q new exchanges failure (finds_read (known_by around statement name) name) still held (λ fetches. read_failed p.settings.manner exchanges fetches) (λ looked worked found r parts first fetches same rest.
      failed_more p.settings.manner exchanges looked worked parts fetches
      (comes_or p (bound_over [] r.vars statement) (λ of. go found) r new worked failure rest (λ none. read_failed p.settings.manner worked none) (λ of binds last. failed found r new worked failure same last)))

  pub named_comes : (came : Result A Failure) (new : SessionProgress) (exchanges : List Exchange) → Held (with_room (own (asks_any (known_by around statement) (name ∷ [])) named_work)) p exchanges came new
      → HasCome p IsNamedAs (asks_any (known_by around statement) (name ∷ [])) came exchanges × Behind p new
  named_comes came new exchanges held = roomed_comes p IsNamedAs named_work named_works named_done named_failed (asks_any (known_by around statement) (name ∷ [])) came new exchanges held

  pub named_left : (new : SessionProgress) (exchanges : List Exchange) → Left (with_room (own (asks_any (known_by around statement) (name ∷ [])) named_work)) p exchanges new
      → WasLeft p IsNamedAs (asks_any (known_by around statement) (name ∷ [])) exchanges
  named_left new exchanges left = roomed_left p IsNamedAs named_work named_works named_done named_failed (asks_any (known_by around statement) (name ∷ [])) new exchanges left

-- ---- DROP

module _ (around : Around) (p : SessionProgress) (statement : Statement) (kind : DropKind) (name : List ℕ) where
  abbrev pub DropBy : Option Definition → Effect → List Exchange → Type 0
  DropBy found effect exchanges = (planned : List Planned) × IsDrop around p kind name found planned effect exchanges

  abbrev pub IsDropped : Effect → List Exchange → Type 0
  IsDropped effect exchanges = IsNamed around p statement name (λ found worked. DropBy found effect worked) exchanges

  pub drops_come : (came : Result Effect Failure) (new : SessionProgress) (exchanges : List Exchange) → Held (drops around statement kind name) p exchanges came new
      → HasCome p IsDropped (asks_any (known_by around statement) (name ∷ [])) came exchanges × Behind p new
  unfolding drops
  drops_come came new exchanges held = named_comes around p statement name (drops_found around kind name) DropBy (drop_works around p kind name) (drop_apart around p kind name) (drop_failed around p kind name) came new exchanges held

  pub drops_left : (new : SessionProgress) (exchanges : List Exchange) → Left (drops around statement kind name) p exchanges new
      → WasLeft p IsDropped (asks_any (known_by around statement) (name ∷ [])) exchanges
  unfolding drops
  drops_left new exchanges left = named_left around p statement name (drops_found around kind name) DropBy (drop_works around p kind name) (drop_apart around p kind name) (drop_failed around p kind name) new exchanges left

-- ---- EXEC, up to where its procedure runs

module _ (around : Around) (p : SessionProgress) (statement : Statement) (status : Option (List ℕ)) (name : List ℕ) (arguments : List Argument) where
  abbrev Calling : Option Definition → Doing (Result Call Failure)
  Calling found = reads λ p. comes_to (call_over around status name arguments p.vars found)

  abbrev pub CallBy : Option Definition → Call → List Exchange → Type 0
  CallBy found call exchanges = (exchanges ≡ []) × (call_over around status name arguments p.vars found ≡ Ok call)

  calling_reads : (found : Option Definition) → Reads (Calling found)
  calling_reads found = λ p. only_comes IsTouch IsFetch (call_over around status name arguments p.vars found)

  calling_apart : (found : Option Definition) (q new : SessionProgress) (exchanges : List Exchange) (call : Call) → Still p q → Held (Calling found) q exchanges (Ok call) new → CallBy found call exchanges
  unfolding Held
  calling_apart found q new exchanges call still held =
      let came = comes_apart (call_over around status name arguments q.vars found) q new exchanges call held in
      (came.0, subst (λ (s : SessionProgress). call_over around status name arguments s.vars found ≡ Ok call) still came.1)

  calling_failed : (found : Option Definition) (q new : SessionProgress) (exchanges : List Exchange) (failure : Failure) → Still p q → Held (Calling found) q exchanges (Err failure) new → IsFailed p.settings.manner exchanges
  calling_failed found q new exchanges failure still held = reads_failed p.settings.manner (Calling found) q new exchanges (Err failure) (calling_reads found) held

  abbrev pub IsCalling : Call → List Exchange → Type 0
  IsCalling call exchanges = IsNamed around p statement name (λ found worked. CallBy found call worked) exchanges

  pub calls_come : (came : Result Call Failure) (new : SessionProgress) (exchanges : List Exchange) → Held (finds_call around statement status name arguments) p exchanges came new
      → HasCome p IsCalling (asks_any (known_by around statement) (name ∷ [])) came exchanges × Behind p new
  unfolding finds_call
  calls_come came new exchanges held = named_comes around p statement name Calling CallBy (λ found. reads_work (Calling found) (calling_reads found)) calling_apart calling_failed came new exchanges held

  pub calls_left : (new : SessionProgress) (exchanges : List Exchange) → Left (finds_call around statement status name arguments) p exchanges new
      → WasLeft p IsCalling (asks_any (known_by around statement) (name ∷ [])) exchanges
  unfolding finds_call
  calls_left new exchanges left = named_left around p statement name Calling CallBy (λ found. reads_work (Calling found) (calling_reads found)) calling_apart calling_failed new exchanges left
