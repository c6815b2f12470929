-- What a statement tells behind its work; and what only reads, which leaves its transaction as it was.
use Rattle.std.proofs.Common.{◌⊎◌, inl, inr, Bool, true, false, if◌then◌else◌, is_ok, List, [], Result, Ok, Err, ap}
use Rattle.std.specs.Prelude.{nat_lt, pos}
use Rattle.tsql_tree.specs.declared.definition.TableTree.{TableTree}
use Rattle.tsql_tree.specs.declared.statement.Statement.{Statement, out-Statement}
use Rattle.bound_tree.specs.declared.write.Bound.{Bound}
use Rattle.binder.specs.Names.{form_of, looked_up}
use Rattle.step_model.specs.Exchange.{Exchange}
use Rattle.step_model.specs.Own.{Progress as Stand}
use Rattle.step_model.specs.Ranges.{no_memory}
use Rattle.statement_paths.specs.Asked.{IsFetch}
use Rattle.batch_meaning.specs.declared.failure.Failure.{Failure}
use Rattle.batch_meaning.specs.Asking.{comes_to, fails, if_bytes_left}
use Rattle.batch_meaning.specs.Doing.{Doing, over, Held}
use Rattle.batch_meaning.specs.Meaning.{concluded, concludes, line_of}
use Rattle.batch_meaning.specs.Progress.{SessionProgress, size_of}
use Rattle.batch_meaning.specs.Raised.{Around}
use Rattle.batch_meaning.specs.Selecting.{messages, raised_by, result_full}
use Rattle.batch_meaning.specs.Tokens.{command_of}
use Rattle.batch_meaning.specs.Values.{first_of, first_row, is_one, status_of}
use Rattle.batch_meaning.specs.Working.{asks_any, binds, composes, composes_bound, known_by, own, prepares, status_bound, statuses, tests, tests_bound, values_bound, within}
use Rattle.statement_paths.proofs.Only.{IsTouch, held_asks, only_bind, only_comes, only_if, only_room}
use Rattle.statement_paths.proofs.Still.{Reads}
use Rattle.statement_paths.proofs.Apart.{held_apart}
use Rattle.statement_paths.proofs.Owned.{Owned, Refused, entered, own_held}
use Rattle.statement_paths.proofs.Working.{values_read}
use Rattle.statement_paths.proofs.Cursors.{IsLookStep, Looks, looks_own, reads_look}
use Rattle.statement_paths.proofs.Works.{prepares_reads}
use Rattle.batch_laws.specs.Committing.{Agrees, Leaves}
use Rattle.batch_laws.specs.Laws.{EffectTells, ErrorStrikes, GoesBy, MessageLeaves, StatusLeaves, TestLeaves, WorkTells}
use Rattle.batch_laws.proofs.Ending.{fails_held, raises_held, succeeds_held}
use Rattle.batch_laws.proofs.Statements.{begin_refused, fetched_leaves, none_leaves}

-- ---- what is told

pub work_tells : (A : Type 0) → WorkTells A
unfolding concludes
work_tells A around statement exit go work old new exchanges held =
    let on = held_apart work (concluded around statement go) old new exchanges exit held in
    (on.front, on.back, on.mid, on.came, on.parts, on.held, by_came on.mid on.back on.came on.rest)
  where
    by_came : (mid : SessionProgress) (back : List Exchange) (result : Result A Failure) → Held (concluded around statement go result) mid back exit new → GoesBy around mid statement go exit result back new
    by_came mid back (Ok a) rest = rest
    by_came mid back (Err failure) rest = let struck = fails_held around statement failure mid new back exit rest in (struck.tokens, struck.sent, struck.strikes)

pub error_strikes : ErrorStrikes
error_strikes around statement raised exit old new exchanges held =
    let struck = (raises_held around (line_of statement) (command_of (form_of statement)) raised old new exchanges exit held).0 in (struck.tokens, struck.sent, struck.strikes)

pub effect_tells : EffectTells
effect_tells statement effect exit came old new exchanges held = let end = succeeds_held statement effect exit came old new exchanges held in
    (end.0, end.1, ap (λ (q : SessionProgress). q.tokens) end.2, ap (λ (q : SessionProgress). q.is_open) end.2, end.2)

-- ---- what only reads

pub binds_look : {A : Type 0} (around : Around) (statement : Statement) (go : List TableTree → Bound → Doing (Result A Failure)) → ((shapes : List TableTree) (of : Bound) → Looks (go shapes of)) → Looks (binds around statement go)
unfolding binds
binds_look around statement go more = only_bind IsLookStep IsFetch (prepares around statement) (λ made. go made.0 made.1) (reads_look (prepares around statement) (prepares_reads around statement)) (λ made. more made.0 made.1)

module _ {A : Type 0} (around : Around) (statement : Statement) (go : List TableTree → Bound → Doing (Result A Failure)) (more : (shapes : List TableTree) (of : Bound) → Looks (go shapes of)) (old new : SessionProgress) (exchanges : List Exchange) (came : Result A Failure) (before : Stand)
    (agrees : Agrees old.is_open before) where
  abbrev work : Doing (Result A Failure)
  work = binds around statement go

  abbrev asks_some : Bool
  asks_some = asks_any (known_by around statement) (looked_up statement)

  pub within_leaves : Held (within around statement go) old exchanges came new → Leaves old.is_open old.is_open before exchanges []
  unfolding within Held
  within_leaves held = by_room held.0 held.1
    where
      by_ways : Refused old came exchanges new ⊎ Owned asks_some old.is_open work old came exchanges new → Leaves old.is_open old.is_open before exchanges []
      by_ways (inl refused) = begin_refused old.settings.manner before exchanges old.is_open agrees refused.asks
      by_ways (inr owned) = fetched_leaves before old.settings.manner asks_some (is_ok came) old.is_open agrees exchanges owned.worked
          (held_asks IsLookStep IsFetch work (entered asks_some old.is_open old) owned.mid owned.worked came (binds_look around statement go more) owned.held) owned.around

      by_room : (enough : Bool) → Held (if enough then own asks_some work else fails no_memory) old exchanges came new → Leaves old.is_open old.is_open before exchanges []
      by_room true was = by_ways (own_held work (looks_own work (binds_look around statement go more)) old new exchanges came asks_some was)
      by_room false was = none_leaves old.is_open before exchanges agrees was.0

pub tests_read : (around : Around) (p : SessionProgress) (shapes : List TableTree) (of : Bound) → Reads (tests_bound around shapes of)
unfolding tests_bound
tests_read around p shapes of = only_bind IsTouch IsFetch (values_bound around shapes of) (λ rows. over (Ok (is_one (first_of (first_row rows))))) (values_read around p shapes of) (λ rows. tt)

pub composes_read : (around : Around) (p : SessionProgress) (statement : Statement) (shapes : List TableTree) (of : Bound) → Reads (composes_bound around statement shapes of)
unfolding composes_bound
composes_read around p statement shapes of = only_bind IsTouch IsFetch (values_bound around shapes of) _ (values_read around p shapes of) (λ rows.
    only_bind IsTouch IsFetch _ _ (only_comes IsTouch IsFetch (raised_by (form_of statement) around.procedure (pos (out-Statement statement).line) (first_row rows))) (λ raised.
    only_room IsTouch IsFetch (if_bytes_left (messages raised) (over (Ok raised))) (λ p. only_if IsTouch IsFetch (nat_lt p.bytes_left (size_of (messages raised))) (fails result_full) (over (Ok raised)) tt tt)))

pub status_read : (around : Around) (p : SessionProgress) (shapes : List TableTree) (of : Bound) → Reads (status_bound around shapes of)
unfolding status_bound
status_read around p shapes of = only_bind IsTouch IsFetch (values_bound around shapes of) (λ rows. comes_to (status_of (first_row rows))) (values_read around p shapes of) (λ rows. only_comes IsTouch IsFetch (status_of (first_row rows)))

pub test_leaves : TestLeaves
unfolding tests
test_leaves around statement old new exchanges came before agrees held = within_leaves around statement (tests_bound around) (λ shapes of. reads_look (tests_bound around shapes of) (tests_read around old shapes of)) old new exchanges came before agrees held

pub message_leaves : MessageLeaves
unfolding composes
message_leaves around statement old new exchanges came before agrees held = within_leaves around statement (composes_bound around statement) (λ shapes of. reads_look (composes_bound around statement shapes of) (composes_read around old statement shapes of)) old new exchanges came before agrees held

pub status_leaves : StatusLeaves
unfolding statuses
status_leaves around statement old new exchanges came before agrees held = within_leaves around statement (status_bound around) (λ shapes of. reads_look (status_bound around shapes of) (status_read around old shapes of)) old new exchanges came before agrees held
