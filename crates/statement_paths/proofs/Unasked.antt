-- Where a statement asks nothing, nothing is asked for it: outside triggers it names no table; and a write is done nowhere.
use Rattle.std.proofs.Common.{◌≡◌, ◌⊎◌, None, inl, inr, ℕ, Bool, true, false, if◌then◌else◌, List, [], ◌∷◌, ◌++◌, length, Option, Some, Result, Ok, Err, refl, sym, ap, ◌∙◌, subst, append-nil}
use Rattle.std.specs.Prelude.{not, nat_lt}
use Rattle.std.specs.Cmp.Lexicographic.{bytes_decides}
use Rattle.tsql_tree.specs.declared.definition.Definition.{Definition}
use Rattle.tsql_tree.specs.declared.definition.TableTree.{TableTree}
use Rattle.tsql_tree.specs.declared.statement.DropKind.{DropKind}
use Rattle.tsql_tree.specs.declared.statement.DropKind.TheVariants as drop
use Rattle.tsql_tree.specs.declared.statement.Form.{Form-F}
use Rattle.tsql_tree.specs.declared.statement.Statement.{Statement}
use Rattle.bound_tree.specs.declared.query.BoundQuery.{BoundQuery}
use Rattle.bound_tree.specs.declared.write.Bound.{Bound}
use Rattle.bound_tree.specs.declared.write.Bound.TheVariants as bound
use Rattle.binder.specs.Names.{Layer, form_of, in_maybe_test, in_rows, in_sets, looked_up, object_names, table_names}
use Rattle.table_names.specs.Contents.{distinct_onto, is_among}
use Rattle.table_rows.specs.Definitions.{is_objects, tables_of}
use Rattle.step_model.specs.declared.manner.Manner.{Manner}
use Rattle.step_model.specs.Exchange.{Exchange}
use Rattle.step_model.specs.Ranges.{no_memory}
use Rattle.statement_paths.specs.Asked.{AskOnly}
use Rattle.batch_meaning.specs.declared.failure.Failure.{Failure}
use Rattle.batch_meaning.specs.declared.home.Home.TheVariants.{Nowhere}
use Rattle.batch_meaning.specs.Failures.{plain}
use Rattle.batch_meaning.specs.Asking.{KnownNames, ◌>>=◌, definition_fetch, fails, finds_by, known, on_ok, comes_to, assigns_all, is_table, look_up, unless_refused, reads_images, reads_at, with_found, with_room}
use Rattle.batch_meaning.specs.Changing.{not_there}
use Rattle.batch_meaning.specs.Doing.{Doing, over, reads, asks, ◌then◌, Held}
use Rattle.batch_meaning.specs.Progress.{SessionProgress, size_of}
use Rattle.batch_meaning.specs.Raised.{Around, Fired}
use Rattle.batch_meaning.specs.Selecting.{Effect, answer_in, bound_over, made_of, result_full, result_of}
use Rattle.batch_meaning.specs.Tokens.{done_kind}
use Rattle.batch_meaning.specs.Values.{Assigned, first_row, rows_assigned, status_of}
use Rattle.batch_meaning.specs.Working.{answers, asks_any, asks_first, assigns_rows, binds, computes, enters, given_in, if_it_fits, is_of_trigger, is_read_by, known_by, known_in, leaves, own, prepares, select_bound, selects, selects_into, status_bound, statuses, table_called, values_bound, within, works, works_bound}
use Rattle.batch_meaning.specs.Writes.{Written, change_bound, drops, drops_found}
use Rattle.statement_paths.specs.Paths.{AreLookedUp, IsFoundBy, IsLookedUp, asks_for, asks_of, changes_of, is_write, work_for, work_of}
use Rattle.statement_paths.proofs.Only.{Only, held_asks, only_bind, only_comes, only_if, only_naming, only_room}
use Rattle.statement_paths.proofs.Apart.{held_apart}
use Rattle.statement_paths.proofs.Owned.{behind}
use Rattle.statement_paths.proofs.Works.{IsWorkStep}
use Rattle.statement_paths.proofs.Statements.{NoOp, prepared, prepares_silent, silent_held}

abbrev Silent : {A : Type 0} → Doing A → Type 0
Silent tree = Only IsWorkStep NoOp tree

none_asked : {A : Type 0} (tree : Doing A) (p new : SessionProgress) (exchanges : List Exchange) (a : A) → Silent tree → Held tree p exchanges a new → exchanges ≡ []
none_asked tree p new exchanges a silent held = by_asked exchanges (held_asks IsWorkStep NoOp tree p new exchanges a silent held)
  where
    by_asked : (exchanges : List Exchange) → AskOnly NoOp exchanges → exchanges ≡ []
    by_asked [] is = refl
    by_asked (x ∷ later) is = absurd is.0.0

-- ---- without tables

images_silent : (given : _) (of : Bound) → Silent (reads_images given [] of)
unfolding reads_images reads_at
images_silent given of = λ p. tt

sets_silent : {A : Type 0} (sets : List Assigned) (next : Doing A) → Silent next → Silent (assigns_all sets next)
unfolding assigns_all
sets_silent [] next more = more
sets_silent (one ∷ sets) next more = (tt, sets_silent sets next more)

rows_silent : (count : ℕ) (came : List Assigned × Option Failure) → Silent (assigns_rows count came)
rows_silent count (sets, None) = tt
rows_silent count (sets, Some failure) = sets_silent sets (over (Err failure)) tt

fits_silent : (effect : Effect) → Silent (if_it_fits effect)
unfolding if_it_fits
fits_silent effect = λ p. only_if IsWorkStep NoOp (nat_lt p.bytes_left (size_of effect.tokens)) (fails result_full) (over (Ok effect)) tt tt

module _ (around : Around) where
  answers_silent : (query : BoundQuery) → Silent (answers around [] query)
  unfolding answers
  answers_silent query = only_bind IsWorkStep NoOp (reads_images (given_in around.fired) [] (bound.Query query)) _ (images_silent (given_in around.fired) (bound.Query query)) (λ images p. only_comes IsWorkStep NoOp (answer_in around p query images))

  selects_silent : (query : BoundQuery) → Silent (selects around [] query)
  unfolding selects
  selects_silent query = only_bind IsWorkStep NoOp (answers around [] query) _ (answers_silent query)
      (λ rows. only_bind IsWorkStep NoOp (reads λ p. comes_to (result_of (done_kind around) p.settings.no_count query rows)) if_it_fits (λ p. only_comes IsWorkStep NoOp (result_of (done_kind around) p.settings.no_count query rows)) fits_silent)

  into_silent : (query : BoundQuery) (places : List ℕ) → Silent (selects_into around [] query places)
  unfolding selects_into
  into_silent query places = only_bind IsWorkStep NoOp (answers around [] query) _ (answers_silent query)
      (λ rows p. only_room IsWorkStep NoOp (assigns_rows (length rows) (rows_assigned p.vars places [] rows)) (rows_silent (length rows) (rows_assigned p.vars places [] rows)))

  select_silent : (of : Bound) → Silent (select_bound around [] of)
  select_silent (bound.Query query) = selects_silent query
  select_silent (bound.Assign query places) = into_silent query places
  select_silent bound.Plain = tt
  select_silent (bound.Write write) = tt

  values_silent : (of : Bound) → Silent (values_bound around [] of)
  values_silent (bound.Query query) = answers_silent query
  values_silent (bound.Assign query places) = tt
  values_silent bound.Plain = tt
  values_silent (bound.Write write) = tt

  computes_silent : (form : Layer) (of : Bound) → Silent (computes around form [] of)
  unfolding computes
  computes_silent form of = only_bind IsWorkStep NoOp (values_bound around [] of) _ (values_silent of) (λ rows p. only_comes IsWorkStep NoOp (made_of form p.vars (first_row rows)))

  status_silent : (of : Bound) → Silent (status_bound around [] of)
  unfolding status_bound
  status_silent of = only_bind IsWorkStep NoOp (values_bound around [] of) _ (values_silent of) (λ rows. only_comes IsWorkStep NoOp (status_of (first_row rows)))

  worked_silent : (form : Layer) (of : Bound) → Silent (works_bound around form [] of)
  worked_silent (Form-F.Select select) of = select_silent of
  worked_silent form of = computes_silent form of

  change_silent : (of : Bound) → Silent (change_bound around [] of)
  change_silent of = tt

-- ---- where nothing is looked up

-- a name that stands for no table that is known
abbrev pub NotKnown : Option (Option Definition) → Type 0
NotKnown one = (one ≡ None) ⊎ (one ≡ Some None)

module _ (known_names : KnownNames) where
  abbrev pub FirstNotKnown : List (List ℕ) → Type 0
  FirstNotKnown [] = Unit {0}
  FirstNotKnown (name ∷ names) = NotKnown (known_names name)

  -- where that is the first one, nothing is found
  found_by : (manner : Manner) (name : List ℕ) (one : Option (Option Definition)) (rest : Bool) (looked : List Exchange) (found : Option Definition) → NotKnown one → asks_first one name rest ≡ false → IsFoundBy manner one name looked found → found ≡ None
  found_by manner name None rest looked found not_known so at = by_test (is_objects name) so at
    where
      by_test : (test : Bool) → not test ≡ false → IsLookedUp manner test name looked found → found ≡ None
      by_test true so at = at.1
      by_test false so at = absurd (let no : true ≡ false = so in cc)
  found_by manner name (Some None) rest looked found not_known so at = at.1
  found_by manner name (Some (Some definition)) rest looked found (inl is) so at = absurd (let no : Some (Some definition) ≡ None = is in cc)
  found_by manner name (Some (Some definition)) rest looked found (inr is) so at = absurd (let no : Some (Some definition) ≡ Some None = is in cc)

  pub found_none : (manner : Manner) (names : List (List ℕ)) (so_far : List Definition) (looked : List Exchange) (definitions : List Definition) → FirstNotKnown names → asks_any known_names names ≡ false → AreLookedUp manner known_names so_far names looked definitions → definitions ≡ so_far
  found_none manner [] so_far looked definitions first so looks = looks.1
  found_none manner (name ∷ names) so_far looked definitions first so looks = by_rest looks.5
    where
      none : looks.0 ≡ None
      none = found_by manner name (known_names name) (asks_any known_names names) looks.1 looks.0 first so looks.4

      by_rest : ((is_table looks.0 ≡ true) × AreLookedUp manner known_names (with_found so_far looks.0) names looks.2 definitions) ⊎ ((is_table looks.0 ≡ false) × (looks.2 ≡ []) × (definitions ≡ so_far)) → definitions ≡ so_far
      by_rest (inl more) = absurd (let no : false ≡ true = sym (ap is_table none) ∙ more.0 in cc)
      by_rest (inr last) = last.2

-- outside triggers no name is known
pub outside_none : (around : Around) (statement : Statement) (names : List (List ℕ)) → around.fired ≡ None → FirstNotKnown (known_by around statement) names
outside_none around statement [] outside = tt
outside_none around statement (name ∷ names) outside = inl (ap (λ (fired : Option Fired). known_in fired (form_of statement) name) outside)

-- ---- the names of a write

-- its table is the first of them
first_stays : (first : List ℕ) (names done : List (List ℕ)) → (rest : List (List ℕ)) × (distinct_onto (first ∷ done) names ≡ first ∷ rest)
first_stays first [] done = (done, refl)
first_stays first (name ∷ names) done = by_test (is_among name (first ∷ done)) (λ more. first_stays first names more)
  where
    by_test : (test : Bool) → ((more : List (List ℕ)) → (rest : List (List ℕ)) × (distinct_onto (first ∷ more) names ≡ first ∷ rest)) → (rest : List (List ℕ)) × (distinct_onto (if test then first ∷ done else (first ∷ done) ++ name ∷ []) names ≡ first ∷ rest)
    by_test true goes = goes done
    by_test false goes = goes (done ++ name ∷ [])

abbrev written_table : Layer → List ℕ
written_table (Form-F.Insert table columns rows) = table
written_table (Form-F.Update table sets filter) = table
written_table (Form-F.Delete table filter) = table
written_table form = []

form_first : (form : Layer) → is_write form ≡ true → (rest : List (List ℕ)) × (distinct_onto [] (table_names form ++ object_names form) ≡ written_table form ∷ rest)
form_first (Form-F.Insert table columns rows) is = first_stays table (in_rows rows ++ object_names (Form-F.Insert table columns rows)) []
form_first (Form-F.Update table sets filter) is = first_stays table ((in_sets sets ++ in_maybe_test filter) ++ object_names (Form-F.Update table sets filter)) []
form_first (Form-F.Delete table filter) is = first_stays table (in_maybe_test filter ++ object_names (Form-F.Delete table filter)) []
form_first form is = absurd (let no : false ≡ true = is in cc)

-- which a trigger does not know as one of its own
unread : (form : Layer) → is_write form ≡ true → is_read_by form (written_table form) ≡ false
unread (Form-F.Insert table columns rows) is = ap not ((bytes_decides table table).1 refl)
unread (Form-F.Update table sets filter) is = ap not ((bytes_decides table table).1 refl)
unread (Form-F.Delete table filter) is = ap not ((bytes_decides table table).1 refl)
unread form is = absurd (let no : false ≡ true = is in cc)

table_unknown : (fired : Option Fired) (form : Layer) → is_write form ≡ true → NotKnown (known_in fired form (written_table form))
table_unknown None form is = inl refl
table_unknown (Some fired) form is = by_test (is_of_trigger (written_table form))
  where
    by_test : (test : Bool) → NotKnown (if test then Some (if is_read_by form (written_table form) then Some (table_called (written_table form) fired) else None) else None)
    by_test true = inr (ap (λ (b : Bool). Some (if b then Some (table_called (written_table form) fired) else None)) (unread form is))
    by_test false = inl refl

pub write_unknown : (around : Around) (statement : Statement) → is_write (form_of statement) ≡ true → FirstNotKnown (known_by around statement) (looked_up statement)
write_unknown around statement is =
    let first = form_first (form_of statement) is in
    subst (FirstNotKnown (known_by around statement)) (sym first.1) (table_unknown around.fired (form_of statement) is)

-- ---- bound statements

module _ (around : Around) (statement : Statement) (unknown : FirstNotKnown (known_by around statement) (looked_up statement)) (none : asks_any (known_by around statement) (looked_up statement) ≡ false) {A : Type 0}
    (go : List TableTree → Bound → Doing (Result A Failure)) (silent : (of : Bound) → Silent (go [] of)) where
  pub bound_silent : (p new : SessionProgress) (exchanges : List Exchange) (came : Result A Failure) → Held (binds around statement go) p exchanges came new → exchanges ≡ []
  unfolding binds Held
  bound_silent p new exchanges came held =
      let on = held_apart (prepares around statement) (on_ok (λ made. go made.0 made.1)) p new exchanges came held in
      by_made on.front on.back on.mid on.came on.parts on.held (silent_held (prepares around statement) p on.mid on.front on.came (prepares_silent around statement none) on.held) on.rest
    where
      by_made : (front back : List Exchange) (mid : SessionProgress) (made : Result (List TableTree × Bound) Failure) → exchanges ≡ front ++ back → Held (prepares around statement) p front made mid → front ≡ [] → Held (on_ok (λ made. go made.0 made.1) made) mid back came new → exchanges ≡ []
      by_made front back mid (Err failure) parts first nothing rest = parts ∙ ap (λ (l : List Exchange). l ++ back) nothing ∙ rest.0
      by_made front back mid (Ok made) parts first nothing rest =
          let is = prepared around p statement p mid front made refl first in
          let shapes : made.0 ≡ [] = ap (λ (m : List TableTree × Bound). m.0) is.2 ∙ ap tables_of (found_none (known_by around statement) p.settings.manner (looked_up statement) [] front is.0 unknown none is.3) in
          parts ∙ ap (λ (l : List Exchange). l ++ back) nothing
          ∙ none_asked (go [] made.1) mid new back came (silent made.1) (subst (λ (s : List TableTree). Held (go s made.1) mid back came new) shapes rest)

  pub own_silent : (p new : SessionProgress) (exchanges : List Exchange) (came : Result A Failure) → Held (own (asks_any (known_by around statement) (looked_up statement)) (binds around statement go)) p exchanges came new → exchanges ≡ []
  unfolding own enters leaves ◌then◌ Held
  own_silent p new exchanges came held = by_own (asks_any (known_by around statement) (looked_up statement)) none held
    where
      by_own : (test : Bool) → test ≡ false → Held (own test (binds around statement go)) p exchanges came new → exchanges ≡ []
      by_own true is was = absurd (let no : true ≡ false = is in cc)
      by_own false is was =
          let on = held_apart (binds around statement go) (behind Nowhere) p new exchanges came was in
          on.parts ∙ ap (λ (l : List Exchange). on.front ++ l) on.rest.0 ∙ append-nil on.front ∙ bound_silent p on.mid on.front on.came on.held

  pub within_silent : (p new : SessionProgress) (exchanges : List Exchange) (came : Result A Failure) → Held (within around statement go) p exchanges came new → exchanges ≡ []
  unfolding within Held
  within_silent p new exchanges came held = by_room held.0 held.1
    where
      by_room : (enough : Bool) → Held (if enough then own (asks_any (known_by around statement) (looked_up statement)) (binds around statement go) else fails no_memory) p exchanges came new → exchanges ≡ []
      by_room true was = own_silent p new exchanges came was
      by_room false was = was.0

-- a write of which nothing is looked up
pub changes_silent : (around : Around) (statement : Statement) (p new : SessionProgress) (exchanges : List Exchange) (came : Result Written Failure) → is_write (form_of statement) ≡ true → asks_any (known_by around statement) (looked_up statement) ≡ false
    → Held (changes_of around statement) p exchanges came new → exchanges ≡ []
unfolding changes_of within
changes_silent around statement p new exchanges came is none held = within_silent around statement (write_unknown around statement is) none (change_bound around) (change_silent around) p new exchanges came held

pub returns_silent : (around : Around) (statement : Statement) (p new : SessionProgress) (exchanges : List Exchange) (came : _) → around.fired ≡ None → asks_any (known_by around statement) (looked_up statement) ≡ false → Held (statuses around statement) p exchanges came new → exchanges ≡ []
unfolding statuses
returns_silent around statement p new exchanges came outside none held =
    within_silent around statement (outside_none around statement (looked_up statement) outside) none (status_bound around) (status_silent around) p new exchanges came held

-- ---- DROP

module _ (around : Around) (statement : Statement) (kind : DropKind) (name : List ℕ) (unknown : NotKnown (known_by around statement name)) (none : asks_any (known_by around statement) (name ∷ []) ≡ false) where
  abbrev Going : Option Definition → Doing (Result Effect Failure)
  Going found = (reads λ p. comes_to (bound_over [] p.vars statement)) >>= λ of. drops_found around kind name found

  going_silent : Silent (Going None)
  going_silent = only_bind IsWorkStep NoOp (reads λ p. comes_to (bound_over [] p.vars statement)) (λ of. drops_found around kind name None) (λ p. only_comes IsWorkStep NoOp (bound_over [] p.vars statement)) (λ of. by_kind kind)
    where
      by_kind : (kind : DropKind) → Silent (drops_found around kind name None)
      by_kind drop.Table = only_naming IsWorkStep NoOp Effect not_there name
      by_kind drop.Procedure = only_naming IsWorkStep NoOp Effect not_there name
      by_kind drop.Trigger = only_naming IsWorkStep NoOp Effect not_there name

  abbrev Finds : Result (Option Definition) Failure → Type 0
  Finds came = (came ≡ Ok None) ⊎ ((failure : Failure) × (came ≡ Err failure))

  finds_none : (one : Option (Option Definition)) → NotKnown one → asks_first one name false ≡ false → (p mid : SessionProgress) (front : List Exchange) (came : Result (Option Definition) Failure) → Held (finds_by one name) p front came mid → (front ≡ []) × Finds came
  unfolding look_up Held
  finds_none None unknown so p mid front came held = by_test (is_objects name) so held
    where
      by_test : (test : Bool) → not test ≡ false → Held (if test then over (Ok None) else with_room (asks (definition_fetch name) (unless_refused known))) p front came mid → (front ≡ []) × Finds came
      by_test true so was = (was.0, inl was.1)
      by_test false so was = absurd (let no : true ≡ false = so in cc)
  finds_none (Some None) unknown so p mid front came held = by_enough held.0 held.1
    where
      by_enough : (enough : Bool) → Held {A = Result (Option Definition) Failure} (if enough then over (Ok None) else fails no_memory) p front came mid → (front ≡ []) × Finds came
      by_enough true was = (was.0, inl was.1)
      by_enough false was = (was.0, inr (plain no_memory, was.1))
  finds_none (Some (Some definition)) (inl is) so p mid front came held = absurd (let no : Some (Some definition) ≡ None = is in cc)
  finds_none (Some (Some definition)) (inr is) so p mid front came held = absurd (let no : Some (Some definition) ≡ Some None = is in cc)

  abbrev Work : Doing (Result Effect Failure)
  Work = finds_by (known_by around statement name) name >>= Going

  work_none : (p new : SessionProgress) (exchanges : List Exchange) (came : Result Effect Failure) → Held Work p exchanges came new → exchanges ≡ []
  unfolding Held
  work_none p new exchanges came held =
      let on = held_apart (finds_by (known_by around statement name) name) (on_ok Going) p new exchanges came held in
      let first = finds_none (known_by around statement name) unknown none p on.mid on.front on.came on.held in
      on.parts ∙ ap (λ (l : List Exchange). l ++ on.back) first.0 ∙ by_found on.came on.mid on.back first.1 on.rest
    where
      by_found : (found : Result (Option Definition) Failure) (mid : SessionProgress) (back : List Exchange) → Finds found → Held (on_ok Going found) mid back came new → back ≡ []
      by_found found mid back (inl is) rest = none_asked (Going None) mid new back came going_silent (subst (λ (r : Result (Option Definition) Failure). Held (on_ok Going r) mid back came new) is rest)
      by_found found mid back (inr is) rest = (subst (λ (r : Result (Option Definition) Failure). Held (on_ok Going r) mid back came new) is.1 rest).0

  pub drops_silent : (p new : SessionProgress) (exchanges : List Exchange) (came : Result Effect Failure) → Held (drops around statement kind name) p exchanges came new → exchanges ≡ []
  unfolding drops own enters leaves ◌then◌ Held
  drops_silent p new exchanges came held = by_room held.0 held.1
    where
      by_own : (test : Bool) → test ≡ false → Held (own test Work) p exchanges came new → exchanges ≡ []
      by_own true is was = absurd (let no : true ≡ false = is in cc)
      by_own false is was =
          let on = held_apart Work (behind Nowhere) p new exchanges came was in
          on.parts ∙ ap (λ (l : List Exchange). on.front ++ l) on.rest.0 ∙ append-nil on.front ∙ work_none p on.mid on.front on.came on.held

      by_room : (enough : Bool) → Held (if enough then own (asks_any (known_by around statement) (name ∷ [])) Work else fails no_memory) p exchanges came new → exchanges ≡ []
      by_room true was = by_own (asks_any (known_by around statement) (name ∷ [])) none was
      by_room false was = was.0

-- ---- each statement

form_silent : (around : Around) (statement : Statement) (form : Layer) (p new : SessionProgress) (exchanges : List Exchange) (came : Result Effect Failure) → around.fired ≡ None → asks_for around statement form ≡ false → Held (work_for around statement form) p exchanges came new → exchanges ≡ []
unfolding works
form_silent around statement (Form-F.CreateTable table text) p new exchanges came outside none held = absurd (let no : true ≡ false = none in cc)
form_silent around statement (Form-F.Drop kind name) p new exchanges came outside none held =
    drops_silent around statement kind name (inl (ap (λ (fired : Option Fired). known_in fired (form_of statement) name) outside)) none p new exchanges came held
form_silent around statement form p new exchanges came outside none held =
    within_silent around statement (outside_none around statement (looked_up statement) outside) none (works_bound around (form_of statement)) (worked_silent around (form_of statement)) p new exchanges came held

pub work_silent : (around : Around) (statement : Statement) (p new : SessionProgress) (exchanges : List Exchange) (came : Result Effect Failure) → around.fired ≡ None → asks_of around statement ≡ false → Held (work_of around statement) p exchanges came new → exchanges ≡ []
work_silent around statement p new exchanges came outside none held = form_silent around statement (form_of statement) p new exchanges came outside none held
