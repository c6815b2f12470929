-- What a statement does in parts: some want memory, some go through lists, some stand in a transaction.
use Rattle.std.proofs.Common.{◌≡◌, ℕ, ◌+◌, ◌<◌, ◌≤◌, inl, inr, Bool, true, false, List, ◌∷◌, drop, length, get_or, [], Option, None, Some, Result, Ok, Err, is_ok, refl, sym, ap, subst, if◌then◌else◌}
use Rattle.std.proofs.lemmas.List.{drop_all}
use Rattle.value_types.specs.declared.value.Value.{Value}
use Rattle.tsql_tree.specs.declared.definition.Definition.{Definition}
use Rattle.step_model.specs.declared.reply.Reply.TheVariants as replies
use Rattle.step_model.specs.Port.{PortPast}
use Rattle.std.specs.Result.{IsErr, IsErrAnd}
use Rattle.std.specs.declared.alloc.Global.{Global}
use Rattle.std.specs.declared.vec.Vec.{Vec}
use Rattle.dml_exec.specs.Asking.{beside, seen}
use Rattle.dml_exec.specs.declared.refusal.Level.{Level}
use Rattle.dml_exec.specs.Reading.{GivenRows, fetches_any, images_of}
use Rattle.tsql_tree.specs.declared.definition.TableTree.{TableTree}
use Rattle.bound_tree.specs.declared.write.Bound.{Bound}
use Rattle.step_model.specs.Ranges.{Rows, no_memory}
use Rattle.value_types.specs.declared.memory.Memory.{Memory}
use Rattle.batch_meaning.specs.declared.failure.Failure.{Failure}
use Rattle.batch_meaning.specs.Failures.{plain}
use Rattle.batch_meaning.specs.Progress.{SessionProgress}
use Rattle.batch_meaning.specs.Doing.{Doing, over, reads, defines, Did, Leads}
use Rattle.batch_meaning.specs.Asking.{KnownNames, on_ok, ◌>>=◌, ◌gives◌, fails_naming, finds_by, with_room, looks_up, is_table, with_found, defined_by, reads_at, touches_if, unless_stopped}
use Rattle.batch_meaning.specs.declared.home.Home.{Home}
use Rattle.batch_meaning.specs.declared.home.Home.TheVariants.{Nowhere}
use Rattle.batch_meaning.specs.Working.{enters, leaves, own}
use Rattle.batch_meaning.proofs.Composed.{does_bind, does_fail, does_over, does_reads, does_room, does_then, does_defines, leads_then, leads_to, leads_yes, leads_no}
use Rattle.statement_exec.specs.Fetched.{IsKeyDefined}
use Rattle.session_state.specs.Parts.{IsOrMemory, IsNamed}
use Rattle.statement_exec.specs.Selected.{IsDefined}
use Rattle.session_state.proofs.Stepping.{next_of}

-- a part that wants memory, and is done at once
pub does_result : {past : PortPast} {A : Type 0} (meant result : Result A Failure) {p : SessionProgress} → IsOrMemory meant result → Did past past (with_room (over meant)) p (Ok result) p
does_result {past = past} meant result {p = p} (inl same) = subst (λ r. Did past past (with_room (over meant)) p (Ok r) p) (sym same) (does_room true (does_over refl))
does_result {past = past} meant result {p = p} (inr none) = subst (λ r. Did past past (with_room (over meant)) p (Ok r) p) (sym none) (does_room false (does_over refl))

-- behind a part that failed
pub does_failed : {before mid : PortPast} {A B : Type 0} (tree : Doing (Result A Failure)) (go : A → Doing (Result B Failure)) {p q : SessionProgress} {failure : Failure}
    → Did before mid tree p (Ok (Err failure)) q → Did before mid (tree >>= go) p (Ok (Err failure)) q
does_failed tree go first = does_then tree (on_ok go) first (does_over refl)

-- what was made at once
pub does_made : {past : PortPast} {A : Type 0} {made result : A} {p : SessionProgress} → result ≡ made → Did past past (over made) p (Ok result) p
does_made {past = past} {made = made} {p = p} is = subst (λ r. Did past past (over made) p (Ok r) p) (sym is) (does_over refl)

-- behind a part that wants memory, and is done at once
pub does_on : {past after : PortPast} {A B : Type 0} (meant : Result A Failure) (go : A → Doing (Result B Failure)) {p new : SessionProgress} {a : A} {result : Result (Result B Failure) Memory}
    → IsOrMemory meant (Ok a) → Did past after (go a) p result new → Did past after (with_room (over meant) >>= go) p result new
does_on meant go is does = does_then (with_room (over meant)) (on_ok go) (does_result meant _ is) does

-- three things that are made at once, each by itself
pub first_of : {A B C : Type 0} (a : A) (b : B) (c : C) (made : A × B × C) → IsOrMemory (Ok (a, b, c)) (Ok made) → made.0 ≡ a
first_of {A = A} {B = B} {C = C} a b c made (inl same) = ap (λ (r : A × B × C). r.0) (let is : made ≡ (a, b, c) = cc in is)
first_of a b c made (inr none) = absurd cc

pub second_of : {A B C : Type 0} (a : A) (b : B) (c : C) (made : A × B × C) → IsOrMemory (Ok (a, b, c)) (Ok made) → IsOrMemory (Ok b) (Ok made.1)
second_of {A = A} {B = B} {C = C} a b c made (inl same) = inl (let is : made ≡ (a, b, c) = cc in ap (λ (r : A × B × C). Ok r.1) is)
second_of a b c made (inr none) = absurd cc

pub third_of : {A B C : Type 0} (a : A) (b : B) (c : C) (made : A × B × C) → IsOrMemory (Ok (a, b, c)) (Ok made) → IsOrMemory (Ok c) (Ok made.2)
third_of {A = A} {B = B} {C = C} a b c made (inl same) = inl (let is : made ≡ (a, b, c) = cc in ap (λ (r : A × B × C). Ok r.2) is)
third_of a b c made (inr none) = absurd cc

-- where memory was wanting for one thing, it was for another
pub wanting_of : {A B : Type 0} (a : A) (b : B) (failure : Failure) → IsOrMemory {A = A} (Ok a) (Err failure) → IsOrMemory {A = B} (Ok b) (Err failure)
wanting_of a b failure (inl same) = absurd cc
wanting_of a b failure (inr none) = inr (let is : failure ≡ plain no_memory = cc in ap Err is)

-- an error that names something, or memory was wanting for it
pub does_naming : {past : PortPast} {A : Type 0} (number : ℕ) (name : List ℕ) (failure : Failure) {p : SessionProgress} → IsNamed number name failure → Did past past (fails_naming {A = A} number name) p (Ok (Err failure)) p
does_naming {past = past} {A = A} number name failure {p = p} (inl same) = subst (λ (f : Failure). Did past past (fails_naming {A = A} number name) p (Ok (Err f)) p) (sym same) (does_room true (does_over refl))
does_naming {past = past} {A = A} number name failure {p = p} (inr none) = subst (λ (f : Failure). Did past past (fails_naming {A = A} number name) p (Ok (Err f)) p) (sym none) (does_room false (does_over refl))

-- behind a part that failed, where a list is in a vector
pub fails_seen : {before mid : PortPast} {A B : Type 0} (tree : Doing (Result A Failure)) (go : A → Doing (Result (List B) Failure)) {p q : SessionProgress} {failure : Failure} (result : Result (Vec B Global) Failure)
    → IsErr result → IsErrAnd result (λ x. x ≡ failure) → Did before mid tree p (Ok (Err failure)) q → Did before mid (tree >>= go) p (Ok (seen result)) q
fails_seen tree go (Ok v) err same first = absurd (let no : false ≡ true = err in cc)
fails_seen tree go (Err x) err same first = does_fail tree go (Err x) err same first

-- ---- parts that read how far the session has come

-- what wants memory, by the progress
pub does_read : {past : PortPast} {A : Type 0} (of : SessionProgress → Result A Failure) (result : Result A Failure) {p : SessionProgress} → IsOrMemory (of p) result → Did past past (reads λ q. with_room (over (of q))) p (Ok result) p
does_read of result {p = p} is = does_reads (does_result (of p) result is)

-- and behind it the rest
pub does_read_on : {past after : PortPast} {A B : Type 0} (of : SessionProgress → Result A Failure) (go : A → Doing (Result B Failure)) {a : A} {p new : SessionProgress} {result : Result (Result B Failure) Memory}
    → IsOrMemory (of p) (Ok a) → Did past after (go a) p result new → Did past after ((reads λ q. with_room (over (of q))) >>= go) p result new
does_read_on of go {a = a} is more = does_then (reads λ q. with_room (over (of q))) (on_ok go) (does_read of (Ok a) is) more

-- ---- what is looked up and read

-- what a row defines
pub does_defined : {past : PortPast} (entry : List Value × List Value) (result : Result (Option Definition) Failure) {p : SessionProgress} → IsDefined entry result → Did past past (with_room (defines entry (λ found. over (Ok found)))) p (Ok result) p
does_defined entry (Ok found) is = does_room true (does_defines found is (does_over refl))
does_defined {past = past} entry (Err failure) {p = p} is = subst (λ (f : Failure). Did past past (with_room (defines entry (λ found. over (Ok found)))) p (Ok (Err f)) p) (sym is) (does_room false (does_over refl))

-- the next name is looked up
pub next_name : {before now : PortPast} {whole : Doing (Result (List Definition) Failure)} {old mid : SessionProgress} (known_names : KnownNames) (names : List (List ℕ)) (i : ℕ) (name : List ℕ) (definitions : List Definition)
    → name ≡ get_or names i name → i < length names → Leads before now whole old (looks_up known_names definitions (drop i names)) mid
    → Leads before now whole old (finds_by (known_names name) name >>= λ found. if is_table found then with_room (looks_up known_names (with_found definitions found) (drop (i + 1) names)) else over (Ok definitions)) mid
unfolding looks_up
next_name known_names names i name definitions is within leads = rw (next_of names i name is within) at leads

module _ {before now : PortPast} {whole : Doing (Result (List Definition) Failure)} {old mid : SessionProgress} (known_names : KnownNames) (names : List (List ℕ)) (i : ℕ) (name : List ℕ) (definitions : List Definition)
    (is : name ≡ get_or names i name) (within : i < length names) (leads : Leads before now whole old (looks_up known_names definitions (drop i names)) mid) where
  -- it is a table's
  pub name_found : {after : PortPast} {q : SessionProgress} (found : Option Definition) → Did now after (finds_by (known_names name) name) mid (Ok (Ok found)) q → is_table found ≡ true → Leads before after whole old (with_room (looks_up known_names (with_found definitions found) (drop (i + 1) names))) q
  name_found found does table = leads_yes (is_table found) _ _ table (leads_then (finds_by (known_names name) name) (on_ok _) (next_name known_names names i name definitions is within leads) does)

  -- it is none
  pub name_last : {after : PortPast} {q : SessionProgress} (found : Option Definition) → Did now after (finds_by (known_names name) name) mid (Ok (Ok found)) q → is_table found ≡ false → Did before after whole old (Ok (Ok definitions)) q
  name_last found does table = leads_to (leads_no (is_table found) _ _ table (leads_then (finds_by (known_names name) name) (on_ok _) (next_name known_names names i name definitions is within leads) does)) (does_over refl)

-- all were
pub names_done : {now : PortPast} (known_names : KnownNames) (names : List (List ℕ)) (i : ℕ) (definitions : List Definition) {p : SessionProgress} → length names ≤ i → Did now now (looks_up known_names definitions (drop i names)) p (Ok (Ok definitions)) p
unfolding looks_up
names_done known_names names i definitions past = rw (drop_all i names past) (does_over refl)

-- what a row of `objects` adds, with its key
pub does_key : {past : PortPast} (key row : List Value) (so_far new : List Definition) (result : Result (Option (List Value)) Failure) {p : SessionProgress}
    → IsKeyDefined key row so_far result new → Did past past (defined_by so_far (replies.Row key row 0)) p (Ok (beside new result)) p
does_key {past = past} key row so_far new (Ok (Some last)) {p = p} is =
    let same : beside new (Ok (Some last)) ≡ Ok (with_found so_far is.1, Some key) = (λ i. Ok (is.3 i, Some (is.0 i))) in
    subst (λ r. Did past past (defined_by so_far (replies.Row key row 0)) p (Ok r) p) (sym same) (does_room true (does_defines is.1 is.2 (does_room true (does_over refl))))
does_key key row so_far new (Ok None) is = absurd is
does_key {past = past} key row so_far new (Err failure) {p = p} is = subst (λ (f : Failure). Did past past (defined_by so_far (replies.Row key row 0)) p (Ok (Err f)) p) (sym is) (does_room false (does_over refl))

-- the tables that are named are read
pub does_shaped : {before after : PortPast} (given : GivenRows) (level : Level) (vars : List Value) (shapes : List TableTree) (of : Bound) {p new : SessionProgress} {result : Result (Result (List Rows) Failure) Memory} → (shapes ≡ [] → ⊥)
    → Did before after (touches_if (fetches_any given of) (images_of given shapes level vars of gives unless_stopped)) p result new → Did before after (reads_at given level vars shapes of) p result new
unfolding reads_at
does_shaped given level vars [] of some did = absurd (some refl)
does_shaped given level vars (shape ∷ shapes) of some did = did

-- where none is named, nothing is
pub does_unshaped : {past : PortPast} (given : GivenRows) (level : Level) (vars : List Value) (shapes : List TableTree) (of : Bound) {p : SessionProgress} → shapes ≡ [] → Did past past (reads_at given level vars shapes of) p (Ok (Ok [])) p
unfolding reads_at
does_unshaped given level vars shapes of none = rw none (does_over refl)

-- ---- a statement's transaction

-- entered, worked in, and left
pub does_own : {before begun worked after : PortPast} {A : Type 0} (asks_any : Bool) (work : Doing (Result A Failure)) {home : Home} {came : Result A Failure} {p q r new : SessionProgress}
    → Did before begun (enters asks_any) p (Ok (Ok home)) q → Did begun worked work q (Ok came) r → Did worked after (leaves home (is_ok came)) r (Ok tt) new → Did before after (own asks_any work) p (Ok came) new
unfolding own
does_own asks_any work first second third = does_bind _ _ first (does_then _ _ second (does_then _ _ third (does_over refl)))

-- it could not be entered
pub does_own_not : {before after : PortPast} {A : Type 0} (asks_any : Bool) (work : Doing (Result A Failure)) {failure : Failure} {p new : SessionProgress} (result : Result A Failure) → IsErr result → IsErrAnd result (λ x. x ≡ failure)
    → Did before after (enters asks_any) p (Ok (Err failure)) new → Did before after (own asks_any work) p (Ok result) new
unfolding own
does_own_not asks_any work result err same first = does_fail _ _ result err same first

-- where something is asked, a transaction is open that is left then
pub left_open : (asks is_open : Bool) (home : Home) → (asks ≡ true → is_open ≡ true) → (asks ≡ false → home ≡ Nowhere) → (home ≡ Nowhere → ⊥) → is_open ≡ true
left_open true is_open home begun nowhere somewhere = begun refl
left_open false is_open home begun nowhere somewhere = absurd (somewhere (nowhere refl))
