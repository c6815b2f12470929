-- Statements one after another, levels, and loops.
use Rattle.std.proofs.Common.{◌≡◌, ℕ, pos, zero, suc, ◌-◌, ◌≤◌, ◌<◌, ◌&&◌, not, Bool, true, false, nat_eq, List, [], ◌∷◌, ◌++◌, append_assoc, drop, length, Option, None, Some, Result, Ok, Err, refl, sym, ap, ◌∙◌, subst, arith}
use Rattle.std.proofs.lemmas.List.{drop_all}
use Rattle.value_types.specs.declared.memory.Memory.{Memory}
use Rattle.tsql_tree.specs.declared.option.SessionOption.{SessionOption}
use Rattle.tsql_tree.specs.declared.statement.Form.{Form-F}
use Rattle.tsql_tree.specs.declared.statement.Statement.{Statement}
use Rattle.binder.specs.Names.{Layer, form_of}
use Rattle.std.specs.Result.{IsErr}
use Rattle.session_vars.specs.declared.Variable.{Variable}
use Rattle.step_model.specs.Exchange.{Exchange}
use Rattle.step_model.specs.Port.{PortPast}
use Rattle.step_model.proofs.Pasts.{goes_further}
use Rattle.batch_meaning.specs.declared.exit.Exit.{Exit}
use Rattle.batch_meaning.specs.declared.exit.Exit.TheVariants.{On, Leave, Again, Return, Raise, RaiseUp, End}
use Rattle.batch_meaning.specs.declared.raised.Raised.{Raised}
use Rattle.batch_meaning.specs.Raised.{Around}
use Rattle.batch_meaning.specs.Failures.{plain}
use Rattle.batch_meaning.specs.declared.failure.Failure.{Failure}
use Rattle.batch_meaning.specs.Selecting.{Effect, no_effect}
use Rattle.batch_meaning.specs.declared.settings.Settings.{Settings}
use Rattle.batch_meaning.specs.Settings.{set_option}
use Rattle.batch_meaning.specs.Working.{tests}
use Rattle.batch_meaning.specs.Progress.{SessionProgress, made, counts, sets, stands_with, tells_error}
use Rattle.batch_meaning.specs.Doing.{Doing, over, makes, ◌then◌, Came, Did, Leads}
use Rattle.batch_meaning.specs.Unseen.{begins_unseen, is_unseen}
use Rattle.batch_meaning.specs.Meaning.{Meaning, begun_unseen, concluded, concludes, decides, does, doomed_write, each_of, fails_for, goes_on, handled, is_refused_doomed, mean_by, mean_form, mean_of, set_by, sets_option, spends, succeeds, turned, turns, turns_again}
use Rattle.batch_meaning.proofs.Composed.{does_over, does_reads, does_makes, does_then, does_yes, does_no, leads_here, leads_then, leads_to, leads_reads, leads_makes, leads_no}
use Rattle.batch_exec.specs.Running.{IsWhile, Loops, turning}

-- ---- one after another

module _ {before now : PortPast} {whole : Doing Exit} {old mid : SessionProgress} where
  pub next_one : (one : Statement → Meaning) (rest : List Statement) (s : Statement) (others : List Statement) (around : Around) → rest ≡ s ∷ others
      → Leads before now whole old (each_of one rest around) mid → Leads before now whole old (one s around then λ exit. goes_on (each_of one others around) exit) mid
  unfolding each_of
  next_one one rest s others around is leads = rw is at leads

-- none is left
pub none_left : (l : List Statement) (i : ℕ) → length l ≤ i → drop i l ≡ []
none_left l i past = drop_all i l past

-- behind an exit that is not on
pub goes_out : {now : PortPast} (exit : Exit) (next : Doing Exit) {p : SessionProgress} → (exit ≡ On → ⊥) → Did now now (goes_on next exit) p (Ok exit) p
goes_out On next not = absurd (not refl)
goes_out Leave next not = does_over refl
goes_out Again next not = does_over refl
goes_out (Return status) next not = does_over refl
goes_out (Raise raised) next not = does_over refl
goes_out (RaiseUp raised) next not = does_over refl
goes_out End next not = does_over refl

-- no statement is left
pub each_done : {now : PortPast} (one : Statement → Meaning) (rest : List Statement) (around : Around) {p : SessionProgress} → rest ≡ [] → Did now now (each_of one rest around) p (Ok On) p
unfolding each_of
each_done one rest around none = rw none (does_over refl)

-- an exit that no CATCH takes
pub not_raised : {now : PortPast} (exit : Exit) (go : Raised → Doing Exit) {p : SessionProgress} → ((raised : Raised) → exit ≡ Raise raised → ⊥) → Did now now (handled go exit) p (Ok exit) p
not_raised On go not = does_over refl
not_raised Leave go not = does_over refl
not_raised Again go not = does_over refl
not_raised (Return status) go not = does_over refl
not_raised (Raise raised) go not = absurd (not raised refl)
not_raised (RaiseUp raised) go not = does_over refl
not_raised End go not = does_over refl

-- ---- levels

some_left : (n : ℕ) → nat_eq n 0 ≡ false → 0 < n
some_left zero none = absurd (let no : true ≡ false = none in cc)
some_left (suc n) some = omega arith

module _ {before after : PortPast} where
  -- no statement may begin
  pub spent_level : (levels : ℕ) (s : Statement) (around : Around) {p new : SessionProgress} {result : Result Exit Memory} → true ≡ nat_eq p.statements_left 0
      → Did before after (spends s around) p result new → Did before after (mean_of levels s around) p result new
  unfolding mean_of
  spent_level zero s around spent did = did
  spent_level (suc levels) s around spent did = does_reads (does_yes _ _ _ (sym spent) did)

  -- one more has begun
  pub begun_level : (levels : ℕ) (s : Statement) (around : Around) {p q new : SessionProgress} {result : Result Exit Memory} → p.statements_left ≤ levels → false ≡ nat_eq p.statements_left 0 → q ≡ made counts p
      → ((fewer : ℕ) → q.statements_left ≤ fewer → Did before after (begun_unseen (λ q. is_unseen q (form_of s)) (fails_for around s) (mean_by (λ inner at. mean_of fewer inner at) s around)) q result new) → Did before after (mean_of levels s around) p result new
  unfolding mean_of
  begun_level zero s around {p = p} below some same ran = absurd (let more : 0 < p.statements_left = some_left p.statements_left (sym some) in omega (arith, more, below))
  begun_level (suc fewer) s around {p = p} {q = q} below some same ran =
      let left : q.statements_left ≡ p.statements_left - 1 = ap (λ (x : SessionProgress). x.statements_left) same in
      does_reads (does_no _ _ _ (sym some) (does_makes same (ran fewer (omega (arith, left, below)))))

  -- it is refused, or is run by its form
  pub refused_by : (one : Statement → Meaning) (s : Statement) (around : Around) {p new : SessionProgress} {result : Result Exit Memory} → true ≡ (p.txn.doomed && is_refused_doomed (form_of s))
      → Did before after (fails_for around s (plain doomed_write)) p result new → Did before after (mean_by one s around) p result new
  unfolding mean_by
  refused_by one s around refused did = does_reads (does_yes _ _ _ (sym refused) did)

  pub formed_by : (one : Statement → Meaning) (s : Statement) (around : Around) {p new : SessionProgress} {result : Result Exit Memory} → false ≡ (p.txn.doomed && is_refused_doomed (form_of s))
      → Did before after (mean_form one around s (form_of s)) p result new → Did before after (mean_by one s around) p result new
  unfolding mean_by
  formed_by one s around refused did = does_reads (does_no _ _ _ (sym refused) did)

-- ---- loops

and_false : (b : Bool) → (b && false) ≡ false
and_false true = refl
and_false false = refl

-- a WHILE is refused by no doomed transaction, and runs by its test
while_form : (one : Statement → Meaning) (around : Around) (s body : Statement) (node : Layer) → IsWhile body node → mean_form one around s node ≡ decides around s (turns one around s body)
unfolding mean_form
while_form one around s body (Form-F.While test held) loops = ap (λ (b : Statement). decides around s (turns one around s b)) loops
while_form one around s body node loops = absurd loops

while_kept : (body : Statement) (node : Layer) → IsWhile body node → is_refused_doomed node ≡ false
while_kept body (Form-F.While test held) loops = refl
while_kept body node loops = absurd loops

-- and begins no transaction
while_seen : (body : Statement) (node : Layer) → IsWhile body node → begins_unseen node ≡ false
while_seen body (Form-F.While test held) loops = refl
while_seen body node loops = absurd loops

-- a loop that was begun again leads on, one level lower
pub again_level : {before now : PortPast} {whole : Doing Exit} {old mid q : SessionProgress} (levels : ℕ) (s body : Statement) (around : Around) → IsWhile body (form_of s) → mid.statements_left ≤ levels → false ≡ nat_eq mid.statements_left 0 → q ≡ made counts mid
    → Leads before now whole old (mean_of levels s around) mid
    → (fewer : ℕ) × (q.statements_left ≤ fewer) × Leads before now whole old (decides around s (turns (λ inner at. mean_of fewer inner at) around s body)) q
unfolding mean_of mean_by begun_unseen
again_level {mid = mid} zero s body around loops below some same leads = absurd (let more : 0 < mid.statements_left = some_left mid.statements_left (sym some) in omega (arith, more, below))
again_level {before = before} {now = now} {whole = whole} {old = old} {mid = mid} {q = q} (suc fewer) s body around loops below some same leads =
    let left : q.statements_left ≡ mid.statements_left - 1 = ap (λ (x : SessionProgress). x.statements_left) same in
    let kept : (q.txn.doomed && is_refused_doomed (form_of s)) ≡ false = ap (λ (b : Bool). q.txn.doomed && b) (while_kept body (form_of s) loops) ∙ and_false q.txn.doomed in
    let seen : is_unseen q (form_of s) ≡ false = ap (λ (b : Bool). (q.settings.implicit && not q.is_open) && b) (while_seen body (form_of s) loops) ∙ and_false (q.settings.implicit && not q.is_open) in (
      fewer,
      omega (arith, left, below),
      subst (λ (tree : Doing Exit). Leads before now whole old tree q) (while_form (λ inner at. mean_of fewer inner at) around s body (form_of s) loops)
          (leads_no _ _ _ kept (leads_reads (leads_no _ _ _ seen (leads_reads (leads_makes same (leads_no _ _ _ (sym some) (leads_reads leads))))))),
    )

-- what leads on leads on
pub leads_more : {before mid after : PortPast} {whole rest last : Doing Exit} {old p q : SessionProgress} → Leads before mid whole old rest p → Leads mid after rest p last q → Leads before after whole old last q
leads_more {before = before} {mid = mid} {after = after} {whole = whole} {old = old} first second = record {
  front = first.front ++ second.front;
  past = goes_further before mid after first.front second.front first.past second.past;
  goes = λ later result new came. subst (λ (l : List Exchange). Came whole old l result new) (sym (append_assoc first.front second.front later)) (first.goes (second.front ++ later) result new (second.goes later result new came));
}

-- what is left of a turn ends the loop, or begins it again
pub loops_behind : {before mid : PortPast} (after : PortPast) {whole rest : Doing Exit} (s body : Statement) (around : Around) {old p : SessionProgress} (new : SessionProgress) (result : Result (Option Exit) Memory) → Leads before mid whole old rest p
    → Loops mid after rest s body around p result new → Loops before after whole s body around old result new
loops_behind after s body around new (Ok (Some exit)) leads went = leads_to leads went
loops_behind after s body around new (Ok None) leads went = (went.0, went.1, leads_more leads went.2)
loops_behind after s body around new (Err memory) leads went = leads_to leads went

-- memory was wanting
pub loops_left : {before after : PortPast} {tree : Doing Exit} (s body : Statement) (around : Around) {p new : SessionProgress} {memory : Memory} (result : Result (Option Exit) Memory) → IsErr result → Did before after tree p (Err memory) new → Loops before after tree s body around p result new
loops_left s body around (Ok exit) err did = absurd (let no : false ≡ true = err in cc)
loops_left s body around (Err memory) err did = record { exchanges = did.exchanges; past = did.past; came = did.came }

-- it is left behind the turn
pub turned_out : {now : PortPast} (levels : ℕ) (s body : Statement) (around : Around) (exit out : Exit) {p : SessionProgress} → turned exit ≡ Some out → Did now now (turns_again (mean_of levels s around) (turned exit)) p (Ok out) p
turned_out levels s body around exit out is = rw is (does_over refl)

-- ---- tests

module _ {before mid : PortPast} (around : Around) (s : Statement) (go : Bool → Doing Exit) {p q : SessionProgress} where
  -- it is true, or not
  pub does_decided : {after : PortPast} (holds : Bool) {r new : SessionProgress} {result : Result Exit Memory} → Did before mid (tests around s) p (Ok (Ok holds)) q → r ≡ made (tells_error (pos 0)) q → Did mid after (go holds) r result new → Did before after (decides around s go) p result new
  unfolding decides concludes
  does_decided holds first same rest = does_then (tests around s) _ first (does_makes same rest)

  -- it failed
  pub does_undecided : {after : PortPast} (failure : Failure) {new : SessionProgress} {result : Result Exit Memory} → Did before mid (tests around s) p (Ok (Err failure)) q → Did mid after (fails_for around s failure) q result new → Did before after (decides around s go) p result new
  unfolding decides concludes
  does_undecided failure first rest = does_then (tests around s) _ first rest

  pub leads_decided : (holds : Bool) {r : SessionProgress} → Did before mid (tests around s) p (Ok (Ok holds)) q → r ≡ made (tells_error (pos 0)) q → Leads before mid (decides around s go) p (go holds) r
  unfolding decides concludes
  leads_decided holds first same = leads_makes same (leads_then (tests around s) (concluded around s (λ h. makes (tells_error (pos 0)) (go h))) leads_here first)

-- behind a statement's work
pub does_concluded : {A : Type 0} {before mid after : PortPast} (around : Around) (s : Statement) (go : A → Doing Exit) (work : Doing (Result A Failure)) {came : Result A Failure} {p q new : SessionProgress} {result : Result Exit Memory}
    → Did before mid work p (Ok came) q → Did mid after (concluded around s go came) q result new → Did before after (concludes around s go work) p result new
unfolding concludes
does_concluded around s go work first rest = does_then work _ first rest

pub does_work : {before mid after : PortPast} (around : Around) (s : Statement) (exit : Exit) (work : Doing (Result Effect Failure)) {came : Result Effect Failure} {p q new : SessionProgress} {result : Result Exit Memory}
    → Did before mid work p (Ok came) q → Did mid after (concluded around s (λ effect. succeeds s effect (over exit)) came) q result new → Did before after (does around s exit work) p result new
unfolding does concludes
does_work around s exit work first rest = does_then work _ first rest

-- behind a turn
pub leads_turned : {before mid after : PortPast} (levels : ℕ) (s body : Statement) (around : Around) {exit : Exit} {p q r : SessionProgress} → Leads before mid (turning levels s body around) p (turns (λ inner at. mean_of levels inner at) around s body true) q
    → Did mid after (mean_of levels body around) q (Ok exit) r → Leads before after (turning levels s body around) p (turns_again (mean_of levels s around) (turned exit)) r
leads_turned levels s body around leads did = leads_then (mean_of levels body around) (λ exit. turns_again (mean_of levels s around) (turned exit)) leads did

-- it is not left: the rest is the WHILE again
pub loops_again : (before after : PortPast) (levels : ℕ) (s body : Statement) (around : Around) (exit : Exit) (p : SessionProgress) (result : Result (Option Exit) Memory) (new : SessionProgress) → turned exit ≡ None
    → Loops before after (mean_of levels s around) s body around p result new → Loops before after (turns_again (mean_of levels s around) (turned exit)) s body around p result new
loops_again before after levels s body around exit p result new is went = subst (λ (t : Option Exit). Loops before after (turns_again (mean_of levels s around) t) s body around p result new) (sym is) went

-- ---- options

module _ {before after : PortPast} (around : Around) (s : Statement) (option : SessionOption) where
  pub does_set : (settings : Settings) {p q new : SessionProgress} {result : Result Exit Memory} → set_option option p.settings ≡ Ok settings → q ≡ made (sets settings) p
      → Did before after (succeeds s no_effect (over On)) q result new → Did before after (sets_option around s option) p result new
  does_set settings {p = p} {new = new} {result = result} is same did = does_reads (subst (λ (r : Result Settings Failure). Did before after (set_by around s r) p result new) (sym is) (does_makes same did))

  pub does_unset : (failure : Failure) {p new : SessionProgress} {result : Result Exit Memory} → set_option option p.settings ≡ Err failure → Did before after (fails_for around s failure) p result new → Did before after (sets_option around s option) p result new
  does_unset failure {p = p} {new = new} {result = result} is did = does_reads (subst (λ (r : Result Settings Failure). Did before after (set_by around s r) p result new) (sym is) did)

-- want of memory left it, and nothing tells which
pub left_so : {A : Type 0} {before after : PortPast} {tree : Doing A} {p new : SessionProgress} {memory : Memory} (result : Result A Memory) → IsErr result → Did before after tree p (Err memory) new → Did before after tree p result new
left_so (Ok a) err did = absurd (let no : false ≡ true = err in cc)
left_so (Err memory) err did = record { exchanges = did.exchanges; past = did.past; came = did.came }

-- ---- bodies

-- variables and settings of its own leave how many statements may begin
pub body_left : (vars : List Variable) (settings : Settings) (p q r : SessionProgress) → q ≡ made (stands_with vars) p → r ≡ made (sets settings) q → r.statements_left ≡ p.statements_left
body_left vars settings p q r one two = ap (λ (x : SessionProgress). x.statements_left) two ∙ ap (λ (x : SessionProgress). x.statements_left) one
