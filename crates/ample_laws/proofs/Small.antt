-- 49002 is looked for, where no result is more than its limit. One run is followed to its end: where it is looked whether tokens may be sent, it goes on with as many bytes left as
-- they have; where a SELECT begins, its rows are those by which the run goes on. A tree is fine if, whatever comes behind it that leads to the end, it does, too.
use Rattle.std.proofs.Common.{◌≡◌, ◌⊎◌, inl, inr, refl, sym, ap, ◌∙◌, subst, ℕ, ◌+◌, ◌≤◌, ◌<◌, ℤ, pos, Bool, true, false, List, [], ◌∷◌, ◌++◌, length, Option, None, Some, Result, Ok, Err, append-nil, append_assoc, arith, le-leb, ltb-true, is_ok}
use Rattle.std.specs.List.{AllByRecursion}
use Rattle.std.specs.Ordering.{int_eq}
use Rattle.std.specs.Prelude.{nat_le, nat_lt}
use Rattle.std.proofs.lemmas.Bool.Decides.{Decides-int_eq}
use Rattle.std.proofs.Math.Path.{fun_ext}
use Rattle.tsql_tree.specs.declared.definition.Definition.{Definition}
use Rattle.tsql_tree.specs.declared.definition.TableTree.{TableTree}
use Rattle.value_types.specs.declared.value.Value.{Value}
use Rattle.bound_tree.specs.declared.query.BoundQuery.{BoundQuery}
use Rattle.bound_tree.specs.declared.write.Bound.{Bound}
use Rattle.bound_tree.specs.declared.write.Bound.TheVariants as bound
use Rattle.step_model.specs.Dialog as said
use Rattle.step_model.specs.Dialog.{Dialog}
use Rattle.step_model.specs.Exchange.{Exchange}
use Rattle.step_model.specs.Ranges.{Rows}
use Rattle.step_model.specs.declared.op.Op.{Op}
use Rattle.step_model.specs.declared.reply.Reply.{Reply}
use Rattle.tds_tokens.specs.declared.token.Token.{Token}
use Rattle.tds_tokens.specs.declared.token.Token.TheVariants.{Error}
use Rattle.dml_exec.specs.Reading.{GivenRows, fetches_any, images_of}
use Rattle.dml_exec.specs.declared.refusal.Level.{Level}
use Rattle.dml_exec.specs.declared.refusal.Refusal.{Refusal}
use Rattle.dml_exec.specs.declared.refusal.Refusal.TheVariants as refusal
use Rattle.batch_meaning.specs.Asking.{comes_to, number_of, on_ok, reads_at, reads_images, touches_if, unless_stopped, ◌gives◌}
use Rattle.batch_meaning.specs.Doing.{Doing, Held, over, reads, makes, defines, asks, room, never, ◌then◌}
use Rattle.batch_meaning.specs.Meaning.{batch, ends, mean_of, runs_text, vars_in_text}
use Rattle.batch_meaning.specs.Progress.{SessionProgress, SessionStep, asked, begins, counts, made, sends, size_of, statement_limit}
use Rattle.batch_meaning.specs.Raised.{Around}
use Rattle.batch_meaning.specs.Rpc.{ReadsFor, ends_rpc, rpc, rpc_vars, runs_rpc}
use Rattle.batch_meaning.specs.Selecting.{Effect, answer_in}
use Rattle.batch_meaning.specs.Statements.{ReadsAs}
use Rattle.batch_meaning.specs.Working.{answers, given_in, selects}
use Rattle.batch_meaning.specs.declared.form.ReadText.{ReadText}
use Rattle.batch_meaning.specs.declared.errand.Errand.{Errand}
use Rattle.batch_meaning.specs.declared.exit.Exit.{Exit}
use Rattle.batch_meaning.specs.declared.exit.Exit.TheVariants.{Raise, RaiseUp}
use Rattle.batch_meaning.specs.declared.failure.Failure.{Failure}
use Rattle.batch_meaning.specs.declared.raised.Raised.{Raised}
use Rattle.statement_paths.proofs.Apart.{held_apart}
use Rattle.statement_paths.proofs.Still.{reads_still}
use Rattle.statement_paths.proofs.Working.{answers_read}
use Rattle.cause_laws.proofs.Usual.{differs, no_filling}
use Rattle.cause_laws.proofs.UsualValues.{Anything, UsualOr, answer_usual, read_usual}
use Rattle.cause_laws.proofs.Watch.{CaughtBy, LeavesBy, StepSo, TellsSo, Watch, sends_rows}
use Rattle.cause_laws.proofs.Clean.{CleanAt, all_both, clean_fine}
use Rattle.cause_laws.proofs.Causes.{called_usual, clean_batch, clean_mean, clean_whole_call}
use Rattle.ample_laws.specs.Laws.{CountsBytes, SmallBatches, SmallCalls, SmallIsHeld, SmallStatements}
use Rattle.ample_laws.specs.Small.{Small, most_rows}
use Rattle.ample_laws.specs.Telling.{CaughtOnly, ErrorIs, IsNotPast, LeavesOnly, TellsOnly}

-- ---- numbers

pub same_le : (n : ℕ) → n ≤ n
same_le n = omega arith

pub more_le : (n m : ℕ) → n ≤ n + m
more_le n m = omega arith

-- so many are not fewer
pub not_fewer : (bytes size : ℕ) → size ≤ bytes → nat_lt bytes size ≡ false
not_fewer bytes size fits = by_test (nat_lt bytes size) refl
  where
    by_test : (b : Bool) → nat_lt bytes size ≡ b → b ≡ false
    by_test true is = absurd (let less : bytes < size = ltb-true bytes size is in omega (arith, fits, less))
    by_test false is = refl

pub enough : (left size : ℕ) → nat_lt (left + size) size ≡ false
enough left size = not_fewer (left + size) size (omega arith)

is_past : (number : ℤ) → IsNotPast number ⊎ (number ≡ pos 49002)
is_past number = by_test (int_eq number (pos 49002)) refl
  where
    by_test : (b : Bool) → int_eq number (pos 49002) ≡ b → IsNotPast number ⊎ (number ≡ pos 49002)
    by_test true is = inr ((Decides-int_eq number (pos 49002)).0 is)
    by_test false is = inl (differs number (pos 49002) is)

-- ---- trees

then_over : {A : Type 0} (tree : Doing A) → (tree then λ a. over a) ≡ tree
unfolding ◌then◌
then_over (over a) = refl
then_over (reads look) = ap reads (fun_ext (λ p. then_over (look p)))
then_over (makes step next) = ap (makes step) (then_over next)
then_over (defines entry go) = ap (defines entry) (fun_ext (λ found. then_over (go found)))
then_over (asks op go) = ap (asks op) (fun_ext (λ reply. then_over (go reply)))
then_over (room go) = ap room (fun_ext (λ enough. then_over (go enough)))
then_over never = refl

then_assoc : {A B C : Type 0} (tree : Doing A) (f : A → Doing B) (g : B → Doing C) → ((tree then f) then g) ≡ (tree then λ a. f a then g)
unfolding ◌then◌
then_assoc (over a) f g = refl
then_assoc (reads look) f g = ap reads (fun_ext (λ p. then_assoc (look p) f g))
then_assoc (makes step next) f g = ap (makes step) (then_assoc next f g)
then_assoc (defines entry go) f g = ap (defines entry) (fun_ext (λ found. then_assoc (go found) f g))
then_assoc (asks op go) f g = ap (asks op) (fun_ext (λ reply. then_assoc (go reply) f g))
then_assoc (room go) f g = ap room (fun_ext (λ enough. then_assoc (go enough) f g))
then_assoc never f g = refl

-- ---- what was done

small_held : {A : Type 0} (tree : Doing A) (p new : SessionProgress) (exchanges : List Exchange) (a : A) → Small tree p exchanges a new → Held tree p exchanges a new
unfolding Small Held
small_held (over c) p new exchanges a small = small
small_held (reads look) p new exchanges a small = small_held (look p) p new exchanges a (small.1 p.bytes_left (same_le p.bytes_left))
small_held (makes step next) p new exchanges a small = small_held next (made step p) new exchanges a small
small_held (defines entry go) p new exchanges a small = (small.0, small.1, small_held (go small.0) p new exchanges a small.2)
small_held (asks op go) p new [] a small = absurd small
small_held (asks op go) p new (x ∷ later) a small = (small.0, small.1, small.2, small_held (go x.reply) (asked op x.reply p) new later a small.3)
small_held (room go) p new exchanges a small = (small.0, small_held (go small.0) p new exchanges a small.1)
small_held never p new exchanges a small = absurd small

-- the first of two trees was held, and what is left was done so
record Front {A R : Type 0} (tree : Doing A) (go : A → Doing R) (p new : SessionProgress) (exchanges : List Exchange) (r : R) : Type 0 where
  pub front : List Exchange
  pub back : List Exchange
  pub came : A
  pub mid : SessionProgress
  pub parts : exchanges ≡ front ++ back
  pub held : Held tree p front came mid
  pub rest : Small (go came) mid back r new

small_front : {A R : Type 0} (tree : Doing A) (go : A → Doing R) (p new : SessionProgress) (exchanges : List Exchange) (r : R) → Small (tree then go) p exchanges r new → Front tree go p new exchanges r
unfolding Small Held ◌then◌
small_front (over c) go p new exchanges r small = record { front = []; back = exchanges; came = c; mid = p; parts = refl; held = (refl, refl, refl); rest = small }
small_front (reads look) go p new exchanges r small =
    let on = small_front (look p) go p new exchanges r (small.1 p.bytes_left (same_le p.bytes_left)) in record { front = on.front; back = on.back; came = on.came; mid = on.mid; parts = on.parts; held = on.held; rest = on.rest }
small_front (makes step next) go p new exchanges r small =
    let on = small_front next go (made step p) new exchanges r small in record { front = on.front; back = on.back; came = on.came; mid = on.mid; parts = on.parts; held = on.held; rest = on.rest }
small_front (defines entry next) go p new exchanges r small =
    let on = small_front (next small.0) go p new exchanges r small.2 in record { front = on.front; back = on.back; came = on.came; mid = on.mid; parts = on.parts; held = (small.0, small.1, on.held); rest = on.rest }
small_front (asks op next) go p new [] r small = absurd small
small_front (asks op next) go p new (x ∷ later) r small =
    let on = small_front (next x.reply) go (asked op x.reply p) new later r small.3 in
    record { front = x ∷ on.front; back = on.back; came = on.came; mid = on.mid; parts = ap (λ (l : List Exchange). x ∷ l) on.parts; held = (small.0, small.1, small.2, on.held); rest = on.rest }
small_front (room next) go p new exchanges r small =
    let on = small_front (next small.0) go p new exchanges r small.1 in record { front = on.front; back = on.back; came = on.came; mid = on.mid; parts = on.parts; held = (small.0, on.held); rest = on.rest }
small_front never go p new exchanges r small = absurd small

-- ---- by which numbers a query is not answered

-- it failed, and not by 49002
abbrev FailedOtherwise : {A : Type 0} → Result A Failure → Type 0
FailedOtherwise (Ok a) = Unit {0}
FailedOtherwise (Err failure) = IsNotPast failure.number

refused_otherwise : (why : Refusal) → IsNotPast (pos (number_of why))
refused_otherwise refusal.Victim = differs (pos 1205) (pos 49002) refl
refused_otherwise refusal.TimedOut = differs (pos 1222) (pos 49002) refl
refused_otherwise refusal.Limit = differs (pos 49003) (pos 49002) refl
refused_otherwise refusal.Memory = differs (pos 701) (pos 49002) refl

stopped_otherwise : {A : Type 0} (dialog : Dialog (Result A Refusal)) (p new : SessionProgress) (exchanges : List Exchange) (came : Result A Failure) → Held (dialog gives unless_stopped) p exchanges came new → FailedOtherwise came
unfolding Held ◌gives◌
stopped_otherwise (said.over (Ok a)) p new exchanges came held = subst FailedOtherwise (sym held.1) tt
stopped_otherwise (said.over (Err why)) p new exchanges came held = subst FailedOtherwise (sym held.1) (refused_otherwise why)
stopped_otherwise (said.asks op quiet go) p new [] came held = absurd held
stopped_otherwise (said.asks op quiet go) p new (x ∷ later) came held = stopped_otherwise (go x.reply) (asked op x.reply p) new later came held.3
stopped_otherwise (said.room go) p new exchanges came held = stopped_otherwise (go held.0) p new exchanges came held.1
stopped_otherwise said.never p new exchanges came held = absurd held

read_otherwise : (given : GivenRows) (level : Level) (vars : List Value) (shapes : List TableTree) (of : Bound) (p new : SessionProgress) (exchanges : List Exchange) (came : Result (List Rows) Failure)
    → Held (reads_at given level vars shapes of) p exchanges came new → FailedOtherwise came
unfolding reads_at Held
read_otherwise given level vars [] of p new exchanges came held = subst FailedOtherwise (sym held.1) tt
read_otherwise given level vars (shape ∷ shapes) of p new exchanges came held = by_touch (fetches_any given of) held
  where
    by_touch : (b : Bool) → Held (touches_if b (images_of given (shape ∷ shapes) level vars of gives unless_stopped)) p exchanges came new → FailedOtherwise came
    by_touch true is = stopped_otherwise (images_of given (shape ∷ shapes) level vars of) _ new exchanges came is
    by_touch false is = stopped_otherwise (images_of given (shape ∷ shapes) level vars of) p new exchanges came is

answered_otherwise : (around : Around) (shapes : List TableTree) (query : BoundQuery) (p new : SessionProgress) (exchanges : List Exchange) (failure : Failure)
    → Held (answers around shapes query) p exchanges (Err failure) new → IsNotPast failure.number
unfolding answers reads_images Held
answered_otherwise around shapes query p new exchanges failure held =
    let on = held_apart (reads_images (given_in around.fired) shapes (bound.Query query)) (on_ok λ images. reads λ q. comes_to (answer_in around q query images)) p new exchanges (Err failure) held in
    by_came on.came on.mid on.front on.back on.held on.rest
  where
    by_answer : (came : Result Rows Failure) → UsualOr Anything came → Err failure ≡ came → IsNotPast failure.number
    by_answer (Ok rows) usual is = absurd (let no : false ≡ true = ap (λ (came : Result Rows Failure). is_ok came) is in cc)
    by_answer (Err why) usual is = subst FailedOtherwise (sym is) (no_filling why.number usual)

    by_came : (came : Result (List Rows) Failure) (mid : SessionProgress) (front back : List Exchange) → Held (reads_images (given_in around.fired) shapes (bound.Query query)) p front came mid
        → Held (on_ok (λ images. reads λ q. comes_to (answer_in around q query images)) came) mid back (Err failure) new → IsNotPast failure.number
    by_came (Err why) mid front back first rest = subst FailedOtherwise (sym rest.1) (read_otherwise (given_in around.fired) p.settings.level _ shapes (bound.Query query) p mid front (Err why) first)
    by_came (Ok images) mid front back first (true, rest) = by_answer (answer_in around mid query images) (answer_usual around mid query images) rest.1
    by_came (Ok images) mid front back first (false, rest) = subst (FailedOtherwise {A = Rows}) (sym rest.1) (differs (pos 701) (pos 49002) refl)

-- ---- one run

-- From a moment to its end, which came to this result; and what is to be said of the whole of it.
module _ {R : Type 0} (Whole : Type 0) (old : SessionProgress) (last : R) (new : SessionProgress) where
  -- nothing that was sent up to a moment tells 49002
  abbrev SoFar : SessionProgress → Type 0
  SoFar p = (sent : List Token) × (p.tokens ≡ old.tokens ++ sent) × TellsOnly IsNotPast sent

  -- where the run goes on with this tree, and nothing so far tells it, that can be said
  abbrev Leads : Doing R → Type 0
  Leads tree = (p : SessionProgress) (exchanges : List Exchange) → SoFar p → Small tree p exchanges last new → Whole

  -- so it is of a tree, where all that may come behind it leads there
  abbrev FineSo : {A : Type 0} → (A → Type 0) → Doing A → Type 0
  FineSo {A} P tree = (go : A → Doing R) → ((a : A) → P a → Leads (go a)) → Leads (tree then go)

  -- the run is at a place of a tree
  record Reached {A : Type 0} (P : A → Type 0) (p : SessionProgress) (look : SessionProgress → Doing A) : Type 0 where
    pub go : A → Doing R
    pub goes : (a : A) → P a → Leads (go a)
    pub exchanges : List Exchange
    pub so_far : SoFar p
    pub small : Small (reads λ q. look q then go) p exchanges last new

  -- a number is another, or that can be said without it
  abbrev Other : ℤ → Type 0
  Other number = number ≡ pos 49002 → Whole

  other_than : (number : ℤ) → int_eq number (pos 49002) ≡ false → Other number
  other_than number test is = absurd (differs number (pos 49002) test is)

  -- ---- tokens

  tells_or : (Goes : ℕ → Type 0) (tokens : List Token) → AllByRecursion (TellsSo Other Goes) tokens → TellsOnly IsNotPast tokens ⊎ Whole
  tells_or Goes [] all = inl tt
  tells_or Goes (token ∷ tokens) all = by_both (by_token token all.0) (tells_or Goes tokens all.1)
    where
      by_number : (number : ℤ) → Other number → IsNotPast number ⊎ (number ≡ pos 49002) → IsNotPast number ⊎ Whole
      by_number number other (inl not) = inl not
      by_number number other (inr is) = inr (other is)

      by_token : (token : Token) → TellsSo Other Goes token → ErrorIs IsNotPast token ⊎ Whole
      by_token (Error told) other = by_number told.number other (is_past told.number)
      by_token token other = inl tt

      by_both : ErrorIs IsNotPast token ⊎ Whole → TellsOnly IsNotPast tokens ⊎ Whole → TellsOnly IsNotPast (token ∷ tokens) ⊎ Whole
      by_both (inl one) (inl more) = inl (one, more)
      by_both (inl one) (inr whole) = inr whole
      by_both (inr whole) more = inr whole

  step_so_far : (Goes : ℕ → Type 0) (step : SessionStep) (p : SessionProgress) → StepSo Other Goes step → SoFar p → SoFar (made step p) ⊎ Whole
  step_so_far Goes (sends tokens) p so so_far = by_tokens (tells_or Goes tokens so)
    where
      by_tokens : TellsOnly IsNotPast tokens ⊎ Whole → SoFar (made (sends tokens) p) ⊎ Whole
      by_tokens (inl only) = inl (so_far.0 ++ tokens, ap (λ (l : List Token). l ++ tokens) so_far.1 ∙ append_assoc old.tokens so_far.0 tokens, all_both (ErrorIs IsNotPast) so_far.0 tokens so_far.2 only)
      by_tokens (inr whole) = inr whole
  step_so_far Goes (begins vars) p so so_far = absurd so
  step_so_far Goes step p so so_far = inl so_far

  -- ---- trees

  over_fine : {A : Type 0} (P : A → Type 0) (a : A) → P a → FineSo P (over a)
  unfolding ◌then◌
  over_fine P a holds = λ go goes. goes a holds

  reads_fine : {A : Type 0} (P : A → Type 0) (look : SessionProgress → Doing A) → ((p : SessionProgress) → Reached P p look → FineSo P (look p)) → FineSo P (reads look)
  unfolding ◌then◌ Small
  reads_fine P look each = λ go goes p exchanges so_far small.
      each p (record { go = go; goes = goes; exchanges = exchanges; so_far = so_far; small = small }) go goes p exchanges so_far (small.1 p.bytes_left (same_le p.bytes_left))

  makes_fine : {A : Type 0} (P : A → Type 0) (step : SessionStep) (next : Doing A) → StepSo Other (λ status. Unit {0}) step → FineSo P next → FineSo P (makes step next)
  unfolding ◌then◌ Small
  makes_fine P step next so fine = λ go goes p exchanges so_far small. by_step (next then go) (fine go goes) p exchanges small (step_so_far (λ status. Unit {0}) step p so so_far)
    where
      by_step : (tree : Doing R) → Leads tree → (p : SessionProgress) (exchanges : List Exchange) → Small tree (made step p) exchanges last new → SoFar (made step p) ⊎ Whole → Whole
      by_step tree leads p exchanges small (inl so_far) = leads (made step p) exchanges so_far small
      by_step tree leads p exchanges small (inr whole) = whole

  defines_fine : {A : Type 0} (P : A → Type 0) (entry : List Value × List Value) (go : Option Definition → Doing A) → ((found : Option Definition) → FineSo P (go found)) → FineSo P (defines entry go)
  unfolding ◌then◌ Small
  defines_fine P entry next each = λ go goes p exchanges so_far small. each small.0 go goes p exchanges so_far small.2

  asks_fine : {A : Type 0} (P : A → Type 0) (op : Op) (next : Reply → Doing A) → ((reply : Reply) → FineSo P (next reply)) → FineSo P (asks op next)
  unfolding ◌then◌ Small
  asks_fine {A} P op next each = λ go goes p exchanges so_far small. by_exchanges go goes p exchanges so_far small
    where
      by_exchanges : (go : A → Doing R) → ((a : A) → P a → Leads (go a)) → (p : SessionProgress) (exchanges : List Exchange) → SoFar p → Small (asks op next then go) p exchanges last new → Whole
      by_exchanges go goes p [] so_far small = absurd small
      by_exchanges go goes p (x ∷ later) so_far small = each x.reply go goes (asked op x.reply p) later so_far small.3

  room_fine : {A : Type 0} (P : A → Type 0) (next : Bool → Doing A) → ((enough : Bool) → FineSo P (next enough)) → FineSo P (room next)
  unfolding ◌then◌ Small
  room_fine P next each = λ go goes p exchanges so_far small. each small.0 go goes p exchanges so_far small.1

  never_fine : {A : Type 0} (P : A → Type 0) → FineSo P never
  unfolding ◌then◌ Small
  never_fine P = λ go goes p exchanges so_far small. absurd small

  reached_behind : {A B : Type 0} (P : A → Type 0) (Q : B → Type 0) (p : SessionProgress) (look : SessionProgress → Doing A) (go : A → Doing B)
      → ((a : A) → P a → FineSo Q (go a)) → Reached Q p (λ q. look q then go) → Reached P p look
  reached_behind P Q p look go fine at = record {
    go = λ a. go a then at.go;
    goes = λ a holds. fine a holds at.go at.goes;
    exchanges = at.exchanges;
    so_far = at.so_far;
    small = subst (λ (tree : SessionProgress → Doing R). Small (reads tree) p at.exchanges last new) (fun_ext (λ q. then_assoc (look q) go at.go)) at.small;
  }

  -- ---- the limit

  -- with as many bytes left as tokens have, the run goes on behind them
  full_whole : {A : Type 0} (P : A → Type 0) (p : SessionProgress) (tokens : SessionProgress → List Token) (go : Bool → SessionProgress → Doing A)
      → ((bytes : ℕ) (q : SessionProgress) → tokens (record q { bytes_left = bytes }) ≡ tokens q) → ((q : SessionProgress) → FineSo P (go false q))
      → Reached P p (λ q. go (nat_lt q.bytes_left (size_of (tokens q))) q) → Whole
  unfolding Small
  full_whole P p tokens go same fine at =
      let bytes = p.bytes_left + size_of (tokens p) in
      let q = record p { bytes_left = bytes } in
      let passes = ap (λ (l : List Token). nat_lt bytes (size_of l)) (same bytes p) ∙ enough p.bytes_left (size_of (tokens p)) in
      fine q at.go at.goes p at.exchanges at.so_far
      (subst (λ (b : Bool). Small (go b q then at.go) p at.exchanges last new) passes (at.small.1 bytes (more_le p.bytes_left (size_of (tokens p)))))

  -- a SELECT has the rows that it is answered with in the run
  many_whole : (P : Result Effect Failure → Type 0) (around : Around) (shapes : List TableTree) (query : BoundQuery) (p : SessionProgress) (look : SessionProgress → Doing (Result Effect Failure))
      → reads look ≡ selects around shapes query → ((failure : Failure) → Other failure.number → P (Err failure))
      → ((rows : Rows) → nat_le (length rows) most_rows ≡ true → FineSo P (sends_rows around query rows)) → Reached P p look → Whole
  unfolding Small selects ◌then◌
  many_whole P around shapes query p look is fails fine at =
      let first = ap (λ (tree : Doing (Result Effect Failure)). tree then at.go) is in
      let whole = first ∙ then_assoc (answers around shapes query) (on_ok (sends_rows around query)) at.go in
      let on = small_front (answers around shapes query) (λ came. on_ok (sends_rows around query) came then at.go) p new at.exchanges last (subst (λ (tree : Doing R). Small tree p at.exchanges last new) whole at.small) in
      let still = reads_still p (answers around shapes query) on.mid on.front on.came (answers_read around p shapes query) on.held in
      by_came on.came on.mid on.front on.back (λ rows held. at.small.0 around shapes query at.go first on.front on.back rows on.mid on.parts held)
      (subst (λ (tokens : List Token). (sent : List Token) × (tokens ≡ old.tokens ++ sent) × TellsOnly IsNotPast sent) (sym (ap (λ (q : SessionProgress). q.tokens) still)) at.so_far) on.held on.rest
    where
      by_came : (came : Result Rows Failure) (mid : SessionProgress) (front back : List Exchange) → ((rows : Rows) → Held (answers around shapes query) p front (Ok rows) mid → length rows ≤ most_rows) → SoFar mid
          → Held (answers around shapes query) p front came mid → Small (on_ok (sends_rows around query) came then at.go) mid back last new → Whole
      by_came (Ok rows) mid front back few so_far held small = fine rows (le-leb (length rows) most_rows (few rows held)) at.go at.goes mid back so_far small
      by_came (Err failure) mid front back few so_far held small = at.goes (Err failure) (fails failure (λ same. absurd (answered_otherwise around shapes query p mid front failure held same))) mid back so_far small

  -- ---- what is looked for

  abbrev small_watch : Watch
  small_watch = record {
    Other = Other;
    Goes = λ status. Unit {0};
    Says = λ reply. Unit {0};
    May = λ enough. Unit {0};
    Fine = λ P tree. FineSo P tree;
    At = λ P left p look. Reached P p look;
    usual = λ number usual is. absurd (no_filling number usual is);
    wants = λ may. other_than (pos 701) refl;
    lacks = λ may. tt;
    memory = λ says. other_than (pos 701) refl;
    missing = λ says. other_than (pos 701) refl;
    victim = λ cycle says. other_than (pos 1205) refl;
    timed = λ holder held wanted on says. other_than (pos 1222) refl;
    more = tt;
    counted = tt;
    failed = tt;
    spent = λ P left p look at none. other_than (pos 49001) refl;
    none_left = λ P p look at. other_than (pos 49001) refl;
    fewer = λ P left p look at. at;
    full = λ P left p tokens go same fine at is. full_whole P p tokens go same fine at;
    many = λ P around shapes query left p look is fails fine at same. many_whole P around shapes query p look is fails fine at;
    fine_over = over_fine;
    fine_reads = λ P left look each. reads_fine P look each;
    fine_makes = makes_fine;
    fine_defines = defines_fine;
    fine_asks = λ P op go each. asks_fine P op go (λ reply. each reply tt);
    fine_room = λ P go each. room_fine P go (λ enough. each enough tt);
    fine_never = never_fine;
    behind = λ P Q left p look go fine at. reached_behind P Q p look go fine at;
  }

  -- what is clean is followed to its end
  clean_leads : {A : Type 0} (P : A → Type 0) (left : ℕ) (tree : Doing A) (go : A → Doing R) (exchanges : List Exchange) → CleanAt small_watch P left tree → ((a : A) → P a → Leads (go a)) → Small (tree then go) old exchanges last new → Whole
  clean_leads P left tree go exchanges clean goes small = clean_fine small_watch P left tree clean go goes old exchanges ([], sym (append-nil old.tokens), tt) small

-- ---- batches and calls

-- where nothing was sent before, nothing that was sent tells it
so_far_only : (tokens sent : List Token) → tokens ≡ [] ++ sent → TellsOnly IsNotPast sent → TellsOnly IsNotPast tokens
so_far_only tokens sent is only = subst (TellsOnly IsNotPast) (sym is) only

-- behind a batch of which nothing tells it the run goes on
pub small_batch_then : {R : Type 0} (Whole : Type 0) (text : List ℕ) (read : ReadText) (go : Unit {0} → Doing R) (p new : SessionProgress) (exchanges : List Exchange) (last : R) → ReadsAs text read
    → ((q : SessionProgress) (later : List Exchange) → TellsOnly IsNotPast q.tokens → Small (go tt) q later last new → Whole) → Small (batch read then go) p exchanges last new → Whole
unfolding batch Small ◌then◌
small_batch_then Whole text read go p new exchanges last reads_so goes small =
    let begun = made (begins (vars_in_text read)) p in
    clean_leads Whole begun last new (Anything {A = Unit {0}}) statement_limit (runs_text read then ends) go exchanges (clean_batch (small_watch Whole begun last new) (λ failed. tt) read (read_usual text read reads_so))
    (λ done any q later so_far rest. goes q later (so_far_only q.tokens so_far.0 so_far.1 so_far.2) rest) small

pub small_call_then : {R : Type 0} (Whole : Type 0) (call : Errand) (read : ReadText) (go : Unit {0} → Doing R) (p new : SessionProgress) (exchanges : List Exchange) (last : R) → ReadsFor call.text read
    → ((q : SessionProgress) (later : List Exchange) → TellsOnly IsNotPast q.tokens → Small (go tt) q later last new → Whole) → Small (rpc call read then go) p exchanges last new → Whole
unfolding rpc Small ◌then◌
small_call_then Whole call read go p new exchanges last reads_so goes small =
    let begun = made counts (made (begins (rpc_vars call)) p) in
    clean_leads Whole begun last new (Anything {A = Unit {0}}) statement_limit (runs_rpc (λ inner at. mean_of statement_limit inner at) call read then ends_rpc) go exchanges
    (clean_whole_call (small_watch Whole begun last new) (λ failed. tt) call read (called_usual call.text read reads_so))
    (λ done any q later so_far rest. goes q later (so_far_only q.tokens so_far.0 so_far.1 so_far.2) rest) small

-- ---- the laws

pub small_is_held : SmallIsHeld
small_is_held = (λ tree old new exchanges exit. small_held tree old new exchanges exit, λ tree old new exchanges done. small_held tree old new exchanges done)

pub counts_bytes : CountsBytes
counts_bytes p = (λ vars. refl, λ tokens. refl)

pub small_statements : SmallStatements
unfolding Small
small_statements levels around statement old new exchanges exit caught small =
    clean_leads Whole old exit new (LeavesBy watch) levels (mean_of levels statement around) (λ went. over went) exchanges (clean_mean watch levels statement around (by_caught around.caught caught))
    (λ went other p later so_far end. by_end went p end.1 end.2 (by_exit went other) so_far)
    (subst (λ (t : Doing Exit). Small t old exchanges exit new) (sym (then_over (mean_of levels statement around))) small)
  where
    Whole : Type 0
    Whole = LeavesOnly IsNotPast exit × ((sent : List Token) × (new.tokens ≡ old.tokens ++ sent) × TellsOnly IsNotPast sent)

    watch : Watch
    watch = small_watch Whole old exit new

    by_number : (number : ℤ) → (number ≡ pos 49002 → Whole) → IsNotPast number ⊎ (number ≡ pos 49002) → IsNotPast number ⊎ Whole
    by_number number other (inl not) = inl not
    by_number number other (inr is) = inr (other is)

    by_exit : (went : Exit) → LeavesBy watch went → LeavesOnly IsNotPast went ⊎ Whole
    by_exit (Raise raised) other = by_number raised.number other (is_past raised.number)
    by_exit (RaiseUp raised) other = by_number raised.number other (is_past raised.number)
    by_exit went other = inl tt

    by_end : (went : Exit) (p : SessionProgress) → exit ≡ went → new ≡ p → LeavesOnly IsNotPast went ⊎ Whole → (sent : List Token) × (p.tokens ≡ old.tokens ++ sent) × TellsOnly IsNotPast sent → Whole
    by_end went p came same (inl leaves) so_far = (subst (LeavesOnly IsNotPast) (sym came) leaves, (so_far.0, ap (λ (q : SessionProgress). q.tokens) same ∙ so_far.1, so_far.2))
    by_end went p came same (inr whole) so_far = whole

    by_caught : (caught : Option Raised) → CaughtOnly IsNotPast caught → CaughtBy watch caught
    by_caught None only = tt
    by_caught (Some raised) only = λ is. absurd (only is)

-- nothing follows
ends_here : (q new : SessionProgress) → new ≡ q → TellsOnly IsNotPast q.tokens → TellsOnly IsNotPast new.tokens
ends_here q new is only = subst (TellsOnly IsNotPast) (ap (λ (s : SessionProgress). s.tokens) (sym is)) only

pub small_batches : SmallBatches
unfolding Small
small_batches text read old new exchanges reads_so small = small_batch_then (TellsOnly IsNotPast new.tokens) text read (λ done. over done) old new exchanges tt reads_so
    (λ q later only end. ends_here q new end.2 only) (subst (λ (t : Doing (Unit {0})). Small t old exchanges tt new) (sym (then_over (batch read))) small)

pub small_calls : SmallCalls
unfolding Small
small_calls call read old new exchanges reads_so small = small_call_then (TellsOnly IsNotPast new.tokens) call read (λ done. over done) old new exchanges tt reads_so
    (λ q later only end. ends_here q new end.2 only) (subst (λ (t : Doing (Unit {0})). Small t old exchanges tt new) (sym (then_over (rpc call read))) small)
