-- What a session does, where each write is of a row that is sure: one thing behind another, and what was done so.
use Rattle.std.proofs.Common.{◌≡◌, inl, inr, Bool, true, false, if◌then◌else◌, List, [], ◌∷◌, ◌++◌, Option, Result, Ok, Err, refl, sym, ap, ◌∙◌, subst}
use Rattle.value_types.specs.declared.table_name.TableName.{TableName}
use Rattle.value_types.specs.declared.value.Value.{Value}
use Rattle.tsql_tree.specs.declared.definition.Definition.{Definition}
use Rattle.table_rows.specs.Definitions.{IsDefinitionIn}
use Rattle.step_model.specs.declared.manner.Manner.{Manner}
use Rattle.step_model.specs.declared.op.Hold.TheVariants.{Range}
use Rattle.step_model.specs.declared.op.Op.{Op}
use Rattle.step_model.specs.declared.op.Op.TheVariants as ops
use Rattle.step_model.specs.declared.reply.Reply.{Reply}
use Rattle.step_model.specs.declared.reply.Reply.TheVariants.{Row}
use Rattle.step_model.specs.declared.resource.Span.{Span}
use Rattle.step_model.specs.Dialog as said
use Rattle.step_model.specs.Dialog.{Dialog}
use Rattle.step_model.specs.Exchange.{Exchange, CanReply}
use Rattle.step_model.specs.Ranges.{no_memory}
use Rattle.step_model.specs.Sure.{SureKeys, sure_after, sure_from}
use Rattle.batch_meaning.specs.declared.failure.Failure.{Failure}
use Rattle.batch_meaning.specs.Asking.{fails, on_ok, ◌>>=◌, with_room, comes_to, ◌gives◌}
use Rattle.batch_meaning.specs.Doing.{Doing, over, reads, makes, defines, asks, room, never, ◌then◌, Held, Left}
use Rattle.batch_meaning.specs.Progress.{SessionProgress, asked, made}
use Rattle.statement_paths.specs.Asked.{AskOnly, IsFetch}
use Rattle.statement_paths.specs.Paths.{replied}
use Rattle.statement_paths.proofs.Only.{AnyStep, Only}
use Rattle.sure_laws.specs.Asked.{AreSure, AreTold, AsksSure, IsAlike, IsTold, none_sure}
use Rattle.sure_laws.proofs.Sures.{Any, IsCalm, SaysSure, calm_sure, sure_behind, with_one}

-- ---- exchanges

asks_more : (sure more : SureKeys) (op : Op) → ((span : Span) (t : TableName) (x : List Value) → sure span t x → more span t x) → AsksSure sure op → AsksSure more op
asks_more sure more (ops.Replace table key row) on was = (was.0, on was.0 table key was.1)
asks_more sure more (ops.Erase table key) on was = (was.0, on was.0 table key was.1)
asks_more sure more op on was = tt

pub are_more : (sure more : SureKeys) (exchanges : List Exchange) → ((span : Span) (t : TableName) (x : List Value) → sure span t x → more span t x) → AreSure sure exchanges → AreSure more exchanges
are_more sure more [] on are = tt
are_more sure more (x ∷ later) on are = (asks_more sure more x.op on are.0, are_more (sure_after sure x.op x.reply) (sure_after more x.op x.reply) later by_case are.1)
  where
    by_case : (span : Span) (t : TableName) (key : List Value) → sure_after sure x.op x.reply span t key → sure_after more x.op x.reply span t key
    by_case span t key (inl fetched) = inl fetched
    by_case span t key (inr was) = inr (on span t key was.0, was.1)

-- behind the one and then the other is behind both
sure_apart : (sure : SureKeys) (front back : List Exchange) (span : Span) (t : TableName) (x : List Value) → sure_from sure (front ++ back) span t x → sure_from (sure_from sure front) back span t x
sure_apart sure [] back span t x was = was
sure_apart sure (y ∷ front) back span t x was = sure_apart (sure_after sure y.op y.reply) front back span t x was

-- the same was asked and replied, in whichever manner
abbrev pub AreOne : List Exchange → List Exchange → Type 0
AreOne [] [] = Unit {0}
AreOne [] (y ∷ ys) = ⊥
AreOne (x ∷ xs) [] = ⊥
AreOne (x ∷ xs) (y ∷ ys) = (x.op ≡ y.op) × (x.reply ≡ y.reply) × AreOne xs ys

one_more : (real before : List Exchange) (x y : Exchange) → AreOne real before → x.op ≡ y.op → x.reply ≡ y.reply → AreOne (real ++ x ∷ []) (before ++ y ∷ [])
one_more [] [] x y one op reply = (op, reply, tt)
one_more [] (z ∷ before) x y one op reply = absurd one
one_more (w ∷ real) [] x y one op reply = absurd one
one_more (w ∷ real) (z ∷ before) x y one op reply = (one.0, one.1, one_more real before x y one.2 op reply)

-- what stands in the one stands in the other
record IsIn (real between : List Exchange) (y : Exchange) : Type 0 where
  pub front : List Exchange
  pub x : Exchange
  pub rest : List Exchange
  pub parts : real ≡ front ++ x ∷ rest
  pub op : x.op ≡ y.op
  pub reply : x.reply ≡ y.reply
  pub one : AreOne rest between

one_apart : (real front between : List Exchange) (y : Exchange) → AreOne real (front ++ y ∷ between) → IsIn real between y
one_apart [] [] between y one = absurd one
one_apart [] (z ∷ front) between y one = absurd one
one_apart (w ∷ real) [] between y one = record { front = []; x = w; rest = real; parts = refl; op = one.0; reply = one.1; one = one.2 }
one_apart (w ∷ real) (z ∷ front) between y one =
    let on = one_apart real front between y one.2 in
    record { front = w ∷ on.front; x = on.x; rest = on.rest; parts = ap (λ (l : List Exchange). w ∷ l) on.parts; op = on.op; reply = on.reply; one = on.one }

one_fetch : (real between : List Exchange) → AreOne real between → AskOnly IsFetch between → AskOnly IsFetch real
one_fetch [] [] one fetch = tt
one_fetch [] (y ∷ between) one fetch = absurd one
one_fetch (x ∷ real) [] one fetch = absurd one
one_fetch (x ∷ real) (y ∷ between) one fetch = (
  (subst IsFetch (sym one.0) fetch.0.0, subst (λ (o : Op). CanReply o x.reply) (sym one.0) (subst (λ (r : Reply). CanReply y.op r) (sym one.1) fetch.0.1)),
  one_fetch real between one.2 fetch.1,
)

alike_so : (real before : List Exchange) (op : Op) (reply : Reply) → AreOne real before → IsAlike real op reply → IsAlike before op reply
alike_so real before (ops.Fetch table start stop Range part) (Row own row at) one alike = λ front between y first last lock key base number split fetch asked told same.
    let on = one_apart real front between y (subst (AreOne real) split one) in
    alike on.front on.rest on.x first last lock key base number on.parts (one_fetch on.rest between on.one fetch) (on.op ∙ asked) (on.reply ∙ told) same
alike_so real before op reply one alike = tt

told_so : (real before : List Exchange) (op : Op) (reply : Reply) → AreOne real before → IsTold real op reply → IsTold before op reply
told_so real before op reply one told = (told.0, alike_so real before op reply one told.1)

module _ (manner : Manner) where
  -- Each write of what is done is of a row that is sure, and where it is over this holds of its result and of what was asked.
  abbrev pub Sures : {A : Type 0} → (A → List Exchange → Type 0) → List Exchange → Doing A → Type 0
  Sures Post before (over a) = Post a before
  Sures Post before (reads look) = (p : SessionProgress) → Sures Post before (look p)
  Sures Post before (makes step next) = Sures Post before next
  Sures Post before (defines entry go) = (found : Option Definition) → IsDefinitionIn entry found → Sures Post before (go found)
  Sures Post before (asks op go) = AsksSure (sure_behind manner before) op × ((reply : Reply) → CanReply op reply → IsTold before op reply → Sures Post (with_one manner before op reply) (go reply))
  Sures Post before (room go) = (enough : Bool) → Sures Post before (go enough)
  Sures Post before never = Unit {0}

  -- whatever was asked before it
  abbrev pub Surely : {A : Type 0} → Doing A → Type 0
  Surely tree = (before : List Exchange) → Sures Any before tree

  pub sures_more : {A : Type 0} (P Q : A → List Exchange → Type 0) (before : List Exchange) (tree : Doing A) → ((a : A) (behind : List Exchange) → P a behind → Q a behind) → Sures P before tree → Sures Q before tree
  sures_more P Q before (over a) on sures = on a before sures
  sures_more P Q before (reads look) on sures = λ p. sures_more P Q before (look p) on (sures p)
  sures_more P Q before (makes step next) on sures = sures_more P Q before next on sures
  sures_more P Q before (defines entry go) on sures = λ found is. sures_more P Q before (go found) on (sures found is)
  sures_more P Q before (asks op go) on sures = (sures.0, λ reply can of. sures_more P Q (with_one manner before op reply) (go reply) on (sures.1 reply can of))
  sures_more P Q before (room go) on sures = λ enough. sures_more P Q before (go enough) on (sures enough)
  sures_more P Q before never on sures = tt

  pub sures_then : {A B : Type 0} (Mid : A → List Exchange → Type 0) (Post : B → List Exchange → Type 0) (before : List Exchange) (tree : Doing A) (go : A → Doing B)
      → Sures Mid before tree → ((a : A) (behind : List Exchange) → Mid a behind → Sures Post behind (go a)) → Sures Post before (tree then go)
  unfolding ◌then◌
  sures_then Mid Post before (over a) go sures more = more a before sures
  sures_then Mid Post before (reads look) go sures more = λ p. sures_then Mid Post before (look p) go (sures p) more
  sures_then Mid Post before (makes step next) go sures more = sures_then Mid Post before next go sures more
  sures_then Mid Post before (defines entry next) go sures more = λ found is. sures_then Mid Post before (next found) go (sures found is) more
  sures_then Mid Post before (asks op next) go sures more = (sures.0, λ reply can of. sures_then Mid Post (with_one manner before op reply) (next reply) go (sures.1 reply can of) more)
  sures_then Mid Post before (room next) go sures more = λ enough. sures_then Mid Post before (next enough) go (sures enough) more
  sures_then Mid Post before never go sures more = tt

  -- where it did not fail
  abbrev pub OnOk : {A : Type 0} → (A → List Exchange → Type 0) → Result A Failure → List Exchange → Type 0
  OnOk Mid (Ok a) behind = Mid a behind
  OnOk Mid (Err failure) behind = Unit {0}

  pub sures_bind : {A B : Type 0} (Mid : A → List Exchange → Type 0) (Post : Result B Failure → List Exchange → Type 0) (before : List Exchange) (tree : Doing (Result A Failure)) (go : A → Doing (Result B Failure))
      → ((failure : Failure) (behind : List Exchange) → Post (Err failure) behind) → Sures (OnOk Mid) before tree → ((a : A) (behind : List Exchange) → Mid a behind → Sures Post behind (go a)) → Sures Post before (tree >>= go)
  sures_bind {A = A} {B = B} Mid Post before tree go failed sures more = sures_then (OnOk Mid) Post before tree (on_ok go) sures by_came
    where
      by_came : (came : Result A Failure) (behind : List Exchange) → OnOk Mid came behind → Sures Post behind (on_ok go came)
      by_came (Ok a) behind mid = more a behind mid
      by_came (Err failure) behind mid = failed failure behind

  pub sures_room : {A : Type 0} (Post : Result A Failure → List Exchange → Type 0) (before : List Exchange) (tree : Doing (Result A Failure)) → ((failure : Failure) → Post (Err failure) before) → Sures Post before tree → Sures Post before (with_room tree)
  sures_room {A = A} Post before tree failed sures = by_room
    where
      by_room : (enough : Bool) → Sures Post before (if enough then tree else fails no_memory)
      by_room true = sures
      by_room false = failed _

  pub sures_comes : {A : Type 0} (Mid : A → List Exchange → Type 0) (before : List Exchange) (result : Result A Failure) → ((a : A) → result ≡ Ok a → Mid a before) → Sures (OnOk Mid) before (comes_to result)
  sures_comes {A = A} Mid before result on = by_room
    where
      by_result : (r : Result A Failure) → result ≡ r → OnOk Mid r before
      by_result (Ok a) is = on a is
      by_result (Err failure) is = tt

      by_room : (enough : Bool) → Sures (OnOk Mid) before (if enough then over result else fails no_memory)
      by_room true = by_result result refl
      by_room false = tt

  pub sures_gives : {A B : Type 0} (Mid : A → List Exchange → Type 0) (Post : B → List Exchange → Type 0) (before : List Exchange) (dialog : Dialog A) (go : A → Doing B)
      → SaysSure manner Mid before dialog → ((a : A) (behind : List Exchange) → Mid a behind → Sures Post behind (go a)) → Sures Post before (dialog gives go)
  unfolding ◌gives◌
  sures_gives Mid Post before (said.over a) go says more = more a before says
  sures_gives Mid Post before (said.asks op quiet next) go says more = (says.0, λ reply can of. sures_gives Mid Post (with_one manner before op reply) (next reply) go (says.1 reply can of) more)
  sures_gives Mid Post before (said.room next) go says more = λ enough. sures_gives Mid Post before (next enough) go (says enough) more
  sures_gives Mid Post before said.never go says more = tt

  -- what neither replaces nor erases
  pub sures_calm : {A : Type 0} (before : List Exchange) (tree : Doing A) → Only AnyStep IsCalm tree → Sures Any before tree
  sures_calm before (over a) only = tt
  sures_calm before (reads look) only = λ p. sures_calm before (look p) (only p)
  sures_calm before (makes step next) only = sures_calm before next only.1
  sures_calm before (defines entry go) only = λ found is. sures_calm before (go found) (only found)
  sures_calm before (asks op go) only = (calm_sure (sure_behind manner before) op only.0, λ reply can of. sures_calm (with_one manner before op reply) (go reply) (only.1 reply can))
  sures_calm before (room go) only = λ enough. sures_calm before (go enough) (only enough)
  sures_calm before never only = tt

  -- ---- what was done

  on_more : (before : List Exchange) (op : Op) (reply : Reply) (later : List Exchange) → AreSure (sure_behind manner (with_one manner before op reply)) later → AreSure (sure_after (sure_behind manner before) op reply) later
  on_more before op reply later are = are_more (sure_behind manner (with_one manner before op reply)) (sure_after (sure_behind manner before) op reply) later
      (λ span t x was. sure_apart none_sure before (replied manner op reply ∷ []) span t x was) are

  none_asked : (before exchanges : List Exchange) → exchanges ≡ [] → AreSure (sure_behind manner before) exchanges
  none_asked before exchanges is = subst (AreSure (sure_behind manner before)) (sym is) tt

  pub sures_left : {A : Type 0} (Post : A → List Exchange → Type 0) (before real : List Exchange) (tree : Doing A) (p new : SessionProgress) (exchanges : List Exchange)
      → Sures Post before tree → AreOne real before → AreTold real exchanges → Left tree p exchanges new → AreSure (sure_behind manner before) exchanges
  unfolding Left
  sures_left Post before real (over a) p new exchanges sures one of left = none_asked before exchanges left.0
  sures_left Post before real (reads look) p new exchanges sures one of left = sures_left Post before real (look p) p new exchanges (sures p) one of left
  sures_left Post before real (makes step next) p new exchanges sures one of (inl here) = none_asked before exchanges here.0
  sures_left Post before real (makes step next) p new exchanges sures one of (inr later) = sures_left Post before real next (made step p) new exchanges sures one of later
  sures_left Post before real (defines entry go) p new exchanges sures one of (inl here) = none_asked before exchanges here.0
  sures_left Post before real (defines entry go) p new exchanges sures one of (inr later) = sures_left Post before real (go later.0) p new exchanges (sures later.0 later.1) one of later.2
  sures_left Post before real (asks op go) p new [] sures one of left = tt
  sures_left Post before real (asks op go) p new (x ∷ later) sures one of left = (
    subst (AsksSure (sure_behind manner before)) (sym left.0) sures.0,
    subst (λ (o : Op). AreSure (sure_after (sure_behind manner before) o x.reply) later) (sym left.0)
        (on_more before op x.reply later (sures_left Post (with_one manner before op x.reply) (real ++ x ∷ []) (go x.reply) (asked op x.reply p) new later
        (sures.1 x.reply left.2 (told_so real before op x.reply one (subst (λ (o : Op). IsTold real o x.reply) left.0 of.0)))
        (one_more real before x (replied manner op x.reply) one left.0 refl) of.1 left.3)),
  )
  sures_left Post before real (room go) p new exchanges sures one of left = sures_left Post before real (go left.0) p new exchanges (sures left.0) one of left.1
  sures_left Post before real never p new exchanges sures one of left = none_asked before exchanges left.0

  pub sures_held : {A : Type 0} (Post : A → List Exchange → Type 0) (before real : List Exchange) (tree : Doing A) (p new : SessionProgress) (exchanges : List Exchange) (a : A)
      → Sures Post before tree → AreOne real before → AreTold real exchanges → Held tree p exchanges a new → AreSure (sure_behind manner before) exchanges
  unfolding Held
  sures_held Post before real (over c) p new exchanges a sures one of held = none_asked before exchanges held.0
  sures_held Post before real (reads look) p new exchanges a sures one of held = sures_held Post before real (look p) p new exchanges a (sures p) one of held
  sures_held Post before real (makes step next) p new exchanges a sures one of held = sures_held Post before real next (made step p) new exchanges a sures one of held
  sures_held Post before real (defines entry go) p new exchanges a sures one of held = sures_held Post before real (go held.0) p new exchanges a (sures held.0 held.1) one of held.2
  sures_held Post before real (asks op go) p new [] a sures one of held = absurd held
  sures_held Post before real (asks op go) p new (x ∷ later) a sures one of held = (
    subst (AsksSure (sure_behind manner before)) (sym held.0) sures.0,
    subst (λ (o : Op). AreSure (sure_after (sure_behind manner before) o x.reply) later) (sym held.0)
        (on_more before op x.reply later (sures_held Post (with_one manner before op x.reply) (real ++ x ∷ []) (go x.reply) (asked op x.reply p) new later a
        (sures.1 x.reply held.2 (told_so real before op x.reply one (subst (λ (o : Op). IsTold real o x.reply) held.0 of.0)))
        (one_more real before x (replied manner op x.reply) one held.0 refl) of.1 held.3)),
  )
  sures_held Post before real (room go) p new exchanges a sures one of held = sures_held Post before real (go held.0) p new exchanges a (sures held.0) one of held.1
  sures_held Post before real never p new exchanges a sures one of held = absurd held
