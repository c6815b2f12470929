-- Trees and dialogs that replace and erase only rows that are sure behind what was asked before, and what holds where they are over.
use Rattle.std.proofs.Common.{◌≡◌, inl, inr, Bool, List, [], ◌∷◌, ◌++◌, refl, sym, ◌∙◌, append-nil, append_assoc}
use Rattle.value_types.specs.declared.table_name.TableName.{TableName}
use Rattle.value_types.specs.declared.value.Value.{Value}
use Rattle.step_model.specs.declared.manner.Manner.{Manner}
use Rattle.step_model.specs.declared.op.Op.{Op}
use Rattle.step_model.specs.declared.op.Op.TheVariants as ops
use Rattle.step_model.specs.declared.reply.Reply.{Reply}
use Rattle.step_model.specs.declared.resource.Span.{Span}
use Rattle.step_model.specs.Dialog as said
use Rattle.step_model.specs.Dialog.{Dialog}
use Rattle.step_model.specs.Exchange.{Exchange, CanReply}
use Rattle.step_model.specs.Sure.{SureKeys, LeavesSure, MakesSure, sure_after, sure_from}
use Rattle.statement_paths.specs.Asked.{AskOnly, IsFetch}
use Rattle.statement_paths.specs.Paths.{replied}
use Rattle.statement_paths.proofs.Only.{Says}
use Rattle.sure_laws.specs.Asked.{AsksSure, IsTold, none_sure}

-- ---- what is sure

-- what is sure behind exchanges, where more was sure before
sure_mono : (sure more : SureKeys) (exchanges : List Exchange) → ((span : Span) (t : TableName) (x : List Value) → sure span t x → more span t x)
    → (span : Span) (t : TableName) (x : List Value) → sure_from sure exchanges span t x → sure_from more exchanges span t x
sure_mono sure more [] on = on
sure_mono sure more (x ∷ later) on = sure_mono (sure_after sure x.op x.reply) (sure_after more x.op x.reply) later by_case
  where
    by_case : (span : Span) (t : TableName) (key : List Value) → sure_after sure x.op x.reply span t key → sure_after more x.op x.reply span t key
    by_case span t key (inl makes) = inl makes
    by_case span t key (inr was) = inr (on span t key was.0, was.1)

-- behind both is behind the one and then the other
pub sure_both : (sure : SureKeys) (front back : List Exchange) (span : Span) (t : TableName) (x : List Value) → sure_from (sure_from sure front) back span t x → sure_from sure (front ++ back) span t x
sure_both sure [] back span t x was = was
sure_both sure (y ∷ front) back span t x was = sure_both (sure_after sure y.op y.reply) front back span t x was

-- so what a last part makes sure is
pub sure_last : (front back : List Exchange) (span : Span) (t : TableName) (x : List Value) → sure_from none_sure back span t x → sure_from none_sure (front ++ back) span t x
sure_last front back span t x was =
    sure_both none_sure front back span t x (sure_mono none_sure (sure_from none_sure front) back (λ span t x none. absurd none) span t x was)

-- fetches leave it sure
fetch_leaves : (op : Op) (span : Span) (t : TableName) (x : List Value) → IsFetch op → LeavesSure op span t x
fetch_leaves (ops.Fetch table start stop hold part) span t x fetch = tt
fetch_leaves op span t x fetch = absurd fetch

pub fetches_leave : (exchanges : List Exchange) (sure : SureKeys) (span : Span) (t : TableName) (x : List Value) → AskOnly IsFetch exchanges → sure span t x → sure_from sure exchanges span t x
fetches_leave [] sure span t x fetch was = was
fetches_leave (y ∷ later) sure span t x fetch was = fetches_leave later (sure_after sure y.op y.reply) span t x fetch.1 (inr (was, fetch_leaves y.op span t x fetch.0.0))

-- ---- dialogs

-- neither replaces nor erases
abbrev pub IsCalm : Op → Type 0
IsCalm (ops.Replace table key row) = ⊥
IsCalm (ops.Erase table key) = ⊥
IsCalm op = Unit {0}

pub calm_sure : (sure : SureKeys) (op : Op) → IsCalm op → AsksSure sure op
calm_sure sure (ops.Replace table key row) calm = absurd calm
calm_sure sure (ops.Erase table key) calm = absurd calm
calm_sure sure op calm = tt

pub fetch_calm : (op : Op) → IsFetch op → IsCalm op
fetch_calm (ops.Fetch table start stop hold part) fetch = tt
fetch_calm op fetch = absurd fetch

-- whatever it comes to
abbrev pub Any : {A : Type 0} → A → List Exchange → Type 0
Any a behind = Unit {0}

module _ (manner : Manner) where
  -- one exchange more
  abbrev pub with_one : List Exchange → Op → Reply → List Exchange
  with_one before op reply = before ++ replied manner op reply ∷ []

  abbrev pub sure_behind : List Exchange → SureKeys
  sure_behind before = sure_from none_sure before

  pub stays_sure : (before : List Exchange) (op : Op) (reply : Reply) (span : Span) (t : TableName) (x : List Value) → sure_behind before span t x → LeavesSure op span t x → sure_behind (with_one before op reply) span t x
  stays_sure before op reply span t x was leaves = sure_both none_sure before (replied manner op reply ∷ []) span t x (inr (was, leaves))

  pub becomes_sure : (before : List Exchange) (op : Op) (reply : Reply) (span : Span) (t : TableName) (x : List Value) → MakesSure op reply span t x → sure_behind (with_one before op reply) span t x
  becomes_sure before op reply span t x makes = sure_both none_sure before (replied manner op reply ∷ []) span t x (inl makes)

  -- Each write of the dialog is of a row that is sure, and where it is over this holds of its result and of what was asked.
  abbrev pub SaysSure : {A : Type 0} → (A → List Exchange → Type 0) → List Exchange → Dialog A → Type 0
  SaysSure Post before (said.over a) = Post a before
  SaysSure Post before (said.asks op quiet go) = AsksSure (sure_behind before) op × ((reply : Reply) → CanReply op reply → IsTold before op reply → SaysSure Post (with_one before op reply) (go reply))
  SaysSure Post before (said.room go) = (enough : Bool) → SaysSure Post before (go enough)
  SaysSure Post before said.never = Unit {0}

  pub says_more : {A : Type 0} (P Q : A → List Exchange → Type 0) (before : List Exchange) (dialog : Dialog A) → ((a : A) (behind : List Exchange) → P a behind → Q a behind) → SaysSure P before dialog → SaysSure Q before dialog
  says_more P Q before (said.over a) on says = on a before says
  says_more P Q before (said.asks op quiet go) on says = (says.0, λ reply can of. says_more P Q (with_one before op reply) (go reply) on (says.1 reply can of))
  says_more P Q before (said.room go) on says = λ enough. says_more P Q before (go enough) on (says enough)
  says_more P Q before said.never on says = tt

  pub says_then : {A B : Type 0} (Mid : A → List Exchange → Type 0) (Post : B → List Exchange → Type 0) (before : List Exchange) (dialog : Dialog A) (go : A → Dialog B)
      → SaysSure Mid before dialog → ((a : A) (behind : List Exchange) → Mid a behind → SaysSure Post behind (go a)) → SaysSure Post before (said.◌then◌ dialog go)
  unfolding said.◌then◌
  says_then Mid Post before (said.over a) go says more = more a before says
  says_then Mid Post before (said.asks op quiet next) go says more = (says.0, λ reply can of. says_then Mid Post (with_one before op reply) (next reply) go (says.1 reply can of) more)
  says_then Mid Post before (said.room next) go says more = λ enough. says_then Mid Post before (next enough) go (says enough) more
  says_then Mid Post before said.never go says more = tt

  -- a dialog that neither replaces nor erases
  pub says_calm : {A : Type 0} (before : List Exchange) (dialog : Dialog A) → Says IsCalm dialog → SaysSure Any before dialog
  says_calm before (said.over a) says = tt
  says_calm before (said.asks op quiet go) says = (calm_sure (sure_behind before) op says.0, λ reply can of. says_calm (with_one before op reply) (go reply) (says.1 reply))
  says_calm before (said.room go) says = λ enough. says_calm before (go enough) (says enough)
  says_calm before said.never says = tt

  -- of one that only fetches it is known what was held
  pub record IsHeld {A : Type 0} (dialog : Dialog A) (before : List Exchange) (a : A) (behind : List Exchange) : Type 0 where
    pub part : List Exchange
    pub parts : behind ≡ before ++ part
    pub fetches : AskOnly IsFetch part
    pub held : said.Held manner dialog part a

  pub says_held : {A : Type 0} (before : List Exchange) (dialog : Dialog A) → Says IsFetch dialog → SaysSure (IsHeld dialog before) before dialog
  unfolding said.Held
  says_held before (said.over a) says = record { part = []; parts = sym (append-nil before); fetches = tt; held = (refl, refl) }
  says_held {A = A} before (said.asks op quiet go) says = (
    calm_sure (sure_behind before) op (fetch_calm op says.0),
    λ reply can of. says_more (IsHeld (go reply) (with_one before op reply)) (IsHeld (said.asks op quiet go) before) (with_one before op reply) (go reply)
        (λ a behind was. record {
          part = replied manner op reply ∷ was.part;
          parts = was.parts ∙ append_assoc before (replied manner op reply ∷ []) was.part;
          fetches = ((says.0, can), was.fetches);
          held = (refl, refl, can, was.held);
        })
        (says_held (with_one before op reply) (go reply) (says.1 reply)),
  )
  says_held before (said.room go) says = λ enough. says_more (IsHeld (go enough) before) (IsHeld (said.room go) before) before (go enough)
      (λ a behind was. record { part = was.part; parts = was.parts; fetches = was.fetches; held = (enough, was.held) }) (says_held before (go enough) (says enough))
  says_held before said.never says = tt
