-- How a tree brings a session from one fact to another, by what it is made of.
use Rattle.std.proofs.Common.{◌≡◌, ◌⊎◌, inl, inr, Bool, if◌then◌else◌, List, [], ◌∷◌, ◌++◌, Option, Result, Ok, Err, refl, sym, ap, subst, ◌∙◌, append-nil, append_assoc}
use Rattle.value_types.specs.declared.value.Value.{Value}
use Rattle.tsql_tree.specs.declared.definition.Definition.{Definition}
use Rattle.table_rows.specs.Definitions.{IsDefinitionIn}
use Rattle.step_model.specs.declared.op.Op.{Op}
use Rattle.step_model.specs.declared.op.Op.TheVariants as ops
use Rattle.step_model.specs.declared.reply.Reply.{Reply}
use Rattle.step_model.specs.Exchange.{CanReply, Exchange}
use Rattle.step_model.specs.Log.{Commit as Logged}
use Rattle.step_model.specs.Own.{progress_of}
use Rattle.batch_meaning.specs.declared.failure.Failure.{Failure}
use Rattle.batch_meaning.specs.Asking.{on_ok, ◌>>=◌}
use Rattle.batch_meaning.specs.Doing.{Doing, over, reads, makes, defines, asks, room, never, ◌then◌, Held, Left}
use Rattle.batch_meaning.specs.Progress.{SessionProgress, SessionStep, asked, made}
use Rattle.sound_laws.specs.Stands.{CommitsKeep, Keeps, Brings}
pub use Rattle.statement_paths.proofs.Apart.{Apart, held_apart, held_left, left_apart}
use Rattle.sound_laws.proofs.Coming.{none_split}
use Rattle.sound_laws.proofs.Shut.{asked_open, made_open, open_behind}
use Rattle.sound_laws.proofs.Steps.{after_one}

-- ---- where an element of two lists is

abbrev pub IsIn : {A : Type 0} → List A → List A → List A → A → List A → Type 0
IsIn {A} a b c x d = ((more : List A) × (a ≡ c ++ x ∷ more) × (d ≡ more ++ b)) ⊎ ((more : List A) × (c ≡ a ++ more) × (b ≡ more ++ x ∷ d))

pub found_in : {A : Type 0} (a b c : List A) (x : A) (d : List A) → a ++ b ≡ c ++ x ∷ d → IsIn a b c x d
found_in [] b c x d is = inr (c, refl, is)
found_in {A} (y ∷ a) b [] x d is =
    let first : y ≡ x = cc in
    let rest : a ++ b ≡ d = cc in
    inl (a, ap (λ (x : A). x ∷ a) first, sym rest)
found_in {A} (y ∷ a) b (z ∷ c) x d is =
    let first : y ≡ z = cc in
    let rest : a ++ b ≡ c ++ x ∷ d = cc in
    elim (found_in a b c x d rest) [
      | inl here ↦ inl (here.0, ap (λ (y : A). y ∷ a) first ∙ ap (λ (xs : List A). z ∷ xs) here.1, here.2)
      | inr there ↦ inr (there.0, ap (λ (z : A). z ∷ c) (sym first) ∙ ap (λ (xs : List A). y ∷ xs) there.1, there.2)
    ]

-- ---- commits

module _ (log : List Logged) where
  pub keep_none : (before part : List Exchange) → part ≡ [] → CommitsKeep log before part
  keep_none before part none front behind exchange is commits = absurd (none_split front exchange behind (sym none ∙ is))

  pub keep_more : (before : List Exchange) (x : Exchange) (later : List Exchange) → (x.op ≡ ops.Commit → Keeps log before x) → CommitsKeep log (before ++ x ∷ []) later → CommitsKeep log before (x ∷ later)
  keep_more before x later one rest [] behind exchange is commits =
      let same : x ≡ exchange = cc in
      let keeps : Keeps log before exchange = subst (Keeps log before) same (one (ap (λ (e : Exchange). e.op) same ∙ commits)) in
      subst (λ (xs : List Exchange). Keeps log xs exchange) (sym (append-nil before)) keeps
  keep_more before x later one rest (y ∷ front) behind exchange is commits =
      let first : x ≡ y = cc in
      let others : later ≡ front ++ exchange ∷ behind = cc in
      subst (λ (xs : List Exchange). Keeps log xs exchange) (append_assoc before (x ∷ []) front ∙ ap (λ (e : Exchange). before ++ e ∷ front) first) (rest front behind exchange others commits)

  pub keep_both : (before front back : List Exchange) → CommitsKeep log before front → CommitsKeep log (before ++ front) back → CommitsKeep log before (front ++ back)
  keep_both before front back first second done behind exchange is commits = elim (found_in front back done exchange behind is) [
    | inl here ↦ first done here.0 exchange here.1 commits
    | inr there ↦ subst (λ (xs : List Exchange). Keeps log xs exchange) (append_assoc before front there.0 ∙ ap (λ (xs : List Exchange). before ++ xs) (sym there.1)) (second there.0 behind exchange there.2 commits)
  ]

-- ---- trees

abbrev pub Moment : Type 1
Moment = List Exchange → List Exchange → Type 0

module _ (log : List Logged) (mine : List Exchange) where
  pub brings_over : {A : Type 0} (From : List Exchange → List Exchange → Type 0) (a : A) (To : A → List Exchange → List Exchange → Type 0) → ((before later : List Exchange) → mine ≡ before ++ later → From before later → To a before later)
      → Brings log mine From (over a) To
  unfolding Held Left
  brings_over {A} From a To goes before part later p is agree from = (
    λ new left. keep_none log before part left.0,
    λ result new held. (
      keep_none log before part held.0,
      subst (λ (r : A). To r (before ++ part) later) (sym held.1) (subst (λ (xs : List Exchange). To a xs later) (sym (ap (λ (xs : List Exchange). before ++ xs) held.0 ∙ append-nil before))
          (goes before later (is ∙ ap (λ (xs : List Exchange). before ++ (xs ++ later)) held.0) (subst (λ (xs : List Exchange). From before (xs ++ later)) held.0 from))),
    ),
  )

  pub brings_reads : {A : Type 0} (From : List Exchange → List Exchange → Type 0) (look : SessionProgress → Doing A) (To : A → List Exchange → List Exchange → Type 0) → ((p : SessionProgress) → Brings log mine From (look p) To) → Brings log mine From (reads look) To
  unfolding Held Left
  brings_reads From look To brings before part later p is agree from = brings p before part later p is agree from

  pub brings_makes : {A : Type 0} (From : List Exchange → List Exchange → Type 0) (step : SessionStep) (next : Doing A) (To : A → List Exchange → List Exchange → Type 0) → Brings log mine From next To → Brings log mine From (makes step next) To
  unfolding Held Left
  brings_makes {A} From step next To brings before part later p is agree from =
      let on = brings before part later (made step p) is (made_open step p ∙ agree) from in
      (λ new left. elim left [ inl here ↦ keep_none log before part here.0 | inr there ↦ on.0 new there ], on.1)

  pub brings_room : {A : Type 0} (From : List Exchange → List Exchange → Type 0) (next : Bool → Doing A) (To : A → List Exchange → List Exchange → Type 0) → ((enough : Bool) → Brings log mine From (next enough) To) → Brings log mine From (room next) To
  unfolding Held Left
  brings_room From next To brings before part later p is agree from =
      (λ new left. (brings left.0 before part later p is agree from).0 new left.1, λ result new held. (brings held.0 before part later p is agree from).1 result new held.1)

  pub brings_defines : {A : Type 0} (From : List Exchange → List Exchange → Type 0) (entry : List Value × List Value) (next : Option Definition → Doing A) (To : A → List Exchange → List Exchange → Type 0)
      → ((found : Option Definition) → IsDefinitionIn entry found → Brings log mine From (next found) To) → Brings log mine From (defines entry next) To
  unfolding Held Left
  brings_defines From entry next To brings before part later p is agree from = (
    λ new left. elim left [ inl here ↦ keep_none log before part here.0 | inr there ↦ (brings there.0 there.1 before part later p is agree from).0 new there.2 ],
    λ result new held. (brings held.0 held.1 before part later p is agree from).1 result new held.2,
  )

  pub brings_never : {A : Type 0} (From : List Exchange → List Exchange → Type 0) (To : A → List Exchange → List Exchange → Type 0) → Brings log mine From never To
  unfolding Held Left
  brings_never From To before part later p is agree from = (λ new left. keep_none log before part left.0, λ result new held. absurd held)

  -- one exchange, of which it is known how it may be replied
  abbrev pub Steps : (List Exchange → List Exchange → Type 0) → Op → (Reply → List Exchange → List Exchange → Type 0) → Type 0
  Steps From op Mid = (before : List Exchange) (x : Exchange) (later : List Exchange) → mine ≡ before ++ x ∷ later → x.op ≡ op → CanReply op x.reply → From before (x ∷ later)
      → (x.op ≡ ops.Commit → Keeps log before x) × Mid x.reply (before ++ x ∷ []) later

  pub brings_asks : {A : Type 0} (From : List Exchange → List Exchange → Type 0) (op : Op) (go : Reply → Doing A) (Mid : Reply → List Exchange → List Exchange → Type 0) (To : A → List Exchange → List Exchange → Type 0)
      → Steps From op Mid → ((reply : Reply) → CanReply op reply → Brings log mine (Mid reply) (go reply) To) → Brings log mine From (asks op go) To
  unfolding Held Left
  brings_asks From op go Mid To step brings before [] later p is agree from = (λ new left. keep_none log before [] refl, λ result new held. absurd held)
  brings_asks {A} From op go Mid To step brings before (x ∷ part) later p is agree from = (by_left, by_held)
    where
      split : mine ≡ (before ++ x ∷ []) ++ (part ++ later)
      split = is ∙ sym (append_assoc before (x ∷ []) (part ++ later))

      on : x.op ≡ op → CanReply op x.reply → (x.op ≡ ops.Commit → Keeps log before x) × (((new : SessionProgress) → Left (go x.reply) (asked op x.reply p) part new → CommitsKeep log (before ++ x ∷ []) part)
          × ((result : A) (new : SessionProgress) → Held (go x.reply) (asked op x.reply p) part result new → CommitsKeep log (before ++ x ∷ []) part × To result ((before ++ x ∷ []) ++ part) later))
      on of can =
          let one = step before x (part ++ later) is of can from in (
            one.0,
            brings x.reply can (before ++ x ∷ []) part later (asked op x.reply p) split
                (sym (asked_open (progress_of before) p op x (sym agree) of) ∙ sym (ap (λ q. q.is_open) (after_one before x))) one.1,
          )

      by_left : (new : SessionProgress) → Left (asks op go) p (x ∷ part) new → CommitsKeep log before (x ∷ part)
      by_left new left = let o = on left.0 left.2 in keep_more log before x part o.0 (o.1.0 new left.3)

      by_held : (result : A) (new : SessionProgress) → Held (asks op go) p (x ∷ part) result new → CommitsKeep log before (x ∷ part) × To result (before ++ x ∷ part) later
      by_held result new held =
          let o = on held.0 held.2 in
          let was = o.1.1 result new held.3 in
          (keep_more log before x part o.0 was.0, subst (λ (xs : List Exchange). To result xs later) (append_assoc before (x ∷ []) part) was.1)

  -- ---- one tree behind another

  module _ {A B : Type 0} (From : List Exchange → List Exchange → Type 0) (tree : Doing A) (Mid : A → List Exchange → List Exchange → Type 0) (go : A → Doing B) (To : B → List Exchange → List Exchange → Type 0)
      (first : Brings log mine From tree Mid) (second : (a : A) → Brings log mine (Mid a) (go a) To)
      (before part later : List Exchange) (p : SessionProgress) (is : mine ≡ before ++ (part ++ later)) (agree : p.is_open ≡ (progress_of before).is_open) (from : From before (part ++ later)) where
    module _ (front back : List Exchange) (a : A) (mid : SessionProgress) (parts : part ≡ front ++ back) (was : Held tree p front a mid) where
      split : mine ≡ before ++ (front ++ (back ++ later))
      split = is ∙ ap (λ (xs : List Exchange). before ++ xs) (ap (λ (xs : List Exchange). xs ++ later) parts ∙ append_assoc front back later)

      from_first : From before (front ++ (back ++ later))
      from_first = subst (From before) (ap (λ (xs : List Exchange). xs ++ later) parts ∙ append_assoc front back later) from

      came : CommitsKeep log before front × Mid a (before ++ front) (back ++ later)
      came = (first before front (back ++ later) p split agree from_first).1 a mid was

      on : ((new : SessionProgress) → Left (go a) mid back new → CommitsKeep log (before ++ front) back)
          × ((result : B) (new : SessionProgress) → Held (go a) mid back result new → CommitsKeep log (before ++ front) back × To result ((before ++ front) ++ back) later)
      on = second a (before ++ front) back later mid (split ∙ sym (append_assoc before front (back ++ later))) (open_behind tree before front p mid a agree was) came.1

    then_left : (new : SessionProgress) → Left (tree then go) p part new → CommitsKeep log before part
    then_left new left = elim (left_apart tree go p new part left) [
      | inl here ↦ (first before part later p is agree from).0 new here
      | inr o ↦ subst (CommitsKeep log before) (sym o.parts) (keep_both log before o.front o.back (came o.front o.back o.came o.mid o.parts o.held).0 ((on o.front o.back o.came o.mid o.parts o.held).0 new o.rest))
    ]

    then_held : (result : B) (new : SessionProgress) → Held (tree then go) p part result new → CommitsKeep log before part × To result (before ++ part) later
    then_held result new held =
        let o = held_apart tree go p new part result held in
        let was = (on o.front o.back o.came o.mid o.parts o.held).1 result new o.rest in (
          subst (CommitsKeep log before) (sym o.parts) (keep_both log before o.front o.back (came o.front o.back o.came o.mid o.parts o.held).0 was.0),
          subst (λ (xs : List Exchange). To result xs later) (append_assoc before o.front o.back ∙ ap (λ (xs : List Exchange). before ++ xs) (sym o.parts)) was.1,
        )

  pub brings_then : {A B : Type 0} (From : List Exchange → List Exchange → Type 0) (tree : Doing A) (Mid : A → List Exchange → List Exchange → Type 0) (go : A → Doing B) (To : B → List Exchange → List Exchange → Type 0)
      → Brings log mine From tree Mid → ((a : A) → Brings log mine (Mid a) (go a) To) → Brings log mine From (tree then go) To
  brings_then From tree Mid go To first second before part later p is agree from =
      (then_left From tree Mid go To first second before part later p is agree from, then_held From tree Mid go To first second before part later p is agree from)

  -- where the first may fail
  pub brings_bind : {A B : Type 0} (From : List Exchange → List Exchange → Type 0) (tree : Doing (Result A Failure)) (Mid : Result A Failure → List Exchange → List Exchange → Type 0) (go : A → Doing (Result B Failure))
      (To : Result B Failure → List Exchange → List Exchange → Type 0) → Brings log mine From tree Mid → ((a : A) → Brings log mine (Mid (Ok a)) (go a) To)
      → ((failure : Failure) (before later : List Exchange) → mine ≡ before ++ later → Mid (Err failure) before later → To (Err failure) before later) → Brings log mine From (tree >>= go) To
  brings_bind {A} {B} From tree Mid go To first second failed = brings_then From tree Mid (on_ok go) To first by_came
    where
      by_came : (came : Result A Failure) → Brings log mine (Mid came) (on_ok go came) To
      by_came (Ok a) = second a
      by_came (Err failure) = brings_over (Mid (Err failure)) (Err failure) To (failed failure)

  -- from less and to more
  pub brings_mono : {A : Type 0} (From Less : List Exchange → List Exchange → Type 0) (tree : Doing A) (To More : A → List Exchange → List Exchange → Type 0) → ((before later : List Exchange) → mine ≡ before ++ later → Less before later → From before later)
      → ((a : A) (before later : List Exchange) → mine ≡ before ++ later → To a before later → More a before later) → Brings log mine From tree To → Brings log mine Less tree More
  brings_mono From Less tree To More less more brings before part later p is agree from =
      let on = brings before part later p is agree (less before (part ++ later) is from) in
      (on.0, λ result new held. let was = on.1 result new held in (was.0, more result (before ++ part) later (is ∙ sym (append_assoc before part later)) was.1))
