-- A tree that was held is taken apart: what its first part asked, and what the rest did.
use Rattle.std.proofs.Common.{◌≡◌, ◌⊎◌, inl, inr, Bool, true, false, if◌then◌else◌, List, [], ◌∷◌, ◌++◌, Result, Ok, Err, refl, sym, ap, ◌∙◌, subst, append-nil}
use Rattle.step_model.specs.declared.op.Op.{Op}
use Rattle.step_model.specs.declared.reply.Reply.{Reply}
use Rattle.step_model.specs.Dialog as said
use Rattle.step_model.specs.Dialog.{Dialog}
use Rattle.step_model.specs.Exchange.{Exchange}
use Rattle.step_model.specs.Ranges.{no_memory}
use Rattle.batch_meaning.specs.declared.failure.Failure.{Failure}
use Rattle.batch_meaning.specs.Progress.{SessionProgress, touches, made, asked, asked_all}
use Rattle.batch_meaning.specs.Doing.{Doing, over, reads, makes, defines, asks, room, never, ◌then◌, Held, Left}
use Rattle.batch_meaning.specs.Asking.{fails, on_ok, ◌>>=◌, with_room, comes_to, ◌gives◌, holds}
use Rattle.statement_paths.specs.Paths.{IsAsked}

-- ---- one tree behind another

-- the first tree came to something, and the rest did what is left
pub record Apart {A : Type 0} (first : Doing A) (p : SessionProgress) (exchanges : List Exchange) (Rest : A → SessionProgress → List Exchange → Type 0) : Type 0 where
  pub front : List Exchange
  pub back : List Exchange
  pub came : A
  pub mid : SessionProgress
  pub parts : exchanges ≡ front ++ back
  pub held : Held first p front came mid
  pub rest : Rest came mid back

pub held_apart : {A B : Type 0} (tree : Doing A) (go : A → Doing B) (p new : SessionProgress) (exchanges : List Exchange) (b : B)
    → Held (tree then go) p exchanges b new → Apart tree p exchanges (λ a mid back. Held (go a) mid back b new)
unfolding Held ◌then◌
held_apart (over c) go p new exchanges b held = record { front = []; back = exchanges; came = c; mid = p; parts = refl; held = (refl, refl, refl); rest = held }
held_apart (reads look) go p new exchanges b held =
    let on = held_apart (look p) go p new exchanges b held in record { front = on.front; back = on.back; came = on.came; mid = on.mid; parts = on.parts; held = on.held; rest = on.rest }
held_apart (makes step next) go p new exchanges b held =
    let on = held_apart next go (made step p) new exchanges b held in record { front = on.front; back = on.back; came = on.came; mid = on.mid; parts = on.parts; held = on.held; rest = on.rest }
held_apart (defines entry next) go p new exchanges b held =
    let on = held_apart (next held.0) go p new exchanges b held.2 in record { front = on.front; back = on.back; came = on.came; mid = on.mid; parts = on.parts; held = (held.0, held.1, on.held); rest = on.rest }
held_apart (asks op next) go p new [] b held = absurd held
held_apart (asks op next) go p new (x ∷ later) b held =
    let on = held_apart (next x.reply) go (asked op x.reply p) new later b held.3 in
    record { front = x ∷ on.front; back = on.back; came = on.came; mid = on.mid; parts = ap (λ (l : List Exchange). x ∷ l) on.parts; held = (held.0, held.1, held.2, on.held); rest = on.rest }
held_apart (room next) go p new exchanges b held =
    let on = held_apart (next held.0) go p new exchanges b held.1 in record { front = on.front; back = on.back; came = on.came; mid = on.mid; parts = on.parts; held = (held.0, on.held); rest = on.rest }
held_apart never go p new exchanges b held = absurd held

-- and both are held together
pub held_then : {A B : Type 0} (tree : Doing A) (go : A → Doing B) (p mid new : SessionProgress) (front back : List Exchange) (a : A) (b : B)
    → Held tree p front a mid → Held (go a) mid back b new → Held (tree then go) p (front ++ back) b new
unfolding Held ◌then◌
held_then {B = B} (over c) go p mid new front back a b held more =
    subst (λ (l : List Exchange). Held (go c) p l b new) (sym (ap (λ (l : List Exchange). l ++ back) held.0))
    (subst (λ (q : SessionProgress). Held (go c) q back b new) held.2 (subst (λ x. Held (go x) mid back b new) held.1 more))
held_then (reads look) go p mid new front back a b held more = held_then (look p) go p mid new front back a b held more
held_then (makes step next) go p mid new front back a b held more = held_then next go (made step p) mid new front back a b held more
held_then (defines entry next) go p mid new front back a b held more = (held.0, held.1, held_then (next held.0) go p mid new front back a b held.2 more)
held_then (asks op next) go p mid new [] back a b held more = absurd held
held_then (asks op next) go p mid new (x ∷ front) back a b held more = (held.0, held.1, held.2, held_then (next x.reply) go (asked op x.reply p) mid new front back a b held.3 more)
held_then (room next) go p mid new front back a b held more = (held.0, held_then (next held.0) go p mid new front back a b held.1 more)
held_then never go p mid new front back a b held more = absurd held

-- so is the first, with what the rest was left with
pub left_then : {A B : Type 0} (tree : Doing A) (go : A → Doing B) (p mid new : SessionProgress) (front back : List Exchange) (a : A)
    → Held tree p front a mid → Left (go a) mid back new → Left (tree then go) p (front ++ back) new
unfolding Held Left ◌then◌
left_then {B = B} (over c) go p mid new front back a held more =
    subst (λ (l : List Exchange). Left (go c) p l new) (sym (ap (λ (l : List Exchange). l ++ back) held.0))
    (subst (λ (q : SessionProgress). Left (go c) q back new) held.2 (subst (λ x. Left (go x) mid back new) held.1 more))
left_then (reads look) go p mid new front back a held more = left_then (look p) go p mid new front back a held more
left_then (makes step next) go p mid new front back a held more = inr (left_then next go (made step p) mid new front back a held more)
left_then (defines entry next) go p mid new front back a held more = inr (held.0, held.1, left_then (next held.0) go p mid new front back a held.2 more)
left_then (asks op next) go p mid new [] back a held more = absurd held
left_then (asks op next) go p mid new (x ∷ front) back a held more = (held.0, held.1, held.2, left_then (next x.reply) go (asked op x.reply p) mid new front back a held.3 more)
left_then (room next) go p mid new front back a held more = (held.0, left_then (next held.0) go p mid new front back a held.1 more)
left_then never go p mid new front back a held more = absurd held

-- each tree may be left where it begins
pub left_start : {A : Type 0} (tree : Doing A) (p : SessionProgress) → Left tree p [] p
unfolding Left
left_start (over c) p = (refl, refl)
left_start (reads look) p = left_start (look p) p
left_start (makes step next) p = inl (refl, refl)
left_start (defines entry next) p = inl (refl, refl)
left_start (asks op next) p = refl
left_start (room next) p = (true, left_start (next true) p)
left_start never p = (refl, refl)

-- so both may be left in the first
pub left_front : {A B : Type 0} (tree : Doing A) (go : A → Doing B) (p new : SessionProgress) (exchanges : List Exchange) → Left tree p exchanges new → Left (tree then go) p exchanges new
unfolding Left ◌then◌
left_front {B = B} (over c) go p new exchanges left =
    subst (λ (l : List Exchange). Left (go c) p l new) (sym left.0) (subst (λ (q : SessionProgress). Left (go c) p [] q) (sym left.1) (left_start (go c) p))
left_front (reads look) go p new exchanges left = left_front (look p) go p new exchanges left
left_front (makes step next) go p new exchanges (inl here) = inl here
left_front (makes step next) go p new exchanges (inr later) = inr (left_front next go (made step p) new exchanges later)
left_front (defines entry next) go p new exchanges (inl here) = inl here
left_front (defines entry next) go p new exchanges (inr later) = inr (later.0, later.1, left_front (next later.0) go p new exchanges later.2)
left_front (asks op next) go p new [] left = left
left_front (asks op next) go p new (x ∷ later) left = (left.0, left.1, left.2, left_front (next x.reply) go (asked op x.reply p) new later left.3)
left_front (room next) go p new exchanges left = (left.0, left_front (next left.0) go p new exchanges left.1)
left_front never go p new exchanges left = left

-- what was left was left in the first tree, or in the rest
pub left_apart : {A B : Type 0} (tree : Doing A) (go : A → Doing B) (p new : SessionProgress) (exchanges : List Exchange)
    → Left (tree then go) p exchanges new → Left tree p exchanges new ⊎ Apart tree p exchanges (λ a mid back. Left (go a) mid back new)
unfolding Held Left ◌then◌
left_apart {A = A} {B = B} (over c) go p new exchanges left = inr (record { front = []; back = exchanges; came = c; mid = p; parts = refl; held = (refl, refl, refl); rest = left })
left_apart {A = A} {B = B} (reads look) go p new exchanges left = by_on (left_apart (look p) go p new exchanges left)
  where
    by_on : Left (look p) p exchanges new ⊎ Apart (look p) p exchanges (λ a mid back. Left (go a) mid back new) → Left (reads look) p exchanges new ⊎ Apart (reads look) p exchanges (λ a mid back. Left (go a) mid back new)
    by_on (inl here) = inl here
    by_on (inr on) = inr (record { front = on.front; back = on.back; came = on.came; mid = on.mid; parts = on.parts; held = on.held; rest = on.rest })
left_apart {A = A} {B = B} (makes step next) go p new exchanges (inl here) = inl (inl here)
left_apart {A = A} {B = B} (makes step next) go p new exchanges (inr later) = by_on (left_apart next go (made step p) new exchanges later)
  where
    by_on : Left next (made step p) exchanges new ⊎ Apart next (made step p) exchanges (λ a mid back. Left (go a) mid back new) → Left (makes step next) p exchanges new ⊎ Apart (makes step next) p exchanges (λ a mid back. Left (go a) mid back new)
    by_on (inl here) = inl (inr here)
    by_on (inr on) = inr (record { front = on.front; back = on.back; came = on.came; mid = on.mid; parts = on.parts; held = on.held; rest = on.rest })
left_apart {A = A} {B = B} (defines entry next) go p new exchanges (inl here) = inl (inl here)
left_apart {A = A} {B = B} (defines entry next) go p new exchanges (inr later) = by_on (left_apart (next later.0) go p new exchanges later.2)
  where
    by_on : Left (next later.0) p exchanges new ⊎ Apart (next later.0) p exchanges (λ a mid back. Left (go a) mid back new) → Left (defines entry next) p exchanges new ⊎ Apart (defines entry next) p exchanges (λ a mid back. Left (go a) mid back new)
    by_on (inl here) = inl (inr (later.0, later.1, here))
    by_on (inr on) = inr (record { front = on.front; back = on.back; came = on.came; mid = on.mid; parts = on.parts; held = (later.0, later.1, on.held); rest = on.rest })
left_apart {A = A} {B = B} (asks op next) go p new [] left = inl left
left_apart {A = A} {B = B} (asks op next) go p new (x ∷ later) left = by_on (left_apart (next x.reply) go (asked op x.reply p) new later left.3)
  where
    by_on : Left (next x.reply) (asked op x.reply p) later new ⊎ Apart (next x.reply) (asked op x.reply p) later (λ a mid back. Left (go a) mid back new) → Left (asks op next) p (x ∷ later) new ⊎ Apart (asks op next) p (x ∷ later) (λ a mid back. Left (go a) mid back new)
    by_on (inl here) = inl (left.0, left.1, left.2, here)
    by_on (inr on) = inr (record { front = x ∷ on.front; back = on.back; came = on.came; mid = on.mid; parts = ap (λ (l : List Exchange). x ∷ l) on.parts; held = (left.0, left.1, left.2, on.held); rest = on.rest })
left_apart {A = A} {B = B} (room next) go p new exchanges left = by_on (left_apart (next left.0) go p new exchanges left.1)
  where
    by_on : Left (next left.0) p exchanges new ⊎ Apart (next left.0) p exchanges (λ a mid back. Left (go a) mid back new) → Left (room next) p exchanges new ⊎ Apart (room next) p exchanges (λ a mid back. Left (go a) mid back new)
    by_on (inl here) = inl (left.0, here)
    by_on (inr on) = inr (record { front = on.front; back = on.back; came = on.came; mid = on.mid; parts = on.parts; held = (left.0, on.held); rest = on.rest })
left_apart {A = A} {B = B} never go p new exchanges left = inl left

-- what was held to its end could have been left there
pub held_left : {A : Type 0} (tree : Doing A) (p new : SessionProgress) (exchanges : List Exchange) (a : A) → Held tree p exchanges a new → Left tree p exchanges new
unfolding Held Left
held_left (over c) p new exchanges a held = (held.0, held.2)
held_left (reads look) p new exchanges a held = held_left (look p) p new exchanges a held
held_left (makes step next) p new exchanges a held = inr (held_left next (made step p) new exchanges a held)
held_left (defines entry go) p new exchanges a held = inr (held.0, held.1, held_left (go held.0) p new exchanges a held.2)
held_left (asks op go) p new [] a held = absurd held
held_left (asks op go) p new (x ∷ later) a held = (held.0, held.1, held.2, held_left (go x.reply) (asked op x.reply p) new later a held.3)
held_left (room go) p new exchanges a held = (held.0, held_left (go held.0) p new exchanges a held.1)
held_left never p new exchanges a held = absurd held

-- ---- parts that may fail

-- the first part succeeded, where the whole did
pub bind_apart : {A B : Type 0} (tree : Doing (Result A Failure)) (go : A → Doing (Result B Failure)) (p new : SessionProgress) (exchanges : List Exchange) (b : B)
    → Held (tree >>= go) p exchanges (Ok b) new
    → (front back : List Exchange) × (a : A) × (mid : SessionProgress) × (exchanges ≡ front ++ back) × Held tree p front (Ok a) mid × Held (go a) mid back (Ok b) new
unfolding Held
bind_apart {A = A} {B = B} tree go p new exchanges b held =
    let on = held_apart tree (on_ok go) p new exchanges (Ok b) held in by_came on.front on.back on.mid on.came on.parts on.held on.rest
  where
    by_came : (front back : List Exchange) (mid : SessionProgress) (came : Result A Failure) → exchanges ≡ front ++ back → Held tree p front came mid → Held (on_ok go came) mid back (Ok b) new
        → (front back : List Exchange) × (a : A) × (mid : SessionProgress) × (exchanges ≡ front ++ back) × Held tree p front (Ok a) mid × Held (go a) mid back (Ok b) new
    by_came front back mid (Ok a) parts was rest = (front, back, a, mid, parts, was, rest)
    by_came front back mid (Err failure) parts was rest = absurd (let no : Ok b ≡ Err failure = rest.1 in cc)

-- there was room, where it succeeded
pub room_apart : {A : Type 0} (tree : Doing (Result A Failure)) (p new : SessionProgress) (exchanges : List Exchange) (a : A) → Held (with_room tree) p exchanges (Ok a) new → Held tree p exchanges (Ok a) new
unfolding Held
room_apart {A = A} tree p new exchanges a held = by_enough held.0 held.1
  where
    by_enough : (enough : Bool) → Held (if enough then tree else fails no_memory) p exchanges (Ok a) new → Held tree p exchanges (Ok a) new
    by_enough true was = was
    by_enough false was = absurd (let no : Ok a ≡ Err _ = was.1 in cc)

-- a result that is there at once
pub comes_apart : {A : Type 0} (result : Result A Failure) (p new : SessionProgress) (exchanges : List Exchange) (a : A) → Held (comes_to result) p exchanges (Ok a) new → (exchanges ≡ []) × (result ≡ Ok a) × (new ≡ p)
unfolding Held
comes_apart result p new exchanges a held = let was = room_apart (over result) p new exchanges a held in (was.0, sym was.1, was.2)

-- by what the first part came to, where the whole failed: it failed so, or it succeeded, and the rest failed
pub bind_failed : {A B : Type 0} (tree : Doing (Result A Failure)) (go : A → Doing (Result B Failure)) (p new : SessionProgress) (exchanges : List Exchange) (failure : Failure)
    → Held (tree >>= go) p exchanges (Err failure) new
    → Held tree p exchanges (Err failure) new ⊎ ((front back : List Exchange) × (a : A) × (mid : SessionProgress) × (exchanges ≡ front ++ back) × Held tree p front (Ok a) mid × Held (go a) mid back (Err failure) new)
unfolding Held
bind_failed {A = A} {B = B} tree go p new exchanges failure held =
    let on = held_apart tree (on_ok go) p new exchanges (Err failure) held in by_came on.front on.back on.mid on.came on.parts on.held on.rest
  where
    by_came : (front back : List Exchange) (mid : SessionProgress) (came : Result A Failure) → exchanges ≡ front ++ back → Held tree p front came mid → Held (on_ok go came) mid back (Err failure) new
        → Held tree p exchanges (Err failure) new ⊎ ((front back : List Exchange) × (a : A) × (mid : SessionProgress) × (exchanges ≡ front ++ back) × Held tree p front (Ok a) mid × Held (go a) mid back (Err failure) new)
    by_came front back mid (Ok a) parts was rest = inr (front, back, a, mid, parts, was, rest)
    by_came front back mid (Err why) parts was rest =
        let same : why ≡ failure = (let so : Err failure ≡ Err why = rest.1 in cc) in
        let whole : front ≡ exchanges = sym (parts ∙ ap (λ (l : List Exchange). front ++ l) rest.0 ∙ append-nil front) in
        inl (subst (λ (q : SessionProgress). Held tree p exchanges (Err failure) q) (sym rest.2) (subst (λ (l : List Exchange). Held tree p l (Err failure) mid) whole (subst (λ (f : Failure). Held tree p front (Err f) mid) same was)))

-- one operation, and what its reply leads to
pub asks_apart : {A : Type 0} (op : Op) (go : Reply → Doing A) (p new : SessionProgress) (exchanges : List Exchange) (a : A) → Held (asks op go) p exchanges a new
    → (x : Exchange) × (later : List Exchange) × (exchanges ≡ x ∷ later) × IsAsked p.settings.manner op x × Held (go x.reply) (asked op x.reply p) later a new
unfolding Held
asks_apart op go p new [] a held = absurd held
asks_apart op go p new (x ∷ later) a held = (x, later, refl, (held.0, held.1, held.2), held.3)

-- ---- dialogs

-- a dialog was held, and behind it the rest was done
pub record Said {A : Type 0} (p : SessionProgress) (dialog : Dialog A) (exchanges : List Exchange) (Rest : A → SessionProgress → List Exchange → Type 0) : Type 0 where
  pub front : List Exchange
  pub back : List Exchange
  pub came : A
  pub parts : exchanges ≡ front ++ back
  pub held : said.Held p.settings.manner dialog front came
  pub rest : Rest came (asked_all front p) back

pub gives_apart : {A B : Type 0} (dialog : Dialog A) (go : A → Doing B) (p new : SessionProgress) (exchanges : List Exchange) (b : B)
    → Held (dialog gives go) p exchanges b new → Said p dialog exchanges (λ a mid back. Held (go a) mid back b new)
unfolding Held said.Held ◌gives◌
gives_apart (said.over c) go p new exchanges b held = record { front = []; back = exchanges; came = c; parts = refl; held = (refl, refl); rest = held }
gives_apart (said.asks op quiet next) go p new [] b held = absurd held
gives_apart (said.asks op quiet next) go p new (x ∷ later) b held =
    let on = gives_apart (next x.reply) go (asked op x.reply p) new later b held.3 in
    record {
      front = x ∷ on.front;
      back = on.back;
      came = on.came;
      parts = ap (λ (l : List Exchange). x ∷ l) on.parts;
      held = (held.0, held.1, held.2, on.held);
      rest = subst (λ (o : Op). Held (go on.came) (asked_all on.front (asked o x.reply p)) on.back b new) (sym held.0) on.rest;
    }
gives_apart (said.room next) go p new exchanges b held =
    let on = gives_apart (next held.0) go p new exchanges b held.1 in record { front = on.front; back = on.back; came = on.came; parts = on.parts; held = (held.0, on.held); rest = on.rest }
gives_apart said.never go p new exchanges b held = absurd held

pub holds_apart : {A B : Type 0} (dialog : Dialog A) (go : A → Doing B) (p new : SessionProgress) (exchanges : List Exchange) (b : B)
    → Held (holds dialog go) p exchanges b new → Said (made touches p) dialog exchanges (λ a mid back. Held (go a) mid back b new)
unfolding Held
holds_apart dialog go p new exchanges b held = gives_apart dialog go (made touches p) new exchanges b held
