-- Points of what was done, along one tree behind another.
use Rattle.std.proofs.Common.{◌≡◌, inl, inr, refl, sym, ap, ◌∙◌, subst, ℕ, zero, suc, List, [], ◌∷◌, ◌++◌, append_assoc}
use Rattle.step_model.specs.Exchange.{Exchange}
use Rattle.batch_meaning.specs.declared.exit.Exit.{Exit}
use Rattle.batch_meaning.specs.declared.raised.Raised.{Raised}
use Rattle.batch_meaning.specs.Doing.{Doing, asks, defines, makes, never, over, reads, room, ◌then◌, Held}
use Rattle.batch_meaning.specs.Meaning.{mean_of}
use Rattle.batch_meaning.specs.Progress.{SessionProgress, asked, made}
use Rattle.statement_paths.proofs.Apart.{held_then}
use Rattle.cause_laws.specs.Statements.{Begun, ComesTo, Finds, Passes, Point, Raises, Ran, Throws, tree_by}

-- ---- trees that mean the same

pub then_then : {A B C : Type 0} (tree : Doing A) (f : A → Doing B) (g : B → Doing C) → ((tree then f) then g) ≡ (tree then λ a. f a then g)
unfolding ◌then◌
then_then (over a) f g = refl
then_then (reads look) f g = λ i. reads (λ p. then_then (look p) f g i)
then_then (makes step next) f g = λ i. makes step (then_then next f g i)
then_then (defines entry next) f g = λ i. defines entry (λ found. then_then (next found) f g i)
then_then (asks op next) f g = λ i. asks op (λ reply. then_then (next reply) f g i)
then_then (room next) f g = λ i. room (λ enough. then_then (next enough) f g i)
then_then never f g = refl

pub then_over : {A : Type 0} (tree : Doing A) → (tree then λ a. over a) ≡ tree
unfolding ◌then◌
then_over (over a) = refl
then_over (reads look) = λ i. reads (λ p. then_over (look p) i)
then_over (makes step next) = λ i. makes step (then_over next i)
then_over (defines entry next) = λ i. defines entry (λ found. then_over (next found) i)
then_over (asks op next) = λ i. asks op (λ reply. then_over (next reply) i)
then_over (room next) = λ i. room (λ enough. then_over (next enough) i)
then_over never = refl

-- ---- points

pub passes_here : {A : Type 0} (Such : Point A) (tree : Doing A) (p : SessionProgress) (exchanges : List Exchange) → Such tree p exchanges → Passes Such tree p exchanges
unfolding Passes
passes_here Such (over a) p exchanges is = is
passes_here Such (reads look) p exchanges is = inl is
passes_here Such (makes step next) p exchanges is = inl is
passes_here Such (defines entry go) p exchanges is = inl is
passes_here Such (asks op go) p [] is = is
passes_here Such (asks op go) p (x ∷ later) is = inl is
passes_here Such (room go) p exchanges is = inl is
passes_here Such never p exchanges is = is

-- in the first of two trees
module _ {A B : Type 0} (Such : Point A) (Other : Point B) (go : A → Doing B) (back : List Exchange) (each : (tree : Doing A) (p : SessionProgress) (exchanges : List Exchange) → Such tree p exchanges → Other (tree then go) p (exchanges ++ back)) where
  pub passes_front : (tree : Doing A) (p : SessionProgress) (exchanges : List Exchange) → Passes Such tree p exchanges → Passes Other (tree then go) p (exchanges ++ back)
  unfolding Passes ◌then◌
  passes_front (over a) p exchanges is = passes_here Other (go a) p (exchanges ++ back) (each (over a) p exchanges is)
  passes_front (reads look) p exchanges (inl is) = inl (each (reads look) p exchanges is)
  passes_front (reads look) p exchanges (inr on) = inr (passes_front (look p) p exchanges on)
  passes_front (makes step next) p exchanges (inl is) = inl (each (makes step next) p exchanges is)
  passes_front (makes step next) p exchanges (inr on) = inr (passes_front next (made step p) exchanges on)
  passes_front (defines entry next) p exchanges (inl is) = inl (each (defines entry next) p exchanges is)
  passes_front (defines entry next) p exchanges (inr on) = inr (on.0, on.1, passes_front (next on.0) p exchanges on.2)
  passes_front (asks op next) p [] is = passes_here Other (asks op λ reply. next reply then go) p back (each (asks op next) p [] is)
  passes_front (asks op next) p (x ∷ later) (inl is) = inl (each (asks op next) p (x ∷ later) is)
  passes_front (asks op next) p (x ∷ later) (inr on) = inr (on.0, on.1, on.2, passes_front (next x.reply) (asked op x.reply p) later on.3)
  passes_front (room next) p exchanges (inl is) = inl (each (room next) p exchanges is)
  passes_front (room next) p exchanges (inr on) = inr (on.0, passes_front (next on.0) p exchanges on.1)
  passes_front never p exchanges is = each never p exchanges is

-- in the second, behind what the first did
pub passes_behind : {A B : Type 0} (Such : Point B) (tree : Doing A) (go : A → Doing B) (p mid : SessionProgress) (front back : List Exchange) (a : A) → Held tree p front a mid → Passes Such (go a) mid back → Passes Such (tree then go) p (front ++ back)
unfolding Passes Held ◌then◌
passes_behind Such (over c) go p mid front back a held is =
    subst (λ (l : List Exchange). Passes Such (go c) p (l ++ back)) (sym held.0) (subst (λ (q : SessionProgress). Passes Such (go c) q back) held.2 (subst (λ x. Passes Such (go x) mid back) held.1 is))
passes_behind Such (reads look) go p mid front back a held is = inr (passes_behind Such (look p) go p mid front back a held is)
passes_behind Such (makes step next) go p mid front back a held is = inr (passes_behind Such next go (made step p) mid front back a held is)
passes_behind Such (defines entry next) go p mid front back a held is = inr (held.0, held.1, passes_behind Such (next held.0) go p mid front back a held.2 is)
passes_behind Such (asks op next) go p mid [] back a held is = absurd held
passes_behind Such (asks op next) go p mid (x ∷ front) back a held is = inr (held.0, held.1, held.2, passes_behind Such (next x.reply) go (asked op x.reply p) mid front back a held.3 is)
passes_behind Such (room next) go p mid front back a held is = inr (held.0, passes_behind Such (next held.0) go p mid front back a held.1 is)
passes_behind Such never go p mid front back a held is = absurd held

-- ---- statements that ran

-- where more is done behind them
module _ {A B : Type 0} (go : A → Doing B) (mid new : SessionProgress) (back : List Exchange) (a : A) (b : B) (more : Held (go a) mid back b new) where
  abbrev pub ran_front : (rest : Doing A) (p : SessionProgress) (exchanges : List Exchange) → Ran rest p exchanges a mid → Ran (rest then go) p (exchanges ++ back) b new
  ran_front rest p exchanges ran = record {
    begun = ran.begun;
    levels = ran.levels;
    go = λ exit. ran.go exit then go;
    own = ran.own;
    behind = ran.behind ++ back;
    exit = ran.exit;
    mid = ran.mid;
    begins = ap (λ (t : Doing A). t then go) ran.begins ∙ then_then (tree_by (λ inner at. mean_of ran.levels inner at) ran.begun) ran.go go;
    parts = ap (λ (l : List Exchange). l ++ back) ran.parts ∙ append_assoc ran.own ran.behind back;
    runs = ran.runs;
    goes_on = held_then (ran.go ran.exit) go ran.mid mid new ran.behind back a b ran.goes_on more;
  }

  module _ (End : SessionProgress → Exit → SessionProgress → Type 0) where
    comes_front : (times : ℕ) (rest : Doing A) (p : SessionProgress) (exchanges : List Exchange) (ran : Ran rest p exchanges a mid) → ComesTo times End ran → ComesTo times End (ran_front rest p exchanges ran)
    unfolding ComesTo
    comes_front zero rest p exchanges ran is = is
    comes_front (suc times) rest p exchanges ran is = (
      is.0,
      is.1,
      passes_front _ _ go back
          (λ tree q xs next. (ran_front tree q xs next.0, next.1, comes_front times tree q xs next.0 next.2)) (ran.go ran.exit) ran.mid ran.behind is.2,
    )

    pub finds_front : (times : ℕ) (Such : Begun → List Exchange → Type 0) (tree : Doing A) (p : SessionProgress) (exchanges : List Exchange) → Finds times Such End a mid tree p exchanges → Finds times Such End b new (tree then go) p (exchanges ++ back)
    finds_front times Such tree p exchanges is = passes_front _ _ go back (λ rest q xs one. (ran_front rest q xs one.0, one.1, comes_front times rest q xs one.0 one.2)) tree p exchanges is

  -- an error that they leave on its way is thrown again behind them
  module _ (raised : Raised) (End : SessionProgress → Exit → SessionProgress → Type 0) (later : ℕ) (thrown : Finds later (Throws raised) End b new (go a) mid back) where
    -- how often it is thrown again then
    abbrev pub more_times : ℕ → ℕ
    more_times zero = suc later
    more_times (suc times) = suc (more_times times)

    comes_on : (times : ℕ) (rest : Doing A) (p : SessionProgress) (exchanges : List Exchange) (ran : Ran rest p exchanges a mid) → ComesTo times (Raises raised) ran → ComesTo (more_times times) End (ran_front rest p exchanges ran)
    unfolding ComesTo
    comes_on zero rest p exchanges ran is = (raised, is, passes_behind _ (ran.go ran.exit) go ran.mid mid ran.behind back a ran.goes_on thrown)
    comes_on (suc times) rest p exchanges ran is = (
      is.0,
      is.1,
      passes_front _ _ go back
          (λ tree q xs next. (ran_front tree q xs next.0, next.1, comes_on times tree q xs next.0 next.2)) (ran.go ran.exit) ran.mid ran.behind is.2,
    )

    pub finds_on : (times : ℕ) (Such : Begun → List Exchange → Type 0) (tree : Doing A) (p : SessionProgress) (exchanges : List Exchange) → Finds times Such (Raises raised) a mid tree p exchanges → Finds (more_times times) Such End b new (tree then go) p (exchanges ++ back)
    finds_on times Such tree p exchanges is = passes_front _ _ go back (λ rest q xs one. (ran_front rest q xs one.0, one.1, comes_on times rest q xs one.0 one.2)) tree p exchanges is

-- what was found in the second of two trees
pub finds_behind : {A B : Type 0} (times : ℕ) (Such : Begun → List Exchange → Type 0) (End : SessionProgress → Exit → SessionProgress → Type 0) (tree : Doing A) (go : A → Doing B) (p mid new : SessionProgress) (front back : List Exchange) (a : A) (b : B)
    → Held tree p front a mid → Finds times Such End b new (go a) mid back → Finds times Such End b new (tree then go) p (front ++ back)
finds_behind times Such End tree go p mid new front back a b held is = passes_behind _ tree go p mid front back a held is
