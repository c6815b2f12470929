-- Reading by descent as an ordered choice: what the first lexeme tells, production by production. Rules
-- whose trees keep no part of the batch's text are read alike in every text.
use Rattle.std.specs.Prelude.{◌≡◌, ◌⊎◌, ◌+◌, ◌*◌, length, ℕ, zero, suc, Bool, true, false, not, ◌||◌, ◌&&◌, List, [], ◌∷◌, Option, Some, None, if◌then◌else◌, refl}
use Rattle.std.proofs.Common.{ap, sym, ◌∙◌, inl, inr}
use Rattle.tsql_grammar.specs.declared.kind.Kind.{Kind}
use Rattle.tsql_grammar.specs.declared.kind.Function.TheVariants as f
use Rattle.tsql_grammar.specs.declared.rule.Class.{Class}
use Rattle.tsql_grammar.specs.declared.rule.Mark.{Mark}
use Rattle.tsql_grammar.specs.declared.rule.Rule.{Rule}
use Rattle.tsql_grammar.specs.declared.rule.Rule.TheVariants as r
use Rattle.tsql_grammar.specs.Terminals.{Terminal, kind, admits}
use Rattle.tsql_grammar.specs.Lookahead.{first, first_classes, nullable}
use Rattle.tsql_grammar.specs.Productions.{Tree, Symbols, Production, productions}
use Rattle.tsql_grammar.specs.Language.{top}
use Rattle.tsql_grammar.proofs.Instance.{G, A, predictive, rank, ranked}
use Rattle.grammar_laws.specs.Grammar.{Trees, next}
use Rattle.grammar_laws.specs.Grammar.Symbol.{lexeme, rule, mark}
use Rattle.grammar_laws.specs.Lookahead.{begins_by, empties_by}
use Rattle.grammar_laws.specs.Alternatives.{IndexOf, at, behind, first_where, or_else}
use Rattle.grammar_laws.specs.Descent.{read_all, read_by, expect as expect_by, read as descend}
use Rattle.grammar_laws.proofs.Booleans.{and_true}
use Rattle.grammar_laws.proofs.DescentStable as stable
use Rattle.lexeme_reader.specs.Reading.{Outcome, read, read_in, ahead, expect, sees_any, ◌>>=◌, when}

abbrev Values : Symbols → Type 0
Values = Trees Terminal Tree

-- something that is read of each rule
abbrev pub Reading : Type 0
Reading = (a : Rule) → List Terminal → Outcome (Tree a)

-- the symbols one after another, and then what is done with their values
abbrev pub all : Reading → (B : Type 0) (is : Symbols) → List Terminal → (Values is → List Terminal → Option B) → Option B
all f B [] w k = k tt w
all f B (lexeme c ∷ is) w k = expect c w >>= λ x. all f B is x.1 (λ v rest. k (x.0, v) rest)
all f B (mark m ∷ is) w k = all f B is w k
all f B (rule q ∷ is) w k = f q w >>= λ x. all f B is x.1 (λ v rest. k (x.0, v) rest)

pub bound : {X B : Type 0} (o : Option X) (f g : X → Option B) → ((x : X) → f x ≡ g x) → (o >>= f) ≡ (o >>= g)
bound None f g e = refl
bound (Some x) f g e = e x

expect_same : (text : List ℕ) (c : Class) (w : List Terminal) → expect_by (G text) (A text) c w ≡ expect c w
unfolding expect
expect_same text c [] = refl
expect_same text c (t ∷ w) = refl

all_same : (text : List ℕ) (f : Reading) (B : Type 0) (is : Symbols) (w : List Terminal) (k : Values is → List Terminal → Option B) → read_all (G text) (A text) {B = B} f is w k ≡ all f B is w k
all_same text f B [] w k = refl
all_same text f B (lexeme c ∷ is) w k =
    bound {X = Terminal × List Terminal} {B = B} (expect_by (G text) (A text) c w) _ _ (λ x. all_same text f B is x.1 (λ v rest. k (x.0, v) rest))
    ∙ ap (λ (o : Outcome Terminal). o >>= λ x. all f B is x.1 (λ v rest. k (x.0, v) rest)) (expect_same text c w)
all_same text f B (mark m ∷ is) w k = all_same text f B is w k
all_same text f B (rule q ∷ is) w k = bound {X = Tree q × List Terminal} {B = B} (f q w) _ _ (λ x. all_same text f B is x.1 (λ v rest. k (x.0, v) rest))

-- one production
abbrev pub run_by : Reading → (a : Rule) → Production a → List Terminal → Outcome (Tree a)
run_by f a p w = all f (Tree a × List Terminal) p.symbols w (λ v rest. Some (p.build v, rest))

abbrev run_at : Reading → (a : Rule) (xs : List (Production a)) → List Terminal → Option (IndexOf xs) → Outcome (Tree a)
run_at f a xs w None = None
run_at f a xs w (Some i) = run_by f a (at xs i) w

abbrev may_begin : Symbols → Kind → Bool
may_begin is k = begins_by admits first nullable is k

abbrev may_be_empty : Symbols → Bool
may_be_empty is = empties_by nullable is

abbrev choose_in : {a : Rule} (xs : List (Production a)) → Option Kind → Option (IndexOf xs)
choose_in xs None = first_where (λ p. may_be_empty p.symbols) xs
choose_in xs (Some k) = or_else (first_where (λ p. may_begin p.symbols k) xs) (first_where (λ p. may_be_empty p.symbols) xs)

-- the production among these that the next lexeme chooses
abbrev pub ways_by : Reading → (a : Rule) (xs : List (Production a)) → List Terminal → Outcome (Tree a)
ways_by f a xs w = run_at f a xs w (choose_in {a = a} xs (ahead w))

by_index : (text : List ℕ) (f : Reading) (a : Rule) (w : List Terminal) (o : Option (IndexOf (productions text a))) → read_by (G text) (A text) f a w o ≡ run_at f a (productions text a) w o
by_index text f a w None = refl
by_index text f a w (Some i) = all_same text f (Tree a × List Terminal) (at (productions text a) i).symbols w (λ v rest. Some ((at (productions text a) i).build v, rest))

chosen_by : (text : List ℕ) (f : Reading) (a : Rule) (w : List Terminal) → read_by (G text) (A text) f a w ((A text).choose a (next w)) ≡ ways_by f a (productions text a) w
chosen_by text f a [] = by_index text f a [] ((A text).choose a None)
chosen_by text f a (t ∷ w) = by_index text f a (t ∷ w) ((A text).choose a (Some t))

-- ---- readings that agree

-- both read the rules of the symbols alike
abbrev Agree : Reading → Reading → Symbols → Type 0
Agree f g [] = Unit {0}
Agree f g (lexeme c ∷ is) = Agree f g is
Agree f g (mark m ∷ is) = Agree f g is
Agree f g (rule q ∷ is) = ((w : List Terminal) → f q w ≡ g q w) × Agree f g is

all_agree : (f g : Reading) (B : Type 0) (is : Symbols) (w : List Terminal) (k : Values is → List Terminal → Option B) → Agree f g is → all f B is w k ≡ all g B is w k
all_agree f g B [] w k h = refl
all_agree f g B (lexeme c ∷ is) w k h = bound {X = Terminal × List Terminal} {B = B} (expect c w) _ _ (λ x. all_agree f g B is x.1 (λ v rest. k (x.0, v) rest) h)
all_agree f g B (mark m ∷ is) w k h = all_agree f g B is w k h
all_agree f g B (rule q ∷ is) w k h =
    bound {X = Tree q × List Terminal} {B = B} (f q w) _ _ (λ x. all_agree f g B is x.1 (λ v rest. k (x.0, v) rest) h.1)
    ∙ ap (λ (o : Outcome (Tree q)). o >>= λ x. all g B is x.1 (λ v rest. k (x.0, v) rest)) (h.0 w)

run_agrees : (f g : Reading) (a : Rule) (xs : List (Production a)) (w : List Terminal) (o : Option (IndexOf xs)) → ((i : IndexOf xs) → Agree f g (at xs i).symbols) → run_at f a xs w o ≡ run_at g a xs w o
run_agrees f g a xs w None h = refl
run_agrees f g a xs w (Some i) h = all_agree f g (Tree a × List Terminal) (at xs i).symbols w (λ v rest. Some ((at xs i).build v, rest)) (h i)

always : (f g : Reading) → ((q : Rule) (w : List Terminal) → f q w ≡ g q w) → (is : Symbols) → Agree f g is
always f g h [] = tt
always f g h (lexeme c ∷ is) = always f g h is
always f g h (mark m ∷ is) = always f g h is
always f g h (rule q ∷ is) = (h q, always f g h is)

-- ---- rules that keep no part of the text

-- the rules that hold statements, whose trees may keep a part of the text
abbrev pub keeps_text : Rule → Bool
keeps_text r.Batch = true
keeps_text r.AfterFirstCreate = true
keeps_text r.Definition = true
keeps_text r.AfterCreate = true
keeps_text r.Procedure = true
keeps_text r.Trigger = true
keeps_text (r.Body a) = true
keeps_text (r.Statement a) = true
keeps_text (r.OtherStatement a) = true
keeps_text (r.AfterBegin a) = true
keeps_text (r.Else a) = true
keeps_text _ = false

abbrev are_textless : Symbols → Bool
are_textless [] = true
are_textless (lexeme c ∷ is) = are_textless is
are_textless (mark m ∷ is) = are_textless is
are_textless (rule q ∷ is) = not (keeps_text q) && are_textless is

abbrev all_textless : {a : Rule} → List (Production a) → Bool
all_textless [] = true
all_textless (p ∷ more) = are_textless p.symbols && all_textless more

throw_textless : (x y : Bool) → all_textless (productions [] (r.ThrowArguments (record { in_while = x; in_catch = y }))) ≡ true
throw_textless x true = refl
throw_textless x false = refl

-- they hold none of the others
textless_below : (a : Rule) → keeps_text a ≡ false → all_textless (productions [] a) ≡ true
textless_below r.Batch e = absurd (cc)
textless_below r.AfterFirstCreate e = absurd (cc)
textless_below r.Definition e = absurd (cc)
textless_below r.AfterCreate e = absurd (cc)
textless_below r.Procedure e = absurd (cc)
textless_below r.Trigger e = absurd (cc)
textless_below (r.Body a) e = absurd (cc)
textless_below (r.Statement a) e = absurd (cc)
textless_below (r.OtherStatement a) e = absurd (cc)
textless_below (r.AfterBegin a) e = absurd (cc)
textless_below (r.Else a) e = absurd (cc)
textless_below (r.ThrowArguments a) e = throw_textless a.in_while a.in_catch
textless_below (r.Compared zero) e = refl
textless_below (r.Compared (suc n)) e = refl
textless_below (r.Tested zero) e = refl
textless_below (r.Tested (suc n)) e = refl
textless_below (r.FunctionArguments f.Cast) e = refl
textless_below (r.FunctionArguments _) e = refl
textless_below _ e = refl

-- and their productions are the same in every text
same_productions : (text : List ℕ) (a : Rule) → keeps_text a ≡ false → productions text a ≡ productions [] a
same_productions text r.Batch e = absurd (cc)
same_productions text r.AfterFirstCreate e = absurd (cc)
same_productions text r.Definition e = absurd (cc)
same_productions text r.AfterCreate e = absurd (cc)
same_productions text r.Procedure e = absurd (cc)
same_productions text r.Trigger e = absurd (cc)
same_productions text (r.Body a) e = absurd (cc)
same_productions text (r.Statement a) e = absurd (cc)
same_productions text (r.OtherStatement a) e = absurd (cc)
same_productions text (r.AfterBegin a) e = absurd (cc)
same_productions text (r.Else a) e = absurd (cc)
same_productions text (r.Compared zero) e = refl
same_productions text (r.Compared (suc n)) e = refl
same_productions text (r.Tested zero) e = refl
same_productions text (r.Tested (suc n)) e = refl
same_productions text _ e = refl

not_so : (b : Bool) → not b ≡ true → b ≡ false
not_so true e = absurd (cc)
not_so false e = refl

-- readings that agree on these rules read their productions alike
agree_below : (f g : Reading) → ((q : Rule) (w : List Terminal) → keeps_text q ≡ false → f q w ≡ g q w) → (is : Symbols) → are_textless is ≡ true → Agree f g is
agree_below f g h [] e = tt
agree_below f g h (lexeme c ∷ is) e = agree_below f g h is e
agree_below f g h (mark m ∷ is) e = agree_below f g h is e
agree_below f g h (rule q ∷ is) e = let both = and_true _ _ e in (λ w. h q w (not_so (keeps_text q) both.0), agree_below f g h is both.1)

agree_each : (f g : Reading) → ((q : Rule) (w : List Terminal) → keeps_text q ≡ false → f q w ≡ g q w) → {a : Rule} (xs : List (Production a)) → all_textless xs ≡ true → (i : IndexOf xs) → Agree f g (at xs i).symbols
agree_each f g h [] e i = absurd i
agree_each f g h (p ∷ more) e None = agree_below f g h p.symbols (and_true _ _ e).0
agree_each f g h (p ∷ more) e (Some i) = agree_each f g h more (and_true _ _ e).1 i

same_deep : (text : List ℕ) (n : ℕ) (a : Rule) (w : List Terminal) → keeps_text a ≡ false → descend (G text) (A text) n a w ≡ descend (G []) (A []) n a w
unfolding descend
same_deep text zero a w e = refl
same_deep text (suc n) a w e =
    chosen_by text (descend (G text) (A text) n) a w
    ∙ ap (λ (xs : List (Production a)). ways_by (descend (G text) (A text) n) a xs w) (same_productions text a e)
    ∙ run_agrees (descend (G text) (A text) n) (descend (G []) (A []) n) a (productions [] a) w (choose_in {a = a} (productions [] a) (ahead w))
    (agree_each (descend (G text) (A text) n) (descend (G []) (A []) n) (same_deep text n) (productions [] a) (textless_below a e))
    ∙ sym (chosen_by [] (descend (G []) (A []) n) a w)

-- a rule that keeps no part of the text is read alike in every text
pub same_text : (text : List ℕ) (a : Rule) (w : List Terminal) → keeps_text a ≡ false → read_in text a w ≡ read a w
unfolding read_in
same_text text a w e = same_deep text (top * length w + top) a w e

-- what is read of a rule, by itself where it keeps no part of the text
abbrev pub reads : List ℕ → Reading
reads text r.Batch w = read_in text r.Batch w
reads text r.AfterFirstCreate w = read_in text r.AfterFirstCreate w
reads text r.Definition w = read_in text r.Definition w
reads text r.AfterCreate w = read_in text r.AfterCreate w
reads text r.Procedure w = read_in text r.Procedure w
reads text r.Trigger w = read_in text r.Trigger w
reads text (r.Body a) w = read_in text (r.Body a) w
reads text (r.Statement a) w = read_in text (r.Statement a) w
reads text (r.OtherStatement a) w = read_in text (r.OtherStatement a) w
reads text (r.AfterBegin a) w = read_in text (r.AfterBegin a) w
reads text (r.Else a) w = read_in text (r.Else a) w
reads text a w = read a w

reads_same : (text : List ℕ) (a : Rule) (w : List Terminal) → read_in text a w ≡ reads text a w
reads_same text r.Batch w = refl
reads_same text r.AfterFirstCreate w = refl
reads_same text r.Definition w = refl
reads_same text r.AfterCreate w = refl
reads_same text r.Procedure w = refl
reads_same text r.Trigger w = refl
reads_same text (r.Body a) w = refl
reads_same text (r.Statement a) w = refl
reads_same text (r.OtherStatement a) w = refl
reads_same text (r.AfterBegin a) w = refl
reads_same text (r.Else a) w = refl
reads_same text a w = same_text text a w refl

-- ---- the choice

-- one production
abbrev pub run : List ℕ → (a : Rule) → Production a → List Terminal → Outcome (Tree a)
run text a p w = run_by (reads text) a p w

abbrev pub ways : List ℕ → (a : Rule) (xs : List (Production a)) → List Terminal → Outcome (Tree a)
ways text a xs w = ways_by (reads text) a xs w

unrolled : (text : List ℕ) (a : Rule) (w : List Terminal) → read_in text a w ≡ read_by (G text) (A text) (read_in text) a w ((A text).choose a (next w))
unfolding read_in
unrolled text a w = stable.unrolled (G text) (A text) rank top (ranked text) a w

-- a rule is read by the production that the next lexeme chooses
pub chosen : (text : List ℕ) (a : Rule) (w : List Terminal) → read_in text a w ≡ ways text a (productions text a) w
chosen text a w =
    unrolled text a w ∙ chosen_by text (read_in text) a w
    ∙ run_agrees (read_in text) (reads text) a (productions text a) w (choose_in {a = a} (productions text a) (ahead w)) (λ i. always (read_in text) (reads text) (reads_same text) (at (productions text a) i).symbols)

behind_run : (f : Reading) (a : Rule) (p : Production a) (more : List (Production a)) (w : List Terminal) (o : Option (IndexOf more)) → run_at f a (p ∷ more) w (behind p more o) ≡ run_at f a more w o
behind_run f a p more w None = refl
behind_run f a p more w (Some i) = refl

behind_both : (f : Reading) (a : Rule) (p : Production a) (more : List (Production a)) (w : List Terminal) (o q : Option (IndexOf more))
    → run_at f a (p ∷ more) w (or_else (behind p more o) (behind p more q)) ≡ run_at f a more w (or_else o q)
behind_both f a p more w None q = behind_run f a p more w q
behind_both f a p more w (Some i) q = refl

abbrev made : (a : Rule) (is : Symbols) → (Values is → Tree a) → Production a
made a is b = record { symbols = is; build = b }

-- a mark before the symbols of a production tells nothing
empty_head : (f : Reading) (a : Rule) (p q : Production a) (more : List (Production a)) (w : List Terminal) (o : Option (IndexOf more)) (d : Bool) → run_by f a p w ≡ run_by f a q w
    → run_at f a (p ∷ more) w (if d then Some None else behind p more o) ≡ run_at f a (q ∷ more) w (if d then Some None else behind q more o)
empty_head f a p q more w o true e = e
empty_head f a p q more w o false e = behind_run f a p more w o ∙ sym (behind_run f a q more w o)

begun_head : (f : Reading) (a : Rule) (p q : Production a) (more : List (Production a)) (w : List Terminal) (o u : Option (IndexOf more)) (b d : Bool) → run_by f a p w ≡ run_by f a q w
    → run_at f a (p ∷ more) w (or_else (if b then Some None else behind p more o) (if d then Some None else behind p more u))
    ≡ run_at f a (q ∷ more) w (or_else (if b then Some None else behind q more o) (if d then Some None else behind q more u))
begun_head f a p q more w o u true d e = e
begun_head f a p q more w None u false d e = empty_head f a p q more w u d e
begun_head f a p q more w (Some i) u false d e = refl

unmarked : (text : List ℕ) (a : Rule) (m : Mark) (is : Symbols) (b : Values is → Tree a) (more : List (Production a)) (w : List Terminal)
    → ways text a (made a (mark m ∷ is) b ∷ more) w ≡ ways text a (made a is b ∷ more) w
unmarked text a m is b more [] = empty_head (reads text) a (made a (mark m ∷ is) b) (made a is b) more [] (first_where (λ p. may_be_empty p.symbols) more) (may_be_empty is) refl
unmarked text a m is b more (t ∷ w) =
    begun_head (reads text) a (made a (mark m ∷ is) b) (made a is b) more (t ∷ w) (first_where (λ p. may_begin p.symbols (kind t)) more) (first_where (λ p. may_be_empty p.symbols) more) (may_begin is (kind t)) (may_be_empty is) refl

-- A production among others: where it begins with a lexeme, one of the class has to come next; where it
-- begins with a rule, one that begins the rule.
abbrev pub one : List ℕ → (a : Rule) (is : Symbols) → (Values is → Tree a) → List Terminal → Outcome (Tree a) → Outcome (Tree a)
one text a [] b w other = Some (b tt, w)
one text a (lexeme c ∷ is) b w other = when {A = Terminal × List Terminal} {B = Tree a × List Terminal} (expect c w) (λ x. all (reads text) (Tree a × List Terminal) is x.1 (λ v rest. Some (b (x.0, v), rest))) other
one text a (mark m ∷ is) b w other = one text a is b w other
one text a (rule q ∷ is) b w other = if sees_any (first_classes q) w then all (reads text) (Tree a × List Terminal) (rule q ∷ is) w (λ v rest. Some (b v, rest)) else other

-- the first production that may begin so, and the last where no other may
abbrev pub ordered : List ℕ → (a : Rule) → List (Production a) → List Terminal → Outcome (Tree a)
ordered text a [] w = None
ordered text a (p ∷ []) w = run text a p w
ordered text a (p ∷ q ∷ more) w = one text a p.symbols p.build w (ordered text a (q ∷ more) w)

-- whether the choice may be made so
abbrev good_first : Symbols → Bool
good_first [] = false
good_first (lexeme c ∷ is) = true
good_first (mark m ∷ is) = good_first is
good_first (rule q ∷ is) = not (nullable q)

abbrev good_last : Symbols → Bool
good_last [] = true
good_last (lexeme c ∷ is) = true
good_last (mark m ∷ is) = good_last is
good_last (rule q ∷ is) = not (nullable q) || may_be_empty (rule q ∷ is)

abbrev pub good : (a : Rule) → List (Production a) → Bool
good a [] = true
good a (p ∷ []) = good_last p.symbols
good a (p ∷ q ∷ more) = good_first p.symbols && good a (q ∷ more)

none_where : {X : Type 0} (f : X → Bool) (xs : List X) → ((i : IndexOf xs) → f (at xs i) ≡ false) → first_where f xs ≡ None
none_where f [] e = refl
none_where f (x ∷ xs) e = rw (e None, none_where f xs (λ i. e (Some i))) refl

not_true : (b : Bool) → (b ≡ true → false ≡ true) → b ≡ false
not_true true e = sym (e refl)
not_true false e = refl

-- nothing is read of a rule that may not be empty, where it can't begin
nothing : (text : List ℕ) (q : Rule) (t : Terminal) (w : List Terminal) → first q (kind t) ≡ false → nullable q ≡ false → reads text q (t ∷ w) ≡ None
nothing text q t w e f =
    sym (reads_same text q (t ∷ w)) ∙ chosen text q (t ∷ w)
    ∙ ap (λ (o : Option (IndexOf (productions text q))). run_at (reads text) q (productions text q) (t ∷ w) o)
    (ap (λ (o : Option (IndexOf (productions text q))). or_else o (first_where (λ p. may_be_empty p.symbols) (productions text q)))
    (none_where (λ p. may_begin p.symbols (kind t)) (productions text q) (λ i. not_true _ (λ h. sym e ∙ ((predictive text).starts q i t (begins_same (at (productions text q) i).symbols t ∙ h)).0)))
    ∙ none_where (λ p. may_be_empty p.symbols) (productions text q) (λ i. not_true _ (λ h. sym f ∙ ((predictive text).ends q i h).0)))
  where
    begins_same : (is : Symbols) (t : Terminal) → begins_by (λ c l. admits c (kind l)) (λ r l. first r (kind l)) nullable is t ≡ may_begin is (kind t)
    begins_same [] t = refl
    begins_same (lexeme c ∷ is) t = refl
    begins_same (mark m ∷ is) t = begins_same is t
    begins_same (rule q ∷ is) t = rw (begins_same is t)

nothing_last : (text : List ℕ) (q : Rule) → nullable q ≡ false → reads text q [] ≡ None
nothing_last text q f =
    sym (reads_same text q []) ∙ chosen text q []
    ∙ ap (λ (o : Option (IndexOf (productions text q))). run_at (reads text) q (productions text q) [] o)
    (none_where (λ p. may_be_empty p.symbols) (productions text q) (λ i. not_true _ (λ h. sym f ∙ ((predictive text).ends q i h).0)))

first_step : (text : List ℕ) (a : Rule) (is : Symbols) (b : Values is → Tree a) (more : List (Production a)) (w : List Terminal) → good_first is ≡ true
    → ways text a (made a is b ∷ more) w ≡ one text a is b w (ways text a more w)
unfolding expect sees_any
first_step text a [] b more w g = absurd (cc)
first_step text a (mark m ∷ is) b more w g = unmarked text a m is b more w ∙ first_step text a is b more w g
first_step text a (lexeme c ∷ is) b more [] g = behind_run (reads text) a (made a (lexeme c ∷ is) b) more [] (first_where (λ p. may_be_empty p.symbols) more)
first_step text a (lexeme c ∷ is) b more (t ∷ w) g = go (admits c (kind t)) refl
  where
    go : (d : Bool) → admits c (kind t) ≡ d → ways text a (made a (lexeme c ∷ is) b ∷ more) (t ∷ w) ≡ one text a (lexeme c ∷ is) b (t ∷ w) (ways text a more (t ∷ w))
    go true e = rw (e, e) refl
    go false e = rw e (behind_both (reads text) a (made a (lexeme c ∷ is) b) more (t ∷ w) (first_where (λ p. may_begin p.symbols (kind t)) more) (first_where (λ p. may_be_empty p.symbols) more))
first_step text a (rule q ∷ is) b more [] g = rw (not_so (nullable q) g) (behind_run (reads text) a (made a (rule q ∷ is) b) more [] (first_where (λ p. may_be_empty p.symbols) more))
first_step text a (rule q ∷ is) b more (t ∷ w) g = go (first q (kind t)) refl
  where
    go : (d : Bool) → first q (kind t) ≡ d → ways text a (made a (rule q ∷ is) b ∷ more) (t ∷ w) ≡ one text a (rule q ∷ is) b (t ∷ w) (ways text a more (t ∷ w))
    go true e = rw e refl
    go false e = rw (e, not_so (nullable q) g) (behind_both (reads text) a (made a (rule q ∷ is) b) more (t ∷ w) (first_where (λ p. may_begin p.symbols (kind t)) more) (first_where (λ p. may_be_empty p.symbols) more))

or_so : (b c : Bool) → b ≡ true → (not b || c) ≡ true → c ≡ true
or_so true c e f = f
or_so false c e f = absurd (cc)

last_step : (text : List ℕ) (a : Rule) (is : Symbols) (b : Values is → Tree a) (w : List Terminal) → good_last is ≡ true → ways text a (made a is b ∷ []) w ≡ run text a (made a is b) w
unfolding expect
last_step text a [] b [] g = refl
last_step text a [] b (t ∷ w) g = refl
last_step text a (mark m ∷ is) b w g = unmarked text a m is b [] w ∙ last_step text a is b w g
last_step text a (lexeme c ∷ is) b [] g = refl
last_step text a (lexeme c ∷ is) b (t ∷ w) g = go (admits c (kind t)) refl
  where
    go : (d : Bool) → admits c (kind t) ≡ d → ways text a (made a (lexeme c ∷ is) b ∷ []) (t ∷ w) ≡ run text a (made a (lexeme c ∷ is) b) (t ∷ w)
    go true e = rw (e, e) refl
    go false e = rw e refl
last_step text a (rule q ∷ is) b w g = go (nullable q) refl g
  where
    lexeme_ahead : nullable q ≡ false → (t : Terminal) (w : List Terminal) (d : Bool) → first q (kind t) ≡ d
        → ways text a (made a (rule q ∷ is) b ∷ []) (t ∷ w) ≡ run text a (made a (rule q ∷ is) b) (t ∷ w)
    lexeme_ahead f t w true e = rw e refl
    lexeme_ahead f t w false e = rw (e, f, nothing text q t w e f) refl

    full : nullable q ≡ false → (w : List Terminal) → ways text a (made a (rule q ∷ is) b ∷ []) w ≡ run text a (made a (rule q ∷ is) b) w
    full f [] = rw (f, nothing_last text q f) refl
    full f (t ∷ w) = lexeme_ahead f t w (first q (kind t)) refl

    maybe : (t : Terminal) (w : List Terminal) → may_be_empty (rule q ∷ is) ≡ true → (d : Bool) → may_begin (rule q ∷ is) (kind t) ≡ d
        → ways text a (made a (rule q ∷ is) b ∷ []) (t ∷ w) ≡ run text a (made a (rule q ∷ is) b) (t ∷ w)
    maybe t w f true e = rw e refl
    maybe t w f false e = rw (e, f) refl

    empty : may_be_empty (rule q ∷ is) ≡ true → (w : List Terminal) → ways text a (made a (rule q ∷ is) b ∷ []) w ≡ run text a (made a (rule q ∷ is) b) w
    empty f [] = rw f refl
    empty f (t ∷ w) = maybe t w f (may_begin (rule q ∷ is) (kind t)) refl

    go : (d : Bool) → nullable q ≡ d → (not (nullable q) || may_be_empty (rule q ∷ is)) ≡ true → ways text a (made a (rule q ∷ is) b ∷ []) w ≡ run text a (made a (rule q ∷ is) b) w
    go false f h = full f w
    go true f h = empty (or_so (nullable q) (may_be_empty (rule q ∷ is)) f h) w

pub ordered_ways : (text : List ℕ) (a : Rule) (xs : List (Production a)) (w : List Terminal) → good a xs ≡ true → ways text a xs w ≡ ordered text a xs w
ordered_ways text a [] [] g = refl
ordered_ways text a [] (t ∷ w) g = refl
ordered_ways text a (p ∷ []) w g = last_step text a p.symbols p.build w g
ordered_ways text a (p ∷ q ∷ more) w g =
    let both = and_true _ _ g in
    first_step text a p.symbols p.build (q ∷ more) w both.0
    ∙ ap (λ (o : Outcome (Tree a)). one text a p.symbols p.build w o) (ordered_ways text a (q ∷ more) w both.1)

-- a rule is read by the first of its productions that may begin so
pub by_order : (text : List ℕ) (a : Rule) (w : List Terminal) → good a (productions text a) ≡ true → read_in text a w ≡ ordered text a (productions text a) w
by_order text a w g = chosen text a w ∙ ordered_ways text a (productions text a) w g

-- Where the rule can't begin, it is left out: nothing is taken of the text.
abbrev pub Skips : List ℕ → Rule → Type 0
Skips text q = (w : List Terminal) → sees_any (first_classes q) w ≡ false → (v : Tree q) × (reads text q w ≡ Some (v, w))

-- symbols of which some rules may be left out, and then one has to come
abbrev pub Certain : List ℕ → Symbols → Type 0
Certain text [] = ⊥
Certain text (lexeme c ∷ is) = Unit {0}
Certain text (mark m ∷ is) = Certain text is
Certain text (rule q ∷ is) = (nullable q ≡ false) ⊎ (Skips text q × Certain text is)

abbrev begins_at : Symbols → List Terminal → Bool
begins_at is [] = false
begins_at is (t ∷ w) = may_begin is (kind t)

or_false : (b c : Bool) → (b || c) ≡ false → (b ≡ false) × (c ≡ false)
or_false true c e = absurd (cc)
or_false false c e = (refl, e)

nothing_at : (text : List ℕ) (q : Rule) (w : List Terminal) → sees_any (first_classes q) w ≡ false → nullable q ≡ false → reads text q w ≡ None
unfolding sees_any
nothing_at text q [] e f = nothing_last text q f
nothing_at text q (t ∷ w) e f = nothing text q t w e f

unseen : (q : Rule) (is : Symbols) (w : List Terminal) → begins_at (rule q ∷ is) w ≡ false → sees_any (first_classes q) w ≡ false
unfolding sees_any
unseen q is [] e = refl
unseen q is (t ∷ w) e = (or_false (first q (kind t)) _ e).0

unseen_rest : (q : Rule) (is : Symbols) (w : List Terminal) → nullable q ≡ true → begins_at (rule q ∷ is) w ≡ false → begins_at is w ≡ false
unseen_rest q is [] n e = refl
unseen_rest q is (t ∷ w) n e = (rw n at (or_false (first q (kind t)) _ e).1)

rule_none : (text : List ℕ) (B : Type 0) (q : Rule) (is : Symbols) (w : List Terminal) (k : Values (rule q ∷ is) → List Terminal → Option B) (d : Bool) → nullable q ≡ d
    → (nullable q ≡ false) ⊎ (Skips text q × Certain text is) → begins_at (rule q ∷ is) w ≡ false
    → ((v : Tree q) → Certain text is → begins_at is w ≡ false → all (reads text) B is w (λ x rest. k (v, x) rest) ≡ None) → all (reads text) B (rule q ∷ is) w k ≡ None
rule_none text B q is w k false n c e rest = rw (nothing_at text q w (unseen q is w e) n) refl
rule_none text B q is w k true n c e rest = elim c [
  | inl f ↦ absurd (let both : true ≡ false = sym n ∙ f in cc)
  | inr s ↦ let v = s.0 w (unseen q is w e) in rw v.1 (rest v.0 s.1 (unseen_rest q is w n e))
]

all_none : (text : List ℕ) (B : Type 0) (is : Symbols) (w : List Terminal) (k : Values is → List Terminal → Option B) → Certain text is → begins_at is w ≡ false → all (reads text) B is w k ≡ None
unfolding expect
all_none text B [] w k c e = absurd c
all_none text B (mark m ∷ is) [] k c e = all_none text B is [] k c e
all_none text B (mark m ∷ is) (t ∷ w) k c e = all_none text B is (t ∷ w) k c e
all_none text B (lexeme x ∷ is) [] k c e = refl
all_none text B (lexeme x ∷ is) (t ∷ w) k c e = rw e refl
all_none text B (rule q ∷ is) w k c e = rule_none text B q is w k (nullable q) refl c e (λ v c e. all_none text B is w (λ x rest. k (v, x) rest) c e)

-- the only production of a rule, or the last, whose first rules may be left out
certain_last : (text : List ℕ) (a : Rule) (p : Production a) (w : List Terminal) → Certain text p.symbols → may_be_empty p.symbols ≡ false → ways text a (p ∷ []) w ≡ run text a p w
certain_last text a p [] c f = rw f (sym (all_none text (Tree a × List Terminal) p.symbols [] (λ v rest. Some (p.build v, rest)) c refl))
certain_last text a p (t ∷ w) c f = go (may_begin p.symbols (kind t)) refl
  where
    go : (d : Bool) → may_begin p.symbols (kind t) ≡ d → ways text a (p ∷ []) (t ∷ w) ≡ run text a p (t ∷ w)
    go true e = rw e refl
    go false e = rw (e, f) (sym (all_none text (Tree a × List Terminal) p.symbols (t ∷ w) (λ v rest. Some (p.build v, rest)) c e))

abbrev pub Sure : List ℕ → (a : Rule) → List (Production a) → Type 0
Sure text a [] = Unit {0}
Sure text a (p ∷ []) = Certain text p.symbols × (may_be_empty p.symbols ≡ false)
Sure text a (p ∷ q ∷ more) = (good_first p.symbols ≡ true) × Sure text a (q ∷ more)

sure_ways : (text : List ℕ) (a : Rule) (xs : List (Production a)) (w : List Terminal) → Sure text a xs → ways text a xs w ≡ ordered text a xs w
sure_ways text a [] [] g = refl
sure_ways text a [] (t ∷ w) g = refl
sure_ways text a (p ∷ []) w g = certain_last text a p w g.0 g.1
sure_ways text a (p ∷ q ∷ more) w g =
    first_step text a p.symbols p.build (q ∷ more) w g.0
    ∙ ap (λ (o : Outcome (Tree a)). one text a p.symbols p.build w o) (sure_ways text a (q ∷ more) w g.1)

-- the same, where the last production begins with rules that may be left out
pub by_certain : (text : List ℕ) (a : Rule) (w : List Terminal) → Sure text a (productions text a) → read_in text a w ≡ ordered text a (productions text a) w
by_certain text a w g = chosen text a w ∙ sure_ways text a (productions text a) w g
