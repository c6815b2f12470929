-- A text that reads by the rules of a table and holds no variable reads so wherever it stands: the same lexemes, with other places, in
-- another text, stand for the same. Where variables are judged and none is declared it holds none.
use Rattle.std.specs.Prelude.{◌≡◌, ℕ, zero, suc, Bool, true, false, ◌||◌, List, [], ◌∷◌, ◌++◌, map, None, refl}
use Rattle.std.proofs.Common.{ap, sym, ◌∙◌, subst}
use Rattle.tsql_lexer.specs.declared.lexeme.Lexeme.{Lexeme}
use Rattle.tsql_grammar.specs.declared.rule.Class.{Class}
use Rattle.tsql_grammar.specs.declared.rule.Mark.{Mark}
use Rattle.tsql_grammar.specs.declared.rule.Mark.TheVariants.{Enter, Leave, Uses, Declares}
use Rattle.tsql_grammar.specs.declared.rule.Rule.{Rule}
use Rattle.tsql_grammar.specs.declared.rule.Rule.TheVariants as r
use Rattle.tsql_grammar.specs.Noted.{Noted, see, note}
use Rattle.tsql_grammar.specs.PlainText.{plainly_admits, plain_language}
use Rattle.tsql_grammar.specs.Productions.{Symbols, Production, Tree, productions}
use Rattle.tsql_grammar.specs.Terminals.{Terminal}
use Rattle.tsql_grammar.specs.Words.{kind_of}
use Rattle.grammar_laws.specs.Grammar.{Trees, Grammar}
use Rattle.grammar_laws.specs.Grammar.Symbol.{lexeme, rule, mark}
use Rattle.grammar_laws.specs.BySymbols.{OfSymbols, Within}
use Rattle.grammar_laws.specs.Alternatives.{IndexOf, at}
use Rattle.grammar_laws.proofs.Booleans.{and_true}
use Rattle.text_laws.proofs.Calm.{calm, own, calm_own, calm_mark, calm_symbols, calm_at, not_so, productions_same}
use Rattle.text_laws.proofs.RowAlone.{none_two, none_first, none_second}
use Rattle.text_laws.proofs.Variables.{variable_class, is_variable, holds, holds_none, holds_parts, admitted}
use Rattle.text_laws.proofs.Uses.{inner, inner_calm, inner_own, inner_tabled, no_variable, paired, paired_at, tabled}
use Rattle.text_laws.proofs.Blind.{bare, bare_all, blind, blind_at}
use Rattle.text_laws.proofs.Noting.{Goes, goes_see, goes_note, note_fault, Clear, clear_see, clear_note, uses_fault}

-- ---- the same lexemes

abbrev pub Same : List Terminal → List Terminal → Type 0
Same w' w = map bare w' ≡ map bare w

same_none : (w' : List Terminal) → Same w' [] → w' ≡ []
same_none [] e = refl
same_none (l ∷ w') e = cc

same_one : (w' : List Terminal) (l : Terminal) (u : List Terminal) → Same w' (l ∷ u) → (l' : Terminal) × (u' : List Terminal) × (w' ≡ l' ∷ u') × (bare l' ≡ bare l) × Same u' u
same_one [] l u e = cc
same_one (l' ∷ w') l u e = let here : bare l' ≡ bare l = cc in let more : Same w' u = cc in (l', w', refl, here, more)

same_parts : (w' u v : List Terminal) → Same w' (u ++ v) → (u' : List Terminal) × (v' : List Terminal) × (w' ≡ u' ++ v') × Same u' u × Same v' v
same_parts w' [] v e = ([], w', refl, refl, e)
same_parts w' (l ∷ u) v e =
    let (l', x, is, here, more) = same_one w' l (u ++ v) e in
    let (u', v', joined, first, second) = same_parts x u v more in
    (l' ∷ u', v', is ∙ ap (λ (z : List Terminal). l' ∷ z) joined, (λ i. here i ∷ first i), second)

same_lexeme : (l' l : Terminal) → bare l' ≡ bare l → l'.spanned.lexeme ≡ l.spanned.lexeme
same_lexeme l' l e = ap (λ (z : Terminal). z.spanned.lexeme) e

module _ (text : List ℕ) where
  abbrev pub P : Grammar Terminal Class Rule Mark Noted
  P = plain_language text

  -- ---- a fault stays, and calm rules declare nothing

  fault_symbols : (h : ℕ) → ((q : Rule) (w : List Terminal) (v : Tree q) (s t : Noted) → Within P h q w v s t → t.fault ≡ None → s.fault ≡ None)
      → (is : Symbols) (w : List Terminal) (vs : Trees Terminal Tree is) (s t : Noted) → OfSymbols P (Within P h) is w vs s t → t.fault ≡ None → s.fault ≡ None
  fault_symbols h f [] w vs s t d sound = subst (λ (z : Noted). z.fault ≡ None) d.1 sound
  fault_symbols h f (lexeme c ∷ is) w vs s t (u, e, k, d) sound = fault_symbols h f is u vs.1 (see s vs.0) t d sound
  fault_symbols h f (mark m ∷ is) w vs s t d sound = note_fault s m (fault_symbols h f is w vs (note s m) t d sound)
  fault_symbols h f (rule q ∷ is) w vs s t (u, v, m, e, o, d) sound = f q u vs.0 s m o (fault_symbols h f is v vs.1 m t d sound)

  fault_within : (h : ℕ) (q : Rule) (w : List Terminal) (v : Tree q) (s t : Noted) → Within P h q w v s t → t.fault ≡ None → s.fault ≡ None
  fault_within zero q w v s t d sound = absurd d
  fault_within (suc h) q w v s t (p, vs, e, d) sound = fault_symbols h (fault_within h) (at (productions text q) p).symbols w vs s t d sound

  -- nothing was wrong before where nothing is
  pub sound_before : (h : ℕ) (is : Symbols) (w : List Terminal) (vs : Trees Terminal Tree is) (s t : Noted) → OfSymbols P (Within P h) is w vs s t → t.fault ≡ None → s.fault ≡ None
  sound_before h = fault_symbols h (fault_within h)

  clear_each : (h : ℕ) → ((q : Rule) (w : List Terminal) (v : Tree q) (s t : Noted) → own q ≡ true → Within P h q w v s t → Clear s → Clear t)
      → (is : Symbols) (w : List Terminal) (vs : Trees Terminal Tree is) (s t : Noted) → calm_symbols is ≡ true → OfSymbols P (Within P h) is w vs s t → Clear s → Clear t
  clear_each h f [] w vs s t ok d clear = subst Clear (sym d.1) clear
  clear_each h f (lexeme c ∷ is) w vs s t ok (u, e, k, d) clear = clear_each h f is u vs.1 (see s vs.0) t ok d (clear_see s vs.0 clear)
  clear_each h f (mark m ∷ is) w vs s t ok d clear =
      let both = and_true (calm_mark m) (calm_symbols is) ok in clear_each h f is w vs (note s m) t both.1 d (clear_note s m both.0 clear)
  clear_each h f (rule q ∷ is) w vs s t ok (u, v, m, e, o, d) clear =
      let both = and_true (calm q) (calm_symbols is) ok in clear_each h f is v vs.1 m t both.1 d (f q u vs.0 s m (calm_own q both.0) o clear)

  pub clear_within : (h : ℕ) (q : Rule) (w : List Terminal) (v : Tree q) (s t : Noted) → own q ≡ true → Within P h q w v s t → Clear s → Clear t
  clear_within zero q w v s t ok d clear = absurd d
  clear_within (suc h) q w v s t ok (p, vs, e, d) clear = clear_each h (clear_within h) (at (productions text q) p).symbols w vs s t (calm_at text q p ok) d clear

  -- what was clear is so behind calm symbols
  pub clear_behind : (h : ℕ) (is : Symbols) (w : List Terminal) (vs : Trees Terminal Tree is) (s t : Noted) → calm_symbols is ≡ true → OfSymbols P (Within P h) is w vs s t → Clear s → Clear t
  clear_behind h = clear_each h (clear_within h)

-- ---- where no variable is declared

module _ (text : List ℕ) where
  after_variable : (h : ℕ) (is : Symbols) (w : List Terminal) (vs : Trees Terminal Tree is) (s t : Noted) → paired true is ≡ true → OfSymbols (P text) (Within (P text) h) is w vs s t → Clear s → t.fault ≡ None → ⊥
  after_variable h [] w vs s t ok d clear sound = not_so ok
  after_variable h (lexeme a ∷ is) w vs s t ok d clear sound = not_so ok
  after_variable h (rule q ∷ is) w vs s t ok d clear sound = not_so ok
  after_variable h (mark Enter ∷ is) w vs s t ok d clear sound = not_so ok
  after_variable h (mark Leave ∷ is) w vs s t ok d clear sound = not_so ok
  after_variable h (mark Declares ∷ is) w vs s t ok d clear sound = not_so ok
  after_variable h (mark Uses ∷ is) w vs s t ok d clear sound = uses_fault s clear (sound_before text h is w vs (note s Uses) t d sound)

  abbrev RuleFree : ℕ → Type 0
  RuleFree h = (q : Rule) (w : List Terminal) (v : Tree q) (s t : Noted) → tabled q ≡ true → Within (P text) h q w v s t → Clear s → t.fault ≡ None → holds w ≡ false

  free_symbols : (h : ℕ) → RuleFree h → (is : Symbols) (w : List Terminal) (vs : Trees Terminal Tree is) (s t : Noted) → paired false is ≡ true → OfSymbols (P text) (Within (P text) h) is w vs s t
      → Clear s → t.fault ≡ None → holds w ≡ false
  free_symbols h f [] w vs s t ok d clear sound = subst (λ (z : List Terminal). holds z ≡ false) (sym d.0) refl
  free_symbols h f (lexeme a ∷ is) w vs s t ok (u, e, k, d) clear sound = by (variable_class a) refl ok (λ ok. free_symbols h f is u vs.1 (see s vs.0) t ok d (clear_see s vs.0 clear) sound)
    where
      by : (b : Bool) → variable_class a ≡ b → paired b is ≡ true → (paired false is ≡ true → holds u ≡ false) → holds w ≡ false
      by true is_one ok rest = absurd (after_variable h is u vs.1 (see s vs.0) t ok d (clear_see s vs.0 clear) sound)
      by false is_one ok rest = subst (λ (z : List Terminal). holds z ≡ false) (sym e) (none_two (is_variable vs.0) (holds u) (admitted a (kind_of vs.0.spanned.lexeme) is_one k) (rest ok))
  free_symbols h f (mark Enter ∷ is) w vs s t ok d clear sound = free_symbols h f is w vs (note s Enter) t ok d (clear_note s Enter refl clear) sound
  free_symbols h f (mark Leave ∷ is) w vs s t ok d clear sound = free_symbols h f is w vs (note s Leave) t ok d (clear_note s Leave refl clear) sound
  free_symbols h f (mark Uses ∷ is) w vs s t ok d clear sound = absurd (not_so ok)
  free_symbols h f (mark Declares ∷ is) w vs s t ok d clear sound = absurd (not_so ok)
  free_symbols h f (rule q ∷ is) w vs s t ok (u, v, m, e, o, d) clear sound =
      let both = and_true (inner q) (paired false is) ok in
      let first = f q u vs.0 s m (inner_tabled q both.0) o clear (sound_before text h is v vs.1 m t d sound) in
      let clear1 = clear_within text h q u vs.0 s m (inner_own q both.0) o clear in
      subst (λ (z : List Terminal). holds z ≡ false) (sym e) (holds_none u v first (free_symbols h f is v vs.1 m t both.1 d clear1 sound))

  free_within : (h : ℕ) → RuleFree h
  free_within zero q w v s t ok d clear sound = absurd d
  free_within (suc h) q w v s t ok (p, vs, e, d) clear sound = free_symbols h (free_within h) (at (productions text q) p).symbols w vs s t (paired_at text q p ok) d clear sound

  -- a table holds no variable there
  pub clear_free : (h : ℕ) (w : List Terminal) (v : Tree r.Table) (s t : Noted) → Within (P text) h r.Table w v s t → Clear s → t.fault ≡ None → holds w ≡ false
  clear_free h w v s t d clear sound = free_within h r.Table w v s t refl d clear sound

-- ---- in another text

module _ (text other : List ℕ) where
  -- lexemes that read as these do, in the other text
  pub record Alike (h : ℕ) (is : Symbols) (w' : List Terminal) (vs : Trees Terminal Tree is) (t s' : Noted) : Type 0 where
    pub values : Trees Terminal Tree is
    pub last : Noted
    pub same : bare_all is values ≡ bare_all is vs
    pub reads : OfSymbols (P other) (Within (P other) h) is w' values s' last
    pub goes : Goes t last

  abbrev RuleAlike : ℕ → Type 0
  RuleAlike h = (q : Rule) → inner q ≡ true → (w' w : List Terminal) → Same w' w → holds w ≡ false → (v : Tree q) (s t s' : Noted) → Goes s s' → Within (P text) h q w v s t
      → (t' : Noted) × Within (P other) h q w' v s' t' × Goes t t'

  symbols_alike : (h : ℕ) → RuleAlike h → (is : Symbols) → paired false is ≡ true → (w' w : List Terminal) → Same w' w → holds w ≡ false → (vs : Trees Terminal Tree is) (s t s' : Noted) → Goes s s'
      → OfSymbols (P text) (Within (P text) h) is w vs s t → Alike h is w' vs t s'
  symbols_alike h f [] ok w' w same none vs s t s' g d = record {
    values = tt;
    last = s';
    same = refl;
    reads = (same_none w' (same ∙ ap (map bare) d.0), refl);
    goes = subst (λ (z : Noted). Goes z s') (sym d.1) g;
  }
  symbols_alike h f (lexeme a ∷ is) ok w' w same none vs s t s' g (u, e, k, d) =
      let free : (is_variable vs.0 || holds u) ≡ false = subst (λ (z : List Terminal). holds z ≡ false) e none in
      let other_class : variable_class a ≡ false = no_variable a (kind_of vs.0.spanned.lexeme) k (none_first (is_variable vs.0) (holds u) free) in
      let (l', u', is_one, here, more) = same_one w' vs.0 u (same ∙ ap (map bare) e) in
      let it = same_lexeme l' vs.0 here in
      let rest = symbols_alike h f is (subst (λ (b : Bool). paired b is ≡ true) other_class ok) u' u more (none_second (is_variable vs.0) (holds u) free) vs.1 (see s vs.0) t (see s' l') (goes_see s s' vs.0 l' g) d in
      record {
        values = (l', rest.values);
        last = rest.last;
        same = λ i. (here i, rest.same i);
        reads = (u', is_one, subst (λ (x : Lexeme). plainly_admits a (kind_of x) ≡ true) (sym it) k, rest.reads);
        goes = rest.goes;
      }
  symbols_alike h f (mark Enter ∷ is) ok w' w same none vs s t s' g d =
      let rest = symbols_alike h f is ok w' w same none vs (note s Enter) t (note s' Enter) (goes_note s s' Enter refl g) d in
      record { values = rest.values; last = rest.last; same = rest.same; reads = rest.reads; goes = rest.goes }
  symbols_alike h f (mark Leave ∷ is) ok w' w same none vs s t s' g d =
      let rest = symbols_alike h f is ok w' w same none vs (note s Leave) t (note s' Leave) (goes_note s s' Leave refl g) d in
      record { values = rest.values; last = rest.last; same = rest.same; reads = rest.reads; goes = rest.goes }
  symbols_alike h f (mark Uses ∷ is) ok w' w same none vs s t s' g d = absurd (not_so ok)
  symbols_alike h f (mark Declares ∷ is) ok w' w same none vs s t s' g d = absurd (not_so ok)
  symbols_alike h f (rule q ∷ is) ok w' w same none vs s t s' g (u, v, m, e, o, d) =
      let both = and_true (inner q) (paired false is) ok in
      let free = holds_parts u v (subst (λ (z : List Terminal). holds z ≡ false) e none) in
      let (u', v', joined, first, second) = same_parts w' u v (same ∙ ap (map bare) e) in
      let (t1, one, g1) = f q both.0 u' u first free.0 vs.0 s m s' g o in
      let rest = symbols_alike h f is both.1 v' v second free.1 vs.1 m t t1 g1 d in
      record {
        values = (vs.0, rest.values);
        last = rest.last;
        same = λ i. (vs.0, rest.same i);
        reads = (u', v', t1, joined, one, rest.reads);
        goes = rest.goes;
      }

  -- a production of a list of them
  abbrev Way : ℕ → (q : Rule) → List (Production q) → List Terminal → Tree q → Noted → Noted → Type 0
  Way h q ways w v s t = (p : IndexOf ways) × (vs : Trees Terminal Tree (at ways p).symbols) × (v ≡ (at ways p).build vs) × OfSymbols (P other) (Within (P other) h) (at ways p).symbols w vs s t

  rule_alike : (h : ℕ) → RuleAlike h
  rule_alike zero q ok w' w same none v s t s' g d = absurd d
  rule_alike (suc h) q ok w' w same none v s t s' g (p, vs, e, d) =
      let ways : List (Production q) = productions text q in
      let blind_so = blind text q (inner_calm q ok) in
      let a = symbols_alike h (rule_alike h) (at ways p).symbols (paired_at text q p (inner_tabled q ok)) w' w same none vs s t s' g d in
      let value : v ≡ (at ways p).build a.values = e ∙ blind_at q ways blind_so p vs ∙ ap (at ways p).build (sym a.same) ∙ sym (blind_at q ways blind_so p a.values) in
      (a.last, subst (λ (ways : List (Production q)). Way h q ways w' v s' a.last) (productions_same text other q (inner_own q ok)) (p, a.values, value, a.reads), a.goes)

  pub alike : (h : ℕ) (is : Symbols) → paired false is ≡ true → (w' w : List Terminal) → Same w' w → holds w ≡ false → (vs : Trees Terminal Tree is) (s t s' : Noted) → Goes s s'
      → OfSymbols (P text) (Within (P text) h) is w vs s t → Alike h is w' vs t s'
  alike h = symbols_alike h (rule_alike h)
