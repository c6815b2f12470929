-- What may stand behind a semicolon and behind an ELSE: where a semicolon was taken no ELSE comes, one of
-- the kind before ELSE is taken by an ELSE directly behind it alone, and where an ELSE is expected a
-- body goes on, which takes any semicolon. Each rule passes its test.
use Rattle.std.specs.Prelude.{◌≡◌, ℕ, zero, suc, Bool, true, false, not, ◌||◌, ◌&&◌, List, [], ◌∷◌, ◌++◌, refl}
use Rattle.std.proofs.Common.{inl, inr}
use Rattle.tsql_lexer.specs.declared.lexeme.Sign.TheVariants as sign
use Rattle.tsql_grammar.specs.declared.kind.Function.{Function}
use Rattle.tsql_grammar.specs.declared.kind.Function.TheVariants as f
use Rattle.tsql_grammar.specs.declared.kind.Kind.{Kind}
use Rattle.tsql_grammar.specs.declared.kind.Kind.TheVariants as k
use Rattle.tsql_grammar.specs.declared.kind.Reserved.TheVariants as w
use Rattle.tsql_grammar.specs.declared.rule.Class.{Class}
use Rattle.tsql_grammar.specs.declared.rule.Class.TheVariants as c
use Rattle.tsql_grammar.specs.declared.rule.Mark.{Mark}
use Rattle.tsql_grammar.specs.declared.rule.Rule.{Rule}
use Rattle.tsql_grammar.specs.declared.rule.Rule.TheVariants as r
use Rattle.tsql_grammar.specs.Language.{language}
use Rattle.tsql_grammar.specs.Lookahead.{first, nullable}
use Rattle.tsql_grammar.specs.PlainText.{may_end_before_else}
use Rattle.tsql_grammar.specs.Productions.{Symbols, productions}
use Rattle.tsql_grammar.specs.Terminals.{admits}
use Rattle.tsql_grammar.proofs.RuleTests.{around}
use Rattle.grammar_laws.specs.Grammar.{Symbol}
use Rattle.grammar_laws.specs.Grammar.Symbol.{lexeme, rule, mark}
use Rattle.grammar_laws.specs.Alternatives.{AlternativeOf, at, symbols_of}
use Rattle.grammar_laws.proofs.Booleans.{implies, implied, and_true, and_both, or_true, or_left, or_right}
use Rattle.grammar_laws.proofs.KindTests.{each_index, each_index_so}

abbrev pub else_kind : Kind
else_kind = k.Reserved w.Else

abbrev pub semicolon : Kind
semicolon = k.Sign sign.Semicolon

-- a text of the rule may end with a semicolon
abbrev pub may_end_with_semicolon : Rule → Bool
may_end_with_semicolon r.Batch = true
may_end_with_semicolon r.AfterFirstCreate = true
may_end_with_semicolon r.Definition = true
may_end_with_semicolon r.AfterCreate = true
may_end_with_semicolon r.Procedure = true
may_end_with_semicolon r.Trigger = true
may_end_with_semicolon (r.Body a) = true
may_end_with_semicolon r.Semicolons = true
may_end_with_semicolon r.OptionalSemicolon = true
may_end_with_semicolon _ = false

-- no text of the symbols begins with ELSE, nor what is behind them, if d says so of that
abbrev pub no_else : Bool → Symbols → Bool
no_else d [] = d
no_else d (lexeme c ∷ is) = not (admits c else_kind)
no_else d (mark m ∷ is) = no_else d is
no_else d (rule q ∷ is) = not (first q else_kind) && (not (nullable q) || no_else d is)

abbrev pub passes : Rule → Bool → Bool
passes (r.Else a) x = x
passes (r.Body a) x = true
passes _ x = false

-- before any lexeme comes a body, with ELSEs alone in front of it, or behind the symbols, if e says so
abbrev pub reaches_body : Bool → Symbols → Bool
reaches_body e [] = e
reaches_body e (lexeme c ∷ is) = false
reaches_body e (mark m ∷ is) = reaches_body e is
reaches_body e (rule q ∷ is) = passes q (reaches_body e is)

abbrev pub is_else : Class → Bool
is_else (c.One (k.Reserved w.Else)) = true
is_else _ = false

-- the first symbol is ELSE
abbrev pub else_next : Symbols → Bool
else_next (lexeme c ∷ is) = is_else c
else_next _ = false

abbrev pub not_before_else : Class → Bool
not_before_else (c.One k.BeforeElse) = false
not_before_else _ = true

-- the first symbol is no semicolon before ELSE
abbrev pub begins_freely : Symbols → Bool
begins_freely (lexeme c ∷ is) = not_before_else c
begins_freely _ = true

-- what is asked of a class: that no ELSE comes, or that ELSE is next
abbrev pub semicolon_ok : Class → Bool → Bool → Bool
semicolon_ok c.Semicolon x y = x
semicolon_ok (c.One k.BeforeElse) x y = y
semicolon_ok (c.One (k.Sign sign.Semicolon)) x y = false
semicolon_ok _ x y = true

-- what is asked of a symbol with these behind it
abbrev pub okay : Bool → Bool → Symbol Class Rule Mark → Symbols → Bool
okay d e (lexeme c) is = semicolon_ok c (no_else d is) (else_next is) && begins_freely is
okay d e (mark m) is = begins_freely is
okay d e (rule q) is = implies (may_end_with_semicolon q) (no_else d is) && (implies (may_end_before_else q) (reaches_body e is) && begins_freely is)

-- and of each symbol of a list
abbrev pub good : Bool → Bool → Symbols → Bool
good d e [] = true
good d e (x ∷ is) = okay d e x is && good d e is

abbrev pub is_else_rule : Rule → Bool
is_else_rule (r.Else a) = true
is_else_rule _ = false

abbrev production_ok : Rule → Symbols → Bool
production_ok q is = good (may_end_with_semicolon q) (may_end_before_else q) is && (is_else_rule q || begins_freely is)

abbrev rule_ok : List ℕ → Rule → Bool
rule_ok text q = each_index (productions text q) (λ p. production_ok q (at (productions text q) p).symbols)

body_ok : (text : List ℕ) (x y : Bool) → rule_ok text (r.Body (around x y)) ≡ true
body_ok text true true = refl
body_ok text true false = refl
body_ok text false true = refl
body_ok text false false = refl

statement_ok : (text : List ℕ) (x y : Bool) → rule_ok text (r.Statement (around x y)) ≡ true
statement_ok text true true = refl
statement_ok text true false = refl
statement_ok text false true = refl
statement_ok text false false = refl

other_statement_ok : (text : List ℕ) (x y : Bool) → rule_ok text (r.OtherStatement (around x y)) ≡ true
other_statement_ok text true true = refl
other_statement_ok text true false = refl
other_statement_ok text false true = refl
other_statement_ok text false false = refl

after_begin_ok : (text : List ℕ) (x y : Bool) → rule_ok text (r.AfterBegin (around x y)) ≡ true
after_begin_ok text true true = refl
after_begin_ok text true false = refl
after_begin_ok text false true = refl
after_begin_ok text false false = refl

else_ok : (text : List ℕ) (x y : Bool) → rule_ok text (r.Else (around x y)) ≡ true
else_ok text true true = refl
else_ok text true false = refl
else_ok text false true = refl
else_ok text false false = refl

throw_ok : (text : List ℕ) (x y : Bool) → rule_ok text (r.ThrowArguments (around x y)) ≡ true
throw_ok text true true = refl
throw_ok text true false = refl
throw_ok text false true = refl
throw_ok text false false = refl

arguments_ok : (text : List ℕ) (a : Function) → rule_ok text (r.FunctionArguments a) ≡ true
arguments_ok text f.Cast = refl
arguments_ok text _ = refl

compared_ok : (text : List ℕ) (n : ℕ) → rule_ok text (r.Compared n) ≡ true
compared_ok text zero = refl
compared_ok text (suc n) = refl

tested_ok : (text : List ℕ) (n : ℕ) → rule_ok text (r.Tested n) ≡ true
tested_ok text zero = refl
tested_ok text (suc n) = refl

ok : (text : List ℕ) (q : Rule) → rule_ok text q ≡ true
ok text (r.Body a) = body_ok text a.in_while a.in_catch
ok text (r.Statement a) = statement_ok text a.in_while a.in_catch
ok text (r.OtherStatement a) = other_statement_ok text a.in_while a.in_catch
ok text (r.AfterBegin a) = after_begin_ok text a.in_while a.in_catch
ok text (r.Else a) = else_ok text a.in_while a.in_catch
ok text (r.ThrowArguments a) = throw_ok text a.in_while a.in_catch
ok text (r.FunctionArguments a) = arguments_ok text a
ok text (r.Compared n) = compared_ok text n
ok text (r.Tested n) = tested_ok text n
ok text _ = refl

no_else_push : (d b : Bool) (x is : Symbols) → implies b (no_else d is) ≡ true → no_else b x ≡ true → no_else d (x ++ is) ≡ true
no_else_push d b [] is i e = implied b (no_else d is) i e
no_else_push d b (lexeme c ∷ x) is i e = e
no_else_push d b (mark m ∷ x) is i e = no_else_push d b x is i e
no_else_push d b (rule q ∷ x) is i e =
    let both = and_true (not (first q else_kind)) (not (nullable q) || no_else b x) e in
    and_both (not (first q else_kind)) (not (nullable q) || no_else d (x ++ is)) both.0
    (elim (or_true (not (nullable q)) (no_else b x) both.1) [ inl y ↦ or_left (not (nullable q)) _ y | inr y ↦ or_right (not (nullable q)) _ (no_else_push d b x is i y) ])

passes_true : (q : Rule) (x y : Bool) → (x ≡ true → y ≡ true) → passes q x ≡ true → passes q y ≡ true
passes_true (r.Else a) x y f e = f e
passes_true (r.Body a) x y f e = refl
passes_true _ x y f e = absurd (cc)

reaches_push : (d b : Bool) (x is : Symbols) → implies b (reaches_body d is) ≡ true → reaches_body b x ≡ true → reaches_body d (x ++ is) ≡ true
reaches_push d b [] is i e = implied b (reaches_body d is) i e
reaches_push d b (lexeme c ∷ x) is i e = absurd (cc)
reaches_push d b (mark m ∷ x) is i e = reaches_push d b x is i e
reaches_push d b (rule q ∷ x) is i e = passes_true q (reaches_body b x) (reaches_body d (x ++ is)) (reaches_push d b x is i) e

else_next_push : (x is : Symbols) → else_next x ≡ true → else_next (x ++ is) ≡ true
else_next_push [] is e = absurd (cc)
else_next_push (lexeme c ∷ x) is e = e
else_next_push (mark m ∷ x) is e = absurd (cc)
else_next_push (rule q ∷ x) is e = absurd (cc)

pub freely_push : (x is : Symbols) → begins_freely is ≡ true → begins_freely x ≡ true → begins_freely (x ++ is) ≡ true
freely_push [] is i e = i
freely_push (lexeme c ∷ x) is i e = e
freely_push (mark m ∷ x) is i e = refl
freely_push (rule q ∷ x) is i e = refl

semicolon_true : (a : Class) (x y x' y' : Bool) → (x ≡ true → x' ≡ true) → (y ≡ true → y' ≡ true) → semicolon_ok a x y ≡ true → semicolon_ok a x' y' ≡ true
semicolon_true c.Semicolon x y x' y' f g e = f e
semicolon_true (c.One k.BeforeElse) x y x' y' f g e = g e
semicolon_true (c.One (k.Sign sign.Semicolon)) x y x' y' f g e = e
semicolon_true _ x y x' y' f g e = refl

implies_true : (a b c : Bool) → (b ≡ true → c ≡ true) → implies a b ≡ true → implies a c ≡ true
implies_true true b c f e = f e
implies_true false b c f e = refl

-- a good production in the place of a good rule
pub good_push : (d e b b' : Bool) (x is : Symbols) → implies b (no_else d is) ≡ true → implies b' (reaches_body e is) ≡ true → begins_freely is ≡ true → good b b' x ≡ true → good d e is ≡ true → good d e (x ++ is) ≡ true
good_push d e b b' [] is i j k y z = z
good_push d e b b' (lexeme a ∷ x) is i j k y z =
    let both = and_true (semicolon_ok a (no_else b x) (else_next x) && begins_freely x) (good b b' x) y in
    let here = and_true (semicolon_ok a (no_else b x) (else_next x)) (begins_freely x) both.0 in
    and_both _ _ (and_both _ _ (semicolon_true a (no_else b x) (else_next x) (no_else d (x ++ is)) (else_next (x ++ is)) (no_else_push d b x is i) (else_next_push x is) here.0) (freely_push x is k here.1))
    (good_push d e b b' x is i j k both.1 z)
good_push d e b b' (mark m ∷ x) is i j k y z =
    let both = and_true (begins_freely x) (good b b' x) y in and_both _ _ (freely_push x is k both.0) (good_push d e b b' x is i j k both.1 z)
good_push d e b b' (rule q ∷ x) is i j k y z =
    let both = and_true (implies (may_end_with_semicolon q) (no_else b x) && (implies (may_end_before_else q) (reaches_body b' x) && begins_freely x)) (good b b' x) y in
    let here = and_true (implies (may_end_with_semicolon q) (no_else b x)) (implies (may_end_before_else q) (reaches_body b' x) && begins_freely x) both.0 in
    let more = and_true (implies (may_end_before_else q) (reaches_body b' x)) (begins_freely x) here.1 in
    and_both _ _ (and_both _ _ (implies_true (may_end_with_semicolon q) (no_else b x) (no_else d (x ++ is)) (no_else_push d b x is i) here.0)
    (and_both _ _ (implies_true (may_end_before_else q) (reaches_body b' x) (reaches_body e (x ++ is)) (reaches_push e b' x is j) more.0) (freely_push x is k more.1)))
    (good_push d e b b' x is i j k both.1 z)

-- what a good rule says of what is behind it
pub behind_rule : (d e : Bool) (q : Rule) (is : Symbols) → good d e (rule q ∷ is) ≡ true
    → (implies (may_end_with_semicolon q) (no_else d is) ≡ true) × (implies (may_end_before_else q) (reaches_body e is) ≡ true) × (begins_freely is ≡ true) × (good d e is ≡ true)
behind_rule d e q is y =
    let both = and_true (implies (may_end_with_semicolon q) (no_else d is) && (implies (may_end_before_else q) (reaches_body e is) && begins_freely is)) (good d e is) y in
    let here = and_true (implies (may_end_with_semicolon q) (no_else d is)) (implies (may_end_before_else q) (reaches_body e is) && begins_freely is) both.0 in
    let more = and_true (implies (may_end_before_else q) (reaches_body e is)) (begins_freely is) here.1 in
    (here.0, more.0, more.1, both.1)

pub behind_lexeme : (d e : Bool) (a : Class) (is : Symbols) → good d e (lexeme a ∷ is) ≡ true → (semicolon_ok a (no_else d is) (else_next is) ≡ true) × (begins_freely is ≡ true) × (good d e is ≡ true)
behind_lexeme d e a is y =
    let both = and_true (semicolon_ok a (no_else d is) (else_next is) && begins_freely is) (good d e is) y in
    let here = and_true (semicolon_ok a (no_else d is) (else_next is)) (begins_freely is) both.0 in
    (here.0, here.1, both.1)

pub behind_mark : (d e : Bool) (m : Mark) (is : Symbols) → good d e (mark m ∷ is) ≡ true → (begins_freely is ≡ true) × (good d e is ≡ true)
behind_mark d e m is y = and_true (begins_freely is) (good d e is) y

production_is_ok : (text : List ℕ) (q : Rule) (p : AlternativeOf (language text) q) → production_ok q (symbols_of (language text) q p) ≡ true
production_is_ok text q p = each_index_so (productions text q) (λ p. production_ok q (at (productions text q) p).symbols) (ok text q) p

pub opened_good : (text : List ℕ) (d e : Bool) (q : Rule) (p : AlternativeOf (language text) q) (is : Symbols) → good d e (rule q ∷ is) ≡ true → good d e (symbols_of (language text) q p ++ is) ≡ true
opened_good text d e q p is y =
    let (i, j, k, z) = behind_rule d e q is y in
    good_push d e (may_end_with_semicolon q) (may_end_before_else q) (symbols_of (language text) q p) is i j k
    (and_true (good (may_end_with_semicolon q) (may_end_before_else q) (symbols_of (language text) q p)) (is_else_rule q || begins_freely (symbols_of (language text) q p)) (production_is_ok text q p)).0 z

pub opened_freely : (text : List ℕ) (q : Rule) (p : AlternativeOf (language text) q) → is_else_rule q ≡ false → begins_freely (symbols_of (language text) q p) ≡ true
opened_freely text q p n =
    elim (or_true (is_else_rule q) (begins_freely (symbols_of (language text) q p))
    (and_true (good (may_end_with_semicolon q) (may_end_before_else q) (symbols_of (language text) q p)) (is_else_rule q || begins_freely (symbols_of (language text) q p)) (production_is_ok text q p)).1) [
      | inl y ↦ absurd (cc)
      | inr y ↦ y
    ]
