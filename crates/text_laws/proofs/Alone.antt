-- What CREATE PROCEDURE or CREATE TRIGGER keeps of a text reads, alone, as such a definition: the same lexemes, with other places, are a
-- text of the same rules, and stand for what differs in places alone.
use Rattle.std.specs.Prelude.{◌≡◌, ℕ, zero, suc, ◌-◌, ◌≤◌, not, Bool, true, false, ◌&&◌, List, [], ◌∷◌, ◌++◌, length, map, Option, Some, None, Ok, refl}
use Rattle.std.specs.List.{slice_get}
use Rattle.std.proofs.Common.{ap, sym, ◌∙◌, subst, arith}
use Rattle.std.proofs.lemmas.List.{append-nil}
use Rattle.tsql_lexer.specs.declared.fault.Flaw.{Flaw}
use Rattle.tsql_lexer.specs.declared.lexeme.Lexeme.{Lexeme}
use Rattle.tsql_lexer.specs.declared.lexeme.Spanned.{Spanned}
use Rattle.tsql_lexer.specs.Reading.{lexing_of}
use Rattle.tsql_tree.specs.declared.definition.Definition.{Definition}
use Rattle.tsql_tree.specs.declared.statement.Batch.TheVariants as batch
use Rattle.tsql_grammar.specs.declared.rule.Around.{Around}
use Rattle.tsql_grammar.specs.declared.rule.Rule.{Rule}
use Rattle.tsql_grammar.specs.declared.rule.Rule.TheVariants as r
use Rattle.tsql_grammar.specs.Language.{language}
use Rattle.tsql_grammar.specs.Lookahead.{first as may_begin, nearest, nullable}
use Rattle.tsql_grammar.specs.Noted.{Noted, note, see, start}
use Rattle.tsql_grammar.specs.PlainText.{plainly_admits, ReadsPlain}
use Rattle.tsql_grammar.specs.Productions.{Symbols, Production, Tree, productions}
use Rattle.tsql_grammar.specs.Terminals.{Terminal, begins_else, kind, line, terminals}
use Rattle.tsql_grammar.specs.Trees.{slice}
use Rattle.tsql_grammar.specs.Words.{kind_of}
use Rattle.tsql_grammar.specs.Parsed.{lexemes_of, end_by, end_of, BatchOf, DefinitionOf}
use Rattle.grammar_laws.specs.Grammar.{Trees, Derives, join, next}
use Rattle.grammar_laws.specs.Grammar.Symbol.{lexeme, rule, mark}
use Rattle.grammar_laws.specs.Alternatives.{IndexOf, at, may_take, kind_of as kind_next}
use Rattle.grammar_laws.specs.Lookahead.{empties_by}
use Rattle.text_laws.specs.Placeless.{AreLike, placeless}
use Rattle.text_laws.specs.Slices.{moved_by, end_behind}
use Rattle.text_laws.proofs.Calm.{not_so}
use Rattle.text_laws.proofs.Alike.{P}
use Rattle.text_laws.proofs.Nested.{slice_length}
use Rattle.text_laws.proofs.Slices.{slice_lexes}
use Rattle.text_laws.proofs.Stating.{Like, Likes, created, kept, looks, ways_like}
use Rattle.text_laws.proofs.Tables.{is_create}

-- ---- the same lexemes

abbrev pub AreSame : List Terminal → List Terminal → Type 0
AreSame [] [] = Unit {0}
AreSame [] (l' ∷ w') = ⊥
AreSame (l ∷ w) [] = ⊥
AreSame (l ∷ w) (l' ∷ w') = (kept l ≡ kept l') × AreSame w w'

see_same : (s : Noted) (l l' : Terminal) → kept l ≡ kept l' → see s l' ≡ see s l
see_same s l l' e = ap (see s) (sym e)

-- ---- productions

-- none but those of these two rules look at the text
productions_same : (text other : List ℕ) (q : Rule) → looks q ≡ false → productions text q ≡ productions other q
productions_same text other r.AfterFirstCreate e = absurd (not_so (sym e))
productions_same text other (r.Statement a) e = absurd (not_so (sym e))
productions_same text other (r.Compared zero) e = refl
productions_same text other (r.Compared (suc n)) e = refl
productions_same text other (r.Tested zero) e = refl
productions_same text other (r.Tested (suc n)) e = refl
productions_same text other _ e = refl

-- before which next lexeme one may be taken, by its symbols
abbrev taken : Rule → Symbols → Option Terminal → Bool
taken q symbols None = true
taken q symbols (Some l) = not (nearest q && (empties_by nullable symbols && may_begin q (kind l)))

was_taken : (text : List ℕ) (q : Rule) (p : IndexOf (productions text q)) (x : Option Terminal) → may_take (language text) q p (kind_next (language text) x) ≡ true → taken q (at (productions text q) p).symbols x ≡ true
was_taken text q p None e = refl
was_taken text q p (Some l) e = e

is_taken : (text : List ℕ) (q : Rule) (p : IndexOf (productions text q)) (x : Option Terminal) → taken q (at (productions text q) p).symbols x ≡ true → may_take (language text) q p (kind_next (language text) x) ≡ true
is_taken text q p None e = refl
is_taken text q p (Some l) e = e

taken_same : (q : Rule) (symbols : Symbols) (w w' : List Terminal) → AreSame w w' → taken q symbols (next w) ≡ true → taken q symbols (next w') ≡ true
taken_same q symbols [] [] same e = refl
taken_same q symbols [] (l' ∷ w') same e = absurd same
taken_same q symbols (l ∷ w) [] same e = absurd same
taken_same q symbols (l ∷ w) (l' ∷ w') same e = subst (λ (z : Terminal). taken q symbols (Some z) ≡ true) same.0 e

-- before anything, where the rule is never left out
any : (q : Rule) → nearest q ≡ false → (symbols : Symbols) (x : Option Terminal) → taken q symbols x ≡ true
any q e symbols None = refl
any q e symbols (Some l) = λ i. not (e i && (empties_by nullable symbols && may_begin q (kind l)))

-- ---- values of two lists of symbols

record Parts (a b : Symbols) (x : Trees Terminal Tree a) (y : Trees Terminal Tree b) (z : Trees Terminal Tree (a ++ b)) : Type 0 where
  front : Trees Terminal Tree a
  back : Trees Terminal Tree b
  whole : z ≡ join Terminal Tree a b front back
  likes : Likes a x front
  rest : Likes b y back

parts : (a b : Symbols) (x : Trees Terminal Tree a) (y : Trees Terminal Tree b) (z : Trees Terminal Tree (a ++ b)) → Likes (a ++ b) (join Terminal Tree a b x y) z → Parts a b x y z
parts [] b x y z likes = record { front = tt; back = z; whole = refl; likes = tt; rest = likes }
parts (lexeme c ∷ a) b x y z likes =
    let on = parts a b x.1 y z.1 likes.1 in
    let whole = on.whole in
    record { front = (z.0, on.front); back = on.back; whole = λ i. (z.0, whole i); likes = (likes.0, on.likes); rest = on.rest }
parts (rule q ∷ a) b x y z likes =
    let on = parts a b x.1 y z.1 likes.1 in
    let whole = on.whole in
    record { front = (z.0, on.front); back = on.back; whole = λ i. (z.0, whole i); likes = (likes.0, on.likes); rest = on.rest }
parts (mark m ∷ a) b x y z likes =
    let on = parts a b x y z likes in
    record { front = on.front; back = on.back; whole = on.whole; likes = on.likes; rest = on.rest }

-- ---- in another text

module _ (text other : List ℕ) where
  -- they are a text of the symbols there, too, and stand for what is alike
  pub record Alike (h : ℕ) (is : Symbols) (w' : List Terminal) (vs : Trees Terminal Tree is) (s t : Noted) : Type 0 where
    pub values : Trees Terminal Tree is
    pub likes : Likes is vs values
    pub reads : Derives (P other) h is w' values s t

  -- a rule is replaced by the symbols of a production of a list
  abbrev Goes : ℕ → (q : Rule) → List (Production q) → (is : Symbols) → List Terminal → Tree q → Trees Terminal Tree is → Noted → Noted → Type 0
  Goes h q ways is w' v rest s t = (p : IndexOf ways) × (xs : Trees Terminal Tree (at ways p).symbols) × (v ≡ (at ways p).build xs) × (taken q (at ways p).symbols (next w') ≡ true)
      × Derives (P other) h ((at ways p).symbols ++ is) w' (join Terminal Tree (at ways p).symbols is xs rest) s t

  goes_on : (h : ℕ) (q : Rule) (is : Symbols) (w' : List Terminal) (v : Tree q) (rest : Trees Terminal Tree is) (s t : Noted) → Goes h q (productions other q) is w' v rest s t → Derives (P other) (suc h) (rule q ∷ is) w' (v, rest) s t
  goes_on h q is w' v rest s t (p, xs, e, allowed, d) = (p, xs, e, is_taken other q p (next w') allowed, d)

  -- by a production, with values that are alike
  module _ (h : ℕ) (is : Symbols) (w' : List Terminal) (s t : Noted) where
    rule_alike : (q : Rule) → looks q ≡ false → (v : Tree q) (rest : Trees Terminal Tree is) (p : IndexOf (productions text q)) (xs : Trees Terminal Tree (at (productions text q) p).symbols) → v ≡ (at (productions text q) p).build xs
        → taken q (at (productions text q) p).symbols (next w') ≡ true
        → Alike h ((at (productions text q) p).symbols ++ is) w' (join Terminal Tree (at (productions text q) p).symbols is xs rest) s t → Alike (suc h) (rule q ∷ is) w' (v, rest) s t
    rule_alike q ok v rest p xs e allowed a =
        let cut = parts (at (productions text q) p).symbols is xs rest a.values a.likes in
        let v' : Tree q = (at (productions text q) p).build cut.front in
        let d = subst (λ (z : Trees Terminal Tree ((at (productions text q) p).symbols ++ is)). Derives (P other) h ((at (productions text q) p).symbols ++ is) w' z s t) cut.whole a.reads in
        record {
          values = (v', cut.back);
          likes = (subst (λ (z : Tree q). Like q z v') (sym e) (ways_like text q ok p xs cut.front cut.likes), cut.rest);
          reads = goes_on h q is w' v' cut.back s t (subst (λ (ways : List (Production q)). Goes h q ways is w' v' cut.back s t) (productions_same text other q ok) (p, cut.front, refl, allowed, d));
        }

    first_alike : (v : Tree r.AfterFirstCreate) (rest : Trees Terminal Tree is) (p : IndexOf (productions text r.AfterFirstCreate)) (xs : Trees Terminal Tree (at (productions text r.AfterFirstCreate) p).symbols)
        → Alike h ((at (productions text r.AfterFirstCreate) p).symbols ++ is) w' (join Terminal Tree (at (productions text r.AfterFirstCreate) p).symbols is xs rest) s t → Alike (suc h) (rule r.AfterFirstCreate ∷ is) w' (v, rest) s t
    first_alike v rest None xs a = record {
      values = ((at (productions other r.AfterFirstCreate) None).build (a.values.0, tt), a.values.1);
      likes = (tt, a.likes.1);
      reads = goes_on h r.AfterFirstCreate is w' _ a.values.1 s t (None, (a.values.0, tt), refl, any r.AfterFirstCreate refl (at (productions other r.AfterFirstCreate) None).symbols (next w'), a.reads);
    }
    first_alike v rest (Some None) xs a = record {
      values = ((at (productions other r.AfterFirstCreate) (Some None)).build (a.values.0, tt), a.values.1);
      likes = (tt, a.likes.1);
      reads = goes_on h r.AfterFirstCreate is w' _ a.values.1 s t (Some None, (a.values.0, tt), refl, any r.AfterFirstCreate refl (at (productions other r.AfterFirstCreate) (Some None)).symbols (next w'), a.reads);
    }
    first_alike v rest (Some (Some None)) xs a = record {
      values = ((at (productions other r.AfterFirstCreate) (Some (Some None))).build (a.values.0, (a.values.1.0, tt)), a.values.1.1);
      likes = (tt, a.likes.1.1);
      reads = goes_on h r.AfterFirstCreate is w' _ a.values.1.1 s t (Some (Some None), (a.values.0, (a.values.1.0, tt)), refl, any r.AfterFirstCreate refl (at (productions other r.AfterFirstCreate) (Some (Some None))).symbols (next w'), a.reads);
    }
    first_alike v rest (Some (Some (Some p))) xs a = absurd p

    statement_alike : (a : Around) (v : Tree (r.Statement a)) (rest : Trees Terminal Tree is) (p : IndexOf (productions text (r.Statement a))) (xs : Trees Terminal Tree (at (productions text (r.Statement a)) p).symbols)
        → v ≡ (at (productions text (r.Statement a)) p).build xs
        → Alike h ((at (productions text (r.Statement a)) p).symbols ++ is) w' (join Terminal Tree (at (productions text (r.Statement a)) p).symbols is xs rest) s t → Alike (suc h) (rule (r.Statement a) ∷ is) w' (v, rest) s t
    statement_alike a v rest None xs e al = record {
      values = ((at (productions other (r.Statement a)) None).build (al.values.0, (al.values.1.0, tt)), al.values.1.1);
      likes = (ap placeless e ∙ created xs.0 al.values.0 xs.1.0.0 al.values.1.0.0 _ _ al.likes.1.0, al.likes.1.1);
      reads = goes_on h (r.Statement a) is w' _ al.values.1.1 s t (None, (al.values.0, (al.values.1.0, tt)), refl, any (r.Statement a) refl (at (productions other (r.Statement a)) None).symbols (next w'), al.reads);
    }
    statement_alike a v rest (Some None) xs e al = record {
      values = (al.values.0, al.values.1);
      likes = (ap placeless e ∙ al.likes.0, al.likes.1);
      reads = goes_on h (r.Statement a) is w' al.values.0 al.values.1 s t (Some None, (al.values.0, tt), refl, any (r.Statement a) refl (at (productions other (r.Statement a)) (Some None)).symbols (next w'), al.reads);
    }
    statement_alike a v rest (Some (Some p)) xs e al = absurd p

  pub alike : (h : ℕ) (is : Symbols) (w w' : List Terminal) → AreSame w w' → (vs : Trees Terminal Tree is) (s t : Noted) → Derives (P text) h is w vs s t → Alike h is w' vs s t
  alike h [] [] [] same vs s t d = record { values = tt; likes = tt; reads = d }
  alike h [] [] (l' ∷ w') same vs s t d = absurd same
  alike h [] (l ∷ w) w' same vs s t d = absurd d
  alike zero (i ∷ is) w w' same vs s t d = absurd d
  alike (suc h) (lexeme c ∷ is) [] w' same vs s t d = absurd d
  alike (suc h) (lexeme c ∷ is) (l ∷ w) [] same vs s t d = absurd same
  alike (suc h) (lexeme c ∷ is) (l ∷ w) (l' ∷ w') same vs s t (k, e, d) =
      let rest = alike h is w w' same.1 vs.1 (see s l) t d in
      let it : l.spanned.lexeme ≡ l'.spanned.lexeme = ap (λ (z : Terminal). z.spanned.lexeme) same.0 in
      record {
        values = (l', rest.values);
        likes = (ap kept e ∙ same.0, rest.likes);
        reads = (subst (λ (x : Lexeme). plainly_admits c (kind_of x) ≡ true) it k, refl, subst (λ (m : Noted). Derives (P other) h is w' rest.values m t) (sym (see_same s l l' same.0)) rest.reads);
      }
  alike (suc h) (mark m ∷ is) w w' same vs s t d =
      let rest = alike h is w w' same vs (note s m) t d in
      record { values = rest.values; likes = rest.likes; reads = rest.reads }
  alike (suc h) (rule r.AfterFirstCreate ∷ is) w w' same vs s t (p, xs, e, allowed, d) =
      first_alike h is w' s t vs.0 vs.1 p xs (alike h ((at (productions text r.AfterFirstCreate) p).symbols ++ is) w w' same (join Terminal Tree (at (productions text r.AfterFirstCreate) p).symbols is xs vs.1) s t d)
  alike (suc h) (rule (r.Statement a) ∷ is) w w' same vs s t (p, xs, e, allowed, d) =
      statement_alike h is w' s t a vs.0 vs.1 p xs e (alike h ((at (productions text (r.Statement a)) p).symbols ++ is) w w' same (join Terminal Tree (at (productions text (r.Statement a)) p).symbols is xs vs.1) s t d)
  alike (suc h) (rule q ∷ is) w w' same vs s t (p, xs, e, allowed, d) =
      rule_alike h is w' s t q refl vs.0 vs.1 p xs e (taken_same q (at (productions text q) p).symbols w w' same (was_taken text q p (next w) allowed))
      (alike h ((at (productions text q) p).symbols ++ is) w w' same (join Terminal Tree (at (productions text q) p).symbols is xs vs.1) s t d)

-- ---- moved lexemes

begins_moved : (first : Spanned) (u : List Spanned) → begins_else u ≡ begins_else (map (moved_by first) u)
begins_moved first [] = refl
begins_moved first (l ∷ u) = refl

moved_same : (first : Spanned) (u : List Spanned) → AreSame (terminals u) (terminals (map (moved_by first) u))
moved_same first [] = tt
moved_same first (l ∷ u) = ((λ i. record { spanned = record { lexeme = l.lexeme; start = 0; end = 0; line = 0 }; before_else = begins_moved first u i }), moved_same first u)

-- ---- in its slice

less_one : (n : ℕ) → suc n - 1 ≡ n
less_one n = omega arith

end_is : (first : Spanned) (u : List Spanned) → end_of (first ∷ u) ≡ end_behind first.end u
end_is first [] = refl
end_is first (l ∷ u) = ap (λ (n : ℕ). end_by (slice_get (first ∷ l ∷ u) n)) (less_one (suc (length u))) ∙ sym (ap (λ (n : ℕ). end_by (slice_get (l ∷ u) n)) (less_one (length u))) ∙ end_is l u

-- A text's lexemes are these, and it has no flaw: CREATE, and behind it a procedure or trigger.
module _ (text : List ℕ) (first : Spanned) (u : List Spanned) (stands : lexemes_of text ≡ first ∷ u) where
  abbrev At : Terminal
  At = record { spanned = first; before_else = begins_else u }

  abbrev Part : List ℕ
  Part = slice text first.start (end_of (first ∷ u))

  abbrev Moved : List Spanned
  Moved = map (moved_by first) (first ∷ u)

  lexing : lexing_of Part ≡ (Moved, None)
  lexing = ap (λ (n : ℕ). lexing_of (slice text first.start n)) (end_is first u) ∙ slice_lexes text [] u [] first (stands ∙ ap (λ (z : List Spanned). first ∷ z) (sym (append-nil u)))

  same : AreSame (terminals (first ∷ u)) (terminals Moved)
  same = moved_same first (first ∷ u)

  -- what is behind CREATE, in the slice
  abbrev Behind : (q : Rule) → Tree q → Noted → Type 0
  Behind q v t = (h : ℕ) × (v' : Tree q) × Like q v v' × Derives (P Part) h (rule q ∷ []) (terminals (map (moved_by first) u)) (v', tt) (see (start true) (record { spanned = moved_by first first; before_else = begins_else (map (moved_by first) u) })) t

  behind : (h : ℕ) (q : Rule) (v : Tree q) (t : Noted) → Derives (P text) h (rule q ∷ []) (terminals u) (v, tt) (see (start true) At) t → Behind q v t
  behind h q v t d =
      let a = alike text Part h (rule q ∷ []) (terminals u) (terminals (map (moved_by first) u)) same.1 (v, tt) (see (start true) At) t d in
      (h, a.values.0, a.likes.0, a.reads)

  reads_kept : (own : Definition) (t : Noted) → is_create At → (h : ℕ) → Derives (P Part) h (rule r.AfterCreate ∷ []) (terminals (map (moved_by first) u)) (own, tt) (see (start true) (record { spanned = moved_by first first; before_else = begins_else (map (moved_by first) u) })) t
      → t.fault ≡ None → DefinitionOf Part (Ok own)
  reads_kept own t k h d sound = record {
    flawless = ap (λ (z : List Spanned × Option Flaw). z.1) lexing;
    reads = (
      t,
      subst (λ (z : List Spanned × Option Flaw). ReadsPlain Part r.Definition z.0 own (start true) t) (sym lexing)
          (suc (suc h), (None, (record { spanned = moved_by first first; before_else = begins_else (map (moved_by first) u) }, (own, tt)), refl, refl, (k, refl, d))),
      sound,
    );
  }

  after_procedure : (h : ℕ) (w : List Terminal) (v : Tree r.Procedure) (s t : Noted) → Derives (P Part) h (rule r.Procedure ∷ []) w (v, tt) s t → Derives (P Part) (suc h) (rule r.AfterCreate ∷ []) w (v, tt) s t
  after_procedure h [] v s t d = (None, (v, tt), refl, refl, d)
  after_procedure h (l ∷ w) v s t d = (None, (v, tt), refl, refl, d)

  after_trigger : (h : ℕ) (w : List Terminal) (v : Tree r.Trigger) (s t : Noted) → Derives (P Part) h (rule r.Trigger ∷ []) w (v, tt) s t → Derives (P Part) (suc h) (rule r.AfterCreate ∷ []) w (v, tt) s t
  after_trigger h [] v s t d = (Some None, (v, tt), refl, refl, d)
  after_trigger h (l ∷ w) v s t d = (Some None, (v, tt), refl, refl, d)

  -- it reads as one that is alike
  abbrev IsKept : Definition → List ℕ → Type 0
  IsKept of kept = (own : Definition) × DefinitionOf kept (Ok own) × AreLike of own × (length kept ≤ length text)

  defines_same : (n m : ℕ) (of other : Definition) (x y : List ℕ) → batch.Definition n of x ≡ batch.Definition m other y → (of ≡ other) × (x ≡ y)
  defines_same n m of other x y e = let first : of ≡ other = cc in let second : x ≡ y = cc in (first, second)

  by_definition : (of : Definition) (n m : ℕ) (other : Definition) (kept : List ℕ) → batch.Definition n of Part ≡ batch.Definition m other kept → IsKept of Part → IsKept other kept
  by_definition of n m other kept e is =
      let both = defines_same n m of other Part kept e in
      subst (λ (z : Definition). IsKept z kept) both.0 (subst (IsKept of) both.1 is)

  after_first : (h : ℕ) (after : Tree r.AfterFirstCreate) (t : Noted) (m : ℕ) (of : Definition) (kept : List ℕ) → is_create At → Derives (P text) h (rule r.AfterFirstCreate ∷ []) (terminals u) (after, tt) (see (start true) At) t → t.fault ≡ None
      → after At (end_of (first ∷ u)) ≡ batch.Definition m of kept → IsKept of kept
  after_first zero after t m of kept k d sound is = absurd d
  after_first (suc h) after t m of kept k (None, xs, e, allowed, d) sound is =
      let (j, own, like, on) = behind h r.Procedure xs.0 t d in
      by_definition xs.0 (line At) m of kept (sym (ap (λ (z : Tree r.AfterFirstCreate). z At (end_of (first ∷ u))) e) ∙ is)
      (own, reads_kept own t k (suc j) (after_procedure j (terminals (map (moved_by first) u)) own _ t on) sound, like, slice_length text first.start (end_of (first ∷ u)))
  after_first (suc h) after t m of kept k (Some None, xs, e, allowed, d) sound is =
      let (j, own, like, on) = behind h r.Trigger xs.0 t d in
      by_definition xs.0 (line At) m of kept (sym (ap (λ (z : Tree r.AfterFirstCreate). z At (end_of (first ∷ u))) e) ∙ is)
      (own, reads_kept own t k (suc j) (after_trigger j (terminals (map (moved_by first) u)) own _ t on) sound, like, slice_length text first.start (end_of (first ∷ u)))
  after_first (suc h) after t m of kept k (Some (Some None), xs, e, allowed, d) sound is =
      absurd (let no : batch.Body _ ≡ batch.Definition m of kept = sym (ap (λ (z : Tree r.AfterFirstCreate). z At (end_of (first ∷ u))) e) ∙ is in cc)
  after_first (suc h) after t m of kept k (Some (Some (Some p)), xs, e, allowed, d) sound is = absurd p

-- so does what a batch that is a definition keeps of its text
kept_in : (text : List ℕ) (lexemes : List Spanned) → lexemes_of text ≡ lexemes → (h : ℕ) (tree : Tree r.Batch) (t : Noted) (m : ℕ) (of : Definition) (kept : List ℕ) → Derives (P text) h (rule r.Batch ∷ []) (terminals lexemes) (tree, tt) (start true) t
    → t.fault ≡ None → tree (end_of lexemes) ≡ batch.Definition m of kept → (own : Definition) × DefinitionOf kept (Ok own) × AreLike of own × (length kept ≤ length text)
kept_in text lexemes stands zero tree t m of kept d sound is = absurd d
kept_in text lexemes stands (suc zero) tree t m of kept (None, xs, e, allowed, d) sound is = absurd d
kept_in text [] stands (suc (suc h)) tree t m of kept (None, xs, e, allowed, d) sound is = absurd d
kept_in text (first ∷ u) stands (suc (suc h)) tree t m of kept (None, xs, e, allowed, (k, it, d)) sound is =
    after_first text first u stands h xs.1.0 t m of kept k d sound
    (sym (ap (λ (z : Terminal). xs.1.0 z (end_of (first ∷ u))) it) ∙ sym (ap (λ (z : Tree r.Batch). z (end_of (first ∷ u))) e) ∙ is)
kept_in text lexemes stands (suc h) tree t m of kept (Some None, xs, e, allowed, d) sound is = absurd (let no : batch.Body _ ≡ batch.Definition m of kept = sym (ap (λ (z : Tree r.Batch). z (end_of lexemes)) e) ∙ is in cc)
kept_in text lexemes stands (suc h) tree t m of kept (Some (Some None), xs, e, allowed, d) sound is = absurd (let no : batch.Body _ ≡ batch.Definition m of kept = sym (ap (λ (z : Tree r.Batch). z (end_of lexemes)) e) ∙ is in cc)
kept_in text lexemes stands (suc h) tree t m of kept (Some (Some (Some None)), xs, e, allowed, d) sound is = absurd (let no : batch.Body _ ≡ batch.Definition m of kept = sym (ap (λ (z : Tree r.Batch). z (end_of lexemes)) e) ∙ is in cc)
kept_in text lexemes stands (suc h) tree t m of kept (Some (Some (Some (Some p))), xs, e, allowed, d) sound is = absurd p

pub kept_definition : (text : List ℕ) (m : ℕ) (of : Definition) (kept : List ℕ) → BatchOf text (Ok (batch.Definition m of kept)) → (own : Definition) × DefinitionOf kept (Ok own) × AreLike of own × (length kept ≤ length text)
kept_definition text m of kept (tree, stands, is) =
    let (t, (h, d), sound) = stands.reads in kept_in text (lexemes_of text) refl h tree t m of kept d sound (sym is)
