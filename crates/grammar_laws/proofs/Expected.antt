-- The laws of reading with a stack of the symbols that are expected: what each step means for the
-- whole text, and where the text stops.
use Rattle.std.specs.Prelude.{◌≡◌, zero, suc, true, false, List, [], ◌∷◌, ◌++◌, Some, None, refl}
use Rattle.std.proofs.Common.{append_assoc, append-nil, ap, sym, ◌∙◌, subst}
use Rattle.grammar_laws.specs.Grammar.{Symbol, Trees, Grammar, Derives, Matches, next}
use Rattle.grammar_laws.specs.Grammar.Symbol.{lexeme, rule, mark}
use Rattle.grammar_laws.specs.Lookahead.{Lookahead}
use Rattle.grammar_laws.specs.Predictive.{IsPredictive, IsProductive}
use Rattle.grammar_laws.specs.Prefix.{StopsAt}
use Rattle.grammar_laws.specs.Expects.{Expects}
use Rattle.grammar_laws.proofs.Begins.{unbound_binds, binds_append}
use Rattle.grammar_laws.proofs.Choice.{replaced, unreplaced, follows_opened}
use Rattle.grammar_laws.proofs.Joined.{apart}
use Rattle.grammar_laws.proofs.Alive.{alive}

module _ {Lexeme Class Rule Mark State : Type 0} (g : Grammar Lexeme Class Rule Mark State) where
  abbrev Symbols : Type 0
  Symbols = List (Symbol Class Rule Mark)

  abbrev Vs : Symbols → Type 0
  Vs = Trees Lexeme g.Tree

  -- a text of a production that is allowed is one of its rule
  pub restored : (r : Rule) (p : g.Production r) (is : Symbols) (w : List Lexeme) (s t : State) → g.allows r p (next w) ≡ true → Matches g (g.symbols r p ++ is) w s t → Matches g (rule r ∷ is) w s t
  restored r p is [] s t m (h, us, d) =
      let q = apart Lexeme g.Tree (g.symbols r p) is us in
      (suc h, (g.build r p q.0, q.1), (p, q.0, refl, m, subst (λ (u : Vs (g.symbols r p ++ is)). Derives g h (g.symbols r p ++ is) [] u s t) (sym q.2) d))
  restored r p is (l ∷ w) s t m (h, us, d) =
      let q = apart Lexeme g.Tree (g.symbols r p) is us in
      (suc h, (g.build r p q.0, q.1), (p, q.0, refl, m, subst (λ (u : Vs (g.symbols r p ++ is)). Derives g h (g.symbols r p ++ is) (l ∷ w) u s t) (sym q.2) d))

  unnoted : (m : Mark) (is : Symbols) (w : List Lexeme) (s t : State) → Matches g (mark m ∷ is) w s t → Matches g is w (g.note s m) t
  unnoted m is [] s t (zero, vs, d) = absurd d
  unnoted m is (l ∷ w) s t (zero, vs, d) = absurd d
  unnoted m is [] s t (suc h, vs, d) = (h, vs, d)
  unnoted m is (l ∷ w) s t (suc h, vs, d) = (h, vs, d)

  pub renoted : (m : Mark) (is : Symbols) (w : List Lexeme) (s t : State) → Matches g is w (g.note s m) t → Matches g (mark m ∷ is) w s t
  renoted m is [] s t (h, vs, d) = (suc h, vs, d)
  renoted m is (l ∷ w) s t (h, vs, d) = (suc h, vs, d)

  pub taken : (c : Class) (is : Symbols) (l : Lexeme) (w : List Lexeme) (s t : State) → Matches g (lexeme c ∷ is) (l ∷ w) s t → (g.admits c l ≡ true) × Matches g is w (g.see s l) t
  taken c is l w s t (zero, vs, d) = absurd d
  taken c is l w s t (suc h, vs, d) = (d.0, (h, vs.1, d.2))

  module _ (a : Lookahead Lexeme Class Rule g.Production) where
    -- in the beginning the rule is expected
    pub begun : IsProductive g a → (r : Rule) (s0 : State) (rest : List Lexeme) → Expects g a (rule r ∷ []) s0 [] (rule r ∷ []) rest s0
    begun p r s0 rest = record {
      viable = alive g a p (rule r ∷ []) s0 tt;
      sound = λ w t e f. f;
      complete = λ w t e f. f;
      follows = ((λ l e. absurd (cc)), tt);
      binds = tt;
    }

    -- a rule is replaced by the symbols of the production that the next lexeme chooses
    pub opened : IsPredictive g a → (start : Symbols) (s0 : State) (past : List Lexeme) (r : Rule) (p : g.Production r) (is : Symbols) (rest : List Lexeme) (s : State)
        → a.choose r (next rest) ≡ Some p → Expects g a start s0 past (rule r ∷ is) rest s → Expects g a start s0 past (g.symbols r p ++ is) rest s
    opened c start s0 past r p is rest s e x = record {
      viable = x.viable;
      sound = λ w t same f. x.sound w t same (restored r p is w s t (c.allowed r p (next w) (ap (a.choose r) same ∙ e)) f);
      complete = λ w t same f. replaced g a c r p is w s t x.follows (ap (a.choose r) same ∙ e) (x.complete w t same f);
      follows = follows_opened g a c r p is x.follows;
      binds = binds_append g a (g.symbols r p) is (c.binds r p) x.binds;
    }

    -- a mark is noted
    pub noted : (start : Symbols) (s0 : State) (past : List Lexeme) (m : Mark) (is : Symbols) (rest : List Lexeme) (s : State)
        → Expects g a start s0 past (mark m ∷ is) rest s → Expects g a start s0 past is rest (g.note s m)
    noted start s0 past m is rest s x = record {
      viable = x.viable;
      sound = λ w t same f. x.sound w t same (renoted m is w s t f);
      complete = λ w t same f. unnoted m is w s t (x.complete w t same f);
      follows = x.follows;
      binds = unbound_binds g a is x.binds;
    }

    -- a lexeme of the class is taken
    pub took : IsProductive g a → (start : Symbols) (s0 : State) (past : List Lexeme) (c : Class) (is : Symbols) (l : Lexeme) (rest : List Lexeme) (s : State)
        → g.admits c l ≡ true → Expects g a start s0 past (lexeme c ∷ is) (l ∷ rest) s → Expects g a start s0 (past ++ l ∷ []) is rest (g.see s l)
    took p start s0 past c is l rest s e x =
        let on = λ (w : List Lexeme) (t : State) (f : Matches g is w (g.see s l) t).
        subst (λ (y : List Lexeme). Matches g start y s0 t) (sym (append_assoc past (l ∷ []) w)) (x.sound (l ∷ w) t refl (suc f.0, (l, f.1), (e, refl, f.2))) in
        let more = alive g a p is (g.see s l) x.binds in
        record {
          viable = (more.0, more.1, on more.0 more.1 more.2);
          sound = λ w t same f. on w t f;
          complete = λ w t same f. (taken c is l w s t (x.complete (l ∷ w) t refl (subst (λ (y : List Lexeme). Matches g start y s0 t) (append_assoc past (l ∷ []) w) f))).1;
          follows = x.follows;
          binds = x.binds;
        }

    -- nothing more is expected at the end: the whole text is read
    pub whole : (start : Symbols) (s0 : State) (past : List Lexeme) (s : State) → Expects g a start s0 past [] [] s → Matches g start past s0 s
    whole start s0 past s x = subst (λ (y : List Lexeme). Matches g start y s0 s) (append-nil past) (x.sound [] s refl (zero, tt, refl))

    -- The text stops at a lexeme that is not of the class,
    pub stops_at_lexeme : (start : Symbols) (s0 : State) (past : List Lexeme) (c : Class) (is : Symbols) (l : Lexeme) (rest : List Lexeme) (s : State)
        → g.admits c l ≡ false → Expects g a start s0 past (lexeme c ∷ is) (l ∷ rest) s → StopsAt g start s0 past (l ∷ rest)
    stops_at_lexeme start s0 past c is l rest s e x = record { viable = x.viable; further = λ w t same f. never w t same (x.complete w t same f) }
      where
        never : (w : List Lexeme) (t : State) → next w ≡ Some l → Matches g (lexeme c ∷ is) w s t → ⊥
        never [] t same f = cc
        never (b ∷ w) t same f = let it : b ≡ l = cc in let y = (taken c is b w s t f).0 in absurd (cc (ap (g.admits c) it))

    -- at the end where a lexeme is expected,
    pub stops_at_end : (start : Symbols) (s0 : State) (past : List Lexeme) (c : Class) (is : Symbols) (s : State)
        → Expects g a start s0 past (lexeme c ∷ is) [] s → StopsAt g start s0 past []
    stops_at_end start s0 past c is s x = record { viable = x.viable; further = λ w t same f. never w t same (x.complete w t same f) }
      where
        never : (w : List Lexeme) (t : State) → next w ≡ None → Matches g (lexeme c ∷ is) w s t → ⊥
        never [] t same (zero, vs, d) = absurd d
        never [] t same (suc h, vs, d) = absurd d
        never (b ∷ w) t same f = absurd (cc)

    -- where no production is chosen,
    pub stops_at_rule : IsPredictive g a → (start : Symbols) (s0 : State) (past : List Lexeme) (r : Rule) (is : Symbols) (rest : List Lexeme) (s : State)
        → a.choose r (next rest) ≡ None → Expects g a start s0 past (rule r ∷ is) rest s → StopsAt g start s0 past rest
    stops_at_rule c start s0 past r is rest s e x = record {
      viable = x.viable;
      further = λ w t same f. unreplaced g a c r is w s t x.follows (ap (a.choose r) same ∙ e) (x.complete w t same f);
    }

    -- and where nothing more is expected.
    pub stops_behind_all : (start : Symbols) (s0 : State) (past : List Lexeme) (l : Lexeme) (rest : List Lexeme) (s : State)
        → Expects g a start s0 past [] (l ∷ rest) s → StopsAt g start s0 past (l ∷ rest)
    stops_behind_all start s0 past l rest s x = record { viable = x.viable; further = λ w t same f. never w t same (x.complete w t same f) }
      where
        never : (w : List Lexeme) (t : State) → next w ≡ Some l → Matches g [] w s t → ⊥
        never [] t same f = cc
        never (b ∷ w) t same (zero, vs, d) = absurd d
        never (b ∷ w) t same (suc h, vs, d) = absurd d
