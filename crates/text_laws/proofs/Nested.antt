-- What each CREATE TABLE of statements keeps, at whatever level they stand: by induction on the derivation.
use Rattle.std.specs.Prelude.{◌≡◌, ℕ, zero, suc, ◌-◌, ◌≤◌, Bool, true, false, ◌||◌, ◌&&◌, List, [], ◌∷◌, ◌++◌, length, drop, option_map, Option, Some, None, if◌then◌else◌, refl}
use Rattle.std.specs.List.{AllByRecursion}
use Rattle.std.specs.Option.{ForSome}
use Rattle.std.proofs.Common.{ap, sym, ◌∙◌, subst, append_assoc, arith}
use Rattle.std.proofs.lemmas.List.{append-nil, length-take, length-drop}
use Rattle.tsql_tree.specs.declared.query.Test.{Test}
use Rattle.tsql_tree.specs.declared.statement.Declaration.{Declaration}
use Rattle.tsql_tree.specs.declared.statement.Form.{Form, Form-F, fold-Form}
use Rattle.tsql_tree.specs.declared.statement.Form.TheVariants as form
use Rattle.tsql_tree.specs.declared.statement.Statement.{Statement, roll-Statement, the_lemmas}
use Rattle.tsql_grammar.specs.declared.kind.Reserved.TheVariants as w
use Rattle.tsql_grammar.specs.declared.rule.Around.{Around}
use Rattle.tsql_grammar.specs.declared.rule.Rule.{Rule}
use Rattle.tsql_grammar.specs.declared.rule.Rule.TheVariants as r
use Rattle.tsql_grammar.specs.Noted.{Noted, see, note}
use Rattle.tsql_grammar.specs.Productions.{Symbols, Production, Tree, productions, reserved, way}
use Rattle.tsql_grammar.specs.Terminals.{Terminal, terminals, line}
use Rattle.tsql_grammar.specs.Trees.{slice, statement}
use Rattle.tsql_grammar.specs.Parsed.{lexemes_of}
use Rattle.grammar_laws.specs.Grammar.{Trees}
use Rattle.grammar_laws.specs.Grammar.Symbol.{lexeme, rule, mark}
use Rattle.grammar_laws.specs.BySymbols.{OfSymbols, Within}
use Rattle.grammar_laws.specs.Alternatives.{IndexOf, at}
use Rattle.text_laws.specs.Laws.{Everywhere, declares_form, declares_statement, declares, are_declared}
use Rattle.text_laws.specs.Rows.{maybe_so, table_leaves}
use Rattle.text_laws.proofs.RowAlone.{none_first, none_second}
use Rattle.text_laws.proofs.Calm.{calm, calm_own, calm_mark, calm_symbols, not_so}
use Rattle.text_laws.proofs.Variables.{holds, table_free}
use Rattle.text_laws.proofs.Noting.{Clear, clear_see, clear_note}
use Rattle.text_laws.proofs.Alike.{P, clear_behind, clear_free, clear_within, sound_before}
use Rattle.text_laws.proofs.Tables.{table_kept, is_create}
use Rattle.text_laws.proofs.Forms.{Keeps, Kept, kept_of, made, put, kept_by, insert_kept, throw_kept, set_kept, execute_kept}

-- ---- which forms declare variables

abbrev form_declares : Form → Bool
form_declares = fold-Form Bool Bool declares_form declares_statement

statement_declares : (l : Terminal) (f : Form) → declares (statement l f) ≡ form_declares f
statement_declares l f = search the_lemmas

if_declares : (test : Test) (so : Statement) (other : Option Statement) → form_declares (form.If test so other) ≡ (declares so || maybe_so (option_map declares other))
if_declares test so None = search the_lemmas
if_declares test so (Some other) = search the_lemmas

while_declares : (test : Test) (body : Statement) → form_declares (form.While test body) ≡ declares body
while_declares test body = search the_lemmas

block_declares : (body : List Statement) → form_declares (form.Block body) ≡ are_declared body
block_declares body = search the_lemmas

try_declares : (body handler : List Statement) → form_declares (form.TryCatch body handler) ≡ (are_declared body || are_declared handler)
try_declares body handler = search the_lemmas

declare_declares : (declarations : List Declaration) → form_declares (form.Declare declarations) ≡ true
declare_declares declarations = search the_lemmas

pub slice_length : (text : List ℕ) (from to : ℕ) → length (slice text from to) ≤ length text
slice_length text from to = omega (arith, length-take (to - from) (drop from text), length-drop from text)

-- a text, in which variables are declared, or not
module _ (text : List ℕ) (declared : Bool) where
  abbrev pub Each : Statement → Type 0
  Each of = Everywhere (Keeps (length text) declared) of

  abbrev OfForm : Form → Type 0
  OfForm f = Kept (length text) declared f

  -- no variable is known, where none is declared
  abbrev pub Known : Noted → Type 0
  Known s = declared ≡ false → Clear s

  -- the lexemes stand between these in the text
  abbrev pub At : List Terminal → List Terminal → List Terminal → Type 0
  At front w back = terminals (lexemes_of text) ≡ front ++ (w ++ back)

  at_part : (front w u v back : List Terminal) → w ≡ u ++ v → At front w back → At front u (v ++ back)
  at_part front w u v back e stands = stands ∙ ap (λ (z : List Terminal). front ++ (z ++ back)) e ∙ ap (λ (z : List Terminal). front ++ z) (append_assoc u v back)

  at_rest : (front w u v back : List Terminal) → w ≡ u ++ v → At front w back → At (front ++ u) v back
  at_rest front w u v back e stands = at_part front w u v back e stands ∙ sym (append_assoc front u (v ++ back))

  -- ---- a CREATE TABLE, somewhere in the text

  pub create_keeps : (h : ℕ) (front u back : List Terminal) (create : Terminal) (table : Tree r.Table) (s t : Noted) → At front (create ∷ u) back → is_create create
      → Within (P text) h r.Table u table (see s create) t → Known s → t.fault ≡ None → Each (statement create (form.CreateTable table.0 (slice text create.spanned.start table.1)))
  create_keeps h front u back create table s t stands k d known sound =
      let kept : List ℕ = slice text create.spanned.start table.1 in
      put (length text) declared (line create) (form.CreateTable table.0 kept) (kept_of (length text) declared (Form-F.CreateTable table.0 kept) (form.CreateTable table.0 kept) (form.rolls-CreateTable table.0 kept)
      (slice_length text create.spanned.start table.1, λ e. table_kept text h front u back create table s t stands k d (by declared refl e) sound) tt)
    where
      by : (b : Bool) → declared ≡ b → (b && table_leaves table.0) ≡ false → holds u ≡ false
      by true is e = table_free text h u table (see s create) t d e
      by false is e = clear_free text h u table (see s create) t d (clear_see s create (known is)) sound

  -- ---- what is asked of what is read, and what is shown of it

  abbrev None_in : Bool → Type 0
  None_in declares = declared ≡ false → declares ≡ false

  -- nothing in it declares a variable, where none is declared; else the rule is calm
  abbrev Quiet : (q : Rule) → Tree q → Type 0
  Quiet (r.Statement a) v = None_in (declares v)
  Quiet (r.OtherStatement a) v = None_in (declares v)
  Quiet (r.Body a) v = None_in (are_declared v)
  Quiet (r.Else a) v = None_in (maybe_so (option_map declares v))
  Quiet (r.AfterBegin a) v = None_in (form_declares v)
  Quiet r.AfterDeclare v = None_in (form_declares v)
  Quiet q v = calm q ≡ true

  abbrev Shown : (q : Rule) → Tree q → Type 0
  Shown (r.Statement a) v = Each v
  Shown (r.OtherStatement a) v = Each v
  Shown (r.Body a) v = AllByRecursion Each v
  Shown (r.Else a) v = ForSome v Each
  Shown (r.AfterBegin a) v = OfForm v
  Shown r.AfterDeclare v = OfForm v
  Shown q v = Unit {0}

  abbrev RuleShown : ℕ → Rule → Type 0
  RuleShown h q = (front w back : List Terminal) (v : Tree q) (s t : Noted) → At front w back → Within (P text) h q w v s t → Known s → t.fault ≡ None → Quiet q v → Shown q v × Known t

  -- the same of symbols
  abbrev Quiets : (is : Symbols) → Trees Terminal Tree is → Type 0
  Quiets [] vs = Unit {0}
  Quiets (lexeme a ∷ is) vs = Quiets is vs.1
  Quiets (mark m ∷ is) vs = (calm_mark m ≡ true) × Quiets is vs
  Quiets (rule q ∷ is) vs = Quiet q vs.0 × Quiets is vs.1

  abbrev Showns : (is : Symbols) → Trees Terminal Tree is → Type 0
  Showns [] vs = Unit {0}
  Showns (lexeme a ∷ is) vs = Showns is vs.1
  Showns (mark m ∷ is) vs = Showns is vs
  Showns (rule q ∷ is) vs = Shown q vs.0 × Showns is vs.1

  -- the rules that hold statements
  record AllShown (h : ℕ) : Type 0 where
    statement_at : (a : Around) → RuleShown h (r.Statement a)
    other_at : (a : Around) → RuleShown h (r.OtherStatement a)
    body_at : (a : Around) → RuleShown h (r.Body a)
    else_at : (a : Around) → RuleShown h (r.Else a)
    begin_at : (a : Around) → RuleShown h (r.AfterBegin a)
    declare_at : RuleShown h r.AfterDeclare

  known_calm : (h : ℕ) (q : Rule) (w : List Terminal) (v : Tree q) (s t : Noted) → calm q ≡ true → Within (P text) h q w v s t → Known s → Known t
  known_calm h q w v s t ok d known e = clear_within text h q w v s t (calm_own q ok) d (known e)

  rule_shown : (h : ℕ) → AllShown h → (q : Rule) → RuleShown h q
  rule_shown h all (r.Statement a) front w back v s t stands d known sound quiet = all.statement_at a front w back v s t stands d known sound quiet
  rule_shown h all (r.OtherStatement a) front w back v s t stands d known sound quiet = all.other_at a front w back v s t stands d known sound quiet
  rule_shown h all (r.Body a) front w back v s t stands d known sound quiet = all.body_at a front w back v s t stands d known sound quiet
  rule_shown h all (r.Else a) front w back v s t stands d known sound quiet = all.else_at a front w back v s t stands d known sound quiet
  rule_shown h all (r.AfterBegin a) front w back v s t stands d known sound quiet = all.begin_at a front w back v s t stands d known sound quiet
  rule_shown h all r.AfterDeclare front w back v s t stands d known sound quiet = all.declare_at front w back v s t stands d known sound quiet
  rule_shown h all q front w back v s t stands d known sound quiet = (tt, known_calm h q w v s t quiet d known)

  symbols_shown : (h : ℕ) → AllShown h → (is : Symbols) (front w back : List Terminal) (vs : Trees Terminal Tree is) (s t : Noted) → At front w back → OfSymbols (P text) (Within (P text) h) is w vs s t
      → Known s → t.fault ≡ None → Quiets is vs → Showns is vs × Known t
  symbols_shown h all [] front w back vs s t stands d known sound quiet = (tt, λ e. subst Clear (sym d.1) (known e))
  symbols_shown h all (lexeme a ∷ is) front w back vs s t stands (u, e, k, d) known sound quiet =
      symbols_shown h all is (front ++ vs.0 ∷ []) u back vs.1 (see s vs.0) t (at_rest front w (vs.0 ∷ []) u back e stands) d (λ e. clear_see s vs.0 (known e)) sound quiet
  symbols_shown h all (mark m ∷ is) front w back vs s t stands d known sound quiet =
      symbols_shown h all is front w back vs (note s m) t stands d (λ e. clear_note s m quiet.0 (known e)) sound quiet.1
  symbols_shown h all (rule q ∷ is) front w back vs s t stands (u, v, m, e, o, d) known sound quiet =
      let first = rule_shown h all q front u (v ++ back) vs.0 s m (at_part front w u v back e stands) o known (sound_before text h is v vs.1 m t d sound) quiet.0 in
      let rest = symbols_shown h all is (front ++ u) v back vs.1 m t (at_rest front w u v back e stands) d first.1 sound quiet.1 in
      ((first.0, rest.0), rest.1)

  -- ---- the productions of a statement

  record Steady (h : ℕ) (a : Around) (one : Production (r.OtherStatement a)) : Type 0 where
    shows : (front w back : List Terminal) (vs : Trees Terminal Tree one.symbols) (s t : Noted) → At front w back → OfSymbols (P text) (Within (P text) h) one.symbols w vs s t
        → Known s → t.fault ≡ None → None_in (declares (one.build vs)) → Each (one.build vs) × Known t

  -- one of calm symbols
  calmly : (h : ℕ) (a : Around) (one : Production (r.OtherStatement a)) → calm_symbols one.symbols ≡ true
      → ((w : List Terminal) (vs : Trees Terminal Tree one.symbols) (s t : Noted) → OfSymbols (P text) (Within (P text) h) one.symbols w vs s t → Each (one.build vs)) → Steady h a one
  calmly h a one ok each = record { shows = λ front w back vs s t stands d known sound quiet. (each w vs s t d, λ e. clear_behind text h one.symbols w vs s t ok d (known e)) }

  -- one that holds statements
  nested : (h : ℕ) (a : Around) (one : Production (r.OtherStatement a)) → AllShown h → ((vs : Trees Terminal Tree one.symbols) → None_in (declares (one.build vs)) → Quiets one.symbols vs)
      → ((vs : Trees Terminal Tree one.symbols) → Showns one.symbols vs → Each (one.build vs)) → Steady h a one
  nested h a one all quiets shows = record {
    shows = λ front w back vs s t stands d known sound quiet.
        let it = symbols_shown h all one.symbols front w back vs s t stands d known sound (quiets vs quiet) in (shows vs it.0, it.1);
  }

  abbrev AllSteady : ℕ → (a : Around) → List (Production (r.OtherStatement a)) → Type 0
  AllSteady h a [] = Unit {0}
  AllSteady h a (one ∷ more) = Steady h a one × AllSteady h a more

  -- a form stands in a statement
  stands_in : (n : ℕ) (f : Form) → OfForm f → Each (roll-Statement (record { line = n; form = f }))
  stands_in n f kept = put (length text) declared n f kept

  -- within a WHILE
  loop_steady : (h : ℕ) (a : Around) (b : Bool)
      → AllSteady h a (if b then way (reserved w.Break ∷ []) (λ at. statement at form.Break) ∷ way (reserved w.Continue ∷ []) (λ at. statement at form.Continue) ∷ [] else [])
  loop_steady h a true = (calmly h a _ refl (λ w vs s t d. stands_in _ _ (made _ _ _ _ form.rolls-Break refl)), (calmly h a _ refl (λ w vs s t d. stands_in _ _ (made _ _ _ _ form.rolls-Continue refl)), tt))
  loop_steady h a false = tt

  -- of what a statement declares
  no_form : (l : Terminal) (f : Form) → None_in (declares (statement l f)) → None_in (form_declares f)
  no_form l f none e = sym (statement_declares l f) ∙ none e

  no_if : (l : Terminal) (test : Test) (so : Statement) (other : Option Statement) → None_in (declares (statement l (form.If test so other))) → None_in (declares so || maybe_so (option_map declares other))
  no_if l test so other none e = sym (if_declares test so other) ∙ no_form l (form.If test so other) none e

  all_steady : (h : ℕ) → AllShown h → (a : Around) → AllSteady h a (productions text (r.OtherStatement a))
  all_steady h all a = (
    calmly h a _ refl (λ w vs s t d. stands_in _ _ (made _ _ _ _ (form.rolls-Select _) refl)),
    (
      calmly h a _ refl (λ w vs s t (u1, e1, k1, (u2, v2, m2, e2, o2, (u3, v3, m3, e3, o3, (u4, v4, m4, e4, o4, d)))). stands_in _ _ (insert_kept text _ _ h u4 _ m3 m4 o4 _)),
      (
        calmly h a _ refl (λ w vs s t d. stands_in _ _ (made _ _ _ _ (form.rolls-Update _ _ _) refl)),
        (
          calmly h a _ refl (λ w vs s t d. stands_in _ _ (made _ _ _ _ (form.rolls-Delete _ _) refl)),
          (
            calmly h a _ refl (λ w vs s t d. stands_in _ _ (made _ _ _ _ (form.rolls-Drop _ _) refl)),
            (
              nested h a _ all
                  (λ vs none. let both = no_if vs.0 vs.1.0 vs.1.1.0 vs.1.1.1.0 none in
                  (refl, (refl, (λ i. none_first (declares vs.1.1.0) (maybe_so (option_map declares vs.1.1.1.0)) (both i), (λ i. none_second (declares vs.1.1.0) (maybe_so (option_map declares vs.1.1.1.0)) (both i), (refl, tt))))))
                  (λ vs shown. stands_in _ _ (kept_of _ _ (Form-F.If vs.1.0 vs.1.1.0 vs.1.1.1.0) _ (form.rolls-If vs.1.0 vs.1.1.0 vs.1.1.1.0) tt (shown.1.0, shown.1.1.0))),
              (
                nested h a _ all
                    (λ vs none. (refl, (refl, (λ i. sym (while_declares vs.1.0 vs.1.1.0) ∙ no_form vs.0 (form.While vs.1.0 vs.1.1.0) none i, (refl, tt)))))
                    (λ vs shown. stands_in _ _ (kept_of _ _ (Form-F.While vs.1.0 vs.1.1.0) _ (form.rolls-While vs.1.0 vs.1.1.0) tt shown.1.0)),
                (
                  nested h a _ all (λ vs none. (no_form vs.0 vs.1.0 none, tt)) (λ vs shown. stands_in _ _ shown.0),
                  (
                    calmly h a _ refl (λ w vs s t d. stands_in _ _ (made _ _ _ _ (form.rolls-Print _) refl)),
                    (
                      calmly h a _ refl (λ w vs s t d. stands_in _ _ (made _ _ _ _ (form.rolls-RaiseError _ _ _) refl)),
                      (
                        calmly h a _ refl (λ w vs s t d. stands_in _ _ (made _ _ _ _ (form.rolls-Return _) refl)),
                        (
                          calmly h a _ refl (λ w vs s t (u1, e1, k1, (u2, v2, m2, e2, o2, d)). stands_in _ _ (throw_kept text _ _ h a.in_while a.in_catch u2 vs.1.0 (see s vs.0) m2 o2)),
                          (
                            nested h a _ all (λ vs none. (no_form vs.0 vs.1.0 none, tt)) (λ vs shown. stands_in _ _ shown.0),
                            (
                              calmly h a _ refl (λ w vs s t (u1, e1, k1, (u2, v2, m2, e2, o2, d)). stands_in _ _ (set_kept text _ _ h u2 vs.1.0 (see s vs.0) m2 o2)),
                              (
                                calmly h a _ refl (λ w vs s t d. stands_in _ _ (made _ _ _ _ (form.rolls-Commit _) refl)),
                                (
                                  calmly h a _ refl (λ w vs s t d. stands_in _ _ (made _ _ _ _ (form.rolls-Rollback _) refl)),
                                  (
                                    calmly h a _ refl (λ w vs s t d. stands_in _ _ (made _ _ _ _ (form.rolls-Save _) refl)),
                                    (
                                      calmly h a _ refl (λ w vs s t d. stands_in _ _ (made _ _ _ _ (form.rolls-OpenCursor _) refl)),
                                      (
                                        calmly h a _ refl (λ w vs s t d. stands_in _ _ (made _ _ _ _ (form.rolls-Fetch _ _) refl)),
                                        (
                                          calmly h a _ refl (λ w vs s t d. stands_in _ _ (made _ _ _ _ (form.rolls-CloseCursor _) refl)),
                                          (
                                            calmly h a _ refl (λ w vs s t d. stands_in _ _ (made _ _ _ _ (form.rolls-Deallocate _) refl)),
                                            (
                                              calmly h a _ refl (λ w vs s t d. stands_in _ _ (made _ _ _ _ (form.rolls-Use _) refl)),
                                              (
                                                calmly h a _ refl (λ w vs s t (u1, e1, k1, (u2, v2, m2, e2, o2, d)). stands_in _ _ (execute_kept text _ _ h u2 vs.1.0 (see s vs.0) m2 o2)),
                                                loop_steady h a a.in_while,
                                              ),
                                            ),
                                          ),
                                        ),
                                      ),
                                    ),
                                  ),
                                ),
                              ),
                            ),
                          ),
                        ),
                      ),
                    ),
                  ),
                ),
              ),
            ),
          ),
        ),
      ),
    ),
  )

  steady_at : (h : ℕ) (a : Around) (ways : List (Production (r.OtherStatement a))) → AllSteady h a ways → (p : IndexOf ways) → Steady h a (at ways p)
  steady_at h a [] all p = absurd p
  steady_at h a (one ∷ more) all None = all.0
  steady_at h a (one ∷ more) all (Some p) = steady_at h a more all.1 p

  -- ---- the rules that hold statements

  statement_next : (h : ℕ) → AllShown h → (a : Around) → RuleShown (suc h) (r.Statement a)
  statement_next h all a front w back v s t stands (None, vs, e, (u, e1, k1, (u2, v2, m2, e2, o2, d))) known sound quiet =
      let inside : w ≡ vs.0 ∷ u2 = e1 ∙ ap (λ (z : List Terminal). vs.0 ∷ z) (e2 ∙ ap (λ (z : List Terminal). u2 ++ z) d.0 ∙ append-nil u2) in
      let at_create : At front (vs.0 ∷ u2) back = stands ∙ ap (λ (z : List Terminal). front ++ (z ++ back)) inside in (
        subst Each (sym e) (create_keeps h front u2 back vs.0 vs.1.0 s m2 at_create k1 o2 known (subst (λ (z : Noted). z.fault ≡ None) d.1 sound)),
        λ none. subst Clear (sym d.1) (clear_within text h r.Table u2 vs.1.0 (see s vs.0) m2 refl o2 (clear_see s vs.0 (known none))),
      )
  statement_next h all a front w back v s t stands (Some None, vs, e, d) known sound quiet =
      let it = symbols_shown h all (rule (r.OtherStatement a) ∷ []) front w back vs s t stands d known sound (subst (λ (z : Statement). None_in (declares z)) e quiet, tt) in
      (subst Each (sym e) it.0.0, it.1)
  statement_next h all a front w back v s t stands (Some (Some p), vs, e, d) known sound quiet = absurd p

  other_next : (h : ℕ) → AllShown h → (a : Around) → RuleShown (suc h) (r.OtherStatement a)
  other_next h all a front w back v s t stands (p, vs, e, d) known sound quiet =
      let one = steady_at h a (productions text (r.OtherStatement a)) (all_steady h all a) p in
      let it = one.shows front w back vs s t stands d known sound (subst (λ (z : Statement). None_in (declares z)) e quiet) in
      (subst Each (sym e) it.0, it.1)

  body_next : (h : ℕ) → AllShown h → (a : Around) → RuleShown (suc h) (r.Body a)
  body_next h all a front w back v s t stands (None, vs, e, d) known sound quiet =
      let it = symbols_shown h all (at (productions text (r.Body a)) None).symbols front w back vs s t stands d known sound (subst (λ (z : List Statement). None_in (are_declared z)) e quiet, tt) in
      (subst (AllByRecursion Each) (sym e) it.0.0, it.1)
  body_next h all a front w back v s t stands (Some None, vs, e, d) known sound quiet =
      let none : None_in (declares vs.0 || are_declared vs.1.0) = subst (λ (z : List Statement). None_in (are_declared z)) e quiet in
      let it = symbols_shown h all (at (productions text (r.Body a)) (Some None)).symbols front w back vs s t stands d known sound
      (λ i. none_first (declares vs.0) (are_declared vs.1.0) (none i), (λ i. none_second (declares vs.0) (are_declared vs.1.0) (none i), tt)) in
      (subst (AllByRecursion Each) (sym e) (it.0.0, it.0.1.0), it.1)
  body_next h all a front w back v s t stands (Some (Some None), vs, e, d) known sound quiet = (subst (AllByRecursion Each) (sym e) tt, λ i. subst Clear (sym d.1) (known i))
  body_next h all a front w back v s t stands (Some (Some (Some p)), vs, e, d) known sound quiet = absurd p

  some_each : (of : Statement) → Each of → ForSome (Some of) Each
  some_each of each = λ x is. let same : of ≡ x = cc in subst Each same each

  else_next : (h : ℕ) → AllShown h → (a : Around) → RuleShown (suc h) (r.Else a)
  else_next h all a front w back v s t stands (None, vs, e, d) known sound quiet =
      let it = symbols_shown h all (at (productions text (r.Else a)) None).symbols front w back vs s t stands d known sound (subst (λ (z : Option Statement). None_in (maybe_so (option_map declares z))) e quiet, tt) in
      (subst (λ (z : Option Statement). ForSome z Each) (sym e) (some_each vs.1.0 it.0.0), it.1)
  else_next h all a front w back v s t stands (Some None, vs, e, d) known sound quiet =
      let it = symbols_shown h all (at (productions text (r.Else a)) (Some None)).symbols front w back vs s t stands d known sound (subst (λ (z : Option Statement). None_in (maybe_so (option_map declares z))) e quiet, tt) in
      (subst (λ (z : Option Statement). ForSome z Each) (sym e) (some_each vs.1.1.0 it.0.0), it.1)
  else_next h all a front w back v s t stands (Some (Some None), vs, e, d) known sound quiet =
      (subst (λ (z : Option Statement). ForSome z Each) (sym e) (λ x is. absurd (cc)), λ i. subst Clear (sym d.1) (known i))
  else_next h all a front w back v s t stands (Some (Some (Some p)), vs, e, d) known sound quiet = absurd p

  begin_next : (h : ℕ) → AllShown h → (a : Around) → RuleShown (suc h) (r.AfterBegin a)
  begin_next h all a front w back v s t stands (None, vs, e, d) known sound quiet =
      (kept_by _ _ _ _ e (made _ _ _ _ (form.rolls-BeginTransaction _) refl), λ i. clear_behind text h (at (productions text (r.AfterBegin a)) None).symbols w vs s t refl d (known i))
  begin_next h all a front w back v s t stands (Some None, vs, e, d) known sound quiet =
      let tried : List Statement = vs.1.0 in
      let caught : List Statement = vs.1.1.1.1.1.1.1.0 in
      let none : None_in (are_declared tried || are_declared caught) = λ i. sym (try_declares tried caught) ∙ ap form_declares (sym e) ∙ quiet i in
      let it = symbols_shown h all (at (productions text (r.AfterBegin a)) (Some None)).symbols front w back vs s t stands d known sound
      (refl, (λ i. none_first (are_declared tried) (are_declared caught) (none i), (refl, (refl, (refl, (λ i. none_second (are_declared tried) (are_declared caught) (none i), (refl, tt))))))) in
      (kept_by _ _ _ _ e (kept_of _ _ (Form-F.TryCatch tried caught) _ (form.rolls-TryCatch tried caught) tt (it.0.0, it.0.1.1.0)), it.1)
  begin_next h all a front w back v s t stands (Some (Some None), vs, e, d) known sound quiet =
      let first : Statement = vs.1.0 in
      let body : List Statement = vs.1.1.0 in
      let none : None_in (declares first || are_declared body) = λ i. sym (block_declares (first ∷ body)) ∙ ap form_declares (sym e) ∙ quiet i in
      let it = symbols_shown h all (at (productions text (r.AfterBegin a)) (Some (Some None))).symbols front w back vs s t stands d known sound
      (refl, (refl, (λ i. none_first (declares first) (are_declared body) (none i), (λ i. none_second (declares first) (are_declared body) (none i), (refl, tt))))) in
      (kept_by _ _ _ _ e (kept_of _ _ (Form-F.Block (first ∷ body)) _ (form.rolls-Block (first ∷ body)) tt (it.0.1.0, it.0.1.1.0)), it.1)
  begin_next h all a front w back v s t stands (Some (Some (Some p)), vs, e, d) known sound quiet = absurd p

  declare_next : (h : ℕ) → AllShown h → RuleShown (suc h) r.AfterDeclare
  declare_next h all front w back v s t stands (None, vs, e, d) known sound quiet =
      (kept_by _ _ _ _ e (made _ _ _ _ (form.rolls-Declare _) refl), λ i. absurd (not_so (sym (quiet i) ∙ ap form_declares e ∙ declare_declares _)))
  declare_next h all front w back v s t stands (Some None, vs, e, d) known sound quiet =
      (kept_by _ _ _ _ e (made _ _ _ _ (form.rolls-DeclareCursor _ _) refl), λ i. clear_behind text h (at (productions text r.AfterDeclare) (Some None)).symbols w vs s t refl d (known i))
  declare_next h all front w back v s t stands (Some (Some p), vs, e, d) known sound quiet = absurd p

  all_shown : (h : ℕ) → AllShown h
  all_shown zero = record {
    statement_at = λ a front w back v s t stands d known sound quiet. absurd d;
    other_at = λ a front w back v s t stands d known sound quiet. absurd d;
    body_at = λ a front w back v s t stands d known sound quiet. absurd d;
    else_at = λ a front w back v s t stands d known sound quiet. absurd d;
    begin_at = λ a front w back v s t stands d known sound quiet. absurd d;
    declare_at = λ front w back v s t stands d known sound quiet. absurd d;
  }
  all_shown (suc h) =
      let all = all_shown h in
      record {
        statement_at = statement_next h all;
        other_at = other_next h all;
        body_at = body_next h all;
        else_at = else_next h all;
        begin_at = begin_next h all;
        declare_at = declare_next h all;
      }

  pub symbols_each : (h : ℕ) (is : Symbols) (front w back : List Terminal) (vs : Trees Terminal Tree is) (s t : Noted) → At front w back → OfSymbols (P text) (Within (P text) h) is w vs s t
      → Known s → t.fault ≡ None → Quiets is vs → Showns is vs × Known t
  symbols_each h = symbols_shown h (all_shown h)
