-- What reading by descent is at each rule of statements.
use Rattle.std.specs.Prelude.{◌≡◌, ℕ, Bool, true, false, ◌||◌, List, [], ◌∷◌, ◌++◌, Some, None, Result, if◌then◌else◌, refl}
use Rattle.std.proofs.Common.{ap, sym, ◌∙◌, subst, inl, inr, append-nil, append_assoc}
use Rattle.tsql_tree.specs.declared.statement.Statement.{Statement}
use Rattle.tsql_grammar.specs.declared.kind.Kind.TheVariants as k
use Rattle.tsql_grammar.specs.declared.kind.Reserved.{Reserved}
use Rattle.tsql_grammar.specs.declared.kind.Reserved.TheVariants as word
use Rattle.tsql_grammar.specs.declared.kind.Word.{Word}
use Rattle.tsql_grammar.specs.declared.kind.Word.TheVariants as v
use Rattle.tsql_grammar.specs.declared.rule.Around.{Around}
use Rattle.tsql_grammar.specs.declared.rule.Class.{Class}
use Rattle.tsql_grammar.specs.declared.rule.Class.TheVariants as c
use Rattle.tsql_grammar.specs.declared.rule.Rule.TheVariants as r
use Rattle.tsql_grammar.specs.Terminals.{Terminal, kind as kind_at, line}
use Rattle.tsql_grammar.specs.Trees.{statement}
use Rattle.lexeme_reader.proofs.Front.{front_bind, front_when, front_if, bind_assoc, bind_same}
use Rattle.lexeme_reader.specs.declared.fault.ReadFault.{ReadFault}
use Rattle.lexeme_reader.specs.Reading.{Outcome, read, read_in, ahead, expect, sees_any, Gives, ◌>>=◌, when, front}
use Rattle.statement_words.specs.Forms.{begin_form}
use Rattle.lexeme_reader.proofs.Ways.{by_order, by_certain, Skips}
use Rattle.statement_reader.specs.Parts.{begins_statement, begins_in_while, begins_outside, create_table_from, form_from, formed, try_form, block_form}

abbrev reserved : Reserved → Class
reserved a = c.One (k.Reserved a)

abbrev plain : Word → Class
plain a = c.One (k.Word a)

abbrev around : Bool → Bool → Around
around x y = record { in_while = x; in_catch = y }

begun_by : (x y : Bool) (w : List Terminal) → begins_statement (around x y) w ≡ (if x then begins_in_while w else begins_outside w)
unfolding begins_statement begins_in_while begins_outside
begun_by true y w = refl
begun_by false y w = refl

pub begun : (a : Around) (w : List Terminal) → begins_statement a w ≡ (if a.in_while then begins_in_while w else begins_outside w)
begun a w = begun_by a.in_while a.in_catch w

-- ---- bodies and statements

pub body_on : (text : List ℕ) (a : Around) (done : List Statement) (w : List Terminal) → front done (read_in text (r.Body a) w)
    ≡ when (expect c.Semicolon w) (λ x. front done (read_in text (r.Body a) x.1))
    (if begins_statement a w then (do y ← read_in text (r.Statement a) w; front (done ++ y.0 ∷ []) (read_in text (r.Body a) y.1)) else Some (done, w))
unfolding begins_statement
body_on text a done w = ap (front done) (by_order text (r.Body a) w refl) ∙ simp (front_when, front_if, front_bind, bind_same, append_assoc, append-nil)

pub statement_is : (text : List ℕ) (a : Around) (w : List Terminal) → read_in text (r.Statement a) w
    ≡ when (expect (reserved word.Create) w) (λ x. create_table_from text (line x.0) x.0.spanned.start x.1) (read_in text (r.OtherStatement a) w)
statement_is text a w = by_order text (r.Statement a) w refl ∙ simp bind_same

-- a statement of a form, or another
abbrev or_formed : List ℕ → Around → Reserved → List Terminal → Outcome Statement → Outcome Statement
or_formed text a b w other = when (expect (reserved b) w) (λ x. do y ← form_from text a b x.1; Some (statement x.0 y.0, y.1)) other

abbrev chain : List ℕ → Around → List Terminal → Outcome Statement → Outcome Statement
chain text a w other =
    or_formed text a word.Select w (or_formed text a word.Insert w (or_formed text a word.Update w (or_formed text a word.Delete w (or_formed text a word.Drop w
    (or_formed text a word.If w (or_formed text a word.While w (or_formed text a word.Begin w (or_formed text a word.Print w (or_formed text a word.RaiseError w
    (or_formed text a word.Return w (or_formed text a word.Throw w (or_formed text a word.Declare w (or_formed text a word.Set w (or_formed text a word.Commit w
    (or_formed text a word.Rollback w (or_formed text a word.Save w (or_formed text a word.Open w (or_formed text a word.Fetch w (or_formed text a word.Close w
    (or_formed text a word.Deallocate w (or_formed text a word.Use w other)))))))))))))))))))))

abbrev chain_last : List ℕ → Bool → Bool → List Terminal → Outcome Statement
chain_last text true y w = or_formed text (around true y) word.Execute w (or_formed text (around true y) word.Break w (formed text (around true y) word.Continue w))
chain_last text false y w = formed text (around false y) word.Execute w

other_is : (text : List ℕ) (x y : Bool) (w : List Terminal) → read_in text (r.OtherStatement (around x y)) w ≡ chain text (around x y) w (chain_last text x y w)
other_is text true y w = by_order text (r.OtherStatement (around true y)) w refl ∙ simp bind_assoc
other_is text false y w = by_order text (r.OtherStatement (around false y)) w refl ∙ simp bind_assoc

formed_at : (text : List ℕ) (x y : Bool) (b : Reserved) (t : Terminal) (w : List Terminal) → kind_at t ≡ k.Reserved b → chain text (around x y) (t ∷ w) (chain_last text x y (t ∷ w)) ≡ formed text (around x y) b (t ∷ w)
unfolding expect
formed_at text true y word.Select t w e = rw e refl
formed_at text true y _ t w e = rw e refl
formed_at text false y word.Select t w e = rw e refl
formed_at text false y _ t w e = rw e refl

reserved_by : (text : List ℕ) (x y : Bool) (b : Reserved) (w : List Terminal) → ahead w ≡ Some (k.Reserved b) → read_in text (r.OtherStatement (around x y)) w ≡ formed text (around x y) b w
reserved_by text x y b [] e = absurd (cc)
reserved_by text x y b (t ∷ w) e = let same : kind_at t ≡ k.Reserved b = cc in other_is text x y (t ∷ w) ∙ formed_at text x y b t w same

pub reserved_gives : (text : List ℕ) (a : Around) (b : Reserved) (w : List Terminal) (result : Result Statement ReadFault) (rest : List Terminal)
    → ahead w ≡ Some (k.Reserved b) → Gives (formed text a b w) result rest → Gives (read_in text (r.OtherStatement a) w) result rest
reserved_gives text a b w result rest e g = subst (λ (o : Outcome Statement). Gives o result rest) (sym (reserved_by text a.in_while a.in_catch b w e)) g

-- ---- statements that hold others

pub else_is : (text : List ℕ) (a : Around) (w : List Terminal) → read_in text (r.Else a) w
    ≡ when (expect (reserved word.Else) w) (λ x. do y ← read_in text (r.Statement a) x.1; Some (Some y.0, y.1))
    (when (expect (c.One k.BeforeElse) w) (λ x. do e ← expect (reserved word.Else) x.1; y ← read_in text (r.Statement a) e.1; Some (Some y.0, y.1)) (Some (None, w)))
else_is text a w = by_order text (r.Else a) w refl

semicolons_by : (w : List Terminal) → read r.Semicolons w ≡ when (expect c.Semicolon w) (λ x. do y ← read r.Semicolons x.1; Some (tt, y.1)) (Some (tt, w))
semicolons_by w = by_order [] r.Semicolons w refl

pub semicolons_is : (w : List Terminal) → read r.Semicolons w ≡ when (expect c.Semicolon w) (λ x. read r.Semicolons x.1) (Some (tt, w))
semicolons_is w = semicolons_by w ∙ simp bind_same

skips_semicolons : (text : List ℕ) → Skips text r.Semicolons
unfolding sees_any expect
skips_semicolons text [] e = (tt, semicolons_is [])
skips_semicolons text (t ∷ w) e = (tt, semicolons_is (t ∷ w) ∙ rw (or_no _ e) refl)
  where
    or_no : (b : Bool) → (b || false) ≡ false → b ≡ false
    or_no true e = e
    or_no false e = refl

pub optional_semicolon_is : (w : List Terminal) → read r.OptionalSemicolon w ≡ when (expect c.Semicolon w) (λ x. Some (tt, x.1)) (Some (tt, w))
optional_semicolon_is w = by_order [] r.OptionalSemicolon w refl

pub after_begin_is : (text : List ℕ) (a : Around) (w : List Terminal) → read_in text (r.AfterBegin a) w
    ≡ (if sees_any (reserved word.Tran ∷ reserved word.Transaction ∷ []) w then begin_form w else when (expect (plain v.Try) w) (λ x. try_form text a x.1) (block_form text a w))
after_begin_is text a w = by_certain text (r.AfterBegin a) w (refl, (refl, (inr (skips_semicolons text, inl refl), refl)))
