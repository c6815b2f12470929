-- What each CREATE TABLE of a batch keeps reads as its table, and so it defines it.
use Rattle.std.specs.Prelude.{◌≡◌, ℕ, zero, suc, ◌≤◌, Bool, true, false, List, [], ◌∷◌, ◌++◌, length, Some, None, refl}
use Rattle.std.specs.List.{AllByRecursion}
use Rattle.std.proofs.Common.{ap, sym, ◌∙◌, subst, arith}
use Rattle.std.proofs.lemmas.List.{append-nil}
use Rattle.tsql_tree.specs.declared.statement.Batch.TheVariants as batch
use Rattle.tsql_tree.specs.declared.statement.Form.{Form-F}
use Rattle.tsql_tree.specs.declared.statement.Form.TheVariants as form
use Rattle.tsql_tree.specs.declared.statement.Statement.{Statement}
use Rattle.tsql_grammar.specs.declared.rule.Rule.TheVariants as r
use Rattle.tsql_grammar.specs.Noted.{Noted, start, see}
use Rattle.tsql_grammar.specs.PlainText.{plain_language}
use Rattle.tsql_grammar.specs.Productions.{Tree, outside, productions}
use Rattle.tsql_grammar.specs.Terminals.{Terminal, terminals}
use Rattle.tsql_grammar.specs.Trees.{slice, statement}
use Rattle.tsql_grammar.specs.Parsed.{lexemes_of, end_of}
use Rattle.table_rows.specs.Definitions.{longest_text}
use Rattle.grammar_laws.specs.Grammar.Symbol.{rule}
use Rattle.grammar_laws.specs.BySymbols.{Within}
use Rattle.grammar_laws.specs.Alternatives.{at}
use Rattle.grammar_laws.proofs.Cuts.{cuts}
use Rattle.binder.specs.Names.{Layer, form_of}
use Rattle.text_laws.specs.Laws.{CreatedReads, CreatedText, KeptReads, KeptReadsAs, KeptDefines, KeptDefinesAs, Everywhere, declares, are_declared}
use Rattle.text_laws.proofs.RowAlone.{none_first, none_second}
use Rattle.text_laws.proofs.Noting.{clear_see}
use Rattle.text_laws.proofs.Alike.{P, clear_within, sound_before}
use Rattle.text_laws.proofs.Tables.{is_create}
use Rattle.text_laws.proofs.Everywhere.{all_more, everywhere_more}
use Rattle.text_laws.proofs.Nested.{Each, Known, create_keeps, symbols_each}

body_same : (x y : List Statement) → batch.Body x ≡ batch.Body y → x ≡ y
body_same x y e = cc

module _ (text : List ℕ) (declared : Bool) where
  abbrev All : List Statement → Type 0
  All statements = AllByRecursion (Each text declared) statements

  abbrev NoneDeclared : List Statement → Type 0
  NoneDeclared statements = declared ≡ false → are_declared statements ≡ false

  -- a batch whose first lexeme is CREATE
  created_keeps : (h : ℕ) (u : List Terminal) (create : Terminal) (after : Tree r.AfterFirstCreate) (n : ℕ) (s t : Noted) (statements : List Statement) → terminals (lexemes_of text) ≡ create ∷ u → is_create create
      → Within (P text) h r.AfterFirstCreate u after (see s create) t → Known text declared s → t.fault ≡ None → after create n ≡ batch.Body statements → NoneDeclared statements → All statements
  created_keeps zero u create after n s t statements stands k d known sound is none = absurd d
  created_keeps (suc h) u create after n s t statements stands k (None, vs, e, d) known sound is none = let no_body = sym (ap (λ z. z create n) e) ∙ is in absurd (cc)
  created_keeps (suc h) u create after n s t statements stands k (Some None, vs, e, d) known sound is none = let no_body = sym (ap (λ z. z create n) e) ∙ is in absurd (cc)
  created_keeps (suc h) u create after n s t statements stands k (Some (Some None), vs, e, (u1, v1, m1, e1, o1, d)) known sound is none =
      let first : Statement = statement create (form.CreateTable vs.0.0 (slice text create.spanned.start vs.0.1)) in
      let same : first ∷ vs.1.0 ≡ statements = body_same (first ∷ vs.1.0) statements (sym (ap (λ z. z create n) e) ∙ is) in
      let at_create : terminals (lexemes_of text) ≡ [] ++ (create ∷ (u1 ++ v1)) = stands ∙ ap (λ (z : List Terminal). create ∷ z) e1 in
      let rest_at : terminals (lexemes_of text) ≡ (create ∷ u1) ++ (v1 ++ []) = at_create ∙ ap (λ (z : List Terminal). create ∷ (u1 ++ z)) (sym (append-nil v1)) in
      let sound1 : m1.fault ≡ None = sound_before text h (rule (r.Body outside) ∷ []) v1 vs.1 m1 t d sound in
      let known1 : Known text declared m1 = λ i. clear_within text h r.Table u1 vs.0 (see s create) m1 refl o1 (clear_see s create (known i)) in
      let none1 : NoneDeclared (first ∷ vs.1.0) = subst NoneDeclared (sym same) none in
      let rest = symbols_each text declared h (rule (r.Body outside) ∷ []) (create ∷ u1) v1 [] vs.1 m1 t rest_at d known1 sound (λ i. none_second (declares first) (are_declared vs.1.0) (none1 i), tt) in
      subst All same (create_keeps text declared h [] u1 v1 create vs.0 s m1 at_create k o1 known sound1, rest.0.0)
  created_keeps (suc h) u create after n s t statements stands k (Some (Some (Some p)), vs, e, d) known sound is none = absurd p

  batch_keeps : (h : ℕ) (w : List Terminal) (tree : Tree r.Batch) (n : ℕ) (s t : Noted) (statements : List Statement) → terminals (lexemes_of text) ≡ w
      → Within (P text) h r.Batch w tree s t → Known text declared s → t.fault ≡ None → tree n ≡ batch.Body statements → NoneDeclared statements → All statements
  batch_keeps zero w tree n s t statements stands d known sound is none = absurd d
  batch_keeps (suc h) w tree n s t statements stands (None, vs, e, (u, e1, k1, (u2, v2, m2, e2, o2, d))) known sound is none =
      let inside : w ≡ vs.0 ∷ u2 = e1 ∙ ap (λ (z : List Terminal). vs.0 ∷ z) (e2 ∙ ap (λ (z : List Terminal). u2 ++ z) d.0 ∙ append-nil u2) in
      created_keeps h u2 vs.0 vs.1.0 n s m2 statements (stands ∙ inside) k1 o2 known (subst (λ (z : Noted). z.fault ≡ None) d.1 sound) (sym (ap (λ z. z n) e) ∙ is) none
  batch_keeps (suc h) w tree n s t statements stands (Some None, vs, e, d) known sound is none =
      let same : vs.1.0 ≡ statements = body_same vs.1.0 statements (sym (ap (λ z. z n) e) ∙ is) in
      let it = symbols_each text declared h (at (productions text r.Batch) (Some None)).symbols [] w [] vs s t (stands ∙ sym (append-nil w)) d known sound (subst NoneDeclared (sym same) none, tt) in
      subst All same it.0.0
  batch_keeps (suc h) w tree n s t statements stands (Some (Some None), vs, e, d) known sound is none =
      let same : vs.0 ∷ vs.1.0 ≡ statements = body_same (vs.0 ∷ vs.1.0) statements (sym (ap (λ z. z n) e) ∙ is) in
      let none1 : NoneDeclared (vs.0 ∷ vs.1.0) = subst NoneDeclared (sym same) none in
      let it = symbols_each text declared h (at (productions text r.Batch) (Some (Some None))).symbols [] w [] vs s t (stands ∙ sym (append-nil w)) d known sound
      (λ i. none_first (declares vs.0) (are_declared vs.1.0) (none1 i), (λ i. none_second (declares vs.0) (are_declared vs.1.0) (none1 i), tt)) in
      subst All same (it.0.0, it.0.1.0)
  batch_keeps (suc h) w tree n s t statements stands (Some (Some (Some None)), vs, e, d) known sound is none =
      let same : [] ≡ statements = body_same [] statements (sym (ap (λ z. z n) e) ∙ is) in subst All same tt
  batch_keeps (suc h) w tree n s t statements stands (Some (Some (Some (Some p))), vs, e, d) known sound is none = absurd p

pub created_reads : CreatedReads
created_reads text statements (tree, stands, is) =
    let (t, reads, no_fault) = stands.reads in
    let (h, d) = cuts (plain_language text) r.Batch (terminals (lexemes_of text)) tree (start true) t reads in
    batch_keeps text (are_declared statements) h (terminals (lexemes_of text)) tree (end_of (lexemes_of text)) (start true) t statements refl d (λ i. record { judges = refl; none = refl }) no_fault (sym is) (λ e. e)

pub defines : (most : ℕ) (declared : Bool) (layer : Layer) → most ≤ longest_text → KeptReadsAs most declared layer → KeptDefinesAs declared layer
defines most declared (Form-F.CreateTable table kept) short (few, reads) = λ stays. record { short = omega (arith, short, few); reads = reads stays; named = refl }
defines most declared _ short reads = tt

pub created_text : CreatedText
created_text text statements reads short =
    let declared : Bool = are_declared statements in
    all_more (Everywhere (KeptReads (length text) declared)) (Everywhere (KeptDefines declared)) (λ of each. everywhere_more (KeptReads (length text) declared) (KeptDefines declared) (λ of kept. defines (length text) declared (form_of of) short kept) of each)
    statements (created_reads text statements reads)
