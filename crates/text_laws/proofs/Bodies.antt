-- Over whatever definitions and variables a CREATE TABLE of the body of a procedure or trigger is bound, what it keeps of the text around
-- it defines its table.
use Rattle.std.specs.Prelude.{◌≡◌, ℕ, zero, suc, ◌≤◌, Bool, true, false, ◌&&◌, List, [], ◌∷◌, ◌++◌, length, Some, None, refl}
use Rattle.std.specs.List.{AllByRecursion}
use Rattle.std.proofs.Common.{ap, sym, ◌∙◌, subst, append_assoc}
use Rattle.std.proofs.lemmas.List.{append-nil}
use Rattle.tsql_tree.specs.declared.definition.Definition.{Definition}
use Rattle.tsql_tree.specs.declared.definition.Definition.TheVariants.{Table, Procedure, Trigger}
use Rattle.tsql_tree.specs.declared.statement.Batch.TheVariants as batch
use Rattle.tsql_tree.specs.declared.statement.Form.{Form-F}
use Rattle.tsql_tree.specs.declared.statement.Statement.{Statement}
use Rattle.tsql_grammar.specs.declared.rule.Rule.TheVariants as r
use Rattle.tsql_grammar.specs.Noted.{Noted, start, see}
use Rattle.tsql_grammar.specs.PlainText.{plain_language}
use Rattle.tsql_grammar.specs.Productions.{Tree, outside}
use Rattle.tsql_grammar.specs.Terminals.{Terminal, terminals}
use Rattle.tsql_grammar.specs.Parsed.{end_of, lexemes_of}
use Rattle.table_rows.specs.Definitions.{longest_text}
use Rattle.grammar_laws.specs.Grammar.Symbol.{rule}
use Rattle.grammar_laws.specs.BySymbols.{OfSymbols, Within}
use Rattle.grammar_laws.proofs.Cuts.{cuts}
use Rattle.binder.specs.Names.{Layer, form_of}
use Rattle.text_laws.specs.Laws.{BodyReadsBack, DefinedBatch, DefinedText, Everywhere, KeptDefines, KeptDefinesAs, KeptReads, ReadsBack, ReadsBackAs, StaysAs}
use Rattle.text_laws.proofs.Calm.{not_so}
use Rattle.text_laws.proofs.Alike.{P}
use Rattle.text_laws.proofs.Leaving.{created_stays}
use Rattle.text_laws.proofs.Everywhere.{all_more, everywhere_more}
use Rattle.text_laws.proofs.Nested.{Each, symbols_each}
use Rattle.text_laws.proofs.Batches.{defines}

-- ---- statements whose tables are defined read back

and_false : (a b : Bool) → b ≡ false → (a && b) ≡ false
and_false true b e = e
and_false false b e = refl

reads_back : (declared : Bool) (of : Statement) (layer : Layer) → StaysAs of layer → KeptDefinesAs declared layer → ReadsBackAs of layer
reads_back declared of (Form-F.CreateTable table kept) stays defines = λ definitions vars bound e. defines (and_false declared _ (stays definitions vars bound e))
reads_back declared of _ stays defines = tt

pub statements_back : (declared : Bool) (statements : List Statement) → AllByRecursion (Everywhere (KeptDefines declared)) statements → AllByRecursion (Everywhere ReadsBack) statements
statements_back declared statements all =
    all_more (Everywhere (KeptDefines declared)) (Everywhere ReadsBack) (λ of each. everywhere_more (KeptDefines declared) ReadsBack (λ of defines. reads_back declared of (form_of of) (created_stays of) defines) of each)
    statements all

-- ---- bodies

module _ (text : List ℕ) where
  -- variables are declared, or may be
  abbrev All : List Statement → Type 0
  All statements = AllByRecursion (Each text true) statements

  -- a body, which ends the text
  body_keeps : (h : ℕ) (front w : List Terminal) (body : List Statement) (s t : Noted) → terminals (lexemes_of text) ≡ front ++ w → OfSymbols (P text) (Within (P text) h) (rule (r.Body outside) ∷ []) w (body, tt) s t → t.fault ≡ None → All body
  body_keeps h front w body s t stands d sound =
      (symbols_each text true h (rule (r.Body outside) ∷ []) front w [] (body, tt) s t (stands ∙ ap (λ (z : List Terminal). front ++ z) (sym (append-nil w))) d (λ e. absurd (not_so (sym e))) sound ((λ e. absurd (not_so (sym e))), tt)).0.0

  abbrev BodyKeeps : Definition → Type 0
  BodyKeeps (Table table) = Unit {0}
  BodyKeeps (Procedure procedure) = All procedure.body
  BodyKeeps (Trigger trigger) = All trigger.body

  -- what stands behind one more piece
  piece : (front w u v : List Terminal) → w ≡ u ++ v → terminals (lexemes_of text) ≡ front ++ w → terminals (lexemes_of text) ≡ (front ++ u) ++ v
  piece front w u v e stands = stands ∙ ap (λ (z : List Terminal). front ++ z) e ∙ sym (append_assoc front u v)

  procedure_keeps : (h : ℕ) (front w : List Terminal) (of : Definition) (s t : Noted) → terminals (lexemes_of text) ≡ front ++ w → Within (P text) h r.Procedure w of s t → t.fault ≡ None → BodyKeeps of
  procedure_keeps zero front w of s t stands d sound = absurd d
  procedure_keeps (suc h) front w of s t stands (Some p, vs, e, d) sound = absurd p
  procedure_keeps (suc h) front w of s t stands (None, vs, e, (u1, e1, k1, (x2, u2, m2, e2, o2, (x3, u3, m3, e3, o3, (u4, e4, k4, d))))) sound =
      let at1 = piece front w (vs.0 ∷ []) u1 e1 stands in
      let at2 = piece (front ++ vs.0 ∷ []) u1 x2 u2 e2 at1 in
      let at3 = piece ((front ++ vs.0 ∷ []) ++ x2) u2 x3 u3 e3 at2 in
      let at4 = piece (((front ++ vs.0 ∷ []) ++ x2) ++ x3) u3 (vs.1.1.1.0 ∷ []) u4 e4 at3 in
      subst BodyKeeps (sym e) (body_keeps h ((((front ++ vs.0 ∷ []) ++ x2) ++ x3) ++ vs.1.1.1.0 ∷ []) u4 vs.1.1.1.1.0 (see m3 vs.1.1.1.0) t at4 d sound)

  trigger_keeps : (h : ℕ) (front w : List Terminal) (of : Definition) (s t : Noted) → terminals (lexemes_of text) ≡ front ++ w → Within (P text) h r.Trigger w of s t → t.fault ≡ None → BodyKeeps of
  trigger_keeps zero front w of s t stands d sound = absurd d
  trigger_keeps (suc h) front w of s t stands (Some p, vs, e, d) sound = absurd p
  trigger_keeps (suc h) front w of s t stands
      (None, vs, e, (u1, e1, k1, (x2, u2, m2, e2, o2, (u3, e3, k3, (x4, u4, m4, e4, o4, (x5, u5, m5, e5, o5, (x6, u6, m6, e6, o6, (x7, u7, m7, e7, o7, (u8, e8, k8, d))))))))) sound =
      let at1 = piece front w (vs.0 ∷ []) u1 e1 stands in
      let f1 : List Terminal = front ++ vs.0 ∷ [] in
      let at2 = piece f1 u1 x2 u2 e2 at1 in
      let f2 : List Terminal = f1 ++ x2 in
      let at3 = piece f2 u2 (vs.1.1.0 ∷ []) u3 e3 at2 in
      let f3 : List Terminal = f2 ++ vs.1.1.0 ∷ [] in
      let at4 = piece f3 u3 x4 u4 e4 at3 in
      let f4 : List Terminal = f3 ++ x4 in
      let at5 = piece f4 u4 x5 u5 e5 at4 in
      let f5 : List Terminal = f4 ++ x5 in
      let at6 = piece f5 u5 x6 u6 e6 at5 in
      let f6 : List Terminal = f5 ++ x6 in
      let at7 = piece f6 u6 x7 u7 e7 at6 in
      let f7 : List Terminal = f6 ++ x7 in
      let word : Terminal = vs.1.1.1.1.1.1.1.0 in
      let at8 = piece f7 u7 (word ∷ []) u8 e8 at7 in
      subst BodyKeeps (sym e) (body_keeps h (f7 ++ word ∷ []) u8 vs.1.1.1.1.1.1.1.1.0 (see m7 word) t at8 d sound)

  after_keeps : (h : ℕ) (front w : List Terminal) (of : Definition) (s t : Noted) → terminals (lexemes_of text) ≡ front ++ w → Within (P text) h r.AfterCreate w of s t → t.fault ≡ None → BodyKeeps of
  after_keeps zero front w of s t stands d sound = absurd d
  after_keeps (suc h) front w of s t stands (None, vs, e, (u, v, m, parts, o, d)) sound = subst BodyKeeps (sym e)
      (procedure_keeps h front u vs.0 s m (stands ∙ ap (λ (z : List Terminal). front ++ z) (parts ∙ ap (λ (z : List Terminal). u ++ z) d.0 ∙ append-nil u)) o (subst (λ (z : Noted). z.fault ≡ None) d.1 sound))
  after_keeps (suc h) front w of s t stands (Some None, vs, e, (u, v, m, parts, o, d)) sound = subst BodyKeeps (sym e)
      (trigger_keeps h front u vs.0 s m (stands ∙ ap (λ (z : List Terminal). front ++ z) (parts ∙ ap (λ (z : List Terminal). u ++ z) d.0 ∙ append-nil u)) o (subst (λ (z : Noted). z.fault ≡ None) d.1 sound))
  after_keeps (suc h) front w of s t stands (Some (Some None), vs, e, d) sound = subst BodyKeeps (sym e) tt
  after_keeps (suc h) front w of s t stands (Some (Some (Some p)), vs, e, d) sound = absurd p

  definition_keeps : (h : ℕ) (w : List Terminal) (of : Definition) (s t : Noted) → terminals (lexemes_of text) ≡ w → Within (P text) h r.Definition w of s t → t.fault ≡ None → BodyKeeps of
  definition_keeps zero w of s t stands d sound = absurd d
  definition_keeps (suc h) w of s t stands (Some p, vs, e, d) sound = absurd p
  definition_keeps (suc h) w of s t stands (None, vs, e, (u1, e1, k1, (u, v, m, parts, o, d))) sound = subst BodyKeeps (sym e)
      (after_keeps h (vs.0 ∷ []) u vs.1.0 (see s vs.0) m (stands ∙ e1 ∙ ap (λ (z : List Terminal). vs.0 ∷ z) (parts ∙ ap (λ (z : List Terminal). u ++ z) d.0 ∙ append-nil u)) o (subst (λ (z : Noted). z.fault ≡ None) d.1 sound))

  definition_same : (n m : ℕ) (a b : Definition) (x y : List ℕ) → batch.Definition n a x ≡ batch.Definition m b y → a ≡ b
  definition_same n m a b x y e = cc

  -- that of a batch, behind its first lexeme
  first_keeps : (h : ℕ) (front w : List Terminal) (create : Terminal) (after : Tree r.AfterFirstCreate) (n : ℕ) (s t : Noted) (m : ℕ) (of : Definition) (kept : List ℕ) → terminals (lexemes_of text) ≡ front ++ w
      → Within (P text) h r.AfterFirstCreate w after s t → t.fault ≡ None → after create n ≡ batch.Definition m of kept → BodyKeeps of
  first_keeps zero front w create after n s t m of kept stands d sound is = absurd d
  first_keeps (suc h) front w create after n s t m of kept stands (None, vs, e, (u, v, k, parts, o, d)) sound is =
      subst BodyKeeps (definition_same _ _ _ _ _ _ (sym (ap (λ z. z create n) e) ∙ is))
      (procedure_keeps h front u vs.0 s k (stands ∙ ap (λ (z : List Terminal). front ++ z) (parts ∙ ap (λ (z : List Terminal). u ++ z) d.0 ∙ append-nil u)) o (subst (λ (z : Noted). z.fault ≡ None) d.1 sound))
  first_keeps (suc h) front w create after n s t m of kept stands (Some None, vs, e, (u, v, k, parts, o, d)) sound is =
      subst BodyKeeps (definition_same _ _ _ _ _ _ (sym (ap (λ z. z create n) e) ∙ is))
      (trigger_keeps h front u vs.0 s k (stands ∙ ap (λ (z : List Terminal). front ++ z) (parts ∙ ap (λ (z : List Terminal). u ++ z) d.0 ∙ append-nil u)) o (subst (λ (z : Noted). z.fault ≡ None) d.1 sound))
  first_keeps (suc h) front w create after n s t m of kept stands (Some (Some None), vs, e, d) sound is = absurd (let no : batch.Body _ ≡ batch.Definition m of kept = sym (ap (λ z. z create n) e) ∙ is in cc)
  first_keeps (suc h) front w create after n s t m of kept stands (Some (Some (Some p)), vs, e, d) sound is = absurd p

  batch_keeps : (h : ℕ) (w : List Terminal) (tree : Tree r.Batch) (n : ℕ) (s t : Noted) (m : ℕ) (of : Definition) (kept : List ℕ) → terminals (lexemes_of text) ≡ w → Within (P text) h r.Batch w tree s t → t.fault ≡ None → tree n ≡ batch.Definition m of kept → BodyKeeps of
  batch_keeps zero w tree n s t m of kept stands d sound is = absurd d
  batch_keeps (suc h) w tree n s t m of kept stands (None, vs, e, (u, e1, k1, (u2, v2, m2, e2, o2, d))) sound is =
      let inside : w ≡ vs.0 ∷ u2 = e1 ∙ ap (λ (z : List Terminal). vs.0 ∷ z) (e2 ∙ ap (λ (z : List Terminal). u2 ++ z) d.0 ∙ append-nil u2) in
      first_keeps h (vs.0 ∷ []) u2 vs.0 vs.1.0 n (see s vs.0) m2 m of kept (stands ∙ inside) o2 (subst (λ (z : Noted). z.fault ≡ None) d.1 sound) (sym (ap (λ z. z n) e) ∙ is)
  batch_keeps (suc h) w tree n s t m of kept stands (Some None, vs, e, d) sound is = absurd (let no : batch.Body _ ≡ batch.Definition m of kept = sym (ap (λ z. z n) e) ∙ is in cc)
  batch_keeps (suc h) w tree n s t m of kept stands (Some (Some None), vs, e, d) sound is = absurd (let no : batch.Body _ ≡ batch.Definition m of kept = sym (ap (λ z. z n) e) ∙ is in cc)
  batch_keeps (suc h) w tree n s t m of kept stands (Some (Some (Some None)), vs, e, d) sound is = absurd (let no : batch.Body _ ≡ batch.Definition m of kept = sym (ap (λ z. z n) e) ∙ is in cc)
  batch_keeps (suc h) w tree n s t m of kept stands (Some (Some (Some (Some p))), vs, e, d) sound is = absurd p

  all_back : length text ≤ longest_text → (body : List Statement) → All body → AllByRecursion (Everywhere ReadsBack) body
  all_back short body all = statements_back true body
      (all_more (Everywhere (KeptReads (length text) true)) (Everywhere (KeptDefines true)) (λ of each. everywhere_more (KeptReads (length text) true) (KeptDefines true) (λ of kept. defines (length text) true (form_of of) short kept) of each) body all)

  body_back : length text ≤ longest_text → (of : Definition) → BodyKeeps of → BodyReadsBack of
  body_back short (Table table) keeps = tt
  body_back short (Procedure procedure) keeps = all_back short procedure.body keeps
  body_back short (Trigger trigger) keeps = all_back short trigger.body keeps

pub defined_text : DefinedText
defined_text name text definition is =
    let (t, reads, sound) = is.reads.reads in
    let (h, d) = cuts (plain_language text) r.Definition (terminals (lexemes_of text)) definition (start true) t reads in
    body_back text is.short definition (definition_keeps text h (terminals (lexemes_of text)) definition (start true) t refl d sound)

pub defined_batch : DefinedBatch
defined_batch text m definition kept (tree, stands, is) short =
    let (t, reads, sound) = stands.reads in
    let (h, d) = cuts (plain_language text) r.Batch (terminals (lexemes_of text)) tree (start true) t reads in
    body_back text short definition (batch_keeps text h (terminals (lexemes_of text)) tree (end_of (lexemes_of text)) (start true) t m definition kept refl d sound (sym is))
