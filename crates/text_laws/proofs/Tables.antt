-- A table that is read anywhere in a text reads, alone, as the definition of that table.
use Rattle.std.specs.Prelude.{◌≡◌, ℕ, zero, suc, true, false, List, [], ◌∷◌, ◌++◌, map, Option, Some, None, Ok, refl}
use Rattle.std.proofs.Common.{ap, sym, ◌∙◌, subst, arith}
use Rattle.std.proofs.lemmas.List.{map-append}
use Rattle.tsql_lexer.specs.declared.fault.Flaw.{Flaw}
use Rattle.tsql_lexer.specs.declared.lexeme.Spanned.{Spanned}
use Rattle.tsql_lexer.specs.Reading.{lexing_of}
use Rattle.tsql_tree.specs.declared.definition.Definition.TheVariants.{Table}
use Rattle.tsql_grammar.specs.declared.kind.Kind.TheVariants as k
use Rattle.tsql_grammar.specs.declared.kind.Reserved.TheVariants as w
use Rattle.tsql_grammar.specs.declared.rule.Class.TheVariants as c
use Rattle.tsql_grammar.specs.declared.rule.Rule.TheVariants as r
use Rattle.tsql_grammar.specs.Noted.{Noted, start, see}
use Rattle.tsql_grammar.specs.PlainText.{plainly_admits, ReadsPlain}
use Rattle.tsql_grammar.specs.Productions.{Tree, productions}
use Rattle.tsql_grammar.specs.Terminals.{Terminal, terminals, begins_else}
use Rattle.tsql_grammar.specs.Trees.{slice}
use Rattle.tsql_grammar.specs.Words.{kind_of}
use Rattle.tsql_grammar.proofs.SemicolonKinds.{plain}
use Rattle.tsql_grammar.specs.Parsed.{lexemes_of, DefinitionOf}
use Rattle.grammar_laws.specs.Grammar.{Trees, Derives, Reads}
use Rattle.grammar_laws.specs.Grammar.Symbol.{rule}
use Rattle.grammar_laws.specs.BySymbols.{Within}
use Rattle.grammar_laws.specs.Alternatives.{at}
use Rattle.grammar_laws.proofs.Cuts.{pastes}
use Rattle.text_laws.specs.Slices.{moved_by, end_behind}
use Rattle.text_laws.proofs.Slices.{slice_lexes}
use Rattle.text_laws.proofs.Calm.{Own, free}
use Rattle.text_laws.proofs.Blind.{bare}
use Rattle.text_laws.proofs.Variables.{holds}
use Rattle.text_laws.proofs.Noting.{Goes}
use Rattle.text_laws.proofs.Alike.{Same, P, alike}

-- ---- a table in another text

module _ (text other : List ℕ) where
  -- the same table, which ends elsewhere
  pub table_alike : (h : ℕ) (w' w : List Terminal) → Same w' w → holds w ≡ false → (v : Tree r.Table) (s t s' : Noted) → Goes s s' → Within (P text) h r.Table w v s t
      → (n : ℕ) × (t' : Noted) × Within (P other) h r.Table w' (v.0, n) s' t' × Goes t t'
  table_alike zero w' w same none v s t s' g d = absurd d
  table_alike (suc h) w' w same none v s t s' g (Some p, vs, e, d) = absurd p
  table_alike (suc h) w' w same none v s t s' g (None, vs, e, d) =
      let one = at (productions text r.Table) None in
      let a = alike text other h one.symbols refl w' w same none vs s t s' g d in
      let value : v.0 ≡ (one.build a.values).0 = ap (λ (z : Tree r.Table). z.0) e ∙ ap (λ (z : Trees Terminal Tree one.symbols). (one.build z).0) (sym a.same) in
      ((one.build a.values).1, a.last, (None, a.values, (λ i. (value i, (one.build a.values).1)), a.reads), a.goes)

-- ---- where it ends

-- the lexemes end with this one
abbrev EndsWith : Terminal → List Terminal → Type 0
EndsWith close w = (n : ℕ) → end_behind n (plain w) ≡ close.spanned.end

ends_behind : (close : Terminal) (u v : List Terminal) → EndsWith close v → EndsWith close (u ++ v)
ends_behind close [] v ends n = ends n
ends_behind close (l ∷ u) v ends n = ends_behind close u v ends l.spanned.end

pub table_ends : (text : List ℕ) (h : ℕ) (w : List Terminal) (v : Tree r.Table) (s t : Noted) → Within (P text) h r.Table w v s t → (n : ℕ) → end_behind n (plain w) ≡ v.1
table_ends text zero w v s t d n = absurd d
table_ends text (suc h) w v s t (Some p, vs, e, d) n = absurd p
table_ends text (suc h) w v s t (None, vs, e, (u1, e1, k1, (x2, u2, m2, e2, o2, (u3, e3, k3, (x4, u4, m4, e4, o4, (x5, u5, m5, e5, o5, (u6, e6, k6, d6))))))) n =
    let close : Terminal = vs.1.1.1.1.1.0 in
    let end6 : EndsWith close u5 = subst (EndsWith close) (sym (e6 ∙ ap (λ (z : List Terminal). close ∷ z) d6.0)) (λ n. refl) in
    let end4 : EndsWith close u4 = subst (EndsWith close) (sym e5) (ends_behind close x5 u5 end6) in
    let end3 : EndsWith close u3 = subst (EndsWith close) (sym e4) (ends_behind close x4 u4 end4) in
    let end2 : EndsWith close u2 = subst (EndsWith close) (sym e3) (λ n. end3 vs.1.1.0.spanned.end) in
    let end1 : EndsWith close u1 = subst (EndsWith close) (sym e2) (ends_behind close x2 u2 end2) in
    let end0 : EndsWith close w = subst (EndsWith close) (sym e1) (λ n. end1 vs.0.spanned.end) in
    end0 n ∙ ap (λ (z : Tree r.Table). z.1) (sym e)

-- ---- alone

abbrev pub is_create : Terminal → Type 0
is_create l = plainly_admits (c.One (k.Reserved w.Create)) (kind_of l.spanned.lexeme) ≡ true

module _ (other : List ℕ) where
  after_create : (h : ℕ) (w : List Terminal) (table : Tree r.Table) (s t : Noted) → Derives (P other) h (rule r.Table ∷ []) w (table, tt) s t
      → Derives (P other) (suc h) (rule r.AfterCreate ∷ []) w (Table table.0, tt) s t
  after_create h [] table s t d = (Some (Some None), (table, tt), refl, refl, d)
  after_create h (l ∷ w) table s t d = (Some (Some None), (table, tt), refl, refl, d)

  -- behind CREATE it is a definition
  pub defined : (h : ℕ) (create : Terminal) (w : List Terminal) (table : Tree r.Table) (s t : Noted) → is_create create → Within (P other) h r.Table w table (see s create) t
      → Reads (P other) (rule r.Definition ∷ []) (create ∷ w) (Table table.0, tt) s t
  defined h create w table s t k d =
      let (j, reads) = pastes (P other) Own (free other) r.Table w table (see s create) t refl (h, d) in
      (suc (suc (suc j)), (None, (create, (Table table.0, tt)), refl, refl, (k, refl, after_create j w table (see s create) t reads)))

-- ---- in its slice

plain_terminals : (w : List Spanned) → plain (terminals w) ≡ w
plain_terminals [] = refl
plain_terminals (l ∷ w) = ap (λ (z : List Spanned). l ∷ z) (plain_terminals w)

plain_append : (x y : List Terminal) → plain (x ++ y) ≡ plain x ++ plain y
plain_append x y = map-append (λ l. l.spanned) x y

-- lexemes that were moved are the same
moved_same : (first : Spanned) (u : List Terminal) → Same (terminals (map (moved_by first) (plain u))) u
moved_same first [] = refl
moved_same first (l ∷ u) = ap (λ (z : List Terminal). bare l ∷ z) (moved_same first u)

-- A text's lexemes are these: CREATE, a table that holds no variable, and others around them. What the text has from that CREATE to the table's end
-- defines the table.
pub table_kept : (text : List ℕ) (h : ℕ) (front u back : List Terminal) (create : Terminal) (table : Tree r.Table) (s t : Noted) → terminals (lexemes_of text) ≡ front ++ (create ∷ (u ++ back))
    → is_create create → Within (P text) h r.Table u table (see s create) t → holds u ≡ false → t.fault ≡ None → DefinitionOf (slice text create.spanned.start table.1) (Ok (Table table.0))
table_kept text h front u back create table s t whole k d none sound =
    let first : Spanned = create.spanned in
    let places : lexemes_of text ≡ plain front ++ (first ∷ (plain u ++ plain back)) =
    sym (plain_terminals (lexemes_of text)) ∙ ap plain whole ∙ plain_append front (create ∷ (u ++ back)) ∙ ap (λ (z : List Spanned). plain front ++ (first ∷ z)) (plain_append u back) in
    let lexing : lexing_of (slice text first.start table.1) ≡ (map (moved_by first) (first ∷ plain u), None) =
    ap (λ (n : ℕ). lexing_of (slice text first.start n)) (sym (table_ends text h u table (see s create) t d first.end)) ∙ slice_lexes text (plain front) (plain u) (plain back) first places in
    let kept : List ℕ = slice text first.start table.1 in
    let create' : Terminal = record { spanned = moved_by first first; before_else = begins_else (map (moved_by first) (plain u)) } in
    let g : Goes (see s create) (see (start true) create') = λ e. record { depth = omega arith; sound = refl } in
    let (n, t', reads, goes) = table_alike text kept h (terminals (map (moved_by first) (plain u))) u (moved_same first u) none table (see s create) t (see (start true) create') g d in
    let all : ReadsPlain kept r.Definition (map (moved_by first) (first ∷ plain u)) (Table table.0) (start true) t' =
    defined kept h create' (terminals (map (moved_by first) (plain u))) (table.0, n) (start true) t' k reads in
    record {
      flawless = ap (λ (z : List Spanned × Option Flaw). z.1) lexing;
      reads = (t', subst (λ (z : List Spanned × Option Flaw). ReadsPlain kept r.Definition z.0 (Table table.0) (start true) t') (sym lexing) all, (goes sound).sound);
    }
