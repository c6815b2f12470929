-- What the productions of all rules stand for, but for places: of lexemes that are the same but for where they stand, and of trees that differ in
-- places alone.
use Rattle.std.specs.Prelude.{◌≡◌, ℕ, Bool, true, false, List, [], ◌∷◌, map, option_map, Option, Some, None, if◌then◌else◌, refl}
use Rattle.std.proofs.Common.{ap, sym, ◌∙◌}
use Rattle.tsql_tree.specs.declared.definition.TableTree.{TableTree}
use Rattle.tsql_tree.specs.declared.query.Test.{Test}
use Rattle.tsql_tree.specs.declared.statement.Form.{Form, Form-F, roll-Form}
use Rattle.tsql_tree.specs.declared.statement.Form.TheVariants as form
use Rattle.tsql_tree.specs.declared.statement.Statement.{Statement, roll-Statement, the_lemmas}
use Rattle.tsql_grammar.specs.declared.kind.Reserved.TheVariants as w
use Rattle.tsql_grammar.specs.declared.rule.Around.{Around}
use Rattle.tsql_grammar.specs.declared.rule.Rule.{Rule}
use Rattle.tsql_grammar.specs.declared.rule.Rule.TheVariants as r
use Rattle.tsql_grammar.specs.Productions.{Symbols, Production, Tree, productions, reserved, way}
use Rattle.tsql_grammar.specs.Terminals.{Terminal, units}
use Rattle.tsql_grammar.specs.Trees.{empty_draft, statement}
use Rattle.grammar_laws.specs.Grammar.{Trees}
use Rattle.grammar_laws.specs.Grammar.Symbol.{lexeme, rule, mark}
use Rattle.grammar_laws.specs.Alternatives.{IndexOf, at}
use Rattle.grammar_laws.proofs.Booleans.{and_true}
use Rattle.text_laws.specs.Placeless.{AreLike, placeless, placeless_form}
use Rattle.text_laws.proofs.Calm.{calm, calm_at, calm_own, calm_mark, calm_symbols, not_so}
use Rattle.text_laws.proofs.Blind.{bare, bare_all, blind, blind_at}

-- ---- likeness

-- what a lexeme is, and whether an ELSE follows, wherever it stands
abbrev pub kept : Terminal → Terminal
kept l = record { spanned = record { lexeme = l.spanned.lexeme; start = 0; end = 0; line = 0 }; before_else = l.before_else }

-- trees of a rule that differ in places alone
abbrev pub Like : (q : Rule) → Tree q → Tree q → Type 0
Like r.Batch v v' = Unit {0}
Like r.AfterFirstCreate v v' = Unit {0}
Like r.Definition v v' = Unit {0}
Like r.AfterCreate v v' = Unit {0}
Like r.Procedure v v' = AreLike v v'
Like r.Trigger v v' = AreLike v v'
Like (r.Body a) v v' = map placeless v ≡ map placeless v'
Like (r.Statement a) v v' = placeless v ≡ placeless v'
Like (r.OtherStatement a) v v' = placeless v ≡ placeless v'
Like (r.Else a) v v' = option_map placeless v ≡ option_map placeless v'
Like (r.AfterBegin a) v v' = placeless_form v ≡ placeless_form v'
Like r.Table v v' = v.0 ≡ v'.0
Like q v v' = v ≡ v'

abbrev pub Likes : (is : Symbols) → Trees Terminal Tree is → Trees Terminal Tree is → Type 0
Likes [] xs ys = Unit {0}
Likes (lexeme c ∷ is) xs ys = (kept xs.0 ≡ kept ys.0) × Likes is xs.1 ys.1
Likes (rule q ∷ is) xs ys = Like q xs.0 ys.0 × Likes is xs.1 ys.1
Likes (mark m ∷ is) xs ys = Likes is xs ys

-- each production stands for what is alike
abbrev pub AllLike : (q : Rule) → List (Production q) → Type 0
AllLike q [] = Unit {0}
AllLike q (one ∷ more) = ((xs ys : Trees Terminal Tree one.symbols) → Likes one.symbols xs ys → Like q (one.build xs) (one.build ys)) × AllLike q more

abbrev pub WaysLike : (q : Rule) → List (Production q) → Type 0
WaysLike q ways = (p : IndexOf ways) (xs ys : Trees Terminal Tree (at ways p).symbols) → Likes (at ways p).symbols xs ys → Like q ((at ways p).build xs) ((at ways p).build ys)

like_at : (q : Rule) (ways : List (Production q)) → AllLike q ways → WaysLike q ways
like_at q [] all p xs ys likes = absurd p
like_at q (one ∷ more) all None xs ys likes = all.0 xs ys likes
like_at q (one ∷ more) all (Some p) xs ys likes = like_at q more all.1 p xs ys likes

-- ---- calm rules

calm_like : (q : Rule) (v v' : Tree q) → calm q ≡ true → Like q v v' → v ≡ v'
calm_like r.Batch v v' e l = absurd (not_so e)
calm_like r.AfterFirstCreate v v' e l = absurd (not_so e)
calm_like r.Definition v v' e l = absurd (not_so e)
calm_like r.AfterCreate v v' e l = absurd (not_so e)
calm_like r.Procedure v v' e l = absurd (not_so e)
calm_like r.Trigger v v' e l = absurd (not_so e)
calm_like (r.Body a) v v' e l = absurd (not_so e)
calm_like (r.Statement a) v v' e l = absurd (not_so e)
calm_like (r.OtherStatement a) v v' e l = absurd (not_so e)
calm_like (r.Else a) v v' e l = absurd (not_so e)
calm_like (r.AfterBegin a) v v' e l = absurd (not_so e)
calm_like r.Table v v' e l = absurd (not_so e)
calm_like _ v v' e l = l

like_calm : (q : Rule) (v v' : Tree q) → calm q ≡ true → v ≡ v' → Like q v v'
like_calm r.Batch v v' e l = tt
like_calm r.AfterFirstCreate v v' e l = tt
like_calm r.Definition v v' e l = tt
like_calm r.AfterCreate v v' e l = tt
like_calm r.Procedure v v' e l = absurd (not_so e)
like_calm r.Trigger v v' e l = absurd (not_so e)
like_calm (r.Body a) v v' e l = absurd (not_so e)
like_calm (r.Statement a) v v' e l = absurd (not_so e)
like_calm (r.OtherStatement a) v v' e l = absurd (not_so e)
like_calm (r.Else a) v v' e l = absurd (not_so e)
like_calm (r.AfterBegin a) v v' e l = absurd (not_so e)
like_calm r.Table v v' e l = absurd (not_so e)
like_calm _ v v' e l = l

bare_kept : (l l' : Terminal) → kept l ≡ kept l' → bare l ≡ bare l'
bare_kept l l' e = ap bare e

bare_likes : (is : Symbols) → calm_symbols is ≡ true → (xs ys : Trees Terminal Tree is) → Likes is xs ys → bare_all is xs ≡ bare_all is ys
bare_likes [] ok xs ys likes = refl
bare_likes (lexeme c ∷ is) ok xs ys likes = let rest = bare_likes is ok xs.1 ys.1 likes.1 in let first = bare_kept xs.0 ys.0 likes.0 in λ i. (first i, rest i)
bare_likes (rule q ∷ is) ok xs ys likes =
    let both = and_true (calm q) (calm_symbols is) ok in
    let first = calm_like q xs.0 ys.0 both.0 likes.0 in
    let rest = bare_likes is both.1 xs.1 ys.1 likes.1 in
    λ i. (first i, rest i)
bare_likes (mark m ∷ is) ok xs ys likes = bare_likes is (and_true (calm_mark m) (calm_symbols is) ok).1 xs ys likes

calm_ways : (text : List ℕ) (q : Rule) → calm q ≡ true → WaysLike q (productions text q)
calm_ways text q ok p xs ys likes =
    let b = blind text q ok in
    like_calm q _ _ ok (blind_at q (productions text q) b p xs ∙ ap (at (productions text q) p).build (bare_likes (at (productions text q) p).symbols (calm_at text q p (calm_own q ok)) xs ys likes) ∙ sym (blind_at q (productions text q) b p ys))

-- ---- statements and forms

statement_is : (l : Terminal) (f : Form) → placeless (statement l f) ≡ roll-Statement (record { line = 0; form = placeless_form f })
statement_is l f = search the_lemmas

if_is : (test : Test) (so : Statement) (other : Option Statement) → placeless_form (form.If test so other) ≡ roll-Form (Form-F.If test (placeless so) (option_map placeless other))
if_is test so None = search the_lemmas
if_is test so (Some other) = search the_lemmas

while_is : (test : Test) (body : Statement) → placeless_form (form.While test body) ≡ roll-Form (Form-F.While test (placeless body))
while_is test body = search the_lemmas

block_is : (body : List Statement) → placeless_form (form.Block body) ≡ roll-Form (Form-F.Block (map placeless body))
block_is body = search the_lemmas

try_is : (body handler : List Statement) → placeless_form (form.TryCatch body handler) ≡ roll-Form (Form-F.TryCatch (map placeless body) (map placeless handler))
try_is body handler = search the_lemmas

create_is : (table : TableTree) (text : List ℕ) → placeless_form (form.CreateTable table text) ≡ form.CreateTable table []
create_is table text = search the_lemmas

stated_like : (l l' : Terminal) (f g : Form) → placeless_form f ≡ placeless_form g → placeless (statement l f) ≡ placeless (statement l' g)
stated_like l l' f g e = statement_is l f ∙ ap (λ (z : Form). roll-Statement (record { line = 0; form = z })) e ∙ sym (statement_is l' g)

stated : (l l' : Terminal) (f g : Form) → f ≡ g → placeless (statement l f) ≡ placeless (statement l' g)
stated l l' f g e = stated_like l l' f g (ap placeless_form e)

pub created : (l l' : Terminal) (table table' : TableTree) (text text' : List ℕ) → table ≡ table' → placeless (statement l (form.CreateTable table text)) ≡ placeless (statement l' (form.CreateTable table' text'))
created l l' table table' text text' e = stated_like l l' _ _ (create_is table text ∙ ap (λ (z : TableTree). form.CreateTable z []) e ∙ sym (create_is table' text'))

-- ---- the rules that hold statements, or declare

begin_like : (text : List ℕ) (a : Around) → AllLike (r.AfterBegin a) (productions text (r.AfterBegin a))
begin_like text a = (
  λ xs ys l. ap placeless_form (λ i. form.BeginTransaction (l.1.0 i)),
  (
    λ xs ys l. try_is xs.1.0 xs.1.1.1.1.1.1.1.0 ∙ (λ i. roll-Form (Form-F.TryCatch (l.1.0 i) (l.1.1.1.1.1.1.1.0 i))) ∙ sym (try_is ys.1.0 ys.1.1.1.1.1.1.1.0),
    (λ xs ys l. block_is (xs.1.0 ∷ xs.1.1.0) ∙ (λ i. roll-Form (Form-F.Block (l.1.0 i ∷ l.1.1.0 i))) ∙ sym (block_is (ys.1.0 ∷ ys.1.1.0)), tt),
  ),
)

loop_like : (a : Around) (b : Bool) → AllLike (r.OtherStatement a) (if b then way (reserved w.Break ∷ []) (λ at. statement at form.Break) ∷ way (reserved w.Continue ∷ []) (λ at. statement at form.Continue) ∷ [] else [])
loop_like a true = (λ xs ys l. stated xs.0 ys.0 form.Break form.Break refl, (λ xs ys l. stated xs.0 ys.0 form.Continue form.Continue refl, tt))
loop_like a false = tt

other_like : (text : List ℕ) (a : Around) → AllLike (r.OtherStatement a) (productions text (r.OtherStatement a))
other_like text a = (
  λ xs ys l. stated xs.0 ys.0 _ _ (λ i. form.Select (l.1.0 i)),
  (
    λ xs ys l. stated xs.0 ys.0 _ _ (λ i. l.1.1.1.0 i (l.1.1.0 i)),
    (
      λ xs ys l. stated xs.0 ys.0 _ _ (λ i. form.Update (l.1.0 i) (l.1.1.1.0 i ∷ l.1.1.1.1.0 i) (l.1.1.1.1.1.0 i)),
      (
        λ xs ys l. stated xs.0 ys.0 _ _ (λ i. form.Delete (l.1.1.0 i) (l.1.1.1.0 i)),
        (
          λ xs ys l. stated xs.0 ys.0 _ _ (λ i. form.Drop (l.1.0 i) (l.1.1.0 i)),
          (
            λ xs ys l. stated_like xs.0 ys.0 _ _ (if_is xs.1.0 xs.1.1.0 xs.1.1.1.0 ∙ (λ i. roll-Form (Form-F.If (l.1.0 i) (l.1.1.0 i) (l.1.1.1.0 i))) ∙ sym (if_is ys.1.0 ys.1.1.0 ys.1.1.1.0)),
            (
              λ xs ys l. stated_like xs.0 ys.0 _ _ (while_is xs.1.0 xs.1.1.0 ∙ (λ i. roll-Form (Form-F.While (l.1.0 i) (l.1.1.0 i))) ∙ sym (while_is ys.1.0 ys.1.1.0)),
              (
                λ xs ys l. stated_like xs.0 ys.0 _ _ l.1.0,
                (
                  λ xs ys l. stated xs.0 ys.0 _ _ (λ i. form.Print (l.1.0 i)),
                  (
                    λ xs ys l. stated xs.0 ys.0 _ _ (λ i. form.RaiseError (l.1.1.0 i) (l.1.1.1.1.0 i) (l.1.1.1.1.1.1.0 i)),
                    (
                      λ xs ys l. stated xs.0 ys.0 _ _ (λ i. form.Return (l.1.0 i)),
                      (
                        λ xs ys l. stated xs.0 ys.0 _ _ l.1.0,
                        (
                          λ xs ys l. stated xs.0 ys.0 _ _ l.1.0,
                          (
                            λ xs ys l. stated xs.0 ys.0 _ _ l.1.0,
                            (
                              λ xs ys l. stated xs.0 ys.0 _ _ (λ i. form.Commit (l.1.0 i)),
                              (
                                λ xs ys l. stated xs.0 ys.0 _ _ (λ i. form.Rollback (l.1.0 i)),
                                (
                                  λ xs ys l. stated xs.0 ys.0 _ _ (λ i. form.Save (units (l.1.1.0 i))),
                                  (
                                    λ xs ys l. stated xs.0 ys.0 _ _ (λ i. form.OpenCursor (units (l.1.0 i))),
                                    (
                                      λ xs ys l. stated xs.0 ys.0 _ _ (λ i. form.Fetch (units (l.1.1.1.0 i)) (l.1.1.1.1.1.0 i)),
                                      (
                                        λ xs ys l. stated xs.0 ys.0 _ _ (λ i. form.CloseCursor (units (l.1.0 i))),
                                        (
                                          λ xs ys l. stated xs.0 ys.0 _ _ (λ i. form.Deallocate (units (l.1.0 i))),
                                          (
                                            λ xs ys l. stated xs.0 ys.0 _ _ (λ i. form.Use (units (l.1.0 i))),
                                            (λ xs ys l. stated xs.0 ys.0 _ _ l.1.0, loop_like a a.in_while),
                                          ),
                                        ),
                                      ),
                                    ),
                                  ),
                                ),
                              ),
                            ),
                          ),
                        ),
                      ),
                    ),
                  ),
                ),
              ),
            ),
          ),
        ),
      ),
    ),
  ),
)

-- ---- all rules but those whose productions look at the text

abbrev pub looks : Rule → Bool
looks r.AfterFirstCreate = true
looks (r.Statement a) = true
looks q = false

pub ways_like : (text : List ℕ) (q : Rule) → looks q ≡ false → WaysLike q (productions text q)
ways_like text r.AfterFirstCreate e = absurd (not_so (sym e))
ways_like text (r.Statement a) e = absurd (not_so (sym e))
ways_like text r.Batch e = like_at r.Batch (productions text r.Batch) (λ xs ys l. tt, (λ xs ys l. tt, (λ xs ys l. tt, (λ xs ys l. tt, tt))))
ways_like text r.Definition e = like_at r.Definition (productions text r.Definition) (λ xs ys l. tt, tt)
ways_like text r.AfterCreate e = like_at r.AfterCreate (productions text r.AfterCreate) (λ xs ys l. tt, (λ xs ys l. tt, (λ xs ys l. tt, tt)))
ways_like text r.Procedure e = like_at r.Procedure (productions text r.Procedure) (λ xs ys l. record { name = l.1.0; parameters = l.1.1.0; body = l.1.1.1.1.0 }, tt)
ways_like text r.Trigger e = like_at r.Trigger (productions text r.Trigger)
    (λ xs ys l. record { name = l.1.0; table = l.1.1.1.0; events = λ i. l.1.1.1.1.1.0 i ∷ l.1.1.1.1.1.1.0 i; body = l.1.1.1.1.1.1.1.1.0 }, tt)
ways_like text r.Params e = like_at r.Params (productions text r.Params) (λ xs ys l i. l.0 i ∷ l.1.0 i, (λ xs ys l. refl, tt))
ways_like text r.MoreParams e = like_at r.MoreParams (productions text r.MoreParams) (λ xs ys l i. l.1.0 i ∷ l.1.1.0 i, (λ xs ys l. refl, tt))
ways_like text r.Param e = like_at r.Param (productions text r.Param) (λ xs ys l i. record { name = units (l.0 i); kind = l.1.0 i; output = l.1.1.0 i }, tt)
ways_like text (r.Body a) e = like_at (r.Body a) (productions text (r.Body a)) (λ xs ys l. l.1.0, (λ xs ys l i. l.0 i ∷ l.1.0 i, (λ xs ys l. refl, tt)))
ways_like text (r.OtherStatement a) e = like_at (r.OtherStatement a) (productions text (r.OtherStatement a)) (other_like text a)
ways_like text (r.AfterBegin a) e = like_at (r.AfterBegin a) (productions text (r.AfterBegin a)) (begin_like text a)
ways_like text (r.Else a) e = like_at (r.Else a) (productions text (r.Else a)) (λ xs ys l i. Some (l.1.0 i), (λ xs ys l i. Some (l.1.1.0 i), (λ xs ys l. refl, tt)))
ways_like text r.Table e = like_at r.Table (productions text r.Table) (λ xs ys l i. (l.1.1.1.1.0 i (l.1.1.1.0 i (empty_draft (l.1.0 i)))).table, tt)
ways_like text r.AfterDeclare e = like_at r.AfterDeclare (productions text r.AfterDeclare)
    (λ xs ys l i. form.Declare (l.0 i ∷ l.1.0 i), (λ xs ys l i. form.DeclareCursor (units (l.0 i)) (l.1.1.1.1.1.1.1.0 i), tt))
ways_like text r.Declaration e = like_at r.Declaration (productions text r.Declaration) (λ xs ys l i. record { name = units (l.0 i); kind = l.1.1.0 i; initial = l.1.1.1.0 i }, tt)
ways_like text r.MoreDeclarations e = like_at r.MoreDeclarations (productions text r.MoreDeclarations) (λ xs ys l i. l.1.0 i ∷ l.1.1.0 i, (λ xs ys l. refl, tt))
ways_like text q e = calm_ways text q refl
