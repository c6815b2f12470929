-- What reading by descent gives of lexemes that are known to read.
use Rattle.std.specs.Prelude.{◌≡◌, false, List, [], Option, Some, None}
use Rattle.std.proofs.Common.{ap, sym, ◌∙◌, subst}
use Rattle.tsql_lexer.specs.declared.lexeme.Spanned.{Spanned}
use Rattle.tsql_grammar.specs.declared.rule.Rule.{Rule}
use Rattle.tsql_grammar.specs.Noted.{start}
use Rattle.tsql_grammar.specs.Productions.{Tree}
use Rattle.tsql_grammar.specs.Terminals.{Terminal, terminals}
use Rattle.tsql_grammar.proofs.Readings.{whole}
use Rattle.query_parser.specs.Parsed.{ReadsWith}
use Rattle.lexeme_reader.specs.Reading.{read, read_in}

descends : (a : Rule) (text : List Spanned) (tree : Tree a) → ReadsWith a text tree None → read a (terminals text) ≡ Some (tree, [])
unfolding read_in
descends a text tree (t, reads, same) = whole [] a (terminals text) tree (start false) t reads

first_of : (a : Rule) → Tree a → Option (Tree a × List Terminal) → Tree a
first_of a d None = d
first_of a d (Some x) = x.0

pub reads_as : (a : Rule) (text : List Spanned) → (tree : Tree a) × ReadsWith a text tree None → (found : Tree a) (rest : List Terminal)
    → read a (terminals text) ≡ Some (found, rest) → ReadsWith a text found None
unfolding first_of
reads_as a text (tree, reads) found rest e =
    let same : tree ≡ found = ap (first_of a tree) (sym (descends a text tree reads) ∙ e) in
    subst (λ (x : Tree a). ReadsWith a text x None) same reads

none_is_some : {A : Type 0} (x : A) → Some x ≡ None → ⊥
none_is_some x e = absurd (cc)

pub reads_some : (a : Rule) (text : List Spanned) → (tree : Tree a) × ReadsWith a text tree None → read a (terminals text) ≡ None → ⊥
reads_some a text (tree, reads) e = none_is_some {A = Tree a × List Terminal} (tree, []) (sym (descends a text tree reads) ∙ e)
