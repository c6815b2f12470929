-- Worked texts: what they are as batches, and where they are refused, by computing.
use Rattle.std.specs.Prelude.{◌≡◌, ℕ, true, false, List, [], ◌∷◌, Some, None, Ok, pos, codes, refl}
use Rattle.tsql_lexer.specs.Comments.{closing_size}
use Rattle.tsql_lexer.specs.Quotes.{enclosed}
use Rattle.tsql_lexer.specs.Reading.{opening_of, double_sign, single_sign, at_name_piece, number_of, number_piece, name_piece, text_piece, comment_piece, sign_piece, piece_by, piece_of, read_on, lexing_of}
use Rattle.tsql_tree.specs.declared.query.Expr.TheVariants as expr
use Rattle.tsql_tree.specs.declared.query.Item.TheVariants as item
use Rattle.tsql_tree.specs.declared.query.Select.{roll-Select}
use Rattle.tsql_tree.specs.declared.statement.Batch.{Batch}
use Rattle.tsql_tree.specs.declared.statement.Batch.TheVariants as batch
use Rattle.tsql_tree.specs.declared.statement.Form.TheVariants as form
use Rattle.tsql_tree.specs.declared.statement.Statement.{roll-Statement}
use Rattle.tsql_grammar.specs.declared.rule.Rule.TheVariants as r
use Rattle.tsql_grammar.specs.Noted.{start}
use Rattle.tsql_grammar.specs.Language.{read_rule}
use Rattle.tsql_grammar.specs.Terminals.{terminals}
use Rattle.tsql_grammar.specs.Words.{word_kind}
use Rattle.grammar_laws.specs.Descent.{read}
use Rattle.lexeme_reader.specs.Reading.{Outcome, applied}
use Rattle.tsql_grammar.specs.Parsed.{lexemes_of, end_of, line_in, near_in, BatchOf}

-- the batch without a statement
empty : BatchOf [] (Ok (batch.Body []))
unfolding lexing_of read_on
empty = (λ ends. batch.Body [], record { flawless = refl; reads = (start true, (1, (Some (Some (Some None)), tt, refl, refl, refl)), refl) }, refl)

-- what is read of a whole text by descent
abbrev whole : List ℕ → Outcome Batch
whole text = applied (end_of (lexemes_of text)) (read_rule text r.Batch (terminals (lexemes_of text)))

-- select 1
select_one : whole (codes "select 1")
    ≡ Some (
      batch.Body (roll-Statement (record {
        line = 1;
        form = form.Select (roll-Select (record { distinct = false; top = None; items = item.Value (expr.Number (pos 1)) None ∷ []; from = None; filter = None; groups = []; having = None; order = [] }));
      }) ∷ []),
      [],
    )
unfolding read word_kind lexing_of read_on piece_of piece_by sign_piece comment_piece text_piece name_piece number_piece number_of at_name_piece single_sign double_sign opening_of enclosed closing_size
select_one = refl

-- what is shown of a lexeme is its spelling; of a flaw its unit; of the end nothing
from_shown : near_in (codes "select from #") 1 ≡ codes "from"
unfolding lexing_of read_on piece_of piece_by sign_piece comment_piece text_piece name_piece number_piece number_of at_name_piece single_sign double_sign opening_of enclosed closing_size
from_shown = refl

flaw_shown : near_in (codes "select 1 #") 2 ≡ codes "#"
unfolding lexing_of read_on piece_of piece_by sign_piece comment_piece text_piece name_piece number_piece number_of at_name_piece single_sign double_sign opening_of enclosed closing_size
flaw_shown = refl

name_shown : near_in (codes "select top [b]") 2 ≡ codes "[b]"
unfolding lexing_of read_on piece_of piece_by sign_piece comment_piece text_piece name_piece number_piece number_of at_name_piece single_sign double_sign opening_of enclosed closing_size
name_shown = refl

end_shown : near_in (codes "select") 1 ≡ []
unfolding lexing_of read_on piece_of piece_by sign_piece comment_piece text_piece name_piece number_piece number_of at_name_piece single_sign double_sign opening_of enclosed closing_size
end_shown = refl

-- the end of a text is in its last line
last_line : line_in (codes "select\n") 1 ≡ 2
unfolding lexing_of read_on piece_of piece_by sign_piece comment_piece text_piece name_piece number_piece number_of at_name_piece single_sign double_sign opening_of enclosed closing_size
last_line = refl
