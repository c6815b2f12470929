-- Transact-SQL reference, batches and definitions as whole texts; own: which refusal stands, and where.
-- What parsing a text as a batch, or as the text of one definition, gives: the tree that the text stands
-- for, or the first thing that is wrong with it. The definitions speak of all texts of the grammar, and
-- of lexemes as the lexer gives them; code reads with a stack, and then by descent.
use Rattle.std.specs.Prelude.{◌≡◌, ◌≤◌, ◌+◌, ◌-◌, ◌⊎◌, ℕ, suc, ℤ, pos, true, List, [], ◌++◌, length, take, Option, Some, None, Result, Ok, Err}
use Rattle.std.specs.List.{slice_get}
use Rattle.tsql_lexer.specs.declared.fault.Flaw.{Flaw}
use Rattle.tsql_lexer.specs.declared.lexeme.Spanned.{Spanned}
use Rattle.tsql_lexer.specs.Parts.{line_behind}
use Rattle.tsql_lexer.specs.Reading.{lexing_of}
use Rattle.tsql_tree.specs.declared.definition.Definition.{Definition}
use Rattle.tsql_tree.specs.declared.statement.Batch.{Batch}
use Rattle.tsql_grammar.specs.declared.noted.TextFault.{TextFault}
use Rattle.tsql_grammar.specs.declared.noted.TextFault.TheVariants.{TooDeep, NotDeclared, DeclaredTwice}
use Rattle.tsql_grammar.specs.declared.rule.Rule.{Rule}
use Rattle.tsql_grammar.specs.declared.rule.Rule.TheVariants as r
use Rattle.tsql_grammar.specs.Noted.{Noted, start}
use Rattle.tsql_grammar.specs.PlainText.{ReadsPlain, IsPlainText}
use Rattle.tsql_grammar.specs.Productions.{Tree}
use Rattle.tsql_grammar.specs.Trees.{slice}
use Rattle.tsql_grammar.specs.declared.fault.ParseFault.{ParseFault}
use Rattle.tsql_grammar.specs.declared.fault.ParseFault.TheVariants as fault

-- ---- what a text is of a rule

-- the lexemes of a text in front of its first flaw, and that flaw: those of `Lexes` (`law_lexing`)
abbrev pub lexemes_of : List ℕ → List Spanned
lexemes_of text = (lexing_of text).0

abbrev pub flaw_of : List ℕ → Option Flaw
flaw_of text = (lexing_of text).1

-- The text is one of the rule and stands for the tree, and this is the first thing in it that is wrong
-- although it reads, if any is.
pub record Stands (a : Rule) (text : List ℕ) (tree : Tree a) (fault : Option (TextFault × ℕ)) : Type 0 where
  pub flawless : flaw_of text ≡ None
  pub reads : (t : Noted) × ReadsPlain text a (lexemes_of text) tree (start true) t × (t.fault ≡ fault)

-- The lexemes begin some text of the rule.
abbrev pub BeginsText : Rule → List ℕ → List Spanned → Type 0
BeginsText a text past = (w : List Spanned) × (t : Noted) × IsPlainText text a (past ++ w) (start true) t

-- The text is none of the rule, and its longest front that begins one has so many lexemes: with the
-- next one, if there is one, it begins none.
pub record StopsText (a : Rule) (text : List ℕ) (at : ℕ) : Type 0 where
  pub within : at ≤ length (lexemes_of text)
  pub begins : BeginsText a text (take at (lexemes_of text))
  pub further : suc at ≤ length (lexemes_of text) → BeginsText a text (take (suc at) (lexemes_of text)) → ⊥
  pub unread : (tree : Tree a) (fault : Option (TextFault × ℕ)) → Stands a text tree fault → ⊥

-- ---- the place of an error, and what is shown of it

-- The line of the lexeme at a place, counted from 0. Behind the last lexeme it is that of the flaw, or
-- the last line of the text.
abbrev pub line_by : List ℕ → Option Flaw → Option Spanned → ℕ
line_by text flaw (Some l) = l.line
line_by text (Some flaw) None = flaw.line
line_by text None None = line_behind text

abbrev pub line_in : List ℕ → ℕ → ℕ
line_in text at = line_by text (flaw_of text) (slice_get (lexemes_of text) at)

-- that lexeme as the text spells it; behind the last one the unit at the flaw, or nothing
abbrev pub near_by : List ℕ → Option Flaw → Option Spanned → List ℕ
near_by text flaw (Some l) = slice text l.start l.end
near_by text (Some flaw) None = slice text flaw.at (flaw.at + 1)
near_by text None None = []

abbrev pub near_in : List ℕ → ℕ → List ℕ
near_in text at = near_by text (flaw_of text) (slice_get (lexemes_of text) at)

-- ---- the errors

abbrev pub syntax_error : ℤ
syntax_error = pos 102

-- what is wrong with a text that reads: how deep it nests, or a variable
abbrev pub number_of : TextFault → ℤ
number_of TooDeep = pos 49009
number_of NotDeclared = pos 137
number_of DeclaredTwice = pos 49013

-- what is shown of it: nothing of a nesting, else the name of the variable
abbrev pub shown_of : TextFault → List ℕ → ℕ → List ℕ
shown_of TooDeep text at = []
shown_of NotDeclared text at = near_in text at
shown_of DeclaredTwice text at = near_in text at

-- The text is none of the rule. The error stands at what follows its longest front that begins one: a
-- lexeme, the flaw, or the end.
pub record IsUnread (a : Rule) (text : List ℕ) (number : ℤ) (line : ℕ) (near : List ℕ) : Type 0 where
  pub at : ℕ
  pub stops : StopsText a text at
  pub number_is : number ≡ syntax_error
  pub line_is : line ≡ line_in text at
  pub near_is : near ≡ near_in text at

-- The text is one of the rule, and this is the first thing that is wrong in it.
pub record IsWrong (a : Rule) (text : List ℕ) (number : ℤ) (line : ℕ) (near : List ℕ) : Type 0 where
  pub tree : Tree a
  pub fault : TextFault
  pub at : ℕ
  pub stands : Stands a text tree (Some (fault, at))
  pub number_is : number ≡ number_of fault
  pub line_is : line ≡ line_in text at
  pub near_is : near ≡ shown_of fault text at

-- why the text gives no tree; where memory was wanting, nothing is said
abbrev pub IsFault : Rule → List ℕ → ParseFault → Type 0
IsFault a text (fault.Refused number line near) = IsUnread a text number line near ⊎ IsWrong a text number line near
IsFault a text fault.Memory = Unit {0}

-- ---- what parsing gives

-- where the last lexeme ends
abbrev pub end_by : Option Spanned → ℕ
end_by None = 0
end_by (Some l) = l.end

abbrev pub end_of : List Spanned → ℕ
end_of w = end_by (slice_get w (length w - 1))

-- The text is a batch that stands for this, and nothing is wrong in it; or this is the first thing that
-- is wrong with the text. The tree of a batch asks where its last lexeme ends, since a definition keeps
-- its text up to there.
abbrev pub BatchOf : List ℕ → Result Batch ParseFault → Type 0
BatchOf text (Ok batch) = (tree : Tree r.Batch) × Stands r.Batch text tree None × (batch ≡ tree (end_of (lexemes_of text)))
BatchOf text (Err e) = IsFault r.Batch text e

-- The same of the text of one definition, of a table too, with nothing behind it.
abbrev pub DefinitionOf : List ℕ → Result Definition ParseFault → Type 0
DefinitionOf text (Ok definition) = Stands r.Definition text definition None
DefinitionOf text (Err e) = IsFault r.Definition text e
