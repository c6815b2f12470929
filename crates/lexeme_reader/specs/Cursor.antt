-- Own: what the cursor shows of the lexemes that are left, and what it keeps ready.
use Rattle.std.specs.Prelude.{◌≡◌, List}
use Rattle.tsql_grammar.specs.Terminals.{Terminal, terminals}
use Rattle.lexeme_reader.specs.declared.cursor.Lexemes.TheInside.{Inside}
use Rattle.lexeme_reader.specs.Reading.{ahead}

abbrev pub left_of : Inside → List Terminal
left_of l = terminals l.rest.now

abbrev pub IsReady : Inside → Type 0
IsReady l = l.next ≡ ahead (terminals l.rest.now)
