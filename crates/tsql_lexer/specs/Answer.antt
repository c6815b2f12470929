-- Own: which flaw a fault is of. Want of memory is of none, and may always be answered.
use Rattle.std.specs.Prelude.{◌≡◌, Option, Some}
use Rattle.tsql_lexer.specs.declared.fault.Flaw.{Flaw}
use Rattle.tsql_lexer.specs.declared.fault.LexFault.{LexFault}
use Rattle.tsql_lexer.specs.declared.fault.LexFault.TheVariants.{Bad, Memory}

-- the fault is of this flaw, or memory was wanting
abbrev pub IsFaultOf : LexFault → Option Flaw → Type 0
IsFaultOf (Bad at line kind) flaw = flaw ≡ Some (record { at = at; line = line; kind = kind })
IsFaultOf Memory flaw = Unit {0}
