-- Transact-SQL reference, "Database engine events and errors": the number of the error that a refused statement on cursors is.
use Rattle.std.specs.Prelude.{◌≡◌, ℤ, pos, Option, Some, None, Result, Ok, Err}
use Rattle.session_cursors.specs.declared.fault.CursorFault.{CursorFault}
use Rattle.session_cursors.specs.declared.fault.CursorFault.TheVariants.{NoSuch, Present, AlreadyFilled, NotFilled, Memory}

-- want of memory has none of its own
abbrev pub number_of : CursorFault → Option ℤ
number_of NoSuch = Some (pos 16916)
number_of Present = Some (pos 16915)
number_of AlreadyFilled = Some (pos 16905)
number_of NotFilled = Some (pos 16917)
number_of Memory = None

-- it gives this answer, where memory is not wanting
abbrev pub Gives : {A : Type 0} → Result A CursorFault → Result A CursorFault → Type 0
Gives (Ok x) answer = answer ≡ Ok x
Gives (Err NoSuch) answer = answer ≡ Err NoSuch
Gives (Err Present) answer = answer ≡ Err Present
Gives (Err AlreadyFilled) answer = answer ≡ Err AlreadyFilled
Gives (Err NotFilled) answer = answer ≡ Err NotFilled
Gives (Err Memory) answer = Unit {0}
