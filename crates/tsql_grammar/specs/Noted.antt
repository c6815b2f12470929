-- Transact-SQL reference, DECLARE @local_variable; own limit on nesting: what is noted of a text while
-- it is read, and the first thing in it that is wrong although it reads. Behind that nothing more is
-- noted.
use Rattle.std.specs.Prelude.{ℕ, ◌+◌, ◌-◌, Bool, false, ◌||◌, not, ◌&&◌, nat_eq, nat_lt, List, [], ◌∷◌, Option, Some, None, if◌then◌else◌}
use Rattle.std.specs.Cmp.Lexicographic.{pointwise}
use Rattle.tsql_grammar.specs.declared.noted.TextFault.{TextFault}
use Rattle.tsql_grammar.specs.declared.noted.TextFault.TheVariants.{TooDeep, NotDeclared, DeclaredTwice}
use Rattle.tsql_grammar.specs.declared.rule.Mark.{Mark}
use Rattle.tsql_grammar.specs.declared.rule.Mark.TheVariants.{Enter, Leave, Uses, Declares}
use Rattle.tsql_grammar.specs.Terminals.{Terminal, units}

-- how deep a text may nest
abbrev pub max_depth : ℕ
max_depth = 128

pub record Noted : Type 0 where
  -- whether variables are judged, which are in a batch and in a definition
  pub judges : Bool
  -- how many lexemes were read, and what the last of them holds
  pub place : ℕ
  pub last : List ℕ
  -- how much is open
  pub depth : ℕ
  -- the variables that were declared
  pub declared : List (List ℕ)
  -- what is wrong, and at which lexeme
  pub fault : Option (TextFault × ℕ)

-- in the beginning
abbrev pub start : Bool → Noted
start judges = record { judges = judges; place = 0; last = []; depth = 0; declared = []; fault = None }

-- names of variables are compared unit by unit
abbrev pub has_name : List (List ℕ) → List ℕ → Bool
has_name [] name = false
has_name (other ∷ more) name = pointwise nat_eq other name || has_name more name

abbrev pub see : Noted → Terminal → Noted
see s l = record s { place = s.place + 1; last = units l }

-- the lexeme that was read last is at fault
abbrev pub blame : Noted → TextFault → Noted
blame s fault = record s { fault = Some (fault, s.place - 1) }

abbrev pub note_sound : Noted → Mark → Noted
note_sound s Enter = if nat_lt s.depth max_depth then record s { depth = s.depth + 1 } else blame s TooDeep
note_sound s Leave = record s { depth = s.depth - 1 }
note_sound s Uses = if s.judges && not (has_name s.declared s.last) then blame s NotDeclared else s
note_sound s Declares =
    if s.judges && has_name s.declared s.last then blame s DeclaredTwice else record s { declared = s.last ∷ s.declared }

abbrev pub note_where : Option (TextFault × ℕ) → Noted → Mark → Noted
note_where None s m = note_sound s m
note_where (Some fault) s m = s

abbrev pub note : Noted → Mark → Noted
note s m = note_where s.fault s m
