-- Own: the open transactions as the code keeps them: each with the numbers of its live marks, what it waits for and
-- whether it is marked as a victim, and without its locks and what its marks have saved, which stand elsewhere.
use Rattle.std.specs.Prelude.{◌≡◌, ℕ, ◌+◌, ◌≤◌, ◌==◌, not, nat_le, Bool, false, List, [], ◌∷◌, ◌++◌, map, filter, Option, None, Some, if◌then◌else◌}
use Rattle.std.specs.List.{AllByRecursion, find, list_any}
use Rattle.step_model.specs.declared.edge.Edge.{Edge}
use Rattle.step_model.specs.State.{StandingWait}

pub record Opened : Type 0 where
  pub session : ℕ
  pub made : ℕ
  pub marks : List ℕ
  pub wait : Option StandingWait
  pub victim : Option (List Edge)

abbrev pub opened_in : ℕ → List Opened → Option Opened
opened_in session active = find (λ opened. opened.session == session) active

-- a transaction of the session is open
abbrev pub is_active : ℕ → List Opened → Bool
is_active session active = list_any (λ opened. opened.session == session) active

abbrev pub made_of : Option Opened → ℕ
made_of None = 0
made_of (Some opened) = opened.made

-- how many marks the session's transaction has made
abbrev pub made_in : ℕ → List Opened → ℕ
made_in session active = made_of (opened_in session active)

abbrev pub marks_of : Option Opened → List ℕ
marks_of None = []
marks_of (Some opened) = opened.marks

-- the numbers of its live marks
abbrev pub marks_in : ℕ → List Opened → List ℕ
marks_in session active = marks_of (opened_in session active)

abbrev pub levels_of : Option Opened → ℕ
levels_of None = 0
levels_of (Some opened) = opened.made + 1

-- the level below which all of the session's states were written
abbrev pub levels_in : ℕ → List Opened → ℕ
levels_in session active = levels_of (opened_in session active)

-- where the session's transaction has changed so
abbrev pub with_opened : ℕ → (Opened → Opened) → List Opened → List Opened
with_opened session f active = map {A = Opened} {B = Opened} (λ opened. if opened.session == session then f opened else opened) active

-- one mark more
abbrev pub add_mark : ℕ → Opened → Opened
add_mark mark opened = record opened { made = mark; marks = opened.marks ++ mark ∷ [] }

-- the marks whose number isn't above this one
abbrev pub cut_marks : ℕ → Opened → Opened
cut_marks mark opened = record opened { marks = filter (λ live. nat_le live mark) opened.marks }

-- waiting for this
abbrev pub set_wait : StandingWait → Opened → Opened
set_wait wait opened = record opened { wait = Some wait }

-- waiting no more
abbrev pub drop_wait : Opened → Opened
drop_wait opened = record opened { wait = None }

-- waiting no more, and marked as the victim of a cycle
abbrev pub mark_victim : List Edge → Opened → Opened
mark_victim cycle opened = record opened { wait = None; victim = Some cycle }

-- marked no more
abbrev pub drop_victim : Opened → Opened
drop_victim opened = record opened { victim = None }

abbrev pub mark_of : Option Opened → Option (List Edge)
mark_of None = None
mark_of (Some opened) = opened.victim

-- the cycle as whose victim the session is marked, if it is
abbrev pub mark_in : ℕ → List Opened → Option (List Edge)
mark_in session active = mark_of (opened_in session active)

abbrev pub without_opened : ℕ → List Opened → List Opened
without_opened session active = filter (λ opened. not (opened.session == session)) active

-- each session has one open transaction at most
abbrev pub AreDistinct : List Opened → Type 0
AreDistinct [] = Unit {0}
AreDistinct (opened ∷ others) = (is_active opened.session others ≡ false) × AreDistinct others

-- no live mark has a number above the number of those that were made
abbrev pub AreNumbered : List Opened → Type 0
AreNumbered active = AllByRecursion (λ opened. AllByRecursion (λ mark. mark ≤ opened.made) opened.marks) active
