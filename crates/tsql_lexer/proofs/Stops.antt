-- Runs of units that pass a test, and what stops them.
use Rattle.std.proofs.Common.{◌≡◌, ℕ, suc, ◌+◌, ◌≤◌, Bool, true, false, cond, not, eqb, List, [], ◌∷◌, ◌++◌, length, drop, refl, sym, ap, subst, ◌∙◌, arith, true≢false, ne_eqb}
use Rattle.std.specs.List.{prefix_len, list_all}
use Rattle.std.proofs.lemmas.Bool.{and_parts}
use Rattle.tsql_lexer.specs.Lexemes.{IsRun, stops}

-- a run is its own longest one, where what is behind it stops it
pub run_stops : (test : ℕ → Bool) (units behind : List ℕ) → list_all test units ≡ true → stops test behind ≡ true → prefix_len test (units ++ behind) ≡ length units
run_stops test [] [] passes stopped = refl
run_stops test [] (next ∷ behind) passes stopped = first (test next) stopped
  where
    first : (b : Bool) → not b ≡ true → cond b (1 + prefix_len test behind) 0 ≡ 0
    first true stopped = absurd (true≢false (sym stopped))
    first false stopped = refl
run_stops test (unit ∷ units) behind passes stopped =
    let parts = and_parts (test unit) (list_all test units) passes in
    rw parts.0 (omega (arith, run_stops test units behind parts.1 stopped))

-- what is behind the longest run stops it
pub run_stopped : (test : ℕ → Bool) (text : List ℕ) → stops test (drop (prefix_len test text) text) ≡ true
run_stopped test [] = refl
run_stopped test (unit ∷ units) = first (test unit) refl (run_stopped test units)
  where
    first : (b : Bool) → test unit ≡ b → stops test (drop (prefix_len test units) units) ≡ true → stops test (drop (cond b (1 + prefix_len test units) 0) (unit ∷ units)) ≡ true
    first true is stopped =
        let one : suc (prefix_len test units) ≡ 1 + prefix_len test units = omega arith in
        subst (λ (n : ℕ). stops test (drop n (unit ∷ units)) ≡ true) one stopped
    first false is stopped = rw is refl

-- a run that begins a text is a run
pub is_run : (test : ℕ → Bool) (units : List ℕ) → 1 ≤ length units → list_all test units ≡ true → IsRun test units
is_run test [] some passes = absurd (omega arith)
is_run test (unit ∷ units) some passes = and_parts (test unit) (list_all test units) passes

pub run_all : (test : ℕ → Bool) (units : List ℕ) → IsRun test units → list_all test units ≡ true
run_all test [] run = absurd run
run_all test (unit ∷ units) run = rw (run.0, run.1) refl

-- a unit that no test but one other passes
pub unlike : (test : ℕ → Bool) (next other : ℕ) → not (test next) ≡ true → test other ≡ true → eqb next other ≡ false
unlike test next other fails passes = ne_eqb next other (λ same. true≢false (sym fails ∙ ap not (subst (λ (n : ℕ). test n ≡ true) (sym same) passes)))

pub run_some : (test : ℕ → Bool) (units : List ℕ) → IsRun test units → 1 ≤ length units
run_some test [] run = absurd run
run_some test (unit ∷ units) run = omega arith
