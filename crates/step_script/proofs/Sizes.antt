-- A number of a narrow range, looked for among those of 64 bits.
use Rattle.std.proofs.Common.{◌≡◌, ℕ, suc, zero, ℤ, pos, negsuc, Bool, true, false, Option, Some, None, refl, sym, ◌∙◌, arith}
use Rattle.std.specs.Prelude.{option_map, if◌then◌else◌}
use Rattle.step_script.specs.Numbers.{only, is_session, is_mark, is_long, is_priority, negative_in}

-- what is dropped would have been dropped later
kept : {A B : Type 0} (later : Option A → Option B) (a : A) (wide : Bool) → later None ≡ None → (wide ≡ false → later (Some a) ≡ None) → later (if wide then Some a else None) ≡ later (Some a)
kept later a true none outside = refl
kept later a false none outside = none ∙ sym (outside refl)

pub session_of_mark : (told : Option ℕ) → only is_session (only is_mark told) ≡ only is_session told
session_of_mark None = refl
session_of_mark (Some n) = kept (only is_session) n (is_mark n) refl (λ outside. grind arith)

pub positive_of_mark : (told : Option ℕ) → only is_long (option_map pos (only is_mark told)) ≡ only is_long (option_map pos told)
positive_of_mark None = refl
positive_of_mark (Some n) = kept (λ o. only is_long (option_map pos o)) n (is_mark n) refl (λ outside. grind arith)

pub negative_of_mark : (told : Option ℕ) → only is_long (negative_in (only is_mark told)) ≡ only is_long (negative_in told)
negative_of_mark None = refl
negative_of_mark (Some zero) = refl
negative_of_mark (Some (suc n)) = kept (λ o. only is_long (negative_in o)) (suc n) (is_mark (suc n)) refl (λ outside. grind arith)

pub priority_of_long : (told : Option ℤ) → only is_priority (only is_long told) ≡ only is_priority told
priority_of_long None = refl
priority_of_long (Some (pos n)) = kept (only is_priority) (pos n) (is_long (pos n)) refl (λ outside. grind arith)
priority_of_long (Some (negsuc n)) = kept (only is_priority) (negsuc n) (is_long (negsuc n)) refl (λ outside. grind arith)
