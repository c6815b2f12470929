-- A front of locks that are kept to the transaction's end: what is behind it, and how it comes about.
use Rattle.std.proofs.Common.{◌≡◌, ◌≤◌, ℕ, min, true, List, [], ◌∷◌, ◌++◌, filter, take, drop, length, refl, sym, ap, ◌∙◌, arith}
use Rattle.std.specs.List.{All}
use Rattle.std.proofs.lemmas.List.{take-append-drop, take-take, length-take}
use Rattle.std.proofs.lemmas.List.Elements.{All-head, All-tail, All-take, filter-append, filter_passes}
use Rattle.step_model.specs.declared.resource.Span.TheVariants.{Statement}
use Rattle.step_model.specs.Locks.{Lock, is_whole}
use Rattle.lock_table.specs.BySession.{is_of, BeginsWhole}
use Rattle.lock_table.proofs.Joins.{none_brief}

abbrev IsWhole : Lock → Type 0
IsWhole lock = is_whole lock.span ≡ true

abbrev pub whole_of : List Lock → List Lock
whole_of locks = filter (λ lock. is_whole lock.span) locks

-- where all are such, all stay
all_stay : (ls : List Lock) → All IsWhole ls → whole_of ls ≡ ls
all_stay [] all = refl
all_stay (x ∷ ls) all = rw (All-head IsWhole x ls all) (ap (λ (ms : List Lock). x ∷ ms) (all_stay ls (All-tail IsWhole x ls all)))

pub front_stays : (n : ℕ) (ls : List Lock) → BeginsWhole n ls → take n ls ≡ whole_of (take n ls)
front_stays n ls begins = sym (all_stay (take n ls) begins.front)

-- those of the statement are behind it
pub brief_behind : (n : ℕ) (ls : List Lock) → BeginsWhole n ls → filter (is_of Statement) (drop n ls) ≡ filter (is_of Statement) ls
brief_behind n ls begins =
    sym (ap (filter (is_of Statement)) (sym (take-append-drop n ls))
    ∙ filter-append (is_of Statement) (take n ls) (drop n ls)
    ∙ ap (λ (ms : List Lock). ms ++ filter (is_of Statement) (drop n ls)) (ap (filter (is_of Statement)) (front_stays n ls begins) ∙ none_brief (take n ls)))

-- a list that was cut off behind has as much of it as is left
pub begins_cut : (n m k : ℕ) (ls ms : List Lock) → BeginsWhole n ls → ms ≡ take k ls → m ≡ min n (length ms) → BeginsWhole m ms
begins_cut n m k ls ms begins cut is = rw cut (record {
  within = omega (arith, ap length cut);
  front = rw (take-take m k ls (omega (arith, length-take k ls, ap length cut)), ← take-take m n ls (omega arith)) (All-take IsWhole m (take n ls) begins.front);
})

-- what was brought to the front
pub begins_gathered : (k : ℕ) (xs ys : List Lock) → k ≤ length ys → take k ys ≡ whole_of xs → BeginsWhole k (take k ys)
begins_gathered k xs ys within is = record {
  within = omega (arith, length-take k ys);
  front = rw (take-take k k ys (omega arith), is) (filter_passes (λ (lock : Lock). is_whole lock.span) xs);
}
