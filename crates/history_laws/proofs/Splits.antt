-- The places in a list that has one element more at its end.
use Rattle.std.proofs.Common.{◌≡◌, ◌⊎◌, inl, inr, ℕ, ◌≤◌, false, List, [], ◌∷◌, ◌++◌, refl, sym, ap, subst, ◌∙◌, append-nil, append_assoc, arith}
use Rattle.std.specs.List.{AllByRecursion}
use Rattle.std.proofs.lemmas.Grind.{flat_map-append}
use Rattle.step_model.specs.declared.change.Change.{Change}
use Rattle.step_model.specs.declared.reply.Reply.{Reply}
use Rattle.step_model.specs.declared.reply.Reply.TheVariants.{Began, Row, Gone, End, Done, Exists, Missing, Marked, Ended, Wait, TimedOut, Victim, Memory}
use Rattle.step_model.specs.Exchange.{Exchange}
use Rattle.step_model.specs.Fits.{Each, place_of, place_or, is_ended, NoneEnds, all_numbers, numbers_of, NeverFall, commits_from, committed_by}
use Rattle.step_model.specs.Own.{Progress, progress_after, progress_from}

-- ---- where the last element is

-- a split of a list with one more at its end: at the last, or before it
pub data Split (mine : List Exchange) (last : Exchange) (before : List Exchange) (exchange : Exchange)
    (later : List Exchange) : Type 0 where
  at_end : before ≡ mine → exchange ≡ last → later ≡ [] → Split mine last before exchange later
  within : (rest : List Exchange) → mine ≡ before ++ exchange ∷ rest → later ≡ rest ++ last ∷ []
      → Split mine last before exchange later

pub split_end : (mine : List Exchange) (last : Exchange) (before : List Exchange) (exchange : Exchange)
    (later : List Exchange) → mine ++ last ∷ [] ≡ before ++ exchange ∷ later
    → Split mine last before exchange later
split_end [] last [] exchange later is =
    at_end refl (let h : exchange ≡ last = cc in h) (let h : later ≡ [] = cc in h)
split_end [] last (b ∷ []) exchange later is = absurd (let h : [] ≡ exchange ∷ later = cc in cc)
split_end [] last (b ∷ c ∷ before) exchange later is =
    absurd (let h : [] ≡ c ∷ before ++ exchange ∷ later = cc in cc)
split_end (m ∷ mine) last [] exchange later is =
    let head : m ≡ exchange = cc in
    within mine (ap (λ (e : Exchange). e ∷ mine) head) (let h : later ≡ mine ++ last ∷ [] = cc in h)
split_end (m ∷ mine) last (b ∷ before) exchange later is =
    let head : m ≡ b = cc in
    let tail : mine ++ last ∷ [] ≡ before ++ exchange ∷ later = cc in
    by_split head (split_end mine last before exchange later tail)
  where
    by_split : m ≡ b → Split mine last before exchange later → Split (m ∷ mine) last (b ∷ before) exchange later
    by_split head (at_end same is none) =
        at_end (ap (λ (es : List Exchange). b ∷ es) same ∙ ap (λ (e : Exchange). e ∷ mine) (sym head)) is none
    by_split head (within rest same is) =
        within rest (ap (λ (e : Exchange). e ∷ mine) head ∙ ap (λ (es : List Exchange). b ∷ es) same) is

-- what holds at each place of a longer list
pub each_more : (P : List Exchange → Exchange → List Exchange
    → Type 0) (mine : List Exchange) (last : Exchange)
    → Each (λ before exchange later. P before exchange (later ++ last ∷ [])) mine → P mine last []
    → Each P (mine ++ last ∷ [])
each_more P mine last each here before exchange later is =
    by_split (split_end mine last before exchange later is)
  where
    by_split : Split mine last before exchange later → P before exchange later
    by_split (at_end same is none) = rw (same, is, none) here
    by_split (within rest same is) = rw is (each before exchange rest same)

-- ---- places and numbers

pub place_more : (behind : ℕ) (later : List Exchange) (last : Exchange)
    → place_of behind (later ++ last ∷ []) ≡ place_of (place_or last.reply behind) later
place_more behind [] last = refl
place_more behind (exchange ∷ later) last = ap (place_or exchange.reply) (place_more behind later last)

pub not_ended : (reply : Reply) (behind : ℕ) → is_ended reply ≡ false → place_or reply behind ≡ behind
not_ended Began behind is = refl
not_ended (Row key row at) behind is = refl
not_ended (Gone key at) behind is = refl
not_ended (End at) behind is = refl
not_ended Done behind is = refl
not_ended Exists behind is = refl
not_ended Missing behind is = refl
not_ended (Marked mark) behind is = refl
not_ended (Ended place) behind is = cc
not_ended (Wait holder) behind is = refl
not_ended (TimedOut holder holds_range asked on) behind is = refl
not_ended (Victim cycle) behind is = refl
not_ended Memory behind is = refl

pub place_same : (behind : ℕ) (later : List Exchange) (last : Exchange) → is_ended last.reply ≡ false
    → place_of behind (later ++ last ∷ []) ≡ place_of behind later
place_same behind later last is =
    place_more behind later last ∙ ap (λ (n : ℕ). place_of n later) (not_ended last.reply behind is)

-- a transaction is open, or its place is known
pub open_or_not : (later : List Exchange) → NoneEnds later ⊎ ((n m : ℕ) → place_of n later ≡ place_of m later)
open_or_not [] = inl tt
open_or_not (exchange ∷ later) = by_reply exchange.reply refl (open_or_not later)
  where
    both_ways : is_ended exchange.reply ≡ false
        → NoneEnds later ⊎ ((n m : ℕ) → place_of n later ≡ place_of m later)
        → NoneEnds (exchange ∷ later) ⊎ ((n m : ℕ)
        → place_of n (exchange ∷ later) ≡ place_of m (exchange ∷ later))
    both_ways is (inl none) = inl (is, none)
    both_ways is (inr same) = inr (λ n m. ap (place_or exchange.reply) (same n m))

    by_reply : (reply : Reply) → exchange.reply ≡ reply
        → NoneEnds later ⊎ ((n m : ℕ) → place_of n later ≡ place_of m later)
        → NoneEnds (exchange ∷ later) ⊎ ((n m : ℕ)
        → place_of n (exchange ∷ later) ≡ place_of m (exchange ∷ later))
    by_reply (Ended place) is rest = inr (λ n m. rw is refl)
    by_reply Began is rest = both_ways (rw is refl) rest
    by_reply (Row key row at) is rest = both_ways (rw is refl) rest
    by_reply (Gone key at) is rest = both_ways (rw is refl) rest
    by_reply (End at) is rest = both_ways (rw is refl) rest
    by_reply Done is rest = both_ways (rw is refl) rest
    by_reply Exists is rest = both_ways (rw is refl) rest
    by_reply Missing is rest = both_ways (rw is refl) rest
    by_reply (Marked mark) is rest = both_ways (rw is refl) rest
    by_reply (Wait holder) is rest = both_ways (rw is refl) rest
    by_reply (TimedOut holder holds_range asked on) is rest = both_ways (rw is refl) rest
    by_reply (Victim cycle) is rest = both_ways (rw is refl) rest
    by_reply Memory is rest = both_ways (rw is refl) rest

pub open_place : (behind : ℕ) (later : List Exchange) → NoneEnds later → place_of behind later ≡ behind
open_place behind [] none = refl
open_place behind (exchange ∷ later) none =
    ap (place_or exchange.reply) (open_place behind later none.1) ∙ not_ended exchange.reply behind none.0

pub numbers_more : (mine : List Exchange) (last : Exchange)
    → all_numbers (mine ++ last ∷ []) ≡ all_numbers mine ++ numbers_of last.reply
numbers_more mine last = flat_map-append (λ (exchange : Exchange). numbers_of exchange.reply) mine (last ∷ [])
    ∙ ap (λ (ns : List ℕ). all_numbers mine ++ ns) (append-nil (numbers_of last.reply))

-- numbers that rise to a height and then stand there
pub rise_more : (low mid high : ℕ) (numbers more : List ℕ) → NeverFall low numbers mid
    → AllByRecursion (λ number. number ≡ mid) more → mid ≤ high → NeverFall low (numbers ++ more) high
rise_more low mid high [] [] rise all le = omega (arith, rise, le)
rise_more low mid high [] (n ∷ more) rise all le =
    let is : n ≡ mid = all.0 in
    (omega (arith, rise, is), rw is (rise_more mid mid high [] more (omega arith) all.1 le))
rise_more low mid high (n ∷ numbers) more rise all le =
    (rise.0, rise_more n mid high numbers more rise.1 all le)

pub none_above : (low high : ℕ) (numbers : List ℕ) → NeverFall low numbers high
    → (low ≤ high) × AllByRecursion (λ number. number ≤ high) numbers
none_above low high [] rise = (rise, tt)
none_above low high (n ∷ numbers) rise =
    let rest = none_above n high numbers rise.1 in
    (omega (arith, rise.0, rest.0), (rest.0, rest.1))

pub all_behind : {A : Type 0} (P : A → Type 0) (xs ys : List A) → AllByRecursion P (xs ++ ys)
    → AllByRecursion P ys
all_behind P [] ys all = all
all_behind P (x ∷ xs) ys all = all_behind P xs ys all.1

pub all_front : {A : Type 0} (P : A → Type 0) (xs ys : List A) → AllByRecursion P (xs ++ ys)
    → AllByRecursion P xs
all_front P [] ys all = tt
all_front P (x ∷ xs) ys all = (all.0, all_front P xs ys all.1)

pub all_both : {A : Type 0} (P : A → Type 0) (xs ys : List A) → AllByRecursion P xs → AllByRecursion P ys
    → AllByRecursion P (xs ++ ys)
all_both P [] ys all more = more
all_both P (x ∷ xs) ys all more = (all.0, all_both P xs ys all.1 more)

-- the places of what is left are not above the numbers' height
pub place_below : (high behind : ℕ) (later : List Exchange) → behind ≤ high
    → AllByRecursion (λ number. number ≤ high) (all_numbers later) → place_of behind later ≤ high
place_below high behind [] le all = le
place_below high behind (exchange ∷ later) le all =
    by_reply exchange.reply refl
    (place_below high behind later le
    (all_behind (λ number. number ≤ high) (numbers_of exchange.reply) (all_numbers later) all))
  where
    by_reply : (reply : Reply) → exchange.reply ≡ reply → place_of behind later ≤ high
        → place_or exchange.reply (place_of behind later) ≤ high
    by_reply (Ended place) is rest =
        let numbers : numbers_of exchange.reply ≡ place ∷ [] = rw is refl in
        rw is (subst (λ (ns : List ℕ). AllByRecursion (λ number. number ≤ high) (ns ++ all_numbers later))
        numbers all).0
    by_reply Began is rest = rw is rest
    by_reply (Row key row at) is rest = rw is rest
    by_reply (Gone key at) is rest = rw is rest
    by_reply (End at) is rest = rw is rest
    by_reply Done is rest = rw is rest
    by_reply Exists is rest = rw is rest
    by_reply Missing is rest = rw is rest
    by_reply (Marked mark) is rest = rw is rest
    by_reply (Wait holder) is rest = rw is rest
    by_reply (TimedOut holder holds_range asked on) is rest = rw is rest
    by_reply (Victim cycle) is rest = rw is rest
    by_reply Memory is rest = rw is rest

-- ---- progress

pub progress_more : (so_far : Progress) (mine : List Exchange) (last : Exchange)
    → progress_from so_far (mine ++ last ∷ []) ≡ progress_after (progress_from so_far mine) last.op last.reply
progress_more so_far [] last = refl
progress_more so_far (exchange ∷ mine) last =
    progress_more (progress_after so_far exchange.op exchange.reply) mine last

pub commits_more : (so_far : Progress) (mine : List Exchange) (last : Exchange)
    → commits_from so_far (mine ++ last ∷ [])
    ≡ commits_from so_far mine ++ committed_by last.op last.reply (progress_from so_far mine)
commits_more so_far [] last = append-nil (committed_by last.op last.reply so_far)
commits_more so_far (exchange ∷ mine) last =
    ap (λ (cs : List (List Change)). committed_by exchange.op exchange.reply so_far ++ cs)
    (commits_more (progress_after so_far exchange.op exchange.reply) mine last)
    ∙ sym (append_assoc (committed_by exchange.op exchange.reply so_far)
    (commits_from (progress_after so_far exchange.op exchange.reply) mine)
    (committed_by last.op last.reply
    (progress_from (progress_after so_far exchange.op exchange.reply) mine)))

-- ---- along a list, from its front

pub each_first : (P : List Exchange → Exchange → List Exchange
    → Type 0) (first : Exchange) (rest : List Exchange) → Each P (first ∷ rest) → P [] first rest
each_first P first rest each = each [] first rest refl

pub each_rest : (P : List Exchange → Exchange → List Exchange
    → Type 0) (first : Exchange) (rest : List Exchange) → Each P (first ∷ rest)
    → Each (λ before. P (first ∷ before)) rest
each_rest P first rest each before exchange later split =
    each (first ∷ before) exchange later (ap (λ (es : List Exchange). first ∷ es) split)

pub each_both : (P : List Exchange → Exchange → List Exchange
    → Type 0) (first : Exchange) (rest : List Exchange) → P [] first rest
    → Each (λ before. P (first ∷ before)) rest → Each P (first ∷ rest)
each_both P first rest here each [] exchange later split =
    let head : first ≡ exchange = cc in
    let tail : rest ≡ later = cc in
    rw (← head, ← tail) here
each_both P first rest here each (b ∷ before) exchange later split =
    let head : first ≡ b = cc in
    let tail : rest ≡ before ++ exchange ∷ later = cc in
    subst (λ (e : Exchange). P (e ∷ before) exchange later) head (each before exchange later tail)
