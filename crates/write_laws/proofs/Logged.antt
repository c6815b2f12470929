-- Each commit in the log is one among the exchanges of its session: these have as many commits, each at a place of its own.
use Rattle.std.proofs.Common.{◌≡◌, ◌⊎◌, inl, inr, ℕ, zero, suc, ◌+◌, ◌-◌, ◌<◌, ◌≤◌, ◌==◌, Bool, true, false, cond, List, [], ◌∷◌, ◌++◌, length, filter, drop, slice_get, Option, None, Some, refl, sym, ap, subst, ◌∙◌, append_assoc, arith, eq-eqb}
use Rattle.std.specs.List.{AllByRecursion}
use Rattle.std.proofs.lemmas.List.{length-map, length-append}
use Rattle.step_model.specs.declared.change.Change.{Change}
use Rattle.step_model.specs.declared.op.Op.{Op}
use Rattle.step_model.specs.declared.op.Op.TheVariants as ops
use Rattle.step_model.specs.declared.reply.Reply.{Reply}
use Rattle.step_model.specs.declared.reply.Reply.TheVariants as replies
use Rattle.step_model.specs.Exchange.{Exchange}
use Rattle.step_model.specs.Fits.{Fits, IsLoggedAt, NeverFall, all_numbers, commit_of, commits_from, committed_by, numbers_of}
use Rattle.step_model.specs.Log.{Commit as Logged}
use Rattle.step_model.specs.Net.{Net}
use Rattle.step_model.specs.Own.{Progress, none_open, progress_after, progress_of}
use Rattle.constraint_check.proofs.Lists.{all_more}
use Rattle.history_laws.proofs.Splits.{all_behind, progress_more}
use Rattle.write_laws.specs.Reading.{HasCommit, LoggedCommits}

-- ---- places in a list, by the gaps between them

module _ (session : ℕ) where
  abbrev is_ours : Logged → Bool
  is_ours commit = commit.session == session

  abbrev count : List Logged → ℕ
  count log = length (filter is_ours log)

  -- at each of these places stands a commit of the session
  abbrev Gaps : List Logged → List ℕ → Type 0
  Gaps log [] = Unit {0}
  Gaps [] (gap ∷ gaps) = ⊥
  Gaps (commit ∷ log) (zero ∷ gaps) = (is_ours commit ≡ true) × Gaps log gaps
  Gaps (commit ∷ log) (suc gap ∷ gaps) = Gaps log (gap ∷ gaps)

  more_count : (commit : Logged) (log : List Logged) → count log ≤ count (commit ∷ log)
  more_count commit log = by_test (is_ours commit)
    where
      by_test : (b : Bool) → count log ≤ length (cond b (commit ∷ filter is_ours log) (filter is_ours log))
      by_test true = omega arith
      by_test false = omega arith

  ours_count : (commit : Logged) (log : List Logged) → is_ours commit ≡ true → count (commit ∷ log) ≡ suc (count log)
  ours_count commit log is = ap (λ (b : Bool). length (cond b (commit ∷ filter is_ours log) (filter is_ours log))) is

  others_count : (commit : Logged) (log : List Logged) → is_ours commit ≡ false → count (commit ∷ log) ≡ count log
  others_count commit log is = ap (λ (b : Bool). length (cond b (commit ∷ filter is_ours log) (filter is_ours log))) is

  counted : (log : List Logged) (gaps : List ℕ) → Gaps log gaps → length gaps ≤ count log
  counted log [] at = omega arith
  counted [] (gap ∷ gaps) at = absurd at
  counted (commit ∷ log) (zero ∷ gaps) at = let rest = counted log gaps at.1 in let more = ours_count commit log at.0 in omega (arith, rest, more)
  counted (commit ∷ log) (suc gap ∷ gaps) at = let rest : suc (length gaps) ≤ count log = counted log (gap ∷ gaps) at in let more = more_count commit log in omega (arith, rest, more)

  -- a place is one of them
  abbrev At : ℕ → List ℕ → Type 0
  At place [] = ⊥
  At place (gap ∷ gaps) = (place ≡ gap) ⊎ ((behind : ℕ) × (place ≡ suc gap + behind) × At behind gaps)

  -- where there are as many, each commit of the session stands at one of them
  found : (log : List Logged) (gaps : List ℕ) → Gaps log gaps → count log ≡ length gaps → (place : ℕ) (commit : Logged) → slice_get log place ≡ Some commit → is_ours commit ≡ true → At place gaps
  found [] gaps at same place commit is ours = absurd (let no : None ≡ Some commit = is in cc)
  found (first ∷ log) [] at same zero commit is ours = let here : first ≡ commit = cc in let more = ours_count first log (ap is_ours here ∙ ours) in let none : count (first ∷ log) ≡ 0 = same in absurd (omega (arith, none, more))
  found (first ∷ log) [] at same (suc place) commit is ours = let more = more_count first log in let none : count (first ∷ log) ≡ 0 = same in found log [] tt (omega (arith, none, more)) place commit is ours
  found (first ∷ log) (zero ∷ gaps) at same zero commit is ours = inl refl
  found (first ∷ log) (zero ∷ gaps) at same (suc place) commit is ours =
      let more = ours_count first log at.0 in let all : count (first ∷ log) ≡ suc (length gaps) = same in
      inr (place, omega arith, found log gaps at.1 (omega (arith, more, all)) place commit is ours)
  found (first ∷ log) (suc gap ∷ gaps) at same place commit is ours = by_first (is_ours first) refl place is (λ same place is. found log (gap ∷ gaps) at same place commit is ours)
    where
      further : (place : ℕ) → At place (gap ∷ gaps) → At (suc place) (suc gap ∷ gaps)
      further place (inl here) = inl (ap suc here)
      further place (inr (behind, here, rest)) = inr (behind, (let h : place ≡ suc gap + behind = here in omega (arith, h)), rest)

      by_first : (b : Bool) → is_ours first ≡ b → (place : ℕ) → slice_get (first ∷ log) place ≡ Some commit → (count log ≡ length (gap ∷ gaps) → (place : ℕ) → slice_get log place ≡ Some commit → At place (gap ∷ gaps)) → At place (suc gap ∷ gaps)
      by_first true first_is place is rest =
          let low : suc (length gaps) ≤ count log = counted log (gap ∷ gaps) at in let more = ours_count first log first_is in let all : count (first ∷ log) ≡ suc (length gaps) = same in absurd (omega (arith, low, more, all))
      by_first false first_is zero is rest = let here : first ≡ commit = cc in absurd (let no : false ≡ true = sym first_is ∙ ap is_ours here ∙ ours in cc)
      by_first false first_is (suc place) is rest = further place (rest (sym (others_count first log first_is) ∙ same) place is)

  -- ---- places from a low one on

  -- each place has a commit of the session, and is above those before it
  abbrev Placed : List Logged → ℕ → List ℕ → Type 0
  Placed log low [] = Unit {0}
  Placed log low (place ∷ places) = (low ≤ place) × ((commit : Logged) × (slice_get log place ≡ Some commit) × (is_ours commit ≡ true)) × Placed log (suc place) places

  abbrev gaps_of : ℕ → List ℕ → List ℕ
  gaps_of low [] = []
  gaps_of low (place ∷ places) = (place - low) ∷ gaps_of (suc place) places

  long_gaps : (low : ℕ) (places : List ℕ) → length (gaps_of low places) ≡ length places
  long_gaps low [] = refl
  long_gaps low (place ∷ places) = ap suc (long_gaps (suc place) places)

  -- a gap of a list and the gaps behind it
  gap_one : (log : List Logged) (gap : ℕ) (gaps : List ℕ) (commit : Logged) → slice_get log gap ≡ Some commit → is_ours commit ≡ true → Gaps (drop (suc gap) log) gaps → Gaps log (gap ∷ gaps)
  gap_one [] gap gaps commit is ours rest = absurd (let no : None ≡ Some commit = is in cc)
  gap_one (first ∷ log) zero gaps commit is ours rest = let here : first ≡ commit = cc in (ap is_ours here ∙ ours, rest)
  gap_one (first ∷ log) (suc gap) gaps commit is ours rest = gap_one log gap gaps commit is ours rest

  get_drop : (log : List Logged) (low place : ℕ) → low ≤ place → slice_get (drop low log) (place - low) ≡ slice_get log place
  get_drop [] zero place le = refl
  get_drop [] (suc low) place le = refl
  get_drop (first ∷ log) zero place le = let same : place - 0 ≡ place = omega arith in ap (slice_get (first ∷ log)) same
  get_drop (first ∷ log) (suc low) zero le = absurd (omega (arith, le))
  get_drop (first ∷ log) (suc low) (suc place) le =
      let same : suc place - suc low ≡ place - low = omega arith in ap (slice_get (drop low log)) same ∙ get_drop log low place (omega (arith, le))

  drop_drop : (log : List Logged) (low more : ℕ) → drop more (drop low log) ≡ drop (low + more) log
  drop_drop log zero more = let same : more ≡ 0 + more = omega arith in ap (λ (n : ℕ). drop n log) same
  drop_drop [] (suc low) zero = let same : suc low + 0 ≡ suc low = omega arith in sym (ap (λ (n : ℕ). drop n []) same)
  drop_drop [] (suc low) (suc more) = let same : suc low + suc more ≡ suc (low + suc more) = omega arith in sym (ap (λ (n : ℕ). drop n []) same)
  drop_drop (first ∷ log) (suc low) more = let same : suc low + more ≡ suc (low + more) = omega arith in drop_drop log low more ∙ sym (ap (λ (n : ℕ). drop n (first ∷ log)) same)

  placed_gaps : (log : List Logged) (low : ℕ) (places : List ℕ) → Placed log low places → Gaps (drop low log) (gaps_of low places)
  placed_gaps log low [] at = tt
  placed_gaps log low (place ∷ places) at =
      let le : low ≤ place = at.0 in
      let next : low + suc (place - low) ≡ suc place = omega (arith, le) in
      gap_one (drop low log) (place - low) (gaps_of (suc place) places) at.1.0 (get_drop log low place at.0 ∙ at.1.1) at.1.2
      (subst (λ (l : List Logged). Gaps l (gaps_of (suc place) places)) (sym (drop_drop log low (suc (place - low)) ∙ ap (λ (n : ℕ). drop n log) next)) (placed_gaps log (suc place) places at.2))

  abbrev IsOne : ℕ → List ℕ → Type 0
  IsOne place [] = ⊥
  IsOne place (first ∷ places) = (place ≡ first) ⊎ IsOne place places

  at_one : (log : List Logged) (low : ℕ) (places : List ℕ) → Placed log low places → (place : ℕ) → low ≤ place → At (place - low) (gaps_of low places) → IsOne place places
  at_one log low [] at place le one = one
  at_one log low (first ∷ places) at place le (inl here) = let h : place - low ≡ first - low = here in let under : low ≤ first = at.0 in inl (omega (arith, h, le, under))
  at_one log low (first ∷ places) at place le (inr (behind, here, rest)) =
      let h : place - low ≡ suc (first - low) + behind = here in let under : low ≤ first = at.0 in
      let past : suc first ≤ place = omega (arith, h, le, under) in
      let gap : behind ≡ place - suc first = omega (arith, h, le, under) in
      inr (at_one log (suc first) places at.2 place past (subst (λ (n : ℕ). At n (gaps_of (suc first) places)) gap rest))

  -- as many places as commits: each commit of the session is at one of them
  pub one_of : (log : List Logged) (low : ℕ) (places : List ℕ) → Placed log low places → count (drop low log) ≡ length places → (place : ℕ) (commit : Logged) → low ≤ place → slice_get log place ≡ Some commit → is_ours commit ≡ true → IsOne place places
  one_of log low places at same place commit le is ours =
      at_one log low places at place le (found (drop low log) (gaps_of low places) (placed_gaps log low places at) (same ∙ sym (long_gaps low places)) (place - low) commit (get_drop log low place le ∙ is) ours)

-- ---- the places of a session's commits

-- the place of an exchange that commits something
abbrev places_by : List (List Change) → Reply → List ℕ
places_by [] reply = []
places_by (changes ∷ others) (replies.Ended place) = place ∷ []
places_by (changes ∷ others) reply = []

abbrev places_from : Progress → List Exchange → List ℕ
places_from so_far [] = []
places_from so_far (x ∷ later) = places_by (committed_by x.op x.reply so_far) x.reply ++ places_from (progress_after so_far x.op x.reply) later

one_place : (op : Op) (reply : Reply) (so_far : Progress) → length (places_by (committed_by op reply so_far) reply) ≡ length (committed_by op reply so_far)
one_place ops.Commit (replies.Ended place) so_far = by_net (Net so_far.own)
  where
    by_net : (changes : List Change) → length (places_by (commit_of changes) (replies.Ended place)) ≡ length (commit_of changes)
    by_net [] = refl
    by_net (c ∷ changes) = refl
one_place op reply so_far = refl

-- they are as many as the commits
as_many : (mine : List Exchange) (so_far : Progress) → length (places_from so_far mine) ≡ length (commits_from so_far mine)
as_many [] so_far = refl
as_many (x ∷ mine) so_far =
    let here = one_place x.op x.reply so_far in
    let rest = as_many mine (progress_after so_far x.op x.reply) in
    length-append (places_by (committed_by x.op x.reply so_far) x.reply) (places_from (progress_after so_far x.op x.reply) mine)
    ∙ (λ i. here i + rest i) ∙ sym (length-append (committed_by x.op x.reply so_far) (commits_from (progress_after so_far x.op x.reply) mine))

-- numbers that never fall are not below the first
all_above : (low high : ℕ) (numbers : List ℕ) → NeverFall low numbers high → AllByRecursion (λ number. low ≤ number) numbers
all_above low high [] rise = tt
all_above low high (n ∷ numbers) rise = (rise.0, all_more (λ m. n ≤ m) (λ m. low ≤ m) (λ m le. let under : low ≤ n = rise.0 in omega (arith, under, le)) numbers (all_above n high numbers rise.1))

abbrev changes_or : Option Logged → List Change
changes_or None = []
changes_or (Some commit) = commit.changes

same_changes : (a b : Logged) → Some a ≡ Some b → a.changes ≡ b.changes
same_changes a b is = ap changes_or is

module _ (session : ℕ) (begin log : List Logged) (mine : List Exchange) (fits : Fits session begin log mine) where
  abbrev Above : ℕ → List Exchange → Type 0
  Above low later = AllByRecursion (λ number. low ≤ number) (all_numbers later)

  placed : (later front : List Exchange) (so_far : Progress) (low : ℕ) → mine ≡ front ++ later → progress_of front ≡ so_far → Above low later → Placed session log low (places_from so_far later)
  placed [] front so_far low is same above = tt
  placed (x ∷ later) front so_far low is same above =
      by_commit (committed_by x.op x.reply so_far) x.reply (subst (λ (p : Progress). IsLoggedAt session log (committed_by x.op x.reply p) x.reply later) same (fits.commits.0 front x later is)) above
      (λ low above. placed later (front ++ x ∷ []) (progress_after so_far x.op x.reply) low (is ∙ sym (append_assoc front (x ∷ []) later)) (progress_more none_open front x ∙ ap (λ (p : Progress). progress_after p x.op x.reply) same) above)
    where
      next : List ℕ
      next = places_from (progress_after so_far x.op x.reply) later

      by_commit : (commits : List (List Change)) (reply : Reply) → IsLoggedAt session log commits reply later → AllByRecursion (λ number. low ≤ number) (numbers_of reply ++ all_numbers later)
          → ((low : ℕ) → Above low later → Placed session log low next) → Placed session log low (places_by commits reply ++ next)
      by_commit [] reply logged above rest = rest low (all_behind (λ number. low ≤ number) (numbers_of reply) (all_numbers later) above)
      by_commit (c ∷ others) (replies.Ended place) logged above rest =
          (above.0, (record { session = session; changes = c }, logged.0, eq-eqb session session refl), rest (suc place) (all_more (λ number. place < number) (λ number. suc place ≤ number) (λ number lt. omega (arith, lt)) (all_numbers later) logged.1))
      by_commit (c ∷ others) reply logged above rest = rest low (all_behind (λ number. low ≤ number) (numbers_of reply) (all_numbers later) above)

  module _ (place : ℕ) (changes : List Change) (there : slice_get log place ≡ Some (record { session = session; changes = changes })) where
    -- the exchange at one of these places
    member : (later front : List Exchange) (so_far : Progress) → mine ≡ front ++ later → progress_of front ≡ so_far → IsOne session place (places_from so_far later) → HasCommit mine place changes
    member [] front so_far is same one = absurd one
    member (x ∷ later) front so_far is same one =
        by_op x.op x.reply refl refl (subst (λ (p : Progress). IsLoggedAt session log (committed_by x.op x.reply p) x.reply later) same (fits.commits.0 front x later is)) one
        (λ one. member later (front ++ x ∷ []) (progress_after so_far x.op x.reply) (is ∙ sym (append_assoc front (x ∷ []) later)) (progress_more none_open front x ∙ ap (λ (p : Progress). progress_after p x.op x.reply) same) one)
      where
        by_op : (op : Op) (reply : Reply) → x.op ≡ op → x.reply ≡ reply → IsLoggedAt session log (committed_by op reply so_far) reply later → IsOne session place (places_by (committed_by op reply so_far) reply ++ places_from (progress_after so_far op reply) later)
            → (IsOne session place (places_from (progress_after so_far op reply) later) → HasCommit mine place changes) → HasCommit mine place changes
        by_op ops.Commit (replies.Ended other) commits ended logged one rest = by_net (Net so_far.own) refl logged one
          where
            by_net : (net : List Change) → Net so_far.own ≡ net → IsLoggedAt session log (commit_of net) (replies.Ended other) later → IsOne session place (places_by (commit_of net) (replies.Ended other) ++ places_from none_open later) → HasCommit mine place changes
            by_net [] made logged one = rest one
            by_net (c ∷ net) made logged (inr one) = rest one
            by_net (c ∷ net) made logged (inl here) =
                let is_same : c ∷ net ≡ changes = same_changes (record { session = session; changes = c ∷ net }) (record { session = session; changes = changes }) (sym logged.0 ∙ ap (slice_get log) (sym here) ∙ there) in
                record {
                  before = front;
                  commit = x;
                  later = later;
                  split = is;
                  commits = commits;
                  ended = ended ∙ ap (λ (n : ℕ). replies.Ended n) (sym here);
                  net = ap (λ (p : Progress). Net p.own) same ∙ made ∙ is_same;
                  some = subst (λ (cs : List Change). commit_of cs ≡ cs ∷ []) is_same refl;
                }
        by_op op reply commits ended logged one rest = rest one

    has_commit : length begin ≤ place → HasCommit mine place changes
    has_commit le =
        member mine [] none_open refl refl
        (one_of session log (length begin) (places_from none_open mine) (placed mine [] none_open (length begin) refl refl (all_above (length begin) (length log) (all_numbers mine) fits.numbers))
        (sym (length-map (filter (λ commit. commit.session == session) (drop (length begin) log)) (λ commit. commit.changes)) ∙ ap length fits.commits.1 ∙ sym (as_many mine none_open))
        place (record { session = session; changes = changes }) le there (eq-eqb session session refl))

pub logged_commits : LoggedCommits
logged_commits session begin log mine place changes fits le there = has_commit session begin log mine fits place changes there le
