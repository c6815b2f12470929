-- What is noted of two texts that have the same lexemes, where the one has no more open than the other.
use Rattle.std.specs.Prelude.{◌≡◌, ℕ, ◌+◌, ◌-◌, ◌≤◌, nat_lt, Bool, true, false, not, ◌&&◌, [], Option, Some, None, if◌then◌else◌, refl}
use Rattle.std.proofs.Common.{ap, sym, ◌∙◌, subst, arith}
use Rattle.std.proofs.lemmas.Bool.Decides.{nat_tests}
use Rattle.tsql_grammar.specs.declared.noted.TextFault.{TextFault}
use Rattle.tsql_grammar.specs.declared.noted.TextFault.TheVariants.{TooDeep, NotDeclared}
use Rattle.tsql_grammar.specs.declared.rule.Mark.{Mark}
use Rattle.tsql_grammar.specs.declared.rule.Mark.TheVariants.{Enter, Leave, Uses, Declares}
use Rattle.tsql_grammar.specs.Noted.{Noted, max_depth, has_name, see, blame, note_sound, note_where, note}
use Rattle.tsql_grammar.specs.Terminals.{Terminal}
use Rattle.text_laws.proofs.Calm.{calm_mark, not_so}

-- No more is open, and nothing is wrong.
pub record Follows (s s' : Noted) : Type 0 where
  pub depth : s'.depth ≤ s.depth
  pub sound : s'.fault ≡ None

-- the same where nothing is wrong with the first
abbrev pub Goes : Noted → Noted → Type 0
Goes s s' = s.fault ≡ None → Follows s s'

pub goes_see : (s s' : Noted) (l l' : Terminal) → Goes s s' → Goes (see s l) (see s' l')
goes_see s s' l l' g sound = let f = g sound in record { depth = f.depth; sound = f.sound }

-- a mark that neither uses nor declares a variable
abbrev pub nests : Mark → Bool
nests Enter = true
nests Leave = true
nests Uses = false
nests Declares = false

some_none : (x : TextFault × ℕ) (o : Option (TextFault × ℕ)) → o ≡ Some x → o ≡ None → ⊥
some_none x o e n = cc

-- a choice that was made
chosen : {A : Type 0} (b : Bool) (x y : A) → b ≡ true → (if b then x else y) ≡ x
chosen b x y e = rw e refl

-- a fault that is not there was not found
not_found : (b : Bool) (s : Noted) (y : Noted) (fault : TextFault) → (if b then blame s fault else y).fault ≡ None → b ≡ false
not_found true s y fault e = absurd (some_none (fault, s.place - 1) (Some (fault, s.place - 1)) refl e)
not_found false s y fault e = refl

found_not : (b : Bool) (s : Noted) (y : Noted) (fault : TextFault) → (if b then y else blame s fault).fault ≡ None → b ≡ true
found_not true s y fault e = refl
found_not false s y fault e = absurd (some_none (fault, s.place - 1) (Some (fault, s.place - 1)) refl e)

room : (a b : ℕ) → a ≤ b → nat_lt b max_depth ≡ true → nat_lt a max_depth ≡ true
room a b le e = grind (arith, nat_tests)

follows_sound : (s s' : Noted) (m : Mark) → nests m ≡ true → Follows s s' → (note_sound s m).fault ≡ None → Follows (note_sound s m) (note_sound s' m)
follows_sound s s' Enter ok f e =
    let shallow : nat_lt s.depth max_depth ≡ true = found_not (nat_lt s.depth max_depth) s (record s { depth = s.depth + 1 }) TooDeep e in
    subst (λ (x : Noted). Follows x (note_sound s' Enter)) (sym (chosen (nat_lt s.depth max_depth) (record s { depth = s.depth + 1 }) (blame s TooDeep) shallow))
    (subst (Follows (record s { depth = s.depth + 1 })) (sym (chosen (nat_lt s'.depth max_depth) (record s' { depth = s'.depth + 1 }) (blame s' TooDeep) (room s'.depth s.depth f.depth shallow)))
    (record { depth = omega (arith, f.depth); sound = f.sound }))
follows_sound s s' Leave ok f e = record { depth = omega (arith, f.depth); sound = f.sound }
follows_sound s s' Uses ok f e = absurd (not_so ok)
follows_sound s s' Declares ok f e = absurd (not_so ok)

note_at : (s : Noted) (m : Mark) (o : Option (TextFault × ℕ)) → s.fault ≡ o → note s m ≡ note_where o s m
note_at s m o e = ap (λ (x : Option (TextFault × ℕ)). note_where x s m) e

pub goes_note : (s s' : Noted) (m : Mark) → nests m ≡ true → Goes s s' → Goes (note s m) (note s' m)
goes_note s s' m ok g sound = by s.fault refl
  where
    by : (o : Option (TextFault × ℕ)) → s.fault ≡ o → Follows (note s m) (note s' m)
    by (Some x) is = absurd (some_none x s.fault is (ap (λ (z : Noted). z.fault) (sym (note_at s m (Some x) is)) ∙ sound))
    by None is =
        let f = g is in
        subst (λ (x : Noted). Follows x (note s' m)) (sym (note_at s m None is)) (subst (Follows (note_sound s m)) (sym (note_at s' m None f.sound))
        (follows_sound s s' m ok f (ap (λ (z : Noted). z.fault) (sym (note_at s m None is)) ∙ sound)))

-- a fault stays
pub note_fault : (s : Noted) (m : Mark) → (note s m).fault ≡ None → s.fault ≡ None
note_fault s m sound = by s.fault refl
  where
    by : (o : Option (TextFault × ℕ)) → s.fault ≡ o → s.fault ≡ None
    by (Some x) is = absurd (some_none x s.fault is (ap (λ (z : Noted). z.fault) (sym (note_at s m (Some x) is)) ∙ sound))
    by None is = is

-- ---- where no variable is declared

-- variables are judged, and none is known
pub record Clear (s : Noted) : Type 0 where
  pub judges : s.judges ≡ true
  pub none : s.declared ≡ []

pub clear_see : (s : Noted) (l : Terminal) → Clear s → Clear (see s l)
clear_see s l c = record { judges = c.judges; none = c.none }

clear_if : (b : Bool) (x y : Noted) → Clear x → Clear y → Clear (if b then x else y)
clear_if true x y c d = c
clear_if false x y c d = d

clear_blamed : (s : Noted) (fault : TextFault) → Clear s → Clear (blame s fault)
clear_blamed s fault c = record { judges = c.judges; none = c.none }

clear_sound : (s : Noted) (m : Mark) → calm_mark m ≡ true → Clear s → Clear (note_sound s m)
clear_sound s Enter e c = clear_if (nat_lt s.depth max_depth) (record s { depth = s.depth + 1 }) (blame s TooDeep) (record { judges = c.judges; none = c.none }) (clear_blamed s TooDeep c)
clear_sound s Leave e c = record { judges = c.judges; none = c.none }
clear_sound s Uses e c = clear_if (s.judges && not (has_name s.declared s.last)) (blame s NotDeclared) s (clear_blamed s NotDeclared c) c
clear_sound s Declares e c = absurd (not_so e)

pub clear_note : (s : Noted) (m : Mark) → calm_mark m ≡ true → Clear s → Clear (note s m)
clear_note s m e c = by s.fault refl
  where
    by : (o : Option (TextFault × ℕ)) → s.fault ≡ o → Clear (note s m)
    by (Some x) is = subst Clear (sym (note_at s m (Some x) is)) c
    by None is = subst Clear (sym (note_at s m None is)) (clear_sound s m e c)

-- where none is known each use is at fault
pub uses_fault : (s : Noted) → Clear s → (note s Uses).fault ≡ None → ⊥
uses_fault s c sound =
    let fine : s.fault ≡ None = note_fault s Uses sound in
    let known : (s.judges && not (has_name s.declared s.last)) ≡ false = not_found (s.judges && not (has_name s.declared s.last)) s s NotDeclared (ap (λ (z : Noted). z.fault) (sym (note_at s Uses None fine)) ∙ sound) in
    let blamed : (s.judges && not (has_name s.declared s.last)) ≡ true = (λ i. c.judges i && not (has_name (c.none i) s.last)) in
    not_so (sym known ∙ blamed)
