-- Joining by twos, and its rounds, as loops go over them.
use Rattle.std.proofs.Common.{◌≡◌, ℕ, zero, suc, ◌+◌, ◌-◌, ◌<◌, ◌≤◌, List, [], ◌∷◌, ◌++◌, length, Option, Some, None, Ok, refl, append_assoc, append-nil, arith, ap, sym, ◌∙◌, map-id}
use Rattle.std.specs.declared.alloc.Global.{Global}
use Rattle.std.specs.declared.vec.IntoIter.{IntoIter}
use Rattle.std.proofs.lemmas.List.{nil_from_length}
use Rattle.std.proofs.lemmas.Iterator.Adapters.{YieldsList-from_vec}
use Rattle.std.proofs.lemmas.Iterator.Consumers.{YieldsList-end}
use Rattle.std.specs.Iterator.{Yields}
use Rattle.std.specs.Vec.Iter.{into_iter_items, into_iter_len, into_iter_steps}
use Rattle.typed_nodes.specs.Refusals.{Gives}
use Rattle.typed_nodes.specs.declared.test.TypedTest.{TypedTest}
use Rattle.typed_nodes.specs.declared.test.Junction.{Junction}
use Rattle.typed_nodes.specs.Tests.{all_joined, joined_rounds, joined_test, joined_twos}

-- ---- neighbors

-- the test that waits for its neighbor
abbrev pub held : Option TypedTest → List TypedTest
held None = []
held (Some a) = a ∷ []

-- of these tests so many are joined, and one may wait
pub record IsJoined (by : Junction) (tests done : List TypedTest) (waiting : Option TypedTest) : Type 0 where
  pub whole : (rest : List TypedTest) → joined_twos by (tests ++ rest) ≡ done ++ joined_twos by (held waiting ++ rest)

pub one_waits : (by : Junction) (tests done : List TypedTest) (waiting : Option TypedTest) (x : TypedTest)
    → IsJoined by tests done waiting → waiting ≡ None → IsJoined by (tests ++ x ∷ []) done (Some x)
one_waits by tests done None x is none = record { whole = λ rest. rw append_assoc (is.whole (x ∷ rest)) }
one_waits by tests done (Some a) x is none = absurd (cc none)

pub pair_joined : (by : Junction) (tests done : List TypedTest) (waiting : Option TypedTest) (a x both : TypedTest)
    → IsJoined by tests done waiting → waiting ≡ Some a → Gives (Ok both) (Ok (joined_test by a x))
    → IsJoined by (tests ++ x ∷ []) (done ++ both ∷ []) None
pair_joined by tests done waiting a x both is some gives =
    let one : IsJoined by tests done (Some a) = rw some at is in
    let same : both ≡ joined_test by a x = cc gives in
    rw same (record { whole = λ rest. rw (append_assoc tests (x ∷ []) rest, append_assoc done (joined_test by a x ∷ []) (joined_twos by rest)) (one.whole (x ∷ rest)) })

pub all_in_pairs : (by : Junction) (tests done : List TypedTest) (waiting : Option TypedTest)
    → IsJoined by tests done waiting → waiting ≡ None → joined_twos by tests ≡ done
all_in_pairs by tests done waiting is none =
    let one : IsJoined by tests done None = rw none at is in
    let end : joined_twos by (tests ++ []) ≡ done ++ [] = one.whole [] in
    rw (append-nil tests, append-nil done) at end

pub one_left : (by : Junction) (tests done : List TypedTest) (waiting : Option TypedTest) (a : TypedTest)
    → IsJoined by tests done waiting → waiting ≡ Some a → joined_twos by tests ≡ done ++ a ∷ []
one_left by tests done waiting a is some =
    let one : IsJoined by tests done (Some a) = rw some at is in
    let end : joined_twos by (tests ++ []) ≡ done ++ a ∷ [] = one.whole [] in
    rw (append-nil tests) at end

-- ---- what is still to come

pub nothing_to_come : (tests : IntoIter TypedTest Global) → into_iter_len tests ≡ 0 → into_iter_items tests ≡ []
nothing_to_come tests none = nil_from_length tests.rest.items (sym tests.rest.ok.0 ∙ none)

-- a loop over what is still to come has it all at its end
pub all_yielded : (given tests left last : IntoIter TypedTest Global) (yielded : List TypedTest) (next : Option TypedTest)
    → given ≡ tests → Yields into_iter_steps given yielded left → next ≡ None → into_iter_steps left next last
    → yielded ≡ into_iter_items tests
all_yielded given tests left last yielded next same over none ends =
    let all = YieldsList-end (YieldsList-from_vec {s = given} (into_iter_items tests) (ap into_iter_items same) (ap into_iter_len same ∙ tests.rest.ok.0))
    yielded left over next last none ends in
    rw map-id at all.0

-- ---- rounds

-- after so many of these rounds, the rest of them lead to this test
pub record Leads (by : Junction) (round rounds : ℕ) (first : TypedTest) (rest : List TypedTest) (whole : TypedTest) : Type 0 where
  pub same : joined_rounds by (rounds - round) first rest ≡ whole

pub first_round : (by : Junction) (rounds : ℕ) (first : TypedTest) (rest : List TypedTest)
    → rounds ≡ length rest → Leads by 0 rounds first rest (all_joined by first rest)
first_round by rounds first rest all =
    let left : rounds - 0 ≡ length rest = omega arith in
    record { same = rw left refl }

one_alone : (by : Junction) (rounds : ℕ) (first : TypedTest) → joined_rounds by rounds first [] ≡ first
one_alone by zero first = refl
one_alone by (suc rounds) first = refl

pub ends : (by : Junction) (round rounds : ℕ) (first : TypedTest) (rest : List TypedTest) (whole : TypedTest)
    → Leads by round rounds first rest whole → rest ≡ [] → whole ≡ first
ends by round rounds first rest whole is none =
    let one : Leads by round rounds first [] whole = rw none at is in
    sym one.same ∙ one_alone by (rounds - round) first

pub last_round : (by : Junction) (round rounds : ℕ) (first : TypedTest) (rest : List TypedTest) (whole : TypedTest)
    → Leads by round rounds first rest whole → rounds ≤ round → whole ≡ first
last_round by round rounds first rest whole is over =
    let none_left : rounds - round ≡ 0 = omega arith in
    sym (rw none_left at is.same)

pub next_round : (by : Junction) (round rounds : ℕ) (first second joined : TypedTest) (tests rest twos : List TypedTest) (whole : TypedTest)
    → Leads by round rounds first tests whole → round < rounds → tests ≡ second ∷ rest
    → Gives (Ok joined) (Ok (joined_test by first second)) → Gives (Ok twos) (Ok (joined_twos by rest))
    → Leads by (round + 1) rounds joined twos whole
next_round by round rounds first second joined tests rest twos whole is below all one two =
    let here : Leads by round rounds first (second ∷ rest) whole = rw all at is in
    let left : rounds - round ≡ suc (rounds - (round + 1)) = omega arith in
    let joined_is : joined ≡ joined_test by first second = cc one in
    let twos_are : twos ≡ joined_twos by rest = cc two in
    rw (joined_is, twos_are) (record { same = rw left at here.same })
