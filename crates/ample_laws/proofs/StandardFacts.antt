-- A batch without statements, done where memory was never wanting, and where no result is more than its limit; and what is told of it, and of an error that stands for a
-- refusal.
use Rattle.std.proofs.Common.{◌≡◌, refl, sym, ap, ◌∙◌, arith, ℕ, ◌+◌, ◌≤◌, pos, Bool, true, false, List, [], ◌∷◌, Ok, Err, Result, is_ok, if◌then◌else◌}
use Rattle.std.specs.Prelude.{nat_lt}
use Rattle.tsql_tree.specs.declared.definition.TableTree.{TableTree}
use Rattle.value_types.specs.declared.value.Value.{Value}
use Rattle.bound_tree.specs.declared.query.BoundQuery.{BoundQuery}
use Rattle.bound_tree.specs.declared.write.Bound.{Bound}
use Rattle.bound_tree.specs.declared.write.Bound.TheVariants as bound
use Rattle.dml_exec.specs.Reading.{GivenRows, fetches_any, images_of}
use Rattle.dml_exec.specs.declared.refusal.Level.{Level}
use Rattle.step_model.specs.Exchange.{Exchange}
use Rattle.step_model.specs.declared.reply.Reply.TheVariants as replies
use Rattle.tds_tokens.specs.Numbers.{done_error, done_final, done_more}
use Rattle.tds_tokens.specs.declared.notice.Notice.{Notice}
use Rattle.tds_tokens.specs.declared.token.Token.TheVariants.{Error}
use Rattle.batch_meaning.specs.declared.failure.Failure.{Failure}
use Rattle.batch_meaning.specs.declared.form.ReadText.TheVariants as text
use Rattle.batch_meaning.specs.Asking.{comes_to, if_bytes_left, reads_at, reads_images, touches_if, unless_stopped, ◌gives◌}
use Rattle.batch_meaning.specs.Doing.{Doing, makes, over, reads, room, ◌then◌}
use Rattle.batch_meaning.specs.Failures.{plain}
use Rattle.batch_meaning.specs.Meaning.{batch, each_of, ends}
use Rattle.batch_meaning.specs.Progress.{SessionProgress, begins, first_progress, made, sends, size_of, touches}
use Rattle.batch_meaning.specs.Raised.{Around}
use Rattle.batch_meaning.specs.Selecting.{Effect}
use Rattle.batch_meaning.specs.Working.{answers, given_in, selects}
use Rattle.tds_tokens.specs.declared.token.Token.{Token}
use Rattle.batch_meaning.specs.Tokens.{batch_done}
use Rattle.ample_laws.specs.Ample.{Ample, is_refusal}
use Rattle.ample_laws.specs.Small.{IsFew, Small}
use Rattle.ample_laws.specs.Telling.{EndsWith, IsNoRefusal, SaysMore, TellsOnly}
use Rattle.ample_laws.proofs.Small.{enough, more_le, not_fewer}

-- what was done for a batch of no statements
empty_new : SessionProgress
empty_new = made (sends (batch_done false ∷ [])) (made (begins []) first_progress)

empty_done : Ample (batch (text.Statements [])) first_progress [] tt empty_new
unfolding Ample batch ends each_of ◌then◌ empty_new
empty_done = (refl, refl, refl)

empty_ends : EndsWith batch_done empty_new.tokens
unfolding empty_new
empty_ends = record { front = []; failed = false; whole = refl; more = tt }

-- where there was room a result came, and no error
room_given : (p : SessionProgress) → Ample (comes_to {A = ℕ} (Ok 7)) p [] (Ok 7) p
unfolding Ample
room_given p = (refl, refl, refl)

room_wanted : (p : SessionProgress) → Ample (comes_to {A = ℕ} (Ok 7)) p [] (Err (plain 701)) p → ⊥
unfolding Ample
room_wanted p ample = absurd (let no : false ≡ true = ap (λ (came : Result ℕ Failure). is_ok came) ample.1 in cc)

-- that a row is there is no refusal, and that none is there to change is one
exists_answers : is_refusal replies.Exists ≡ false
exists_answers = refl

missing_refuses : is_refusal replies.Missing ≡ true
missing_refuses = refl

-- an ERROR 701 stands for one
wanting_told : (told : Notice) → told.number ≡ pos 701 → TellsOnly IsNoRefusal (Error told ∷ []) → ⊥
wanting_told told is only = only.0.0 is

-- what says that more follows
more_said : SaysMore done_more
more_said = refl

final_said : SaysMore done_final → ⊥
final_said is = absurd (let no : 0 ≡ 1 = is in cc)

failed_said : SaysMore done_error → ⊥
failed_said is = absurd (let no : 0 ≡ 1 = is in cc)

-- ---- the result limit

-- what a SELECT begins with, behind its first look at how far the session has come
abbrev is_opening : {A : Type 0} → Doing A → Bool
is_opening (reads look) = true
is_opening (room go) = true
is_opening (makes touches next) = true
is_opening tree = false

abbrev looks_opening : {A : Type 0} → Doing A → Bool
looks_opening (reads look) = is_opening (look first_progress)
looks_opening tree = false

opening_then : {A B : Type 0} (tree : Doing A) (go : A → Doing B) → is_opening tree ≡ true → is_opening (tree then go) ≡ true
unfolding ◌then◌
opening_then (reads look) go is = refl
opening_then (room next) go is = refl
opening_then (makes touches next) go is = refl
opening_then tree go is = absurd (let no : false ≡ true = is in cc)

touched_opening : (given : GivenRows) (shape : TableTree) (shapes : List TableTree) (level : Level) (vars : List Value) (of : Bound) (b : Bool) → is_opening (touches_if b (images_of given (shape ∷ shapes) level vars of gives unless_stopped)) ≡ true
unfolding images_of ◌gives◌
touched_opening given shape shapes level vars of true = refl
touched_opening given shape shapes level vars of false = refl

selects_opening : {A : Type 0} (around : Around) (shapes : List TableTree) (query : BoundQuery) (go : Result Effect Failure → Doing A) → looks_opening (selects around shapes query then go) ≡ true
unfolding selects answers reads_images reads_at ◌then◌
selects_opening around [] query go = refl
selects_opening around (shape ∷ shapes) query go = opening_then _ go (opening_then _ _ (opening_then _ _ (touched_opening (given_in around.fired) shape shapes first_progress.settings.level [] (bound.Query query) (fetches_any (given_in around.fired) (bound.Query query)))))

-- what goes on otherwise is none
no_select : {A : Type 0} (look : SessionProgress → Doing A) (p : SessionProgress) (exchanges : List Exchange) → is_opening (look first_progress) ≡ false → IsFew (reads look) p exchanges
no_select look p exchanges other around shapes query go is front back rows mid parts held =
    absurd (let no : false ≡ true = sym other ∙ ap looks_opening is ∙ selects_opening around shapes query go in cc)

-- a batch of no statements is small
empty_small : Small (batch (text.Statements [])) first_progress [] tt empty_new
unfolding Small batch ends each_of ◌then◌ empty_new
empty_small = (no_select _ _ [] refl, λ bytes most. (refl, refl, refl))

-- tokens that fit are sent, whatever more bytes are left
fitting : (tokens : List Token) (p : SessionProgress) → size_of tokens ≤ p.bytes_left → Small (if_bytes_left {A = ℕ} tokens (over (Ok 7))) p [] (Ok 7) p
unfolding Small
fitting tokens p fits = (
  no_select (λ q. if nat_lt q.bytes_left (size_of tokens) then over (Err (plain 49002)) else over (Ok 7)) p [] (by_either (nat_lt 0 (size_of tokens))),
  λ bytes most. by_test (nat_lt bytes (size_of tokens)) (not_fewer bytes (size_of tokens) (omega (arith, fits, most))),
)
  where
    by_either : (b : Bool) → is_opening {A = Result ℕ Failure} (if b then over (Err (plain 49002)) else over (Ok 7)) ≡ false
    by_either true = refl
    by_either false = refl

    by_test : (b : Bool) → b ≡ false → Small {A = Result ℕ Failure} (if b then over (Err (plain 49002)) else over (Ok 7)) p [] (Ok 7) p
    by_test true is = absurd (let no : true ≡ false = is in cc)
    by_test false is = (refl, refl, refl)

-- where tokens were kept back, it was not so
kept_back : (tokens : List Token) (p : SessionProgress) → Small (if_bytes_left {A = ℕ} tokens (over (Ok 7))) p [] (Err (plain 49002)) p → ⊥
unfolding Small
kept_back tokens p small = by_test (nat_lt (p.bytes_left + size_of tokens) (size_of tokens)) (enough p.bytes_left (size_of tokens)) (small.1 (p.bytes_left + size_of tokens) (more_le p.bytes_left (size_of tokens)))
  where
    by_test : (b : Bool) → b ≡ false → Small {A = Result ℕ Failure} (if b then over (Err (plain 49002)) else over (Ok 7)) p [] (Err (plain 49002)) p → ⊥
    by_test true is rest = absurd (let no : true ≡ false = is in cc)
    by_test false is rest = absurd (let no : false ≡ true = ap (λ (came : Result ℕ Failure). is_ok came) rest.1 in cc)
