-- A statement that is prepared where it works, and what follows, is the statement within its transaction.
use Rattle.std.proofs.Common.{◌≡◌, Bool, true, false, if◌then◌else◌, is_ok, List, Result, Ok, Err, refl, sym, ◌∙◌, subst}
use Rattle.std.specs.Result.{IsErr, IsErrAnd}
use Rattle.step_model.specs.Port.{PortPast}
use Rattle.tsql_tree.specs.declared.definition.TableTree.{TableTree}
use Rattle.tsql_tree.specs.declared.statement.Statement.{Statement}
use Rattle.bound_tree.specs.declared.write.Bound.{Bound}
use Rattle.binder.specs.Names.{looked_up}
use Rattle.step_model.specs.Ranges.{no_memory}
use Rattle.batch_meaning.specs.declared.failure.Failure.{Failure}
use Rattle.batch_meaning.specs.declared.home.Home.{Home}
use Rattle.batch_meaning.specs.Raised.{Around}
use Rattle.batch_meaning.specs.Progress.{SessionProgress}
use Rattle.batch_meaning.specs.Doing.{Doing, over, reads, makes, defines, asks, room, never, ◌then◌, Did}
use Rattle.batch_meaning.specs.Asking.{◌>>=◌, fails, on_ok}
use Rattle.batch_meaning.specs.Working.{asks_any, binds, enters, known_by, leaves, own, prepares, within}
use Rattle.batch_meaning.proofs.Composed.{does_bind, does_fail, does_over, does_then}
use Rattle.statement_exec.specs.Prepared.{kept_at, prepares_home, prepares_named}

-- a tree behind two others
then_then : {A B C : Type 0} (tree : Doing A) (f : A → Doing B) (g : B → Doing C) → ((tree then f) then g) ≡ (tree then λ a. f a then g)
unfolding ◌then◌
then_then (over a) f g = refl
then_then (reads look) f g = λ i. reads (λ p. then_then (look p) f g i)
then_then (makes step next) f g = λ i. makes step (then_then next f g i)
then_then (defines entry next) f g = λ i. defines entry (λ found. then_then (next found) f g i)
then_then (asks op next) f g = λ i. asks op (λ reply. then_then (next reply) f g i)
then_then (room next) f g = λ i. room (λ enough. then_then (next enough) f g i)
then_then never f g = refl

-- the same behind each value
then_same : {A B : Type 0} (tree : Doing A) (f g : A → Doing B) → ((a : A) → f a ≡ g a) → (tree then f) ≡ (tree then g)
then_same tree f g same = λ i. tree then (λ a. same a i)

module _ {A : Type 0} (around : Around) (statement : Statement) (go : List TableTree → Bound → Doing (Result A Failure)) where
  -- what follows, and the end of the transaction
  ended : Home × (List TableTree × Bound) → Doing (Result A Failure)
  ended made = go made.1.0 made.1.1 then λ came. leaves made.0 (is_ok came) then λ done. over came

  leaving : Home → Result A Failure → Doing (Result A Failure)
  leaving home came = leaves home (is_ok came) then λ done. over came

  made_is : (home : Home) (made : Result (List TableTree × Bound) Failure) → (on_ok (λ (m : List TableTree × Bound). go m.0 m.1) made then leaving home) ≡ (kept_at home made then on_ok ended)
  unfolding ◌then◌ ended leaving
  made_is home (Ok made) = refl
  made_is home (Err failure) = sym (then_then (leaves home false) (λ done. over (Err failure)) (on_ok ended))

  home_is : (home : Home) → (binds around statement go then leaving home) ≡ ((prepares around statement then λ made. kept_at home made) then on_ok ended)
  unfolding binds
  home_is home = then_then (prepares around statement) _ (leaving home) ∙ then_same (prepares around statement) _ _ (made_is home) ∙ sym (then_then (prepares around statement) (kept_at home) (on_ok ended))

  entered_is : (entered : Result Home Failure) → on_ok (λ home. binds around statement go then leaving home) entered ≡ (on_ok (λ home. prepares around statement then λ made. kept_at home made) entered then on_ok ended)
  unfolding ◌then◌
  entered_is (Ok home) = home_is home
  entered_is (Err failure) = refl

  named_is : own (asks_any (known_by around statement) (looked_up statement)) (binds around statement go) ≡ (prepares_named around statement (looked_up statement) then on_ok ended)
  unfolding own prepares_named leaving
  named_is = then_same (enters (asks_any (known_by around statement) (looked_up statement))) _ _ entered_is ∙ sym (then_then (enters (asks_any (known_by around statement) (looked_up statement))) _ (on_ok ended))

  roomed_is : (enough : Bool) → (if enough then own (asks_any (known_by around statement) (looked_up statement)) (binds around statement go) else fails no_memory) ≡ ((if enough then prepares_named around statement (looked_up statement) else fails no_memory) then on_ok ended)
  unfolding ◌then◌
  roomed_is true = named_is
  roomed_is false = refl

  within_is : within around statement go ≡ (prepares_home around statement >>= ended)
  unfolding within ◌then◌
  within_is = λ i. room (λ enough. roomed_is enough i)

  -- prepared, worked in, and left
  pub does_within : {before begun worked after : PortPast} {made : Home × (List TableTree × Bound)} {came : Result A Failure} {p q r new : SessionProgress}
      → Did before begun (prepares_home around statement) p (Ok (Ok made)) q → Did begun worked (go made.1.0 made.1.1) q (Ok came) r → Did worked after (leaves made.0 (is_ok came)) r (Ok tt) new
      → Did before after (within around statement go) p (Ok came) new
  unfolding ended
  does_within {before = before} {after = after} {came = came} {p = p} {new = new} first second third =
      subst (λ tree. Did before after tree p (Ok came) new) (sym within_is) (does_bind (prepares_home around statement) ended first (does_then _ _ second (does_then _ _ third (does_over refl))))

  -- it could not be prepared
  pub does_within_not : {before after : PortPast} {failure : Failure} {p new : SessionProgress} (result : Result A Failure) → IsErr result → IsErrAnd result (λ x. x ≡ failure)
      → Did before after (prepares_home around statement) p (Ok (Err failure)) new → Did before after (within around statement go) p (Ok result) new
  does_within_not {before = before} {after = after} {p = p} {new = new} result err same first =
      subst (λ tree. Did before after tree p (Ok result) new) (sym within_is) (does_fail (prepares_home around statement) ended result err same first)
