-- The exchanges of steps that were not told to wait.
use Rattle.std.proofs.Common.{◌≡◌, Bool, true, false, if◌then◌else◌, List, [], ◌∷◌, ◌++◌, map, refl, ap, ◌∙◌}
use Rattle.std.specs.List.{AllByRecursion}
use Rattle.std.proofs.lemmas.List.{map-append}
use Rattle.step_model.specs.declared.reply.Reply.{Reply}
use Rattle.step_model.specs.Exchange.{Exchange}
use Rattle.step_model.specs.Fits.{is_wait, without_waits}
use Rattle.engine_core.specs.Machine.{Ask, exchange_of, exchanges_of, mine_in}

without_append : (xs ys : List Exchange) → without_waits (xs ++ ys) ≡ without_waits xs ++ without_waits ys
without_append [] ys = refl
without_append (x ∷ xs) ys = by_test (is_wait x.reply) (without_append xs ys)
  where
    by_test : (b : Bool) → without_waits (xs ++ ys) ≡ without_waits xs ++ without_waits ys
        → (if b then without_waits (xs ++ ys) else x ∷ without_waits (xs ++ ys)) ≡ (if b then without_waits xs else x ∷ without_waits xs) ++ without_waits ys
    by_test true rest = rest
    by_test false rest = ap (λ (es : List Exchange). x ∷ es) rest

-- a step more is an exchange more
pub exchanges_append : (xs ys : List (Ask × Reply)) → exchanges_of (xs ++ ys) ≡ exchanges_of xs ++ exchanges_of ys
exchanges_append xs ys = map-append exchange_of xs ys

pub mine_append : (xs ys : List (Ask × Reply)) → mine_in (xs ++ ys) ≡ mine_in xs ++ mine_in ys
mine_append xs ys = ap without_waits (exchanges_append xs ys) ∙ without_append (exchanges_of xs) (exchanges_of ys)

-- steps that were told to wait leave none
pub mine_waits : (call : Ask) (waits : List Reply) → AllByRecursion (λ reply. is_wait reply ≡ true) waits → mine_in (map (λ reply. (call, reply)) waits) ≡ []
mine_waits call [] all = refl
mine_waits call (reply ∷ waits) all = rw all.0 (mine_waits call waits all.1)

-- another one is one
pub mine_one : (call : Ask) (reply : Reply) → is_wait reply ≡ false → mine_in ((call, reply) ∷ []) ≡ exchange_of (call, reply) ∷ []
mine_one call reply passes = rw passes refl
