-- A dialog that came to something, taken apart.
use Rattle.std.proofs.Common.{◌≡◌, Bool, true, false, if◌then◌else◌, List, [], ◌∷◌, ◌++◌, Result, Ok, Err, refl, ap}
use Rattle.step_model.specs.declared.manner.Manner.{Manner}
use Rattle.step_model.specs.Dialog.{Dialog, over, asks, room, never, ◌then◌, Held}
use Rattle.step_model.specs.Exchange.{Exchange}
use Rattle.dml_exec.specs.Asking.{on_ok, ◌>>=◌, with_room}

pub ok_err : {A E : Type 0} (a : A) (e : E) → Ok a ≡ Err e → ⊥
ok_err a e is = absurd (let no : Ok a ≡ Err e = is in cc)

-- one behind another
pub record Both {A B : Type 0} (manner : Manner) (dialog : Dialog A) (go : A → Dialog B) (part : List Exchange) (result : B) : Type 0 where
  pub came : A
  pub first : List Exchange
  pub second : List Exchange
  pub parts : part ≡ first ++ second
  pub held : Held manner dialog first came
  pub more : Held manner (go came) second result

pub held_both : {A B : Type 0} (manner : Manner) (dialog : Dialog A) (go : A → Dialog B) (part : List Exchange) (result : B) → Held manner (dialog then go) part result → Both manner dialog go part result
unfolding Held ◌then◌
held_both manner (over a) go part result held = record { came = a; first = []; second = part; parts = refl; held = (refl, refl); more = held }
held_both manner (asks op quiet next) go [] result held = absurd held
held_both manner (asks op quiet next) go (x ∷ part) result held =
    let rest = held_both manner (next x.reply) go part result held.3 in
    record { came = rest.came; first = x ∷ rest.first; second = rest.second; parts = ap (λ (xs : List Exchange). x ∷ xs) rest.parts; held = (held.0, held.1, held.2, rest.held); more = rest.more }
held_both manner (room next) go part result held =
    let rest = held_both manner (next held.0) go part result held.1 in
    record { came = rest.came; first = rest.first; second = rest.second; parts = rest.parts; held = (held.0, rest.held); more = rest.more }
held_both manner never go part result held = absurd held

-- where nothing failed
pub record BothOk {A B E : Type 0} (manner : Manner) (dialog : Dialog (Result A E)) (go : A → Dialog (Result B E)) (part : List Exchange) (result : B) : Type 0 where
  pub came : A
  pub first : List Exchange
  pub second : List Exchange
  pub parts : part ≡ first ++ second
  pub held : Held manner dialog first (Ok came)
  pub more : Held manner (go came) second (Ok result)

pub held_ok : {A B E : Type 0} (manner : Manner) (dialog : Dialog (Result A E)) (go : A → Dialog (Result B E)) (part : List Exchange) (result : B) → Held manner (dialog >>= go) part (Ok result) → BothOk manner dialog go part result
unfolding Held
held_ok {A} {B} {E} manner dialog go part result held = let h = held_both manner dialog (on_ok go) part (Ok result) held in by_came h.came h.first h.second h.parts h.held h.more
  where
    by_came : (came : Result A E) (first second : List Exchange) → part ≡ first ++ second → Held manner dialog first came → Held manner (on_ok go came) second (Ok result) → BothOk manner dialog go part result
    by_came (Ok a) first second parts held more = record { came = a; first = first; second = second; parts = parts; held = held; more = more }
    by_came (Err e) first second parts held more = absurd (ok_err result e more.1)

-- where there was memory
pub held_room : {A E : Type 0} (manner : Manner) (wanted : E) (dialog : Dialog (Result A E)) (part : List Exchange) (result : A) → Held manner (with_room wanted dialog) part (Ok result) → Held manner dialog part (Ok result)
unfolding Held
held_room {A} {E} manner wanted dialog part result held = by_room held.0 held.1
  where
    by_room : (enough : Bool) → Held manner (if enough then dialog else over (Err wanted)) part (Ok result) → Held manner dialog part (Ok result)
    by_room true held = held
    by_room false held = absurd (ok_err result wanted held.1)
