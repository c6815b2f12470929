-- All ways that a dialog may go: a fact of where its transaction stands at its end, whatever the replies are.
use Rattle.std.proofs.Common.{◌≡◌, Bool, true, false, if◌then◌else◌, List, [], ◌∷◌, sym, subst, refl}
use Rattle.step_model.specs.declared.manner.Manner.{Manner}
use Rattle.step_model.specs.declared.op.Op.{Op}
use Rattle.step_model.specs.declared.reply.Reply.{Reply}
use Rattle.step_model.specs.Exchange.{Exchange, CanReply}
use Rattle.step_model.specs.Dialog.{Dialog, over, asks, room, never, ◌then◌, Held}
use Rattle.step_model.specs.Own.{Progress as Stand, progress_after, progress_from}

abbrev pub Goes : {A : Type 0} → Dialog A → Stand → (A → Stand → Type 0) → Type 0
Goes (over a) stand After = After a stand
Goes (asks op quiet go) stand After = (reply : Reply) → CanReply op reply → Goes (go reply) (progress_after stand op reply) After
Goes (room go) stand After = (enough : Bool) → Goes (go enough) stand After
Goes never stand After = Unit {0}

-- what was held has come to the end of a way
pub goes_held : {A : Type 0} (manner : Manner) (dialog : Dialog A) (stand : Stand) (After : A → Stand → Type 0) (exchanges : List Exchange) (result : A)
    → Goes dialog stand After → Held manner dialog exchanges result → After result (progress_from stand exchanges)
unfolding Held
goes_held manner (over a) stand After exchanges result goes held = rw (held.0, held.1) goes
goes_held manner (asks op quiet go) stand After [] result goes held = absurd held
goes_held manner (asks op quiet go) stand After (x ∷ later) result goes held =
    subst (λ (o : Op). After result (progress_from (progress_after stand o x.reply) later)) (sym held.0)
    (goes_held manner (go x.reply) (progress_after stand op x.reply) After later result (goes x.reply held.2) held.3)
goes_held manner (room go) stand After exchanges result goes held = goes_held manner (go held.0) stand After exchanges result (goes held.0) held.1
goes_held manner never stand After exchanges result goes held = absurd held

-- one dialog behind another
pub goes_then : {A B : Type 0} (dialog : Dialog A) (go : A → Dialog B) (stand : Stand) (After : B → Stand → Type 0) → Goes dialog stand (λ a s. Goes (go a) s After) → Goes (dialog then go) stand After
unfolding ◌then◌
goes_then (over a) go stand After goes = goes
goes_then (asks op quiet next) go stand After goes = λ reply can. goes_then (next reply) go (progress_after stand op reply) After (goes reply can)
goes_then (room next) go stand After goes = λ enough. goes_then (next enough) go stand After (goes enough)
goes_then never go stand After goes = tt

-- on to a weaker end
pub goes_mono : {A : Type 0} (dialog : Dialog A) (stand : Stand) (After Later : A → Stand → Type 0) → ((a : A) (s : Stand) → After a s → Later a s) → Goes dialog stand After → Goes dialog stand Later
goes_mono (over a) stand After Later on goes = on a stand goes
goes_mono (asks op quiet go) stand After Later on goes = λ reply can. goes_mono (go reply) (progress_after stand op reply) After Later on (goes reply can)
goes_mono (room go) stand After Later on goes = λ enough. goes_mono (go enough) stand After Later on (goes enough)
goes_mono never stand After Later on goes = tt

-- one dialog behind another, whose end is known
pub goes_bind : {A B : Type 0} (dialog : Dialog A) (go : A → Dialog B) (stand : Stand) (Mid : A → Stand → Type 0) (After : B → Stand → Type 0) → Goes dialog stand Mid → ((a : A) (s : Stand) → Mid a s → Goes (go a) s After) → Goes (dialog then go) stand After
goes_bind dialog go stand Mid After goes on = goes_then dialog go stand After (goes_mono dialog stand Mid (λ a s. Goes (go a) s After) on goes)

-- by a test
pub goes_if : {A : Type 0} (test : Bool) (first other : Dialog A) (stand : Stand) (After : A → Stand → Type 0) → (test ≡ true → Goes first stand After) → (test ≡ false → Goes other stand After) → Goes (if test then first else other) stand After
goes_if true first other stand After one two = one refl
goes_if false first other stand After one two = two refl
