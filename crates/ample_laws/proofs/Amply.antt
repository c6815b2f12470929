-- What was done where memory was never wanting was done. And of a tree that tells no error which is looked for, where each question for room is answered by yes, what was
-- done so has told none.
use Rattle.std.proofs.Common.{◌≡◌, refl, sym, ap, subst, ℕ, ◌+◌, List, [], ◌∷◌, ◌++◌, Option, Some, None, true}
use Rattle.std.specs.List.{AllByRecursion}
use Rattle.step_model.specs.Exchange.{Exchange}
use Rattle.tds_tokens.specs.Numbers.{done_more, done_error, done_count}
use Rattle.tds_tokens.specs.declared.token.Token.{Token}
use Rattle.tds_tokens.specs.declared.token.Token.TheVariants.{Error}
use Rattle.batch_meaning.specs.declared.exit.Exit.{Exit}
use Rattle.batch_meaning.specs.declared.exit.Exit.TheVariants.{Raise, RaiseUp}
use Rattle.batch_meaning.specs.declared.raised.Raised.{Raised}
use Rattle.batch_meaning.specs.Doing.{Doing, over, reads, makes, defines, asks, room, never, ◌then◌, Held}
use Rattle.batch_meaning.specs.Progress.{SessionProgress, asked, made}
use Rattle.cause_laws.proofs.Watch.{CaughtBy, LeavesBy, SaysAll, TellsBy, Watch}
use Rattle.cause_laws.proofs.Clean.{CleanAt, SendsNone, left_behind, sends_both, sends_nothing, sends_step}
use Rattle.ample_laws.specs.Ample.{Ample}
use Rattle.ample_laws.specs.Telling.{CaughtOnly, ErrorIs, LeavesOnly, TellsOnly}

-- ---- what was done

pub ample_held : {A : Type 0} (tree : Doing A) (p new : SessionProgress) (exchanges : List Exchange) (a : A) → Ample tree p exchanges a new → Held tree p exchanges a new
unfolding Ample Held
ample_held (over c) p new exchanges a ample = ample
ample_held (reads look) p new exchanges a ample = ample_held (look p) p new exchanges a ample
ample_held (makes step next) p new exchanges a ample = ample_held next (made step p) new exchanges a ample
ample_held (defines entry go) p new exchanges a ample = (ample.0, ample.1, ample_held (go ample.0) p new exchanges a ample.2)
ample_held (asks op go) p new [] a ample = absurd ample
ample_held (asks op go) p new (x ∷ later) a ample = (ample.0, ample.1, ample.2, ample_held (go x.reply) (asked op x.reply p) new later a ample.3)
ample_held (room go) p new exchanges a ample = (true, ample_held (go true) p new exchanges a ample)
ample_held never p new exchanges a ample = absurd ample

-- one tree behind another: the first came to something, and the rest did what is left
pub record RunApart {A : Type 0} (exchanges : List Exchange) (First : List Exchange → A → SessionProgress → Type 0) (Rest : A → SessionProgress → List Exchange → Type 0) : Type 0 where
  pub front : List Exchange
  pub back : List Exchange
  pub came : A
  pub mid : SessionProgress
  pub parts : exchanges ≡ front ++ back
  pub first : First front came mid
  pub rest : Rest came mid back

pub ample_apart : {A B : Type 0} (tree : Doing A) (go : A → Doing B) (p new : SessionProgress) (exchanges : List Exchange) (b : B)
    → Ample (tree then go) p exchanges b new → RunApart exchanges (λ front came mid. Ample tree p front came mid) (λ came mid back. Ample (go came) mid back b new)
unfolding Ample ◌then◌
ample_apart (over c) go p new exchanges b ample = record { front = []; back = exchanges; came = c; mid = p; parts = refl; first = (refl, refl, refl); rest = ample }
ample_apart (reads look) go p new exchanges b ample =
    let on = ample_apart (look p) go p new exchanges b ample in record { front = on.front; back = on.back; came = on.came; mid = on.mid; parts = on.parts; first = on.first; rest = on.rest }
ample_apart (makes step next) go p new exchanges b ample =
    let on = ample_apart next go (made step p) new exchanges b ample in record { front = on.front; back = on.back; came = on.came; mid = on.mid; parts = on.parts; first = on.first; rest = on.rest }
ample_apart (defines entry next) go p new exchanges b ample =
    let on = ample_apart (next ample.0) go p new exchanges b ample.2 in record { front = on.front; back = on.back; came = on.came; mid = on.mid; parts = on.parts; first = (ample.0, ample.1, on.first); rest = on.rest }
ample_apart (asks op next) go p new [] b ample = absurd ample
ample_apart (asks op next) go p new (x ∷ later) b ample =
    let on = ample_apart (next x.reply) go (asked op x.reply p) new later b ample.3 in
    record { front = x ∷ on.front; back = on.back; came = on.came; mid = on.mid; parts = ap (λ (l : List Exchange). x ∷ l) on.parts; first = (ample.0, ample.1, ample.2, on.first); rest = on.rest }
ample_apart (room next) go p new exchanges b ample =
    let on = ample_apart (next true) go p new exchanges b ample in record { front = on.front; back = on.back; came = on.came; mid = on.mid; parts = on.parts; first = on.first; rest = on.rest }
ample_apart never go p new exchanges b ample = absurd ample

-- ---- where nothing is asked of replies, of room and of counts

-- but of the status of each DONE
abbrev pub done_watch : (Goes : ℕ → Type 0) → Goes done_more → Goes (done_more + done_count) → Goes (done_more + done_error) → Watch
done_watch Goes more counted failed = record {
  Other = λ number. Unit {0};
  Goes = Goes;
  Says = λ reply. Unit {0};
  May = λ enough. Unit {0};
  Fine = λ P tree. Unit {0};
  At = λ P left p look. Unit {0};
  usual = λ number usual. tt;
  wants = λ may. tt;
  lacks = λ may. tt;
  memory = λ says. tt;
  missing = λ says. tt;
  victim = λ cycle says. tt;
  timed = λ holder held wanted on says. tt;
  more = more;
  counted = counted;
  failed = failed;
  spent = λ P left p look at none. tt;
  none_left = λ P p look at. tt;
  fewer = λ P left p look at. tt;
  full = λ P left p tokens go same fine at. tt;
  many = λ P around shapes query left p look is fails fine at. tt;
  fine_over = λ P a holds. tt;
  fine_reads = λ P left look each. tt;
  fine_makes = λ P step next so fine. tt;
  fine_defines = λ P entry go each. tt;
  fine_asks = λ P op go each. tt;
  fine_room = λ P go each. tt;
  fine_never = λ P. tt;
  behind = λ P Q left p look go fine at. tt;
}

-- ---- what a tree tells

module _ (watch : Watch) where
  pub ample_clean : {A : Type 0} (P : A → Type 0) (left : ℕ) (tree : Doing A) (p new : SessionProgress) (exchanges : List Exchange) (a : A) → watch.May true → ((few : ℕ) (q : SessionProgress) (look : SessionProgress → Doing A) → watch.At P few q look)
      → CleanAt watch P left tree → SaysAll watch exchanges → Ample tree p exchanges a new → P a × SendsNone watch p new
  unfolding Ample
  ample_clean P left (over c) p new exchanges a may at clean says ample = (subst P (sym ample.1) clean, sends_nothing watch p new (ap (λ (q : SessionProgress). q.tokens) ample.2))
  ample_clean P left (reads look) p new exchanges a may at clean says ample = ample_clean P left (look p) p new exchanges a may at (clean p (at left p look)) says ample
  ample_clean P left (makes step next) p new exchanges a may at clean says ample =
      let more = ample_clean P (left_behind step left) next (made step p) new exchanges a may at clean.1 says ample in (more.0, sends_both watch p (made step p) new (sends_step watch step p clean.0) more.1)
  ample_clean P left (defines entry go) p new exchanges a may at clean says ample = ample_clean P left (go ample.0) p new exchanges a may at (clean ample.0) says ample.2
  ample_clean P left (asks op go) p new [] a may at clean says ample = absurd ample
  ample_clean P left (asks op go) p new (x ∷ later) a may at clean says ample = ample_clean P left (go x.reply) (asked op x.reply p) new later a may at (clean x.reply says.0) says.1 ample.3
  ample_clean P left (room go) p new exchanges a may at clean says ample = ample_clean P left (go true) p new exchanges a may at (clean true may) says ample
  ample_clean P left never p new exchanges a may at clean says ample = absurd ample

  -- ---- as the laws say it

  pub tells_only : (tokens : List Token) → AllByRecursion (TellsBy watch) tokens → TellsOnly watch.Other tokens
  tells_only [] all = tt
  tells_only (token ∷ tokens) all = (by_token token all.0, tells_only tokens all.1)
    where
      by_token : (token : Token) → TellsBy watch token → ErrorIs watch.Other token
      by_token (Error told) other = other
      by_token token other = tt

  pub leaves_only : (exit : Exit) → LeavesBy watch exit → LeavesOnly watch.Other exit
  leaves_only (Raise raised) other = other
  leaves_only (RaiseUp raised) other = other
  leaves_only exit other = tt

  pub caught_only : (caught : Option Raised) → CaughtOnly watch.Other caught → CaughtBy watch caught
  caught_only None other = tt
  caught_only (Some raised) other = other
