-- What goes on within one transaction.
use Rattle.std.proofs.Common.{◌≡◌, ℕ, true, false, List, [], ◌∷◌, ◌++◌, refl, ◌∙◌}
use Rattle.step_model.specs.declared.op.Hold.TheVariants.{Range}
use Rattle.step_model.specs.declared.op.Op.{Op}
use Rattle.step_model.specs.declared.op.Op.TheVariants as ops
use Rattle.step_model.specs.declared.reply.Reply.{Reply}
use Rattle.step_model.specs.declared.reply.Reply.TheVariants as replies
use Rattle.step_model.specs.Exchange.{Exchange}
use Rattle.step_model.specs.Fits.{NoneEnds, is_ended, place_of, place_or}
use Rattle.constraint_check.proofs.Lists.{all_more}
use Rattle.statement_paths.specs.Asked.{AskOnly, IsFetch}
use Rattle.write_laws.specs.Reads.{HoldsIt}

not_ended : (reply : Reply) (behind : ℕ) → is_ended reply ≡ false → place_or reply behind ≡ behind
not_ended (replies.Ended place) behind is = absurd (let no : true ≡ false = is in cc)
not_ended reply behind is = refl

-- its place is that of what comes later
pub place_past : (behind : ℕ) (between later : List Exchange) → NoneEnds between → place_of behind (between ++ later) ≡ place_of behind later
place_past behind [] later none = refl
place_past behind (e ∷ between) later none = not_ended e.reply (place_of behind (between ++ later)) none.0 ∙ place_past behind between later none.1

is_fetch : (op : Op) → HoldsIt op → IsFetch op
is_fetch (ops.Fetch table start stop Range part) holds = tt
is_fetch op holds = absurd holds

pub hold_fetches : (part : List Exchange) → AskOnly HoldsIt part → AskOnly IsFetch part
hold_fetches part all = all_more (λ x. HoldsIt x.op × _) (λ x. IsFetch x.op × _) (λ x h. (is_fetch x.op h.0, h.1)) part all
