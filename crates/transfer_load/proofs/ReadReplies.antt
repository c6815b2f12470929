-- Replies that were read one behind another.
use Rattle.std.proofs.Common.{◌≡◌, ℕ, ◌+◌, Bool, true, false, List, [], ◌∷◌, ◌++◌, length, refl, sym, ap, ◌∙◌, subst, inl, inr, append_assoc, append-nil, arith, length-append}
use Rattle.std.specs.Prelude.{Option, Some, None, if◌then◌else◌, not, filter, nat_lt}
use Rattle.std.specs.List.{AllZip}
use Rattle.std.proofs.lemmas.List.Elements.{filter-append}
use Rattle.outside_io.specs.Memory.{SourceState, told_given, told_left}
use Rattle.outside_io.specs.Bytes.{Takes}
use Rattle.tds_packets.specs.declared.message.Message.{Message}
use Rattle.tds_packets.specs.declared.fault.MessageFault.{MessageFault}
use Rattle.tds_packets.specs.declared.fault.MessageFault.TheVariants.{Closed, Cut}
use Rattle.tds_packets.specs.Stream.{IsMessage, Joins, Stops, bytes_of, fault_or, header_fault, tail_end, type_of}
use Rattle.tds_packets.proofs.Ends.{Stops-nil}
use Rattle.tds_packets.proofs.Headers.{which_fault}
use Rattle.tds_packets.proofs.Joined.{Joins-message}
use Rattle.tds_tokens.specs.declared.token.Token.{Token}
use Rattle.transfer_load.specs.Reading.{IsNext, IsOver}
use Rattle.transfer_load.specs.Replies.{AreReplies, Carries, is_refused, refused_in, transfers_in}

-- ---- where a stream is closed, nothing is left

not_closed : (short : Bool) (o : Option MessageFault) (n : ℕ) → (o ≡ Some Closed → ⊥) → (if short then Cut n else fault_or o (Cut n)) ≡ Closed → ⊥
not_closed true o n other is = let never : ⊥ = cc in never
not_closed false None n other is = let never : ⊥ = cc in never
not_closed false (Some fault) n other is = other (ap Some is)

no_header_closes : (begun : Option ℕ) (size place : ℕ) (tail : List ℕ) → header_fault begun size place tail ≡ Some Closed → ⊥
no_header_closes begun size place tail is = elim (which_fault begun size place tail Closed is) [
  | inl bad ↦ let never : ⊥ = cc in never
  | inr long ↦ let never : ⊥ = cc in never
]

closed_by : (earlier : List (List ℕ)) (size place : ℕ) (tail : List ℕ) → tail_end (type_of earlier) size place tail ≡ Closed → bytes_of earlier ++ tail ≡ []
closed_by [] size place [] is = refl
closed_by [] size place (byte ∷ tail) is =
    absurd (not_closed (nat_lt (length (byte ∷ tail)) 8) (header_fault None size place (byte ∷ tail)) (place + length (byte ∷ tail)) (no_header_closes None size place (byte ∷ tail)) is)
closed_by (packet ∷ earlier) size place tail is =
    absurd (not_closed (nat_lt (length tail) 8) (header_fault (type_of (packet ∷ earlier)) size place tail) (place + length tail) (no_header_closes (type_of (packet ∷ earlier)) size place tail) is)

nothing_left : (at : ℕ) (rest : List ℕ) → Stops at rest Closed → rest ≡ []
nothing_left at rest stops = stops.joined ∙ closed_by stops.earlier _ _ stops.tail stops.end

-- ---- replies so far

-- of these bytes some are left, and those that were given, as many as the reader counts, are these replies
pub record HasRead (bytes : List ℕ) (source : SourceState) (at : ℕ) (replies : List (List Token)) : Type 0 where
  pub whole : bytes ≡ source.given ++ source.left
  pub place : at ≡ length source.given
  pub messages : List Message
  pub joined : Joins 0 source.given messages []
  pub each : AllZip Carries messages replies

pub none_read : (bytes : List ℕ) (source : SourceState) (at : ℕ) → source.given ≡ [] → source.left ≡ bytes → at ≡ 0 → HasRead bytes source at []
unfolding Joins
none_read bytes source at none all start = record {
  whole = sym all ∙ ap (λ (s : List ℕ). s ++ source.left) (sym none);
  place = start ∙ ap length (sym none);
  messages = [];
  joined = none;
  each = tt;
}

carried_more : (messages : List Message) (replies : List (List Token)) (message : Message) (reply : List Token) → AllZip Carries messages replies → Carries message reply
    → AllZip Carries (messages ++ message ∷ []) (replies ++ reply ∷ [])
carried_more [] [] message reply each is = (is, tt)
carried_more [] (r ∷ replies) message reply each is = absurd each
carried_more (m ∷ messages) [] message reply each is = absurd each
carried_more (m ∷ messages) (r ∷ replies) message reply each is = (each.0, carried_more messages replies message reply each.1 is)

module _ (bytes : List ℕ) (old new : SourceState) (at : ℕ) (replies : List (List Token)) (read : HasRead bytes old at replies) (more : List ℕ) (takes : Takes told_left told_given old new more) where
  whole_still : bytes ≡ new.given ++ new.left
  whole_still = read.whole ∙ ap (λ (s : List ℕ). old.given ++ s) takes.from_left ∙ sym (append_assoc old.given more new.left) ∙ ap (λ (s : List ℕ). s ++ new.left) (sym takes.to_given)

  -- one reply more
  pub one_read : (reply : List Token) (place : ℕ) → place ≡ at + length more → IsNext at more reply → HasRead bytes new place (replies ++ reply ∷ [])
  one_read reply place is next =
      let here : at ≡ 0 + length old.given = omega (arith, read.place) in record {
        whole = whole_still;
        place = omega (arith, is, read.place, ap length takes.to_given, length-append old.given more);
        messages = read.messages ++ next.0 ∷ [];
        joined = subst (λ (s : List ℕ). Joins 0 s (read.messages ++ next.0 ∷ []) []) (sym takes.to_given) (Joins-message 0 old.given more read.messages next.0 read.joined (subst (λ (n : ℕ). IsMessage n more next.0) here next.1));
        each = carried_more read.messages replies next.0 reply read.each next.2;
      }

  -- and none
  pub all_read : IsOver at more new.left → AreReplies bytes replies
  all_read over =
      let none : more ≡ [] = nothing_left at more over.0 in
      let all : bytes ≡ old.given = whole_still ∙ ap (λ (s : List ℕ). new.given ++ s) over.1 ∙ append-nil new.given ∙ takes.to_given ∙ ap (λ (s : List ℕ). old.given ++ s) none ∙ append-nil old.given in record {
        messages = read.messages;
        split = record { joined = subst (λ (s : List ℕ). Joins 0 s read.messages []) (sym all) read.joined; partial = (Closed, Stops-nil _) };
        each = read.each;
      }

-- ---- how they are counted

pub refused_more : (replies : List (List Token)) (reply : List Token) → is_refused reply ≡ true → refused_in (replies ++ reply ∷ []) ≡ refused_in replies + 1
refused_more replies reply is =
    ap length (filter-append is_refused replies (reply ∷ [])) ∙ length-append (filter is_refused replies) (filter is_refused (reply ∷ [])) ∙ rw is refl

pub refused_same : (replies : List (List Token)) (reply : List Token) → is_refused reply ≡ false → refused_in (replies ++ reply ∷ []) ≡ refused_in replies
refused_same replies reply is =
    ap length (filter-append is_refused replies (reply ∷ []) ∙ rw is (append-nil (filter is_refused replies)))

passes : List Token → Bool
passes reply = not (is_refused reply)

pub transfers_more : (replies : List (List Token)) (reply : List Token) → is_refused reply ≡ false → transfers_in (replies ++ reply ∷ []) ≡ transfers_in replies + 1
transfers_more replies reply is =
    ap length (filter-append (λ tokens. not (is_refused tokens)) replies (reply ∷ [])) ∙ length-append (filter (λ tokens. not (is_refused tokens)) replies) _ ∙ rw is refl

pub transfers_same : (replies : List (List Token)) (reply : List Token) → is_refused reply ≡ true → transfers_in (replies ++ reply ∷ []) ≡ transfers_in replies
transfers_same replies reply is =
    ap length (filter-append (λ tokens. not (is_refused tokens)) replies (reply ∷ []) ∙ rw is (append-nil (filter (λ tokens. not (is_refused tokens)) replies)))
