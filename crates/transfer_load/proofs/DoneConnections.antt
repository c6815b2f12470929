-- Connections of workers, one more.
use Rattle.std.proofs.Common.{◌≡◌, ℕ, ◌+◌, ◌<◌, List, [], ◌∷◌, ◌++◌, length, take, sym, ap, ◌∙◌, subst, append-nil, arith, length-append}
use Rattle.std.specs.Prelude.{Bool, filter, not, slice_index_or}
use Rattle.std.proofs.lemmas.List.{length-take, take_more}
use Rattle.std.proofs.lemmas.Grind.{flat_map-append}
use Rattle.std.proofs.lemmas.List.Elements.{filter-append}
use Rattle.tds_tokens.specs.declared.token.Token.{Token}
use Rattle.transfer_load.specs.Connections.{AreDone, Connection, IsDone, all_replies}
use Rattle.transfer_load.specs.Replies.{is_refused, refused_in, transfers_in}

pub done_more : (transfers worker : ℕ) (connections : List Connection) (each : List (List (List Token))) (connection : Connection) (replies : List (List Token))
    → AreDone transfers worker connections each → IsDone transfers (worker + length connections) connection replies → AreDone transfers worker (connections ++ connection ∷ []) (each ++ replies ∷ [])
done_more transfers worker [] [] connection replies done is = (subst (λ (n : ℕ). IsDone transfers n connection replies) (let none : worker + 0 ≡ worker = omega arith in none) is, tt)
done_more transfers worker [] (r ∷ each) connection replies done is = absurd done
done_more transfers worker (c ∷ connections) [] connection replies done is = absurd done
done_more transfers worker (c ∷ connections) (r ∷ each) connection replies done is =
    let next : worker + length (c ∷ connections) ≡ worker + 1 + length connections = omega arith in
    (done.0, done_more transfers (worker + 1) connections each connection replies done.1 (subst (λ (n : ℕ). IsDone transfers n connection replies) next is))

all_more : (each : List (List (List Token))) (replies : List (List Token)) → all_replies (each ++ replies ∷ []) ≡ all_replies each ++ replies
all_more each replies = flat_map-append (λ (r : List (List Token)). r) each (replies ∷ []) ∙ ap (λ (s : List (List Token)). all_replies each ++ s) (append-nil replies)

counted_more : (p : List Token → Bool) (each : List (List (List Token))) (replies : List (List Token)) → length (filter p (all_replies (each ++ replies ∷ []))) ≡ length (filter p (all_replies each)) + length (filter p replies)
counted_more p each replies =
    ap (λ (s : List (List Token)). length (filter p s)) (all_more each replies) ∙ ap length (filter-append p (all_replies each) replies) ∙ length-append (filter p (all_replies each)) (filter p replies)

pub transfers_counted : (each : List (List (List Token))) (replies : List (List Token)) → transfers_in (all_replies (each ++ replies ∷ [])) ≡ transfers_in (all_replies each) + transfers_in replies
transfers_counted each replies = counted_more (λ tokens. not (is_refused tokens)) each replies

pub refused_counted : (each : List (List (List Token))) (replies : List (List Token)) → refused_in (all_replies (each ++ replies ∷ [])) ≡ refused_in (all_replies each) + refused_in replies
refused_counted each replies = counted_more is_refused each replies

-- the next of a list
pub done_next : (transfers : ℕ) (connections : List Connection) (k worker : ℕ) (each : List (List (List Token))) (connection : Connection) (replies : List (List Token)) → k < length connections → worker ≡ k
    → connection ≡ slice_index_or connections k connection → AreDone transfers 0 (take k connections) each → IsDone transfers worker connection replies → AreDone transfers 0 (take (k + 1) connections) (each ++ replies ∷ [])
done_next transfers connections k worker each connection replies lt same is done one =
    let whole : take (k + 1) connections ≡ take k connections ++ connection ∷ [] = take_more connections k connection lt ∙ ap (λ (c : Connection). take k connections ++ c ∷ []) (sym is) in
    let place : worker ≡ 0 + length (take k connections) = omega (arith, length-take k connections, same, lt) in
    subst (λ (s : List Connection). AreDone transfers 0 s (each ++ replies ∷ [])) (sym whole) (done_more transfers 0 (take k connections) each connection replies done (subst (λ (n : ℕ). IsDone transfers n connection replies) place one))
