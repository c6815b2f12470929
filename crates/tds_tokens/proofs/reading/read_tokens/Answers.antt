use Rattle.std.proofs.Common.{◌≡◌, ◌≢◌, ◌-◌, [], length, sym, ap, ◌∙◌, rules, arith}
use Rattle.std.proofs.lemmas.Bool.{eqb-true, eqb-false}
use Rattle.std.proofs.lemmas.List.{nil_from_length}
use Rattle.tds_tokens.specs.Answer.{IsBadAt}
use Rattle.tds_tokens.specs.Reading.{token_at, columns_of_place}
use Rattle.tds_tokens.proofs.Streams.{ReadsOne, read_none, read_one, read_bad, read_all, stream_alone, not_bad}
use Rattle.tds_tokens.proofs.reading.read_tokens.Goals as goal
use Rattle.tds_tokens.proofs.reading.read_tokens.Goals.{After-drop-tokens-in-Err-Absent, In_ok-push-in-Ok}

pub loop-rest-init : goal.loop-rest-init
loop-rest-init c = rw c.new-tokens.ensures.items (read_none c.args.bytes.now)

one : (c : In_ok-push-in-Ok) → ReadsOne c.args.bytes.now c.loop-rest.tokens.items c.loop-rest.rest.now c.loop-rest.described c.in-Ok.token c.in-Ok.behind.now
one c =
    let rest = c.loop-rest.rest.now in
    let columns : columns_of_place c.loop-rest.tokens.items c.loop-rest.described ≡ c.columns_of_place.result.now = sym (c.columns_of_place.ensures ∙ ap (λ tokens. columns_of_place tokens c.loop-rest.described) c.deref.ensures.value) in
    let given = ap (λ cs. token_at cs rest) columns ∙ c.in-Ok.ensures in
    read_one c.args.bytes.now c.loop-rest.tokens.items rest c.loop-rest.described c.in-Ok.token c.in-Ok.behind.now (λ i. omega (arith, c.type_inv.bytes i)) c.loop-rest.invariant given

pub loop-rest-preserved : goal.loop-rest-preserved
loop-rest-preserved c =
    let count : c.len.result ≡ length c.loop-rest.tokens.items = search rules in
    rw (c.in_ok-push-in-Ok.ensures.items, c.place_after-described.ensures, count) (one c).so_far

pub loop-rest-smaller : goal.loop-rest-smaller
loop-rest-smaller c = (one c).shorter

bad : (c : After-drop-tokens-in-Err-Absent) → IsBadAt c.args.bytes.now (length c.args.bytes.now - length c.loop-rest.rest.now)
bad c =
    let rest = c.loop-rest.rest.now in
    let columns : columns_of_place c.loop-rest.tokens.items c.loop-rest.described ≡ c.columns_of_place.result.now = sym (c.columns_of_place.ensures ∙ ap (λ tokens. columns_of_place tokens c.loop-rest.described) c.deref.ensures.value) in
    let absent = rw c.in-Err-Absent.field-0-is at c.in-Err-Absent.ensures in
    let left : rest ≢ [] = λ none. eqb-false (length rest) 0 (sym c.is_empty.ensures ∙ c.loop-rest-test.true) (ap length none) in
    read_bad c.args.bytes.now c.loop-rest.tokens.items rest c.loop-rest.described c.loop-rest.invariant left (ap (λ cs. token_at cs rest) columns ∙ absent)

pub returns-in-Err-Absent-clause-bad : goal.returns-in-Err-Absent-clause-bad
returns-in-Err-Absent-clause-bad c = bad c

pub returns-in-Err-Absent-clause-only : goal.returns-in-Err-Absent-clause-only
returns-in-Err-Absent-clause-only c =
    λ tokens are same. not_bad c.args.bytes.now (length c.args.bytes.now - length c.loop-rest.rest.now) tokens (bad c) are same

pub returns-clause-only : goal.returns-clause-only
returns-clause-only c =
    let rest = c.loop-rest.rest.now in
    let none : rest ≡ [] = nil_from_length rest (eqb-true (length rest) 0 (sym c.is_empty.ensures ∙ c.loop-rest-test.false)) in
    let whole = read_all c.args.bytes.now c.loop-rest.tokens.items rest c.loop-rest.described c.loop-rest.invariant none in
    λ tokens are same. stream_alone c.loop-rest.tokens.items tokens c.loop-rest.invariant.are_tokens are (whole ∙ sym same)
