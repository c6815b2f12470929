use Rattle.std.proofs.Common.{◌≡◌, ◌∷◌, [], ◌++◌, arith, rules, length, refl, ap}
use Rattle.std.specs.Int.{w32, to_le_bytes, cast_unsigned}
use Rattle.tds_tokens.specs.Spelling.{b_varchar, us_varchar, server_name}
use Rattle.tds_tokens.proofs.Joins.{and_then}
use Rattle.tds_tokens.proofs.Lengths.{length-notice_bytes}
use Rattle.tds_tokens.proofs.writing.put_notice_body.Goals as goal

pub put_us_varchar-requires-clause-room : goal.put_us_varchar-requires-clause-room
put_us_varchar-requires-clause-room c =
    omega (arith, length-notice_bytes c.args.notice.now, ap length c.as_slice.ensures)

pub put_b_varchar-requires-clause-room : goal.put_b_varchar-requires-clause-room
put_b_varchar-requires-clause-room c =
    omega (arith, length-notice_bytes c.args.notice.now, ap length c.as_slice.ensures, ap length c.as_slice-2.ensures)

pub returns-clause-items : goal.returns-clause-items
returns-clause-items c =
    let out = c.args.out.now.items in
    let notice = c.args.notice.now in
    let a = to_le_bytes w32 (cast_unsigned w32 notice.number) in
    let b = a ++ (notice.state ∷ notice.class ∷ []) in
    let d = b ++ us_varchar notice.text in
    let e = d ++ b_varchar server_name in
    let f = e ++ b_varchar notice.procedure in
    let number : c.put_i32.new.out.items ≡ out ++ a = search rules in
    let class = and_then out a (notice.state ∷ notice.class ∷ []) _ number c.append.ensures.items refl in
    let text = and_then out b _ (us_varchar notice.text) class c.put_us_varchar.ensures.items (ap us_varchar c.as_slice.ensures) in
    let server = and_then out d (b_varchar server_name) _ text c.append-2.ensures.items refl in
    let procedure = and_then out e _ (b_varchar notice.procedure) server c.put_b_varchar.ensures.items (ap b_varchar c.as_slice-2.ensures) in
    let line : c.put_i32-2.new.out.items ≡ c.put_b_varchar.new.out.items ++ to_le_bytes w32 (cast_unsigned w32 notice.line) = search rules in
    and_then out f (to_le_bytes w32 (cast_unsigned w32 notice.line)) _ procedure line refl
