use Rattle.std.proofs.Common.{◌∷◌, [], ◌++◌, length, refl, ap, arith}
use Rattle.std.specs.Int.{w16, to_le_bytes}
use Rattle.tds_tokens.specs.Spelling.{b_varchar, return_value_start, type_info, value_bytes}
use Rattle.tds_tokens.proofs.Joins.{and_then}
use Rattle.tds_tokens.proofs.Lengths.{length-return_value}
use Rattle.tds_tokens.proofs.writing.put_return_value.Goals as goal

pub put_b_varchar-requires-clause-room : goal.put_b_varchar-requires-clause-room
put_b_varchar-requires-clause-room c =
    omega (arith, length-return_value c.args.ordinal c.args.name.now c.args.kind c.args.value.now, ap length c.as_slice.ensures)

pub put_type-requires-clause-room : goal.put_type-requires-clause-room
put_type-requires-clause-room c =
    omega (arith, length-return_value c.args.ordinal c.args.name.now c.args.kind c.args.value.now, ap length c.as_slice.ensures)

pub put_value-requires-clause-room : goal.put_value-requires-clause-room
put_value-requires-clause-room c =
    omega (arith, length-return_value c.args.ordinal c.args.name.now c.args.kind c.args.value.now, ap length c.as_slice.ensures)

pub returns-clause-items : goal.returns-clause-items
returns-clause-items c =
    let out = c.args.out.now.items in
    let a = 0xAC ∷ to_le_bytes w16 c.args.ordinal in
    let b = a ++ b_varchar c.args.name.now in
    let d = b ++ return_value_start in
    let e = d ++ type_info c.args.kind in
    let ordinal = and_then out (0xAC ∷ []) _ (to_le_bytes w16 c.args.ordinal) c.append.ensures.items c.put_u16.ensures.items refl in
    let name = and_then out a _ (b_varchar c.args.name.now) ordinal c.put_b_varchar.ensures.items (ap b_varchar c.as_slice.ensures) in
    let start = and_then out b _ return_value_start name c.append-2.ensures.items refl in
    let kind = and_then out d (type_info c.args.kind) _ start c.put_type.ensures.items refl in
    and_then out e (value_bytes c.args.kind c.args.value.now) _ kind c.put_value.ensures.items refl
