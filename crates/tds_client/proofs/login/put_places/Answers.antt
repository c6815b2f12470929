use Rattle.std.proofs.Common.{◌++◌}
use Rattle.tds_login.specs.Login.{fixed_length}
use Rattle.tds_client.specs.Sending.{login_places, place_bytes, three_empty}
use Rattle.tds_client.proofs.LoginParts.{put_behind}
use Rattle.tds_client.proofs.login.put_places.Goals as goal

pub returns : goal.returns
unfolding login_places
returns c =
    let old = c.args.out.now.items in
    let host = place_bytes fixed_length 0 in
    let user = place_bytes fixed_length c.args.user in
    let password = place_bytes c.args.start c.args.password in
    let empty = three_empty c.args.end in
    let two = put_behind old c.put_place.new.out.items c.put_place-2.new.out.items host user c.in_ok-put_place.ensures c.in_ok-put_place-2.ensures in
    let three = put_behind old c.put_place-2.new.out.items c.put_place-3.new.out.items (host ++ user) password two c.in_ok-put_place-3.ensures in
    let six = put_behind old c.put_place-3.new.out.items c.put_three_empty.new.out.items (host ++ user ++ password) empty three c.in_ok-put_three_empty.ensures in
    put_behind old c.put_three_empty.new.out.items c.put_three_empty-2.new.out.items (host ++ user ++ password ++ empty) empty six c.in_ok-put_three_empty-2.ensures
