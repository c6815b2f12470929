use Rattle.std.proofs.Common.{sym, subst, refl}
use Rattle.seat_server.specs.Served.{HasServed}
use Rattle.seat_server.proofs.Housing.{first_hosted, first_numbers, served_idle, turned_lent}
use Rattle.seat_server.proofs.Serving.{course_of}
use Rattle.seat_server.proofs.house.serve_by_first.Goals as goal

pub serve_connection-seat-requires-clause-idle : goal.serve_connection-seat-requires-clause-idle
serve_connection-seat-requires-clause-idle g c = served_idle c.remove-seat.result (subst HasServed (sym c.remove-seat.ensures.value) (c.requires.hosted.served 0 c.remove-seat.result c.requires.some))

pub returns-clause-hosted : goal.returns-clause-hosted
returns-clause-hosted g c =
    let olds = c.args.seats.now.items in
    let pushed = c.push_reserved.new.self in
    let served = c.serve_connection-seat in
    let t = turned_lent olds c.remove-seat.new.self.items pushed.items c.as_mut_slice.result.now c.rotate_right.new.self pushed.len c.remove-seat.result served.result.0 c.requires.some c.remove-seat.ensures.value c.remove-seat.ensures.by_index.2 c.push_reserved.ensures.items
    c.as_mut_slice.ensures.value c.rotate_right.ensures.after c.rotate_right.ensures.len pushed.ok.0 in
    first_hosted c.args.desk.now.desk olds _ c.remove-seat.result t.rest served.result.0 (record { old = c.remove-seat.result; new = served.result.0; end = served.result.1 }) t.olds_are t.news_are refl refl
    (course_of c.args.config.now _ _ _ _ c.remove-seat.result served.result.0 served.result.1 served.ensures.served) c.requires.hosted

pub returns-clause-numbers : goal.returns-clause-numbers
returns-clause-numbers g c =
    let olds = c.args.seats.now.items in
    let pushed = c.push_reserved.new.self in
    let served = c.serve_connection-seat in
    let t = turned_lent olds c.remove-seat.new.self.items pushed.items c.as_mut_slice.result.now c.rotate_right.new.self pushed.len c.remove-seat.result served.result.0 c.requires.some c.remove-seat.ensures.value c.remove-seat.ensures.by_index.2 c.push_reserved.ensures.items
    c.as_mut_slice.ensures.value c.rotate_right.ensures.after c.rotate_right.ensures.len pushed.ok.0 in
    first_numbers olds _ c.remove-seat.result served.result.0 (record { old = c.remove-seat.result; new = served.result.0; end = served.result.1 }) t refl refl
    (course_of c.args.config.now _ _ _ _ c.remove-seat.result served.result.0 served.result.1 served.ensures.served)
