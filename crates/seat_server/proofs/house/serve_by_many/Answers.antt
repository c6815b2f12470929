use Rattle.std.proofs.Common.{List, length, take, reverse, sym, ap, ◌∙◌, subst, arith, length-append}
use Rattle.shared_port.specs.Asked.{EngineSeat}
use Rattle.seat_server.specs.Workers.{AllWorked}
use Rattle.seat_server.proofs.Dismissing.{long_reverse, stays_self}
use Rattle.seat_server.proofs.Housing.{all_long, drop_these, firsts_idle, many_hosted, many_numbers, stood_aside, stood_split, take_these}
use Rattle.seat_server.proofs.Totals.{none_worked}
use Rattle.seat_server.proofs.house.serve_by_many.Goals as goal

pub returns-in_default-clause-worked : goal.returns-in_default-clause-worked
returns-in_default-clause-worked g c =
    let H = g.H.Hall in
    let I = g.H.Door.Line.Source in
    let O = g.H.Door.Line.Sink in
    none_worked I.left I.given I.faults O.written O.faults c.args.config.now c.args.rounds (take c.args.workers c.args.seats.now.items) (H.told c.args.hall.now) (H.told c.args.hall.now) c.without_memory.result (stays_self (H.told c.args.hall.now)) c.without_memory.ensures

pub serve_workers-first-requires-clause-idle : goal.serve_workers-first-requires-clause-idle
serve_workers-first-requires-clause-idle g c κs within =
    let olds = c.args.seats.now.items in
    let firsts = c.replace-first.result.items in
    let others = reverse c.stand_aside.new.others.items in
    firsts_idle c.args.desk.now.desk olds firsts others (stood_split olds firsts others c.args.workers (ap (λ v. v.items) c.replace-first.ensures.value ∙ c.stand_aside.ensures.first) c.stand_aside.ensures.others) c.requires.hosted

pub stand_back-requires : goal.stand_back-requires
stand_back-requires g c =
    let olds = c.args.seats.now in
    let others = c.stand_aside.new.others.items in
    let first = c.replace-first.ensures.value in
    let firsts = ap (λ v. v.items) first ∙ c.stand_aside.ensures.first in
    let split = stood_split olds.items c.replace-first.result.items (reverse others) c.args.workers firsts c.stand_aside.ensures.others in
    let served = c.serve_workers-first in
    let worked = served.ensures.worked in
    record {
      room = omega (arith, served.ensures.room, ap (λ v. v.cap) first, c.stand_aside.ensures.capacity, olds.ok.0, olds.ok.1, ap length split, length-append c.replace-first.result.items (reverse others), long_reverse others, all_long c.replace-first.result.items served.result.0.items worked.each worked.follow);
    }

pub returns-clause-worked : goal.returns-clause-worked
returns-clause-worked g c =
    let H = g.H.Hall in
    let I = g.H.Door.Line.Source in
    let O = g.H.Door.Line.Sink in
    let olds = c.args.seats.now.items in
    let firsts = c.replace-first.result.items in
    let others = reverse c.stand_aside.new.others.items in
    let firsts_are = ap (λ v. v.items) c.replace-first.ensures.value ∙ c.stand_aside.ensures.first in
    let served = c.serve_workers-first in
    let worked = served.ensures.worked in
    let aside = stood_aside olds firsts others c.stand_back.new.seats.items served.result.0.items c.args.workers c.requires.few firsts_are c.stand_aside.ensures.others c.stand_back.ensures in
    let long = all_long firsts served.result.0.items worked.each worked.follow ∙ aside.long in
    let told_old = H.told c.args.hall.now in
    let told_new = H.told served.new.hall in
    subst (λ (l : List EngineSeat). AllWorked I.left I.given I.faults O.written O.faults c.args.config.now c.args.rounds l (take c.args.workers c.stand_back.new.seats.items) told_old told_new served.result.1) firsts_are
    (subst (λ (l : List EngineSeat). AllWorked I.left I.given I.faults O.written O.faults c.args.config.now c.args.rounds firsts l told_old told_new served.result.1) (sym (take_these served.result.0.items others c.stand_back.new.seats.items c.args.workers long aside.back)) worked)

pub returns-clause-others : goal.returns-clause-others
returns-clause-others g c =
    let olds = c.args.seats.now.items in
    let firsts = c.replace-first.result.items in
    let others = reverse c.stand_aside.new.others.items in
    let firsts_are = ap (λ v. v.items) c.replace-first.ensures.value ∙ c.stand_aside.ensures.first in
    let served = c.serve_workers-first in
    let worked = served.ensures.worked in
    let aside = stood_aside olds firsts others c.stand_back.new.seats.items served.result.0.items c.args.workers c.requires.few firsts_are c.stand_aside.ensures.others c.stand_back.ensures in
    let long = all_long firsts served.result.0.items worked.each worked.follow ∙ aside.long in
    drop_these served.result.0.items others c.stand_back.new.seats.items c.args.workers long aside.back ∙ c.stand_aside.ensures.others

pub returns-clause-hosted : goal.returns-clause-hosted
returns-clause-hosted g c =
    let olds = c.args.seats.now.items in
    let firsts = c.replace-first.result.items in
    let others = reverse c.stand_aside.new.others.items in
    let firsts_are = ap (λ v. v.items) c.replace-first.ensures.value ∙ c.stand_aside.ensures.first in
    let served = c.serve_workers-first in
    let worked = served.ensures.worked in
    let aside = stood_aside olds firsts others c.stand_back.new.seats.items served.result.0.items c.args.workers c.requires.few firsts_are c.stand_aside.ensures.others c.stand_back.ensures in
    many_hosted c.args.desk.now.desk olds firsts others c.stand_back.new.seats.items served.result.0.items worked.each aside.split aside.back worked.follow c.requires.hosted

pub returns-clause-numbers : goal.returns-clause-numbers
returns-clause-numbers g c =
    let olds = c.args.seats.now.items in
    let firsts = c.replace-first.result.items in
    let others = reverse c.stand_aside.new.others.items in
    let firsts_are = ap (λ v. v.items) c.replace-first.ensures.value ∙ c.stand_aside.ensures.first in
    let served = c.serve_workers-first in
    let worked = served.ensures.worked in
    many_numbers olds firsts others c.stand_back.new.seats.items served.result.0.items worked.each (stood_split olds firsts others c.args.workers firsts_are c.stand_aside.ensures.others) c.stand_back.ensures worked.follow
