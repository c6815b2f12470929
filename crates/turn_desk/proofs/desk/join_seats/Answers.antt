use Rattle.std.proofs.Common.{rules, ◌≡◌, [], ◌∷◌, ◌++◌, map, length, sym, ap, ◌∙◌, subst, append-nil}
use Rattle.std.specs.Prelude.{Some}
use Rattle.std.proofs.lemmas.List.Elements.{All-pop}
use Rattle.turn_desk.specs.Views.{IsIdle, pasts, past_of_seat}
use Rattle.turn_desk.proofs.Seating.{joins_from}
use Rattle.turn_desk.proofs.Closing.{goes_over, none_left}
use Rattle.turn_desk.proofs.desk.join_seats.Goals as goal

pub loop-seat-init : goal.loop-seat-init
loop-seat-init g c =
    let seats = c.args.seats.items in
    let left = c.pop.new.self.items in
    let popped = c.in-Some.ensures.items in
    let made = c.into_token-token.ensures in
    let view = ap (λ m. m.0) made.view in
    let desks = All-pop (λ s. s.desk ≡ c.args.table.now.table_id) seats left (Some c.in-Some.last) popped c.requires.desk in (
      made.table ∙ desks.1,
      ap (λ m. m.1) made.view,
      subst IsIdle (sym view) tt,
      sym (append-nil (map past_of_seat seats)) ∙ (goes_over past_of_seat seats left c.in-Some.last [] popped ∙ ap (λ v. map past_of_seat left ++ pasts v) (sym view)),
      desks.0,
    )

pub join_seat-requires : goal.join_seat-requires
join_seat-requires g c =
    let M = g.M.Machine in
    let key = c.args.table.now.key in
    let i = c.loop-seat.invariant in
    let made = c.into_token.ensures in
    let popped = c.in-Some-pop.ensures.items in
    let desks = All-pop (λ s. s.desk ≡ c.args.table.now.table_id) c.loop-seat.seats.items c.pop-in-loop-seat.new.self.items (Some c.in-Some-pop.seat) popped i.4 in (
      i.0,
      made.table ∙ desks.1,
      ap (λ m. m.1) made.view,
      search rules,
      joins_from M.story M.knows M.within (M.story key.machine.value) key.seats _ c.loop-seat.token.me.0 _ c.into_token.result.me.0 _ i.2 (ap (λ m. m.0) made.view),
    )

pub loop-seat-preserved : goal.loop-seat-preserved
loop-seat-preserved g c =
    let i = c.loop-seat.invariant in
    let before = c.loop-seat.seats.items in
    let left = c.pop-in-loop-seat.new.self.items in
    let seat = c.in-Some-pop.seat in
    let made = c.into_token.ensures in
    let joined = c.join_seat.ensures in
    let popped = c.in-Some-pop.ensures.items in
    let desks = All-pop (λ s. s.desk ≡ c.args.table.now.table_id) before left (Some seat) popped i.4 in
    let view = ap (λ m. m.0) joined.2 in
    let whole : pasts c.join_seat.new.seat.me.0 ≡ past_of_seat seat ∷ pasts c.loop-seat.token.me.0 = ap pasts view ∙ ap (λ m. pasts m.0 ++ pasts c.loop-seat.token.me.0) made.view in (
      joined.0 ∙ i.0,
      ap (λ m. m.1) joined.2 ∙ i.1,
      subst IsIdle (sym view) tt,
      i.3 ∙ (goes_over past_of_seat before left seat (pasts c.loop-seat.token.me.0) popped ∙ ap (λ ps. map past_of_seat left ++ ps) (sym whole)),
      desks.0,
    )

pub returns-clause-pasts : goal.returns-clause-pasts
returns-clause-pasts g c =
    let i = c.loop-seat.invariant in
    let left : length c.loop-seat.seats.items ≡ 0 = search rules in
    sym (i.3 ∙ none_left past_of_seat c.loop-seat.seats.items (pasts c.loop-seat.token.me.0) left)
