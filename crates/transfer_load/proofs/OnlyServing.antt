-- Houses whose seats did nothing but serve connections.
use Rattle.std.proofs.Common.{◌≡◌, ◌≤◌, ◌∙◌, ℕ, zero, suc, List, [], ◌∷◌, ◌++◌, Option, refl, sym, ap, subst, arith}
use Rattle.std.specs.Prelude.{take, drop}
use Rattle.tds_login.specs.declared.config.Config.{Config}
use Rattle.session_server.specs.declared.end.End.{End}
use Rattle.shared_port.specs.Asked.{EngineSeat}
use Rattle.seat_server.specs.Served.{Course, ServedConnection}
use Rattle.seat_server.specs.Workers.{AllFollow}
use Rattle.seat_server.specs.House.{HouseState, ServesFirst}
use Rattle.seat_server.proofs.Courses.{follow_append, follow_one}
use Rattle.seat_server.proofs.Serving.{course_of}
use Rattle.transfer_load.specs.Load.{OnlyServes}

-- ---- of their seats

abbrev Only : List EngineSeat → List EngineSeat → Type 0
Only olds news = (each : List (List Course)) × AllFollow olds each news

none : (seats : List EngineSeat) → Only seats seats
none [] = ([], tt)
none (seat ∷ seats) = let rest = none seats in ([] ∷ rest.0, (refl, rest.1))

both : (olds mids news : List EngineSeat) (first second : List (List Course)) → AllFollow olds first mids → AllFollow mids second news → Only olds news
both [] [] [] [] [] f s = ([], tt)
both [] [] (new ∷ news) [] [] f s = absurd s
both [] [] news [] (courses ∷ second) f s = absurd s
both [] (mid ∷ mids) news [] second f s = absurd f
both [] mids news (courses ∷ first) second f s = absurd f
both (old ∷ olds) mids news [] second f s = absurd f
both (old ∷ olds) [] news (courses ∷ first) second f s = absurd f
both (old ∷ olds) (mid ∷ mids) news (courses ∷ first) [] f s = absurd s
both (old ∷ olds) (mid ∷ mids) [] (courses ∷ first) (more ∷ second) f s = absurd s
both (old ∷ olds) (mid ∷ mids) (new ∷ news) (courses ∷ first) (more ∷ second) f s =
    let rest = both olds mids news first second f.1 s.1 in
    ((courses ++ more) ∷ rest.0, (follow_append old mid new courses more f.0 s.0, rest.1))

module _ (config : Config) (gave : List ℕ → Type 0) (left sink_before sink_after : Option (List ℕ)) (end : End) where
  first : (olds news : List EngineSeat) → ServesFirst (λ old new. ServedConnection config gave left sink_before sink_after old new end) olds news → Only olds news
  first [] news served = absurd served
  first (old ∷ olds) [] served = absurd served
  first (old ∷ olds) (new ∷ news) served =
      let rest = subst (Only olds) (sym served.1) (none olds) in
      let course : Course = record { old = old; new = new; end = end } in
      ((course ∷ []) ∷ rest.0, (follow_one course old refl (course_of config gave left sink_before sink_after old new end served.0), rest.1))

some : (many : ℕ) (olds news : List EngineSeat) (each : List (List Course)) → AllFollow (take many olds) each (take many news) → drop many news ≡ drop many olds → Only olds news
some zero olds news each f same = subst (Only olds) (sym same) (none olds)
some (suc many) [] [] each f same = ([], tt)
some (suc many) [] (new ∷ news) [] f same = absurd f
some (suc many) [] (new ∷ news) (courses ∷ each) f same = absurd f
some (suc many) (old ∷ olds) [] [] f same = absurd f
some (suc many) (old ∷ olds) [] (courses ∷ each) f same = absurd f
some (suc many) (old ∷ olds) (new ∷ news) [] f same = absurd f
some (suc many) (old ∷ olds) (new ∷ news) (courses ∷ each) f same =
    let rest = some many olds news each f.1 same in (courses ∷ rest.0, (f.0, rest.1))

-- ---- the others

drop_none : (many : ℕ) → drop {A = EngineSeat} many [] ≡ []
drop_none zero = refl
drop_none (suc many) = refl

-- where all but the first are the same, those behind more are
behind_more : (many : ℕ) (news olds : List EngineSeat) → drop 1 news ≡ drop 1 olds → drop (suc many) news ≡ drop (suc many) olds
behind_more many [] [] same = refl
behind_more many [] (old ∷ olds) same = sym (drop_none many) ∙ ap (drop many) same
behind_more many (new ∷ news) [] same = ap (drop many) same ∙ drop_none many
behind_more many (new ∷ news) (old ∷ olds) same = ap (drop many) same

behind_first : (does : EngineSeat → EngineSeat → Type 0) (olds news : List EngineSeat) → ServesFirst does olds news → drop 1 news ≡ drop 1 olds
behind_first does [] news served = absurd served
behind_first does (old ∷ olds) [] served = absurd served
behind_first does (old ∷ olds) (new ∷ news) served = served.1

-- ---- of the houses

pub only_none : (many : ℕ) (house : HouseState) → OnlyServes many house house
only_none many house = let each = none house.seats in record { desk = refl; each = each.0; follow = each.1; others = refl }

pub only_both : (many : ℕ) (old mid new : HouseState) → OnlyServes many old mid → OnlyServes many mid new → OnlyServes many old new
only_both many old mid new one other =
    let each = both old.seats mid.seats new.seats one.each other.each one.follow other.follow in
    record { desk = other.desk ∙ one.desk; each = each.0; follow = each.1; others = other.others ∙ one.others }

-- the first seat is one of more
pub only_more : (many : ℕ) (old new : HouseState) → 1 ≤ many → OnlyServes 1 old new → OnlyServes many old new
only_more zero old new some only = absurd (let no : 1 ≤ 0 = some in omega (arith, no))
only_more (suc many) old new some only = record { desk = only.desk; each = only.each; follow = only.follow; others = behind_more many new.seats old.seats only.others }

pub only_first : (config : Config) (gave : List ℕ → Type 0) (left sink_before sink_after : Option (List ℕ)) (end : End) (old new : HouseState) → new.desk ≡ old.desk
    → ServesFirst (λ one other. ServedConnection config gave left sink_before sink_after one other end) old.seats new.seats → OnlyServes 1 old new
only_first config gave left sink_before sink_after end old new same served =
    let each = first config gave left sink_before sink_after end old.seats new.seats served in
    record { desk = same; each = each.0; follow = each.1; others = behind_first (λ one other. ServedConnection config gave left sink_before sink_after one other end) old.seats new.seats served }

pub only_some : (many : ℕ) (old new : HouseState) (each : List (List Course)) → new.desk ≡ old.desk → AllFollow (take many old.seats) each (take many new.seats) → drop many new.seats ≡ drop many old.seats → OnlyServes many old new
only_some many old new each same follow others =
    let all = some many old.seats new.seats each follow others in
    record { desk = same; each = all.0; follow = all.1; others = others }
