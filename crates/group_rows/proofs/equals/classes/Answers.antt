use Rattle.std.proofs.Common.{◌≡◌, ◌+◌, ◌++◌, ◌∷◌, [], Some, map, take, length, cond, sym, refl, ◌∙◌, ap, subst, arith}
use Rattle.std.proofs.lemmas.List.{length-map, map_push}
use Rattle.std.specs.BTreeMap.{get}
use Rattle.std.specs.Ordering.{on}
use Rattle.value_types.specs.Order.{key_cmp}
use Rattle.group_rows.specs.declared.keyed.Keyed.{Keyed}
use Rattle.group_rows.specs.Equals.{same_row}
use Rattle.group_rows.proofs.Gathering.{Gathered, Gathered-below, grown_items, Gathered-next_old, Gathered-next_new, row_of, same_row_laws}
use Rattle.group_rows.proofs.equals.classes.Goals as goal
use Rattle.group_rows.proofs.equals.classes.Goals.{in-Some+in_ok-push-in-Some, in-None+in_ok-insert-in-None+in_ok-vec-in-None+in_ok-push-in-None}

pub index_mut-requires : goal.index_mut-requires
index_mut-requires c =
    let key : Keyed = record { row = record { ref_ptr = (0, 0); now = c.index-keys-place.result } } in
    let found = map (λ class. class.items) c.loop-place.classes.items in
    let below = Gathered-below same_row same_row_laws row_of _ found _ key c.in-Some.number.now c.loop-place.invariant (sym c.in-Some.ensures.value) in
    omega (arith, below, length-map c.loop-place.classes.items (λ class. class.items), c.loop-place.classes.ok.0)

pub loop-place-preserved : goal.loop-place-preserved
loop-place-preserved c =
    let key : Keyed = record { row = record { ref_ptr = (0, 0); now = c.index-keys-place.result } } in
    let found = map (λ class. class.items) c.loop-place.classes.items in
    elim c.match-get.branch [
      | in-Some+in_ok-push-in-Some w ↦
          let below = Gathered-below same_row same_row_laws row_of _ found _ key w.in-Some.number.now c.loop-place.invariant (sym w.in-Some.ensures.value) in
          let grows = grown_items c.loop-place.classes.items w.in-Some.number.now w.index_mut.result.now w.push.new.self c.loop-place.place (omega (arith, below, length-map c.loop-place.classes.items (λ class. class.items))) w.index_mut.ensures.value w.in_ok-push-in-Some.ensures.items in
          subst (λ m. Gathered same_row same_row_laws row_of (take (c.loop-place.place + 1) c.args.keys.now) (map (λ class. class.items) c.match-get.classes.items) (λ q. get (on row_of key_cmp) m q)) (sym w.numbers-is)
          (subst (λ l. Gathered same_row same_row_laws row_of (take (c.loop-place.place + 1) c.args.keys.now) l (λ q. get (on row_of key_cmp) c.loop-place.numbers q)) (sym (ap (λ v. map (λ class. class.items) v.items) w.classes-is ∙ grows))
          (Gathered-next_old c.args.keys.now c.loop-place.place c.index-keys-place.result found _ key w.in-Some.number.now c.loop-place-test.true c.index-keys-place.is refl c.loop-place.invariant (sym w.in-Some.ensures.value)))
      | in-None+in_ok-insert-in-None+in_ok-vec-in-None+in_ok-push-in-None w ↦
          let added : w.push-in-None.new.self.items ≡ c.loop-place.classes.items ++ w.in_ok-vec-in-None.field-0 ∷ [] = w.in_ok-push-in-None.ensures.items in
          let found_is : map (λ class. class.items) c.match-get.classes.items ≡ found ++ (c.loop-place.place ∷ []) ∷ []
          = ap (λ v. map (λ class. class.items) v.items) w.classes-is ∙ ap (map (λ class. class.items)) added
          ∙ map_push (λ class. class.items) c.loop-place.classes.items w.in_ok-vec-in-None.field-0 ∙ ap (λ l. found ++ l ∷ []) w.in_ok-vec-in-None.ensures.items in
          let long : w.len.result ≡ length found = w.len.ensures ∙ c.loop-place.classes.ok.0 ∙ sym (length-map c.loop-place.classes.items (λ class. class.items)) in
          subst (λ m. Gathered same_row same_row_laws row_of (take (c.loop-place.place + 1) c.args.keys.now) (map (λ class. class.items) c.match-get.classes.items) (λ q. get (on row_of key_cmp) m q)) (sym w.numbers-is)
          (subst (λ l. Gathered same_row same_row_laws row_of (take (c.loop-place.place + 1) c.args.keys.now) l (λ q. get (on row_of key_cmp) w.insert.new.self q)) (sym found_is)
          (Gathered-next_new c.args.keys.now c.loop-place.place c.index-keys-place.result found _ _ key c.loop-place-test.true c.index-keys-place.is refl c.loop-place.invariant (sym w.in-None.ensures.value)
          (λ q. w.in_ok-insert-in-None.ensures.updates.0 q ∙ ap (λ m. cond (same_row (row_of key) (row_of q)) (Some m) (get (on row_of key_cmp) c.loop-place.numbers q)) long)))
    ]
