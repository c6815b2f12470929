-- The changes of a write are asked: index rows that are to go or to be replaced are fetched first, and so sure where they were found; then all are
-- asked, and what checks them takes none.
use Rattle.std.proofs.Common.{◌≡◌, Bool, true, false, not, if◌then◌else◌, List, [], ◌∷◌, ◌++◌, Some, Result, Ok, Err, refl, sym, ap, ◌∙◌, subst, append-nil, append_assoc}
use Rattle.std.proofs.lemmas.Bool.{and_parts}
use Rattle.std.specs.Prelude.{ℕ, nat_eq}
use Rattle.std.specs.List.{AllByRecursion}
use Rattle.std.specs.Ordering.{is_eq}
use Rattle.std.specs.Cmp.{tied_itself}
use Rattle.lock_modes.specs.declared.KeyPart.TheVariants.{U}
use Rattle.value_types.specs.declared.table_name.TableName.{TableName}
use Rattle.value_types.specs.declared.value.Value.{Value}
use Rattle.value_types.specs.OrderLaws.{table_cmp_total}
use Rattle.tsql_tree.specs.declared.definition.TableTree.{TableTree}
use Rattle.step_model.specs.declared.change.Deed.{Deed}
use Rattle.step_model.specs.declared.change.Deed.TheVariants as deed
use Rattle.step_model.specs.declared.change.Planned.{Planned}
use Rattle.step_model.specs.declared.manner.Manner.{Manner}
use Rattle.step_model.specs.declared.op.Hold.TheVariants as hold
use Rattle.step_model.specs.declared.op.Op.{Op}
use Rattle.step_model.specs.declared.op.Op.TheVariants as ops
use Rattle.step_model.specs.declared.range.Start.TheVariants.{At}
use Rattle.step_model.specs.declared.range.Stop.TheVariants.{Within}
use Rattle.step_model.specs.declared.reply.Reply.{Reply}
use Rattle.step_model.specs.declared.reply.Reply.TheVariants as replies
use Rattle.step_model.specs.declared.resource.Span.{Span}
use Rattle.step_model.specs.declared.resource.Span.TheVariants.{Statement}
use Rattle.step_model.specs.Dialog as said
use Rattle.step_model.specs.Dialog.{Dialog}
use Rattle.step_model.specs.Exchange.{Exchange}
use Rattle.step_model.specs.Own.{is_insert, is_own}
use Rattle.constraint_check.specs.Reads.{reads_for}
use Rattle.dml_exec.specs.declared.refusal.Refusal.{Refusal}
use Rattle.dml_exec.specs.declared.refusal.Refusal.TheVariants.{Memory}
use Rattle.dml_exec.specs.Asking.{on_ok, with_room, ◌>>=◌}
use Rattle.dml_exec.specs.Planning.{as_found, as_told, is_asked, unless_there}
use Rattle.dml_exec.specs.Writing.{asks_key, asks_keys, attempts, behind_keys, checks_all, ends, marked, no_room, outcome, row_told, told, where_done, works, writes_all}
use Rattle.write_laws.specs.Reads.{HoldsIt}
use Rattle.write_laws.proofs.Parts.{AsksOnly}
use Rattle.write_laws.proofs.Checks.{all_fetches}
use Rattle.statement_paths.proofs.Only.{Says}
use Rattle.sure_laws.specs.Asked.{IsSureAt, IsTold}
use Rattle.sure_laws.proofs.Sures.{Any, IsCalm, SaysSure, becomes_sure, says_calm, says_more, says_then, stays_sure, sure_behind, with_one}
use Rattle.sure_laws.proofs.Writing.{AreReady, AreSpared, Takes, found_spared, says_writes}

-- ---- what is asked

asks_calm : {A : Type 0} (dialog : Dialog A) → AsksOnly HoldsIt dialog → Says IsCalm dialog
asks_calm (said.over a) only = tt
asks_calm (said.asks op quiet go) only = (by_op op only.0, λ reply. asks_calm (go reply) (only.1 reply))
  where
    by_op : (op : Op) → HoldsIt op → IsCalm op
    by_op (ops.Fetch table start stop held part) holds = tt
    by_op op holds = absurd holds
asks_calm (said.room go) only = λ enough. asks_calm (go enough) (only enough)
asks_calm said.never only = tt

-- ---- index rows that are asked for

asked_elsewhere : (change : Planned) → is_asked change ≡ true → nat_eq change.table.part 0 ≡ false
asked_elsewhere change asked = by_test (nat_eq change.table.part 0) (and_parts (not (is_own change)) (not (is_insert change.deed)) asked).0
  where
    by_test : (b : Bool) → not b ≡ true → b ≡ false
    by_test true is = absurd (let no : false ≡ true = is in cc)
    by_test false is = refl

module _ (manner : Manner) where
  -- what was sure still is
  abbrev Grows : List Exchange → List Exchange → Type 0
  Grows before behind = (span : Span) (t : TableName) (x : List Value) → sure_behind manner before span t x → sure_behind manner behind span t x

  -- the rows that are taken, and not asked for, are sure
  abbrev pub OthersReady : List Exchange → List Planned → Type 0
  OthersReady before changes = AllByRecursion (λ change. is_asked change ≡ false → Takes change → IsSureAt (sure_behind manner before) change.table change.key) changes

  others_on : (before behind : List Exchange) (changes : List Planned) → Grows before behind → OthersReady before changes → OthersReady behind changes
  others_on before behind [] grows others = tt
  others_on before behind (change ∷ changes) grows others = (
    (λ unasked takes. let was = others.0 unasked takes in (was.0, grows was.0 change.table change.key was.1)),
    others_on before behind changes grows others.1,
  )

  -- one key
  abbrev OneTold : List Exchange → TableName → List Value → Result Bool Refusal → List Exchange → Type 0
  OneTold before table key (Err why) behind = Unit {0}
  OneTold before table key (Ok there) behind = Grows before behind × (there ≡ true → IsSureAt (sure_behind manner behind) table key)

  fetched_on : (before : List Exchange) (table : TableName) (key : List Value) (reply : Reply) → Grows before (with_one manner before (ops.Fetch table (At key) (Within key) hold.Range U) reply)
  fetched_on before table key reply span t x was = stays_sure manner before (ops.Fetch table (At key) (Within key) hold.Range U) reply span t x was tt

  says_row : (before : List Exchange) (table : TableName) (key : List Value) (reply : Reply) → nat_eq table.part 0 ≡ false → IsTold before (ops.Fetch table (At key) (Within key) hold.Range U) reply
      → SaysSure manner (OneTold before table key) (with_one manner before (ops.Fetch table (At key) (Within key) hold.Range U) reply) (row_told reply)
  says_row before table key (replies.Row own row at) part of = (
    fetched_on before table key (replies.Row own row at),
    (λ there. (Statement, becomes_sure manner before (ops.Fetch table (At key) (Within key) hold.Range U) (replies.Row own row at) Statement table key (ap is_eq (tied_itself table_cmp_total table), of.0 part refl))),
  )
  says_row before table key (replies.Gone own at) part of = (fetched_on before table key (replies.Gone own at), (λ no. absurd (let not_so : false ≡ true = no in cc)))
  says_row before table key (replies.End at) part of = (fetched_on before table key (replies.End at), (λ no. absurd (let not_so : false ≡ true = no in cc)))
  says_row before table key replies.Memory part of = tt
  says_row before table key (replies.TimedOut holder held asked on) part of = tt
  says_row before table key (replies.Victim cycle) part of = tt
  says_row before table key reply part of = tt

  says_key : (before : List Exchange) (table : TableName) (key : List Value) → nat_eq table.part 0 ≡ false → SaysSure manner (OneTold before table key) before (asks_key table key)
  unfolding asks_key said.tries
  says_key before table key part = by_room
    where
      by_room : (enough : Bool) → SaysSure manner (OneTold before table key) before (if enough then said.asks (ops.Fetch table (At key) (Within key) hold.Range U) tt row_told else row_told replies.Memory)
      by_room true = (tt, λ reply can of. says_row before table key reply part of)
      by_room false = tt

  -- all of them: what is then asked is sure
  abbrev KeysTold : List Planned → List Bool → List Exchange → Result (List Bool) Refusal → List Exchange → Type 0
  KeysTold changes so_far before (Err why) behind = Unit {0}
  KeysTold changes so_far before (Ok all) behind = (found : List Bool) × (all ≡ so_far ++ found) × AreReady manner behind (as_found changes found) × Grows before behind

  none_found : (changes : List Planned) → as_found changes [] ≡ changes
  none_found [] = refl
  none_found (change ∷ changes) = refl

  ready_both : (behind : List Exchange) (front back : List Planned) → AreReady manner behind front → AreReady manner behind back → AreReady manner behind (front ++ back)
  ready_both behind [] back one other = other
  ready_both behind (x ∷ front) back one other = (one.0, ready_both behind front back one.1 other)

  -- where the first is not asked for
  unasked_on : (before : List Exchange) (change : Planned) (changes : List Planned) (so_far : List Bool) → is_asked change ≡ false → (Takes change → IsSureAt (sure_behind manner before) change.table change.key)
      → (came : Result (List Bool) Refusal) (behind : List Exchange) → KeysTold changes so_far before came behind → KeysTold (change ∷ changes) so_far before came behind
  unasked_on before change changes so_far is sure (Err why) behind told = tt
  unasked_on before change changes so_far is sure (Ok all) behind told = (told.0, told.1, by_found told.0 told.2, told.3)
    where
      here : Takes change → IsSureAt (sure_behind manner behind) change.table change.key
      here takes = let was = sure takes in (was.0, told.3 was.0 change.table change.key was.1)

      by_found : (found : List Bool) → AreReady manner behind (as_found changes found) → AreReady manner behind (as_found (change ∷ changes) found)
      by_found [] ready = (here, subst (AreReady manner behind) (none_found changes) ready)
      by_found (t ∷ found) ready = subst (λ (b : Bool). AreReady manner behind (if b then as_told t change ++ as_found changes found else change ∷ as_found changes (t ∷ found))) (sym is) (here, ready)

  told_ready : (behind : List Exchange) (change : Planned) (there : Bool) → (there ≡ true → IsSureAt (sure_behind manner behind) change.table change.key) → AreReady manner behind (as_told there change)
  told_ready behind change true sure = ((λ takes. sure refl), tt)
  told_ready behind change false sure = by_deed change.deed refl
    where
      by_deed : (deed : Deed) → change.deed ≡ deed → AreReady manner behind (unless_there change deed)
      by_deed deed.Erase is = tt
      by_deed (deed.Replace row) is = ((λ inserts. absurd (let no : true ≡ false = inserts in cc)), tt)
      by_deed (deed.Insert row) is = ((λ takes. absurd (let no : true ≡ false = sym (ap is_insert is) ∙ takes in cc)), tt)

  -- and where it is
  asked_on : (before mid : List Exchange) (change : Planned) (changes : List Planned) (so_far : List Bool) (there : Bool) → is_asked change ≡ true → Grows before mid → (there ≡ true → IsSureAt (sure_behind manner mid) change.table change.key)
      → (came : Result (List Bool) Refusal) (behind : List Exchange) → KeysTold changes (so_far ++ there ∷ []) mid came behind → KeysTold (change ∷ changes) so_far before came behind
  asked_on before mid change changes so_far there is grows sure (Err why) behind told = tt
  asked_on before mid change changes so_far there is grows sure (Ok all) behind told = (
    there ∷ told.0,
    told.1 ∙ append_assoc so_far (there ∷ []) told.0,
    subst (λ (b : Bool). AreReady manner behind (if b then as_told there change ++ as_found changes told.0 else change ∷ as_found changes (there ∷ told.0))) (sym is)
        (ready_both behind (as_told there change) (as_found changes told.0) (told_ready behind change there (λ so. let was = sure so in (was.0, told.3 was.0 change.table change.key was.1))) told.2),
    (λ span t x was. told.3 span t x (grows span t x was)),
  )

  abbrev next : List Planned → List Bool → Bool → Dialog (Result (List Bool) Refusal)
  next changes so_far there = with_room Memory (asks_keys changes (so_far ++ there ∷ []))

  pub says_keys : (before : List Exchange) (changes : List Planned) (so_far : List Bool) → OthersReady before changes → SaysSure manner (KeysTold changes so_far before) before (asks_keys changes so_far)
  unfolding asks_keys
  says_keys before [] so_far others = ([], sym (append-nil so_far), tt, (λ span t x was. was))
  says_keys before (change ∷ changes) so_far others = by_test (is_asked change) refl (says_keys before changes so_far others.1) (λ mid there grows. says_keys mid changes (so_far ++ there ∷ []) (others_on before mid changes grows others.1))
    where
      by_came : is_asked change ≡ true → ((mid : List Exchange) (there : Bool) → Grows before mid → SaysSure manner (KeysTold changes (so_far ++ there ∷ []) mid) mid (asks_keys changes (so_far ++ there ∷ [])))
          → (came : Result Bool Refusal) (mid : List Exchange) → OneTold before change.table change.key came mid → SaysSure manner (KeysTold (change ∷ changes) so_far before) mid (on_ok (next changes so_far) came)
      by_came is rest (Err why) mid told = tt
      by_came is rest (Ok there) mid told = by_room
        where
          by_room : (enough : Bool) → SaysSure manner (KeysTold (change ∷ changes) so_far before) mid (if enough then asks_keys changes (so_far ++ there ∷ []) else said.over (Err Memory))
          by_room true =
              says_more manner (KeysTold changes (so_far ++ there ∷ []) mid) (KeysTold (change ∷ changes) so_far before) mid (asks_keys changes (so_far ++ there ∷ []))
              (asked_on before mid change changes so_far there is told.0 told.1) (rest mid there told.0)
          by_room false = tt

      by_test : (b : Bool) → is_asked change ≡ b → SaysSure manner (KeysTold changes so_far before) before (asks_keys changes so_far)
          → ((mid : List Exchange) (there : Bool) → Grows before mid → SaysSure manner (KeysTold changes (so_far ++ there ∷ []) mid) mid (asks_keys changes (so_far ++ there ∷ [])))
          → SaysSure manner (KeysTold (change ∷ changes) so_far before) before (if b then (asks_key change.table change.key >>= λ there. with_room Memory (asks_keys changes (so_far ++ there ∷ []))) else asks_keys changes so_far)
      by_test true is same rest =
          says_then manner (OneTold before change.table change.key) (KeysTold (change ∷ changes) so_far before) before (asks_key change.table change.key) (on_ok (next changes so_far)) (says_key before change.table change.key (asked_elsewhere change is)) (by_came is rest)
      by_test false is same rest =
          says_more manner (KeysTold changes so_far before) (KeysTold (change ∷ changes) so_far before) before (asks_keys changes so_far) (unasked_on before change changes so_far is (λ takes. others.0 is takes)) same

  -- ---- the whole

  says_ends : (before : List Exchange) (mark : ℕ) (came : Result (Unit {0}) _) → SaysSure manner Any before (ends mark came)
  says_ends before mark (Ok done) = tt
  says_ends before mark (Err why) = (tt, λ reply can of. says_calm manner (with_one manner before (ops.BackTo mark) reply) (where_done (said.over (told (Some mark) (outcome why))) reply) (calm_done reply))
    where
      calm_done : (reply : Reply) → Says IsCalm (where_done (said.over (told (Some mark) (outcome why))) reply)
      calm_done replies.Done = tt
      calm_done reply = tt

  module _ (shapes : List TableTree) (changes : List Planned) where
    says_works : (before : List Exchange) (found : List Bool) → AreSpared changes → AreReady manner before (as_found changes found) → SaysSure manner Any before (works shapes changes found)
    unfolding works
    says_works before found spared ready =
        says_then manner Any Any before (writes_all shapes (as_found changes found)) (on_ok (λ done. with_room no_room (checks_all shapes (reads_for changes shapes))))
        (says_writes manner shapes before (as_found changes found) (found_spared changes found spared) ready) by_came
      where
        by_room : (behind : List Exchange) (enough : Bool) → SaysSure manner Any behind (if enough then checks_all shapes (reads_for changes shapes) else said.over (Err no_room))
        by_room behind true = says_calm manner behind (checks_all shapes (reads_for changes shapes)) (asks_calm (checks_all shapes (reads_for changes shapes)) (all_fetches shapes (reads_for changes shapes)))
        by_room behind false = tt

        by_came : (came : Result (Unit {0}) _) (behind : List Exchange) → Any came behind → SaysSure manner Any behind (on_ok (λ done. with_room no_room (checks_all shapes (reads_for changes shapes))) came)
        by_came (Ok done) behind any = by_room behind
        by_came (Err why) behind any = tt

    says_marked : (before : List Exchange) (found : List Bool) (reply : Reply) → AreSpared changes → AreReady manner before (as_found changes found) → SaysSure manner Any before (marked shapes changes found reply)
    says_marked before found (replies.Marked mark) spared ready =
        says_then manner Any Any before (works shapes changes found) (ends mark) (says_works before found spared ready) (λ came behind any. says_ends behind mark came)
    says_marked before found replies.Memory spared ready = tt
    says_marked before found reply spared ready = tt

    mark_leaves : (list : List Planned) (before : List Exchange) (reply : Reply) → AreReady manner before list → AreReady manner (with_one manner before ops.Mark reply) list
    mark_leaves [] before reply ready = tt
    mark_leaves (change ∷ list) before reply ready = (
      (λ takes. let was = ready.0 takes in (was.0, stays_sure manner before ops.Mark reply was.0 change.table change.key was.1 tt)),
      mark_leaves list before reply ready.1,
    )

    -- Where none is erased before, and those that are taken and not asked for are sure, so are all that are written.
    pub says_attempts : (before : List Exchange) → AreSpared changes → OthersReady before changes → SaysSure manner Any before (attempts shapes changes)
    unfolding attempts
    says_attempts before spared others = says_then manner (KeysTold changes [] before) Any before (asks_keys changes []) (behind_keys shapes changes) (says_keys before changes [] others) by_came
      where
        by_came : (came : Result (List Bool) Refusal) (behind : List Exchange) → KeysTold changes [] before came behind → SaysSure manner Any behind (behind_keys shapes changes came)
        by_came (Err why) behind told = tt
        by_came (Ok all) behind told =
            let ready : AreReady manner behind (as_found changes all) = subst (λ (found : List Bool). AreReady manner behind (as_found changes found)) (sym told.1) told.2 in
            (tt, λ reply can of. says_marked (with_one manner behind ops.Mark reply) all reply spared (mark_leaves (as_found changes all) behind reply ready))
