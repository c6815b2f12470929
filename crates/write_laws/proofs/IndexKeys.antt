-- Index rows that are asked for before anything is changed.
use Rattle.std.proofs.Common.{◌≡◌, refl, sym, ap, ◌∙◌, subst, Bool, true, false, not, ◌&&◌, if◌then◌else◌, List, [], ◌∷◌, ◌++◌, length, map, is_some, Result, Ok, append-nil, append_assoc}
use Rattle.std.specs.List.{AllByRecursion}
use Rattle.lock_modes.specs.declared.KeyPart.TheVariants.{U}
use Rattle.value_types.specs.declared.table_name.TableName.{TableName}
use Rattle.value_types.specs.declared.value.Value.{Value}
use Rattle.step_model.specs.declared.change.Planned.{Planned}
use Rattle.step_model.specs.declared.manner.Manner.{Manner}
use Rattle.step_model.specs.declared.op.Hold.TheVariants.{Range}
use Rattle.step_model.specs.declared.op.Op.{Op}
use Rattle.step_model.specs.declared.op.Op.TheVariants as ops
use Rattle.step_model.specs.declared.range.Start.TheVariants.{At}
use Rattle.step_model.specs.declared.range.Stop.TheVariants.{Within}
use Rattle.step_model.specs.declared.reply.Reply.{Reply}
use Rattle.step_model.specs.declared.reply.Reply.TheVariants as replies
use Rattle.step_model.specs.Database.{Database}
use Rattle.step_model.specs.Dialog.{Dialog, Held, asks, tries}
use Rattle.step_model.specs.Exchange.{CanReply, Exchange}
use Rattle.step_model.specs.Fits.{AnswersIn}
use Rattle.step_model.specs.Own.{is_own}
use Rattle.constraint_check.specs.Laws.{KeysAreOne}
use Rattle.constraint_check.proofs.Lists.{all_left, all_more, all_right}
use Rattle.dml_exec.specs.declared.refusal.Refusal.{Refusal}
use Rattle.dml_exec.specs.declared.refusal.Refusal.TheVariants.{Memory}
use Rattle.dml_exec.specs.Asking.{◌>>=◌, with_room}
use Rattle.dml_exec.specs.Planning.{as_found, as_told, asked_of, index_deeds, is_asked}
use Rattle.dml_exec.specs.Writing.{asks_key, asks_keys, row_told}
use Rattle.write_laws.specs.IndexKeys.{AskedStand, FoundAll, KeysTold, stood_at}
use Rattle.write_laws.specs.Indexing.{StandsThere, row_deeds}
use Rattle.write_laws.specs.Made.{inserts}
use Rattle.write_laws.specs.Reads.{HoldsIt, KeysHave, Tells, at_place}
use Rattle.write_laws.proofs.Changes.{all_both}
use Rattle.write_laws.proofs.Dialogs.{held_ok, held_room, ok_err}
use Rattle.write_laws.proofs.Indexing.{index_stands, rows_own}
use Rattle.write_laws.proofs.Parts.{Fetches, all_asked, answers, asks_ok, asks_room, one_place}
use Rattle.write_laws.proofs.Walks.{key_told}

-- ---- what is asked

row_only : (reply : Reply) → Fetches (row_told reply)
row_only (replies.Row key row at) = tt
row_only (replies.Gone key at) = tt
row_only (replies.End at) = tt
row_only replies.Memory = tt
row_only (replies.TimedOut holder held asked on) = tt
row_only (replies.Victim cycle) = tt
row_only reply = tt

key_fetches : (table : TableName) (key : List Value) → Fetches (asks_key table key)
unfolding asks_key tries
key_fetches table key = by_room
  where
    by_room : (enough : Bool) → Fetches (if enough then asks (ops.Fetch table (At key) (Within key) Range U) tt row_told else row_told replies.Memory)
    by_room true = (tt, row_only)
    by_room false = tt

keys_fetch : (changes : List Planned) (so_far : List Bool) → Fetches (asks_keys changes so_far)
unfolding asks_keys
keys_fetch [] so_far = tt
keys_fetch (change ∷ changes) so_far = by_test (is_asked change) (keys_fetch changes)
  where
    by_test : (b : Bool) → ((so_far : List Bool) → Fetches (asks_keys changes so_far)) → Fetches (if b then (asks_key change.table change.key >>= λ there. with_room Memory (asks_keys changes (so_far ++ there ∷ []))) else asks_keys changes so_far)
    by_test true rest =
        asks_ok HoldsIt (asks_key change.table change.key) (λ there. with_room Memory (asks_keys changes (so_far ++ there ∷ []))) (key_fetches change.table change.key)
        (λ there. asks_room HoldsIt Memory (asks_keys changes (so_far ++ there ∷ [])) (rest (so_far ++ there ∷ [])))
    by_test false rest = rest so_far

pub keys_asked : (manner : Manner) (changes : List Planned) (part : List Exchange) (found : List Bool) → Held manner (asks_keys changes []) part (Ok found) → AllByRecursion (λ x. HoldsIt x.op × CanReply x.op x.reply) part
keys_asked manner changes part found held = all_asked HoldsIt manner (asks_keys changes []) part (Ok found) (keys_fetch changes []) held

-- ---- what is told

ok_is : {A E : Type 0} (a b : A) → ◌≡◌ {A = Result A E} (Ok a) (Ok b) → a ≡ b
ok_is a b is = cc

module _ (db : Database) (one_key : KeysAreOne db) (manner : Manner) where
  abbrev Answered : List Exchange → Type 0
  Answered part = AllByRecursion (λ x. AnswersIn db x.op x.reply) part

  abbrev AreLong : List Planned → Type 0
  AreLong changes = AllByRecursion (λ change. KeysHave (length change.key) db change.table) changes

  by_reply : (table : TableName) (key : List Value) (reply : Reply) (part : List Exchange) (came : Bool) → Tells db table key reply → Held manner (row_told reply) part (Ok came) → came ≡ is_some (db table key)
  unfolding Held
  by_reply table key (replies.Row other row at) part came told held = ok_is came true held.1 ∙ sym (ap is_some told)
  by_reply table key (replies.Gone other at) part came told held = ok_is came false held.1 ∙ sym (ap is_some told)
  by_reply table key (replies.End at) part came told held = ok_is came false held.1 ∙ sym (ap is_some told)
  by_reply table key replies.Memory part came told held = absurd (ok_err came _ held.1)
  by_reply table key (replies.TimedOut holder now asked on) part came told held = absurd (ok_err came _ held.1)
  by_reply table key (replies.Victim cycle) part came told held = absurd (ok_err came _ held.1)
  by_reply table key reply part came told held = absurd held

  one_told : (table : TableName) (key : List Value) (part : List Exchange) (came : Bool) → KeysHave (length key) db table → Answered part → Held manner (asks_key table key) part (Ok came) → came ≡ is_some (db table key)
  unfolding asks_key tries Held
  one_told table key part came long answered held = by_room held.0 part answered held.1
    where
      by_room : (enough : Bool) (part : List Exchange) → Answered part → Held manner (if enough then asks (ops.Fetch table (At key) (Within key) Range U) tt row_told else row_told replies.Memory) part (Ok came) → came ≡ is_some (db table key)
      by_room true [] answered held = absurd held
      by_room true (x ∷ rest) answered held =
          by_reply table key x.reply rest came
          (key_told db one_key table key U long x.reply held.2 (subst (λ (op : Op). AnswersIn db op x.reply) held.0 answered.0)) held.3
      by_room false part answered held = absurd (ok_err came _ held.1)

  abbrev next : List Planned → List Bool → Bool → Dialog (Result (List Bool) Refusal)
  next changes so_far there = with_room Memory (asks_keys changes (so_far ++ there ∷ []))

  all_told : (changes : List Planned) (so_far : List Bool) (part : List Exchange) (found : List Bool) → AreLong (asked_of changes) → Answered part → Held manner (asks_keys changes so_far) part (Ok found) → found ≡ so_far ++ stood_at db changes
  unfolding asks_keys Held
  all_told [] so_far part found long answered held = ok_is found so_far held.1 ∙ sym (append-nil so_far)
  all_told (change ∷ changes) so_far part found long answered held = by_test (is_asked change) (λ so_far part. all_told changes so_far part found) long held
    where
      by_test : (b : Bool) → ((so_far : List Bool) (part : List Exchange) → AreLong (asked_of changes) → Answered part → Held manner (asks_keys changes so_far) part (Ok found) → found ≡ so_far ++ stood_at db changes)
          → AreLong (if b then change ∷ asked_of changes else asked_of changes) → Held manner (if b then (asks_key change.table change.key >>= next changes so_far) else asks_keys changes so_far) part (Ok found)
          → found ≡ so_far ++ map (λ (change : Planned). is_some (db change.table change.key)) (if b then change ∷ asked_of changes else asked_of changes)
      by_test true rest long held =
          let h = held_ok manner (asks_key change.table change.key) (next changes so_far) part found held in
          let both : Answered (h.first ++ h.second) = subst Answered h.parts answered in
          let here = one_told change.table change.key h.first h.came long.0 (all_left (λ (x : Exchange). AnswersIn db x.op x.reply) h.first h.second both) h.held in
          rest (so_far ++ h.came ∷ []) h.second long.1 (all_right (λ (x : Exchange). AnswersIn db x.op x.reply) h.first h.second both)
          (held_room manner Memory (asks_keys changes (so_far ++ h.came ∷ [])) h.second found h.more)
          ∙ append_assoc so_far (h.came ∷ []) (stood_at db changes)
          ∙ ap (λ (b : Bool). so_far ++ b ∷ stood_at db changes) here
      by_test false rest long held = rest so_far part long answered held

pub keys_told : KeysTold
keys_told log mine before part later manner changes found is holds held long =
    all_told (at_place log before later) (one_place log before later) manner changes [] part found long
    (answers log mine before part later is holds (all_asked HoldsIt manner (asks_keys changes []) part (Ok found) (keys_fetch changes []) held)) held

-- ---- where all stand

pub found_all : FoundAll
found_all db [] stand = refl
found_all db (change ∷ changes) stand = by_test (is_asked change) refl (found_all db changes) stand
  where
    -- what is found where the first is asked, or not
    given : (b : Bool) (found : List Bool) → is_asked change ≡ b → (b ≡ true → (t : Bool) (rest : List Bool) → found ≡ t ∷ rest → (t ≡ true) × (as_found changes rest ≡ changes)) → (b ≡ false → as_found changes found ≡ changes) → as_found (change ∷ changes) found ≡ change ∷ changes
    given b [] is asked other = refl
    given true (t ∷ rest) is asked other =
        let (stands, on) = asked refl t rest refl in
        ap (λ (b : Bool). if b then as_told t change ++ as_found changes rest else change ∷ as_found changes (t ∷ rest)) is
        ∙ ap (λ (t : Bool). as_told t change ++ as_found changes rest) stands ∙ ap (λ (l : List Planned). change ∷ l) on
    given false (t ∷ rest) is asked other =
        ap (λ (b : Bool). if b then as_told t change ++ as_found changes rest else change ∷ as_found changes (t ∷ rest)) is ∙ ap (λ (l : List Planned). change ∷ l) (other refl)

    by_test : (b : Bool) → is_asked change ≡ b → (AllByRecursion (StandsThere db) (asked_of changes) → as_found changes (stood_at db changes) ≡ changes)
        → AllByRecursion (StandsThere db) (if b then change ∷ asked_of changes else asked_of changes)
        → as_found (change ∷ changes) (map (λ (change : Planned). is_some (db change.table change.key)) (if b then change ∷ asked_of changes else asked_of changes)) ≡ change ∷ changes
    by_test true is rest stand =
        given true (is_some (db change.table change.key) ∷ stood_at db changes) is
        (λ so t more same. let head : is_some (db change.table change.key) ≡ t = cc in let tail : stood_at db changes ≡ more = cc in (sym head ∙ stand.0, ap (as_found changes) (sym tail) ∙ rest stand.1))
        (λ no. absurd (let not_so : true ≡ false = no in cc))
    by_test false is rest stand = given false (stood_at db changes) is (λ no. absurd (let not_so : false ≡ true = no in cc)) (λ so. rest stand)

-- ---- what is asked of index rows stands

kept_of : (P : Planned → Type 0) (changes : List Planned) → AllByRecursion (λ change. is_asked change ≡ true → P change) changes → AllByRecursion P (asked_of changes)
kept_of P [] all = tt
kept_of P (change ∷ changes) all = by_test (is_asked change) refl (kept_of P changes all.1)
  where
    by_test : (b : Bool) → is_asked change ≡ b → AllByRecursion P (asked_of changes) → AllByRecursion P (if b then change ∷ asked_of changes else asked_of changes)
    by_test true is rest = (all.0 is, rest)
    by_test false is rest = rest

own_unasked : (change : Planned) → is_own change ≡ true → is_asked change ≡ true → ⊥
own_unasked change own asked = let no : false ≡ true = sym (ap (λ (b : Bool). not b && not (inserts change)) own) ∙ asked in cc

not_inserted : (change : Planned) → is_asked change ≡ true → inserts change ≡ false
not_inserted change asked = by_tests (is_own change) (inserts change) asked
  where
    by_tests : (own insert : Bool) → (not own && not insert) ≡ true → insert ≡ false
    by_tests true insert is = cc
    by_tests false true is = cc
    by_tests false false is = refl

pub asked_stand : AskedStand
asked_stand db shape equal changes ready can =
    let P : Planned → Type 0 = λ change. StandsThere db change × KeysHave (length change.key) db change.table in
    kept_of P (row_deeds shape changes ++ index_deeds shape equal changes)
    (all_both (λ (change : Planned). is_asked change ≡ true → P change) (row_deeds shape changes) (index_deeds shape equal changes)
    (all_more (λ (change : Planned). is_own change ≡ true) (λ (change : Planned). is_asked change ≡ true → P change) (λ change own asked. absurd (own_unasked change own asked)) (row_deeds shape changes) (rows_own db shape equal changes ready can))
    (all_more (λ (change : Planned). (inserts change ≡ false → StandsThere db change) × KeysHave (length change.key) db change.table) (λ (change : Planned). is_asked change ≡ true → P change)
    (λ change good asked. (good.0 (not_inserted change asked), good.1)) (index_deeds shape equal changes) (index_stands db shape equal changes ready can)))
