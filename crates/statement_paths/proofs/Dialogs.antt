-- A dialog that was held is taken apart.
use Rattle.std.proofs.Common.{◌≡◌, inl, inr, Bool, true, false, not, ◌&&◌, if◌then◌else◌, ℕ, List, [], ◌∷◌, ◌++◌, Some, Result, Ok, Err, refl, sym, ap, ◌∙◌, subst, append-nil}
use Rattle.value_types.specs.declared.table_name.TableName.{TableName}
use Rattle.value_types.specs.declared.value.Value.{Value}
use Rattle.tsql_tree.specs.declared.definition.TableTree.{TableTree}
use Rattle.step_model.specs.declared.change.Deed.TheVariants.{Erase}
use Rattle.step_model.specs.declared.change.Planned.{Planned}
use Rattle.step_model.specs.declared.manner.Manner.{Manner}
use Rattle.step_model.specs.declared.op.Op.{Op}
use Rattle.step_model.specs.declared.op.Op.TheVariants as ops
use Rattle.step_model.specs.declared.reply.Reply.{Reply}
use Rattle.step_model.specs.declared.reply.Reply.TheVariants as replies
use Rattle.step_model.specs.Dialog.{Dialog, over, asks, room, never, tries, ◌then◌, Held}
use Rattle.step_model.specs.Exchange.{Exchange, CanReply}
use Rattle.step_model.specs.Own.{is_own, planned_by}
use Rattle.constraint_check.specs.Reads.{reads_for}
use Rattle.dml_exec.specs.declared.refusal.Refusal.{Refusal}
use Rattle.dml_exec.specs.declared.written.Attempt.{Attempt}
use Rattle.dml_exec.specs.declared.written.Written.{Written}
use Rattle.dml_exec.specs.declared.written.Written.TheVariants as written
use Rattle.dml_exec.specs.Asking.{on_ok, ◌>>=◌, with_room}
use Rattle.dml_exec.specs.Planning.{as_found, as_told, erased_at}
use Rattle.dml_exec.specs.Writing.{asks_deed, asks_keys, attempts, behind_keys, checks_all, done_by, ends, marked, no_room, outcome, present, told, where_done, works, writes, writes_all, writes_one}
use Rattle.dml_exec.proofs.Halts.{by_outcome}
use Rattle.statement_paths.specs.Asked.{IsFetch}
use Rattle.statement_paths.specs.Paths.{replied, AreApplied, IsFailed, IsForward, IsUndone, done_of}
use Rattle.statement_paths.proofs.Only.{says_held}
use Rattle.statement_paths.proofs.Asking.{keys_say, works_say}

-- ---- exchanges

-- an exchange is its three parts
pub is_replied : (x : Exchange) (manner : Manner) (op : Op) (reply : Reply) → x.op ≡ op → x.manner ≡ manner → x.reply ≡ reply → x ≡ replied manner op reply
is_replied x manner op reply asked in_manner told =
    ap (λ (o : Op). replied x.manner o x.reply) asked ∙ ap (λ (m : Manner). replied m op x.reply) in_manner ∙ ap (λ (r : Reply). replied manner op r) told

-- ---- one dialog behind another

pub said_apart : {A B : Type 0} (dialog : Dialog A) (go : A → Dialog B) (manner : Manner) (exchanges : List Exchange) (b : B) → Held manner (dialog then go) exchanges b
    → (front back : List Exchange) × (a : A) × (exchanges ≡ front ++ back) × Held manner dialog front a × Held manner (go a) back b
unfolding Held ◌then◌
said_apart (over c) go manner exchanges b held = ([], exchanges, c, refl, (refl, refl), held)
said_apart (asks op quiet next) go manner [] b held = absurd held
said_apart (asks op quiet next) go manner (x ∷ later) b held =
    let on = said_apart (next x.reply) go manner later b held.3 in (x ∷ on.0, on.1, on.2, ap (λ (l : List Exchange). x ∷ l) on.3, (held.0, held.1, held.2, on.4), on.5)
said_apart (room next) go manner exchanges b held = let on = said_apart (next held.0) go manner exchanges b held.1 in (on.0, on.1, on.2, on.3, (held.0, on.4), on.5)
said_apart never go manner exchanges b held = absurd held

said_then : {A B : Type 0} (dialog : Dialog A) (go : A → Dialog B) (manner : Manner) (front back : List Exchange) (a : A) (b : B) → Held manner dialog front a → Held manner (go a) back b → Held manner (dialog then go) (front ++ back) b
unfolding Held ◌then◌
said_then (over c) go manner front back a b held more = rw (held.0) (subst (λ x. Held manner (go x) back b) held.1 more)
said_then (asks op quiet next) go manner [] back a b held more = absurd held
said_then (asks op quiet next) go manner (x ∷ front) back a b held more = (held.0, held.1, held.2, said_then (next x.reply) go manner front back a b held.3 more)
said_then (room next) go manner front back a b held more = (held.0, said_then (next held.0) go manner front back a b held.1 more)
said_then never go manner front back a b held more = absurd held

-- the first part succeeded, where the whole did
said_bind : {A B E : Type 0} (dialog : Dialog (Result A E)) (go : A → Dialog (Result B E)) (manner : Manner) (exchanges : List Exchange) (b : B) → Held manner (dialog >>= go) exchanges (Ok b)
    → (front back : List Exchange) × (a : A) × (exchanges ≡ front ++ back) × Held manner dialog front (Ok a) × Held manner (go a) back (Ok b)
unfolding Held
said_bind {A = A} {B = B} {E = E} dialog go manner exchanges b held = let on = said_apart dialog (on_ok go) manner exchanges (Ok b) held in by_came on.0 on.1 on.2 on.3 on.4 on.5
  where
    by_came : (front back : List Exchange) (came : Result A E) → exchanges ≡ front ++ back → Held manner dialog front came → Held manner (on_ok go came) back (Ok b)
        → (front back : List Exchange) × (a : A) × (exchanges ≡ front ++ back) × Held manner dialog front (Ok a) × Held manner (go a) back (Ok b)
    by_came front back (Ok a) parts was rest = (front, back, a, parts, was, rest)
    by_came front back (Err e) parts was rest = absurd (let no : Ok b ≡ Err e = rest.1 in cc)

said_room : {A E : Type 0} (wanting : E) (dialog : Dialog (Result A E)) (manner : Manner) (exchanges : List Exchange) (a : A) → Held manner (with_room wanting dialog) exchanges (Ok a) → Held manner dialog exchanges (Ok a)
unfolding Held
said_room {A = A} {E = E} wanting dialog manner exchanges a held = by_enough held.0 held.1
  where
    by_enough : (enough : Bool) → Held manner (if enough then dialog else over (Err wanting)) exchanges (Ok a) → Held manner dialog exchanges (Ok a)
    by_enough true was = was
    by_enough false was = absurd (let no : Ok a ≡ Err wanting = was.1 in cc)

-- ---- the changes of a write

-- what was taken back was not done
never_done : (mark : ℕ) (why : _) → Ok (written.Done mark) ≡ outcome why → ⊥
never_done mark why = by_outcome (λ (r : Result Written Refusal). Ok (written.Done mark) ≡ r → ⊥)
    (λ number name is. let no : Ok (written.Done mark) ≡ Ok (written.Refused number name) = is in absurd (cc)) (λ refusal is. let no : Ok (written.Done mark) ≡ Err refusal = is in absurd (cc)) why

module _ (manner : Manner) (shapes : List TableTree) (plan : List Planned) where
  module _ (found : List Bool) where
    works_apart : (exchanges : List Exchange) → Held manner (works shapes plan found) exchanges (Ok tt)
        → (put checked : List Exchange) × (exchanges ≡ put ++ checked) × Held manner (writes_all shapes (as_found plan found)) put (Ok tt) × Held manner (checks_all shapes (reads_for plan shapes)) checked (Ok tt)
    unfolding works
    works_apart exchanges held =
        let on = said_bind (writes_all shapes (as_found plan found)) (λ done. with_room no_room (checks_all shapes (reads_for plan shapes))) manner exchanges tt held in
        (on.0, on.1, on.3, on.4, said_room no_room (checks_all shapes (reads_for plan shapes)) manner on.1 tt on.5)

    -- where the changes stand, this is the mark, and nothing was asked for it
    ends_apart : (mark number : ℕ) (came : Result (Unit {0}) _) (back : List Exchange) (attempt : Attempt) → Held manner (ends number came) back attempt → attempt.came ≡ Ok (written.Done mark) → (back ≡ []) × (came ≡ Ok tt) × (mark ≡ number)
    unfolding Held
    ends_apart mark number (Ok done) back attempt held is = (held.0, refl, let same : Ok (written.Done mark) ≡ Ok (written.Done number) = sym is ∙ ap (λ (a : Attempt). a.came) held.1 in cc)
    ends_apart mark number (Err why) [] attempt held is = absurd held
    ends_apart mark number (Err why) (x ∷ later) attempt held is = absurd (by_reply x.reply held.2 held.3)
      where
        by_reply : (reply : Reply) → CanReply (ops.BackTo number) reply → Held manner (where_done (over (told (Some number) (outcome why))) reply) later attempt → ⊥
        by_reply replies.Done can was = never_done mark why (sym is ∙ ap (λ (a : Attempt). a.came) was.1)
        by_reply reply can was = absurd can

    joined : (mark number : ℕ) (x : Exchange) (later front back put checked : List Exchange) → x ≡ replied manner ops.Mark (replies.Marked number) → mark ≡ number → later ≡ front ++ back → back ≡ [] → front ≡ put ++ checked
        → x ∷ later ≡ replied manner ops.Mark (replies.Marked mark) ∷ (put ++ checked)
    joined mark number x later front back put checked is same parts none all =
        ap (λ (y : Exchange). y ∷ later) (is ∙ ap (λ (n : ℕ). replied manner ops.Mark (replies.Marked n)) (sym same))
        ∙ ap (λ (l : List Exchange). replied manner ops.Mark (replies.Marked mark) ∷ l) (parts ∙ ap (λ (l : List Exchange). front ++ l) none ∙ append-nil front ∙ all)

    -- the mark, the changes and their checks
    record Attempted (mark : ℕ) (exchanges : List Exchange) : Type 0 where
      pub put : List Exchange
      pub checked : List Exchange
      pub parts : exchanges ≡ replied manner ops.Mark (replies.Marked mark) ∷ (put ++ checked)
      pub puts : Held manner (writes_all shapes (as_found plan found)) put (Ok tt)
      pub checks : Held manner (checks_all shapes (reads_for plan shapes)) checked (Ok tt)

    attempts_apart : (mark : ℕ) (exchanges : List Exchange) (attempt : Attempt) → Held manner (asks ops.Mark tt (marked shapes plan found)) exchanges attempt → attempt.came ≡ Ok (written.Done mark) → Attempted mark exchanges
    unfolding Held
    attempts_apart mark [] attempt held is = absurd held
    attempts_apart mark (x ∷ later) attempt held is = by_reply x.reply refl held.2 held.3
      where
        by_reply : (reply : Reply) → x.reply ≡ reply → CanReply ops.Mark reply → Held manner (marked shapes plan found reply) later attempt → Attempted mark (x ∷ later)
        by_reply (replies.Marked number) was_told can was =
            let on = said_apart (works shapes plan found) (ends number) manner later attempt was in
            let end = ends_apart mark number on.2 on.1 attempt on.5 is in
            let done : Held manner (works shapes plan found) on.0 (Ok tt) = subst (λ (r : Result (Unit {0}) _). Held manner (works shapes plan found) on.0 r) end.1 on.4 in
            let parts = works_apart on.0 done in
            record {
              put = parts.0;
              checked = parts.1;
              parts = joined mark number x later on.0 on.1 parts.0 parts.1 (is_replied x manner ops.Mark (replies.Marked number) held.0 held.1 was_told) end.2 on.3 end.0 parts.2;
              puts = parts.3;
              checks = parts.4;
            }
        by_reply replies.Memory was_told can was = absurd (let no : Ok (written.Done mark) ≡ Err _ = sym is ∙ ap (λ (a : Attempt). a.came) was.1 in cc)
        by_reply reply was_told can was = absurd can

  -- where an attempt came to Done, this is its mark, and these of its changes were done
  pub applied_apart : (mark : ℕ) (exchanges : List Exchange) (attempt : Attempt) → Held manner (attempts shapes plan) exchanges attempt → attempt.came ≡ Ok (written.Done mark)
      → (planned : List Planned) × (applied : AreApplied manner shapes plan planned exchanges) × (mark ≡ applied.mark)
  unfolding Held writes attempts
  applied_apart mark exchanges attempt held is =
      let on = said_apart (asks_keys plan []) (behind_keys shapes plan) manner exchanges attempt held in by_came on.2 on.0 on.1 on.3 on.4 on.5
    where
      by_came : (came : Result (List Bool) Refusal) (front back : List Exchange) → exchanges ≡ front ++ back → Held manner (asks_keys plan []) front came → Held manner (behind_keys shapes plan came) back attempt
          → (planned : List Planned) × (applied : AreApplied manner shapes plan planned exchanges) × (mark ≡ applied.mark)
      by_came (Ok found) front back split was rest =
          let parts = attempts_apart found mark back attempt rest is in (
            done_of parts.put,
            record {
              found = found;
              asked = front;
              mark = mark;
              put = parts.put;
              checked = parts.checked;
              parts = split ∙ ap (λ (l : List Exchange). front ++ l) parts.parts;
              asks = was;
              puts = parts.puts;
              makes = refl;
              checks = parts.checks;
              whole = subst (λ (l : List Exchange). Held manner (writes shapes plan) l (Ok (written.Done mark))) (append-nil exchanges)
                  (said_then (attempts shapes plan) (λ one. over one.came) manner exchanges [] attempt (Ok (written.Done mark)) held (refl, sym is));
            },
            refl,
          )
      by_came (Err why) front back split was rest = absurd (let no : Ok (written.Done mark) ≡ Err why = sym is ∙ ap (λ (a : Attempt). a.came) rest.1 in cc)

  -- ---- where it did not come to Done

  module _ (found : List Bool) where
    -- something was undone, if it was asked
    ends_undone : (number : ℕ) (came : Result (Unit {0}) _) (front back : List Exchange) (attempt : Attempt) → Held manner (works shapes plan found) front came → Held manner (ends number came) back attempt
        → ((mark : ℕ) → attempt.came ≡ Ok (written.Done mark) → ⊥) → back ≡ replied manner (ops.BackTo number) replies.Done ∷ []
    unfolding Held
    ends_undone number (Ok done) front back attempt was held undone = absurd (undone number (ap (λ (a : Attempt). a.came) held.1))
    ends_undone number (Err why) front [] attempt was held undone = absurd held
    ends_undone number (Err why) front (x ∷ later) attempt was held undone = by_reply x.reply refl held.2 held.3
      where
        by_reply : (reply : Reply) → x.reply ≡ reply → CanReply (ops.BackTo number) reply → Held manner (where_done (over (told (Some number) (outcome why))) reply) later attempt → x ∷ later ≡ replied manner (ops.BackTo number) replies.Done ∷ []
        by_reply replies.Done was_told can rest = ap (λ (y : Exchange). y ∷ later) (is_replied x manner (ops.BackTo number) replies.Done held.0 held.1 was_told) ∙ ap (λ (l : List Exchange). replied manner (ops.BackTo number) replies.Done ∷ l) rest.0
        by_reply reply was_told can rest = absurd can

    marked_undone : (exchanges : List Exchange) (attempt : Attempt) → Held manner (asks ops.Mark tt (marked shapes plan found)) exchanges attempt → ((mark : ℕ) → attempt.came ≡ Ok (written.Done mark) → ⊥) → IsUndone manner exchanges
    unfolding Held
    marked_undone [] attempt held undone = absurd held
    marked_undone (x ∷ later) attempt held undone = by_reply x.reply refl held.2 held.3
      where
        by_reply : (reply : Reply) → x.reply ≡ reply → CanReply ops.Mark reply → Held manner (marked shapes plan found reply) later attempt → IsUndone manner (x ∷ later)
        by_reply (replies.Marked number) was_told can was =
            let on = said_apart (works shapes plan found) (ends number) manner later attempt was in
            let back = ends_undone number on.2 on.0 on.1 attempt on.4 on.5 undone in
            inr (inr (record {
              mark = number;
              between = on.0;
              parts = ap (λ (y : Exchange). y ∷ later) (is_replied x manner ops.Mark (replies.Marked number) held.0 held.1 was_told) ∙ ap (λ (l : List Exchange). replied manner ops.Mark (replies.Marked number) ∷ l) (on.3 ∙ ap (λ (l : List Exchange). on.0 ++ l) back);
              forward = says_held IsForward manner (works shapes plan found) on.0 on.2 (works_say shapes plan found) on.4;
            }))
        by_reply replies.Memory was_told can was =
            inr (inl (ap (λ (y : Exchange). y ∷ later) (is_replied x manner ops.Mark replies.Memory held.0 held.1 was_told) ∙ ap (λ (l : List Exchange). replied manner ops.Mark replies.Memory ∷ l) was.0))
        by_reply reply was_told can was = absurd can

  -- it asked for index rows, and what was asked behind them is undone
  pub undone_apart : (exchanges : List Exchange) (attempt : Attempt) → Held manner (attempts shapes plan) exchanges attempt → ((mark : ℕ) → attempt.came ≡ Ok (written.Done mark) → ⊥) → IsFailed manner exchanges
  unfolding Held attempts
  undone_apart exchanges attempt held undone =
      let on = said_apart (asks_keys plan []) (behind_keys shapes plan) manner exchanges attempt held in
      record { read = on.0; undone = on.1; parts = on.3; reads = says_held IsFetch manner (asks_keys plan []) on.0 on.2 (keys_say plan []) on.4; undoes = by_came on.2 on.1 on.5 }
    where
      by_came : (came : Result (List Bool) Refusal) (back : List Exchange) → Held manner (behind_keys shapes plan came) back attempt → IsUndone manner back
      by_came (Ok found) back rest = marked_undone found back attempt rest undone
      by_came (Err why) back rest = inl rest.0

-- ---- one erasure

-- it is what was done
module _ (manner : Manner) (shapes : List TableTree) (table : TableName) (key : List Value) where
  abbrev erasure : Planned
  erasure = erased_at table key

  told_done : (own : is_own erasure ≡ true) (reply : Reply) (back : List Exchange) → Held manner (done_by shapes erasure reply) back (Ok tt) → (reply ≡ replies.Done) × (back ≡ [])
  unfolding Held
  told_done own replies.Done back held = (refl, held.0)
  told_done own replies.Exists back held = absurd (by_own (is_own erasure) own held)
    where
      by_enough : (enough : Bool) → Held {A = Result (Unit {0}) _} manner (if enough then over (Err (present shapes table key)) else over (Err no_room)) back (Ok tt) → ⊥
      by_enough true held = let no : Ok tt ≡ Err (present shapes table key) = held.1 in cc
      by_enough false held = let no : Ok tt ≡ Err no_room = held.1 in cc

      by_own : (b : Bool) → b ≡ true → Held {A = Result (Unit {0}) _} manner (if b then with_room no_room (over (Err (present shapes table key))) else over (Ok tt)) back (Ok tt) → ⊥
      by_own true is held = by_enough held.0 held.1
      by_own false is held = absurd (cc)
  told_done own replies.Missing back held = absurd (let no : Ok tt ≡ Err no_room = held.1 in cc)
  told_done own replies.Memory back held = absurd (let no : Ok tt ≡ Err no_room = held.1 in cc)
  told_done own (replies.TimedOut holder what asked on) back held = absurd (let no : Ok tt ≡ Err _ = held.1 in cc)
  told_done own (replies.Victim cycle) back held = absurd (let no : Ok tt ≡ Err _ = held.1 in cc)
  told_done own reply back held = absurd held

  erase_asked : (front : List Exchange) (reply : Reply) → Held manner (asks_deed table key Erase) front reply → reply ≡ replies.Done → done_of front ≡ erasure ∷ []
  unfolding Held tries
  erase_asked front reply held done = by_enough held.0 held.1
    where
      by_enough : (enough : Bool) → Held manner (if enough then asks (ops.Erase table key) tt over else over replies.Memory) front reply → done_of front ≡ erasure ∷ []
      by_enough true was = by_exchanges front was
        where
          by_exchanges : (front : List Exchange) → Held manner (asks (ops.Erase table key) tt over) front reply → done_of front ≡ erasure ∷ []
          by_exchanges [] was = absurd was
          by_exchanges (x ∷ rest) was =
              ap (λ (l : List Exchange). planned_by x.op x.reply ++ done_of l) was.3.0
              ∙ ap (λ (op : Op). planned_by op x.reply ++ []) was.0
              ∙ ap (λ (r : Reply). planned_by (ops.Erase table key) r ++ []) (sym was.3.1 ∙ done)
      by_enough false was = absurd (let no : replies.Memory ≡ replies.Done = sym was.1 ∙ done in cc)

  pub erased_done : is_own erasure ≡ true → (found : List Bool) (put : List Exchange) → Held manner (writes_all shapes (as_found (erasure ∷ []) found)) put (Ok tt) → done_of put ≡ erasure ∷ []
  unfolding writes_all writes_one Held
  erased_done own found put held = one_done (subst (λ (l : List Planned). Held manner (writes_all shapes l) put (Ok tt)) (as_planned found) held)
    where
      as_planned : (found : List Bool) → as_found (erasure ∷ []) found ≡ erasure ∷ []
      as_planned [] = refl
      as_planned (there ∷ found) = ap (λ (b : Bool). if not b && true then as_told there erasure ++ [] else erasure ∷ []) own

      one_done : Held manner (writes_all shapes (erasure ∷ [])) put (Ok tt) → done_of put ≡ erasure ∷ []
      one_done held =
          let on = said_bind (writes_one shapes erasure) (λ done. over (Ok tt)) manner put tt held in
          let one = said_apart (asks_deed table key Erase) (done_by shapes erasure) manner on.0 (Ok tt) on.4 in
          let told = told_done own one.2 one.1 one.5 in
          ap done_of (on.3 ∙ ap (λ (l : List Exchange). on.0 ++ l) on.5.0 ∙ append-nil on.0 ∙ one.3 ∙ ap (λ (l : List Exchange). one.0 ++ l) told.1 ∙ append-nil one.0) ∙ erase_asked one.0 one.2 one.4 told.0
