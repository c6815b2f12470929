-- Keys at which a transaction's writes first insert: no row stood there at its place.
use Rattle.std.proofs.Common.{◌≡◌, ℕ, Bool, true, false, ◌&&◌, if◌then◌else◌, cond, List, [], ◌∷◌, ◌++◌, length, map, take, None, Some, refl, sym, ap, subst, ◌∙◌, append-nil, append_assoc}
use Rattle.std.specs.Prelude.{nat_le, ◌==◌}
use Rattle.std.specs.List.{AllByRecursion, filter, flat_map, list_any}
use Rattle.std.specs.Cmp.{Equal-is, alike_right}
use Rattle.std.specs.Ordering.{is_eq}
use Rattle.std.specs.declared.cmp.Ordering.TheVariants.{Equal}
use Rattle.value_types.specs.declared.table_name.TableName.{TableName}
use Rattle.value_types.specs.declared.value.Value.{Value}
use Rattle.value_types.specs.Order.{key_cmp, table_cmp}
use Rattle.value_types.specs.OrderLaws.{key_cmp_total, table_cmp_total}
use Rattle.step_model.specs.declared.change.Change.{Change}
use Rattle.step_model.specs.declared.change.Planned.{Planned}
use Rattle.step_model.specs.declared.change.Deed.TheVariants.{Erase as Erases, Insert as Inserts, Replace as Replaces}
use Rattle.step_model.specs.declared.op.Op.{Op}
use Rattle.step_model.specs.declared.op.Op.TheVariants as op
use Rattle.step_model.specs.declared.reply.Reply.{Reply}
use Rattle.step_model.specs.declared.reply.Reply.TheVariants as replies
use Rattle.step_model.specs.Database.{Database, is_at, nothing, With, with_change}
use Rattle.step_model.specs.Exchange.{Exchange}
use Rattle.step_model.specs.Fits.{FreshIn, inserts_fresh, is_ended, place_of, place_or}
use Rattle.step_model.specs.Log.{Commit as Logged, State}
use Rattle.step_model.specs.Own.{Progress, MarkedAt, change_of, first_at, inserts_first, inserts_in, is_insert, none_open, own_at, planned_by, progress_after, progress_of}
use Rattle.history_laws.proofs.Basics.{both}
use Rattle.history_laws.proofs.Splits.{not_ended, progress_more}
use Rattle.write_laws.specs.Reading.{FirstsFresh}

-- ---- tables and keys that tie have the same row

abbrev Ties : Database → Type 0
Ties db = (t u : TableName) (x y : List Value) → table_cmp t u ≡ Equal → key_cmp x y ≡ Equal → db t x ≡ db u y

ties_with : (changes : List Change) (db : Database) → Ties db → Ties (With db changes)
ties_with [] db ties = ties
ties_with (c ∷ changes) db ties = ties_with changes (with_change db c) (λ t u x y tables keys.
    let table : table_cmp c.table t ≡ table_cmp c.table u = alike_right table_cmp_total t u c.table tables in
    let key : key_cmp c.key x ≡ key_cmp c.key y = alike_right key_cmp_total x y c.key keys in
    λ i. if is_eq (table i) && is_eq (key i) then c.row else ties t u x y tables keys i)

ties_state : (log : List Logged) → Ties (State log)
ties_state log = ties_with (flat_map (λ (commit : Logged). commit.changes) log) nothing (λ t u x y tables keys. refl)

-- ---- insertions into a database, one behind another

-- each insertion finds no row
abbrev Fresh : Database → List Planned → Type 0
Fresh db [] = Unit {0}
Fresh db (p ∷ own) = (is_insert p.deed ≡ true → db p.table p.key ≡ None) × Fresh (with_change db (change_of p)) own

fresh_more : (own : List Planned) (db : Database) (p : Planned) → Fresh db own → (is_insert p.deed ≡ true → With db (map change_of own) p.table p.key ≡ None) → Fresh db (own ++ p ∷ [])
fresh_more [] db p fresh here = (here, tt)
fresh_more (q ∷ own) db p fresh here = (fresh.0, fresh_more own (with_change db (change_of q)) p fresh.1 here)

-- so none stood where the first write inserts
first_fresh : (own : List Planned) (db : Database) → Ties db → Fresh db own → (t : TableName) (x : List Value) → inserts_first own t x ≡ true → db t x ≡ None
first_fresh [] db ties fresh t x first = absurd (let no : false ≡ true = first in cc)
first_fresh (p ∷ own) db ties fresh t x first = by_test (is_at (change_of p) t x) refl first (first_fresh own (with_change db (change_of p)) (ties_with (change_of p ∷ []) db ties) fresh.1 t x)
  where
    by_test : (b : Bool) → is_at (change_of p) t x ≡ b → inserts_in (if b then Some p else first_at own t x) ≡ true → (inserts_first own t x ≡ true → with_change db (change_of p) t x ≡ None) → db t x ≡ None
    by_test true is first rest =
        let parts = both (is_eq (table_cmp p.table t)) (is_eq (key_cmp p.key x)) is in
        sym (ties p.table t p.key x ((Equal-is (table_cmp p.table t)).0 parts.0) ((Equal-is (key_cmp p.key x)).0 parts.1)) ∙ fresh.0 first
    by_test false is first rest = sym (ap (λ (b : Bool). if b then (change_of p).row else db t x) is) ∙ rest first

-- ---- where a session stands

module _ (db : Database) where
  abbrev AllFresh : List MarkedAt → Type 0
  AllFresh marks = AllByRecursion (λ marked. Fresh db marked.own) marks

  pub record Good (so_far : Progress) : Type 0 where
    pub own : Fresh db so_far.own
    pub marks : AllFresh so_far.marks

  good_none : Good none_open
  good_none = record { own = tt; marks = tt }

  marks_more : (marks : List MarkedAt) (mark : ℕ) (own : List Planned) → AllFresh marks → Fresh db own → AllFresh (marks ++ record { mark = mark; own = own } ∷ [])
  marks_more [] mark own all fresh = (fresh, tt)
  marks_more (m ∷ marks) mark own all fresh = (all.0, marks_more marks mark own all.1 fresh)

  own_fresh : (mark : ℕ) (marks : List MarkedAt) → AllFresh marks → Fresh db (own_at mark marks)
  own_fresh mark [] all = tt
  own_fresh mark (m ∷ marks) all = by_tests (list_any (λ other. other.mark == mark) marks) (m.mark == mark) (own_fresh mark marks all.1)
    where
      by_tests : (b c : Bool) → Fresh db (own_at mark marks) → Fresh db (if b then own_at mark marks else (if c then m.own else []))
      by_tests true c rest = rest
      by_tests false true rest = all.0
      by_tests false false rest = tt

  marks_kept : (mark : ℕ) (marks : List MarkedAt) → AllFresh marks → AllFresh (filter (λ live. nat_le live.mark mark) marks)
  marks_kept mark [] all = tt
  marks_kept mark (m ∷ marks) all = by_test (nat_le m.mark mark) (marks_kept mark marks all.1)
    where
      by_test : (b : Bool) → AllFresh (filter (λ live. nat_le live.mark mark) marks) → AllFresh (cond b (m ∷ filter (λ live. nat_le live.mark mark) marks) (filter (λ live. nat_le live.mark mark) marks))
      by_test true rest = (all.0, rest)
      by_test false rest = rest

  planned_fresh : (own : List Planned) (op : Op) (reply : Reply) → Fresh db own → FreshIn (With db (map change_of own)) op reply → Fresh db (own ++ planned_by op reply)
  planned_fresh own (op.Insert table key row) replies.Done all fresh = fresh_more own db (record { table = table; key = key; deed = Inserts row }) all (λ is. fresh)
  planned_fresh own (op.Replace table key row) replies.Done all fresh = fresh_more own db (record { table = table; key = key; deed = Replaces row }) all (λ is. absurd (let no : false ≡ true = is in cc))
  planned_fresh own (op.Erase table key) replies.Done all fresh = fresh_more own db (record { table = table; key = key; deed = Erases }) all (λ is. absurd (let no : false ≡ true = is in cc))
  planned_fresh own op reply all fresh = subst (Fresh db) (sym (append-nil own)) all

  -- one exchange more
  good_after : (so_far : Progress) (op : Op) (reply : Reply) → Good so_far → FreshIn (With db (map change_of so_far.own)) op reply → Good (progress_after so_far op reply)
  good_after so_far op (replies.Ended place) good fresh = good_none
  good_after so_far op.Begin replies.Began good fresh = record { own = tt; marks = tt }
  good_after so_far op.Mark (replies.Marked mark) good fresh = record { own = good.own; marks = marks_more so_far.marks mark so_far.own good.marks good.own }
  good_after so_far (op.BackTo mark) replies.Done good fresh = record { own = own_fresh mark so_far.marks good.marks; marks = marks_kept mark so_far.marks good.marks }
  good_after so_far op reply good fresh = record { own = planned_fresh so_far.own op reply good.own fresh; marks = good.marks }

ended_none : (so_far : Progress) (op : Op) (reply : Reply) → is_ended reply ≡ true → progress_after so_far op reply ≡ none_open
ended_none so_far op (replies.Ended place) is = refl
ended_none so_far op reply is = absurd (let no : false ≡ true = is in cc)

-- ---- along a session's exchanges

module _ (log : List Logged) (mine : List Exchange) (fresh : inserts_fresh log mine) where
  -- what stood at the place of the transaction of which these are left
  abbrev base : List Exchange → Database
  base later = State (take (place_of (length log) later) log)

  step : (front later : List Exchange) (x : Exchange) → mine ≡ front ++ x ∷ later → Good (base (x ∷ later)) (progress_of front) → Good (base later) (progress_of (front ++ x ∷ []))
  step front later x is good = subst (Good (base later)) (sym (progress_more none_open front x)) (by_end (is_ended x.reply) refl)
    where
      by_end : (b : Bool) → is_ended x.reply ≡ b → Good (base later) (progress_after (progress_of front) x.op x.reply)
      by_end true ends = subst (Good (base later)) (sym (ended_none (progress_of front) x.op x.reply ends)) (good_none (base later))
      by_end false goes =
          good_after (base later) (progress_of front) x.op x.reply
          (subst (λ (n : ℕ). Good (State (take n log)) (progress_of front)) (not_ended x.reply (place_of (length log) later) goes) good) (fresh front x later is)

  walk : (part front later : List Exchange) → mine ≡ front ++ (part ++ later) → Good (base (part ++ later)) (progress_of front) → Good (base later) (progress_of (front ++ part))
  walk [] front later is good = subst (λ (xs : List Exchange). Good (base later) (progress_of xs)) (sym (append-nil front)) good
  walk (x ∷ part) front later is good =
      subst (λ (xs : List Exchange). Good (base later) (progress_of xs)) (append_assoc front (x ∷ []) part)
      (walk part (front ++ x ∷ []) later (is ∙ sym (append_assoc front (x ∷ []) (part ++ later))) (step front (part ++ later) x is good))

pub firsts_fresh : FirstsFresh
firsts_fresh log mine before later exchange place is fresh ends t x first =
    let good : Good (base log mine fresh (exchange ∷ later)) (progress_of before) = walk log mine fresh before [] (exchange ∷ later) is (good_none (base log mine fresh (before ++ exchange ∷ later))) in
    first_fresh (progress_of before).own (State (take place log)) (ties_state (take place log))
    (subst (λ (reply : Reply). Fresh (State (take (place_or reply (place_of (length log) later)) log)) (progress_of before).own) ends good.own) t x first
