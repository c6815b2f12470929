-- A row that was fetched to be written, and was written, is the one at its transaction's place.
use Rattle.std.proofs.Common.{◌≡◌, refl, sym, ap, ◌∙◌, subst, ℕ, ◌≤◌, Bool, true, false, if◌then◌else◌, List, [], ◌∷◌, ◌++◌, length, map, take, Some, arith, append_assoc}
use Rattle.std.proofs.lemmas.Grind.{flat_map-append}
use Rattle.lock_modes.specs.declared.KeyPart.TheVariants.{U}
use Rattle.value_types.specs.declared.table_name.TableName.{TableName}
use Rattle.value_types.specs.declared.value.Value.{Value}
use Rattle.step_model.specs.declared.change.Change.{Change}
use Rattle.step_model.specs.declared.op.Op.{Op}
use Rattle.step_model.specs.declared.op.Op.TheVariants.{Fetch}
use Rattle.step_model.specs.declared.range.Start.{Start}
use Rattle.step_model.specs.declared.range.Stop.{Stop}
use Rattle.step_model.specs.declared.reply.Reply.{Reply}
use Rattle.step_model.specs.declared.reply.Reply.TheVariants as replies
use Rattle.step_model.specs.Database.{Database, With, is_at, with_change}
use Rattle.step_model.specs.Exchange.{Exchange}
use Rattle.step_model.specs.Fits.{AnswersIn, KeepsRow, NeverFall, NoRelax, NoneEnds, all_numbers, at_of, is_relax, numbers_of, place_of, place_or, view}
use Rattle.step_model.specs.Log.{State, state_at}
use Rattle.step_model.specs.Own.{change_of, progress_of}
use Rattle.step_model.specs.Sure.{SameKey}
use Rattle.constraint_check.proofs.Lists.{all_left, all_right}
use Rattle.history_laws.proofs.Databases.{tied}
use Rattle.history_laws.proofs.Splits.{not_ended}
use Rattle.dml_exec.specs.declared.refusal.Level.{Level}
use Rattle.dml_exec.specs.declared.refusal.Level.TheVariants.{ReadCommitted, Serializable}
use Rattle.dml_exec.specs.Reading.{hold_at}
use Rattle.statement_paths.specs.Asked.{AskOnly, IsFetch}
use Rattle.write_laws.specs.Targets.{TargetStands, ToldStands}
use Rattle.write_laws.proofs.Parts.{fetches_leave, one_view}

-- ---- databases

-- what changes leave at a key depends on what stood there alone
with_same : (changes : List Change) (db other : Database) (table : TableName) (key : List Value) → db table key ≡ other table key → With db changes table key ≡ With other changes table key
with_same [] db other table key same = same
with_same (change ∷ changes) db other table key same = with_same changes (with_change db change) (with_change other change) table key (by_test (is_at change table key))
  where
    by_test : (b : Bool) → (if b then change.row else db table key) ≡ (if b then change.row else other table key)
    by_test true = refl
    by_test false = same

-- ---- numbers

-- where a transaction goes on its place is that of what is left
pub place_past : (behind : ℕ) (between later : List Exchange) → NoneEnds between → place_of behind (between ++ later) ≡ place_of behind later
place_past behind [] later none = refl
place_past behind (e ∷ between) later none = not_ended e.reply (place_of behind (between ++ later)) none.0 ∙ place_past behind between later none.1

-- numbers that never fall begin and end so
from_low : (low : ℕ) (numbers : List ℕ) (high : ℕ) → NeverFall low numbers high → low ≤ high
from_low low [] high rise = rise
from_low low (n ∷ numbers) high rise = let below : low ≤ n = rise.0 in let above : n ≤ high = from_low n numbers high rise.1 in omega (arith, below, above)

-- behind some of them they go on from there
go_on : (low : ℕ) (front back : List ℕ) (high : ℕ) → NeverFall low (front ++ back) high → (next : ℕ) × NeverFall next back high
go_on low [] back high rise = (low, rise)
go_on low (n ∷ front) back high rise = go_on n front back high rise.1

-- a number is at most the place of what comes behind it
below_place : (low : ℕ) (later : List Exchange) (high : ℕ) → NeverFall low (all_numbers later) high → low ≤ place_of high later
below_place low [] high rise = rise
below_place low (e ∷ later) high rise = by_reply e.reply (λ from rise. below_place from later high rise) rise
  where
    next_one : (n : ℕ) → ((from : ℕ) → NeverFall from (all_numbers later) high → from ≤ place_of high later) → NeverFall low (n ∷ all_numbers later) high → low ≤ place_of high later
    next_one n rest rise = let below : low ≤ n = rise.0 in let above : n ≤ place_of high later = rest n rise.1 in omega (arith, below, above)

    by_reply : (reply : Reply) → ((from : ℕ) → NeverFall from (all_numbers later) high → from ≤ place_of high later) → NeverFall low (numbers_of reply ++ all_numbers later) high → low ≤ place_or reply (place_of high later)
    by_reply (replies.Row key row at) rest rise = next_one at rest rise
    by_reply (replies.Gone key at) rest rise = next_one at rest rise
    by_reply (replies.End at) rest rise = next_one at rest rise
    by_reply (replies.Ended place) rest rise = rise.0
    by_reply reply rest rise = rest low rise

-- ---- a row

pub target_stands : TargetStands
target_stands begin log mine before reads between later fetch write table key row rise current stable target =
    let place = place_of (length log) later in
    let behind : List Exchange = (reads ++ between) ++ write ∷ later in
    let own = (progress_of before).own in
    -- the numbers
    let all : NeverFall (length begin) (all_numbers before ++ all_numbers (fetch ∷ behind)) (length log) =
    subst (λ (numbers : List ℕ). NeverFall (length begin) numbers (length log)) (ap all_numbers target.split ∙ flat_map-append (λ (e : Exchange). numbers_of e.reply) before (fetch ∷ behind)) rise in
    let from = go_on (length begin) (all_numbers before) (all_numbers (fetch ∷ behind)) (length log) all in
    let told : NeverFall from.0 (target.number ∷ all_numbers behind) (length log) = subst (λ (reply : Reply). NeverFall from.0 (numbers_of reply ++ all_numbers behind) (length log)) target.told from.1 in
    let there : place_of (length log) behind ≡ place =
    ap (place_of (length log)) (sym (append_assoc (reads ++ between) (write ∷ []) later)) ∙ place_past (length log) ((reads ++ between) ++ write ∷ []) later target.goes_on in
    let within : target.number ≤ place = subst (λ (n : ℕ). target.number ≤ n) there (below_place target.number behind (length log) told.1) in
    -- what was read
    let number_is : at_of fetch.reply ≡ target.number = ap at_of target.told in
    let answers : AnswersIn (view log (at_of fetch.reply) before) (Fetch table target.start target.stop target.hold target.part) (replies.Row target.own_key row target.number) =
    subst (λ (reply : Reply). AnswersIn (view log (at_of fetch.reply) before) (Fetch table target.start target.stop target.hold target.part) reply) target.told
    (subst (λ (op : Op). AnswersIn (view log (at_of fetch.reply) before) op fetch.reply) target.asked (current before fetch behind target.split)) in
    let read : view log (at_of fetch.reply) before table key ≡ Some row = one_view log (at_of fetch.reply) before table key target.own_key target.one_key ∙ answers.1 in
    -- what stays
    let stays : State (take place log) table key ≡ State (take (at_of fetch.reply) log) table key =
    stable before (reads ++ between) later fetch write (target.split ∙ sym (append_assoc before (fetch ∷ (reads ++ between)) (write ∷ later))) (all_left _ (reads ++ between) (write ∷ []) target.goes_on) table key target.writes target.keeps place (subst (λ (n : ℕ). n ≤ place) (sym number_is) within) (omega arith) in
    ap (λ (l : List _). state_at log place (map change_of l) table key) target.still
    ∙ with_same (map change_of own) (State (take place log)) (State (take (at_of fetch.reply) log)) table key stays ∙ read

-- ---- a row of what was read for a statement

-- fetches end no statement
pub no_relax : (part : List Exchange) → AskOnly IsFetch part → NoRelax part
no_relax [] all = tt
no_relax (x ∷ part) all = (by_op x.op all.0.0, no_relax part all.1)
  where
    by_op : (op : Op) → IsFetch op → is_relax op ≡ false
    by_op (Fetch table start stop hold lock) is = refl
    by_op op is = absurd is

pub both_relax : (xs ys : List Exchange) → NoRelax xs → NoRelax ys → NoRelax (xs ++ ys)
both_relax [] ys first second = second
both_relax (x ∷ xs) ys first second = (first.0, both_relax xs ys first.1 second)

pub both_end : (xs ys : List Exchange) → NoneEnds xs → NoneEnds ys → NoneEnds (xs ++ ys)
both_end [] ys first second = second
both_end (x ∷ xs) ys first second = (first.0, both_end xs ys first.1 second)

-- under each level such a fetch keeps its row
keeps : (level : Level) (table : TableName) (start : Start) (stop : Stop) (own_key row key : List Value) (number : ℕ) (between : List Exchange) → SameKey table own_key table key → NoRelax between
    → KeepsRow (Fetch table start stop (hold_at level) U) (replies.Row own_key row number) between table key
keeps ReadCommitted table start stop own_key row key number between same none = (same, none)
keeps Serializable table start stop own_key row key number between same none = same

pub told_stands : ToldStands
told_stands begin log mine before part between later write level table stop at key is rise current stable all was goes_on none one_key writes =
    let own_front : List Exchange = before ++ was.front in
    let behind_front : AskOnly IsFetch (was.fetch ∷ was.behind) = all_right _ was.front (was.fetch ∷ was.behind) (subst (λ (xs : List Exchange). AskOnly IsFetch xs) was.split all) in
    let reads : List Exchange = was.behind in
    let front_is : before ++ part ≡ own_front ++ was.fetch ∷ reads = ap (λ (xs : List Exchange). before ++ xs) was.split ∙ sym (append_assoc before was.front (was.fetch ∷ reads)) in
    let split : mine ≡ own_front ++ was.fetch ∷ ((reads ++ between) ++ write ∷ later) =
    is ∙ sym (append_assoc before part (between ++ write ∷ later)) ∙ ap (λ (xs : List Exchange). xs ++ (between ++ write ∷ later)) front_is
    ∙ append_assoc own_front (was.fetch ∷ reads) (between ++ write ∷ later) ∙ ap (λ (xs : List Exchange). own_front ++ was.fetch ∷ xs) (sym (append_assoc reads between (write ∷ later))) in
    let ends : NoneEnds ((reads ++ between) ++ write ∷ []) =
    subst (λ (xs : List Exchange). NoneEnds xs) (sym (append_assoc reads between (write ∷ []))) (both_end reads (between ++ write ∷ []) (fetches_leave own_front reads behind_front.1).goes_on goes_on) in
    let kept : KeepsRow was.fetch.op was.fetch.reply (reads ++ between) table key =
    subst (λ (reply : Reply). KeepsRow was.fetch.op reply (reads ++ between) table key) (sym was.told)
    (subst (λ (op : Op). KeepsRow op (replies.Row at.0 at.1 was.number) (reads ++ between) table key) (sym was.asked)
    (keeps level table was.start stop at.0 at.1 key was.number (reads ++ between) (tied table, one_key) (both_relax reads between (no_relax reads behind_front.1) none))) in
    let stands : view log (place_of (length log) later) (own_front ++ was.fetch ∷ reads) table key ≡ Some at.1 =
    target_stands begin log mine own_front reads between later was.fetch write table key at.1 rise current stable (record {
      split = split;
      start = was.start;
      stop = stop;
      hold = hold_at level;
      part = U;
      own_key = at.0;
      number = was.number;
      asked = was.asked;
      told = was.told;
      one_key = one_key;
      keeps = kept;
      goes_on = ends;
      still = (fetches_leave own_front (was.fetch ∷ reads) behind_front).own;
      writes = writes;
    }) in
    let place : place_of (length log) (between ++ write ∷ later) ≡ place_of (length log) later =
    ap (place_of (length log)) (sym (append_assoc between (write ∷ []) later)) ∙ place_past (length log) (between ++ write ∷ []) later goes_on in
    ap (λ (n : ℕ). view log n (before ++ part) table key) place ∙ ap (λ (xs : List Exchange). view log (place_of (length log) later) xs table key) front_is ∙ stands
