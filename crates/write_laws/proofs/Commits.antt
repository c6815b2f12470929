-- What a commit leaves.
use Rattle.std.proofs.Common.{◌≡◌, ℕ, zero, suc, ◌+◌, List, [], ◌∷◌, ◌++◌, length, take, slice_get, None, Some, ap, subst, ◌∙◌, append-nil, arith}
use Rattle.value_types.specs.declared.table_name.TableName.{TableName}
use Rattle.value_types.specs.declared.value.Value.{Value}
use Rattle.step_model.specs.declared.change.Change.{Change}
use Rattle.step_model.specs.declared.op.Op.{Op}
use Rattle.step_model.specs.declared.op.Op.TheVariants.{Commit}
use Rattle.step_model.specs.declared.reply.Reply.{Reply}
use Rattle.step_model.specs.declared.reply.Reply.TheVariants.{Ended}
use Rattle.step_model.specs.Database.{Database, With}
use Rattle.step_model.specs.Exchange.{Exchange}
use Rattle.step_model.specs.Fits.{IsLoggedAt, commit_of, committed_by}
use Rattle.step_model.specs.Log.{Commit as Logged, State}
use Rattle.step_model.specs.Net.{Net}
use Rattle.step_model.specs.Own.{progress_of}
use Rattle.history_laws.proofs.Databases.{State-append}
use Rattle.write_laws.specs.Reading.{CommitLeaves}
use Rattle.constraint_check.specs.Laws.{behind}
use Rattle.write_laws.proofs.Firsts.{firsts_fresh}
use Rattle.write_laws.proofs.Nets.{net_leaves}

pub take_one : {A : Type 0} (xs : List A) (n : ℕ) (x : A) → slice_get xs n ≡ Some x → take (suc n) xs ≡ take n xs ++ x ∷ []
take_one [] n x is = absurd (let no : None ≡ Some x = is in cc)
take_one (y ∷ xs) zero x is = let same : y ≡ x = cc in ap (λ z. z ∷ []) same
take_one (y ∷ xs) (suc n) x is = ap (λ zs. y ∷ zs) (take_one xs n x is)

-- what is committed there
logged : (session : ℕ) (log : List Logged) (place : ℕ) (changes : List Change) (later : List Exchange) → IsLoggedAt session log (commit_of changes) (Ended place) later → (t : TableName) (x : List Value)
    → State (take (place + length (commit_of changes)) log) t x ≡ With (State (take place log)) changes t x
logged session log place [] later is t x = let same : place + 0 ≡ place = omega arith in ap (λ (n : ℕ). State (take n log) t x) same
logged session log place (c ∷ changes) later is t x =
    let next : place + 1 ≡ suc place = omega arith in
    let commit : Logged = record { session = session; changes = c ∷ changes } in
    ap (λ (db : Database). db t x) (
    ap (λ (n : ℕ). State (take n log)) next ∙ ap State (take_one log place commit is.0) ∙ State-append (take place log) (commit ∷ [])
    ∙ ap (With (State (take place log))) (append-nil (c ∷ changes))
    )

pub commit_leaves : CommitLeaves
commit_leaves session begin log mine before later exchange place is fresh once commits ends = λ i t x. at_key t x i
  where
    at_key : (t : TableName) (x : List Value) → State (take (place + length (commit_of (Net (progress_of before).own))) log) t x ≡ behind (State (take place log)) (progress_of before).own t x
    at_key t x =
        let own = (progress_of before).own in
        let there : IsLoggedAt session log (commit_of (Net own)) (Ended place) later =
        subst (λ (reply : Reply). IsLoggedAt session log (committed_by Commit reply (progress_of before)) reply later) ends
        (subst (λ (op : Op). IsLoggedAt session log (committed_by op exchange.reply (progress_of before)) exchange.reply later) commits (once.0 before exchange later is)) in
        logged session log place (Net own) later there t x ∙ net_leaves (State (take place log)) own t x (firsts_fresh log mine before later exchange place is fresh ends t x)
