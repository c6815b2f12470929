-- A transaction that wrote once.
use Rattle.std.proofs.Common.{◌≡◌, ℕ, ◌+◌, List, [], ◌∷◌, ◌++◌, length, map, take, refl, sym, ap, subst, ◌∙◌, append_assoc}
use Rattle.std.specs.List.{AllByRecursion}
use Rattle.tsql_tree.specs.declared.definition.TableTree.{TableTree}
use Rattle.step_model.specs.declared.change.Planned.{Planned}
use Rattle.step_model.specs.declared.reply.Reply.{Reply}
use Rattle.step_model.specs.Database.{Database, With}
use Rattle.step_model.specs.Exchange.{Exchange}
use Rattle.step_model.specs.Fits.{NoneEnds, commit_of, commits_once, inserts_fresh, ranges_hold, place_of, place_or}
use Rattle.step_model.specs.Log.{Commit as Logged, State}
use Rattle.step_model.specs.Net.{Net}
use Rattle.step_model.specs.Own.{Progress, change_of, none_open, progress_of}
use Rattle.constraint_check.specs.Laws.{Passes, behind}
use Rattle.constraint_check.specs.Reads.{reads_for}
use Rattle.history_laws.proofs.Splits.{not_ended}
use Rattle.write_laws.specs.Reading.{OnceLeaves, OncePasses}
use Rattle.write_laws.specs.Checking.{CanCheck}
use Rattle.write_laws.specs.Once.{WroteOnce}
use Rattle.write_laws.specs.Reads.{at_place}
use Rattle.write_laws.proofs.Commits.{commit_leaves}
use Rattle.write_laws.proofs.Parts.{from_both}
use Rattle.write_laws.proofs.Writes.{applied_adds, writes_pass}

-- ---- the whole transaction

place_past : (behind : ℕ) (between later : List Exchange) → NoneEnds between → place_of behind (between ++ later) ≡ place_of behind later
place_past behind [] later none = refl
place_past behind (e ∷ between) later none = not_ended e.reply (place_of behind (between ++ later)) none.0 ∙ place_past behind between later none.1

module _ (log : List Logged) (mine : List Exchange) (shapes : List TableTree) (plan changes : List Planned) (place : ℕ) (once : WroteOnce mine shapes plan changes place) where
  abbrev rest : List Exchange
  rest = once.between ++ once.commit ∷ once.later

  ends_there : place_of (length log) (once.commit ∷ once.later) ≡ place
  ends_there = ap (λ (reply : Reply). place_or reply (place_of (length log) once.later)) once.ended

  -- its database is the one at its place
  begins_there : at_place log once.front rest ≡ State (take place log)
  begins_there =
      ap (λ (n : ℕ). With (State (take n log)) (map change_of (progress_of once.front).own)) (place_past (length log) once.between (once.commit ∷ once.later) once.goes_on ∙ ends_there)
      ∙ ap (λ (own : List Planned). With (State (take place log)) (map change_of own)) once.unwritten

  own_is : (progress_of (once.front ++ (once.part ++ once.between))).own ≡ changes
  own_is =
      once.no_more ∙ ap (λ (p : Progress). p.own) (from_both none_open once.front once.part)
      ∙ applied_adds once.manner shapes plan changes once.part once.wrote (progress_of once.front) ∙ ap (λ (own : List Planned). own ++ changes) once.unwritten

  leaves : (session : ℕ) (begin : List Logged) → inserts_fresh log mine → commits_once session begin log mine → State (take (place + length (commit_of (Net changes))) log) ≡ behind (State (take place log)) changes
  leaves session begin fresh commits =
      subst (λ (own : List Planned). State (take (place + length (commit_of (Net own))) log) ≡ behind (State (take place log)) own) own_is
      (commit_leaves session begin log mine (once.front ++ (once.part ++ once.between)) once.later once.commit place
      (once.split ∙ ap (λ (xs : List Exchange). once.front ++ xs) (sym (append_assoc once.part once.between (once.commit ∷ once.later))) ∙ sym (append_assoc once.front (once.part ++ once.between) (once.commit ∷ once.later)))
      fresh commits once.commits once.ended)

  passes : ranges_hold log mine → CanCheck (behind (State (take place log)) changes) shapes → AllByRecursion (Passes (behind (State (take place log)) changes)) (reads_for plan shapes)
  passes holds can =
      subst (λ (db : Database). CanCheck (behind db changes) shapes → AllByRecursion (Passes (behind db changes)) (reads_for plan shapes)) begins_there
      (λ can. writes_pass log mine once.front once.part rest once.manner shapes plan changes once.split holds once.wrote can) can

pub once_leaves : OnceLeaves
once_leaves session begin log mine shapes plan planned place fresh commits once = leaves log mine shapes plan planned place once session begin fresh commits

pub once_passes : OncePasses
once_passes log mine shapes plan planned place holds once can = passes log mine shapes plan planned place once holds can
