-- Own: what is asked of the exchanges of one session, so that its commits keep a database sound. What is asked of its statements is
-- `TextReadsBack` of text_laws: the text that each CREATE TABLE keeps reads as its table.
use Rattle.std.specs.Prelude.{ℕ, List}
use Rattle.step_model.specs.Exchange.{Exchange, MayCome}
use Rattle.step_model.specs.Fits.{Each, commits_once, fetches_current, inserts_fresh, numbers_rise, ranges_hold, targets_stable}
use Rattle.step_model.specs.Log.{Commit as Logged}
use Rattle.step_model.specs.Own.{progress_of, standing_at}

-- each operation is asked where it may come
abbrev pub may_come : List Exchange → Type 0
may_come mine = Each (λ before exchange later. MayCome (standing_at (progress_of before)) exchange.op) mine

-- A session's exchanges fit the log in these points: its numbers never fall, and each fetch is right at its own; the ranges that it held,
-- its insertions and its commits are those of the database at its transaction's place; and a row that it fetched to write, and wrote, is
-- the same from that fetch to that place. And it asks what may come.
pub record Tied (session : ℕ) (begin log : List Logged) (mine : List Exchange) : Type 0 where
  pub numbers : numbers_rise begin log mine
  pub fetches : fetches_current log mine
  pub ranges : ranges_hold log mine
  pub inserts : inserts_fresh log mine
  pub targets : targets_stable log mine
  pub commits : commits_once session begin log mine
  pub comes : may_come mine
