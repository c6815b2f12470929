-- The definitions at requests that drivers are known to send, at one of each kind of request and each level, and at
-- one that is refused in each field.
use Rattle.std.proofs.Common.{◌≡◌, ℕ, List, [], ◌∷◌, ◌++◌, Result, Ok, Err, refl}
use Rattle.std.specs.Prelude.{codes, map}
use Rattle.transaction_requests.specs.declared.fault.TransactionFault.{TransactionFault}
use Rattle.transaction_requests.specs.declared.fault.TransactionFault.TheVariants.{Bad}
use Rattle.transaction_requests.specs.declared.fault.TransactionKind.TheVariants as kinds
use Rattle.transaction_requests.specs.Reading.{byte_at, bytes_at, whole_at, name_at, level_of, level_at, new_at, anew_at, end_at, numbered_of, numbered_at, behind_headers, request_of}
use Rattle.transaction_requests.specs.Text.{level_words, called, set_level, if_closed, if_set, level_text, new_text, next_text, anew_text, guard, text_of, managed}

-- ALL_HEADERS with the descriptor of no transaction
abbrev headers : List ℕ
headers = 0x16 ∷ 0 ∷ 0 ∷ 0 ∷ 0x12 ∷ 0 ∷ 0 ∷ 0 ∷ 2 ∷ 0 ∷ 0 ∷ 0 ∷ 0 ∷ 0 ∷ 0 ∷ 0 ∷ 0 ∷ 0 ∷ 1 ∷ 0 ∷ 0 ∷ 0 ∷ []

abbrev Facts : Type 0
Facts = List (List ℕ × Result (List ℕ) TransactionFault)

-- what stands behind the headers, and the text
abbrev texts : Facts
texts =
    -- FreeTDS: begin, commit and begin, rollback and begin, rollback
    (5 ∷ 0 ∷ 0 ∷ 0 ∷ [], Ok (codes "BEGIN TRANSACTION"))
    ∷ (7 ∷ 0 ∷ 0 ∷ 1 ∷ 0 ∷ 0 ∷ [], Ok (codes "COMMIT TRANSACTION; IF @@TRANCOUNT = 0 BEGIN TRANSACTION"))
    ∷ (8 ∷ 0 ∷ 0 ∷ 1 ∷ 0 ∷ 0 ∷ [], Ok (codes "IF @@TRANCOUNT > 0 ROLLBACK TRANSACTION; IF @@TRANCOUNT = 0 BEGIN TRANSACTION"))
    ∷ (8 ∷ 0 ∷ 0 ∷ 0 ∷ [], Ok (codes "ROLLBACK TRANSACTION"))
    -- go-mssqldb: begin at a level, commit
    ∷ (5 ∷ 0 ∷ 4 ∷ 0 ∷ [], Ok (codes "SET TRANSACTION ISOLATION LEVEL SERIALIZABLE; IF @@ERROR = 0 BEGIN TRANSACTION"))
    ∷ (7 ∷ 0 ∷ 0 ∷ 0 ∷ [], Ok (codes "COMMIT TRANSACTION"))
    -- the other levels
    ∷ (5 ∷ 0 ∷ 1 ∷ 0 ∷ [], Ok (codes "SET TRANSACTION ISOLATION LEVEL READ UNCOMMITTED; IF @@ERROR = 0 BEGIN TRANSACTION"))
    ∷ (5 ∷ 0 ∷ 2 ∷ 0 ∷ [], Ok (codes "SET TRANSACTION ISOLATION LEVEL READ COMMITTED; IF @@ERROR = 0 BEGIN TRANSACTION"))
    ∷ (5 ∷ 0 ∷ 3 ∷ 0 ∷ [], Ok (codes "SET TRANSACTION ISOLATION LEVEL REPEATABLE READ; IF @@ERROR = 0 BEGIN TRANSACTION"))
    ∷ (5 ∷ 0 ∷ 5 ∷ 0 ∷ [], Ok (codes "SET TRANSACTION ISOLATION LEVEL SNAPSHOT; IF @@ERROR = 0 BEGIN TRANSACTION"))
    -- names, one with brackets
    ∷ (5 ∷ 0 ∷ 0 ∷ 8 ∷ 0x61 ∷ 0 ∷ 0x5D ∷ 0 ∷ 0x62 ∷ 0 ∷ 0x5B ∷ 0 ∷ [], Ok (codes "BEGIN TRANSACTION [a]]b[]"))
    ∷ (9 ∷ 0 ∷ 2 ∷ 0x73 ∷ 0 ∷ [], Ok (codes "SAVE TRANSACTION [s]"))
    ∷ (9 ∷ 0 ∷ 0 ∷ [], Ok (codes "SAVE TRANSACTION"))
    ∷ (8 ∷ 0 ∷ 2 ∷ 0x73 ∷ 0 ∷ 0 ∷ [], Ok (codes "ROLLBACK TRANSACTION [s]"))
    ∷ (7 ∷ 0 ∷ 2 ∷ 0x61 ∷ 0 ∷ 1 ∷ 2 ∷ 2 ∷ 0x62 ∷ 0 ∷ [], Ok (codes "COMMIT TRANSACTION [a]; SET TRANSACTION ISOLATION LEVEL READ COMMITTED; IF @@ERROR = 0 IF @@TRANCOUNT = 0 BEGIN TRANSACTION [b]"))
    -- other bits of the flags, and bytes behind a request
    ∷ (7 ∷ 0 ∷ 0 ∷ 2 ∷ [], Ok (codes "COMMIT TRANSACTION"))
    ∷ (7 ∷ 0 ∷ 0 ∷ 3 ∷ 0 ∷ 0 ∷ [], Ok (codes "COMMIT TRANSACTION; IF @@TRANCOUNT = 0 BEGIN TRANSACTION"))
    ∷ (5 ∷ 0 ∷ 0 ∷ 0 ∷ 9 ∷ [], Ok (codes "BEGIN TRANSACTION"))
    ∷ []

-- and the first field that is refused
abbrev refusals : Facts
refusals =
    ([], Err (Bad 22 kinds.Cut))
    ∷ (5 ∷ [], Err (Bad 22 kinds.Cut))
    ∷ (5 ∷ 0 ∷ [], Err (Bad 24 kinds.Cut))
    ∷ (5 ∷ 0 ∷ 0 ∷ [], Err (Bad 25 kinds.Cut))
    ∷ (5 ∷ 0 ∷ 0 ∷ 4 ∷ 0x61 ∷ 0 ∷ 0x62 ∷ [], Err (Bad 26 kinds.Cut))
    ∷ (5 ∷ 0 ∷ 0 ∷ 3 ∷ 0x61 ∷ 0 ∷ 0x62 ∷ 0 ∷ [], Err (Bad 26 kinds.Cut))
    ∷ (7 ∷ 0 ∷ [], Err (Bad 24 kinds.Cut))
    ∷ (7 ∷ 0 ∷ 0 ∷ [], Err (Bad 25 kinds.Cut))
    ∷ (7 ∷ 0 ∷ 0 ∷ 1 ∷ [], Err (Bad 26 kinds.Cut))
    ∷ (8 ∷ 0 ∷ 0 ∷ 1 ∷ 0 ∷ [], Err (Bad 27 kinds.Cut))
    ∷ (9 ∷ 0 ∷ [], Err (Bad 24 kinds.Cut))
    ∷ (9 ∷ 0 ∷ 2 ∷ 0x61 ∷ [], Err (Bad 25 kinds.Cut))
    ∷ (0 ∷ 0 ∷ [], Err (Bad 22 kinds.Request))
    ∷ (6 ∷ 0 ∷ [], Err (Bad 22 kinds.Request))
    ∷ (5 ∷ 1 ∷ 0 ∷ 0 ∷ [], Err (Bad 22 kinds.Request))
    ∷ (5 ∷ 0 ∷ 6 ∷ [], Err (Bad 24 kinds.Level))
    ∷ (7 ∷ 0 ∷ 0 ∷ 1 ∷ 0xFF ∷ 0 ∷ [], Err (Bad 26 kinds.Level))
    ∷ []

abbrev AreManaged : Facts → Type 0
AreManaged rows = map (λ (row : List ℕ × Result (List ℕ) TransactionFault). managed (headers ++ row.0)) rows ≡ map (λ (row : List ℕ × Result (List ℕ) TransactionFault). row.1) rows

pub texts_are_managed : AreManaged texts
unfolding byte_at bytes_at whole_at name_at level_of level_at new_at anew_at end_at numbered_of numbered_at behind_headers request_of level_words called set_level if_closed if_set level_text new_text next_text anew_text guard text_of managed
texts_are_managed = refl

pub refusals_are_managed : AreManaged refusals
unfolding byte_at bytes_at whole_at name_at level_of level_at new_at anew_at end_at numbered_of numbered_at behind_headers request_of level_words called set_level if_closed if_set level_text new_text next_text anew_text guard text_of managed
refusals_are_managed = refl

-- headers that are cut, shorter than their length, or none
abbrev no_headers : List (List ℕ)
no_headers = [] ∷ (4 ∷ 0 ∷ 0 ∷ []) ∷ (3 ∷ 0 ∷ 0 ∷ 0 ∷ 5 ∷ 0 ∷ 0 ∷ 0 ∷ []) ∷ (9 ∷ 0 ∷ 0 ∷ 0 ∷ 5 ∷ 0 ∷ 0 ∷ 0 ∷ []) ∷ []

pub no_headers_are_managed : map managed no_headers ≡ map (λ payload. Err (Bad 0 kinds.Headers)) no_headers
unfolding behind_headers request_of managed
no_headers_are_managed = refl

-- headers of no header
pub short_headers : managed (4 ∷ 0 ∷ 0 ∷ 0 ∷ 5 ∷ 0 ∷ 0 ∷ 0 ∷ []) ≡ Ok (codes "BEGIN TRANSACTION")
unfolding byte_at bytes_at whole_at name_at level_of level_at new_at anew_at end_at numbered_of numbered_at behind_headers request_of level_words called set_level if_closed if_set level_text new_text next_text anew_text guard text_of managed
short_headers = refl
