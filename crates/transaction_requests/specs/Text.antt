-- Own: the text of the batch that a request stands for: BEGIN, COMMIT, ROLLBACK or SAVE TRANSACTION, with
-- SET TRANSACTION ISOLATION LEVEL in front of what begins at a level. What can't be set begins nothing; and who
-- asks to roll back and begin anew is not told that nothing was open.
use Rattle.std.specs.Prelude.{◌≡◌, ℕ, ◌-◌, true, ◌==◌, if◌then◌else◌, List, [], ◌∷◌, ◌++◌, length, codes, is_ok, Option, Some, None, Result, Ok, Err}
use Rattle.std.specs.List.{flat_map}
use Rattle.transaction_requests.specs.declared.fault.Refusal.{Refusal}
use Rattle.transaction_requests.specs.declared.fault.TransactionFault.{TransactionFault}
use Rattle.transaction_requests.specs.declared.fault.TransactionFault.TheVariants.{Bad, Memory}
use Rattle.transaction_requests.specs.Reading.{NewTransaction, TransactionRequest, begins, commits, rolls_back, saves, request_of}

-- a level above 0 in words
unfoldable pub level_words : ℕ → List ℕ
level_words level =
    if level == 1 then codes "READ UNCOMMITTED"
    else if level == 2 then codes "READ COMMITTED"
    else if level == 3 then codes "REPEATABLE READ"
    else if level == 4 then codes "SERIALIZABLE"
    else codes "SNAPSHOT"

-- the unit that ends a name in brackets
abbrev pub bracket : ℕ
bracket = 0x5D

-- a unit of a name in brackets
abbrev pub doubled : ℕ → List ℕ
doubled unit = if unit == bracket then bracket ∷ bracket ∷ [] else unit ∷ []

-- a name in brackets, where there is one
unfoldable pub called : List ℕ → List ℕ
called name = if length name == 0 then [] else codes " [" ++ flat_map doubled name ++ codes "]"

-- in front of a level
unfoldable pub set_level : List ℕ
set_level = codes "SET TRANSACTION ISOLATION LEVEL "

-- behind it: what follows is run only where the level was not refused
unfoldable pub if_set : List ℕ
if_set = codes "; IF @@ERROR = 0 "

-- in front of what begins at a level; 0 leaves the session's
unfoldable pub level_text : ℕ → List ℕ
level_text level = if level == 0 then [] else set_level ++ level_words level ++ if_set

-- a transaction begins
unfoldable pub new_text : NewTransaction → List ℕ
new_text new = level_text new.level ++ codes "BEGIN TRANSACTION" ++ called new.name

-- in front of what begins behind another: none begins within one that is still open
unfoldable pub if_closed : List ℕ
if_closed = codes "IF @@TRANCOUNT = 0 "

-- a transaction begins behind another
unfoldable pub next_text : NewTransaction → List ℕ
next_text new = level_text new.level ++ if_closed ++ codes "BEGIN TRANSACTION" ++ called new.name

-- the same, where one does
unfoldable pub anew_text : Option NewTransaction → List ℕ
anew_text None = []
anew_text (Some new) = codes "; " ++ next_text new

-- in front of a rollback behind which something begins
unfoldable pub guard : Option NewTransaction → List ℕ
guard None = []
guard (Some new) = codes "IF @@TRANCOUNT > 0 "

-- the text of a request
unfoldable pub text_of : TransactionRequest → List ℕ
text_of (begins new) = new_text new
text_of (commits name anew) = codes "COMMIT TRANSACTION" ++ called name ++ anew_text anew
text_of (rolls_back name anew) = guard anew ++ codes "ROLLBACK TRANSACTION" ++ called name ++ anew_text anew
text_of (saves name) = codes "SAVE TRANSACTION" ++ called name

-- a refusal, by the offset of its field in a payload of so many bytes
abbrev pub placed : ℕ → Result TransactionRequest Refusal → Result (List ℕ) TransactionFault
placed size (Ok request) = Ok (text_of request)
placed size (Err refusal) = Err (Bad (size - refusal.left) refusal.kind)

-- the text that a payload stands for, or its first field that is refused
unfoldable pub managed : List ℕ → Result (List ℕ) TransactionFault
managed payload = placed (length payload) (request_of payload)

-- the answer is that; memory is wanting only where no field is refused
abbrev pub Answers : Result (List ℕ) TransactionFault → Result (List ℕ) TransactionFault → Type 0
Answers (Ok text) read = read ≡ Ok text
Answers (Err (Bad place kind)) read = read ≡ Err (Bad place kind)
Answers (Err Memory) read = is_ok read ≡ true
