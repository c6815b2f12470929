-- [MS-TDS] 2.2.6.7: the batches of a load, and the bytes of a client that sends them one behind another. Each is said
-- of its numbers; the code writes one text after another.
use Rattle.std.specs.Prelude.{ℕ, ◌+◌, ◌*◌, ◌%◌, List, [], ◌∷◌, ◌++◌, ◌≤◌, length, map, codes, decimal}
use Rattle.std.specs.List.{flat_map}
use Rattle.value_types.specs.Units.{le_bytes_of}
use Rattle.tds_packets.specs.declared.message.Message.{Message}
use Rattle.tds_packets.specs.Header.{sql_batch}
use Rattle.tds_packets.specs.Packets.{Packets, count_up, default_size}
use Rattle.tds_packets.specs.Stream.{payload_limit}

-- ---- before the transfers

-- a table of accounts
abbrev pub create_text : List ℕ
create_text = codes "CREATE TABLE accounts (id INT NOT NULL PRIMARY KEY, amount BIGINT NOT NULL)"

-- how many accounts there are
abbrev pub accounts : ℕ
accounts = 100

-- one behind the first, with its number
abbrev pub account_text : ℕ → List ℕ
account_text id = codes ", (" ++ decimal id ++ codes ", 10000)"

-- all of them, with the same amount
abbrev pub insert_text : List ℕ
insert_text = codes "INSERT INTO accounts VALUES (1, 10000)" ++ flat_map (λ k. account_text (k + 2)) (count_up 99)

abbrev pub opening_texts : List (List ℕ)
opening_texts = create_text ∷ insert_text ∷ []

-- ---- transfers

-- which account a worker's transfer takes from, both counted from 0, and which it gives to
abbrev pub payer : ℕ → ℕ → ℕ
payer worker transfer = 1 + (37 * transfer + 11 * worker) % accounts

abbrev pub payee : ℕ → ℕ → ℕ
payee worker transfer = 1 + (payer worker transfer + transfer % 99) % accounts

-- one account gives to another: the front of the text, and what it says of rows
unfoldable pub update_text : ℕ → List ℕ
update_text from = codes "UPDATE accounts SET amount = amount + CASE WHEN id = " ++ decimal from

unfoldable pub where_text : ℕ → List ℕ
where_text from = codes " THEN -1 ELSE 1 END WHERE id = " ++ decimal from

unfoldable pub or_text : ℕ → List ℕ
or_text to = codes " OR id = " ++ decimal to

abbrev pub transfer_text : ℕ → ℕ → List ℕ
transfer_text from to = update_text from ++ where_text from ++ or_text to

-- a worker's texts, for so many transfers
abbrev pub worker_texts : ℕ → ℕ → List (List ℕ)
worker_texts transfers worker = map (λ transfer. transfer_text (payer worker transfer) (payee worker transfer)) (count_up transfers)

-- ---- behind them

abbrev pub total_text : List ℕ
total_text = codes "SELECT SUM(amount) FROM accounts"

abbrev pub closing_texts : List (List ℕ)
closing_texts = total_text ∷ []

-- ---- their bytes

-- ALL_HEADERS with a transaction descriptor (2.2.5.3)
abbrev pub all_headers : List ℕ
all_headers = 0x16 ∷ 0 ∷ 0 ∷ 0 ∷ 0x12 ∷ 0 ∷ 0 ∷ 0 ∷ 0x02 ∷ 0 ∷ 0 ∷ 0 ∷ 0 ∷ 0 ∷ 0 ∷ 0 ∷ 0 ∷ 0 ∷ 1 ∷ 0 ∷ 0 ∷ 0 ∷ []

-- what a batch of this text carries
abbrev pub batch_payload : List ℕ → List ℕ
batch_payload text = all_headers ++ le_bytes_of text

-- the packets of a batch; those of a client have SPID 0
unfoldable pub batch_bytes : List ℕ → List ℕ
batch_bytes text = Packets sql_batch 0 default_size (batch_payload text)

-- the batches of these texts, one behind another
abbrev pub batches_bytes : List (List ℕ) → List ℕ
batches_bytes texts = flat_map batch_bytes texts

-- the messages that they are, the first of which begins at this offset
abbrev pub batches_messages : ℕ → List (List ℕ) → List Message
batches_messages at [] = []
batches_messages at (text ∷ texts) = record { kind = sql_batch; at = at; payload = batch_payload text } ∷ batches_messages (at + length (batch_bytes text)) texts

-- the text's batch is a message
abbrev pub IsShort : List ℕ → Type 0
IsShort text = length (batch_payload text) ≤ payload_limit
