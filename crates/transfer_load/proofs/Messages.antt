-- The bytes of batches are messages, of which none ends a connection of a client that is logged in.
use Rattle.std.proofs.Common.{◌≡◌, ℕ, zero, suc, ◌+◌, ◌*◌, ◌-◌, ◌%◌, ◌<◌, ◌≤◌, List, [], ◌∷◌, ◌++◌, length, refl, sym, ap, ◌∙◌, subst, arith, length-append, append-nil, drop, le-ltb}
use Rattle.std.specs.Prelude.{Option, None, Ok, fold, is_ok, decimal}
use Rattle.std.specs.List.{AllByRecursion}
use Rattle.std.proofs.lemmas.Fmt.{length-decimal-le}
use Rattle.std.proofs.lemmas.List.{length-take, map-append}
use Rattle.value_types.specs.Units.{le_bytes_of}
use Rattle.tds_packets.specs.declared.message.Message.{Message}
use Rattle.tds_packets.specs.Header.{header_bytes, sql_batch}
use Rattle.std.specs.Int.{w16, to_be_bytes}
use Rattle.tds_packets.specs.Packets.{body_at, count_up, default_size, packet_at, packet_count, status_at}
use Rattle.tds_packets.specs.Reading.{byte_limit}
use Rattle.tds_packets.specs.Stream.{IsMessage, Joins}
use Rattle.tds_packets.proofs.PacketLaws.{one_message_sent}
use Rattle.tds_tokens.proofs.Lengths.{length-le_bytes_of}
use Rattle.tds_login.specs.declared.config.Config.{Config}
use Rattle.tds_login.specs.declared.config.Entry.TheVariants.{Bare}
use Rattle.session_server.specs.Talk.{Walk, batch_fault, connected_with, first_in, handle_batch, next_of, walk_by, walk_of, with_message, first_walk}
use Rattle.session_server.specs.Conversation.{IsUnended}
use Rattle.transfer_load.proofs.Sent.{one_sent}
use Rattle.transfer_load.specs.Batches.{IsShort, all_headers, batch_bytes, batch_payload, batches_bytes, batches_messages, or_text, payee, payer, transfer_text, update_text, where_text, worker_texts}

-- ---- messages

batch_message : (at : ℕ) (text : List ℕ) → IsShort text → IsMessage at (batch_bytes text) (record { kind = sql_batch; at = at; payload = batch_payload text })
unfolding batch_bytes
batch_message at text short = one_message_sent sql_batch 0 default_size (batch_payload text) (omega arith) (omega arith) at refl short

pub batches_join : (at : ℕ) (texts : List (List ℕ)) → AllByRecursion IsShort texts → Joins at (batches_bytes texts) (batches_messages at texts) []
unfolding Joins
batches_join at [] short = refl
batches_join at (text ∷ texts) short = (batch_bytes text, batches_bytes texts, refl, batch_message at text short.0, batches_join (at + length (batch_bytes text)) texts short.1)

-- ---- none of them ends a connection

payload_length : (text : List ℕ) → length (batch_payload text) ≡ 22 + 2 * length text
payload_length text = length-append all_headers (le_bytes_of text) ∙ omega (arith, length-le_bytes_of text)

no_fault : (text : List ℕ) → batch_fault (batch_payload text) ≡ None
no_fault text =
    let long = payload_length text in
    let even : (length (batch_payload text) - 22) % 2 ≡ 0 = omega arith in
    rw (le-ltb (length (batch_payload text)) 4 (omega (arith, long)), le-ltb (length (batch_payload text)) 22 (omega (arith, long)), even) refl

goes_on : (config : Config) (walk : Walk) (at : ℕ) (text : List ℕ) → walk.stands ≡ Ok (first_in config Bare)
    → (with_message config walk (record { kind = sql_batch; at = at; payload = batch_payload text })).stands ≡ Ok (first_in config Bare)
goes_on config walk at text stands =
    let message : Message = record { kind = sql_batch; at = at; payload = batch_payload text } in
    ap (λ s. (walk_by config walk s message).stands) stands ∙ ap (λ (fault : Option _). next_of (handle_batch (connected_with config default_size) (batch_payload text) fault)) (no_fault text)

all_go_on : (config : Config) (walk : Walk) (at : ℕ) (texts : List (List ℕ)) → walk.stands ≡ Ok (first_in config Bare) → (fold (with_message config) walk (batches_messages at texts)).stands ≡ Ok (first_in config Bare)
all_go_on config walk at [] stands = stands
all_go_on config walk at (text ∷ texts) stands =
    all_go_on config (with_message config walk (record { kind = sql_batch; at = at; payload = batch_payload text })) (at + length (batch_bytes text)) texts (goes_on config walk at text stands)

pub batches_unended : (config : Config) (texts : List (List ℕ)) → config.entry ≡ Bare → IsUnended config (batches_messages 0 texts)
unfolding walk_of
batches_unended config texts bare = ap is_ok (all_go_on config (first_walk config) 0 texts (ap (λ e. Ok (first_in config e)) bare))

-- ---- the texts of transfers are short

decimal_short : (n : ℕ) → n ≤ 100 → length (decimal n) ≤ 3
decimal_short n few = length-decimal-le 3 n (omega arith) (omega arith) (omega arith)

update_length : (from : ℕ) → from ≤ 100 → length (update_text from) ≤ 70
unfolding update_text
update_length from few = omega (arith, decimal_short from few)

where_length : (from : ℕ) → from ≤ 100 → length (where_text from) ≤ 70
unfolding where_text
where_length from few = omega (arith, decimal_short from few)

or_length : (to : ℕ) → to ≤ 100 → length (or_text to) ≤ 20
unfolding or_text
or_length to few = omega (arith, decimal_short to few)

transfer_length : (from to : ℕ) → from ≤ 100 → to ≤ 100 → length (transfer_text from to) ≤ 200
transfer_length from to few other =
    let whole : length (transfer_text from to) ≡ length (update_text from ++ where_text from) + length (or_text to) = length-append (update_text from ++ where_text from) (or_text to) in
    let front : length (update_text from ++ where_text from) ≡ length (update_text from) + length (where_text from) = length-append (update_text from) (where_text from) in
    omega (arith, whole, front, update_length from few, where_length from few, or_length to other)

short_text : (text : List ℕ) → length text ≤ 200 → IsShort text
short_text text few = omega (arith, payload_length text)

all_append : {X : Type 0} (P : X → Type 0) (xs : List X) (x : X) → AllByRecursion P xs → P x → AllByRecursion P (xs ++ x ∷ [])
all_append P [] x all one = (one, tt)
all_append P (y ∷ xs) x all one = (all.0, all_append P xs x all.1 one)

texts_more : (n worker : ℕ) → worker_texts (suc n) worker ≡ worker_texts n worker ++ transfer_text (payer worker n) (payee worker n) ∷ []
texts_more n worker = map-append (λ (k : ℕ). transfer_text (payer worker k) (payee worker k)) (count_up n) (n ∷ [])

text_few : (worker n : ℕ) → length (transfer_text (payer worker n) (payee worker n)) ≤ 200
text_few worker n = transfer_length (payer worker n) (payee worker n) (let from : payer worker n ≤ 100 = omega arith in from) (let to : payee worker n ≤ 100 = omega arith in to)

pub worker_short : (transfers worker : ℕ) → AllByRecursion IsShort (worker_texts transfers worker)
worker_short zero worker = tt
worker_short (suc n) worker =
    subst (AllByRecursion IsShort) (sym (texts_more n worker)) (all_append IsShort (worker_texts n worker) (transfer_text (payer worker n) (payee worker n)) (worker_short n worker) (short_text _ (text_few worker n)))

-- ---- and their bytes are few

header_is : (kind status size spid id : ℕ) → length (header_bytes kind status size spid id) ≡ 8
header_is kind status size spid id = omega (arith, length-append (to_be_bytes w16 size) (to_be_bytes w16 spid ++ id ∷ 0 ∷ []), length-append (to_be_bytes w16 spid) (id ∷ 0 ∷ []))

one_packet_few : (payload : List ℕ) (k : ℕ) → length (packet_at sql_batch 0 default_size payload k) ≤ 4096
one_packet_few payload k =
    let body = body_at (default_size - 8) payload k in
    let head = header_is sql_batch (status_at (default_size - 8) payload k) (8 + length body) 0 ((k + 1) % 256) in
    omega (arith, head, length-append (header_bytes sql_batch (status_at (default_size - 8) payload k) (8 + length body) 0 ((k + 1) % 256)) body, length-take (default_size - 8) (drop ((default_size - 8) * k) payload))

batch_few : (text : List ℕ) → length text ≤ 200 → length (batch_bytes text) ≤ 4096
unfolding batch_bytes
batch_few text few =
    let payload = batch_payload text in
    let one : packet_count (default_size - 8) (length payload) ≡ 1 = omega (arith, payload_length text) in
    rw one (omega (arith, one_packet_few payload 0, ap length (append-nil (packet_at sql_batch 0 default_size payload 0))))

batches_few : (transfers worker : ℕ) → length (batches_bytes (worker_texts transfers worker)) ≤ transfers * 4096
batches_few zero worker = omega arith
batches_few (suc n) worker =
    let text = transfer_text (payer worker n) (payee worker n) in
    let more = ap (λ (texts : List (List ℕ)). length (batches_bytes texts)) (texts_more n worker) ∙ ap length (one_sent (worker_texts n worker) text) ∙ length-append (batches_bytes (worker_texts n worker)) (batch_bytes text) in
    omega (arith, more, batches_few n worker, batch_few text (text_few worker n))

pub worker_bytes_few : (transfers worker : ℕ) → transfers ≤ 10000 → length (batches_bytes (worker_texts transfers worker)) < byte_limit
worker_bytes_few transfers worker many = omega (arith, batches_few transfers worker, many)
