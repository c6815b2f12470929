-- [MS-TDS] 2.2.7: the numbers of tokens, each with its name in the standard: the first byte of each token,
-- and what stands in DONE and ENVCHANGE. The code has the same numbers as constants.
use Rattle.std.specs.Prelude.{ℕ}
use Rattle.tds_tokens.specs.declared.token.DoneKind.{DoneKind}
use Rattle.tds_tokens.specs.declared.token.DoneKind.TheVariants.{Done, Proc, InProc}

-- ---- the first byte of each token

-- RETURNSTATUS (2.2.7.18)
abbrev pub returnstatus_tag : ℕ
returnstatus_tag = 0x79

-- RETURNVALUE (2.2.7.19)
abbrev pub returnvalue_tag : ℕ
returnvalue_tag = 0xAC

-- COLMETADATA (2.2.7.4)
abbrev pub colmetadata_tag : ℕ
colmetadata_tag = 0x81

-- ERROR (2.2.7.10)
abbrev pub error_tag : ℕ
error_tag = 0xAA

-- INFO (2.2.7.13)
abbrev pub info_tag : ℕ
info_tag = 0xAB

-- LOGINACK (2.2.7.14)
abbrev pub loginack_tag : ℕ
loginack_tag = 0xAD

-- ROW (2.2.7.20)
abbrev pub row_tag : ℕ
row_tag = 0xD1

-- ENVCHANGE (2.2.7.9)
abbrev pub envchange_tag : ℕ
envchange_tag = 0xE3

-- DONE, DONEPROC and DONEINPROC (2.2.7.6 to 2.2.7.8)
abbrev pub done_tag : DoneKind → ℕ
done_tag Done = 0xFD
done_tag Proc = 0xFE
done_tag InProc = 0xFF

-- ---- ERROR and INFO

-- the most units of a message that are sent (own)
abbrev pub text_limit : ℕ
text_limit = 2000

-- ---- Status of a RETURNVALUE (2.2.7.19)

-- the value is that of an OUTPUT parameter
abbrev pub output_parameter : ℕ
output_parameter = 0x01

-- ---- Status of a DONE (2.2.7.6): a sum of those bits that hold

-- DONE_FINAL: no bit, the last DONE of a request
abbrev pub done_final : ℕ
done_final = 0x00

-- DONE_MORE: more of the request's answer follows
abbrev pub done_more : ℕ
done_more = 0x01

-- DONE_ERROR: the statement ended in an error
abbrev pub done_error : ℕ
done_error = 0x02

-- DONE_COUNT: the count of rows is valid
abbrev pub done_count : ℕ
done_count = 0x10

-- DONE_ATTN: an attention is acknowledged
abbrev pub done_attn : ℕ
done_attn = 0x20

-- ---- CurCmd of a DONE (2.2.7.6): the kind of statement

-- any other statement
abbrev pub command_none : ℕ
command_none = 0

-- SELECT
abbrev pub command_select : ℕ
command_select = 0xC1

-- INSERT
abbrev pub command_insert : ℕ
command_insert = 0xC3

-- DELETE
abbrev pub command_delete : ℕ
command_delete = 0xC4

-- UPDATE
abbrev pub command_update : ℕ
command_update = 0xC5

-- ---- Type of an ENVCHANGE (2.2.7.9)

-- the database
abbrev pub env_database : ℕ
env_database = 1

-- the size of packets
abbrev pub env_packet_size : ℕ
env_packet_size = 4

-- the collation
abbrev pub env_collation : ℕ
env_collation = 7

-- a transaction begins
abbrev pub env_begin : ℕ
env_begin = 8

-- it is committed
abbrev pub env_commit : ℕ
env_commit = 9

-- it is rolled back
abbrev pub env_rollback : ℕ
env_rollback = 10
