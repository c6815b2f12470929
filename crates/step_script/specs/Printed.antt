-- Own: the printed lines of a script: the session, and what the engine answers it.
use Rattle.std.specs.Prelude.{ℕ, Bool, List, [], ◌∷◌, ◌++◌, codes, if◌then◌else◌}
use Rattle.std.specs.Fmt.{decimal, signed_decimal}
use Rattle.value_types.specs.declared.value.Value.{Value}
use Rattle.value_types.specs.declared.value.Value.TheVariants.{Null, Whole, Bit, Text}
use Rattle.step_model.specs.declared.edge.Edge.{Edge}
use Rattle.step_model.specs.declared.reply.Reply.{Reply}
use Rattle.step_model.specs.declared.reply.Reply.TheVariants.{Began, Row, Gone, End, Done, Exists, Missing, Marked, Ended, Wait, TimedOut, Victim, Memory}

-- a number of a key or a row; no script stores another value, and such a one is printed by its kind (own)
abbrev pub value_text : Value → List ℕ
value_text (Whole number) = signed_decimal number
value_text Null = codes "null"
value_text (Bit bit) = codes "bit"
value_text (Text units) = codes "text"

-- values, each behind a space
abbrev pub values_text : List Value → List ℕ
values_text [] = []
values_text (value ∷ values) = codes " " ++ value_text value ++ values_text values

-- edges, each behind a space: who waits, and for whom
abbrev pub edges_text : List Edge → List ℕ
edges_text [] = []
edges_text (edge ∷ edges) = codes " " ++ decimal edge.waiter ++ codes ">" ++ decimal edge.holder ++ edges_text edges

-- the words of a reply
unfoldable pub reply_text : Reply → List ℕ
reply_text Began = codes "began"
reply_text (Row key row at) = codes "row" ++ values_text row ++ codes " at " ++ decimal at
reply_text (Gone key at) = codes "gone" ++ values_text key ++ codes " at " ++ decimal at
reply_text (End at) = codes "end at " ++ decimal at
reply_text Done = codes "done"
reply_text Exists = codes "exists"
reply_text Missing = codes "missing"
reply_text (Marked mark) = codes "marked " ++ decimal mark
reply_text (Ended place) = codes "ended " ++ decimal place
reply_text (Wait holder) = codes "wait " ++ decimal holder
reply_text (TimedOut holder held asked on) = codes "timeout " ++ decimal holder
reply_text (Victim cycle) = codes "victim" ++ edges_text cycle
reply_text Memory = []

-- a line of a session
abbrev pub line_text : ℕ → List ℕ → List ℕ
line_text session text = decimal session ++ codes " " ++ text ++ codes "\n"

-- the line that a reply is printed as; want of memory is not printed
unfoldable pub printed_of : ℕ → Reply → List ℕ
printed_of session Memory = []
printed_of session reply = line_text session (reply_text reply)
