-- What the lines behind come to, the whole script comes to.
use Rattle.std.proofs.Common.{◌≡◌, ℕ, ◌+◌, Bool, true, false, List, [], ◌∷◌, ◌++◌, Option, Some, None, Result, Ok, Err, inl, inr, refl, sym, ap, subst, ◌∙◌, append_assoc}
use Rattle.std.specs.Prelude.{◌==◌, if◌then◌else◌}
use Rattle.step_script.specs.declared.line.Line.{Line}
use Rattle.step_script.specs.Pieces.{pieces, onto}
use Rattle.step_script.specs.Lines.{line_in}
use Rattle.steps_command.specs.declared.play.Stop.{Stop}
use Rattle.steps_command.specs.Script.{lines_of, newline}
use Rattle.steps_command.specs.Play.{Stage, Answers, StopsAt, Plays}

-- behind what was printed so far
abbrev pub Leads : Stage → List (Option Line) → Stage → ℕ → List (Option Line) → List ℕ → Type 0
Leads first lines now number left before = (rest : List ℕ) (end : Result (Unit {0}) Stop) → Plays now number left rest end → Plays first 1 lines (before ++ rest) end

-- one line more
pub leads_on : (first : Stage) (lines : List (Option Line)) (now mid : Stage) (number : ℕ) (told : Option Line) (left : List (Option Line)) (before said : List ℕ) (line : Line)
    → Leads first lines now number (told ∷ left) before → told ≡ Some line → Answers now line said mid → Leads first lines mid (number + 1) left (before ++ said)
leads_on first lines now mid number told left before said line leads is answers = λ rest end plays.
    subst (λ (printed : List ℕ). Plays first 1 lines printed end) (sym (append_assoc before said rest)) (leads (said ++ rest) end (inr (line, said, rest, mid, is, answers, refl, plays)))

-- ---- lines of pieces

onto_some : (byte : ℕ) (pieces : List (List ℕ)) → (piece : List ℕ) × (others : List (List ℕ)) × (onto byte pieces ≡ piece ∷ others)
onto_some byte [] = (byte ∷ [], [], refl)
onto_some byte (piece ∷ others) = (byte ∷ piece, others, refl)

first_piece : (byte mark : ℕ) (same : Bool) (behind : List (List ℕ)) → (piece : List ℕ) × (others : List (List ℕ)) × ((if same then [] ∷ behind else onto byte behind) ≡ piece ∷ others)
first_piece byte mark true behind = ([], behind, refl)
first_piece byte mark false behind = onto_some byte behind

-- there is a first piece
some_piece : (mark : ℕ) (text : List ℕ) → (piece : List ℕ) × (others : List (List ℕ)) × (pieces mark text ≡ piece ∷ others)
some_piece mark [] = ([], [], refl)
some_piece mark (byte ∷ text) = first_piece byte mark (byte == mark) (pieces mark text)

line_front : (passes : Bool) (text : List ℕ) (behind : List (List ℕ)) (piece : List ℕ) (others : List (List ℕ)) → behind ≡ piece ∷ others → lines_of passes (text ∷ behind) ≡ line_in text ∷ lines_of passes behind
line_front passes text behind piece others is = rw is refl

-- a line stands in front of those behind it
pub first_line : (mark : ℕ) (passes : Bool) (left text behind : List ℕ) → pieces mark left ≡ text ∷ pieces mark behind → lines_of passes (pieces mark left) ≡ line_in text ∷ lines_of passes (pieces mark behind)
first_line mark passes left text behind is =
    let some = some_piece mark behind in
    ap (lines_of passes) is ∙ line_front passes text (pieces mark behind) some.0 some.1 some.2

-- ---- the loop

-- the script stops at the first line that is left
pub stop_line : (passes : Bool) (left text behind : List ℕ) (now : Stage) (number : ℕ) (printed : List ℕ) (end : Result (Unit {0}) Stop) → pieces newline left ≡ text ∷ pieces newline behind
    → StopsAt number (line_in text) printed end → Plays now number (lines_of passes (pieces newline left)) printed end
stop_line passes left text behind now number printed end cut stops =
    subst (λ (lines : List (Option Line)). Plays now number lines printed end) (sym (first_line newline passes left text behind cut)) (inl stops)

-- that line is answered
pub answer_line : (first : Stage) (lines : List (Option Line)) (now mid : Stage) (number : ℕ) (passes : Bool) (left text behind before said : List ℕ) (line : Line) → pieces newline left ≡ text ∷ pieces newline behind
    → Leads first lines now number (lines_of passes (pieces newline left)) before → line_in text ≡ Some line → Answers now line said mid
    → Leads first lines mid (number + 1) (lines_of passes (pieces newline behind)) (before ++ said)
answer_line first lines now mid number passes left text behind before said line cut leads is answers =
    let front = subst (λ (all : List (Option Line)). Leads first lines now number all before) (first_line newline passes left text behind cut) leads in
    leads_on first lines now mid number (line_in text) (lines_of passes (pieces newline behind)) before said line front is answers

pub printed_on : (old mid new before said : List ℕ) → mid ≡ old ++ before → new ≡ mid ++ said → new ≡ old ++ (before ++ said)
printed_on old mid new before said first more = more ∙ ap (λ (bytes : List ℕ). bytes ++ said) first ∙ append_assoc old before said
