-- The texts of the table.
use Rattle.std.proofs.Common.{ap, ◌≡◌, ℤ, Bool, true, refl, rules, List, [], ◌∷◌, Option, option_map, Some, None, IfSome, nat_lt, ◌∙◌}
use Rattle.std.proofs.lemmas.Bool.{ltb-true}
use Rattle.std.proofs.lemmas.List.Sums.{AllPass-from_list_all}
use Rattle.std.specs.List.{list_all}
use Rattle.error_table.specs.declared.row.ErrorRow.{ErrorRow}
use Rattle.error_table.specs.Text.{IsAscii}
use Rattle.error_table.specs.Table.{ErrorLine, error_lines, line_among, line_of}

-- whether a line's text is ASCII
abbrev is_ascii : ErrorLine → Bool
is_ascii line = list_all (λ byte. nat_lt byte 128) line.text

-- each text of the table is
all_ascii : list_all is_ascii error_lines ≡ true
unfolding error_lines
all_ascii = refl

-- what is found among lines that pass a test passes it
found_passes : (passes : ErrorLine → Bool) (number : ℤ) (lines : List ErrorLine) (line : ErrorLine) → list_all passes lines ≡ true
    → Some line ≡ line_among lines number → passes line ≡ true
found_passes passes number [] line all found = search rules
found_passes passes number (first ∷ lines) line all found = search (rules, found_passes passes number lines line)

-- so what is found in the table has an ASCII text
pub ascii_of : (lines : List ErrorLine) (number : ℤ) (result : Option ErrorRow) → lines ≡ error_lines → option_map line_of result ≡ line_among lines number
    → IfSome result (λ row. IsAscii row.text.now)
ascii_of lines number None table found = search rules
ascii_of lines number (Some row) table found = λ k d within. ltb-true _ 128
    (AllPass-from_list_all (λ byte. nat_lt byte 128) row.text.now (found_passes is_ascii number lines (line_of row) (ap (list_all is_ascii) table ∙ all_ascii) found) k d within)
