-- The subcommands as `clap` builds them, and the options that each has.
use Rattle.std.proofs.Common.{◌≡◌, ◌∙◌, ◌<◌, ◌≤◌, ◌^◌, ◌==◌, ℕ, Bool, true, false, refl, sym, ap, arith, [], ◌∷◌, true≢false, nat_lt, lt-ltb, le-leb}
use Rattle.std.specs.Prelude.{slice_index}
use Rattle.std.specs.Option.{is_some}
use Rattle.std.specs.Str.Parse.{IsNumeral, digits_value}
use Rattle.std.proofs.lemmas.Str.Parse.{digit_from_value}
use Rattle.std.proofs.lemmas.Bool.{ne_eqb}
use Rattle.clap.specs.Walk.{Rule, Text}
use Rattle.clap.specs.Simple.{Shape, built_leaf, filled, inherited, marked_built, with_index, with_leaf_noted}
use Rattle.clap.specs.Takes.{value_passes}
use Rattle.clap.specs.ValueTests.{accepts}
use Rattle.program_words.specs.Numbers.{number_in}
use Rattle.program_words.specs.Options as options
use Rattle.program_words.specs.Options.{top_shape, up_to}
use Rattle.program_words.specs.Spelled.{Called, Name, has_flag, has_option, is_in_form, text_of}
use Rattle.program_words.specs.Spelled.{pipe, listen, steps, load, user, password, bare, drivers, port, workers, rounds, transfers}
use Rattle.program_words.proofs.Plain.{InForm, by_test, numeral_test, test_means, test_of}
use Rattle.program_words.proofs.Ranges.{number_in_range}
use Rattle.program_words.proofs.Steps.{HasFlag, HasOption, HasPlace}

-- ---- the subcommands

abbrev top : Shape
top = with_leaf_noted (marked_built top_shape)

abbrev pub leaf : Called → Shape
leaf pipe = built_leaf (inherited top options.pipe.top)
leaf listen = built_leaf (inherited top options.listen.top)
leaf steps = built_leaf (inherited top options.steps.top)
leaf load = built_leaf (inherited top options.load.top)

abbrev pub rule : Name → Rule
rule user = filled options.user_rule
rule password = filled options.password_rule
rule bare = filled options.bare_rule
rule drivers = filled options.drivers_rule
rule port = filled options.port_rule
rule workers = filled options.workers_rule
rule rounds = filled options.rounds_rule
rule transfers = with_index 1 (filled options.transfers_rule)

pub no_override : (called : Called) → (leaf called).args_override_self ≡ false
no_override pipe = refl
no_override listen = refl
no_override steps = refl
no_override load = refl

pub option_of : (called : Called) (name : Name) → has_option called name ≡ true → HasOption (leaf called).rules (text_of name) (rule name)
option_of pipe user e = record {
  no_dashes = refl;
  alone = refl;
  joined_no_dashes = λ value. refl;
  joined = λ value. refl;
  by_long = refl;
  by_id = refl;
  self = refl;
  takes = refl;
  one = refl;
  passes = λ value rows. refl;
  uses = λ value rows. refl;
}
option_of pipe password e = record {
  no_dashes = refl;
  alone = refl;
  joined_no_dashes = λ value. refl;
  joined = λ value. refl;
  by_long = refl;
  by_id = refl;
  self = refl;
  takes = refl;
  one = refl;
  passes = λ value rows. refl;
  uses = λ value rows. refl;
}
option_of pipe bare e = absurd (true≢false (sym e))
option_of pipe drivers e = absurd (true≢false (sym e))
option_of pipe port e = absurd (true≢false (sym e))
option_of pipe workers e = absurd (true≢false (sym e))
option_of pipe rounds e = absurd (true≢false (sym e))
option_of pipe transfers e = absurd (true≢false (sym e))
option_of listen user e = record {
  no_dashes = refl;
  alone = refl;
  joined_no_dashes = λ value. refl;
  joined = λ value. refl;
  by_long = refl;
  by_id = refl;
  self = refl;
  takes = refl;
  one = refl;
  passes = λ value rows. refl;
  uses = λ value rows. refl;
}
option_of listen password e = record {
  no_dashes = refl;
  alone = refl;
  joined_no_dashes = λ value. refl;
  joined = λ value. refl;
  by_long = refl;
  by_id = refl;
  self = refl;
  takes = refl;
  one = refl;
  passes = λ value rows. refl;
  uses = λ value rows. refl;
}
option_of listen bare e = absurd (true≢false (sym e))
option_of listen drivers e = absurd (true≢false (sym e))
option_of listen port e = record {
  no_dashes = refl;
  alone = refl;
  joined_no_dashes = λ value. refl;
  joined = λ value. refl;
  by_long = refl;
  by_id = refl;
  self = refl;
  takes = refl;
  one = refl;
  passes = λ value rows. refl;
  uses = λ value rows. refl;
}
option_of listen workers e = record {
  no_dashes = refl;
  alone = refl;
  joined_no_dashes = λ value. refl;
  joined = λ value. refl;
  by_long = refl;
  by_id = refl;
  self = refl;
  takes = refl;
  one = refl;
  passes = λ value rows. refl;
  uses = λ value rows. refl;
}
option_of listen rounds e = record {
  no_dashes = refl;
  alone = refl;
  joined_no_dashes = λ value. refl;
  joined = λ value. refl;
  by_long = refl;
  by_id = refl;
  self = refl;
  takes = refl;
  one = refl;
  passes = λ value rows. refl;
  uses = λ value rows. refl;
}
option_of listen transfers e = absurd (true≢false (sym e))
option_of steps user e = absurd (true≢false (sym e))
option_of steps password e = absurd (true≢false (sym e))
option_of steps bare e = absurd (true≢false (sym e))
option_of steps drivers e = absurd (true≢false (sym e))
option_of steps port e = absurd (true≢false (sym e))
option_of steps workers e = absurd (true≢false (sym e))
option_of steps rounds e = absurd (true≢false (sym e))
option_of steps transfers e = absurd (true≢false (sym e))
option_of load user e = absurd (true≢false (sym e))
option_of load password e = absurd (true≢false (sym e))
option_of load bare e = absurd (true≢false (sym e))
option_of load drivers e = absurd (true≢false (sym e))
option_of load port e = absurd (true≢false (sym e))
option_of load workers e = record {
  no_dashes = refl;
  alone = refl;
  joined_no_dashes = λ value. refl;
  joined = λ value. refl;
  by_long = refl;
  by_id = refl;
  self = refl;
  takes = refl;
  one = refl;
  passes = λ value rows. refl;
  uses = λ value rows. refl;
}
option_of load rounds e = absurd (true≢false (sym e))
option_of load transfers e = absurd (true≢false (sym e))

pub flag_of : (called : Called) (name : Name) → has_flag called name ≡ true → HasFlag (leaf called).rules (text_of name) (rule name)
flag_of pipe user e = absurd (true≢false (sym e))
flag_of pipe password e = absurd (true≢false (sym e))
flag_of pipe bare e = record {
  no_dashes = refl;
  alone = refl;
  by_long = refl;
  takes = refl;
  passes = λ rows. refl;
  uses = λ rows. refl;
}
flag_of pipe drivers e = record {
  no_dashes = refl;
  alone = refl;
  by_long = refl;
  takes = refl;
  passes = λ rows. refl;
  uses = λ rows. refl;
}
flag_of pipe port e = absurd (true≢false (sym e))
flag_of pipe workers e = absurd (true≢false (sym e))
flag_of pipe rounds e = absurd (true≢false (sym e))
flag_of pipe transfers e = absurd (true≢false (sym e))
flag_of listen user e = absurd (true≢false (sym e))
flag_of listen password e = absurd (true≢false (sym e))
flag_of listen bare e = absurd (true≢false (sym e))
flag_of listen drivers e = record {
  no_dashes = refl;
  alone = refl;
  by_long = refl;
  takes = refl;
  passes = λ rows. refl;
  uses = λ rows. refl;
}
flag_of listen port e = absurd (true≢false (sym e))
flag_of listen workers e = absurd (true≢false (sym e))
flag_of listen rounds e = absurd (true≢false (sym e))
flag_of listen transfers e = absurd (true≢false (sym e))
flag_of steps user e = absurd (true≢false (sym e))
flag_of steps password e = absurd (true≢false (sym e))
flag_of steps bare e = absurd (true≢false (sym e))
flag_of steps drivers e = absurd (true≢false (sym e))
flag_of steps port e = absurd (true≢false (sym e))
flag_of steps workers e = absurd (true≢false (sym e))
flag_of steps rounds e = absurd (true≢false (sym e))
flag_of steps transfers e = absurd (true≢false (sym e))
flag_of load user e = absurd (true≢false (sym e))
flag_of load password e = absurd (true≢false (sym e))
flag_of load bare e = absurd (true≢false (sym e))
flag_of load drivers e = absurd (true≢false (sym e))
flag_of load port e = absurd (true≢false (sym e))
flag_of load workers e = absurd (true≢false (sym e))
flag_of load rounds e = absurd (true≢false (sym e))
flag_of load transfers e = absurd (true≢false (sym e))

pub transfers_of_load : HasPlace (leaf load).rules (rule transfers)
transfers_of_load = record {
  by_index = refl;
  by_id = refl;
  few = refl;
  once = refl;
  not_trailing = refl;
  passes = λ value rows. refl;
  uses = λ value rows. refl;
}

-- ---- values

-- a digit is no minus
pub no_minus : (text : Text) → IsNumeral 10 text → (slice_index text 0 == 45) ≡ false
no_minus [] numeral = absurd (omega (arith, numeral.0))
no_minus (d ∷ ds) numeral =
    let digit = digit_from_value d numeral.1.0 in
    ne_eqb d 45 (λ e. omega (arith, digit, e))

-- a number in form passes `clap`'s own test
in_form_passes : (most : ℕ) (text : Text) → most < 2 ^ 63 → InForm most text → 1 ≤ digits_value 10 text → accepts false (up_to most) text ≡ true
in_form_passes most text small form least =
    let minus = no_minus text form.numeral in
    let numeral = numeral_test text form.numeral in
    let fits : nat_lt (digits_value 10 text) (2 ^ 63) ≡ true = lt-ltb _ _ (omega (arith, form.below, small)) in
    let low = le-leb 1 (digits_value 10 text) least in
    let high = le-leb (digits_value 10 text) most form.below in
    rw (minus, form.no_plus, numeral, fits, low, high) refl

number_passes : (most : ℕ) (text : Text) → most < 2 ^ 63 → is_some (number_in most text) ≡ true → accepts false (up_to most) text ≡ true
number_passes most text small given = go (test_of most text) refl
  where
    go : (b : Bool) → test_of most text ≡ b → accepts false (up_to most) text ≡ true
    go false t =
        let bad : false ≡ true = sym (ap (λ o. is_some o) (by_test most text false t)) ∙ given in
        absurd (true≢false (sym bad))
    go true t =
        let form = test_means most text t in
        in_form_passes most text small form (number_in_range most (digits_value 10 text) text (by_test most text true t)).0

-- it is no flag
abbrev pub has_value : Name → Bool
has_value bare = false
has_value drivers = false
has_value name = true

pub value_passes_in : (name : Name) (value : Text) → is_in_form name value ≡ true → has_value name ≡ true → value_passes (rule name) value ≡ true
value_passes_in user value e v = refl
value_passes_in password value e v = refl
value_passes_in bare value e v = absurd (true≢false (sym v))
value_passes_in drivers value e v = absurd (true≢false (sym v))
value_passes_in port value e v = number_passes 65535 value (omega arith) e
value_passes_in workers value e v = number_passes 64 value (omega arith) e
value_passes_in rounds value e v = number_passes 1000000000 value (omega arith) e
value_passes_in transfers value e v = number_passes 10000 value (omega arith) e
