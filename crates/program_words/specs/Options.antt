-- Own: the `clap` command that reads the words, as its builder makes it. What building adds, `--help` of each
-- command and `--version` of the program, is clap's.
use Rattle.std.specs.Prelude.{ℕ, pos, true, false, List, [], ◌∷◌, Some, codes}
use Rattle.clap.specs.Walk.{Rule, Text}
use Rattle.clap.specs.Simple.{App, Shape, new_app, new_rule, new_shape}
use Rattle.clap.specs.declared.builder.action.ArgAction.TheVariants.{SetTrue}
use Rattle.clap.specs.declared.builder.value_parser.ValueParser.{ValueParser}
use Rattle.clap.specs.declared.builder.value_parser.ValueParser.TheVariants.{Signed}

-- ---- options

-- `--name`, which has one value
abbrev pub text_rule : Text → Rule
text_rule name = record (new_rule name) { long = Some name; value_names = 1 }

-- `--name`, which has no value
abbrev pub flag_rule : Text → Rule
flag_rule name = record (new_rule name) { long = Some name; action = Some SetTrue }

-- a number from 1 to `most`; clap also takes it with a sign and with leading zeros
abbrev pub up_to : ℕ → ValueParser
up_to most = Signed (pos 1) (pos most)

abbrev pub user_rule : Rule
user_rule = text_rule (codes "user")

abbrev pub password_rule : Rule
password_rule = text_rule (codes "password")

abbrev pub bare_rule : Rule
bare_rule = flag_rule (codes "bare")

abbrev pub drivers_rule : Rule
drivers_rule = flag_rule (codes "drivers")

abbrev pub port_rule : Rule
port_rule = record (text_rule (codes "port")) { required = true; parser = Some (up_to 65535) }

abbrev pub workers_rule : Rule
workers_rule = record (text_rule (codes "workers")) { parser = Some (up_to 64) }

abbrev pub rounds_rule : Rule
rounds_rule = record (text_rule (codes "rounds")) { parser = Some (up_to 1000000000) }

-- N, which no name goes before
abbrev pub transfers_rule : Rule
transfers_rule = record (new_rule (codes "transfers")) { value_names = 1; required = true; parser = Some (up_to 10000) }

-- ---- the commands

abbrev pub with_rules : Text → List Rule → App
with_rules name rules = record { top = record (new_shape name) { rules = rules }; subs = [] }

abbrev pub pipe : App
pipe = with_rules (codes "pipe") (user_rule ∷ password_rule ∷ bare_rule ∷ drivers_rule ∷ [])

abbrev pub listen : App
listen = with_rules (codes "listen") (port_rule ∷ workers_rule ∷ rounds_rule ∷ user_rule ∷ password_rule ∷ drivers_rule ∷ [])

abbrev pub steps : App
steps = new_app (codes "steps")

abbrev pub load : App
load = with_rules (codes "load") (transfers_rule ∷ workers_rule ∷ [])

abbrev pub top_shape : Shape
top_shape = record (new_shape (codes "tsqld")) {
  is_leaf = false;
  disable_help_subcommand = true;
  has_version = true;
  subcommand_required = true;
}

-- `tsqld`, with its subcommands
abbrev pub program : App
program = record { top = top_shape; subs = pipe.top ∷ listen.top ∷ steps.top ∷ load.top ∷ [] }
