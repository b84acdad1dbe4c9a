-- The command by which `clap` reads the words behind the program's name: COMMAND, each option at most once, and any number of
-- drives, in whatever order. No value is looked at while the words are read.
use Rattle.std.specs.Prelude.{Bool, true, Some, List, codes, fold, if◌then◌else◌}
use Rattle.clap.specs.Lexer.{usize_max}
use Rattle.clap.specs.Walk.{Row, Rule, Text, is_empty}
use Rattle.clap.specs.Simple.{App, matches_of, new_app, new_rule, on_top, with_rule}
use Rattle.clap.specs.Faults.{fault_of}
use Rattle.clap.specs.declared.builder.action.ArgAction.TheVariants.{Set, SetTrue, Append}
use Rattle.fg_base.specs.declared.refusal.Opt.{Opt}
use Rattle.fg_base.specs.Options.{option_name}
use Rattle.fg_words.specs.Options.{is_flag, options}

-- a command without an argument: the first word is no program's name, and no flag asks for help or a version
abbrev pub bare : App
bare = on_top (λ shape. record shape { no_binary_name = true; disable_help_flag = true; disable_version_flag = true }) (new_app (codes "fg"))

-- COMMAND is required
abbrev pub command_rule : Rule
command_rule = record (new_rule (codes "command")) { required = true; action = Some Set }

-- an option is written with its name, and has a value unless it is a flag
abbrev pub option_rule : Opt → Rule
option_rule option = record (new_rule (option_name option)) {
  long = Some (option_name option);
  action = Some (if is_flag option then SetTrue else Set);
}

-- all other words that aren't options name drives
abbrev pub drive_rule : Rule
drive_rule = record (new_rule (codes "drive")) {
  range = Some (record { start_inclusive = 0; end_inclusive = usize_max });
  action = Some Append;
}

-- a command with one more option
abbrev pub with_option : App → Opt → App
with_option app option = with_rule app (option_rule option)

unfoldable pub grammar : App
grammar = with_rule (fold with_option (with_rule bare command_rule) options) drive_rule

-- `clap` takes the words
unfoldable pub is_read : List Text → Bool
is_read words = is_empty (fault_of grammar words)

-- what `clap` finds in the words that it takes, argument by argument
unfoldable pub read : List Text → List Row
read words = matches_of grammar words
