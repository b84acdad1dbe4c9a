use Rattle.std.proofs.Common.{◌≡◌, fold, take}
use Rattle.clap.specs.Words.{app_of}
use Rattle.fg_words.specs.Grammar.{with_option}
use Rattle.fg_words.proofs.grammar.with_options.Given as goal

abbrev pub invariant-loop-option : goal.invariant-loop-option
invariant-loop-option l = app_of l.command ≡ fold with_option (app_of l.initial.command) (take l.option-index l.options)
