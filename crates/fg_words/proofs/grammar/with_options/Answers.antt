use Rattle.std.proofs.Common.{◌∙◌, ap₂, arith, sym}
use Rattle.std.proofs.lemmas.List.Sums.{fold_more}
use Rattle.clap.specs.Words.{app_of, with_rule}
use Rattle.fg_words.specs.Grammar.{with_option}
use Rattle.fg_words.proofs.grammar.with_options.Goals as goal

pub loop-option-preserved : goal.loop-option-preserved
loop-option-preserved c =
    let before = app_of c.args.command in
    c.in_ok-command.ensures ∙ ap₂ with_rule c.loop-option.invariant c.option_argument.ensures.rule
    ∙ sym (fold_more with_option before c.args.options.now c.loop-option.option-index _ (omega arith))
