use Rattle.std.proofs.Common.{◌∙◌, ap₂, fold}
use Rattle.std.proofs.lemmas.Result.{IfOk-weaker}
use Rattle.clap.specs.Words.{with_rule}
use Rattle.fg_words.specs.Grammar.{grammar, with_option}
use Rattle.fg_words.proofs.grammar.grammar.Goals as goal

pub returns : goal.returns
unfolding grammar
returns c =
    let first = c.in_ok-command.ensures ∙ ap₂ with_rule c.bare.ensures c.command_argument.ensures.rule in
    let options = c.in_ok-command-2.ensures ∙ ap₂ (fold with_option) first c.named_options.ensures in
    IfOk-weaker c.with-2.result _ _ (λ r added. added ∙ ap₂ with_rule options c.drive_argument.ensures.rule) c.with-2.ensures
