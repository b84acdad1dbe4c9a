use Rattle.std.proofs.Common.{subst, sym, rules}
use denote.Param.Send.{sendable}
use Rattle.fg_engine.specs.Crew.{AreReady, CameOf}
use Rattle.fg_engine.proofs.HelpingLaws.{so_done}
use Rattle.fg_engine.proofs.beside.run_beside.Goals as goal

pub beside-requires-clause-may : goal.beside-requires-clause-may
beside-requires-clause-may g c κs within = λ p q same_watch same_tally. (
  c.requires.may,
  (
    subst (AreReady _ g.T.Tally c.args.slots.items) (sym same_tally) c.requires.ready,
    (
      search sendable depth 20,
      (
        search sendable depth 30 fits 20000,
        search sendable depth 20,
        search rules,
        search rules,
      ),
    ),
  ),
)

pub returns-clause-came : goal.returns-clause-came
returns-clause-came g c =
    so_done _ _ _ (λ watch tally watch_then tally_then. CameOf _ g.T.Tally g.W.Watch c.args.slots.items tally watch c.beside.result tally_then watch_then)
    _ _ _ _ _ (λ p q left came. came) c.beside.ensures.done
