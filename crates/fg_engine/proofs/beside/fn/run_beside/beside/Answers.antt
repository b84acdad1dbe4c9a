use denote.Exit.{no}
use denote.Param.Send.{arg_send, param_send}
use Rattle.fg_engine.proofs.bounded.Bounded.TheSendSync.{the_send as bounded_send}
use Rattle.fg_worker.proofs.SendLaws.{hand_send}
use Rattle.fg_engine.proofs.beside.fn.run_beside.beside.Goals as goal

pub run_by_crew-requires-send-K : goal.run_by_crew-requires-send-K
run_by_crew-requires-send-K g c κs within = param_send 1 _ (arg_send _ no _ (hand_send _ (bounded_send _ g.T.Tally c.requires.send)))

pub returns : goal.returns
returns g c =
    let ran = c.run_by_crew.ensures in
    record {
      went = ran.went;
      same_told = ran.same_told;
      same_borrows = ran.same_borrows;
      grew = ran.grew;
      faults = ran.faults;
      answer = ran.answer;
      shown = ran.shown;
      ok_states = ran.ok_states;
      ok_tally = ran.ok_tally;
      ok_hits = ran.ok_hits;
      count = ran.count;
      hands = λ k d below. (ran.lent k d below).1;
      settled = ran.settled;
    }
