use Rattle.std.proofs.Common.{◌≡◌, true, false}
use Rattle.fg_set.specs.Want.{seen_of, is_start}
use Rattle.fg_cache.proofs.SetDeskLemmas.{keeps_asked, keeps_started, tells_started}
use Rattle.fg_cache.proofs.set_desk.SetDesk.want.Goals as goal

pub returns-clause-keeps : goal.returns-clause-keeps
returns-clause-keeps c = λ name fits has.
    let is : is_start (seen_of c.want-answer.result) ≡ true = cc in
    rw c.pay_entry.ensures.from (keeps_started name c.args.self.now c.want-answer.new.self fits c.want-answer.ensures.sound c.want-answer.ensures.ways c.want-answer.ensures.workers
    c.args.worker c.args.page (seen_of c.want-answer.result) is c.want-answer.ensures.tells c.want-answer.ensures.listed has)

pub returns-clause-tells : goal.returns-clause-tells
returns-clause-tells c =
    let is : is_start (seen_of c.want-answer.result) ≡ true = cc in
    rw c.pay_entry.ensures.to (tells_started c.args.worker c.args.page c.args.self.now.directory c.want-answer.new.self c.args.share.now (seen_of c.want-answer.result) is c.want-answer.ensures.tells)

pub returns-then-not-begins-clause-keeps : goal.returns-then-not-begins-clause-keeps
returns-then-not-begins-clause-keeps c = λ name fits has.
    let is : is_start (seen_of c.want-answer.result) ≡ false = cc in
    keeps_asked name c.args.self.now c.want-answer.new.self fits c.want-answer.ensures.sound c.want-answer.ensures.ways c.want-answer.ensures.workers
    c.args.worker c.args.page (seen_of c.want-answer.result) is c.want-answer.ensures.tells c.want-answer.ensures.listed has
