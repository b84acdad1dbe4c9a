use Rattle.fg_batch.proofs.BitsLaws.{is_in-put}
use Rattle.fg_batch.proofs.bits.put.Goals as goal

pub returns-clause-more : goal.returns-clause-more
returns-clause-more c k = is_in-put c.args.words.now.items c.args.number c.index_mut.result.now c.requires c.index_mut.ensures.value k
