use Rattle.std.proofs.Common.{◌≡◌, pos, ◌-ℤ◌}
use Rattle.fg_cache.proofs.cache.Cache.give_up.Given as goal

abbrev pub invariant-loop-k : goal.invariant-loop-k
invariant-loop-k g l = l.share ≡ record l.initial.share { entries = l.initial.share.entries -ℤ pos l.k }
