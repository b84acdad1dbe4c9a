use Rattle.std.proofs.Common.{arith}
use Rattle.fg_image.proofs.checking.bad_page.Goals as goal

pub overflow_add-result : goal.overflow_add-result
overflow_add-result c = omega (arith, c.requires.within.few_pages)
