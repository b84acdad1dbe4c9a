use Rattle.std.proofs.Common.{◌≡◌, ◌∙◌, ◌+◌, ◌-◌, ◌*◌, ℕ, List, take, drop, ap, arith}
use Rattle.fg_stripe.specs.Held.{page_of}
use Rattle.fg_cache.proofs.buffer.ReadBuffer.page.Goals as goal

pub returns-clause-page : goal.returns-clause-page
returns-clause-page c =
    let whole : c.args.k * 4096 + 4096 - c.args.k * 4096 ≡ 4096 = omega arith in
    ap (λ (n : ℕ). take n (drop (c.args.k * 4096) c.deref.result.now)) whole
    ∙ ap (λ (bytes : List ℕ). page_of bytes c.args.k) (c.deref.ensures.value ∙ c.self.view_is)
