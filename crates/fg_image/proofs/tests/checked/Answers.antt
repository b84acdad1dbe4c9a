use Rattle.std.proofs.Common.{◌≡◌, ℕ, ◌/◌, ◌∙◌, length, sym, ap, arith}
use Rattle.fg_image.specs.Image.{Parts, parts_in}
use Rattle.fg_image.proofs.tests.checked.Goals as goal

pub check_image-requires : goal.check_image-requires
check_image-requires c =
    let image = c.args.image.now.items in
    let found : Parts = record { header = c.in-Ok.field-0.header; layout = c.in-Ok.field-0.layout; index = c.in-Ok.field-0.index } in
    let long : length image ≡ 16384 = ap length (sym c.deref.ensures.value) ∙ c.deref.ensures.len ∙ sym c.len.ensures ∙ c.if-len.false in
    let four : length image / 4096 ≡ 4 = omega (arith, long) in
    record {
      is_image = (
        found,
        record {
          whole = omega (arith, long);
          some_pages = omega (arith, long);
          few_pages = omega (arith, long);
          accepted =
              ap (λ (pages : ℕ). parts_in pages image) four ∙ ap (parts_in 4) (sym c.deref.ensures.value) ∙ c.in-Ok.ensures.parts;
        },
      );
    }
