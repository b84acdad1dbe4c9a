use Rattle.std.proofs.Common.{◌≡◌, ℕ, ◌+◌, ◌-◌, ◌*◌, ◌^◌, ◌<◌, List, length, slice_index, ap, ◌∙◌, arith, subst, sym}
use Rattle.std.specs.Int.{div_ceil}
use Rattle.fg_crew.specs.Claimed.{Deals}
use Rattle.fg_part.specs.declared.part_map.PartMap.{PartMap}
use Rattle.fg_part.specs.PartMap.{blocks_in}
use Rattle.fg_part.proofs.Ceilings.{below_ceiling, product_below}
use Rattle.fg_crew.proofs.dealing.deal.Goals as goal

-- how many of the places a part has, in blocks of one
abbrev share : ℕ → ℕ → ℕ → ℕ
share count parts part = div_ceil (div_ceil count 1 - part) parts

share_is : (map : PartMap) (count parts part : ℕ) → map.n ≡ count → map.shift ≡ 0 → map.parts ≡ parts → blocks_in map part ≡ share count parts part
share_is map count parts part all ones many =
    ap (λ (n : ℕ). div_ceil (div_ceil n (2 ^ map.shift) - part) map.parts) all
    ∙ ap (λ (s : ℕ). div_ceil (div_ceil count (2 ^ s) - part) map.parts) ones
    ∙ ap (λ (p : ℕ). div_ceil (div_ceil count 1 - part) p) many

deals : (counts : List ℕ) (count parts : ℕ) → 0 < parts → length counts ≡ parts → ((part : ℕ) → part < parts → slice_index counts part ≡ share count parts part) → Deals counts count parts
deals counts count parts some one_each each = record {
  some = some;
  one_each = one_each;
  within = λ part k own below.
      let less : k * parts < div_ceil count 1 - part = product_below k (div_ceil count 1 - part) parts some (subst (λ (n : ℕ). k < n) (each part own) below) in
      let inside : (k * parts + part) * 1 < count = product_below (k * parts + part) count 1 (omega arith) (omega (arith, less)) in
      omega (arith, inside);
  all = λ part k own below.
      let inside : k * parts + part < div_ceil count 1 = below_ceiling (k * parts + part) count 1 (omega arith) (omega (arith, below)) in
      subst (λ (n : ℕ). k < n) (sym (each part own)) (below_ceiling k (div_ceil count 1 - part) parts some (omega (arith, inside)));
}

pub returns : goal.returns
returns c =
    let inv = c.loop-part.invariant in
    let map = c.new-places.result in
    let all : c.loop-part.part ≡ c.args.parts = omega arith in
    let is = c.new-places.ensures in
    deals c.loop-part.counts.items c.args.count c.args.parts c.requires.parts.0 (omega (arith, inv.count, all))
    (λ part own. inv.each part (omega (arith, own, all)) ∙ share_is map c.args.count c.args.parts part is.0 is.1 is.2)
