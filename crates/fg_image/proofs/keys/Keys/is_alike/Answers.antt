use Rattle.std.proofs.Common.{◌≡◌, ℕ, ◌+◌, ◌-◌, ◌≤◌, List, [], ◌++◌, length, take, drop, ap, sym, ◌∙◌, append-nil, arith}
use Rattle.std.proofs.lemmas.List.{drop_all, length-append, length-drop, length-take-le, take_all}
use Rattle.std.proofs.lemmas.Slice.{drop-put_mid}
use Rattle.fg_image.specs.Turned.{numbers}
use Rattle.fg_image.specs.declared.keys.Keys.{Keys}
use Rattle.fg_image.proofs.keys.Keys.is_alike.Goals as goal
use Rattle.fg_image.proofs.keys.Keys.is_alike.Goals.{in-Plain-Plain, in-Weighted-Weighted}

length-mid : (xs : List ℕ) (start count : ℕ) → start + count ≤ length xs → length (take (start + count - start) (drop start xs)) ≡ start + count - start
length-mid xs start count within = length-take-le (start + count - start) (drop start xs) (omega (arith, length-drop start xs))

-- behind the part that was sorted nothing changed
behind-kept : (old now part items : List ℕ) (start count len : ℕ) → old ≡ now → now ≡ items → length items ≡ len → start + count ≤ length old
    → length part ≡ length (take (start + count - start) (drop start now))
    → (let all = take start now ++ (part ++ drop (start + count - start) (drop start now)) in drop (start + count) (take len (all ++ drop (length all) items)) ≡ drop (start + count) old)
behind-kept old now part items start count len same is each within part_is =
    let k = start + count - start in
    let front = take start now in
    let back = drop k (drop start now) in
    let all = front ++ (part ++ back) in
    let fits : start + count ≤ length now = omega (arith, ap length same, within) in
    let middle = part_is ∙ length-mid now start count fits in
    let first = length-take-le start now (omega (arith, fits)) in
    let last = length-drop k (drop start now) in
    let behind = length-drop start now in
    let long : length all ≡ length now = omega (arith, length-append front (part ++ back), length-append part back, middle, first, last, behind, fits) in
    let size : length now ≡ len = ap length is ∙ each in
    let whole : take len all ≡ all = take_all len all (omega (arith, long, size)) in
    let none : drop (length all) items ≡ [] = drop_all (length all) items (omega (arith, long, size, each)) in
    ap (λ (l : List ℕ). drop (start + count) (take len (all ++ l))) none
    ∙ ap (λ (l : List ℕ). drop (start + count) (take len l)) (append-nil all)
    ∙ ap (drop (start + count)) whole
    ∙ drop-put_mid start k now part (start + count) (omega arith) (omega arith) middle
    ∙ ap (drop (start + count)) (sym same)

pub returns-clause-behind : goal.returns-clause-behind
returns-clause-behind c = elim c.match-self.branch [
  | in-Plain-Plain w ↦
      let arm = w.in-Plain-Plain in
      let now = w.deref_mut.result.now in
      let own : numbers c.args.self.now ≡ now = cc (ap numbers arm.is-0, w.deref_mut.ensures.value) in
      let items : now ≡ arm.keys.items = cc (w.deref_mut.ensures.value) in
      ap (λ (k : Keys). drop (c.args.start + c.args.count) (numbers k)) w.self-is
      ∙ behind-kept (numbers c.args.self.now) now w.is_same.new.keys arm.keys.items c.args.start c.args.count arm.keys.len own items (omega (arith, arm.keys.ok)) c.requires.within w.is_same.ensures.count
  | in-Weighted-Weighted w ↦
      let arm = w.in-Weighted-Weighted in
      let now = w.deref_mut-in-Weighted-Weighted.result.now in
      let own : numbers c.args.self.now ≡ now = cc (ap numbers arm.is-0, w.deref_mut-in-Weighted-Weighted.ensures.value) in
      let items : now ≡ arm.keys.items = cc (w.deref_mut-in-Weighted-Weighted.ensures.value) in
      ap (λ (k : Keys). drop (c.args.start + c.args.count) (numbers k)) w.self-is
      ∙ behind-kept (numbers c.args.self.now) now w.is_same_weighted.new.keys arm.keys.items c.args.start c.args.count arm.keys.len own items (omega (arith, arm.keys.ok)) c.requires.within w.is_same_weighted.ensures.count
]
