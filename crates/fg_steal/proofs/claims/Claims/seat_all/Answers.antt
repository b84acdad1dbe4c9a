use Rattle.std.proofs.Common.{◌≡◌, ◌+◌, ◌-◌, ◌<◌, [], ◌∷◌, ◌++◌, List, ℕ, zero, suc, length, map, add-one, ap, sym, ◌∙◌, rules, arith}
use Rattle.std.proofs.lemmas.List.{map_push}
use Rattle.std.specs.List.{range_with_len}
use Rattle.fg_steal.specs.Claims.{ClaimsValue}
use Rattle.fg_steal.specs.Seat.{SeatValue, fresh_seat}
use Rattle.fg_steal.specs.Once.{view_of, one_less}
use Rattle.fg_steal.proofs.TwoRuns.{length-run_lengths}
use Rattle.fg_steal.proofs.Whole.{splits}
use Rattle.fg_steal.proofs.claims.Claims.seat_all.Goals as goal

range_more : (from n next : ℕ) → from + n ≡ next → range_with_len from (n + 1) ≡ range_with_len from n ++ next ∷ []
range_more from zero next is = ap (λ (k : ℕ). k ∷ []) (omega (arith, is))
range_more from (suc n) next is =
    let further : range_with_len (from + 1) (suc n) ≡ range_with_len (from + 1) n ++ next ∷ [] =
    ap (range_with_len (from + 1)) (sym (add-one n)) ∙ range_more (from + 1) n next (omega (arith, is)) in
    ap (range_with_len from) (add-one (suc n)) ∙ ap (λ (l : List ℕ). from ∷ l) further

numbers_more : (claims : ClaimsValue) (number : ℕ) (seats more : List SeatValue) (seat : SeatValue) → more ≡ seats ++ seat ∷ [] → seat ≡ fresh_seat claims number
    → map (λ (s : SeatValue). s.number) seats ≡ range_with_len 0 number → map (λ (s : SeatValue). s.number) more ≡ range_with_len 0 (number + 1)
numbers_more claims number seats more seat items is so_far =
    ap (map (λ (s : SeatValue). s.number)) items ∙ map_push (λ (s : SeatValue). s.number) seats seat ∙ ap (λ (l : List ℕ). l ++ seat.number ∷ []) so_far
    ∙ ap (λ (s : SeatValue). range_with_len 0 number ++ s.number ∷ []) is ∙ sym (range_more 0 number number (omega arith))

pub split_seat-other-requires : goal.split_seat-other-requires
split_seat-other-requires c =
    let place = c.loop-number.place in
    let key = c.self.inside.table.shared.key in
    let left = c.loop-number.invariant.left in
    let seats : c.self.inside.plan.seats ≡ c.args.self.now.seats = ap (λ claims. claims.seats) c.self.view_is in
    let some_seat : 0 < place.me.0.stands_for = omega (arith, ap (λ me. me.0.stands_for) left, c.loop-number-test.true, seats) in (
      c.loop-number.invariant.table ∙ sym (ap (λ claims. claims.table) c.self.view_is),
      omega (arith, c.self.invariant.2, ap length c.self.invariant.1, c.self.invariant.4, length-run_lengths c.self.inside.plan.counts.items),
      splits key.counts.items key.seats place.id place.me.0 some_seat (ap (λ me. me.0.drawn) left) (ap (λ me. me.0.spent) left),
    )

pub loop-number-preserved : goal.loop-number-preserved
loop-number-preserved c =
    let so_far = c.loop-number.invariant in
    let n = c.args.self.now.counts in
    let seats = c.args.self.now.seats in
    let one_fewer : seats - c.loop-number.number - 1 ≡ seats - (c.loop-number.number + 1) = omega arith in
    record {
      count = search rules;
      fresh = search rules;
      numbers = numbers_more c.args.self.now c.loop-number.number c.loop-number.seats.items c.push.new.self.items c.in_ok-fresh.field-0 c.in_ok-push.ensures.items c.in_ok-fresh.ensures so_far.numbers;
      table = c.split_seat-other.ensures.0 ∙ so_far.table;
      left = c.split_seat-other.ensures.2 ∙ ap (λ me. (one_less me.0, me.1)) so_far.left ∙ ap (λ (m : ℕ). (view_of n seats m [] [], [])) one_fewer;
    }

pub returns-clause-numbers : goal.returns-clause-numbers
returns-clause-numbers c =
    let seats : c.self.inside.plan.seats ≡ c.args.self.now.seats = ap (λ claims. claims.seats) c.self.view_is in
    let last : c.self.inside.plan.seats - 1 ≡ c.loop-number.number = omega (arith, c.loop-number-test.false, c.loop-number.auto.number-end) in
    let all : c.loop-number.number + 1 ≡ c.args.self.now.seats = omega (arith, last, seats, c.self.invariant.5) in
    let fresh : c.in_ok-fresh-2.field-0 ≡ fresh_seat c.args.self.now c.loop-number.number = c.in_ok-fresh-2.ensures ∙ ap (fresh_seat c.args.self.now) last in
    numbers_more c.args.self.now c.loop-number.number c.loop-number.seats.items c.push-2.new.self.items c.in_ok-fresh-2.field-0 c.in_ok-push-2.ensures.items fresh c.loop-number.invariant.numbers
    ∙ ap (range_with_len 0) all
