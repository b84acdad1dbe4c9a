use Rattle.std.proofs.Common.{◌≡◌, ℕ, ◌+◌, ◌-◌, ◌<◌, ◌≤◌, List, [], length, map, Some, ⊎_elim, ap, sym, ◌∙◌, subst, rules, arith}
use Rattle.std.proofs.lemmas.Bool.{cases_lt}
use Rattle.std.proofs.lemmas.List.{nil_from_length, map-append}
use Rattle.std.proofs.lemmas.List.Elements.{All-pop, Contains-append_right}
use Rattle.std.specs.List.{Contains}
use Rattle.fg_steal.specs.declared.view.View.{View}
use Rattle.fg_steal.specs.Claims.{EachOnce, AtMostOnce}
use Rattle.fg_steal.specs.Seat.{SeatValue}
use Rattle.fg_steal.specs.Run.{run_lengths, spent_parts, block_at}
use Rattle.fg_steal.specs.Once.{joined}
use Rattle.fg_steal.proofs.Spent.{both_spent}
use Rattle.fg_steal.proofs.TwoRuns.{length-run_lengths, each_block, blocks_at_most}
use Rattle.fg_steal.proofs.Popped.{last_popped, next_popped}
use Rattle.fg_steal.proofs.Whole.{joins, gathers, gathers_some}
use Rattle.fg_steal.proofs.claims.Claims.end.Goals as goal

-- who was told of each part was told of each run
each_run : (counts spent : List ℕ) → ((part : ℕ) → part < length counts → Contains (spent_parts counts spent) part) → (run : ℕ) → run < length (run_lengths counts) → Contains spent run
each_run counts spent told run below = ⊎_elim
    (λ (small : run < length counts). (both_spent counts run small spent (told run small)).0)
    (λ (past : length counts ≤ run).
    let part = run - length counts in
    let within : part < length counts = omega (arith, length-run_lengths counts) in
    let same : length counts + part ≡ run = omega arith in
    subst (Contains spent) same (both_spent counts part within spent (told part within)).1)
    (cases_lt run (length counts))

-- the last seat, as its place says
told_last : (v : View) (counts : List ℕ) (seat : SeatValue) → v.counts ≡ counts → spent_parts v.counts v.spent ≡ seat.told → ((part : ℕ) → part < length counts → Contains seat.told part)
    → (run : ℕ) → run < length (run_lengths counts) → Contains v.spent run
told_last v counts seat plan is told =
    each_run counts v.spent (λ part within. subst (λ (l : List ℕ). Contains l part) (sym is ∙ ap (λ (l : List ℕ). spent_parts l v.spent) plan) (told part within))

pub loop-seat-init : goal.loop-seat-init
loop-seat-init c =
    let items = c.in-Some.ensures.items in
    let own = All-pop (λ seat. seat.claims ≡ c.args.self) _ _ (Some c.in-Some.last) items c.requires.own in
    let v = c.last.inside.place.me.0 in
    let claims = ap (λ (seat : SeatValue). seat.claims) c.last.view_is ∙ own.1 in
    let plan : v.counts ≡ c.args.self.counts = ap (λ it. it.counts) claims in
    record {
      table = ap (λ it. it.table) claims;
      plan = (plan, ap (λ it. it.seats) claims);
      stands = omega (arith, c.requires.all, c.last.invariant.0, c.in-Some.ensures.len);
      some_seat = omega (arith, c.last.invariant.0);
      holds_nothing = c.last.invariant.1;
      drawn = last_popped (λ (seat : SeatValue). seat.drawn) _ _ c.in-Some.last _ items
          (ap (λ (l : List ℕ). map (block_at l) v.drawn) (sym plan) ∙ ap (λ (seat : SeatValue). seat.drawn) c.last.view_is);
      told = λ all. let told = All-pop (λ (seat : SeatValue). (part : ℕ) → part < length c.args.self.counts → Contains seat.told part) _ _ (Some c.in-Some.last) items all in
          told_last v c.args.self.counts c.in-Some.last plan (ap (λ (seat : SeatValue). seat.told) c.last.view_is) told.1;
      own = own.0;
    }

pub join_seat-requires : goal.join_seat-requires
join_seat-requires c =
    let so_far = c.loop-seat.invariant in
    let own = All-pop (λ seat. seat.claims ≡ c.args.self) _ _ (Some c.in-Some-pop.seat) c.in-Some-pop.ensures.items so_far.own in
    let claims = ap (λ (seat : SeatValue). seat.claims) c.seat.view_is ∙ own.1 in
    let table = sym (ap (λ it. it.table) c.self.view_is) in
    let key = c.self.inside.table.shared.key in (
      so_far.table ∙ table,
      ap (λ it. it.table) claims ∙ table,
      c.seat.invariant.1,
      omega (arith, c.self.invariant.2, ap length c.self.invariant.1, c.self.invariant.4, length-run_lengths c.self.inside.plan.counts.items),
      joins key.counts.items key.seats c.loop-seat.place.id c.loop-seat.place.me.0 c.seat.inside.place.id c.seat.inside.place.me.0 so_far.some_seat,
    )

pub loop-seat-preserved : goal.loop-seat-preserved
loop-seat-preserved c =
    let so_far = c.loop-seat.invariant in
    let items = c.in-Some-pop.ensures.items in
    let n = c.args.self.counts in
    let own = All-pop (λ seat. seat.claims ≡ c.args.self) _ _ (Some c.in-Some-pop.seat) items so_far.own in
    let v = c.loop-seat.place.me.0 in
    let w = c.seat.inside.place.me.0 in
    let claims = ap (λ (seat : SeatValue). seat.claims) c.seat.view_is ∙ own.1 in
    let now : c.join_seat.new.seat.me.0 ≡ joined v w = ap (λ me. me.0) c.join_seat.ensures.2 in
    let theirs : map (block_at n) w.drawn ≡ c.in-Some-pop.seat.drawn =
    ap (λ (l : List ℕ). map (block_at l) w.drawn) (sym (ap (λ it. it.counts) claims)) ∙ ap (λ (seat : SeatValue). seat.drawn) c.seat.view_is in
    record {
      table = c.join_seat.ensures.0 ∙ so_far.table;
      plan = (ap (λ it. it.counts) now ∙ so_far.plan.0, ap (λ it. it.seats) now ∙ so_far.plan.1);
      stands = omega (arith, ap (λ it. it.stands_for) now, so_far.stands, c.seat.invariant.0, c.in-Some-pop.ensures.len);
      some_seat = omega (arith, ap (λ it. it.stands_for) now, so_far.some_seat);
      holds_nothing = ap (λ me. me.1) c.join_seat.ensures.2 ∙ so_far.holds_nothing;
      drawn = rw (ap (λ it. it.drawn) now, map-append (block_at n) w.drawn v.drawn)
          (next_popped (λ (seat : SeatValue). seat.drawn) _ _ c.in-Some-pop.seat (map (block_at n) w.drawn) (map (block_at n) v.drawn) _ items theirs so_far.drawn);
      told = λ all run below. subst (λ (l : List ℕ). Contains l run) (sym (ap (λ it. it.spent) now)) (Contains-append_right w.spent v.spent run (so_far.told all run below));
      own = own.0;
    }

pub returns-clause-some : goal.returns-clause-some
returns-clause-some c =
    let so_far = c.loop-seat.invariant in
    let v = c.loop-seat.place.me.0 in
    let n = c.args.self.counts in
    let key = c.self.inside.table.shared.key in
    let last = c.close_with.ensures.values.2 in
    let none_left : length c.loop-seat.seats.items ≡ 0 = search rules in
    let no_more : c.loop-seat.seats.items ≡ [] = nil_from_length _ none_left in
    let all : v.stands_for ≡ v.seats = omega (arith, so_far.stands, so_far.plan.1, ap length no_more) in
    let most = gathers_some key.counts.items key.seats last.0.words last.0.views c.loop-seat.place.id v last.1.0 last.1.1 so_far.some_seat all in
    let blocks = blocks_at_most n v.drawn (subst (λ (l : List ℕ). AtMostOnce (run_lengths l) v.drawn) so_far.plan.0 most) in
    subst (AtMostOnce n) (rw no_more at so_far.drawn) blocks

pub returns-clause-whole : goal.returns-clause-whole
returns-clause-whole c told =
    let so_far = c.loop-seat.invariant in
    let v = c.loop-seat.place.me.0 in
    let n = c.args.self.counts in
    let key = c.self.inside.table.shared.key in
    let last = c.close_with.ensures.values.2 in
    let none_left : length c.loop-seat.seats.items ≡ 0 = search rules in
    let no_more : c.loop-seat.seats.items ≡ [] = nil_from_length _ none_left in
    let all : v.stands_for ≡ v.seats = omega (arith, so_far.stands, so_far.plan.1, ap length no_more) in
    let each_told : (run : ℕ) → run < length (run_lengths v.counts) → Contains v.spent run =
    λ run below. so_far.told told run (omega (arith, ap (λ (l : List ℕ). length (run_lengths l)) so_far.plan.0)) in
    let each = gathers key.counts.items key.seats last.0.words last.0.views c.loop-seat.place.id v last.1.0 last.1.1 so_far.some_seat all each_told in
    let blocks = each_block n v.drawn (subst (λ (l : List ℕ). EachOnce (run_lengths l) v.drawn) so_far.plan.0 each) in
    subst (EachOnce n) (rw no_more at so_far.drawn) blocks
