use Rattle.std.proofs.Common.{◌≡◌, ◌+◌, ◌*◌, ◌<◌, ◌≤◌, ℕ, List, length, min, refl, sym, ap, ◌∙◌, subst, arith}
use Rattle.fg_part.proofs.Ceilings.{product_below}
use Rattle.fg_part.specs.PartMap.{block_size}
use Rattle.fg_task.specs.Book.{jobs_of}
use Rattle.fg_worker.specs.Beginning.{StandFor}
use Rattle.fg_worker.specs.Desk.{Setting, active_in, setting_of}
use Rattle.fg_worker.proofs.BeginLaws.{awake-at_most, awake-block, awake-next, awake-push, awake-start, awake_from, length-push, stand-none}
use Rattle.fg_worker.proofs.beginning.begin_block.Goals as goal

pub loop-v-init : goal.loop-v-init
loop-v-init g c =
    let S : Setting = setting_of g.P.Program.rules c.args.desk.now in
    let first : ℕ = c.args.block * c.block_size-size.result in
    let start = awake-start S.rules S.phase S.states first in
    let none : length (awake_from S.rules S.phase S.states first first) ≡ 0 = ap (λ (l : List ℕ). length l) start in
    record {
      function = refl;
      active = sym none;
      begun = subst (λ (vertices : List ℕ). StandFor S vertices (jobs_of c.args.book.now)) (sym start) (stand-none S (jobs_of c.args.book.now) c.requires.empty);
      runs = omega (arith, none);
      entries = refl;
    }

pub begin_vertex-requires-clause-room : goal.begin_vertex-requires-clause-room
begin_vertex-requires-clause-room g c =
    let S : Setting = setting_of g.P.Program.rules c.args.desk.now in
    let first : ℕ = c.args.block * c.block_size-size.result in
    let first_is : first ≡ c.args.block * block_size S.map = ap (λ (size : ℕ). c.args.block * size) c.block_size-size.ensures.value in
    let end_is : c.min-end.result ≡ min S.map.n (first + block_size S.map) =
    c.min-end.ensures ∙ ap (λ (size : ℕ). min S.map.n (first + size)) c.block_size-size.ensures.value in
    let all : length (awake_from S.rules S.phase S.states first c.min-end.result) ≡ length (active_in S c.args.block) =
    ap (λ (l : List ℕ). length l) (awake-block S.rules S.phase S.states S.map c.args.block first c.min-end.result first_is end_is) in
    let next = awake-next S.rules S.phase S.states first c.loop-v.v c.min-end.result c.loop-v.auto.v c.loop-v-test.true in
    let so_far = c.loop-v.invariant.runs in
    let room = c.requires.room in
    omega (arith, all, next, so_far, room)

pub returns-in_err-active-clause-few : goal.returns-in_err-active-clause-few
returns-in_err-active-clause-few g c =
    let S : Setting = setting_of g.P.Program.rules c.args.desk.now in
    let first : ℕ = c.args.block * c.block_size-size.result in
    let first_is : first ≡ c.args.block * block_size S.map = ap (λ (size : ℕ). c.args.block * size) c.block_size-size.ensures.value in
    let end_is : c.min-end.result ≡ min S.map.n (first + block_size S.map) =
    c.min-end.ensures ∙ ap (λ (size : ℕ). min S.map.n (first + size)) c.block_size-size.ensures.value in
    let all : length (awake_from S.rules S.phase S.states first c.min-end.result) ≡ length (active_in S c.args.block) =
    ap (λ (l : List ℕ). length l) (awake-block S.rules S.phase S.states S.map c.args.block first c.min-end.result first_is end_is) in
    let next = awake-next S.rules S.phase S.states first c.loop-v.v c.min-end.result c.loop-v.auto.v c.loop-v-test.true in
    let so_far = c.loop-v.invariant.runs in
    let more = c.begin_vertex.ensures.runs in
    omega (arith, all, next, so_far, more)

pub overflow_add-active : goal.overflow_add-active
overflow_add-active g c =
    let S : Setting = setting_of g.P.Program.rules c.args.desk.now in
    let first : ℕ = c.args.block * c.block_size-size.result in
    let end_is : c.min-end.result ≡ min S.map.n (first + c.block_size-size.result) = c.min-end.ensures in
    let next = awake-next S.rules S.phase S.states first c.loop-v.v c.min-end.result c.loop-v.auto.v c.loop-v-test.true in
    let most = awake-at_most S.rules S.phase S.states first c.min-end.result in
    let so_far = c.loop-v.invariant.active in
    let more = c.in_ok-active.ensures.awake in
    let same = c.requires.desk.vertices in
    let few = c.requires.desk.fits.few_vertices in
    omega (arith, end_is, next, most, so_far, more, same, few)

pub loop-v-preserved : goal.loop-v-preserved
loop-v-preserved g c =
    let S : Setting = setting_of g.P.Program.rules c.args.desk.now in
    let first : ℕ = c.args.block * c.block_size-size.result in
    let before : List ℕ = awake_from S.rules S.phase S.states first c.loop-v.v in
    let push = awake-push S.rules S.phase S.states first c.loop-v.v c.loop-v.auto.v in
    let longer = length-push S.rules S.phase S.states first c.loop-v.v c.loop-v.auto.v in
    let kept = c.loop-v.invariant in
    let count = c.in_ok-active.ensures.awake in
    let active = kept.active in
    let runs = kept.runs in
    let more = c.begin_vertex.ensures.runs in
    record {
      function = c.begin_vertex.ensures.function ∙ kept.function;
      active = omega (arith, longer, count, active);
      begun = subst (λ (vertices : List ℕ). StandFor S vertices (jobs_of c.begin_vertex.new.book)) (sym push) (c.in_ok-active.ensures.added before kept.begun);
      runs = omega (arith, longer, runs, more);
      entries = c.begin_vertex.ensures.entries ∙ kept.entries;
    }

-- the last vertex is passed
ended : (v first end n size place : ℕ) → first ≡ place → place < n → end ≡ min n (first + size) → (first ≤ end → v ≤ end) → end ≤ v → v ≡ end
ended v first end n size place first_is below end_is within past =
    let start : first ≤ end = omega (arith, first_is, below, end_is) in
    let most = within start in
    omega (arith, most, past)

pub returns-clause-begun : goal.returns-clause-begun
returns-clause-begun g c =
    let S : Setting = setting_of g.P.Program.rules c.args.desk.now in
    let first : ℕ = c.args.block * c.block_size-size.result in
    let first_is : first ≡ c.args.block * block_size S.map = ap (λ (size : ℕ). c.args.block * size) c.block_size-size.ensures.value in
    let end_is : c.min-end.result ≡ min S.map.n (first + block_size S.map) =
    c.min-end.ensures ∙ ap (λ (size : ℕ). min S.map.n (first + size)) c.block_size-size.ensures.value in
    let some : 0 < block_size S.map = subst (λ (size : ℕ). 0 < size) c.block_size-size.ensures.value c.block_size-size.ensures.some in
    let below = product_below c.args.block S.map.n (block_size S.map) some c.requires.block in
    let last = ended c.loop-v.v first c.min-end.result S.map.n (block_size S.map) (c.args.block * block_size S.map) first_is below end_is
    c.loop-v.auto.v-end c.loop-v-test.false in
    let all = ap (λ (v : ℕ). awake_from S.rules S.phase S.states first v) last
    ∙ awake-block S.rules S.phase S.states S.map c.args.block first c.min-end.result first_is end_is in
    subst (λ (vertices : List ℕ). StandFor S vertices (jobs_of c.loop-v.book)) all c.loop-v.invariant.begun

pub returns-clause-active : goal.returns-clause-active
returns-clause-active g c =
    let S : Setting = setting_of g.P.Program.rules c.args.desk.now in
    let first : ℕ = c.args.block * c.block_size-size.result in
    let first_is : first ≡ c.args.block * block_size S.map = ap (λ (size : ℕ). c.args.block * size) c.block_size-size.ensures.value in
    let end_is : c.min-end.result ≡ min S.map.n (first + block_size S.map) =
    c.min-end.ensures ∙ ap (λ (size : ℕ). min S.map.n (first + size)) c.block_size-size.ensures.value in
    let some : 0 < block_size S.map = subst (λ (size : ℕ). 0 < size) c.block_size-size.ensures.value c.block_size-size.ensures.some in
    let below = product_below c.args.block S.map.n (block_size S.map) some c.requires.block in
    let last = ended c.loop-v.v first c.min-end.result S.map.n (block_size S.map) (c.args.block * block_size S.map) first_is below end_is
    c.loop-v.auto.v-end c.loop-v-test.false in
    c.loop-v.invariant.active
    ∙ ap (λ (l : List ℕ). length l) (ap (λ (v : ℕ). awake_from S.rules S.phase S.states first v) last
    ∙ awake-block S.rules S.phase S.states S.map c.args.block first c.min-end.result first_is end_is)

pub returns-clause-runs : goal.returns-clause-runs
returns-clause-runs g c =
    let active = returns-clause-active g c in
    let counted = c.loop-v.invariant.active in
    let runs = c.loop-v.invariant.runs in
    omega (arith, active, counted, runs)

pub returns-clause-few : goal.returns-clause-few
returns-clause-few g c =
    let active = returns-clause-active g c in
    let counted = c.loop-v.invariant.active in
    let runs = c.loop-v.invariant.runs in
    omega (arith, active, counted, runs)
