use Rattle.std.proofs.Common.{◌≡◌, ℕ, ◌+◌, ◌<◌, Bool, List, length, drop, get_or, map, take, refl, ap, sym, ◌∙◌, arith, below_more}
use Rattle.std.specs.List.{range_with_len}
use Rattle.std.proofs.lemmas.List.{drop-drop, length-replicate}
use Rattle.std.proofs.lemmas.List.FromFn.{get_or-map-range_with_len, length-map-range_with_len}
use Rattle.std.proofs.lemmas.List.Sums.{sum_by-take-le}
use Rattle.fg_base.specs.declared.plain.Dir.TheVariants.{In}
use Rattle.fg_image.specs.Making.{count_of}
use Rattle.fg_image.specs.Turned.{keys_to, numbers, pairs_in, turned_keys}
use Rattle.fg_image.proofs.LimitLaws.{IsBytes}
use Rattle.fg_image.proofs.MirrorLaws.{cut-at, first-unlike, keys-mirrored, mirrored-keys, none-unlike, start-next, unlike-count}
use Rattle.fg_image.proofs.PlaceLaws.{start_of}
use Rattle.fg_image.proofs.SpanLaws.{begin_of-next, moved}
use Rattle.fg_image.proofs.TurnedLaws.{counts_in, sum-counts}
use Rattle.fg_index.specs.ImageIndex.{entry_bytes}
use Rattle.fg_model.specs.declared.edges.Pair.{Pair}
use Rattle.fg_image.proofs.mirror.first_unlike_among.Goals as goal

-- how many lead to v
count-read : (n : ℕ) (pairs : List Pair) (counts : List ℕ) (v : ℕ) → v < n → counts ≡ map (count_of In pairs) (range_with_len 0 n) → get_or counts v 0 ≡ count_of In pairs v
count-read n pairs counts v below are = ap (λ (l : List ℕ). get_or l v 0) are ∙ get_or-map-range_with_len (count_of In pairs) 0 n v v 0 below (omega arith)

-- the keys of v are cut out of those that are left
cut-left : (weighted : Bool) (n : ℕ) (pairs : List Pair) (v start degree : ℕ) (keys : List ℕ) → v < n → start ≡ start_of n pairs v → degree ≡ count_of In pairs v
    → drop start keys ≡ drop start (turned_keys weighted n pairs) → take degree (drop start keys) ≡ keys_to weighted pairs v
cut-left weighted n pairs v start degree keys below at each left =
    let all = turned_keys weighted n pairs in
    let cut = cut-at weighted n pairs v below in
    ap (take degree) left
    ∙ ap (λ (s : ℕ). take degree (drop s all)) at
    ∙ ap (λ (k : ℕ). take k (drop (start_of n pairs v) all)) each
    ∙ cut.cut

-- and behind them the others are left
left-next : (keys after all : List ℕ) (start degree : ℕ) → drop (start + degree) after ≡ drop (start + degree) keys → drop start keys ≡ drop start all
    → drop (start + degree) after ≡ drop (start + degree) all
left-next keys after all start degree kept left =
    kept ∙ sym (drop-drop degree start keys) ∙ ap (drop degree) left ∙ drop-drop degree start all

pub loop-v-init : goal.loop-v-init
loop-v-init c = record {
  mirrored = λ u below. absurd (omega (arith, below));
  start = refl;
  begin = omega (arith, c.first_page_of.ensures);
  behind = ap (drop 0) c.requires.keys;
  count = ap length c.requires.keys;
  weights = c.requires.weights;
  ins_weights = c.in_ok-ins.ensures.weights ∙ c.weighted-2.ensures;
  ins_count = ap length c.in_ok-ins.ensures.blank ∙ length-replicate c.longest_in_list-room.result 0;
}

pub returns-then-degree-counts : goal.returns-then-degree-counts
returns-then-degree-counts c =
    let layout = c.args.layout.now in
    let index = c.args.index.now in
    let image = c.args.image.now in
    let n = length index.outs in
    let pairs = pairs_in layout index image in
    let v = c.loop-v.v in
    let below : v < n = omega (arith, c.loop-v-test.true, c.n-v-end.ensures.outs) in
    let count = count-read n pairs c.args.counts.now v below c.requires.counts in
    first-unlike layout index image v below c.loop-v.invariant.mirrored
    (unlike-count layout index image v below (λ same. c.if-degree-counts.true (c.degree-degree.ensures ∙ same ∙ sym count)))

pub bounds-counts-v : goal.bounds-counts-v
bounds-counts-v c =
    let n = length c.args.index.now.outs in
    let below : c.loop-v.v < n = omega (arith, c.loop-v-test.true, c.n-v-end.ensures.outs) in
    let each = ap length c.requires.counts ∙ length-map-range_with_len (count_of In (pairs_in c.args.layout.now c.args.index.now c.args.image.now)) 0 n in
    omega (arith, below, each)

pub is_alike-requires-clause-within : goal.is_alike-requires-clause-within
is_alike-requires-clause-within c =
    let index = c.args.index.now in
    let n = length index.outs in
    let pairs = pairs_in c.args.layout.now index c.args.image.now in
    let v = c.loop-v.v in
    let below : v < n = omega (arith, c.loop-v-test.true, c.n-v-end.ensures.outs) in
    let count = c.if-degree-counts.false ∙ count-read n pairs c.args.counts.now v below c.requires.counts in
    let cut = cut-at index.weighted n pairs v below in
    let fits = cut.within in
    omega (arith, fits, count, c.loop-v.invariant.count, c.loop-v.invariant.start)

pub overflow_add-start : goal.overflow_add-start
overflow_add-start c =
    let layout = c.args.layout.now in
    let index = c.args.index.now in
    let image = c.args.image.now in
    let n = length index.outs in
    let pairs = pairs_in layout index image in
    let v = c.loop-v.v in
    let below : v < n = omega (arith, c.loop-v-test.true, c.n-v-end.ensures.outs) in
    let count = c.if-degree-counts.false ∙ count-read n pairs c.args.counts.now v below c.requires.counts in
    let next = start-next n pairs v below in
    let some = sum_by-take-le (λ x. x) (counts_in layout index image) (v + 1) in
    let all = sum-counts layout index image c.requires.sound in
    omega (arith, next, some, all, count, c.loop-v.invariant.start, c.requires.fits.few_outs)

pub returns-then-not-is_alike : goal.returns-then-not-is_alike
returns-then-not-is_alike c =
    let layout = c.args.layout.now in
    let index = c.args.index.now in
    let image = c.args.image.now in
    let w = index.weighted in
    let n = length index.outs in
    let pairs = pairs_in layout index image in
    let v = c.loop-v.v in
    let degree = c.degree-degree.result in
    let below : v < n = omega (arith, c.loop-v-test.true, c.n-v-end.ensures.outs) in
    let bytes : IsBytes image = record { each = λ i. let fits = c.type_inv.image i in omega (arith, fits) } in
    let count = c.if-degree-counts.false ∙ count-read n pairs c.args.counts.now v below c.requires.counts in
    let read = ap (λ (k : ℕ). take k (numbers c.read_list.new.keys)) c.degree-degree.ensures ∙ c.read_list.ensures.read in
    let cut = cut-left w n pairs v c.loop-v.start degree (numbers c.loop-v.turned) below c.loop-v.invariant.start count c.loop-v.invariant.behind in
    first-unlike layout index image v below c.loop-v.invariant.mirrored
    (λ same. absurd (
    let yes = c.is_alike.ensures.alike.1 (keys-mirrored layout index image c.requires.fits bytes v _ _ below read cut same) in
    let no = c.if-not-is_alike.true in
    cc))

pub loop-v-preserved : goal.loop-v-preserved
loop-v-preserved c =
    let layout = c.args.layout.now in
    let index = c.args.index.now in
    let image = c.args.image.now in
    let w = index.weighted in
    let n = length index.outs in
    let pairs = pairs_in layout index image in
    let v = c.loop-v.v in
    let degree = c.degree-degree.result in
    let below : v < n = omega (arith, c.loop-v-test.true, c.n-v-end.ensures.outs) in
    let below_in : v < length index.ins = omega (arith, below, c.requires.fits.same_vertices) in
    let bytes : IsBytes image = record { each = λ i. let fits = c.type_inv.image i in omega (arith, fits) } in
    let count = c.if-degree-counts.false ∙ count-read n pairs c.args.counts.now v below c.requires.counts in
    let read = ap (λ (k : ℕ). take k (numbers c.read_list.new.keys)) c.degree-degree.ensures ∙ c.read_list.ensures.read in
    let cut = cut-left w n pairs v c.loop-v.start degree (numbers c.loop-v.turned) below c.loop-v.invariant.start count c.loop-v.invariant.behind in
    let same = mirrored-keys layout index image c.requires.fits bytes v _ _ below read cut (c.is_alike.ensures.alike.0 (cc (c.if-not-is_alike.false))) in
    let size = c.entry_bytes-size.ensures.size ∙ ap entry_bytes c.weighted.ensures in
    record {
      mirrored = below_more _ _ c.loop-v.invariant.mirrored same;
      start = omega (arith, c.loop-v.invariant.start, count, start-next n pairs v below);
      begin = moved _ _ _ _ _ _ _ c.loop-v.invariant.begin c.degree-degree.ensures size (begin_of-next layout index In v below_in);
      behind = left-next (numbers c.loop-v.turned) (numbers c.is_alike.new.self) (turned_keys w n pairs) c.loop-v.start degree c.is_alike.ensures.behind c.loop-v.invariant.behind;
      count = c.is_alike.ensures.count ∙ c.loop-v.invariant.count;
      weights = c.is_alike.ensures.weights ∙ c.loop-v.invariant.weights;
      ins_weights = c.is_alike.ensures.others_weights ∙ c.read_list.ensures.weights;
      ins_count = c.is_alike.ensures.others_count ∙ c.read_list.ensures.count ∙ c.loop-v.invariant.ins_count;
    }

pub returns : goal.returns
returns c =
    none-unlike c.args.layout.now c.args.index.now c.args.image.now c.loop-v.v (omega (arith, c.loop-v-test.false, c.n-v-end.ensures.outs)) c.loop-v.invariant.mirrored
