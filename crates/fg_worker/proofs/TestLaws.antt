-- A desk over a graph of five vertices, of whose image nothing is told, and its blocks.
use Rattle.std.proofs.Common.{◌≡◌, ◌∙◌, ℕ, ◌*◌, ◌-◌, ◌^◌, ◌<◌, ◌≤◌, false, None, List, [], ◌∷◌, length, min, sum, refl, sym, ap, subst, arith}
use Rattle.std.specs.List.{Contains, flat_map, range_with_len}
use Rattle.std.proofs.lemmas.List.{length-append}
use Rattle.std.proofs.lemmas.List.FromFn.{length-range_with_len}
use Rattle.fg_base.specs.declared.plain.Dir.TheVariants.{Out, In}
use Rattle.fg_base.specs.declared.plain.Need.{Need}
use Rattle.fg_cache.proofs.CountLemmas.{filter_contains}
use Rattle.fg_cache.specs.Site.{asked_pages}
use Rattle.fg_image.proofs.SpanLaws.{end_within}
use Rattle.fg_model.specs.Graph.{row}
use Rattle.fg_model.specs.Iteration.{AreStates, active_vertices, state_at}
use Rattle.fg_model.specs.VertexRun.{edges_from, edges_of}
use Rattle.fg_image.specs.Image.{IndexFits}
use Rattle.fg_image.specs.Needed.{IsNeededBySome}
use Rattle.fg_stripe.specs.declared.layout.Layout.{Layout}
use Rattle.fg_task.specs.Block.{block_vertices, needed_of}
use Rattle.fg_worker.specs.Desk.{IsDesk, Setting, active_in, graph_of}
use Rattle.fg_worker.proofs.BeginLaws.{length-filter}
use Rattle.fg_worker.proofs.NeededLaws.{in_range}
use Rattle.fg_worker.proofs.ResultLaws.{few-in}
use Rattle.fg_worker.proofs.SegmentLaws.{length-edges_from}

-- where the image of the tests stands
abbrev pub small : Layout
small = record { drives = 1; unit = 1; pages = 40; out_first = 1; in_first = 38 }

-- what is known of a desk over it
pub record IsSmall (S : Setting) : Type 0 where
  pub layout : S.layout ≡ small
  pub site_layout : S.site.layout ≡ small
  pub none_told : S.site.image ≡ None
  pub weighted : S.index.weighted ≡ false
  pub outs : length S.index.outs ≡ 5
  pub ins : length S.index.ins ≡ 5
  pub sum_outs : sum S.index.outs ≡ 36869
  pub sum_ins : sum S.index.ins ≡ 5
  pub vertices : S.map.n ≡ 5
  pub states : AreStates 5 S.states
  pub asked : (page : ℕ) → page < 40 → Contains (asked_pages S.site) page

module _ (S : Setting) (is : IsSmall S) where
  fits : IndexFits S.layout S.index
  fits = rw (is.layout, is.weighted) (record {
    few_vertices = omega (arith, is.outs);
    same_vertices = is.ins ∙ sym is.outs;
    few_outs = omega (arith, is.sum_outs);
    few_ins = omega (arith, is.sum_ins);
    few_pages = omega arith;
    outs_first = refl;
    ins_behind = omega (arith, is.sum_outs);
    within = omega (arith, is.sum_ins);
  })

  needed-within : (page : ℕ) → IsNeededBySome S.layout S.index S.rules.need (active_vertices S.rules S.phase S.states) page → page < 40
  needed-within page needed =
      let v : ℕ = needed.vertex in
      let of = filter_contains (λ (u : ℕ). S.rules.wake S.phase (state_at S.states u)) (range_with_len 0 (length S.states)) v needed.is_one in
      let below : v < length S.index.outs = omega (arith, (in_range 0 (length S.states) v of.0).1, is.states.state_count, is.outs) in
      let ended = end_within S.layout S.index needed.is_for.dir v fits below in
      let pages = ap (λ (l : Layout). l.pages) is.layout in
      let held = needed.is_for.holds in
      let byte : held.byte < 40 * 4096 = omega (arith, held.to_end, ended, pages) in
      omega (arith, held.is_page, byte)

  pub small-desk : IsDesk S
  small-desk = record {
    same_layout = is.layout ∙ sym is.site_layout;
    striped = rw is.layout (record { some_drive = omega arith; few_drives = omega arith; some_unit = omega arith; small_unit = omega arith; few_pages = omega arith });
    fits = fits;
    vertices = is.vertices ∙ sym is.outs;
    are_states = subst (λ (n : ℕ). AreStates n S.states) (sym is.vertices) is.states;
    told = λ pages told. absurd (cc (told, is.none_told));
    asked = λ page needed. is.asked page (needed-within page needed);
  }

-- of any desk with so few vertices
module _ (S : Setting) (desk : IsDesk S) (five : S.map.n ≡ 5) where
  few-of : (need : Need) (v : ℕ) → length (edges_of need (graph_of S) v) ≤ 2 ^ 33
  few-of Need.Out v = omega (arith, length-edges_from v Out (row (graph_of S).outs v) 0, few-in S desk Out v)
  few-of Need.In v = omega (arith, length-edges_from v In (row (graph_of S).ins v) 0, few-in S desk In v)
  few-of Need.Both v =
      omega (
        arith,
        length-edges_from v Out (row (graph_of S).outs v) 0,
        few-in S desk Out v,
        length-edges_from v In (row (graph_of S).ins v) 0,
        few-in S desk In v,
        length-append (edges_from v Out 0 (row (graph_of S).outs v)) (edges_from v In 0 (row (graph_of S).ins v)),
      )

  few-over : (need : Need) (vs : List ℕ) → length (flat_map (edges_of need (graph_of S)) vs) ≤ length vs * 2 ^ 33
  few-over need [] = omega arith
  few-over need (v ∷ vs) =
      omega (arith, few-of need v, few-over need vs, length-append (edges_of need (graph_of S) v) (flat_map (edges_of need (graph_of S)) vs))

  pub small-active : (block : ℕ) → length (active_in S block) ≤ 5
  unfolding block_vertices
  small-active block =
      let first : ℕ = block * (2 ^ S.map.shift) in
      let count : ℕ = min (2 ^ S.map.shift) (S.map.n - first) in
      let few : count ≤ S.map.n = omega arith in
      omega (arith, length-filter (λ (u : ℕ). S.rules.wake S.phase (state_at S.states u)) (range_with_len first count), length-range_with_len first count, few, five)

  pub small-needed : (block : ℕ) → length (needed_of S.rules (graph_of S) (active_in S block)) < 2 ^ 40
  unfolding needed_of
  small-needed block = omega (arith, few-over S.rules.need (active_in S block), small-active block)
