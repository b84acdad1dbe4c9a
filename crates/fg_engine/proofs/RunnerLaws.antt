-- What a block's run is told at its desk.
use Rattle.std.proofs.Common.{◌≡◌, ℕ, List, length, refl, subst, sym, ◌∙◌}
use Rattle.fg_base.specs.declared.plain.VState.{VState}
use Rattle.fg_image.specs.Lists.{graph_by}
use Rattle.fg_image.specs.Needed.{IsNeededBySome}
use Rattle.fg_index.specs.ImageIndex.{ImageIndex}
use Rattle.fg_iter.specs.Lists.{MayRun}
use Rattle.fg_model.specs.declared.graph.Graph.{Graph}
use Rattle.fg_model.specs.Iteration.{AreStates, active_vertices, begun_at}
use Rattle.fg_model.specs.Program.{Rules}
use Rattle.fg_stripe.specs.declared.layout.Layout.{Layout}
use Rattle.fg_worker.specs.Desk.{IsDesk, Setting, image_of}
use Rattle.fg_engine.specs.Runner.{AllowsPages, IsCacheOf, lists_of}

pub graph-n : (layout : Layout) (index : ImageIndex) (image : List ℕ) → (graph_by layout index image).n ≡ length index.outs
unfolding graph_by
graph-n layout index image = refl

begun-active : (P : Rules) (graph : Graph) (phase : ℕ) (states : List VState) → (begun_at P graph phase states).active ≡ active_vertices P phase states
unfolding begun_at
begun-active P graph phase states = refl

-- an iteration that may be run is one at a desk
pub desk-of : (S : Setting) → IsCacheOf S.layout S.index S.site
    → MayRun (lists_of S.layout S.index S.site) (AllowsPages S.layout S.index S.site) S.rules S.map S.phase S.states → IsDesk S
desk-of S cache may = record {
  same_layout = cache.same_layout;
  striped = cache.striped;
  fits = cache.fits;
  vertices = may.vertices ∙ graph-n S.layout S.index (image_of S.site.image);
  are_states = subst (λ (n : ℕ). AreStates n S.states) (sym may.vertices) may.are_states;
  told = cache.told;
  asked = λ page is. may.is_allowed page
      (subst (λ (vertices : List ℕ). IsNeededBySome S.layout S.index S.rules.need vertices page)
      (sym (begun-active S.rules (graph_by S.layout S.index (image_of S.site.image)) S.phase S.states)) is);
}
