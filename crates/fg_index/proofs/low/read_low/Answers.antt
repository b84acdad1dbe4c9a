use Rattle.std.proofs.Common.{◌≡◌, ◌≤◌, ◌∙◌, ◌*◌, Some, None, length, drop, get_or, refl, sym, arith}
use Rattle.std.proofs.lemmas.List.{take_rest, length-drop, length_push}
use Rattle.fg_index.specs.Direction.{degree_of}
use Rattle.fg_index.proofs.JoinedLemmas.{longs_in-cut, longs_in-one-le, longs_in-more}
use Rattle.fg_index.proofs.ReadLemmas.{read_more, read_fault, read_all}
use Rattle.fg_index.proofs.low.read_low.Goals as goal

pub returns-in-None-clause-longs : goal.returns-in-None-clause-longs
returns-in-None-clause-longs c =
    let counted = rw take_rest at c.longs_in.ensures in
    omega (arith, c.loop-vertex.invariant.longs, counted, longs_in-cut c.args.low.now c.loop-vertex.vertex)

pub returns-in-None-clause-degrees : goal.returns-in-None-clause-degrees
returns-in-None-clause-degrees c =
    let low = c.args.low.now in
    let v = c.loop-vertex.vertex in
    let none : degree_of v (get_or low v 0) (drop (8 * c.loop-vertex.longs) c.args.pairs.now) ≡ None = sym (rw c.pairs_from.ensures at c.in-None.ensures.degree) in
    sym (read_fault low c.args.pairs.now c.loop-vertex.kept v c.loop-vertex.longs c.loop-vertex-test.true none) ∙ c.loop-vertex.invariant.found

pub loop-vertex-preserved : goal.loop-vertex-preserved
loop-vertex-preserved c =
    let low = c.args.low.now in
    let pairs = c.args.pairs.now in
    let v = c.loop-vertex.vertex in
    let longs = c.loop-vertex.longs in
    let at = c.loop-vertex.invariant in
    let some : degree_of v (get_or low v 0) (drop (8 * longs) pairs) ≡ Some c.in-Some.degree = sym (rw c.pairs_from.ensures at c.in-Some.ensures.degree) in
    let room = rw c.pairs_from.ensures at (c.in-Some.ensures.pair refl) in
    let one = longs_in-one-le (get_or low v 0) in
    rw (c.in_ok-kept-2.ensures, c.longs_with-longs.ensures) (record {
      longs = omega (arith, at.longs, longs_in-more low v c.loop-vertex-test.true);
      few = omega (arith, at.few, one);
      fits = omega (arith, at.fits, room, length-drop (8 * longs) pairs);
      each = omega (arith, at.each, length_push c.loop-vertex.kept c.in-Some.degree);
      found = sym (read_more low pairs c.loop-vertex.kept v longs c.in-Some.degree c.loop-vertex-test.true some) ∙ at.found;
    })

pub returns-clause-degrees : goal.returns-clause-degrees
returns-clause-degrees c =
    let low = c.args.low.now in
    let le : length low ≤ c.loop-vertex.vertex = omega arith in
    sym (read_all low c.args.pairs.now c.loop-vertex.kept c.loop-vertex.vertex c.loop-vertex.longs le) ∙ c.loop-vertex.invariant.found
