use Rattle.std.proofs.Common.{◌≡◌, ℕ, List, length, map, ap, sym, ◌∙◌, arith}
use Rattle.std.specs.Prelude.{find}
use Rattle.std.proofs.lemmas.Result.{err_from_is_err_and}
use Rattle.fg_base.specs.declared.plain.Dir.TheVariants as Dir
use Rattle.fg_model.specs.declared.mail.Mail.{Mail}
use Rattle.fg_model.specs.Graph.{row}
use Rattle.fg_model.specs.Iteration.{folded, is_bad}
use Rattle.fg_model.specs.VertexRun.{edges_from, message_along}
use Rattle.fg_model.proofs.IterationLemmas.{edges_of-both, find-front, find-skip, folded-append, length-both, length-in, length-out, row_read, sent-both}
use Rattle.fg_model.proofs.plain.send.Goals as goal

pub send_along-requires-clause-room : goal.send_along-requires-clause-room
send_along-requires-clause-room g c =
    let v = c.args.from.v in
    let graph = c.args.graph.now in
    let outs = c.as_slice-outs.result.now in
    let is_outs : outs ≡ row graph.outs v = row_read graph.outs c.as_slice.result.now v c.index-as_slice-from.result outs (omega (arith, c.requires.vertex, c.requires.within.out_side.row_count)) c.as_slice.ensures c.index-as_slice-from.is c.as_slice-outs.ensures in
    omega (arith, c.requires.room, length-out c.args.need graph v outs c.in-Out.is is_outs)

pub send_along-requires-in-In-clause-room : goal.send_along-requires-in-In-clause-room
send_along-requires-in-In-clause-room g c =
    let v = c.args.from.v in
    let graph = c.args.graph.now in
    let ins = c.as_slice-ins.result.now in
    let is_ins : ins ≡ row graph.ins v = row_read graph.ins c.as_slice-2.result.now v c.index-as_slice-from-2.result ins (omega (arith, c.requires.vertex, c.requires.within.in_side.row_count)) c.as_slice-2.ensures c.index-as_slice-from-2.is c.as_slice-ins.ensures in
    omega (arith, c.requires.room, length-in c.args.need graph v ins c.in-In.is is_ins)

pub send_along-requires-in-Both-clause-room : goal.send_along-requires-in-Both-clause-room
send_along-requires-in-Both-clause-room g c =
    let v = c.args.from.v in
    let graph = c.args.graph.now in
    let outs = c.as_slice-outs.result.now in
    let is_outs : outs ≡ row graph.outs v = row_read graph.outs c.as_slice.result.now v c.index-as_slice-from.result outs (omega (arith, c.requires.vertex, c.requires.within.out_side.row_count)) c.as_slice.ensures c.index-as_slice-from.is c.as_slice-outs.ensures in
    let ins = c.as_slice-ins.result.now in
    let is_ins : ins ≡ row graph.ins v = row_read graph.ins c.as_slice-2.result.now v c.index-as_slice-from-2.result ins (omega (arith, c.requires.vertex, c.requires.within.in_side.row_count)) c.as_slice-2.ensures c.index-as_slice-from-2.is c.as_slice-ins.ensures in
    omega (arith, c.requires.room, length-both c.args.need graph v outs ins c.in-Both.is is_outs is_ins)

pub returns-in_err-send_along-in-Both-clause-err : goal.returns-in_err-send_along-in-Both-clause-err
returns-in_err-send_along-in-Both-clause-err g c =
    let v = c.args.from.v in
    let graph = c.args.graph.now in
    let outs = c.as_slice-outs.result.now in
    let is_outs : outs ≡ row graph.outs v = row_read graph.outs c.as_slice.result.now v c.index-as_slice-from.result outs (omega (arith, c.requires.vertex, c.requires.within.out_side.row_count)) c.as_slice.ensures c.index-as_slice-from.is c.as_slice-outs.ensures in
    let ins = c.as_slice-ins.result.now in
    let is_ins : ins ≡ row graph.ins v = row_read graph.ins c.as_slice-2.result.now v c.index-as_slice-from-2.result ins (omega (arith, c.requires.vertex, c.requires.within.in_side.row_count)) c.as_slice-2.ensures c.index-as_slice-from-2.is c.as_slice-ins.ensures in
    let p = err_from_is_err_and c.from_residual-in_err-send_along-in-Both.result c.from_residual-in_err-send_along-in-Both.ensures.1 in
    let of_n = ap (λ (n : ℕ). find (is_bad n) (edges_from v Dir.Out 0 outs)) c.requires.states in
    rw (p.1, p.2) (ap (find (is_bad graph.n)) (edges_of-both c.args.need graph v outs ins c.in-Both.is is_outs is_ins) ∙ find-front (is_bad graph.n) (edges_from v Dir.Out 0 outs) (edges_from v Dir.In 0 ins) c.in_err-send_along-in-Both.field-0.0 (sym of_n ∙ c.in_err-send_along-in-Both.ensures.err))

pub send_along-requires-in-Both-2-clause-room : goal.send_along-requires-in-Both-2-clause-room
send_along-requires-in-Both-2-clause-room g c =
    let v = c.args.from.v in
    let graph = c.args.graph.now in
    let outs = c.as_slice-outs.result.now in
    let is_outs : outs ≡ row graph.outs v = row_read graph.outs c.as_slice.result.now v c.index-as_slice-from.result outs (omega (arith, c.requires.vertex, c.requires.within.out_side.row_count)) c.as_slice.ensures c.index-as_slice-from.is c.as_slice-outs.ensures in
    let ins = c.as_slice-ins.result.now in
    let is_ins : ins ≡ row graph.ins v = row_read graph.ins c.as_slice-2.result.now v c.index-as_slice-from-2.result ins (omega (arith, c.requires.vertex, c.requires.within.in_side.row_count)) c.as_slice-2.ensures c.index-as_slice-from-2.is c.as_slice-ins.ensures in
    omega (arith, c.requires.room, length-both c.args.need graph v outs ins c.in-Both.is is_outs is_ins, c.in_ok-send_along-in-Both.ensures.ok_entries)

pub returns-in_err-send_along-in-Both-2-clause-err : goal.returns-in_err-send_along-in-Both-2-clause-err
returns-in_err-send_along-in-Both-2-clause-err g c =
    let v = c.args.from.v in
    let graph = c.args.graph.now in
    let outs = c.as_slice-outs.result.now in
    let is_outs : outs ≡ row graph.outs v = row_read graph.outs c.as_slice.result.now v c.index-as_slice-from.result outs (omega (arith, c.requires.vertex, c.requires.within.out_side.row_count)) c.as_slice.ensures c.index-as_slice-from.is c.as_slice-outs.ensures in
    let ins = c.as_slice-ins.result.now in
    let is_ins : ins ≡ row graph.ins v = row_read graph.ins c.as_slice-2.result.now v c.index-as_slice-from-2.result ins (omega (arith, c.requires.vertex, c.requires.within.in_side.row_count)) c.as_slice-2.ensures c.index-as_slice-from-2.is c.as_slice-ins.ensures in
    let p = err_from_is_err_and c.from_residual-in_err-send_along-in-Both-2.result c.from_residual-in_err-send_along-in-Both-2.ensures.1 in
    let of_n = ap (λ (n : ℕ). find (is_bad n) (edges_from v Dir.Out 0 outs)) c.requires.states in
    let of_n2 : length c.send_along-in-Both.new.states ≡ graph.n = c.send_along-in-Both.auto.states ∙ c.requires.states in
    let of_ins = ap (λ (n : ℕ). find (is_bad n) (edges_from v Dir.In 0 ins)) of_n2 in
    rw (p.1, p.2) (ap (find (is_bad graph.n)) (edges_of-both c.args.need graph v outs ins c.in-Both.is is_outs is_ins) ∙ find-skip (is_bad graph.n) (edges_from v Dir.Out 0 outs) (edges_from v Dir.In 0 ins) (sym of_n ∙ c.in_ok-send_along-in-Both.ensures.ok_sound) ∙ sym of_ins ∙ c.in_err-send_along-in-Both-2.ensures.err)

pub returns-in_ok-send_along-in-Out-clause-ok_count : goal.returns-in_ok-send_along-in-Out-clause-ok_count
returns-in_ok-send_along-in-Out-clause-ok_count g c =
    let v = c.args.from.v in
    let graph = c.args.graph.now in
    let outs = c.as_slice-outs.result.now in
    let is_outs : outs ≡ row graph.outs v = row_read graph.outs c.as_slice.result.now v c.index-as_slice-from.result outs (omega (arith, c.requires.vertex, c.requires.within.out_side.row_count)) c.as_slice.ensures c.index-as_slice-from.is c.as_slice-outs.ensures in
    sym (length-out c.args.need graph v outs c.in-Out.is is_outs)

pub returns-in_ok-send_along-in-Out-clause-ok_entries : goal.returns-in_ok-send_along-in-Out-clause-ok_entries
returns-in_ok-send_along-in-Out-clause-ok_entries g c =
    let v = c.args.from.v in
    let graph = c.args.graph.now in
    let outs = c.as_slice-outs.result.now in
    let is_outs : outs ≡ row graph.outs v = row_read graph.outs c.as_slice.result.now v c.index-as_slice-from.result outs (omega (arith, c.requires.vertex, c.requires.within.out_side.row_count)) c.as_slice.ensures c.index-as_slice-from.is c.as_slice-outs.ensures in
    omega (arith, c.in_ok-send_along-in-Out.ensures.ok_entries, length-out c.args.need graph v outs c.in-Out.is is_outs)

pub returns-in_ok-send_along-in-In-clause-ok_count : goal.returns-in_ok-send_along-in-In-clause-ok_count
returns-in_ok-send_along-in-In-clause-ok_count g c =
    let v = c.args.from.v in
    let graph = c.args.graph.now in
    let ins = c.as_slice-ins.result.now in
    let is_ins : ins ≡ row graph.ins v = row_read graph.ins c.as_slice-2.result.now v c.index-as_slice-from-2.result ins (omega (arith, c.requires.vertex, c.requires.within.in_side.row_count)) c.as_slice-2.ensures c.index-as_slice-from-2.is c.as_slice-ins.ensures in
    sym (length-in c.args.need graph v ins c.in-In.is is_ins)

pub returns-in_ok-send_along-in-In-clause-ok_entries : goal.returns-in_ok-send_along-in-In-clause-ok_entries
returns-in_ok-send_along-in-In-clause-ok_entries g c =
    let v = c.args.from.v in
    let graph = c.args.graph.now in
    let ins = c.as_slice-ins.result.now in
    let is_ins : ins ≡ row graph.ins v = row_read graph.ins c.as_slice-2.result.now v c.index-as_slice-from-2.result ins (omega (arith, c.requires.vertex, c.requires.within.in_side.row_count)) c.as_slice-2.ensures c.index-as_slice-from-2.is c.as_slice-ins.ensures in
    omega (arith, c.in_ok-send_along-in-In.ensures.ok_entries, length-in c.args.need graph v ins c.in-In.is is_ins)

pub returns-in_ok-send_along-in-Both-2-clause-ok_sound : goal.returns-in_ok-send_along-in-Both-2-clause-ok_sound
returns-in_ok-send_along-in-Both-2-clause-ok_sound g c =
    let v = c.args.from.v in
    let graph = c.args.graph.now in
    let outs = c.as_slice-outs.result.now in
    let is_outs : outs ≡ row graph.outs v = row_read graph.outs c.as_slice.result.now v c.index-as_slice-from.result outs (omega (arith, c.requires.vertex, c.requires.within.out_side.row_count)) c.as_slice.ensures c.index-as_slice-from.is c.as_slice-outs.ensures in
    let ins = c.as_slice-ins.result.now in
    let is_ins : ins ≡ row graph.ins v = row_read graph.ins c.as_slice-2.result.now v c.index-as_slice-from-2.result ins (omega (arith, c.requires.vertex, c.requires.within.in_side.row_count)) c.as_slice-2.ensures c.index-as_slice-from-2.is c.as_slice-ins.ensures in
    let of_n = ap (λ (n : ℕ). find (is_bad n) (edges_from v Dir.Out 0 outs)) c.requires.states in
    let of_n2 : length c.send_along-in-Both.new.states ≡ graph.n = c.send_along-in-Both.auto.states ∙ c.requires.states in
    let of_ins = ap (λ (n : ℕ). find (is_bad n) (edges_from v Dir.In 0 ins)) of_n2 in
    ap (find (is_bad graph.n)) (edges_of-both c.args.need graph v outs ins c.in-Both.is is_outs is_ins) ∙ find-skip (is_bad graph.n) (edges_from v Dir.Out 0 outs) (edges_from v Dir.In 0 ins) (sym of_n ∙ c.in_ok-send_along-in-Both.ensures.ok_sound) ∙ sym of_ins ∙ c.in_ok-send_along-in-Both-2.ensures.ok_sound

pub returns-in_ok-send_along-in-Both-2-clause-ok_states : goal.returns-in_ok-send_along-in-Both-2-clause-ok_states
returns-in_ok-send_along-in-Both-2-clause-ok_states g c =
    let v = c.args.from.v in
    let graph = c.args.graph.now in
    let outs = c.as_slice-outs.result.now in
    let is_outs : outs ≡ row graph.outs v = row_read graph.outs c.as_slice.result.now v c.index-as_slice-from.result outs (omega (arith, c.requires.vertex, c.requires.within.out_side.row_count)) c.as_slice.ensures c.index-as_slice-from.is c.as_slice-outs.ensures in
    let ins = c.as_slice-ins.result.now in
    let is_ins : ins ≡ row graph.ins v = row_read graph.ins c.as_slice-2.result.now v c.index-as_slice-from-2.result ins (omega (arith, c.requires.vertex, c.requires.within.in_side.row_count)) c.as_slice-2.ensures c.index-as_slice-from-2.is c.as_slice-ins.ensures in
    let P = g.P.Program.rules c.args.program.now in
    let first = map (message_along P c.args.from.carry Dir.Out) outs in
    let next = map (message_along P c.args.from.carry Dir.In) ins in
    c.in_ok-send_along-in-Both-2.ensures.ok_states ∙ ap (folded P next) c.in_ok-send_along-in-Both.ensures.ok_states ∙ sym (folded-append P first next c.args.states.now)
    ∙ ap (λ (messages : List Mail). folded P messages c.args.states.now) (sym (sent-both P c.args.need graph c.args.from outs ins c.in-Both.is is_outs is_ins))

pub returns-in_ok-send_along-in-Both-2-clause-ok_count : goal.returns-in_ok-send_along-in-Both-2-clause-ok_count
returns-in_ok-send_along-in-Both-2-clause-ok_count g c =
    let v = c.args.from.v in
    let graph = c.args.graph.now in
    let outs = c.as_slice-outs.result.now in
    let is_outs : outs ≡ row graph.outs v = row_read graph.outs c.as_slice.result.now v c.index-as_slice-from.result outs (omega (arith, c.requires.vertex, c.requires.within.out_side.row_count)) c.as_slice.ensures c.index-as_slice-from.is c.as_slice-outs.ensures in
    let ins = c.as_slice-ins.result.now in
    let is_ins : ins ≡ row graph.ins v = row_read graph.ins c.as_slice-2.result.now v c.index-as_slice-from-2.result ins (omega (arith, c.requires.vertex, c.requires.within.in_side.row_count)) c.as_slice-2.ensures c.index-as_slice-from-2.is c.as_slice-ins.ensures in
    sym (length-both c.args.need graph v outs ins c.in-Both.is is_outs is_ins)

pub returns-in_ok-send_along-in-Both-2-clause-ok_entries : goal.returns-in_ok-send_along-in-Both-2-clause-ok_entries
returns-in_ok-send_along-in-Both-2-clause-ok_entries g c =
    let v = c.args.from.v in
    let graph = c.args.graph.now in
    let outs = c.as_slice-outs.result.now in
    let is_outs : outs ≡ row graph.outs v = row_read graph.outs c.as_slice.result.now v c.index-as_slice-from.result outs (omega (arith, c.requires.vertex, c.requires.within.out_side.row_count)) c.as_slice.ensures c.index-as_slice-from.is c.as_slice-outs.ensures in
    let ins = c.as_slice-ins.result.now in
    let is_ins : ins ≡ row graph.ins v = row_read graph.ins c.as_slice-2.result.now v c.index-as_slice-from-2.result ins (omega (arith, c.requires.vertex, c.requires.within.in_side.row_count)) c.as_slice-2.ensures c.index-as_slice-from-2.is c.as_slice-ins.ensures in
    omega (arith, c.in_ok-send_along-in-Both.ensures.ok_entries, c.in_ok-send_along-in-Both-2.ensures.ok_entries, length-both c.args.need graph v outs ins c.in-Both.is is_outs is_ins)

pub returns-in_err-send_along-in-Out-clause-few_entries : goal.returns-in_err-send_along-in-Out-clause-few_entries
returns-in_err-send_along-in-Out-clause-few_entries g c =
    let v = c.args.from.v in
    let graph = c.args.graph.now in
    let outs = c.as_slice-outs.result.now in
    let is_outs : outs ≡ row graph.outs v = row_read graph.outs c.as_slice.result.now v c.index-as_slice-from.result outs (omega (arith, c.requires.vertex, c.requires.within.out_side.row_count)) c.as_slice.ensures c.index-as_slice-from.is c.as_slice-outs.ensures in
    record {
      at_least = omega (arith, c.in_err-send_along-in-Out.ensures.few_entries.at_least);
      at_most = omega (arith, c.in_err-send_along-in-Out.ensures.few_entries.at_most, length-out c.args.need graph v outs c.in-Out.is is_outs);
    }

pub returns-in_ok-send_along-in-Out-clause-few_entries : goal.returns-in_ok-send_along-in-Out-clause-few_entries
returns-in_ok-send_along-in-Out-clause-few_entries g c =
    let v = c.args.from.v in
    let graph = c.args.graph.now in
    let outs = c.as_slice-outs.result.now in
    let is_outs : outs ≡ row graph.outs v = row_read graph.outs c.as_slice.result.now v c.index-as_slice-from.result outs (omega (arith, c.requires.vertex, c.requires.within.out_side.row_count)) c.as_slice.ensures c.index-as_slice-from.is c.as_slice-outs.ensures in
    record {
      at_least = omega (arith, c.in_ok-send_along-in-Out.ensures.few_entries.at_least);
      at_most = omega (arith, c.in_ok-send_along-in-Out.ensures.few_entries.at_most, length-out c.args.need graph v outs c.in-Out.is is_outs);
    }

pub returns-in_err-send_along-in-In-clause-few_entries : goal.returns-in_err-send_along-in-In-clause-few_entries
returns-in_err-send_along-in-In-clause-few_entries g c =
    let v = c.args.from.v in
    let graph = c.args.graph.now in
    let ins = c.as_slice-ins.result.now in
    let is_ins : ins ≡ row graph.ins v = row_read graph.ins c.as_slice-2.result.now v c.index-as_slice-from-2.result ins (omega (arith, c.requires.vertex, c.requires.within.in_side.row_count)) c.as_slice-2.ensures c.index-as_slice-from-2.is c.as_slice-ins.ensures in
    record {
      at_least = omega (arith, c.in_err-send_along-in-In.ensures.few_entries.at_least);
      at_most = omega (arith, c.in_err-send_along-in-In.ensures.few_entries.at_most, length-in c.args.need graph v ins c.in-In.is is_ins);
    }

pub returns-in_ok-send_along-in-In-clause-few_entries : goal.returns-in_ok-send_along-in-In-clause-few_entries
returns-in_ok-send_along-in-In-clause-few_entries g c =
    let v = c.args.from.v in
    let graph = c.args.graph.now in
    let ins = c.as_slice-ins.result.now in
    let is_ins : ins ≡ row graph.ins v = row_read graph.ins c.as_slice-2.result.now v c.index-as_slice-from-2.result ins (omega (arith, c.requires.vertex, c.requires.within.in_side.row_count)) c.as_slice-2.ensures c.index-as_slice-from-2.is c.as_slice-ins.ensures in
    record {
      at_least = omega (arith, c.in_ok-send_along-in-In.ensures.few_entries.at_least);
      at_most = omega (arith, c.in_ok-send_along-in-In.ensures.few_entries.at_most, length-in c.args.need graph v ins c.in-In.is is_ins);
    }

pub returns-in_err-send_along-in-Both-clause-few_entries : goal.returns-in_err-send_along-in-Both-clause-few_entries
returns-in_err-send_along-in-Both-clause-few_entries g c =
    let v = c.args.from.v in
    let graph = c.args.graph.now in
    let outs = c.as_slice-outs.result.now in
    let is_outs : outs ≡ row graph.outs v = row_read graph.outs c.as_slice.result.now v c.index-as_slice-from.result outs (omega (arith, c.requires.vertex, c.requires.within.out_side.row_count)) c.as_slice.ensures c.index-as_slice-from.is c.as_slice-outs.ensures in
    let ins = c.as_slice-ins.result.now in
    let is_ins : ins ≡ row graph.ins v = row_read graph.ins c.as_slice-2.result.now v c.index-as_slice-from-2.result ins (omega (arith, c.requires.vertex, c.requires.within.in_side.row_count)) c.as_slice-2.ensures c.index-as_slice-from-2.is c.as_slice-ins.ensures in
    record {
      at_least = omega (arith, c.in_err-send_along-in-Both.ensures.few_entries.at_least);
      at_most = omega (arith, c.in_err-send_along-in-Both.ensures.few_entries.at_most, length-both c.args.need graph v outs ins c.in-Both.is is_outs is_ins);
    }

pub returns-in_err-send_along-in-Both-2-clause-few_entries : goal.returns-in_err-send_along-in-Both-2-clause-few_entries
returns-in_err-send_along-in-Both-2-clause-few_entries g c =
    let v = c.args.from.v in
    let graph = c.args.graph.now in
    let outs = c.as_slice-outs.result.now in
    let is_outs : outs ≡ row graph.outs v = row_read graph.outs c.as_slice.result.now v c.index-as_slice-from.result outs (omega (arith, c.requires.vertex, c.requires.within.out_side.row_count)) c.as_slice.ensures c.index-as_slice-from.is c.as_slice-outs.ensures in
    let ins = c.as_slice-ins.result.now in
    let is_ins : ins ≡ row graph.ins v = row_read graph.ins c.as_slice-2.result.now v c.index-as_slice-from-2.result ins (omega (arith, c.requires.vertex, c.requires.within.in_side.row_count)) c.as_slice-2.ensures c.index-as_slice-from-2.is c.as_slice-ins.ensures in
    record {
      at_least = omega (arith, c.in_ok-send_along-in-Both.ensures.ok_entries, c.in_err-send_along-in-Both-2.ensures.few_entries.at_least);
      at_most = omega (arith, c.in_ok-send_along-in-Both.ensures.ok_entries, c.in_err-send_along-in-Both-2.ensures.few_entries.at_most, length-both c.args.need graph v outs ins c.in-Both.is is_outs is_ins);
    }

pub returns-in_ok-send_along-in-Both-2-clause-few_entries : goal.returns-in_ok-send_along-in-Both-2-clause-few_entries
returns-in_ok-send_along-in-Both-2-clause-few_entries g c =
    let v = c.args.from.v in
    let graph = c.args.graph.now in
    let outs = c.as_slice-outs.result.now in
    let is_outs : outs ≡ row graph.outs v = row_read graph.outs c.as_slice.result.now v c.index-as_slice-from.result outs (omega (arith, c.requires.vertex, c.requires.within.out_side.row_count)) c.as_slice.ensures c.index-as_slice-from.is c.as_slice-outs.ensures in
    let ins = c.as_slice-ins.result.now in
    let is_ins : ins ≡ row graph.ins v = row_read graph.ins c.as_slice-2.result.now v c.index-as_slice-from-2.result ins (omega (arith, c.requires.vertex, c.requires.within.in_side.row_count)) c.as_slice-2.ensures c.index-as_slice-from-2.is c.as_slice-ins.ensures in
    record {
      at_least = omega (arith, c.in_ok-send_along-in-Both.ensures.ok_entries, c.in_ok-send_along-in-Both-2.ensures.few_entries.at_least);
      at_most = omega (arith, c.in_ok-send_along-in-Both.ensures.ok_entries, c.in_ok-send_along-in-Both-2.ensures.few_entries.at_most, length-both c.args.need graph v outs ins c.in-Both.is is_outs is_ins);
    }
