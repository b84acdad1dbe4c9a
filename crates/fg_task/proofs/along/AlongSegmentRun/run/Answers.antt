use Rattle.std.proofs.Common.{ℕ, ◌+◌, List, sym, subst, ap, ◌∙◌, arith}
use Rattle.fg_base.specs.declared.plain.Entry.{Entry}
use Rattle.fg_batch.specs.Outbox.{HasRoom}
use Rattle.fg_edges.specs.Segment.{segment_entries}
use Rattle.fg_image.proofs.EntryLaws.{length-entries_at}
use Rattle.fg_task.specs.declared.job.Step.TheVariants.{Done}
use Rattle.fg_task.specs.Jobs.{Work, entry_count, work_of}
use Rattle.fg_task.proofs.AlongLaws.{ends-bad, ends-counted, ends-room, ends-sent, goes-bad, goes-count, goes-fits, goes-good, goes-room}
use Rattle.fg_task.proofs.along.AlongSegmentRun.run.Goals as goal

pub overflow_add-place : goal.overflow_add-place
overflow_add-place g c =
    let W : Work = work_of (g.P.Program.rules c.args.self.now.program.now) c.args.self.now.n c.args.self.now.weighted in
    let job = c.args.job.now in
    let all : List Entry = segment_entries c.args.self.now.weighted c.args.bytes.now job.segment in
    let goes = rw c.in-Some.ensures.steps at c.loop-entry.invariant.goes in
    let count = length-entries_at c.args.self.now.weighted c.args.bytes.now job.segment.from (entry_count W job) in
    let numbered = c.requires.job.numbered in
    let fits = goes-fits W job all c.in-Some.entry c.next.new.self c.args.outbox.now c.loop-entry.outbox _ _ c.loop-entry.place c.loop-entry.bad goes
    (omega (arith, count, numbered)) in
    omega (arith, fits)

pub edge-message-requires : goal.edge-message-requires
edge-message-requires g c =
    let W : Work = work_of (g.P.Program.rules c.args.self.now.program.now) c.args.self.now.n c.args.self.now.weighted in
    let job = c.args.job.now in
    let all : List Entry = segment_entries c.args.self.now.weighted c.args.bytes.now job.segment in
    let goes = rw c.in-Some.ensures.steps at c.loop-entry.invariant.goes in
    let count = length-entries_at c.args.self.now.weighted c.args.bytes.now job.segment.from (entry_count W job) in
    let more = goes-count W job all c.in-Some.entry c.next.new.self c.args.outbox.now c.loop-entry.outbox _ _ c.loop-entry.place c.loop-entry.bad goes c.if-entry-self.true in
    let few = c.requires.counted in
    record { room = omega (arith, count, more, few) }

pub send-requires-clause-room : goal.send-requires-clause-room
send-requires-clause-room g c =
    let W : Work = work_of (g.P.Program.rules c.args.self.now.program.now) c.args.self.now.n c.args.self.now.weighted in
    let job = c.args.job.now in
    let all : List Entry = segment_entries c.args.self.now.weighted c.args.bytes.now job.segment in
    let goes = rw c.in-Some.ensures.steps at c.loop-entry.invariant.goes in
    let count = length-entries_at c.args.self.now.weighted c.args.bytes.now job.segment.from (entry_count W job) in
    goes-room W job all c.in-Some.entry c.next.new.self c.args.outbox.now c.loop-entry.outbox _ _ c.loop-entry.place c.loop-entry.bad goes
    (subst (λ (k : ℕ). HasRoom k c.args.outbox.now) (sym count) c.requires.room)

pub loop-entry-preserved-then-entry-self : goal.loop-entry-preserved-then-entry-self
loop-entry-preserved-then-entry-self g c =
    let W : Work = work_of (g.P.Program.rules c.args.self.now.program.now) c.args.self.now.n c.args.self.now.weighted in
    let job = c.args.job.now in
    let all : List Entry = segment_entries c.args.self.now.weighted c.args.bytes.now job.segment in
    let goes = rw c.in-Some.ensures.steps at c.loop-entry.invariant.goes in
    record {
      can = tt;
      finite = tt;
      goes = goes-good W job all c.in-Some.entry c.next.new.self c.args.outbox.now c.loop-entry.outbox _ _ c.loop-entry.place c.loop-entry.bad goes
          c.if-entry-self.true c.send.new.self _ (rw c.edge-message.ensures.value at c.send.ensures.sent) c.send.ensures.room c.edge-message.ensures.entries;
      runs = c.edge-message.ensures.runs ∙ c.loop-entry.invariant.runs;
    }

pub loop-entry-preserved : goal.loop-entry-preserved
loop-entry-preserved g c =
    let W : Work = work_of (g.P.Program.rules c.args.self.now.program.now) c.args.self.now.n c.args.self.now.weighted in
    let job = c.args.job.now in
    let all : List Entry = segment_entries c.args.self.now.weighted c.args.bytes.now job.segment in
    let goes = rw c.in-Some.ensures.steps at c.loop-entry.invariant.goes in
    record {
      can = tt;
      finite = tt;
      goes = rw c.or-bad.ensures (goes-bad W job all c.in-Some.entry c.next.new.self c.args.outbox.now c.loop-entry.outbox _ _ c.loop-entry.place c.loop-entry.bad goes
          c.if-entry-self.false);
      runs = c.loop-entry.invariant.runs;
    }

pub returns-clause-sent : goal.returns-clause-sent
returns-clause-sent g c =
    let W : Work = work_of (g.P.Program.rules c.args.self.now.program.now) c.args.self.now.n c.args.self.now.weighted in
    let goes = rw c.in-None.ensures.steps.0 at c.loop-entry.invariant.goes in
    ends-sent W c.args.job.now c.args.bytes.now c.args.outbox.now c.loop-entry.outbox _ _ c.loop-entry.place c.loop-entry.bad goes

pub returns-clause-room : goal.returns-clause-room
returns-clause-room g c k room =
    let W : Work = work_of (g.P.Program.rules c.args.self.now.program.now) c.args.self.now.n c.args.self.now.weighted in
    let job = c.args.job.now in
    let goes = rw c.in-None.ensures.steps.0 at c.loop-entry.invariant.goes in
    let count = length-entries_at c.args.self.now.weighted c.args.bytes.now job.segment.from (entry_count W job) in
    ends-room W job c.args.bytes.now c.args.outbox.now c.loop-entry.outbox _ _ c.loop-entry.place c.loop-entry.bad goes k
    (subst (λ (n : ℕ). HasRoom (k + n) c.args.outbox.now) (sym count) room)

pub returns-clause-entries : goal.returns-clause-entries
returns-clause-entries g c =
    let W : Work = work_of (g.P.Program.rules c.args.self.now.program.now) c.args.self.now.n c.args.self.now.weighted in
    let goes = rw c.in-None.ensures.steps.0 at c.loop-entry.invariant.goes in
    ends-counted W c.args.job.now c.args.bytes.now c.args.outbox.now c.loop-entry.outbox _ _ c.loop-entry.place c.loop-entry.bad goes

pub returns-clause-bad : goal.returns-clause-bad
returns-clause-bad g c =
    let W : Work = work_of (g.P.Program.rules c.args.self.now.program.now) c.args.self.now.n c.args.self.now.weighted in
    let goes = rw c.in-None.ensures.steps.0 at c.loop-entry.invariant.goes in
    ap Done (ends-bad W c.args.job.now c.args.bytes.now c.args.outbox.now c.loop-entry.outbox _ _ c.loop-entry.place c.loop-entry.bad goes)
