-- The jobs of a page: those on out-lists, and behind them those on in-lists.
use Rattle.std.proofs.Common.{◌≡◌, ℕ, ◌+◌, ◌^◌, ◌<◌, Option, List, ◌++◌, length, subst, sym}
use Rattle.std.specs.Prelude.{All, filter}
use Rattle.std.proofs.lemmas.List.Elements.{All-append, All-filter, filter-append}
use Rattle.fg_base.specs.declared.plain.BadEdge.{BadEdge}
use Rattle.fg_batch.specs.Outbox.{HasRoom, Sending}
use Rattle.fg_task.specs.declared.job.Job.{Job}
use Rattle.fg_task.specs.Jobs.{IsJob, Work, is_on}
use Rattle.fg_task.specs.Least.{Joins}
use Rattle.fg_task.specs.Running.{CanRun, HasRun, entries_of}
use Rattle.fg_task.proofs.RunLaws.{has_run-more}

module _ (work : Work) (bytes : List ℕ) (page : ℕ) (outs ins : List Job) where
  abbrev on_outs : List Job
  on_outs = filter (is_on page) outs

  abbrev on_ins : List Job
  on_ins = filter (is_on page) ins

  pub block-can : (outbox : Sending) (counted : ℕ) → All (IsJob work) outs × All (IsJob work) ins → length bytes ≡ 4096 → outbox.map.n ≡ work.n
      → HasRoom (entries_of work (filter (is_on page) (outs ++ ins))) outbox → counted + entries_of work (filter (is_on page) (outs ++ ins)) < 2 ^ 64
      → CanRun work bytes (on_outs ++ on_ins) outbox counted
  block-can outbox counted are full vertices room few =
      subst (λ (jobs : List Job). CanRun work bytes jobs outbox counted) (filter-append (is_on page) outs ins) (record {
        page = full;
        are_jobs = All-filter (is_on page) (IsJob work) (outs ++ ins) (All-append (IsJob work) outs ins are.0 are.1);
        vertices = vertices;
        room = room;
        few = few;
      })

  pub block-ran : (old between new : Sending) (counted counted_between counted_then : ℕ) (one other both : Option BadEdge)
      → HasRun work bytes on_outs old between counted counted_between one → HasRun work bytes on_ins between new counted_between counted_then other
      → Joins one other both → HasRun work bytes (filter (is_on page) (outs ++ ins)) old new counted counted_then both
  block-ran old between new counted counted_between counted_then one other both early late joins =
      subst (λ (jobs : List Job). HasRun work bytes jobs old new counted counted_then both) (sym (filter-append (is_on page) outs ins))
      (has_run-more work bytes on_outs on_ins old between new counted counted_between counted_then one other both early late joins)
