-- How many entries the jobs of a page have, beside those of all jobs.
use Rattle.std.proofs.Common.{◌≡◌, ℕ, ◌+◌, ◌≤◌, List, ◌++◌, length, ap, ◌∙◌, arith, refl}
use Rattle.std.specs.Prelude.{filter}
use Rattle.std.proofs.lemmas.List.Elements.{filter-append}
use Rattle.std.proofs.lemmas.List.Filters.{sum_by-filter_both}
use Rattle.std.proofs.lemmas.List.Sums.{sum_by-append}
use Rattle.fg_task.specs.declared.job.Job.{Job}
use Rattle.fg_task.specs.Jobs.{Work, entry_count, is_elsewhere, is_on}
use Rattle.fg_task.specs.Running.{entries_of, messages_of}
use Rattle.fg_task.proofs.RunLaws.{all_messages_few}

module _ (work : Work) (page : ℕ) (outs ins : List Job) where
  pub entries_on-both : entries_of work (filter (is_on page) (outs ++ ins)) ≡ entries_of work (filter (is_on page) outs) + entries_of work (filter (is_on page) ins)
  entries_on-both = ap (entries_of work) (filter-append (is_on page) outs ins) ∙ sum_by-append (entry_count work) (filter (is_on page) outs) (filter (is_on page) ins)

  -- the jobs on a page and those elsewhere are all jobs
  entries-parted : (jobs : List Job) → entries_of work (filter (is_on page) jobs) + entries_of work (filter (is_elsewhere page) jobs) ≡ entries_of work jobs
  entries-parted jobs = sum_by-filter_both (is_on page) (is_elsewhere page) (λ job. refl) (entry_count work) jobs

  pub entries_on-few : entries_of work (filter (is_on page) (outs ++ ins)) ≤ entries_of work (outs ++ ins)
  entries_on-few = let all = entries-parted (outs ++ ins) in omega (arith, all)

  -- what is counted and what may still be counted don't grow in sum
  pub counted-fewer : (bytes : List ℕ) (counted counted_then : ℕ) → counted_then ≡ counted + length (messages_of work bytes (filter (is_on page) (outs ++ ins)))
      → counted_then + entries_of work (filter (is_elsewhere page) outs ++ filter (is_elsewhere page) ins) ≤ counted + entries_of work (outs ++ ins)
  counted-fewer bytes counted counted_then rose =
      let all = entries-parted (outs ++ ins) in
      let sent = all_messages_few work bytes (filter (is_on page) (outs ++ ins)) in
      let same = ap (entries_of work) (filter-append (is_elsewhere page) outs ins) in
      omega (arith, all, sent, same, rose)
