-- What jobs of many pages stand for, by the bytes of each page.
use Rattle.std.specs.Prelude.{ℕ, List}
use Rattle.std.specs.List.{flat_map}
use Rattle.fg_base.specs.declared.plain.BadEdge.{BadEdge}
use Rattle.fg_model.specs.declared.mail.Mail.{Mail}
use Rattle.fg_task.specs.declared.job.Job.{Job}
use Rattle.fg_task.specs.Jobs.{Work, edges_in, messages_in}

-- what jobs send, one after another
unfoldable pub mails_by : Work → (ℕ → List ℕ) → List Job → List Mail
mails_by work bytes_of jobs = flat_map (λ (job : Job). messages_in work (bytes_of job.segment.page) job) jobs

-- all their entries, as edges
unfoldable pub edges_by : Work → (ℕ → List ℕ) → List Job → List BadEdge
edges_by work bytes_of jobs = flat_map (λ (job : Job). edges_in work (bytes_of job.segment.page) job) jobs
