-- Jobs that are run one after the other.
use Rattle.std.proofs.Common.{◌≡◌, ℕ, ◌+◌, ◌^◌, ◌<◌, ◌≤◌, Bool, false, Option, None, List, [], ◌∷◌, ◌++◌, length, get_or, take, drop, refl, subst, sym, ap, ◌∙◌, arith, append-nil}
use Rattle.std.specs.Prelude.{All, filter, not}
use Rattle.std.proofs.lemmas.Grind.{flat_map-append}
use Rattle.std.proofs.lemmas.List.{drop_at, drop_more, length-append, length-map, take-append-drop, take_at, take_more}
use Rattle.std.proofs.lemmas.List.Elements.{All-drop, All-nil, All-take}
use Rattle.std.proofs.lemmas.List.Filters.{length-filter_both}
use Rattle.std.proofs.lemmas.List.Sums.{sum_by-append, sum_by-cons}
use Rattle.fg_base.specs.declared.plain.BadEdge.{BadEdge}
use Rattle.fg_base.specs.declared.plain.Entry.{Entry}
use Rattle.fg_batch.specs.Outbox.{HasRoom, Sending, Sends}
use Rattle.fg_batch.proofs.SentLaws.{sends-more}
use Rattle.fg_edges.specs.Segment.{segment_entries}
use Rattle.fg_image.proofs.EntryLaws.{length-entries_at}
use Rattle.fg_model.specs.declared.mail.Mail.{Mail}
use Rattle.fg_model.specs.Iteration.{is_bad}
use Rattle.fg_model.specs.VertexRun.{message_along}
use Rattle.fg_part.specs.declared.part_map.PartMap.{PartMap}
use Rattle.fg_task.specs.declared.job.Job.{Job}
use Rattle.fg_task.specs.declared.job.Step.{Step}
use Rattle.fg_task.specs.declared.job.Step.TheVariants.{Done}
use Rattle.fg_task.specs.Jobs.{IsJob, Work, bad_in, edges_in, entry_count, leads, messages_along, messages_in}
use Rattle.fg_task.specs.Least.{IsLeastBad, Joins}
use Rattle.fg_task.specs.Running.{CanRun, HasRun, edges_of, entries_of, messages_of}
use Rattle.fg_task.proofs.LeastLaws.{first-is_least}

-- what holds of all of two lists holds of all of each
pub All-front : {X : Type 0} (P : X → Type 0) (xs ys : List X) → All P (xs ++ ys) → All P xs
All-front P xs ys all = subst (All P) (take_at xs ys (length xs) refl) (All-take P (length xs) (xs ++ ys) all)

pub All-back : {X : Type 0} (P : X → Type 0) (xs ys : List X) → All P (xs ++ ys) → All P ys
All-back P xs ys all = subst (All P) (drop_at xs ys (length xs) refl) (All-drop P (length xs) (xs ++ ys) all)

-- room for many is room for fewer
pub room-fewer : (sending : Sending) (few many : ℕ) → few ≤ many → HasRoom many sending → HasRoom few sending
room-fewer sending few many fewer room l below = let r = room l below in omega (arith, r, fewer)

pub sends-none : (sending : Sending) → Sends sending sending []
sends-none sending = record { same_map = refl; same_count = refl; more = λ l below. sym (append-nil _) }

-- a job sends at most one message for each of its entries
few-messages : (n : ℕ) (entries : List Entry) → length (filter (leads n) entries) ≤ length entries
few-messages n entries = let both = length-filter_both (leads n) (λ entry. is_bad_entry n entry) (λ entry. other n entry) entries in omega (arith, both)
  where
    is_bad_entry : ℕ → Entry → Bool
    is_bad_entry n entry = not (leads n entry)

    other : (n : ℕ) (entry : Entry) → is_bad_entry n entry ≡ not (leads n entry)
    other n entry = refl

pub few_along : (work : Work) (job : Job) (entries : List Entry) → length (messages_along work job entries) ≤ length entries
few_along work job entries =
    let same = length-map (filter (leads work.n) entries) (message_along work.rules job.carry job.dir) in
    let few = few-messages work.n entries in
    omega (arith, same, few)

pub messages_few : (work : Work) (bytes : List ℕ) (job : Job) → length (messages_in work bytes job) ≤ entry_count work job
unfolding messages_in
messages_few work bytes job =
    let entries = segment_entries work.weighted bytes job.segment in
    let all = length-entries_at work.weighted bytes job.segment.from (entry_count work job) in
    let few = few_along work job entries in
    omega (arith, all, few)

pub all_messages_few : (work : Work) (bytes : List ℕ) (jobs : List Job) → length (messages_of work bytes jobs) ≤ entries_of work jobs
all_messages_few work bytes [] = omega arith
all_messages_few work bytes (job ∷ jobs) =
    let one = messages_few work bytes job in
    let rest = all_messages_few work bytes jobs in
    let both : length (messages_of work bytes (job ∷ jobs)) ≡ length (messages_in work bytes job) + length (messages_of work bytes jobs)
    = length-append (messages_in work bytes job) (messages_of work bytes jobs) in
    let all : entries_of work (job ∷ jobs) ≡ entry_count work job + entries_of work jobs = sum_by-cons (entry_count work) job jobs in
    omega (arith, one, rest, both, all)

entries-one : (work : Work) (job : Job) → entries_of work (job ∷ []) ≡ entry_count work job
entries-one work job = sum_by-cons (entry_count work) job [] ∙ (let same : entry_count work job + 0 ≡ entry_count work job = omega arith in same)

-- what the stored function answered is told by its one variant
abbrev bad_of : Step → Option BadEdge
bad_of (Done bad) = bad

pub same_bad : (one other : Option BadEdge) → Done one ≡ Done other → one ≡ other
same_bad one other same = ap bad_of same

-- the first bad entry of a job is its least
one-least : (work : Work) (bytes : List ℕ) (job : Job) → IsLeastBad work.n (edges_in work bytes job) (bad_in work bytes job)
unfolding edges_in
one-least work bytes job = first-is_least work.n job.vertex job.dir job.segment.place (segment_entries work.weighted bytes job.segment)

module _ (work : Work) (bytes : List ℕ) where
  pub has_run-none : (outbox : Sending) (counted : ℕ) → HasRun work bytes [] outbox outbox counted counted None
  has_run-none outbox counted = record {
    sent = sends-none outbox;
    room = λ k room. room-fewer outbox k (k + 0) (omega arith) room;
    entries = omega arith;
    least = All-nil (λ edge. is_bad work.n edge ≡ false);
  }

  -- a job was run by the stored function
  pub has_run-one : (job : Job) (old new : Sending) (counted counted_then : ℕ) → Sends old new (messages_in work bytes job)
      → ((k : ℕ) → HasRoom (k + entry_count work job) old → HasRoom k new) → counted_then ≡ counted + length (messages_in work bytes job)
      → HasRun work bytes (job ∷ []) old new counted counted_then (bad_in work bytes job)
  has_run-one job old new counted counted_then sent room entries = record {
    sent = subst (Sends old new) (sym (append-nil (messages_in work bytes job))) sent;
    room = λ k enough. room k (room-fewer old (k + entry_count work job) (k + entries_of work (job ∷ []))
        (let all = entries-one work job in omega (arith, all)) enough);
    entries = entries ∙ ap (λ (mails : List Mail). counted + length mails) (sym (append-nil (messages_in work bytes job)));
    least = subst (λ (edges : List BadEdge). IsLeastBad work.n edges (bad_in work bytes job)) (sym (append-nil (edges_in work bytes job))) (one-least work bytes job);
  }

  pub has_run-more : (first next : List Job) (old between new : Sending) (counted counted_between counted_then : ℕ) (one other both : Option BadEdge)
      → HasRun work bytes first old between counted counted_between one → HasRun work bytes next between new counted_between counted_then other
      → Joins one other both → HasRun work bytes (first ++ next) old new counted counted_then both
  has_run-more first next old between new counted counted_between counted_then one other both early late joins = record {
    sent = subst (Sends old new) (sym (flat_map-append (messages_in work bytes) first next))
        (sends-more old between new (messages_of work bytes first) (messages_of work bytes next) early.sent late.sent);
    room = λ k enough. late.room k (early.room (k + entries_of work next) (room-fewer old (k + entries_of work next + entries_of work first)
        (k + entries_of work (first ++ next)) (let all = sum_by-append (entry_count work) first next in omega (arith, all)) enough));
    entries =
        let all = ap (λ (mails : List Mail). length mails) (flat_map-append (messages_in work bytes) first next) in
        let parts = length-append (messages_of work bytes first) (messages_of work bytes next) in
        omega (arith, all, parts, early.entries, late.entries);
    least = subst (λ (edges : List BadEdge). IsLeastBad work.n edges both) (sym (flat_map-append (edges_in work bytes) first next))
        (joins work.n (edges_of work bytes first) (edges_of work bytes next) early.least late.least);
  }

  -- what can be run can be run part by part
  pub can_run-first : (first next : List Job) (outbox : Sending) (counted : ℕ) → CanRun work bytes (first ++ next) outbox counted → CanRun work bytes first outbox counted
  can_run-first first next outbox counted can =
      let all = sum_by-append (entry_count work) first next in
      record {
        page = can.page;
        are_jobs = All-front (IsJob work) first next can.are_jobs;
        vertices = can.vertices;
        room = room-fewer outbox (entries_of work first) (entries_of work (first ++ next)) (omega (arith, all)) can.room;
        few = let few = can.few in omega (arith, all, few);
      }

  pub can_run-next : (first next : List Job) (old new : Sending) (counted counted_then : ℕ) (bad : Option BadEdge)
      → CanRun work bytes (first ++ next) old counted → HasRun work bytes first old new counted counted_then bad → CanRun work bytes next new counted_then
  can_run-next first next old new counted counted_then bad can ran =
      let all = sum_by-append (entry_count work) first next in
      let sent = all_messages_few work bytes first in
      record {
        page = can.page;
        are_jobs = All-back (IsJob work) first next can.are_jobs;
        vertices = ap (λ (map : PartMap). map.n) ran.sent.same_map ∙ can.vertices;
        room = ran.room (entries_of work next) (room-fewer old (entries_of work next + entries_of work first) (entries_of work (first ++ next)) (omega (arith, all)) can.room);
        few = let few = can.few in let rose = ran.entries in omega (arith, all, few, rose, sent);
      }

  -- going over jobs: the next one can be run, and was run
  module _ (jobs : List Job) (at : ℕ) (d : Job) (below : at < length jobs) (old now : Sending) (counted counted_now : ℕ) (bad : Option BadEdge)
      (ran : HasRun work bytes (take at jobs) old now counted counted_now bad) where
    pub can_run-step : CanRun work bytes jobs old counted → CanRun work bytes (get_or jobs at d ∷ []) now counted_now
    can_run-step can =
        can_run-first (get_or jobs at d ∷ []) (drop (at + 1) jobs) now counted_now
        (can_run-next (take at jobs) (get_or jobs at d ∷ drop (at + 1) jobs) old now counted counted_now bad
        (subst (λ (all : List Job). CanRun work bytes all old counted)
        (sym (take-append-drop at jobs) ∙ ap (λ (rest : List Job). take at jobs ++ rest) (drop_more jobs at d below)) can) ran)

    pub has_run-step : (new : Sending) (counted_then : ℕ) (other both : Option BadEdge) → HasRun work bytes (get_or jobs at d ∷ []) now new counted_now counted_then other
        → Joins bad other both → HasRun work bytes (take (at + 1) jobs) old new counted counted_then both
    has_run-step new counted_then other both next joins =
        subst (λ (some : List Job). HasRun work bytes some old new counted counted_then both) (sym (take_more jobs at d below))
        (has_run-more (take at jobs) (get_or jobs at d ∷ []) old now new counted counted_now counted_then bad other both ran next joins)

  -- of one job
  pub one-room : (job : Job) (outbox : Sending) (counted : ℕ) → CanRun work bytes (job ∷ []) outbox counted → HasRoom (entry_count work job) outbox
  one-room job outbox counted can =
      room-fewer outbox (entry_count work job) (entries_of work (job ∷ [])) (let all = entries-one work job in omega (arith, all)) can.room

  pub one-few : (job : Job) (outbox : Sending) (counted : ℕ) → CanRun work bytes (job ∷ []) outbox counted → counted + entry_count work job < 2 ^ 64
  one-few job outbox counted can = let all = entries-one work job in let few = can.few in omega (arith, all, few)
