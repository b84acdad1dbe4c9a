use Rattle.std.proofs.Common.{◌≡◌, List, length, replicate, take, ap}
use Rattle.std.proofs.lemmas.List.{length-replicate, take-replicate}
use Rattle.fg_set.specs.Entry.{blank}
use Rattle.fg_set.specs.declared.entry.Entry.{Entry}
use Rattle.fg_set.proofs.SoundLemmas.{sound-new}
use Rattle.fg_set.proofs.directory.Directory.new.Goals as goal

pub invariant_of-result : goal.invariant_of-result
invariant_of-result c =
    let count : length c.blank_entries.result ≡ 16 = rw c.blank_entries.ensures (length-replicate 16 blank) in
    let used : take c.args.ways c.blank_entries.result ≡ replicate c.args.ways blank =
    rw c.blank_entries.ensures (take-replicate c.args.ways 16 blank c.requires.few_ways) in
    record {
      room = count;
      few_ways = c.requires.few_ways;
      sound = rw used (sound-new c.args.ways c.args.workers c.requires.some_way c.requires.few_ways c.requires.few_workers);
    }

pub returns-clause-new : goal.returns-clause-new
returns-clause-new c =
    rw c.blank_entries.ensures (ap (λ (entries : List Entry). record { entries = entries; hand = 0; workers = c.args.workers }) (take-replicate c.args.ways 16 blank c.requires.few_ways))

pub returns-clause-sound : goal.returns-clause-sound
returns-clause-sound c =
    let used : take c.args.ways c.blank_entries.result ≡ replicate c.args.ways blank =
    rw c.blank_entries.ensures (take-replicate c.args.ways 16 blank c.requires.few_ways) in
    rw used (sound-new c.args.ways c.args.workers c.requires.some_way c.requires.few_ways c.requires.few_workers)
