use Rattle.std.proofs.Common.{length, map, string_bytes, subst}
use Rattle.clap.specs.Words.{found_of, rows_of}
use Rattle.fg_words.specs.Jobs.{HasDrives}
use Rattle.fg_words.specs.Words.{names_of}
use Rattle.fg_words.proofs.JobLaws.{accepted_by, accepted_fits, named_drives}
use Rattle.fg_words.proofs.words.job.Goals as goal

pub returns-in-Ok-judge-clause-fits : goal.returns-in-Ok-judge-clause-fits
returns-in-Ok-judge-clause-fits c =
    let words = map string_bytes c.as_slice.result.now in
    accepted_fits words c.in-Ok-judge.job (accepted_by words (rows_of (found_of c.in-Ok.found)) c.in-Ok-judge.job c.in-Ok.ensures c.in-Ok-judge.ensures)

pub returns-in-Ok-judge-clause-drives : goal.returns-in-Ok-judge-clause-drives
returns-in-Ok-judge-clause-drives c =
    let words = map string_bytes c.as_slice.result.now in
    let accepted = accepted_by words (rows_of (found_of c.in-Ok.found)) c.in-Ok-judge.job c.in-Ok.ensures c.in-Ok-judge.ensures in
    subst (λ items. HasDrives c.in-Ok-judge.job (length (names_of (map string_bytes items)))) c.as_slice.ensures.value
    (named_drives words c.in-Ok-judge.job accepted)
