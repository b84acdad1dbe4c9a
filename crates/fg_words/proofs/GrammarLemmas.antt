-- What `clap` promises of the stated command: its matches and its faults are exact.
use Rattle.std.proofs.Common.{◌≡◌, Bool, true, false, Err, List, [], ◌∷◌, if◌then◌else◌, inl, inr, refl, sym, ap, subst, arith}
use Rattle.clap.specs.Walk.{Text, is_empty, rows_of}
use Rattle.clap.specs.Simple.{App, HasMatchesOf, is_simple}
use Rattle.clap.specs.Faults.{fault_of, is_simple_and_free}
use Rattle.clap.specs.Kinds.{HasKind, IsAmong, Kinds}
use Rattle.clap.specs.Matches.{found_of}
use Rattle.clap.specs.Values.{kind_of}
use Rattle.clap.specs.declared.error.Error.{Error}
use Rattle.clap.specs.declared.error.kind.ErrorKind.{ErrorKind}
use Rattle.clap.specs.declared.parser.matches.ArgMatches.{ArgMatches}
use Rattle.fg_base.specs.declared.refusal.WordFault.TheVariants.{Parse}
use Rattle.fg_words.specs.declared.jobs.JobFault.{JobFault}
use Rattle.fg_words.specs.declared.jobs.JobFault.TheVariants.{Memory, Words}
use Rattle.fg_words.specs.Grammar.{grammar, is_read, read}
use Rattle.fg_words.specs.Reading.{IsReading, is_memory, refusal_by}

grammar_is_simple : is_simple grammar ≡ true
unfolding grammar
grammar_is_simple = refl

grammar_is_free : is_simple_and_free grammar ≡ true
unfolding grammar
grammar_is_free = refl

-- words that `clap` takes are read
pub read_by : (app : App) (words : List Text) (found : ArgMatches) → app ≡ grammar → (is_simple_and_free app ≡ true → fault_of app words ≡ []) →
    HasMatchesOf app words found → (is_read words ≡ true) × (rows_of (found_of found) ≡ read words)
unfolding is_read read
read_by app words found is faults matches =
    let F : App → Type 0 = λ app. is_simple_and_free app ≡ true → fault_of app words ≡ [] in
    let M : App → Type 0 = λ app. HasMatchesOf app words found in
    (ap is_empty (subst F is faults grammar_is_free), (subst M is matches grammar_is_simple).0)

some_kind : (kind : ErrorKind) (kinds : Kinds) → IsAmong kind kinds → is_empty kinds ≡ false
some_kind kind [] among = absurd among
some_kind kind (first ∷ rest) among = grind arith

unread : (kind : ErrorKind) (words : List Text) → IsAmong kind (fault_of grammar words) → is_read words ≡ false
unfolding is_read
unread kind words among = some_kind kind (fault_of grammar words) among

refused_as : (memory : Bool) (words : List Text) → is_read words ≡ false → IsReading words (Err (if memory then Memory else Words Parse))
refused_as true words not_read = tt
refused_as false words not_read = (not_read, refl)

-- words that it refuses aren't, unless memory was wanting
pub refused_by : (app : App) (words : List Text) (error : Error) (fault : JobFault) → app ≡ grammar →
    (is_simple_and_free app ≡ true → HasKind (fault_of app words) error) → fault ≡ refusal_by (kind_of error) → IsReading words (Err fault)
refused_by app words error fault is kinds named =
    let K : App → Type 0 = λ app. is_simple_and_free app ≡ true → HasKind (fault_of app words) error in
    let R : JobFault → Type 0 = λ fault. IsReading words (Err fault) in
    let P : ErrorKind → Type 0 = λ kind. IsReading words (Err (refusal_by kind)) in
    subst R (sym named) (elim (subst K is kinds grammar_is_free) [
      | inl memory ↦ subst P (sym memory) tt
      | inr among ↦ refused_as (is_memory (kind_of error)) words (unread (kind_of error) words among)
    ])
