-- What the getters of the matches give is what stands in the rows.
use Rattle.std.proofs.Common.{◌≡◌, ◌∙◌, List, [], map, Option, Some, None, length, refl, sym, ap, subst, codes, if◌then◌else◌}
use Rattle.std.specs.Prelude.{find, option_map, option_and_then, unwrap_or, is_some, Bool, true, false}
use Rattle.std.specs.Option.{option_map_or}
use Rattle.std.specs.Str.{bytes_eq}
use Rattle.std.specs.Borrow.{Bor}
use Rattle.std.proofs.lemmas.List.{length-map}
use Rattle.clap.specs.Takes.{is_given}
use Rattle.clap.specs.Facts.{Entry, explicit_source}
use Rattle.clap.specs.Matches.{first_value, matched_of, raw_values}
use Rattle.clap.specs.Walk.{Row, Text, first_of, row_of, rows_of}
use Rattle.clap.specs.declared.parser.matches.Found.{Found}
use Rattle.clap.specs.declared.parser.matches.MatchedArg.{MatchedArg}
use Rattle.clap.specs.declared.parser.matches.ValueSource.{ValueSource}
use Rattle.clap.specs.declared.parser.matches.ValueSource.TheVariants.{DefaultValue, CommandLine}
use Rattle.clap.proofs.WalkLemmas.{find_row, first_value-rows, raw_values-rows}
use Rattle.fg_base.specs.declared.refusal.Opt.{Opt}
use Rattle.fg_base.specs.Options.{option_name}
use Rattle.fg_words.specs.Reading.{drives_in, value_of}

-- where the first value came from
abbrev source_in : Found → Text → Option ValueSource
source_in found id = option_and_then (λ (matched : MatchedArg). matched.source) (matched_of found id)

-- whether the words have an argument, by where its first value came from, and whether there is a row of it
abbrev given_by : Option ValueSource → Bool → Bool
given_by None row = row
given_by (Some DefaultValue) row = false
given_by (Some CommandLine) row = true

by_source : (source : Option ValueSource) → explicit_source source ≡ given_by source true
by_source None = refl
by_source (Some DefaultValue) = refl
by_source (Some CommandLine) = refl

at_entry : (entry : Option Entry) → option_map_or (λ (r : Row). explicit_source r.source) (option_map row_of entry) false ≡
    given_by (option_and_then (λ (matched : MatchedArg). matched.source) (option_map (λ e. e.1) entry)) (is_some (option_map (λ e. e.1) entry))
at_entry None = refl
at_entry (Some entry) = by_source entry.1.source

pub given_is : (found : Found) (id : Text) (source : Option ValueSource) → source ≡ source_in found id →
    given_by source (is_some (matched_of found id)) ≡ is_given id (rows_of found)
given_is found id source is =
    let entry : Option Entry = find (λ (e : Entry). bytes_eq e.0.now id) found.entries.items in
    ap (λ source. given_by source (is_some (matched_of found id))) is ∙ sym (at_entry entry)
    ∙ ap (λ (row : Option Row). option_map_or (λ (r : Row). explicit_source r.source) row false) (sym (find_row found.entries.items id))

-- an option that the words have has its first value
pub value_there : (found : Found) (option : Opt) (name : Text) → name ≡ option_name option → is_given name (rows_of found) ≡ true →
    first_value found name ≡ value_of option (rows_of found)
value_there found option name named given =
    let rows = rows_of found in
    let V : Text → Type 0 = λ name. is_given name rows ≡ true → first_value found name ≡ value_of option rows in
    subst V (sym named) (λ given.
    first_value-rows found (option_name option) ∙ ap (λ (given : Bool). if given then first_of (option_name option) rows else None) (sym given)) given

-- the drives, by the values of their argument
pub drives_are : (found : Found) (names : Option (List Text)) → names ≡ option_map raw_values (matched_of found (codes "drive")) → unwrap_or names [] ≡ drives_in (rows_of found)
drives_are found names is = ap (λ names. unwrap_or names []) (is ∙ raw_values-rows found (codes "drive"))

pub drive_count : (found : Found) (names : List (Bor Text)) → Some (map (λ name. name.now) names) ≡ option_map raw_values (matched_of found (codes "drive")) →
    length names ≡ length (drives_in (rows_of found))
drive_count found names is =
    sym (length-map names (λ name. name.now)) ∙ ap (λ (names : List Text). length names) (drives_are found (Some (map (λ name. name.now) names)) is)

pub no_drives : (found : Found) → None ≡ option_map raw_values (matched_of found (codes "drive")) → [] ≡ drives_in (rows_of found)
no_drives found is = drives_are found None is
