-- Lists that are spelled in the bytes of a section are cut out as they were.
use Rattle.std.proofs.Common.{◌≡◌, ℕ, suc, ◌+◌, ◌*◌, ◌<◌, Bool, true, false, List, [], ◌∷◌, ◌++◌, length, take, drop, get_or, map, sum, refl, sym, ap, ◌∙◌, append_assoc, arith, drop_at}
use Rattle.std.specs.Prelude.{All}
use Rattle.std.specs.List.{flat_map, range_with_len}
use Rattle.std.proofs.lemmas.Grind.{flat_map-append}
use Rattle.std.proofs.lemmas.List.{drop-drop, drop_more, ext_get_or, get_or-map, length-append, take-append-drop, take-map}
use Rattle.std.proofs.lemmas.List.Elements.{All-get_or, All-head, All-tail}
use Rattle.std.proofs.lemmas.List.FromFn.{get_or-map-range_with_len, length-map-range_with_len}
use Rattle.std.proofs.lemmas.List.Sums.{sum_by-cons}
use Rattle.byteorder.specs.Endian.{little_bytes, little_number}
use Rattle.byteorder.specs.Numbers.{little_number-reads_back}
use Rattle.fg_base.specs.declared.plain.Entry.{Entry}
use Rattle.fg_image.specs.Lists.{entries_at, entry_at}
use Rattle.fg_index.specs.ImageIndex.{entry_bytes}
use Rattle.fg_model.specs.Graph.{IsEntryOf}
use Rattle.fg_stripe.specs.Label.{number_at}
use Rattle.fg_image.specs.Made.{spelled_entry, spelled_lists}

-- the degrees of lists
abbrev pub degrees_of : List (List Entry) → List ℕ
degrees_of rows = map length rows

-- each entry has its bytes
pub length-bytes_of : (weighted : Bool) (entry : Entry) → length (spelled_entry weighted entry) ≡ entry_bytes weighted
length-bytes_of true entry = refl
length-bytes_of false entry = refl

pub length-entries : (weighted : Bool) (entries : List Entry) → length (flat_map (spelled_entry weighted) entries) ≡ length entries * entry_bytes weighted
length-entries weighted [] = omega arith
length-entries weighted (entry ∷ entries) =
    let size = entry_bytes weighted in
    let more : suc (length entries) * size ≡ size + length entries * size = omega arith in
    length-append (spelled_entry weighted entry) (flat_map (spelled_entry weighted) entries)
    ∙ omega (arith, length-bytes_of weighted entry, length-entries weighted entries, more)

pub length-section : (weighted : Bool) (rows : List (List Entry)) → length (spelled_lists weighted rows) ≡ sum (degrees_of rows) * entry_bytes weighted
length-section weighted [] = omega arith
length-section weighted (row ∷ rows) =
    let size = entry_bytes weighted in
    let all = sum_by-cons (λ (n : ℕ). n) (length row) (degrees_of rows) in
    let more : sum (degrees_of (row ∷ rows)) * size ≡ length row * size + sum (degrees_of rows) * size = ap (λ (n : ℕ). n * size) all ∙ omega arith in
    length-append (flat_map (spelled_entry weighted) row) (spelled_lists weighted rows)
    ∙ omega (arith, length-entries weighted row, length-section weighted rows, more)

-- an entry is read back where its bytes stand
entry_back : (weighted : Bool) (bytes : List ℕ) (place : ℕ) (entry : Entry) (rest : List ℕ) → IsEntryOf weighted entry
    → drop place bytes ≡ spelled_entry weighted entry ++ rest → entry_at weighted bytes place ≡ entry
entry_back true bytes place entry rest is there =
    let target : number_at bytes place ≡ entry.target =
    ap (little_number 4) there ∙ little_number-reads_back 4 entry.target (little_bytes 4 entry.weight ++ rest) is.target_fits in
    let behind : drop (place + 4) bytes ≡ little_bytes 4 entry.weight ++ rest = sym (drop-drop 4 place bytes) ∙ ap (drop 4) there in
    let weight : number_at bytes (place + 4) ≡ entry.weight =
    ap (little_number 4) behind ∙ little_number-reads_back 4 entry.weight rest is.weight_fits in
    made _ _ entry target weight
  where
    made : (t w : ℕ) (e : Entry) → t ≡ e.target → w ≡ e.weight → (let one : Entry = record { target = t; weight = w } in one ≡ e)
    made t w e p q = rw (p, q) refl
entry_back false bytes place entry rest is there =
    let target : number_at bytes place ≡ entry.target =
    ap (little_number 4) there ∙ little_number-reads_back 4 entry.target rest is.target_fits in
    made _ _ entry target (sym (is.weight_plain refl))
  where
    made : (t w : ℕ) (e : Entry) → t ≡ e.target → w ≡ e.weight → (let one : Entry = record { target = t; weight = w } in one ≡ e)
    made t w e p q = rw (p, q) refl

-- a list is read back where its bytes stand
entries_back : (weighted : Bool) (bytes : List ℕ) (place : ℕ) (entries : List Entry) (rest : List ℕ) → All (IsEntryOf weighted) entries
    → drop place bytes ≡ flat_map (spelled_entry weighted) entries ++ rest → entries_at weighted bytes place (length entries) ≡ entries
entries_back weighted bytes place [] rest are there = refl
entries_back weighted bytes place (entry ∷ entries) rest are there =
    let size = entry_bytes weighted in
    let others = flat_map (spelled_entry weighted) entries in
    let split : drop place bytes ≡ spelled_entry weighted entry ++ (others ++ rest) = there ∙ append_assoc (spelled_entry weighted entry) others rest in
    let behind : drop (place + size) bytes ≡ others ++ rest =
    sym (drop-drop size place bytes) ∙ ap (drop size) split ∙ drop_at (spelled_entry weighted entry) (others ++ rest) size (length-bytes_of weighted entry) in
    ap (λ (first : Entry). first ∷ entries_at weighted bytes (place + size) (length entries)) (entry_back weighted bytes place entry (others ++ rest) (All-head (IsEntryOf weighted) entry entries are) split)
    ∙ ap (λ (tail : List Entry). entry ∷ tail) (entries_back weighted bytes (place + size) entries rest (All-tail (IsEntryOf weighted) entry entries are) behind)

module _ (weighted : Bool) (bytes : List ℕ) (place : ℕ) (rows : List (List Entry)) (rest : List ℕ) (are : All (λ entries. All (IsEntryOf weighted) entries) rows)
    (there : drop place bytes ≡ spelled_lists weighted rows ++ rest) where
  -- the list of v is read back
  row_back : (v : ℕ) → v < length rows
      → entries_at weighted bytes (place + sum (take v (degrees_of rows)) * entry_bytes weighted) (get_or (degrees_of rows) v 0) ≡ get_or rows v []
  row_back v within =
      let size = entry_bytes weighted in
      let row = get_or rows v [] in
      let front = spelled_lists weighted (take v rows) in
      let here = flat_map (spelled_entry weighted) row in
      let others = spelled_lists weighted (drop (v + 1) rows) in
      let parts : rows ≡ take v rows ++ row ∷ drop (v + 1) rows =
      sym (take-append-drop v rows) ∙ ap (λ (l : List (List Entry)). take v rows ++ l) (drop_more rows v [] within) in
      let cut : spelled_lists weighted rows ≡ front ++ (here ++ others) =
      ap (spelled_lists weighted) parts ∙ flat_map-append (flat_map (spelled_entry weighted)) (take v rows) (row ∷ drop (v + 1) rows) in
      let split : spelled_lists weighted rows ++ rest ≡ front ++ (here ++ (others ++ rest)) =
      ap (λ (l : List ℕ). l ++ rest) cut ∙ append_assoc front (here ++ others) rest ∙ ap (λ (l : List ℕ). front ++ l) (append_assoc here others rest) in
      let below : length front ≡ sum (take v (degrees_of rows)) * size =
      length-section weighted (take v rows) ∙ ap (λ (l : List ℕ). sum l * size) (sym (take-map length v rows)) in
      let offset = sum (take v (degrees_of rows)) * size in
      let stands : drop (place + offset) bytes ≡ here ++ (others ++ rest) =
      sym (drop-drop offset place bytes) ∙ ap (drop offset) (there ∙ split) ∙ drop_at front (here ++ (others ++ rest)) offset below in
      let count : get_or (degrees_of rows) v 0 ≡ length row = get_or-map length rows v [] 0 within in
      ap (entries_at weighted bytes (place + offset)) count
      ∙ entries_back weighted bytes (place + offset) row (others ++ rest) (All-get_or (λ entries. All (IsEntryOf weighted) entries) rows v [] within are) stands

  -- all lists are read back
  pub rows_back : map (λ v. entries_at weighted bytes (place + sum (take v (degrees_of rows)) * entry_bytes weighted) (get_or (degrees_of rows) v 0)) (range_with_len 0 (length rows)) ≡ rows
  rows_back =
      let list = λ (v : ℕ). entries_at weighted bytes (place + sum (take v (degrees_of rows)) * entry_bytes weighted) (get_or (degrees_of rows) v 0) in
      let count = length-map-range_with_len list 0 (length rows) in
      ext_get_or [] _ rows count (λ i h. get_or-map-range_with_len list 0 (length rows) i i [] (omega (arith, count)) (omega arith) ∙ row_back i (omega (arith, count)))
