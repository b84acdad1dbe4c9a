-- What an index's bytes give, by their first fault.
use Rattle.std.proofs.Common.{◌≡◌, ◌∙◌, ℕ, ◌+◌, ◌<◌, ◌≤◌, true, false, List, length, drop, Ok, Err, refl, sym, ap, ltb}
use Rattle.std.proofs.lemmas.Bool.{lt-ltb, le-ltb}
use Rattle.fg_base.specs.declared.plain.Dir.TheVariants.{Out, In}
use Rattle.fg_index.specs.declared.direction.DirectionFault.{DirectionFault}
use Rattle.fg_index.specs.declared.direction.DirectionFault.TheVariants.{Memory, At}
use Rattle.fg_index.specs.Direction.{direction_len, direction_at}
use Rattle.fg_index.specs.DirectionFault.{IsAt, index_fault}
use Rattle.fg_index.specs.ImageIndex.{placed, both, ended, index_at, IsFaultOf}

index_is : (n outs ins : ℕ) (bytes : List ℕ) → index_at n outs ins bytes ≡
    ended (direction_len n bytes + direction_len n (drop (direction_len n bytes) bytes)) bytes
    (both (placed Out 0 (direction_at n outs bytes)) (placed In (direction_len n bytes) (direction_at n ins (drop (direction_len n bytes) bytes))))
unfolding index_at
index_is n outs ins bytes = refl

pub out_fault : (n outs ins : ℕ) (bytes : List ℕ) (fault : DirectionFault) → IsAt (direction_at n outs bytes) fault →
    IsFaultOf (index_at n outs ins bytes) (index_fault Out 0 fault)
out_fault n outs ins bytes Memory is = tt
out_fault n outs ins bytes (At place) is =
    let middle = direction_len n bytes in
    index_is n outs ins bytes
    ∙ ap (λ found. ended (middle + direction_len n (drop middle bytes)) bytes (both (placed Out 0 found) (placed In middle (direction_at n ins (drop middle bytes))))) is

-- where the out-lists' direction was found
after_out : (n outs ins : ℕ) (bytes first : List ℕ) → direction_at n outs bytes ≡ Ok first → index_at n outs ins bytes ≡
    ended (direction_len n bytes + direction_len n (drop (direction_len n bytes) bytes)) bytes
    (both (Ok first) (placed In (direction_len n bytes) (direction_at n ins (drop (direction_len n bytes) bytes))))
after_out n outs ins bytes first is =
    let middle = direction_len n bytes in
    index_is n outs ins bytes
    ∙ ap (λ found. ended (middle + direction_len n (drop middle bytes)) bytes (both (placed Out 0 found) (placed In middle (direction_at n ins (drop middle bytes))))) is

pub in_fault : (n outs ins middle : ℕ) (bytes first : List ℕ) (fault : DirectionFault) → direction_at n outs bytes ≡ Ok first → middle ≡ direction_len n bytes →
    IsAt (direction_at n ins (drop middle bytes)) fault → IsFaultOf (index_at n outs ins bytes) (index_fault In middle fault)
in_fault n outs ins middle bytes first Memory is_first e is = tt
in_fault n outs ins middle bytes first (At place) is_first e is =
    let there = direction_len n bytes in
    let found : direction_at n ins (drop there bytes) ≡ Err place = ap (λ k. direction_at n ins (drop k bytes)) (sym e) ∙ is in
    after_out n outs ins bytes first is_first
    ∙ ap (λ second. ended (there + direction_len n (drop there bytes)) bytes (both (Ok first) (placed In there second))) found
    ∙ ap (λ k. Err (In, k + place)) (sym e)

-- where both directions were found
after_both : (n outs ins middle len : ℕ) (bytes first second : List ℕ) → direction_at n outs bytes ≡ Ok first → middle ≡ direction_len n bytes →
    direction_at n ins (drop middle bytes) ≡ Ok second → len ≡ direction_len n (drop middle bytes) →
    index_at n outs ins bytes ≡ ended (middle + len) bytes (Ok (first, second))
after_both n outs ins middle len bytes first second is_first e is_second len_is =
    let there = direction_len n bytes in
    let found : direction_at n ins (drop there bytes) ≡ Ok second = ap (λ k. direction_at n ins (drop k bytes)) (sym e) ∙ is_second in
    let end : there + direction_len n (drop there bytes) ≡ middle + len =
    ap (λ k. k + direction_len n (drop k bytes)) (sym e) ∙ ap (λ k. middle + k) (sym len_is) in
    after_out n outs ins bytes first is_first
    ∙ ap (λ found. ended (there + direction_len n (drop there bytes)) bytes (both (Ok first) (placed In there found))) found
    ∙ ap (λ k. ended k bytes (Ok (first, second))) end

pub left_over : (n outs ins middle len : ℕ) (bytes first second : List ℕ) → direction_at n outs bytes ≡ Ok first → middle ≡ direction_len n bytes →
    direction_at n ins (drop middle bytes) ≡ Ok second → len ≡ direction_len n (drop middle bytes) → middle + len < length bytes →
    index_at n outs ins bytes ≡ Err (In, middle + len)
left_over n outs ins middle len bytes first second is_first e is_second len_is more =
    let is : ltb (middle + len) (length bytes) ≡ true = lt-ltb (middle + len) (length bytes) more in
    let cut : ended (middle + len) bytes (Ok (first, second)) ≡ Err (In, middle + len) = rw is refl in
    after_both n outs ins middle len bytes first second is_first e is_second len_is ∙ cut

pub whole : (n outs ins middle len : ℕ) (bytes first second : List ℕ) → direction_at n outs bytes ≡ Ok first → middle ≡ direction_len n bytes →
    direction_at n ins (drop middle bytes) ≡ Ok second → len ≡ direction_len n (drop middle bytes) → length bytes ≤ middle + len →
    index_at n outs ins bytes ≡ Ok (first, second)
whole n outs ins middle len bytes first second is_first e is_second len_is all =
    let isnt : ltb (middle + len) (length bytes) ≡ false = le-ltb (middle + len) (length bytes) all in
    let kept : ended (middle + len) bytes (Ok (first, second)) ≡ Ok (first, second) = rw isnt refl in
    after_both n outs ins middle len bytes first second is_first e is_second len_is ∙ kept
