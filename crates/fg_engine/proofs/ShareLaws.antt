-- Whose faults there were: their shares are of the cache's books.
use Rattle.std.proofs.Common.{◌≡◌, ◌++◌, ◌<◌, ◌-◌, ℕ, Option, None, Some, Result, Ok, Err, List, [], ◌∷◌, All, length, ap, arith, sym, subst}
use Rattle.std.specs.Prelude.{reverse}
use Rattle.std.proofs.lemmas.List.{get_or-reverse, length-reverse}
use Rattle.std.proofs.lemmas.List.Elements.{All-append, All-cons, All-head, All-nil, All-tail}
use Rattle.fg_books.specs.Shares.{BooksId}
use Rattle.fg_cache.specs.Slips.{FaultOf}
use Rattle.fg_crew.specs.Slots.{Has}
use Rattle.fg_model.specs.declared.run.End.{End}
use Rattle.fg_model.specs.declared.run.RunFault.{RunFault}
use Rattle.fg_model.specs.Engine.{TellsFaults}
use Rattle.fg_engine.specs.declared.helping.LoopEnd.{LoopEnd}
use Rattle.fg_engine.specs.Hands.{IsShareOf}
use Rattle.fg_engine.specs.Helping.{AreEnds, EndOf, as_list, share_in, shares_in}

module _ (books : BooksId) where
  none-share : (fault : Option FaultOf) → fault ≡ None → IsShareOf books fault
  none-share fault none = subst (IsShareOf books) (sym none) tt

  has-share : (fault : Option FaultOf) → Has (λ (share : FaultOf). share.books ≡ books) fault → IsShareOf books fault
  has-share None has = absurd has
  has-share (Some share) has = has

  pub share-of : (answer : Result End RunFault) (fault : Option FaultOf) (old new : ℕ)
      → TellsFaults answer (fault ≡ None) (λ _. Has (λ (share : FaultOf). share.books ≡ books) fault) old new → IsShareOf books fault
  share-of (Ok end) fault old new tells = none-share fault tells.0
  share-of (Err RunFault.Memory) fault old new tells = none-share fault tells.0
  share-of (Err (RunFault.Drive drive)) fault old new tells = has-share fault tells.0
  share-of (Err (RunFault.BadEdge bad)) fault old new tells = none-share fault tells.0
  share-of (Err RunFault.Watch) fault old new tells = none-share fault tells.0

  -- the share is of these books
  abbrev IsOwn : FaultOf → Type 0
  IsOwn share = share.books ≡ books

  own-fault : (fault : Option FaultOf) → IsShareOf books fault → All IsOwn (as_list fault)
  own-fault None own = All-nil IsOwn
  own-fault (Some share) own = All-cons IsOwn share [] own (All-nil IsOwn)

  own-end : (drive : ℕ) (end : Option LoopEnd) → EndOf books drive end → IsShareOf books (share_in end)
  own-end drive None ended = tt
  own-end drive (Some (LoopEnd.Stopped slip)) ended = tt
  own-end drive (Some (LoopEnd.Fault share)) ended = ap (λ (one : FaultOf). one.books) ended

  own-ends : (ends : List (Option LoopEnd)) → All (λ end. IsShareOf books (share_in end)) ends → All IsOwn (shares_in ends)
  own-ends [] each = All-nil IsOwn
  own-ends (end ∷ ends) each =
      All-append IsOwn (as_list (share_in end)) (shares_in ends) (own-fault (share_in end) (All-head (λ one. IsShareOf books (share_in one)) end ends each))
      (own-ends ends (All-tail (λ one. IsShareOf books (share_in one)) end ends each))

  pub shares-of : (count : ℕ) (fault : Option FaultOf) (ends : List (Option LoopEnd)) → IsShareOf books fault → AreEnds books count ends
      → All IsOwn (as_list fault ++ shares_in (reverse ends))
  shares-of count fault ends own are =
      All-append IsOwn (as_list fault) (shares_in (reverse ends)) (own-fault fault own) (own-ends (reverse ends) (λ k d below.
      let within : k < length ends = subst (λ (n : ℕ). k < n) (length-reverse ends) below in
      subst (λ (end : Option LoopEnd). IsShareOf books (share_in end)) (sym (get_or-reverse ends k d within))
      (own-end (length ends - 1 - k) _ (are.each (length ends - 1 - k) d (omega (arith, within, are.count_is))))))
