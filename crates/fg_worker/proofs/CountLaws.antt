-- Batches one after another, and their messages.
use Rattle.std.proofs.Common.{◌≡◌, ℕ, ◌+◌, ◌^◌, ◌<◌, ◌≤◌, List, ◌++◌, length, get_or, take, sym, ap, ◌∙◌, subst}
use Rattle.std.proofs.lemmas.List.{length-append, take_all, take_more}
use Rattle.std.proofs.lemmas.List.Elements.{All-append}
use Rattle.fg_batch.specs.declared.batch.Batch.{Batch}
use Rattle.fg_batch.specs.Mails.{NumbersFit}
use Rattle.fg_batch.specs.Outbox.{mail_in}
use Rattle.fg_model.specs.declared.mail.Mail.{Mail}
use Rattle.fg_worker.proofs.ListLaws.{flat_map-push}

module _ (batches : List Batch) (i : ℕ) (batch : Batch) (below : i < length batches) (is : batch ≡ get_or batches i batch) where
  mail-more : mail_in (take (i + 1) batches) ≡ mail_in (take i batches) ++ batch.mails.items
  mail-more =
      ap mail_in (take_more batches i batch below) ∙ flat_map-push (λ (one : Batch). one.mails.items) (take i batches) (get_or batches i batch)
      ∙ ap (λ (one : Batch). mail_in (take i batches) ++ one.mails.items) (sym is)

  pub count-more : length (mail_in (take (i + 1) batches)) ≡ length (mail_in (take i batches)) + length batch.mails.items
  count-more = ap (λ (mails : List Mail). length mails) mail-more ∙ length-append (mail_in (take i batches)) batch.mails.items

  pub fits-more : NumbersFit (mail_in (take i batches)) → NumbersFit batch.mails.items → NumbersFit (mail_in (take (i + 1) batches))
  fits-more early late =
      subst NumbersFit (sym mail-more) (All-append (λ (mail : Mail). mail.message < 2 ^ 64) (mail_in (take i batches)) batch.mails.items early late)

-- all batches are passed
pub fits-all : (batches : List Batch) (i : ℕ) → length batches ≤ i → NumbersFit (mail_in (take i batches)) → NumbersFit (mail_in batches)
fits-all batches i past fits = subst (λ (all : List Batch). NumbersFit (mail_in all)) (take_all i batches past) fits
