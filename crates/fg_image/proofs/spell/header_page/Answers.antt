use Rattle.std.proofs.Common.{◌≡◌, ℕ, List, ◌++◌, ◌∙◌, ap}
use Rattle.std.proofs.lemmas.Result.{IfOk-weaker}
use Rattle.byteorder.specs.Endian.{little_bytes}
use Rattle.fg_image.specs.declared.header.Header.{Header}
use Rattle.fg_image.specs.Header.{image_magic}
use Rattle.fg_image.specs.Making.{blanks, header_bytes}
use Rattle.fg_image.proofs.spell.header_page.Goals as goal

-- the page as it grows
spelled : (h : Header) (a b c d e f g i j k l m n o : List ℕ) → a ≡ image_magic → b ≡ a ++ little_bytes 4 h.version → c ≡ b ++ little_bytes 4 h.flags → d ≡ c ++ little_bytes 4 h.n
    → e ≡ d ++ little_bytes 4 h.pages → f ≡ e ++ little_bytes 8 h.out_entries → g ≡ f ++ little_bytes 8 h.in_entries → i ≡ g ++ little_bytes 8 h.out_bytes
    → j ≡ i ++ little_bytes 8 h.in_bytes → k ≡ j ++ little_bytes 8 h.index_bytes → l ≡ k ++ little_bytes 4 h.out_first → m ≡ l ++ little_bytes 4 h.in_first
    → n ≡ m ++ little_bytes 4 h.index_first → o ≡ n ++ blanks 4020 → o ≡ header_bytes h
unfolding header_bytes
spelled h a b c d e f g i j k l m n o pa pb pc pd pe pf pg pi pj pk pl pm pn po =
    po ∙ ap (behind 4020) (pn ∙ next 4 h.index_first (pm ∙ next 4 h.in_first (pl ∙ next 4 h.out_first (pk ∙ next 8 h.index_bytes (pj ∙ next 8 h.in_bytes (pi ∙ next 8 h.out_bytes
    (pg ∙ next 8 h.in_entries (pf ∙ next 8 h.out_entries (pe ∙ next 4 h.pages (pd ∙ next 4 h.n (pc ∙ next 4 h.flags (pb ∙ next 4 h.version pa))))))))))))
  where
    behind : ℕ → List ℕ → List ℕ
    behind count front = front ++ blanks count

    next : (size number : ℕ) {xs ys : List ℕ} → xs ≡ ys → (xs ++ little_bytes size number) ≡ (ys ++ little_bytes size number)
    next size number same = ap (λ (l : List ℕ). l ++ little_bytes size number) same

pub returns : goal.returns
returns c =
    IfOk-weaker c.with_zeros.result _ (λ page. page.items ≡ header_bytes c.args.header.now)
    (λ page last. spelled c.args.header.now _ _ _ _ _ _ _ _ _ _ _ _ _ page.items
    (c.in_ok-extend_from_slice.ensures.items ∙ ap (λ (l : List ℕ). l ++ image_magic) c.in_ok-page.ensures.items)
    c.in_ok-page-2.ensures c.in_ok-page-3.ensures c.in_ok-page-4.ensures c.in_ok-page-5.ensures
    c.in_ok-page-6.ensures c.in_ok-page-7.ensures c.in_ok-page-8.ensures c.in_ok-page-9.ensures c.in_ok-page-10.ensures
    c.in_ok-page-11.ensures c.in_ok-page-12.ensures c.in_ok-page-13.ensures last)
    c.with_zeros.ensures
