use Rattle.std.proofs.Common.{◌≡◌, ℕ, ◌+◌, ◌*◌, Bool, List, [], ◌∷◌, ◌++◌, sym, ap, ◌∙◌}
use Rattle.fg_base.specs.declared.plain.Entry.{Entry}
use Rattle.fg_image.specs.Lists.{entries_at, entry_at}
use Rattle.fg_image.proofs.EntryLaws.{entries_at-more}
use Rattle.fg_index.specs.ImageIndex.{entry_bytes}
use Rattle.fg_image.proofs.cut.cut_list.Goals as goal

pushed : (weighted : Bool) (bytes : List ℕ) (place i size : ℕ) (before after : List Entry) (entry : Entry) → after ≡ before ++ entry ∷ [] → before ≡ entries_at weighted bytes place i
    → entry ≡ entry_at weighted bytes (place + i * size) → size ≡ entry_bytes weighted → after ≡ entries_at weighted bytes place (i + 1)
pushed weighted bytes place i size before after entry is_after is_before is_entry is_size =
    let more : entries_at weighted bytes place i ++ entry ∷ [] ≡ entries_at weighted bytes place (i + 1) =
    ap (λ (e : Entry). entries_at weighted bytes place i ++ e ∷ []) (is_entry ∙ ap (λ (n : ℕ). entry_at weighted bytes (place + i * n)) is_size)
    ∙ sym (entries_at-more weighted bytes place i) in
    is_after ∙ ap (λ (b : List Entry). b ++ entry ∷ []) is_before ∙ more

pub loop-i-preserved : goal.loop-i-preserved
loop-i-preserved c = pushed _ _ _ _ _ _ _ _ c.in_ok-push.ensures.items c.loop-i.invariant c.entry_at.ensures c.entry_bytes-size.ensures.size
