-- How many entries a vertex needs, by its degrees.
use Rattle.std.specs.Prelude.{ℕ, ◌+◌, slice_index}
use Rattle.fg_base.specs.declared.plain.Need.{Need}
use Rattle.fg_index.specs.ImageIndex.{ImageIndex}

-- how many entries the needed lists of a vertex have
abbrev pub needed_degree : ImageIndex → Need → ℕ → ℕ
needed_degree index Need.Out v = slice_index index.outs v
needed_degree index Need.In v = slice_index index.ins v
needed_degree index Need.Both v = slice_index index.outs v + slice_index index.ins v
