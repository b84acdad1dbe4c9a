-- The options of the command line, in their order.
use Rattle.std.specs.Prelude.{Bool, true, false, List, [], ◌∷◌, ◌++◌}
use Rattle.fg_base.specs.declared.refusal.Opt.{Opt}
use Rattle.fg_base.specs.declared.refusal.Opt.TheVariants.{Program, Source, Max, Cut, Each, Quiet, Workers, Sets, Ways, Depth, Shift, Helpers, Stats, Unit as UnitPages, Number, Undirected, Input, Start, Nodes, Edges, Drives, Drive}

-- the options that are built
abbrev pub options : List Opt
options =
    Program ∷ Source ∷ Max ∷ Cut ∷ Each ∷ Quiet ∷ Workers ∷ Sets ∷ Ways ∷ Depth ∷ Shift ∷ Helpers ∷ Stats ∷
    UnitPages ∷ Number ∷ Undirected ∷ Input ∷ Start ∷ Nodes ∷ Edges ∷ Drives ∷ []

-- the options and the drives, in the order in which refusals look at them
abbrev pub table : List Opt
table = options ++ Drive ∷ []

-- the option has no value: it is on where it is there
abbrev pub is_flag : Opt → Bool
is_flag Each = true
is_flag Quiet = true
is_flag Helpers = true
is_flag Stats = true
is_flag Undirected = true
is_flag _ = false
