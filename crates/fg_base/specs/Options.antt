-- How the options of the command line are written.
use Rattle.std.specs.Prelude.{ℕ, List, codes}
use Rattle.fg_base.specs.declared.refusal.Opt.{Opt}
use Rattle.fg_base.specs.declared.refusal.Opt.TheVariants.{Program, Source, Max, Cut, Each, Quiet, Workers, Sets, Ways, Depth, Shift, Helpers, Stats, Unit as UnitPages, Number, Undirected, Input, Start, Nodes, Edges, Drives, Drive}

-- an option's name as it is written
abbrev pub option_name : Opt → List ℕ
option_name Program = codes "program"
option_name Source = codes "source"
option_name Max = codes "max"
option_name Cut = codes "cut"
option_name Each = codes "each"
option_name Quiet = codes "quiet"
option_name Workers = codes "workers"
option_name Sets = codes "sets"
option_name Ways = codes "ways"
option_name Depth = codes "depth"
option_name Shift = codes "shift"
option_name Helpers = codes "helpers"
option_name Stats = codes "stats"
option_name UnitPages = codes "unit"
option_name Number = codes "number"
option_name Undirected = codes "undirected"
option_name Input = codes "input"
option_name Start = codes "start"
option_name Nodes = codes "nodes"
option_name Edges = codes "edges"
option_name Drives = codes "drives"
option_name Drive = codes "drive"
