-- The lines of a run: its head, its finished iterations, its end and its stats.
use Rattle.std.specs.Prelude.{ℕ, Bool, true, false, List, [], ◌∷◌, ◌++◌, codes, decimal}
use Rattle.fg_model.specs.declared.watch.IterLine.{IterLine}

-- the programs' names as they are written
abbrev pub program_names : List (List ℕ)
program_names = codes "bfs" ∷ codes "sssp" ∷ codes "wcc" ∷ codes "core" ∷ codes "rank" ∷ []

-- the head, with its end: the program's name, the vertices, and the entries of either direction
abbrev pub head_line : List ℕ → ℕ → ℕ → ℕ → List ℕ
head_line name n outs ins =
    codes "program " ++ name ++ codes " vertices " ++ decimal n ++ codes " out " ++ decimal outs ++ codes " in " ++ decimal ins ++ codes "\n"

-- the line of a finished iteration, with its end
abbrev pub iteration_line : IterLine → List ℕ
iteration_line line =
    codes "iteration " ++ decimal line.number ++ codes " phase " ++ decimal line.phase ++ codes " active " ++ decimal line.active
    ++ codes " messages " ++ decimal line.messages ++ codes "\n"

-- how a run ended
abbrev pub end_word : Bool → List ℕ
end_word true = codes "settled "
end_word false = codes "stopped "

-- the line of a run's end, with its own end: how it ended, and after how many iterations
abbrev pub end_line : Bool → ℕ → List ℕ
end_line settled iterations = end_word settled ++ decimal iterations ++ codes "\n"

-- the line of a run's stats, with its end: the reads and their pages, the vertex runs and their entries
abbrev pub stats_line : ℕ → ℕ → ℕ → ℕ → List ℕ
stats_line reads pages runs entries =
    codes "stats reads " ++ decimal reads ++ codes " pages " ++ decimal pages ++ codes " runs " ++ decimal runs
    ++ codes " entries " ++ decimal entries ++ codes "\n"
