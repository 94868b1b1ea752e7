-- The demonstration: its input, its script, and the shelf on which both stand.
use Rattle.std.specs.Prelude.{◌%◌, ◌*◌, ◌++◌, ℕ, List, [], ◌∷◌, codes, decimal}
use Rattle.std.specs.List.{flat_map, range_with_len}
use Rattle.pig_value.specs.declared.inputs.Input.{Input}
use Rattle.pig_outside.specs.Shelf.{Shelf}

-- a field of a line: its letter, its number, and the byte behind it
abbrev pub visit_field : List ℕ → ℕ → ℕ → List ℕ
visit_field letter n behind = letter ++ decimal n ++ behind ∷ []

-- a visit by its number: a user, a page and a time, with a tab (the byte 9) between each two, and an LF
abbrev pub visit_line : ℕ → List ℕ
visit_line i = visit_field (codes "u") (i * 37 % 101) 9 ++ visit_field (codes "p") (i * 61 % 997) 9 ++ visit_field [] (i % 86400) 10

-- the lines of so many visits, which are numbered from 0
abbrev pub visit_lines : ℕ → List ℕ
visit_lines n = flat_map visit_line (range_with_len 0 n)

-- of each user the number of visits and the sum of their times: the ten users of most visits
abbrev pub demo_script : List ℕ
demo_script = codes "v = LOAD 'visits' AS (user:chararray, page:chararray, time:int);\n"
    ++ codes "g = GROUP v BY user;\n"
    ++ codes "c = FOREACH g GENERATE group, COUNT(v) AS n, SUM(v.time) AS t;\n"
    ++ codes "o = ORDER c BY n DESC, $0;\n"
    ++ codes "top = LIMIT o 10;\n"
    ++ codes "STORE top INTO 'top';\n"

-- the path of the script, and the directory of its one STORE
abbrev pub script_path : List ℕ
script_path = codes "demo"

abbrev pub top_path : List ℕ
top_path = codes "top"

-- the input `visits`, of one piece
abbrev pub demo_inputs : ℕ → List Input
demo_inputs n = record { path = codes "visits"; pieces = visit_lines n ∷ [] } ∷ []

-- the script, the input of so many visits, and no directory
abbrev pub demo_shelf : ℕ → Shelf
demo_shelf n = record { scripts = record { path = script_path; bytes = demo_script } ∷ []; inputs = demo_inputs n; dirs = [] }
