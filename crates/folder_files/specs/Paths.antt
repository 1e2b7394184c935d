-- Definition: The path of a file in a folder.
use Rattle.std.specs.Prelude.{ℕ, List, ◌++◌, codes}

-- a file in a folder
abbrev pub path_in : List ℕ → List ℕ → List ℕ
path_in folder name = folder ++ codes "/" ++ name
