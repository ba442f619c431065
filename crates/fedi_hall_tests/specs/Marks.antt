-- The marks of a tally after a try to add one.
use Rattle.std.specs.Prelude.{if◌then◌else◌, ℕ, Bool, List, [], ◌∷◌, ◌++◌}

-- the marks after a try by this pass, by whether there was room
abbrev pub marks_after : Bool → ℕ → List ℕ → List ℕ
marks_after room by marks = if room then marks ++ by ∷ [] else marks
