-- How a run plays a script.
use Rattle.std.specs.Prelude.{◌≡◌, ◌⊎◌, ℕ, ◌<◌, Bool, false, true, List, [], ◌++◌, length, IfSome}
use Rattle.fedi_logged.specs.Endings.{Output, Scene, Writes}
use Rattle.fedi_outside.specs.Causes.{next_count}
use Rattle.fedi_play.specs.Playing.{IsPlay}
use Rattle.fedi_program.specs.Endings.{Prints}
use Rattle.fedi_program.specs.Members.{Reports}
use Rattle.fedi_program.specs.declared.playing.ScriptFault.{ScriptFault}
use Rattle.fedi_program.specs.declared.playing.ScriptFault.TheVariants.{Failed, Memory}
use Rattle.fedi_script.specs.declared.lines.TheConstants.{LONGEST}

-- the bytes of a script are all of the input, or the first of it and more than a script may have
abbrev pub IsScriptOf : List ℕ → List ℕ → Type 0
IsScriptOf input script =
    (rest : List ℕ) × (input ≡ script ++ rest) × ((rest ≡ []) ⊎ (LONGEST < length script))

-- how many reads have then failed
abbrev pub reads_after : ScriptFault → ℕ → ℕ
reads_after Failed before = next_count before
reads_after Memory before = before

-- the text of a script that was played to its end is printed (0), or a proper prefix of it before a
-- write failed (7); that of one that was refused is printed, unless a write failed (10)
abbrev pub PrintsPlay : Output → Output → List ℕ → Bool → ℕ → Type 0
PrintsPlay first now text false status = Prints first now text status
PrintsPlay first now text true status = Reports first now 10 text status

-- The script that is the whole input is played and its text printed; or nothing is printed, since a
-- read failed (6) or memory ran out (12).
abbrev pub PlaysScript : Scene → Scene → ℕ → Type 0
PlaysScript first now status =
    (((status ≡ 6) ⊎ (status ≡ 12)) × Writes first.output now.output [])
    ⊎ ((text : List ℕ) × (refused : Bool)
    × IfSome first.input (λ input. IsPlay input text refused)
    × PrintsPlay first.output now.output text refused status)
