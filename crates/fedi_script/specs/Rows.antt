-- Three scripts that begin in the same way: what is read of each, and what is to be printed.
use Rattle.std.specs.Prelude.{◌≡◌, ℕ, List, [], ◌∷◌, ◌++◌, codes, map, Option, Some, None}
use Rattle.fedi_script.specs.Lines.{Instruction, Server, Actor, Peers, Say, Claim, Arrive, Reach}
use Rattle.fedi_script.specs.Lines.{Lose, Crash, Wait, instruction_in, lines_of}
use Rattle.fedi_script.specs.Printed.{answered_line, attempt_line, crashed_line, entries_line}
use Rattle.fedi_script.specs.Printed.{idle_line, outcome_line, refused_line, replied_line}
use Rattle.fedi_script.specs.Printed.{request_line, waited_line}
use Rattle.fedi_town.specs.declared.outcome.Outcome.TheVariants.{Delivered, Again}

-- what the lines of a script say
abbrev pub instructions_in : List ℕ → List (Option Instruction)
instructions_in script = map instruction_in (lines_of script)

-- ---- two servers, with a member each, that share a key

-- the host of the first
abbrev pub club : List ℕ
club = codes "club.example"

-- and of the second
abbrev pub hill : List ℕ
hill = codes "hill.example"

-- what ana posts: a note to dora
abbrev pub note : List ℕ
note = codes "{\"type\":\"Note\",\"content\":\"Hi\",\"to\":[\"https://hill.example/users/dora\"]}"

-- the first five lines
abbrev pub set_up : List ℕ
set_up =
    codes "server club.example\nserver hill.example\nactor club.example ana\n"
    ++ codes "actor hill.example dora\npeers club.example hill.example\n"

-- what they say
abbrev pub setting_up : List Instruction
setting_up =
    Server club ∷ Server hill ∷ Actor club (codes "ana") ∷ Actor hill (codes "dora")
    ∷ Peers club hill ∷ []

-- the line after them
abbrev pub saying : List ℕ
saying = codes "say club.example ana " ++ (note ++ codes "\n")

-- and its reply
abbrev pub said : List ℕ
said = replied_line 201 (Some (codes "https://club.example/users/ana/a/1"))

-- ---- a delivery that survives a crash

-- the lookup is answered, the post arrives twice, and the sender crashes before it hears of it;
-- then it delivers anew
abbrev pub crossing : List ℕ
crossing =
    codes "claim club.example\narrive 0\nreach 0\narrive 1\narrive 1\ncrash club.example\n"
    ++ codes "claim club.example\narrive 2\nreach 3\narrive 3\nreach 4\nclaim club.example\n"

-- what its lines say
abbrev pub CrossingIsRead : Type 0
CrossingIsRead =
    instructions_in (set_up ++ (saying ++ crossing))
    ≡ map Some (setting_up ++ (Say club (codes "ana") note ∷ Claim club ∷ Arrive 0 ∷ Reach 0
    ∷ Arrive 1 ∷ Arrive 1 ∷ Crash club ∷ Claim club ∷ Arrive 2 ∷ Reach 3 ∷ Arrive 3 ∷ Reach 4
    ∷ Claim club ∷ []))

-- and the text of what is printed about it
abbrev pub CrossingIsPrinted : Type 0
CrossingIsPrinted =
    said ++ (attempt_line 0 0 ++ (answered_line 0 200 ++ (request_line 1 ++ (answered_line 1 202
    ++ (answered_line 2 202 ++ (crashed_line ++ (attempt_line 1 2 ++ (answered_line 3 200
    ++ (request_line 3 ++ (answered_line 4 202 ++ (outcome_line Delivered ++ (idle_line
    ++ (entries_line club 5 ++ entries_line hill 4)))))))))))))
    ≡ codes "201 https://club.example/users/ana/a/1\nattempt 0 request 0\nreply 0 200\nrequest 1\n"
    ++ (codes "reply 1 202\nreply 2 202\ncrashed\nattempt 1 request 2\nreply 3 200\nrequest 3\n"
    ++ codes "reply 4 202\ndelivered\nidle\nclub.example entries 5\nhill.example entries 4\n")

-- ---- an attempt that is lost

-- the first attempt is lost, and the next one is made when a minute has passed
abbrev pub losing : List ℕ
losing = codes "claim club.example\nlose 0\nclaim club.example\nwait 60\nclaim club.example"

-- what its lines say
abbrev pub LosingIsRead : Type 0
LosingIsRead =
    instructions_in (set_up ++ (saying ++ losing))
    ≡ map Some (setting_up ++ (Say club (codes "ana") note ∷ Claim club ∷ Lose 0 ∷ Claim club
    ∷ Wait 60 ∷ Claim club ∷ []))

-- and the text of what is printed about it
abbrev pub LosingIsPrinted : Type 0
LosingIsPrinted =
    said ++ (attempt_line 0 0 ++ (outcome_line Again ++ (idle_line ++ (waited_line
    ++ (attempt_line 1 1 ++ (entries_line club 5 ++ entries_line hill 3))))))
    ≡ codes "201 https://club.example/users/ana/a/1\nattempt 0 request 0\nagain\nidle\nwaited\n"
    ++ codes "attempt 1 request 1\nclub.example entries 5\nhill.example entries 3\n"

-- ---- a line that is refused

-- the first event is a reply that nobody has made
abbrev pub EarlyIsRead : Type 0
EarlyIsRead =
    instructions_in (set_up ++ codes "reach 0\n") ≡ map Some (setting_up ++ Reach 0 ∷ [])

-- and the text of what is printed about it
abbrev pub EarlyIsPrinted : Type 0
EarlyIsPrinted = refused_line 6 ≡ codes "refused: line 6\n"

-- lines that have none of the forms
abbrev pub BadLinesAreRefused : Type 0
BadLinesAreRefused =
    instructions_in (codes "\nclaim\nclaim a b\n claim a\narrive +1\nwait 4294967296\nsay a b\nno")
    ≡ None ∷ None ∷ None ∷ None ∷ None ∷ None ∷ None ∷ None ∷ []

-- all of these
pub record ScriptsAreRead : Type 0 where
  pub crossing_read : CrossingIsRead
  pub crossing_printed : CrossingIsPrinted
  pub losing_read : LosingIsRead
  pub losing_printed : LosingIsPrinted
  pub early_read : EarlyIsRead
  pub early_printed : EarlyIsPrinted
  pub bad_lines : BadLinesAreRefused
