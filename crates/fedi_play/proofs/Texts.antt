-- The result of a script that is refused, or played to its end.
use Rattle.std.proofs.Common.{◌≡◌, ◌∙◌, ◌≤◌, ℕ, true, List, ◌++◌, length, Result, Ok, Err, inr}
use Rattle.std.specs.Prelude.{IfOk}
use Rattle.fedi_script.specs.Lines.{lines_of}
use Rattle.fedi_script.specs.declared.lines.TheConstants.{LONGEST}
use Rattle.fedi_servers.specs.Founding.{nothing}
use Rattle.fedi_play.specs.Playing.{IsPlay, Plays, SettingUp}
use Rattle.fedi_play.specs.declared.playing.Played.{Played}
use Rattle.std.specs.declared.alloc.AllocError.{AllocError}

refused_text : (p : Played) (script text : List ℕ) → p.refused ≡ true → p.text.items ≡ text
    → IsPlay script text true → IsPlay script p.text.items p.refused
refused_text p script text refused is played = rw (refused, is) played

pub refused_play : (r : Result Played AllocError) (script text before tail : List ℕ)
    → IfOk r (λ (p : Played). (p.refused ≡ true) × (p.text.items ≡ before ++ tail))
    → before ++ tail ≡ text → length script ≤ LONGEST
    → Plays (SettingUp nothing) 1 (lines_of script) text true
    → IfOk r (λ (p : Played). IsPlay script p.text.items p.refused)
refused_play (Ok p) script text before tail (refused, is) same short plays =
    refused_text p script text refused (is ∙ same) (inr (short, plays))
refused_play (Err e) script text before tail told same short plays = tt
