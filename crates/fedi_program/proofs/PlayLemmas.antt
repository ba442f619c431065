-- The script that is read, and what is then printed.
use Rattle.std.proofs.Common.{◌≡◌, ◌⊎◌, ◌∙◌, ◌<◌, ◌≤◌, ◌+◌, ℕ, Bool, true, false, List, [], ◌++◌, length, Option, None, Some, inl, inr, refl, sym, ap, subst, append_assoc, append-nil, length-append, arith}
use Rattle.std.specs.Prelude.{IfSome}
use Rattle.std.specs.Io.KnownBytes.{Appends, Consumes, IsAtEnd}
use Rattle.fedi_logged.specs.Endings.{BreaksOff, Faults, Output, Scene, Writes, WritesUnlessFailed}
use Rattle.fedi_outside.specs.Causes.{next_count}
use Rattle.fedi_play.specs.Playing.{IsPlay}
use Rattle.fedi_program.specs.Endings.{HasCauses, Prints}
use Rattle.fedi_program.specs.Members.{Reports}
use Rattle.fedi_program.specs.Playing.{IsScriptOf, PlaysScript}
use Rattle.fedi_script.specs.declared.lines.TheConstants.{LONGEST}

-- ---- reading

pub none_read : (a : Option (List ℕ)) → Consumes a a []
none_read None = tt
none_read (Some xs) = refl

pub more_read : (a b c : Option (List ℕ)) (x y : List ℕ) → Consumes a b x → Consumes b c y
    → Consumes a c (x ++ y)
more_read None b c x y first second = tt
more_read (Some xs) None c x y first second = absurd first
more_read (Some xs) (Some ys) None x y first second = absurd second
more_read (Some xs) (Some ys) (Some zs) x y first second =
    first ∙ (ap (λ (l : List ℕ). x ++ l) second ∙ sym (append_assoc x y zs))

pub all_read : (a b : Option (List ℕ)) (script : List ℕ) → Consumes a b script → IsAtEnd b
    → IfSome a (λ bytes. IsScriptOf bytes script)
all_read None b script read ended = tt
all_read (Some xs) None script read ended = absurd read
all_read (Some xs) (Some ys) script read ended = (ys, read, inl ended)

pub enough_read : (a b : Option (List ℕ)) (script : List ℕ) → Consumes a b script
    → LONGEST < length script → IfSome a (λ bytes. IsScriptOf bytes script)
enough_read None b script read longer = tt
enough_read (Some xs) None script read longer = absurd read
enough_read (Some xs) (Some ys) script read longer = (ys, read, inr longer)

-- ---- playing

of_front : (bytes script text : List ℕ) (refused : Bool) → IsScriptOf bytes script
    → IsPlay script text refused → IsPlay bytes text refused
of_front bytes script text refused (rest, is, inl none) played =
    let same : bytes ≡ script = is ∙ (ap (λ (l : List ℕ). script ++ l) none ∙ append-nil script) in
    subst (λ (l : List ℕ). IsPlay l text refused) (sym same) played
of_front bytes script text refused (rest, is, inr longer) (inl (long, all, told)) =
    let count : length bytes ≡ length script + length rest =
    ap length is ∙ length-append script rest in
    inl (omega (arith, count, longer), all, told)
of_front bytes script text refused (rest, is, inr longer) (inr (short, plays)) =
    absurd (omega (arith, longer, short))

pub of_script : (input : Option (List ℕ)) (script text : List ℕ) (refused : Bool)
    → IfSome input (λ bytes. IsScriptOf bytes script) → IsPlay script text refused
    → IfSome input (λ bytes. IsPlay bytes text refused)
of_script None script text refused read played = tt
of_script (Some bytes) script text refused read played = of_front bytes script text refused read played

-- ---- the causes of the statuses

-- the status is one at which no write has failed
abbrev IsQuiet : ℕ → Type 0
IsQuiet status = (status ≡ 0) ⊎ ((status ≡ 6) ⊎ (status ≡ 8))

-- nothing was written
pub none_written : (out : Output) → Writes out out []
none_written out = record { sent = by out.sent; calm = refl }
  where
    by : (sent : Option (List ℕ)) → Appends sent sent []
    by None = tt
    by (Some xs) = sym (append-nil xs)

-- a read failed, and nothing was written
pub failed_causes : (was is : Faults) → is.reads ≡ next_count was.reads → is.writes ≡ was.writes
    → HasCauses was is 6
failed_causes was is reads writes =
    record { reads = reads; writes = inl writes; failed = λ seven. absurd (cc seven); calm = λ _. writes }

-- memory ran out, and nothing was written
pub memory_causes : (was is : Faults) → is.reads ≡ was.reads → is.writes ≡ was.writes
    → HasCauses was is 12
memory_causes was is reads writes =
    record { reads = reads; writes = inl writes; failed = λ seven. absurd (cc seven); calm = λ _. writes }

-- a text was printed
pub printed_causes : (was is : Faults) (first now : Output) (text : List ℕ) (status : ℕ)
    → first.faults ≡ was.writes → now.faults ≡ is.writes → is.reads ≡ was.reads
    → Prints first now text status → HasCauses was is status
printed_causes was is first now text status before after reads (inl (done, writes)) =
    let same : is.writes ≡ was.writes = sym after ∙ (writes.calm ∙ before) in
    rw done (record { reads = reads; writes = inl same; failed = λ seven. absurd (cc seven); calm = λ _. same })
printed_causes was is first now text status before after reads (inr (broken, breaks)) =
    let rose : is.writes ≡ next_count was.writes = sym after ∙ (breaks.cause ∙ ap next_count before) in
    rw broken (record { reads = reads; writes = inr rose; failed = λ _. rose; calm = seven })
  where
    seven : IsQuiet 7 → is.writes ≡ was.writes
    seven (inl clash) = absurd (cc clash)
    seven (inr (inl clash)) = absurd (cc clash)
    seven (inr (inr clash)) = absurd (cc clash)

-- a text was reported
pub reported_causes : (was is : Faults) (first now : Output) (text : List ℕ) (status : ℕ)
    → first.faults ≡ was.writes → now.faults ≡ is.writes → is.reads ≡ was.reads
    → Reports first now 10 text status → HasCauses was is status
reported_causes was is first now text status before after reads (ten, told) =
    rw ten (record { reads = reads; writes = by told; failed = λ seven. absurd (cc seven); calm = never })
  where
    by : WritesUnlessFailed first now [] text
        → (is.writes ≡ was.writes) ⊎ (is.writes ≡ next_count was.writes)
    by (inl writes) = inl (sym after ∙ (writes.calm ∙ before))
    by (inr breaks) = inr (sym after ∙ (breaks.cause ∙ ap next_count before))

    never : IsQuiet 10 → is.writes ≡ was.writes
    never (inl clash) = absurd (cc clash)
    never (inr (inl clash)) = absurd (cc clash)
    never (inr (inr clash)) = absurd (cc clash)
