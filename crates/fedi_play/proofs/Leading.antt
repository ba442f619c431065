-- From one line of a script to the next.
use Rattle.std.proofs.Common.{◌≡◌, ◌∙◌, ◌+◌, ◌≤◌, arith, ℕ, Bool, true, false, List, [], ◌∷◌, ◌++◌, Option, None, Some, inl, inr, refl, sym, ap, subst, append_assoc}
use Rattle.fedi_script.specs.Lines as script
use Rattle.fedi_script.specs.Lines.{Instruction, instruction_in}
use Rattle.fedi_script.specs.Printed.{refused_line}
use Rattle.fedi_servers.specs.Founding.{Adds, Founding, IsRefused, hosts_of, nothing}
use Rattle.fedi_world.specs.declared.event.Event.{Event}
use Rattle.fedi_world.specs.Scenes.{Scene}
use Rattle.fedi_play.specs.Playing.{AsksFor, BeginsRefused, BeginsWithEvent, Does, IsRefusedAt, IsRefusedIn, Leads, Lets, Plays, Running, SettingUp, State, beginning, entries_lines, scene_in, sets_up}

-- ---- what leads to what

pub leads_from : (s : State) (number : ℕ) (lines : List (List ℕ)) → Leads s number lines [] s number lines
leads_from s number lines = λ more refused plays. plays

pub leads_on : (s t next : State) (number later : ℕ) (lines left : List (List ℕ)) (line printed text : List ℕ)
    → Leads s number lines printed t later (line ∷ left) → Does t (instruction_in line) text next
    → Leads s number lines (printed ++ text) next (later + 1) left
leads_on s t next number later lines left line printed text leads does = λ more refused plays.
    subst (λ (l : List ℕ). Plays s number lines l refused) (sym (append_assoc printed text more))
    (leads (text ++ more) refused (inr (next, text, more, does, plays, refl)))

pub leads_refused : (s t : State) (number later : ℕ) (lines left : List (List ℕ)) (line printed : List ℕ)
    → Leads s number lines printed t later (line ∷ left) → IsRefusedAt t (instruction_in line)
    → Plays s number lines (printed ++ refused_line later) true
leads_refused s t number later lines left line printed leads refused =
    leads (refused_line later) true (inl (refused, refl, refl))

pub leads_end : (s t : State) (number later : ℕ) (lines : List (List ℕ)) (printed : List ℕ)
    → Leads s number lines printed t later []
    → Plays s number lines (printed ++ entries_lines (scene_in t).world.servers) false
leads_end s t number later lines printed leads =
    leads (entries_lines (scene_in t).world.servers) false (refl, refl)

-- ---- the first event

-- a line that asks for an event is refused or played alike, whether it is the first or not
refused_alike : (u : Founding) (o : Option Instruction) (i : Instruction) → o ≡ Some i
    → sets_up i ≡ false → IsRefusedAt (Running (beginning u.servers)) o → IsRefusedAt (SettingUp u) o
refused_alike u None i is event refused = absurd (cc is)
refused_alike u (Some j) i is event refused =
    let same : j ≡ i = cc is in
    let none : sets_up j ≡ false = ap sets_up same ∙ event in rw none (rw none at refused)

done_alike : (u : Founding) (o : Option Instruction) (i : Instruction) (printed : List ℕ) (next : State)
    → o ≡ Some i → sets_up i ≡ false → Does (Running (beginning u.servers)) o printed next
    → Does (SettingUp u) o printed next
done_alike u None i printed next is event does = absurd (cc is)
done_alike u (Some j) i printed next is event does =
    let same : j ≡ i = cc is in
    let none : sets_up j ≡ false = ap sets_up same ∙ event in rw none (rw none at does)

pub begun : (u : Founding) (number : ℕ) (lines : List (List ℕ)) (text : List ℕ) (refused : Bool)
    → BeginsWithEvent lines → Plays (Running (beginning u.servers)) number lines text refused
    → Plays (SettingUp u) number lines text refused
begun u number [] text refused event plays = plays
begun u number (line ∷ lines) text refused (i, is, event) (inl (at, all, reported)) =
    inl (refused_alike u (instruction_in line) i is event at, all, reported)
begun u number (line ∷ lines) text refused (i, is, event) (inr (next, printed, more, does, plays, reported)) =
    inr (next, printed, more, done_alike u (instruction_in line) i printed next is event does, plays, reported)

-- ---- the line at hand

-- it has none of the forms
pub refused_form : (s : State) (lines rest : List (List ℕ)) (line : List ℕ) → lines ≡ line ∷ rest
    → None ≡ instruction_in line → BeginsRefused s lines
refused_form s lines rest line is none =
    subst (λ (l : List (List ℕ)). BeginsRefused s l) (sym is)
    (subst (λ (o : Option Instruction). IsRefusedAt s o) none tt)

-- it can set nothing up
pub refused_set_up : (u : Founding) (lines rest : List (List ℕ)) (line : List ℕ) (i : Instruction)
    → lines ≡ line ∷ rest → Some i ≡ instruction_in line → sets_up i ≡ true → IsRefused u i
    → BeginsRefused (SettingUp u) lines
refused_set_up u lines rest line i is reads sets refused =
    subst (λ (l : List (List ℕ)). BeginsRefused (SettingUp u) l) (sym is)
    (subst (λ (o : Option Instruction). IsRefusedAt (SettingUp u) o) reads (rw sets refused))

-- it asks for an event
pub begins_event : (lines rest : List (List ℕ)) (line : List ℕ) (i : Instruction)
    → lines ≡ line ∷ rest → Some i ≡ instruction_in line → sets_up i ≡ false → BeginsWithEvent lines
begins_event lines rest line i is reads event =
    subst (λ (l : List (List ℕ)). BeginsWithEvent l) (sym is) (i, sym reads, event)

-- it sets servers up
pub sets_on : (u v : Founding) (number : ℕ) (lines left after : List (List ℕ)) (line : List ℕ)
    (i : Instruction) → left ≡ line ∷ after → Some i ≡ instruction_in line → sets_up i ≡ true
    → Adds u i v → Leads (SettingUp nothing) 1 lines [] (SettingUp u) number left
    → Leads (SettingUp nothing) 1 lines [] (SettingUp v) (number + 1) after
sets_on u v number lines left after line i is reads sets adds leads =
    leads_on (SettingUp nothing) (SettingUp u) (SettingUp v) 1 number lines after line [] []
    (subst (λ (l : List (List ℕ)). Leads (SettingUp nothing) 1 lines [] (SettingUp u) number l) is leads)
    (subst (λ (o : Option Instruction). Does (SettingUp u) o [] (SettingUp v)) reads (rw sets (adds, refl)))

-- what sets servers up asks for no event
pub asks_event : (hosts : List (List ℕ)) (i : Instruction) (e : Event) → AsksFor hosts i e
    → sets_up i ≡ false
asks_event hosts (script.Server host) e asks = absurd asks
asks_event hosts (script.Actor host name) e asks = absurd asks
asks_event hosts (script.Peers one other) e asks = absurd asks
asks_event hosts (script.Say host name body) e asks = refl
asks_event hosts (script.Claim host) e asks = refl
asks_event hosts (script.Arrive request) e asks = refl
asks_event hosts (script.Reach reply) e asks = refl
asks_event hosts (script.Lose attempt) e asks = refl
asks_event hosts (script.Crash host) e asks = refl
asks_event hosts (script.Wait seconds) e asks = refl

-- its event happens
pub happens_on : (s : State) (w v : Scene) (number later : ℕ) (lines left after : List (List ℕ))
    (line printed text : List ℕ) (i : Instruction) → left ≡ line ∷ after
    → Some i ≡ instruction_in line → Lets w i text v
    → Leads s number lines printed (Running w) later left
    → Leads s number lines (printed ++ text) (Running v) (later + 1) after
happens_on s w v number later lines left after line printed text i is reads lets leads =
    let event = asks_event (hosts_of w.world.servers) i lets.event lets.asked in
    leads_on s (Running w) (Running v) number later lines after line printed text
    (subst (λ (l : List (List ℕ)). Leads s number lines printed (Running w) later l) is leads)
    (subst (λ (o : Option Instruction). Does (Running w) o text (Running v)) reads (rw event (v, refl, lets)))

-- it is refused
refused_in : (w : Scene) (i : Instruction) (sets : Bool) → sets_up i ≡ sets → IsRefusedIn w i
    → IsRefusedAt (Running w) (Some i)
refused_in w i true is refused = rw is tt
refused_in w i false is refused = rw is refused

pub refuses_on : (s : State) (w : Scene) (number later : ℕ) (lines left after : List (List ℕ))
    (line printed : List ℕ) (i : Instruction) → left ≡ line ∷ after → Some i ≡ instruction_in line
    → IsRefusedIn w i → Leads s number lines printed (Running w) later left
    → Plays s number lines (printed ++ refused_line later) true
refuses_on s w number later lines left after line printed i is reads refused leads =
    leads_refused s (Running w) number later lines after line printed
    (subst (λ (l : List (List ℕ)). Leads s number lines printed (Running w) later l) is leads)
    (subst (λ (o : Option Instruction). IsRefusedAt (Running w) o) reads (refused_in w i (sets_up i) refl refused))

-- ---- a whole script

-- its first line that is not played is one of those that set servers up
pub refused_first : (u : Founding) (number : ℕ) (lines left : List (List ℕ))
    → Leads (SettingUp nothing) 1 lines [] (SettingUp u) number left
    → BeginsRefused (SettingUp u) left → Plays (SettingUp nothing) 1 lines (refused_line number) true
refused_first u number lines [] leads refused = absurd refused
refused_first u number lines (line ∷ left) leads refused =
    leads_refused (SettingUp nothing) (SettingUp u) 1 number lines left line [] leads refused

-- the servers are set up, and events happen to them
pub played_on : (u : Founding) (w : Scene) (number : ℕ) (lines left : List (List ℕ)) (text : List ℕ)
    (refused : Bool) → Leads (SettingUp nothing) 1 lines [] (SettingUp u) number left
    → BeginsWithEvent left → w ≡ beginning u.servers → Plays (Running w) number left text refused
    → Plays (SettingUp nothing) 1 lines text refused
played_on u w number lines left text refused leads event same plays =
    leads text refused (begun u number left text refused event
    (subst (λ (x : Scene). Plays (Running x) number left text refused) same plays))

-- ---- how much a line sets up

pub adds_few : (u v : Founding) (i : Instruction) → Adds u i v
    → (v.members ≤ u.members + 1) × (v.pairs ≤ u.pairs + 1)
adds_few u v (script.Server host) (is_host, free, is) =
    let members : v.members ≡ u.members = ap (λ (x : Founding). x.members) is in
    let pairs : v.pairs ≡ u.pairs = ap (λ (x : Founding). x.pairs) is in
    (omega (arith, members), omega (arith, pairs))
adds_few u v (script.Actor host name) (n, s, at, named, unbroken, is) =
    let members : v.members ≡ u.members + 1 = ap (λ (x : Founding). x.members) is in
    let pairs : v.pairs ≡ u.pairs = ap (λ (x : Founding). x.pairs) is in
    (omega (arith, members), omega (arith, pairs))
adds_few u v (script.Peers one other) (m, n, s, t, first, second, unbroken, whole, is) =
    let members : v.members ≡ u.members = ap (λ (x : Founding). x.members) is in
    let pairs : v.pairs ≡ u.pairs + 1 = ap (λ (x : Founding). x.pairs) is in
    (omega (arith, members), omega (arith, pairs))
adds_few u v (script.Say host name body) adds = absurd adds
adds_few u v (script.Claim host) adds = absurd adds
adds_few u v (script.Arrive request) adds = absurd adds
adds_few u v (script.Reach reply) adds = absurd adds
adds_few u v (script.Lose attempt) adds = absurd adds
adds_few u v (script.Crash host) adds = absurd adds
adds_few u v (script.Wait seconds) adds = absurd adds

-- ---- what is then printed

pub more_printed : (first before now printed more : List ℕ) → before ≡ first ++ printed
    → now ≡ before ++ more → now ≡ first ++ (printed ++ more)
more_printed first before now printed more earlier later =
    later ∙ (ap (λ (l : List ℕ). l ++ more) earlier ∙ append_assoc first printed more)
