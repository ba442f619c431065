-- The hosts of the servers stay, whatever happens; and why an event cannot happen.
use Rattle.std.proofs.Common.{◌≡◌, ◌≢◌, ◌∙◌, ℕ, List, Result, Err, inl, inr, refl, ap}
use Rattle.std.specs.Prelude.{IsErrOf}
use Rattle.fedi_objects.specs.declared.entry.Came.{Came}
use Rattle.fedi_servers.specs.Founding.{hosts_of}
use Rattle.fedi_servers.proofs.Setting.{hosts_kept}
use Rattle.fedi_worlds.specs.Events as events
use Rattle.fedi_worlds.specs.Steps as steps
use Rattle.fedi_worlds.specs.Worlds.{Attempt, Stage, Looking, Posting, Over, World}
use Rattle.fedi_world.specs.declared.event.Event.{Event}
use Rattle.fedi_world.specs.declared.event.Event.TheVariants as asked
use Rattle.fedi_world.specs.declared.event.Happened.{Happened}
use Rattle.fedi_world.specs.declared.event.WorldFault.{WorldFault}
use Rattle.fedi_world.specs.declared.event.WorldFault.TheVariants.{NoServer, NoRequest, NoReply, NoAttempt, NoName, Full, Memory}
use Rattle.fedi_world.specs.Happenings.{Happens, IsForgotten, LacksAttempt, LacksName, LacksReply, LacksRequest, LacksServer, Leaves}
use Rattle.fedi_world.specs.Scenes.{Scene}
use Rattle.fedi_play.specs.Playing.{CannotHappen, memory}

recorded_hosts : (w v : World) (number : ℕ) (a : Attempt) (came : Came) → steps.Records w number a came v
    → hosts_of v.servers ≡ hosts_of w.servers
recorded_hosts w v number a came r =
    ap (λ (x : World). hosts_of x.servers) r.after ∙ hosts_kept a.task.server r.more w.servers

heard_hosts : (stage : Stage) (w v : World) (number : ℕ) (a : Attempt) (text : List ℕ)
    → steps.Hears stage w number a text v → hosts_of v.servers ≡ hosts_of w.servers
heard_hosts Looking w v number a text (inl (inbox, found, posts)) =
    ap (λ (x : World). hosts_of x.servers) posts.after
heard_hosts Looking w v number a text (inr (came, found, records)) =
    recorded_hosts w v number a came records
heard_hosts Posting w v number a text (came, is, records) = recorded_hosts w v number a came records
heard_hosts Over w v number a text hears = absurd hears

same_hosts : (w v : World) (e : events.Event) → steps.Happens w e v
    → hosts_of v.servers ≡ hosts_of w.servers
same_hosts w v (events.Asking n c ask) (given, a) =
    ap (λ (x : World). hosts_of x.servers) a.after ∙ hosts_kept n a.more w.servers
same_hosts w v (events.Claim n) (inl c) = ap (λ (x : World). hosts_of x.servers) c.after
same_hosts w v (events.Claim n) (inr i) = ap (λ (x : World). hosts_of x.servers) i.after
same_hosts w v (events.Arrive k) (given, a) =
    ap (λ (x : World). hosts_of x.servers) a.after ∙ hosts_kept a.number a.more w.servers
same_hosts w v (events.Reach j) r =
    heard_hosts r.attempt.stage w v r.request.attempt r.attempt r.back.text r.hears
same_hosts w v (events.Lose number) l =
    recorded_hosts w v number l.attempt _ l.records
same_hosts w v (events.Crash n) c = ap (λ (x : World). hosts_of x.servers) c.after
same_hosts w v (events.Wait seconds) is = ap (λ (x : World). hosts_of x.servers) is

pub happened_hosts : (w v : Scene) (e : Event) (what : Happened) → Happens memory w e what v
    → hosts_of v.world.servers ≡ hosts_of w.world.servers
happened_hosts w v e what happens = same_hosts w.world v.world happens.kind happens.steps.happens

-- they stay after a refusal too
pub left_hosts : (w v : Scene) (e : Event) (fault : WorldFault) → fault ≢ Memory
    → Leaves memory fault w e v → hosts_of v.world.servers ≡ hosts_of w.world.servers
left_hosts w v e NoServer other leaves = ap (λ (x : Scene). hosts_of x.world.servers) leaves
left_hosts w v e NoRequest other leaves = ap (λ (x : Scene). hosts_of x.world.servers) leaves
left_hosts w v e NoReply other leaves = ap (λ (x : Scene). hosts_of x.world.servers) leaves
left_hosts w v e NoAttempt other leaves = ap (λ (x : Scene). hosts_of x.world.servers) leaves
left_hosts w v e NoName other leaves = ap (λ (x : Scene). hosts_of x.world.servers) leaves
left_hosts w v e Full other leaves = forgotten e leaves.1
  where
    forgotten : (x : Event) → IsForgotten w.world x v.world
        → hosts_of v.world.servers ≡ hosts_of w.world.servers
    forgotten (asked.Say n name content) is = absurd is
    forgotten (asked.Claim n) is = absurd is
    forgotten (asked.Arrive k) is = absurd is
    forgotten (asked.Reach j) is = same_hosts w.world v.world (events.Reach j) is.0
    forgotten (asked.Lose number) is = same_hosts w.world v.world (events.Lose number) is.0
    forgotten (asked.Crash n) is = absurd is
    forgotten (asked.Wait seconds) is = absurd is
left_hosts w v e Memory other leaves = absurd (other refl)

-- the event cannot happen that was refused for this reason
pub cannot_happen : (w v : Scene) (e : Event) (r : Result Happened WorldFault) (fault : WorldFault)
    → r ≡ Err fault → fault ≢ Memory
    → (IsErrOf r NoServer → LacksServer w.world e) → (IsErrOf r NoRequest → LacksRequest w.world e)
    → (IsErrOf r NoReply → LacksReply w.world e) → (IsErrOf r NoAttempt → LacksAttempt w.world e)
    → (IsErrOf r NoName → LacksName w.world e) → Leaves memory fault w e v → CannotHappen w e
cannot_happen w v e r NoServer is other server request reply attempt name leaves = inl (server is)
cannot_happen w v e r NoRequest is other server request reply attempt name leaves = inr (inl (request is))
cannot_happen w v e r NoReply is other server request reply attempt name leaves = inr (inr (inl (reply is)))
cannot_happen w v e r NoAttempt is other server request reply attempt name leaves =
    inr (inr (inr (inl (attempt is))))
cannot_happen w v e r NoName is other server request reply attempt name leaves =
    inr (inr (inr (inr (inl (name is)))))
cannot_happen w v e r Full is other server request reply attempt name leaves =
    inr (inr (inr (inr (inr leaves.0))))
cannot_happen w v e r Memory is other server request reply attempt name leaves = absurd (other refl)
