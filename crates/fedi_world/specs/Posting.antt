-- What a server answers to a member who posts (ActivityPub, section 6).
use Rattle.std.specs.Prelude.{◌≡◌, ℕ, List, Option, Some, None, Result, Ok, Err, IsTrue, is_some}
use Rattle.fedi_logged.specs.Logs.{MachineLog}
use Rattle.fedi_model.specs.Asks.{entry_of}
use Rattle.fedi_model.specs.Replies.{reply}
use Rattle.fedi_model.specs.declared.ask.Ask.TheVariants.{Outbox}
use Rattle.fedi_model.specs.declared.post.Post.{Post}
use Rattle.fedi_model.specs.declared.reply.Reply as replies
use Rattle.fedi_outside.specs.declared.keepers.Keeper.{Ghosts}
use Rattle.fedi_seat.specs.Serving.{IsGiven, Stays}
use Rattle.fedi_town.specs.Histories.{town}
use Rattle.fedi_town.specs.Towns.{id_of}
use Rattle.fedi_town.specs.declared.caller.Caller.TheVariants.{Actor}
use Rattle.fedi_world.specs.declared.event.WorldFault.{WorldFault}
use Rattle.fedi_world.specs.declared.event.WorldFault.TheVariants.{NoServer, NoRequest, NoReply}
use Rattle.fedi_world.specs.declared.event.WorldFault.TheVariants.{NoAttempt, NoName, Full, Memory}
use Rattle.fedi_world.specs.Happenings.{IsPostBy}

-- The member of this name posts this body, and this is the answer; or there is no such member; or
-- there is no memory. If there is no answer, nothing has changed.
abbrev pub IsPosted : {P : Type 0} → Ghosts P → (name body : List ℕ) → ℕ → MachineLog P
    → MachineLog P → Result replies.Reply WorldFault → Type 0
IsPosted k name body moment before after (Ok given) =
    (author : List ℕ) × (post : Post)
    × (id_of (town before.core.history) name ≡ Some author) × IsPostBy author body post
    × IsGiven k (reply (town before.core.history) (Actor name) (Outbox name post))
    (entry_of (town before.core.history) (Actor name) (Outbox name post) moment) given before after
IsPosted k name body moment before after (Err NoName) =
    (id_of (town before.core.history) name ≡ None) × Stays k before after
IsPosted k name body moment before after (Err Memory) =
    IsTrue (is_some (id_of (town before.core.history) name)) × Stays k before after
IsPosted k name body moment before after (Err NoServer) = ⊥
IsPosted k name body moment before after (Err NoRequest) = ⊥
IsPosted k name body moment before after (Err NoReply) = ⊥
IsPosted k name body moment before after (Err NoAttempt) = ⊥
IsPosted k name body moment before after (Err Full) = ⊥
