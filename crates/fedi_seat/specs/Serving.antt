-- What a server answers, and what it then keeps (ActivityPub, sections 3.2, 5, 6 and 7; RFC 9112,
-- sections 2 to 7).
use Rattle.std.specs.Prelude.{◌≡◌, ◌⊎◌, ℕ, ◌+◌, ◌^◌, ◌<◌, Bool, true, false, IsTrue, List, []}
use Rattle.std.specs.Prelude.{◌∷◌, ◌++◌, length, Option, None, Some, is_some, option_to_list}
use Rattle.std.specs.Prelude.{Result, Ok, Err}
use Rattle.fedi_entry.specs.Codes.{code_of}
use Rattle.fedi_http.specs.Arrivals.{LacksRequest}
use Rattle.fedi_http.specs.declared.heads.TheConstants.{HEAD_LIMIT}
use Rattle.fedi_http.specs.declared.requests.TheConstants.{MOST_FIELDS}
use Rattle.fedi_log.specs.Keeping.{growth_of}
use Rattle.fedi_log.specs.Log.{given}
use Rattle.fedi_logged.specs.Logs.{MachineLog}
use Rattle.fedi_model.specs.declared.reply.Reply as replies
use Rattle.fedi_model.specs.declared.request.Request as requests
use Rattle.fedi_model.specs.Answers.{Answers}
use Rattle.fedi_model.specs.Refusing.{refused}
use Rattle.fedi_model.specs.ReplyText.{reply_text}
use Rattle.fedi_objects.specs.declared.entry.Entry.{Entry}
use Rattle.fedi_outside.specs.Keepers.{HasRoom, IsFull}
use Rattle.fedi_outside.specs.declared.keepers.Keeper.{Ghosts}
use Rattle.fedi_town.specs.declared.refusal.Refusal.{Refusal}
use Rattle.fedi_town.specs.Histories.{town}
use Rattle.fedi_worlds.specs.Steps.{Comes, Settles, ends_by, is_head_only}
use Rattle.fedi_seat.specs.declared.seat.Served.{Served}

-- ---- what is kept

-- if an entry is made, it is kept exactly if a keeper whose records end here has room for it
abbrev pub FitsAt : (room : ℕ → ℕ) → (end : ℕ) → Option Entry → List Entry → Type 0
FitsAt room end None more = more ≡ []
FitsAt room end (Some e) [] = IsFull room end (length (code_of e))
FitsAt room end (Some e) (x ∷ more) = HasRoom room end (length (code_of e)) × (x ∷ more ≡ e ∷ [])

-- The server has kept these entries of a request, and nothing else of it has changed: of the entry
-- that was made, if one was made, if there was room for it.
pub record Keeps {P : Type 0} (k : Ghosts P) (made : Option Entry) (more : List Entry)
    (before after : MachineLog P) : Type 0 where
  pub fits : FitsAt k.room (k.shown before.core.keeper).end made more
  pub history : after.core.history ≡ before.core.history ++ more
  pub log : after.log ≡ before.log ++ given more
  pub end : (k.shown after.core.keeper).end
      ≡ (k.shown before.core.keeper).end + growth_of k.growth more

-- an entry that was made was kept, or was not
abbrev pub IsKeptIf : Bool → Option Entry → List Entry → Type 0
IsKeptIf true made more = more ≡ option_to_list made
IsKeptIf false made more = IsTrue (is_some made) × (more ≡ [])

-- what became of the entry that was made, if one was made
abbrev pub Became : {P : Type 0} → Ghosts P → Bool → Option Entry → MachineLog P → MachineLog P
    → Type 0
Became k kept made before after =
    (more : List Entry) × IsKeptIf kept made more × Keeps k made more before after

-- nothing has changed
pub record Stays {P : Type 0} (k : Ghosts P) (before after : MachineLog P) : Type 0 where
  pub history : after.core.history ≡ before.core.history
  pub log : after.log ≡ before.log
  pub end : (k.shown after.core.keeper).end ≡ (k.shown before.core.keeper).end

-- ---- what is answered

-- this is the reply, and the entry that is made is kept; or there is no room for it, and the reply
-- says so
pub record IsGiven {P : Type 0} (k : Ghosts P) (r : replies.Reply) (made : Option Entry)
    (given : replies.Reply) (before after : MachineLog P) : Type 0 where
  pub more : List Entry
  pub settles : Settles r made given more
  pub keeps : Keeps k made more before after

-- what came is answered with this reply by the history at this moment
abbrev pub Gives : {P : Type 0} → Ghosts P → ℕ → Result requests.Request Refusal → List ℕ
    → replies.Reply → MachineLog P → MachineLog P → Type 0
Gives k moment (Ok q) body given before after =
    (r : replies.Reply) × (made : Option Entry)
    × Answers (town before.core.history) moment q body r made
    × IsGiven k r made given before after
Gives k moment (Err e) body given before after = (given ≡ refused e) × Stays k before after

-- This was sent: the text of the reply to what came. It is the last on its connection if a request
-- asks for that, and if what came is refused.
pub record Replies {P : Type 0} (k : Ghosts P) (moment : ℕ)
    (came : Result requests.Request Refusal) (body : List ℕ) (served : Served)
    (before after : MachineLog P) : Type 0 where
  pub given : replies.Reply
  pub gives : Gives k moment came body given before after
  pub short : length given.body < 2 ^ 64
  pub status : served.status ≡ given.status
  pub text_is : served.text.items ≡ reply_text moment (is_head_only came) (ends_by came) given

-- bytes arrived, and this is the reply to the request with which they begin, or to what is refused
-- of them
abbrev pub Serves : {P : Type 0} → Ghosts P → List ℕ → ℕ → Served → MachineLog P → MachineLog P
    → Type 0
Serves k text moment served before after =
    (came : Result requests.Request Refusal) × (body : List ℕ) × Comes text came body
    × Replies k moment came body served before after

-- the bytes end before a request, or in the middle of one
abbrev pub IsCutShort : List ℕ → Type 0
IsCutShort text = (text ≡ []) ⊎ LacksRequest HEAD_LIMIT MOST_FIELDS text
