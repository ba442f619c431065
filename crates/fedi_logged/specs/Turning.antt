-- What one turn does for a request, over a log that others may add to too.
use Rattle.std.specs.Prelude.{◌≡◌, ℕ, Bool, false, true, List, ◌++◌, Option}
use Rattle.fedi_core.specs.Drafts.{reply_in}
use Rattle.fedi_log.specs.Keeping.{Base, State, base_of, end_of}
use Rattle.fedi_log.specs.Log.{Goes, Log, Outcome, history_of, items_of}
use Rattle.fedi_model.specs.declared.reply.Reply.{Reply}
use Rattle.fedi_model.specs.declared.request.Request.{Request}
use Rattle.fedi_model.specs.ReplyText.{reply_text}
use Rattle.fedi_logged.specs.Conversations.{IsReply, Setting}
use Rattle.fedi_logged.specs.declared.answered.Answered.{Answered}
use Rattle.fedi_logged.specs.declared.answered.Answered.TheVariants.{Text, Draft}

-- the text that the answer of a turn becomes, at this moment and on a connection that then closes
-- or goes on
abbrev pub text_in : ℕ → Bool → Bool → Answered → List ℕ
text_in moment head_only closing (Text text) = text.items
text_in moment head_only closing (Draft d) = reply_text moment head_only closing (reply_in d)

-- the text is not written yet
abbrev pub is_draft : Answered → Bool
is_draft (Text text) = false
is_draft (Draft d) = true

-- this is the reply to the request with this body at this log
abbrev pub IsReplyAt : Base → Log → ℕ → Request → List ℕ → Outcome → Reply → Type 0
IsReplyAt b log moment q body outcome given =
    IsReply b.room (history_of log) (end_of b log) moment q body outcome given

-- the text is that of the reply at this log, which then grows by what the request added
pub record Tells (b : Base) (by : Option ℕ) (log now : Log) (moment : ℕ) (q : Request)
    (body : List ℕ) (closing : Bool) (text : List ℕ) : Type 0 where
  pub outcome : Outcome
  pub reply : Reply
  pub replies : IsReplyAt b log moment q body outcome reply
  pub text_is : text ≡ reply_text moment q.head_only closing reply
  pub grown : now ≡ log ++ items_of by outcome

-- one turn, at a log that extends what was seen by items of others
abbrev pub TurnTells : Base → Option ℕ → Log → Log → ℕ → Request → List ℕ → Bool → List ℕ → Type 0
TurnTells b by seen now moment q body closing text =
    (log : Log) × Goes by seen log × Tells b by log now moment q body closing text

-- the setting of a pass that adds to the log, over a keeper at its opening
abbrev pub setting_at : Option ℕ → Option ℕ → Base → Setting
setting_at by told base = record { by = by; told = told; base = base }

-- the same, over a machine at its opening
abbrev pub setting_by : (ℕ → ℕ) → (ℕ → ℕ) → Option ℕ → Option ℕ → State → Setting
setting_by growth room told by opened = setting_at by told (base_of growth room opened)
