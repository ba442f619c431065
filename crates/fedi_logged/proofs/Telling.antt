-- What a turn says about its log.
use Rattle.std.proofs.Common.{◌≡◌, ℕ, List, ◌++◌, Bool, Option, Result, Ok, Err, Vec, IfOk, subst, sym}
use Rattle.fedi_log.specs.Keeping.{Holds, State, base_of}
use Rattle.fedi_log.specs.Log.{Log, Outcome, history_of, items_of}
use Rattle.fedi_model.specs.declared.reply.Reply.{Reply}
use Rattle.fedi_model.specs.declared.request.Request.{Request}
use Rattle.fedi_model.specs.ReplyText.{reply_text}
use Rattle.fedi_objects.specs.declared.entry.Entry.{Entry}
use Rattle.fedi_core.specs.Machines.{Machine}
use Rattle.fedi_outside.specs.Keepers.{Crashes, KeeperState}
use Rattle.fedi_logged.specs.Conversations.{IsReply}
use Rattle.fedi_logged.specs.Turning.{IsReplyAt, Tells}
use Rattle.fedi_logged.specs.Logs.{MachineLog, TurnsOn}
use Rattle.fedi_logged.specs.Turns.{standing_by}

-- the reply is one at the log that the machine holds
reply_at : (growth room : ℕ → ℕ) (opened state : State) (log : Log) (moment : ℕ) (q : Request) (body : List ℕ) (o : Outcome) (r : Reply)
    → Holds (base_of growth room opened) state log → IsReply room state.history state.keeper.end moment q body o r
    → IsReplyAt (base_of growth room opened) log moment q body o r
reply_at growth room opened state log moment q body o r holds reply =
    subst (λ (n : ℕ). IsReply room (history_of log) n moment q body o r) holds.keeper.end
    (subst (λ (h : List Entry). IsReply room h state.keeper.end moment q body o r) holds.history reply)

pub tells : (growth room : ℕ → ℕ) (opened state : State) (by : Option ℕ) (log seen now : Log) (moment : ℕ) (q : Request) (body : List ℕ) (closing : Bool) (o : Outcome) (given : Reply) (text : List ℕ)
    → log ≡ seen → Holds (base_of growth room opened) state log → IsReply room state.history state.keeper.end moment q body o given → now ≡ log ++ items_of by o
    → text ≡ reply_text moment q.head_only closing given → Tells (base_of growth room opened) by seen now moment q body closing text
tells growth room opened state by log seen now moment q body closing o given text same holds reply grown is =
    subst (λ (l : Log). Tells (base_of growth room opened) by l now moment q body closing text) same
    (record { outcome = o; reply = given; replies = reply_at growth room opened state log moment q body o given holds reply; text_is = is; grown = grown })

-- the same for a text that may lack memory
pub told : {A E : Type 0} (growth room : ℕ → ℕ) (opened state : State) (by : Option ℕ) (log seen now : Log) (moment : ℕ) (q : Request) (body : List ℕ) (closing : Bool) (o : Outcome) (given : Reply) (r : Result (Vec ℕ A) E)
    → log ≡ seen → Holds (base_of growth room opened) state log → IsReply room state.history state.keeper.end moment q body o given → now ≡ log ++ items_of by o
    → IfOk r (λ t. t.items ≡ reply_text moment q.head_only closing given)
    → IfOk r (λ t. Tells (base_of growth room opened) by seen now moment q body closing t.items)
told growth room opened state by log seen now moment q body closing o given (Ok t) same holds reply grown is =
    tells growth room opened state by log seen now moment q body closing o given t.items same holds reply grown is
told growth room opened state by log seen now moment q body closing o given (Err e) same holds reply grown is = tt

-- the text is this one, of which this holds
pub of_text : {A E : Type 0} (P : List ℕ → Type 0) (text : List ℕ) (r : Result (Vec ℕ A) E) → P text → IfOk r (λ t. t.items ≡ text) → IfOk r (λ t. P t.items)
of_text P text (Ok t) holds is = subst P (sym is) holds
of_text P text (Err e) holds is = tt

-- one turn of the machine and this log
pub turned : {P : Type 0} (growth : ℕ → ℕ) (by : Option ℕ) (shown : P → KeeperState) (crashes : P → Crashes) (m n : MachineLog P) (after : Machine P) (now : Log) → m ≡ n
    → TurnsOn growth by (standing_by shown crashes m.core) (standing_by shown crashes after) m.log now
    → TurnsOn growth by (standing_by shown crashes n.core) (standing_by shown crashes after) n.log now
turned {P = P} growth by shown crashes m n after now is turn =
    subst (λ (x : MachineLog P). TurnsOn growth by (standing_by shown crashes x.core) (standing_by shown crashes after) x.log now) is turn
