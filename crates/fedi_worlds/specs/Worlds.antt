-- Several servers of this program, and all requests and replies that they have sent to each other
-- (ActivityPub, section 7).
use Rattle.std.specs.Prelude.{ℕ, zero, suc, ◌&&◌, Bool, true, false, List, [], ◌∷◌, ◌++◌, nat_eq}
use Rattle.std.specs.Str.{bytes_eq}
use Rattle.fedi_objects.specs.declared.entry.Entry.{Entry}

-- a server: the host that its members' ids have, and its history
pub record Server : Type 0 where
  pub host : List ℕ
  pub history : List Entry

-- a request that one server has sent to another: the number of the attempt that it belongs to, the
-- host that it is for, and its bytes (RFC 9112, section 2.1)
pub record Request : Type 0 where
  pub attempt : ℕ
  pub host : List ℕ
  pub text : List ℕ

-- a reply that a server has sent: the number of the request, and the bytes
pub record Reply : Type 0 where
  pub request : ℕ
  pub text : List ℕ

-- how far an attempt is (ActivityPub, section 7.1): its recipient is looked up, the activity is
-- posted, or it has ended
pub data Stage : Type 0 where
  Looking : Stage
  Posting : Stage
  Over : Stage

-- What a server has claimed: to deliver the activity with this id to this recipient. What it posts
-- is the activity as it was in `since`, the server's history at the claim.
pub record Task : Type 0 where
  pub server : ℕ
  pub since : List Entry
  pub activity : List ℕ
  pub recipient : List ℕ

-- an attempt of a task: the number of the last request that was sent for it, and how far it is
pub record Attempt : Type 0 where
  pub task : Task
  pub request : ℕ
  pub stage : Stage

-- A world at a moment: its servers, and every request, reply and attempt that was ever made, in
-- order, each of which is named by its index. Nothing of these is ever removed: a message that was
-- sent once may arrive at any time and any number of times.
pub record World : Type 0 where
  pub moment : ℕ
  pub servers : List Server
  pub requests : List Request
  pub replies : List Reply
  pub attempts : List Attempt

-- ---- servers

-- the servers, after the one with this number has kept these entries too
abbrev pub keeping : ℕ → List Entry → List Server → List Server
keeping n more [] = []
keeping zero more (s ∷ servers) = record s { history = s.history ++ more } ∷ servers
keeping (suc n) more (s ∷ servers) = s ∷ keeping n more servers

-- ---- attempts

-- the attempt has not ended
abbrev pub is_open : Stage → Bool
is_open Looking = true
is_open Posting = true
is_open Over = false

-- it is an open attempt of this server
unfoldable pub is_open_at : ℕ → Attempt → Bool
is_open_at server a = is_open a.stage && nat_eq a.task.server server

-- it is an open attempt of this server to deliver the activity with this id to this recipient
unfoldable pub is_open_for : ℕ → List ℕ → List ℕ → Attempt → Bool
is_open_for server id recipient a =
    is_open_at server a && (bytes_eq a.task.activity id && bytes_eq a.task.recipient recipient)

-- the attempts, where the one with this number is now this one
abbrev pub replaced : ℕ → Attempt → List Attempt → List Attempt
replaced n now [] = []
replaced zero now (a ∷ attempts) = now ∷ attempts
replaced (suc n) now (a ∷ attempts) = a ∷ replaced n now attempts

-- the attempt after its end
abbrev pub ended : Attempt → Attempt
ended a = record a { stage = Over }

-- how far an attempt is after a crash, given whether it was its own server that crashed
abbrev pub stage_after : Bool → Stage → Stage
stage_after true s = Over
stage_after false s = s

-- the attempt after a crash of this server, which forgets its own attempts
unfoldable pub crashed_at : ℕ → Attempt → Attempt
crashed_at server a = record a { stage = stage_after (nat_eq a.task.server server) a.stage }
