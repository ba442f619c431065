-- Two requests as they are sent, and what some replies show.
use Rattle.std.specs.Prelude.{◌≡◌, ℕ, List, replicate, codes, Some}
use Rattle.fedi_objects.specs.declared.entry.Sent.TheVariants.{Post}
use Rattle.fedi_objects.specs.declared.entry.What.TheVariants.{BadActor, Status}
use Rattle.fedi_delivery.specs.declared.replies.Found.TheVariants.{Inbox}
use Rattle.fedi_delivery.specs.Replies.{IsCameOfPost, IsFoundIn, ended_by}
use Rattle.fedi_delivery.specs.Sending.{lookup_text, post_text}

-- the key that the two servers share
abbrev pub shared_key : List ℕ
shared_key = replicate 32 7

-- The codes were computed by another implementation of HMAC.
pub record WrittenRequests : Type 0 where
  pub lookup :
      lookup_text (codes "club.example") shared_key (codes "https://lake.example/users/eve")
      ≡ codes "GET /users/eve HTTP/1.1\r\nHost: lake.example\r\nAccept: application/ld+json; profile=\"https://www.w3.org/ns/activitystreams\"\r\nPeer-Host: club.example\r\nPeer-Mac: 8af1daf846e8780535a9ddaebadcacef21f8a5ee892ed0f89fdf8188ed1fc9e0\r\nConnection: close\r\n\r\n"
  pub post :
      post_text (codes "club.example") shared_key (codes "https://lake.example/users/eve/inbox")
      (codes "{}")
      ≡ codes "POST /users/eve/inbox HTTP/1.1\r\nHost: lake.example\r\nContent-Type: application/ld+json; profile=\"https://www.w3.org/ns/activitystreams\"\r\nPeer-Host: club.example\r\nPeer-Mac: c22a14a435b4c7af8c162f9e60ee88957fdd5cfcc91f16b14bce50e4514be5ff\r\nContent-Length: 2\r\nConnection: close\r\n\r\n{}"

-- the recipient
abbrev pub eve : List ℕ
eve = codes "https://lake.example/users/eve"

-- What replies to the lookup of eve and to a post to her inbox show.
pub record ShownReplies : Type 0 where
  pub found :
      IsFoundIn eve (Some (codes "HTTP/1.1 200 OK\r\n\r\n{\"id\":\"https://lake.example/users/eve\",\"inbox\":\"https://lake.example/users/eve/inbox\"}"))
      (Inbox (codes "https://lake.example/users/eve/inbox"))
  pub elsewhere :
      IsFoundIn eve (Some (codes "HTTP/1.1 200 OK\r\n\r\n{\"id\":\"https://lake.example/users/eve\",\"inbox\":\"https://hill.example/users/eve/inbox\"}"))
      (ended_by BadActor)
  pub of_another :
      IsFoundIn eve (Some (codes "HTTP/1.1 200 OK\r\n\r\n{\"id\":\"https://lake.example/users/dora\",\"inbox\":\"https://lake.example/users/eve/inbox\"}"))
      (ended_by BadActor)
  pub gone : IsFoundIn eve (Some (codes "HTTP/1.1 410 Gone\r\n\r\n")) (ended_by (Status 410))
  pub arrived :
      IsCameOfPost (Some (codes "HTTP/1.1 202 Accepted\r\n\r\n"))
      (record { step = Post; what = Status 202 })
