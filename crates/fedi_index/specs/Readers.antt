-- A caller who reads many activities (ActivityPub, sections 5, 6 and 6.9).
use Rattle.std.specs.Prelude.{◌≡◌, ⊤, ℕ, Bool, true, false, List, Option, Some, None}
use Rattle.fedi_address.specs.Recipients.{is_among}
use Rattle.fedi_town.specs.declared.act.Act.{Act}
use Rattle.fedi_town.specs.declared.caller.Caller.{Caller}
use Rattle.fedi_town.specs.declared.caller.Caller.TheVariants.{Nobody, Actor, Peer}
use Rattle.fedi_town.specs.Relations.{follows, has_block_between}
use Rattle.fedi_town.specs.Seeing.{is_followed_from}
use Rattle.fedi_town.specs.Towns.{Town, id_of}

-- the town that is read, and who reads it
pub record Reading : Type 0 where
  pub town : Town
  pub caller : Caller

-- the id of a member who reads
abbrev pub reader_id : Town → Caller → Option (List ℕ)
reader_id t Nobody = None
reader_id t (Actor name) = id_of t name
reader_id t (Peer host) = None

-- there is a Block between the member who reads and the author
abbrev pub is_blocked : Town → Option (List ℕ) → List ℕ → Bool
is_blocked t None author = false
is_blocked t (Some id) author = has_block_between t id author

-- the member who reads follows the author
abbrev pub is_follower : Town → Option (List ℕ) → List ℕ → Bool
is_follower t None author = false
is_follower t (Some id) author = follows t id author

-- the reader follows the author, or somebody of the server that reads does
abbrev pub is_following : Town → Caller → List ℕ → Bool
is_following t Nobody author = false
is_following t (Actor name) author = is_follower t (id_of t name) author
is_following t (Peer host) author = is_followed_from t host author

-- the answer is true of the author, if there is one
abbrev pub IsTrueOf : (List ℕ → Bool) → Option (List ℕ) → Bool → Type 0
IsTrueOf p None answer = ⊤
IsTrueOf p (Some author) answer = answer ≡ p author

-- what was looked up last is true
abbrev pub Remembers : (List ℕ → Bool) → Option (List ℕ) × Bool → Type 0
Remembers p memo = IsTrueOf p memo.0 memo.1

-- what is known of the reader is true: its id, and what was looked up last
pub record IsReader (t : Town) (c : Caller) (known : Option (List ℕ))
    (blocked following : Option (List ℕ) × Bool) : Type 0 where
  pub id : known ≡ reader_id t c
  pub block : Remembers (is_blocked t known) blocked
  pub follow : Remembers (is_following t c) following

-- the activity goes to the member who reads, if this is said
abbrev pub GoesTo : Bool → Option (List ℕ) → Act → Type 0
GoesTo true (Some id) x = is_among id x.recipients ≡ true
GoesTo _ _ x = ⊤
