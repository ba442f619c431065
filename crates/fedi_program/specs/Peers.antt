-- Making a peer: the operator's command, and what is printed.
use Rattle.std.specs.Prelude.{◌≡◌, ◌⊎◌, ℕ, Bool, true, false, List, [], ◌++◌, codes, Option, None}
use Rattle.std.specs.Prelude.{Some}
use Rattle.fedi_address.specs.Hosts.{IsHost}
use Rattle.fedi_log.specs.Keeping.{State}
use Rattle.fedi_mac.specs.Keys.{key_of}
use Rattle.fedi_objects.specs.declared.entry.Entry.{Entry}
use Rattle.fedi_objects.specs.declared.entry.Entry.TheVariants.{PeerSet}
use Rattle.fedi_logged.specs.Conversations.{IsNow}
use Rattle.fedi_logged.specs.Endings.{Output, Writes}
use Rattle.fedi_town.specs.Histories.{town}
use Rattle.fedi_town.specs.Legal.{is_taken_host}
use Rattle.fedi_program.specs.Members.{EndsWith, IsRefusedFor}

-- the entry of a new peer: the key itself is kept, since both servers compute codes with it
abbrev pub peer_entry : List ℕ → List ℕ → List ℕ → Bool → ℕ → Entry
peer_entry host key address relay moment = PeerSet host key address relay moment

-- the line that says that a host was made a peer
unfoldable pub peer_line : List ℕ → List ℕ
peer_line host = codes "peer " ++ (host ++ codes "\n")

-- How the making of a peer ends, given the texts of its host, its key and its address: memory ran
-- out (12); or it is refused for the first of these reasons (10): the text is not a valid host, the
-- host is this server's or a peer's, the text is not a valid key; or else the entry is refused, for
-- instance for its address, or kept.
abbrev pub MakesPeer : (ℕ → ℕ) → (ℕ → ℕ) → Option ℕ → State → State → Output → Output → List ℕ
    → List ℕ → List ℕ → Bool → ℕ → Type 0
MakesPeer growth room told before after first now host key address relay status =
    ((status ≡ 12) × (after ≡ before) × Writes first now [])
    ⊎ (((IsHost host → ⊥) × IsRefusedFor (codes "bad host") before after first now status)
    ⊎ ((IsHost host × (is_taken_host (town before.history) host ≡ true)
    × IsRefusedFor (codes "host taken") before after first now status)
    ⊎ ((IsHost host × (is_taken_host (town before.history) host ≡ false) × (key_of key ≡ None)
    × IsRefusedFor (codes "bad key") before after first now status)
    ⊎ (IsHost host × (is_taken_host (town before.history) host ≡ false)
    × (secret : List ℕ) × (moment : ℕ) × (key_of key ≡ Some secret) × IsNow told moment
    × EndsWith growth room before after first now (peer_entry host secret address relay moment)
    (peer_line host) status))))
