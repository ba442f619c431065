-- Which lists an activity of each type is in.
use Rattle.std.proofs.Common.{◌≡◌, true, false, refl}
use Rattle.fedi_objects.specs.declared.kind.Kind.{Kind}
use Rattle.fedi_objects.specs.declared.kind.Kind.TheVariants as types
use Rattle.fedi_index.specs.declared.collection.Collection.TheVariants.{Inbox, Outbox, Followers, Following, Liked, Likes, Shares, Pins, Board}
use Rattle.fedi_index.specs.Growing.{is_kind, list_of_author, list_of_other}
use Rattle.fedi_town.specs.Boards.{is_pin_kind}
use Rattle.fedi_town.specs.Deeds.{deed_of, is_announce, is_follow, is_like}

pub author_lists : (k : Kind) → (is_kind Inbox (list_of_author k) ≡ false)
    × (is_kind Outbox (list_of_author k) ≡ false)
    × (is_kind Followers (list_of_author k) ≡ false)
    × (is_kind Following (list_of_author k) ≡ is_follow (deed_of k))
    × (is_kind Liked (list_of_author k) ≡ is_like (deed_of k))
    × (is_kind Likes (list_of_author k) ≡ false)
    × (is_kind Shares (list_of_author k) ≡ false)
    × (is_kind Pins (list_of_author k) ≡ is_pin_kind k)
    × (is_kind Board (list_of_author k) ≡ false)
author_lists types.Follow = (refl, refl, refl, refl, refl, refl, refl, refl, refl)
author_lists types.Like = (refl, refl, refl, refl, refl, refl, refl, refl, refl)
author_lists types.Add = (refl, refl, refl, refl, refl, refl, refl, refl, refl)
author_lists types.Remove = (refl, refl, refl, refl, refl, refl, refl, refl, refl)
author_lists _ = (refl, refl, refl, refl, refl, refl, refl, refl, refl)

pub other_lists : (k : Kind) → (is_kind Inbox (list_of_other k) ≡ false)
    × (is_kind Outbox (list_of_other k) ≡ false)
    × (is_kind Followers (list_of_other k) ≡ is_follow (deed_of k))
    × (is_kind Following (list_of_other k) ≡ false)
    × (is_kind Liked (list_of_other k) ≡ false)
    × (is_kind Likes (list_of_other k) ≡ is_like (deed_of k))
    × (is_kind Shares (list_of_other k) ≡ is_announce (deed_of k))
    × (is_kind Pins (list_of_other k) ≡ false)
    × (is_kind Board (list_of_other k) ≡ is_pin_kind k)
other_lists types.Follow = (refl, refl, refl, refl, refl, refl, refl, refl, refl)
other_lists types.Like = (refl, refl, refl, refl, refl, refl, refl, refl, refl)
other_lists types.Announce = (refl, refl, refl, refl, refl, refl, refl, refl, refl)
other_lists types.Add = (refl, refl, refl, refl, refl, refl, refl, refl, refl)
other_lists types.Remove = (refl, refl, refl, refl, refl, refl, refl, refl, refl)
other_lists _ = (refl, refl, refl, refl, refl, refl, refl, refl, refl)

-- an Add or a Remove is none of these
pub no_pin : (k : Kind) → (is_follow (deed_of k) ≡ true → is_pin_kind k ≡ false) × (is_like (deed_of k) ≡ true → is_pin_kind k ≡ false)
    × (is_announce (deed_of k) ≡ true → is_pin_kind k ≡ false)
no_pin types.Add = (λ is. absurd cc, λ is. absurd cc, λ is. absurd cc)
no_pin types.Remove = (λ is. absurd cc, λ is. absurd cc, λ is. absurd cc)
no_pin _ = (λ is. refl, λ is. refl, λ is. refl)
