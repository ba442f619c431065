-- Equal kinds of collections.
use Rattle.std.proofs.Common.{◌≡◌, true, refl}
use Rattle.fedi_index.specs.declared.collection.Collection.{Collection}
use Rattle.fedi_index.specs.declared.collection.Collection.TheVariants.{Inbox, Outbox, Followers, Following, Liked, Likes, Shares, Pins, Board}
use Rattle.fedi_index.specs.Candidates.{is_same}

pub same_kind : (a b : Collection) → is_same a b ≡ true → a ≡ b
same_kind Inbox Inbox is = refl
same_kind Outbox Outbox is = refl
same_kind Followers Followers is = refl
same_kind Following Following is = refl
same_kind Liked Liked is = refl
same_kind Likes Likes is = refl
same_kind Shares Shares is = refl
same_kind Pins Pins is = refl
same_kind Board Board is = refl
same_kind a b is = absurd cc

pub kind_itself : (a : Collection) → is_same a a ≡ true
kind_itself Inbox = refl
kind_itself Outbox = refl
kind_itself Followers = refl
kind_itself Following = refl
kind_itself Liked = refl
kind_itself Likes = refl
kind_itself Shares = refl
kind_itself Pins = refl
kind_itself Board = refl
