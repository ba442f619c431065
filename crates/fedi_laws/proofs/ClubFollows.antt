-- Follows and Blocks in the club, computed.
use Rattle.std.proofs.Common.{◌≡◌, ℕ, ◌+◌, ◌<◌, false, List, true, refl, arith}
use Rattle.std.specs.Prelude.{nat_lt, if◌then◌else◌}
use Rattle.std.specs.Str.{bytes_eq}
use Rattle.std.proofs.lemmas.Bool.{ltb-true}
use Rattle.std.specs.Fmt.{digits}
use Rattle.fedi_address.specs.Iris.{host_of}
use Rattle.fedi_address.specs.Pieces.{after_any}
use Rattle.fedi_address.specs.Recipients.{distinct, is_among}
use Rattle.fedi_town.specs.Activities.{receive_object}
use Rattle.fedi_town.specs.Addressing.{is_nobody_here, is_recipient, addressees, implied_recipient, complete_recipients}
use Rattle.fedi_town.specs.Collections.{is_item, is_same_item}
use Rattle.fedi_town.specs.Effects.{is_pending_follow, is_standing_activity, end_follow, effect_of, accept_by}
use Rattle.fedi_town.specs.Forwarding.{is_ours, is_far, has_followers_at, forwards_at, forwards_of}
use Rattle.fedi_town.specs.Ids.{actor_id, activity_id, object_id, is_of_host}
use Rattle.fedi_town.specs.Lists.{differs}
use Rattle.fedi_town.specs.Objects.{makes, is_deleted, change_object, replace_object, tombstone_of, rewrite_act}
use Rattle.fedi_town.specs.Queues.{is_of_pair, progress_of, sends, is_at_peer, deliveries_of, is_due_in}
use Rattle.fedi_town.specs.Relations.{is_about, has_activity_id, is_actor, is_block_of, has_block_between, is_follow_of, is_open_follow, is_following, followers}
use Rattle.fedi_town.specs.Rules.{broken_about}
use Rattle.fedi_town.specs.Seeing.{is_for_follower, is_follower_from, sees_as, is_of_peer, reaches, sees}
use Rattle.fedi_objects.specs.Limits.{is_text, is_type, is_date}
use Rattle.fedi_town.specs.Showing.{present_object, shown_ref, shown_activity, sight_of}
use Rattle.fedi_town.specs.States.{is_like_of, is_announce_of, has_room, is_locked, follow_state, can_be_undone, state_of}
use Rattle.fedi_town.specs.Towns.{Town, count_of, has_name, has_id, has_digest, has_host, is_by}
use Rattle.fedi_town.proofs.Texts.{is_false}
use Rattle.fedi_laws.specs.ClubFollows.{LockedFollow, BlockAndUndo, PostToFollowers, LateFollower, LastNumber}

pub locked_follow : LockedFollow
unfolding digits after_any host_of is_among distinct actor_id activity_id object_id is_of_host differs has_name has_id has_digest has_host is_by is_about has_activity_id is_actor is_block_of has_block_between is_follow_of is_open_follow is_following followers makes is_deleted change_object replace_object tombstone_of rewrite_act is_nobody_here is_recipient addressees implied_recipient complete_recipients is_for_follower is_follower_from sees_as is_of_peer reaches sees present_object shown_ref shown_activity sight_of is_like_of is_announce_of has_room is_locked follow_state can_be_undone state_of is_pending_follow is_standing_activity end_follow effect_of accept_by receive_object is_ours is_far has_followers_at forwards_at forwards_of broken_about is_item is_same_item is_of_pair progress_of sends is_at_peer deliveries_of is_due_in is_text is_type is_date
locked_follow = record { legal = refl; waits = refl; accepted = refl; follows_not_yet = refl; follows_now = refl; follows_no_more = refl; accepted_once = refl; following = refl; hidden = refl; ended = refl; following_none = refl; ended_once = refl; sent = refl; answered = refl; answer = refl; in_outbox = refl }

pub block_and_undo : BlockAndUndo
unfolding digits after_any host_of is_among distinct actor_id activity_id object_id is_of_host differs has_name has_id has_digest has_host is_by is_about has_activity_id is_actor is_block_of has_block_between is_follow_of is_open_follow is_following followers makes is_deleted change_object replace_object tombstone_of rewrite_act is_nobody_here is_recipient addressees implied_recipient complete_recipients is_for_follower is_follower_from sees_as is_of_peer reaches sees present_object shown_ref shown_activity sight_of is_like_of is_announce_of has_room is_locked follow_state can_be_undone state_of is_pending_follow is_standing_activity end_follow effect_of accept_by receive_object is_ours is_far has_followers_at forwards_at forwards_of broken_about is_item is_same_item is_of_pair progress_of sends is_at_peer deliveries_of is_due_in is_text is_type is_date
block_and_undo = record { legal = refl; before = refl; after = refl; none_follow = refl; refused = refl; hidden = refl; public = refl; silent = refl; again = refl; still_none = refl }

pub post_to_followers : PostToFollowers
unfolding digits after_any host_of is_among distinct actor_id activity_id object_id is_of_host differs has_name has_id has_digest has_host is_by is_about has_activity_id is_actor is_block_of has_block_between is_follow_of is_open_follow is_following followers makes is_deleted change_object replace_object tombstone_of rewrite_act is_nobody_here is_recipient addressees implied_recipient complete_recipients is_for_follower is_follower_from sees_as is_of_peer reaches sees present_object shown_ref shown_activity sight_of is_like_of is_announce_of has_room is_locked follow_state can_be_undone state_of is_pending_follow is_standing_activity end_follow effect_of accept_by receive_object is_ours is_far has_followers_at forwards_at forwards_of broken_about is_item is_same_item is_of_pair progress_of sends is_at_peer deliveries_of is_due_in is_text is_type is_date
post_to_followers = record { legal = refl; sent = refl; follower = refl; stranger = refl; both = refl; later = refl }

pub late_follower : LateFollower
unfolding digits after_any host_of is_among distinct actor_id activity_id object_id is_of_host differs has_name has_id has_digest has_host is_by is_about has_activity_id is_actor is_block_of has_block_between is_follow_of is_open_follow is_following followers makes is_deleted change_object replace_object tombstone_of rewrite_act is_nobody_here is_recipient addressees implied_recipient complete_recipients is_for_follower is_follower_from sees_as is_of_peer reaches sees present_object shown_ref shown_activity sight_of is_like_of is_announce_of has_room is_locked follow_state can_be_undone state_of is_pending_follow is_standing_activity end_follow effect_of accept_by receive_object is_ours is_far has_followers_at forwards_at forwards_of broken_about is_item is_same_item is_of_pair progress_of sends is_at_peer deliveries_of is_due_in is_text is_type is_date
late_follower = record { legal = refl; sent = refl; before = refl; after = refl; in_outbox = refl; in_inbox = refl; stranger = refl; nobody = refl; undone = refl; legal_reject = refl; rejected = refl; legal_block = refl; blocked = refl; legal_delete = refl; deleted = refl }

last_room : (t : Town) (a b : List ℕ) → count_of t b ≡ 4294967294 → bytes_eq a b ≡ false → has_room t a b ≡ true
unfolding has_room
last_room t a b most other = rw (most, other) refl

no_room : (n k : ℕ) → n ≡ 4294967295 → nat_lt (n + k) 4294967295 ≡ false
no_room n k full = is_false (nat_lt (n + k) 4294967295) (λ e. let less : n + k < 4294967295 = ltb-true (n + k) 4294967295 e in omega (arith, full, less))

other_full : (t : Town) (a b : List ℕ) → count_of t b ≡ 4294967295 → has_room t a b ≡ false
unfolding has_room
other_full t a b full = no_room (count_of t b) (if bytes_eq a b then 1 else 0) full

pub last_number : LastNumber
last_number = record { last = last_room; full = other_full }
