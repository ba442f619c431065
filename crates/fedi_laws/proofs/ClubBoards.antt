-- Collections in the club, computed.
use Rattle.std.proofs.Common.{refl}
use Rattle.std.specs.Fmt.{digits}
use Rattle.fedi_address.specs.Iris.{host_of}
use Rattle.fedi_address.specs.Pieces.{after_any}
use Rattle.fedi_address.specs.Recipients.{distinct, is_among}
use Rattle.fedi_town.specs.Activities.{receive_object}
use Rattle.fedi_town.specs.Addressing.{is_nobody_here, is_recipient, addressees, implied_recipient, complete_recipients}
use Rattle.fedi_town.specs.Collections.{is_item, is_same_item}
use Rattle.fedi_town.specs.Effects.{is_pending_follow, is_standing_activity, end_follow, effect_of, accept_by}
use Rattle.fedi_town.specs.Forwarding.{is_ours, is_far, has_followers_at, forwards_at, forwards_of}
use Rattle.fedi_town.specs.Ids.{actor_id, activity_id, object_id, is_of_host}
use Rattle.fedi_town.specs.Lists.{differs}
use Rattle.fedi_town.specs.Objects.{makes, is_deleted, change_object, replace_object, tombstone_of, rewrite_act}
use Rattle.fedi_town.specs.Queues.{is_of_pair, progress_of, sends, is_at_peer, deliveries_of, is_due_in}
use Rattle.fedi_town.specs.Relations.{is_about, has_activity_id, is_actor, is_block_of, has_block_between, is_follow_of, is_open_follow, is_following, followers}
use Rattle.fedi_town.specs.Rules.{broken_about}
use Rattle.fedi_town.specs.Seeing.{is_for_follower, is_follower_from, sees_as, is_of_peer, reaches, sees}
use Rattle.fedi_objects.specs.Limits.{is_text, is_type, is_date}
use Rattle.fedi_town.specs.Showing.{present_object, shown_ref, shown_activity, sight_of}
use Rattle.fedi_town.specs.States.{is_like_of, is_announce_of, has_room, is_locked, follow_state, can_be_undone, state_of}
use Rattle.fedi_town.specs.Towns.{has_name, has_id, has_digest, has_host, is_by}
use Rattle.fedi_town.specs.Boards.{is_board, is_pin, is_pin_of, opens_board}
use Rattle.fedi_laws.specs.ClubBoards.{EmptyBoards, OwnBoards}

pub own_boards : OwnBoards
unfolding digits after_any host_of is_among distinct actor_id activity_id object_id is_of_host differs has_name has_id has_digest has_host is_by is_about has_activity_id is_actor is_block_of has_block_between is_follow_of is_open_follow is_following followers makes is_deleted change_object replace_object tombstone_of rewrite_act is_nobody_here is_recipient addressees implied_recipient complete_recipients is_for_follower is_follower_from sees_as is_of_peer reaches sees present_object shown_ref shown_activity sight_of is_like_of is_announce_of has_room is_locked follow_state can_be_undone state_of is_pending_follow is_standing_activity end_follow effect_of accept_by receive_object is_ours is_far has_followers_at forwards_at forwards_of broken_about is_item is_same_item is_of_pair progress_of sends is_at_peer deliveries_of is_due_in is_text is_type is_date is_board is_pin is_pin_of opens_board
own_boards = record { legal = refl; plain = refl; spelled = refl; added = refl; added_for_ben = refl; page_for_ben = refl; left = refl; left_for_ben = refl; left_for_ana = refl; listed = refl; none_of_ben = refl; none_listed = refl }

pub empty_boards : EmptyBoards
unfolding digits after_any host_of is_among distinct actor_id activity_id object_id is_of_host differs has_name has_id has_digest has_host is_by is_about has_activity_id is_actor is_block_of has_block_between is_follow_of is_open_follow is_following followers makes is_deleted change_object replace_object tombstone_of rewrite_act is_nobody_here is_recipient addressees implied_recipient complete_recipients is_for_follower is_follower_from sees_as is_of_peer reaches sees present_object shown_ref shown_activity sight_of is_like_of is_announce_of has_room is_locked follow_state can_be_undone state_of is_pending_follow is_standing_activity end_follow effect_of accept_by receive_object is_ours is_far has_followers_at forwards_at forwards_of broken_about is_item is_same_item is_of_pair progress_of sends is_at_peer deliveries_of is_due_in is_text is_type is_date is_board is_pin is_pin_of opens_board
empty_boards = record { legal = refl; none = refl; none_listed = refl; one = refl; one_listed = refl }
