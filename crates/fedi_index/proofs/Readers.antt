-- What a reader knows of an author is true.
use Rattle.std.proofs.Common.{◌≡◌, ℕ, Bool, true, false, List, Option, Some, refl, sym, ap, subst, ◌∙◌, take}
use Rattle.std.specs.Prelude.{slice_get}
use Rattle.fedi_index.specs.Candidates.{belongs, is_candidate}
use Rattle.fedi_index.specs.Readers.{GoesTo, Reading, is_blocked, is_following, reader_id}
use Rattle.fedi_town.specs.declared.act.Act.{Act}
use Rattle.fedi_town.specs.declared.caller.Caller.{Caller}
use Rattle.fedi_town.specs.declared.caller.Caller.TheVariants.{Nobody, Actor, Peer}
use Rattle.fedi_town.specs.declared.caller.Which.{Which}
use Rattle.fedi_town.specs.declared.caller.Which.TheVariants.{Inbox}
use Rattle.fedi_town.specs.Relations.{follows, has_block_between}
use Rattle.fedi_town.specs.Seeing.{is_followed_from}
use Rattle.fedi_town.specs.Towns.{Town}
use Rattle.fedi_visible.specs.Places.{is_first, is_listed}
use Rattle.fedi_visible.proofs.Items.{listed_there}

-- what is looked up of a member who reads
pub block_of_member : (t : Town) (c : Caller) (id : Option (List ℕ)) (member author : List ℕ) → id ≡ reader_id t c → reader_id t c ≡ Some member
    → is_blocked t id author ≡ has_block_between t member author
block_of_member t c id member author is who = ap (λ (o : Option (List ℕ)). is_blocked t o author) (is ∙ who)

pub follow_of_member : (t : Town) (c : Caller) (member author : List ℕ) → reader_id t c ≡ Some member → is_following t c author ≡ follows t member author
follow_of_member t Nobody member author who = absurd cc
follow_of_member t (Actor name) member author who = rw who refl
follow_of_member t (Peer host) member author who = absurd cc

pub follow_of_peer : (t : Town) (c : Caller) (host author : List ℕ) → c ≡ Peer host → is_following t c author ≡ is_followed_from t host author
follow_of_peer t c host author who = rw who refl

-- the candidates of one's own inbox go to oneself
pub all_go : (own : Bool) (id : Option (List ℕ)) (name owner : List ℕ) → (own ≡ true → id ≡ Some owner) → (x : Act) → is_candidate (Inbox name) owner x ≡ true
    → GoesTo own id x
unfolding belongs
all_go true id name owner so x is = rw (so refl) is
all_go false id name owner so x is = tt

-- it is known of the same reader that an activity goes to it
pub goes_on : (own : Bool) (r s : Reading) (x : Act) → r ≡ s → GoesTo own (reader_id r.town r.caller) x → GoesTo own (reader_id s.town s.caller) x
goes_on own r s x same goes = subst (λ (u : Reading). GoesTo own (reader_id u.town u.caller) x) same goes

-- the activity at this position is an item for the reader if it is the first of its item
pub first_for : (t : Town) (c : Caller) (which : Which) (id : List ℕ) (n : ℕ) (x : Act) (r : Reading) → r ≡ record { town = t; caller = c }
    → Some x ≡ slice_get t.acts n → is_listed t c which id n ≡ is_first r.town r.caller which id (take n r.town.acts) x
first_for t c which id n x r is at =
    subst (λ (u : Reading). is_listed t c which id n ≡ is_first u.town u.caller which id (take n u.town.acts) x) (sym is) (listed_there t c which id n x at)
