-- Nobody who does not see a member's Follow sees the Accept that follows it.
use Rattle.std.proofs.Common.{◌≡◌, ℕ, Bool, true, false, List, [], ◌∷◌, Option, Some, None, ◌⊎◌, ⊎_elim, inl, inr, refl, sym, subst, ◌∙◌}
use Rattle.std.specs.Prelude.{◌&&◌, ◌||◌, not, cond}
use Rattle.std.specs.List.{list_any}
use Rattle.std.specs.Str.{bytes_eq}
use Rattle.fedi_address.specs.Recipients.{distinct, is_among}
use Rattle.fedi_town.proofs.Lists.{first_none, other_none}
use Rattle.fedi_town.proofs.Reached.{Reaches}
use Rattle.fedi_town.specs.Addressing.{is_recipient, addressees, recipients_with}
use Rattle.fedi_town.specs.Effects.{to_one}
use Rattle.fedi_town.specs.Ids.{followers_id}
use Rattle.fedi_town.specs.Relations.{has_block_between, follows}
use Rattle.fedi_town.specs.Seeing.{sees, sees_as, sees_with, reaches, is_of_peer, is_for_follower}
use Rattle.fedi_town.specs.Towns.{Town, id_of, is_by}
use Rattle.fedi_town.specs.declared.act.Act.{Act}
use Rattle.fedi_town.specs.declared.caller.Caller.{Caller}
use Rattle.fedi_town.specs.declared.caller.Caller.TheVariants.{Nobody, Actor, Peer}
use Rattle.fedi_town.proofs.Texts.{is_false, not_both, bytes_eq-is, bytes_eq-same, or_true, or_no}

-- it goes to the follower, or to nobody
pub to_follower : (u : Town) (b follower : List ℕ) → bytes_eq follower (followers_id b) ≡ false
    → (recipients_with u b (to_one follower) [] ≡ follower ∷ []) ⊎ (recipients_with u b (to_one follower) [] ≡ [])
unfolding addressees distinct is_among
to_follower u b follower one =
    rw one
    (elim (is_recipient u b follower) as (λ s. (distinct (cond s (follower ∷ []) []) ≡ follower ∷ []) ⊎ (distinct (cond s (follower ∷ []) []) ≡ [])) [
      | true ↦ inl refl
      | false ↦ inr refl
    ])

-- what the caller would need to see it
pub record IsHidden (t : Town) (x : Act) (follower b : List ℕ) (z : Act) : Type 0 where
  pub author : z.author ≡ b
  pub followed_by : x.author ≡ follower
  pub open_to_none : z.is_public ≡ false
  pub for_none : z.for_followers ≡ false
  pub to : (z.recipients ≡ follower ∷ []) ⊎ (z.recipients ≡ [])
  pub reaching : Reaches t follower b x

or_true2 : (a b : Bool) → (a || (true && (b || true))) ≡ true
or_true2 true b = refl
or_true2 false b = or_true b

-- the followed one sees the Follow
followed_sees : (t : Town) (x : Act) (follower b : List ℕ) → x.author ≡ follower → Reaches t follower b x → sees_as t b x ≡ true
unfolding sees_as is_by is_for_follower
followed_sees t x follower b own r =
    rw (own, r.free) (elim r.is as (λ _. (bytes_eq follower b || (true && (x.is_public || (is_among b x.recipients || (x.for_followers && follows t b follower))))) ≡ true) [
      | inl public ↦ rw public (or_true (bytes_eq follower b))
      | inr (inl self) ↦ rw (bytes_eq-is b follower self, bytes_eq-same follower) refl
      | inr (inr to) ↦ rw to (or_true2 (bytes_eq follower b) x.is_public)
    ])

none_at_all : (id : List ℕ) → is_among id [] ≡ false
unfolding is_among
none_at_all id = refl

among_one : (id one : List ℕ) → is_among id (one ∷ []) ≡ bytes_eq one id
unfolding is_among
among_one id one = or_no (bytes_eq one id)

-- ---- a member

hidden_by : (a m p q w v : Bool) → a ≡ false → p ≡ false → q ≡ false → w ≡ false → (a || (not m && (p || (q || (w && v))))) ≡ false
hidden_by a true p q w v x y z f = rw x refl
hidden_by a false p q w v x y z f = rw (x, y, z, f) refl

not_by : (t : Town) (x z : Act) (follower b id : List ℕ) → IsHidden t x follower b z → sees_as t id x ≡ false → is_by id z ≡ true → ⊥
unfolding is_by
not_by t x z follower b id h unseen own =
    let same : b ≡ id = sym h.author ∙ bytes_eq-is z.author id own in
    not_both (sees_as t id x) (subst (λ (i : List ℕ). sees_as t i x ≡ true) same (followed_sees t x follower b h.followed_by h.reaching)) unseen

own_sees : (t : Town) (id : List ℕ) (x : Act) → bytes_eq x.author id ≡ true → sees_as t id x ≡ true
unfolding sees_as is_by
own_sees t id x own = rw own refl

not_to : (t : Town) (x z : Act) (follower b id : List ℕ) → IsHidden t x follower b z → sees_as t id x ≡ false → is_among id z.recipients ≡ false
not_to t x z follower b id h unseen =
    ⊎_elim (λ (one : z.recipients ≡ follower ∷ []). rw (one, among_one id follower) (is_false (bytes_eq follower id)
    (λ own. not_both (sees_as t id x) (own_sees t id x (rw h.followed_by own)) unseen)))
    (λ (none : z.recipients ≡ []). rw (none, none_at_all id) refl) h.to

hidden_as : (t : Town) (x z : Act) (follower b id : List ℕ) → IsHidden t x follower b z → sees_as t id x ≡ false → sees_as t id z ≡ false
unfolding sees_as is_for_follower
hidden_as t x z follower b id h unseen =
    hidden_by (is_by id z) (has_block_between t id z.author) z.is_public (is_among id z.recipients) z.for_followers (follows t id z.author)
    (is_false (is_by id z) (not_by t x z follower b id h unseen)) h.open_to_none (not_to t x z follower b id h unseen) h.for_none

hidden_with : (t : Town) (x z : Act) (follower b : List ℕ) (id : Option (List ℕ)) → IsHidden t x follower b z → sees_with t id x ≡ false → sees_with t id z ≡ false
hidden_with t x z follower b None h unseen = h.open_to_none
hidden_with t x z follower b (Some id) h unseen = hidden_as t x z follower b id h unseen

-- ---- a peer

among_any : (p : List ℕ → Bool) (b : List ℕ) (rs : List (List ℕ)) → p b ≡ true → is_among b rs ≡ true → list_any p rs ≡ true
unfolding is_among
among_any p b [] passes there = absurd cc
among_any p b (r ∷ rs) passes there =
    elim (bytes_eq r b) as (λ s. bytes_eq r b ≡ s → list_any p (r ∷ rs) ≡ true) [
      | true ↦ λ e. rw (bytes_eq-is r b e, passes) refl
      | false ↦ λ e. let rest : is_among b rs ≡ true = rw e at there in rw (among_any p b rs passes rest) (or_true (p r))
    ] refl

-- what a peer does not see
record IsUnseenBy (t : Town) (host : List ℕ) (x : Act) : Type 0 where
  hidden : x.is_public ≡ false
  other : is_of_peer host x.author ≡ false
  none : list_any (reaches t host x.author) x.recipients ≡ false

unseen_by : (t : Town) (host : List ℕ) (x : Act) → sees t (Peer host) x ≡ false → IsUnseenBy t host x
unfolding sees
unseen_by t host x unseen =
    let rest = other_none x.is_public _ unseen in record {
      hidden = first_none x.is_public _ unseen;
      other = first_none (is_of_peer host x.author) _ rest;
      none = first_none (list_any (reaches t host x.author) x.recipients) _ (other_none (is_of_peer host x.author) _ rest);
    }

not_of_peer : (t : Town) (host : List ℕ) (x : Act) (follower b : List ℕ) → x.author ≡ follower → Reaches t follower b x → IsUnseenBy t host x → is_of_peer host b ≡ true → ⊥
unfolding reaches
not_of_peer t host x follower b own r u of_peer =
    ⊎_elim (λ (p : x.is_public ≡ true). not_both x.is_public p u.hidden)
    (λ (q : (bytes_eq b follower ≡ true) ⊎ (is_among b x.recipients ≡ true)). ⊎_elim (λ (p : bytes_eq b follower ≡ true). not_both (is_of_peer host x.author) (rw (own, ← (bytes_eq-is b follower p)) of_peer) u.other)
    (λ (p : is_among b x.recipients ≡ true). not_both (list_any (reaches t host x.author) x.recipients)
    (among_any (reaches t host x.author) b x.recipients (rw (of_peer, own, r.free) refl) p) u.none) q) r.is

none_reached : (t : Town) (host : List ℕ) (x z : Act) (follower b : List ℕ) → IsHidden t x follower b z → IsUnseenBy t host x → list_any (reaches t host z.author) z.recipients ≡ false
unfolding reaches
none_reached t host x z follower b h u =
    ⊎_elim (λ (one : z.recipients ≡ follower ∷ []). let other : is_of_peer host follower ≡ false = rw h.followed_by at u.other in rw (one, other) refl)
    (λ (none : z.recipients ≡ []). rw none refl) h.to

hidden_from : (t : Town) (host : List ℕ) (x z : Act) (follower b : List ℕ) → IsHidden t x follower b z → sees t (Peer host) x ≡ false → sees t (Peer host) z ≡ false
unfolding sees
hidden_from t host x z follower b h unseen =
    let u : IsUnseenBy t host x = unseen_by t host x unseen in
    let other : is_of_peer host z.author ≡ false = rw h.author (is_false (is_of_peer host b) (not_of_peer t host x follower b h.followed_by h.reaching u)) in
    rw (h.open_to_none, other, none_reached t host x z follower b h u, h.for_none) refl

-- Whoever does not see the Follow does not see its Accept.
pub hidden_too : (t : Town) (c : Caller) (x z : Act) (follower b : List ℕ) → IsHidden t x follower b z → sees t c x ≡ false → sees t c z ≡ false
unfolding sees
hidden_too t Nobody x z follower b h unseen = h.open_to_none
hidden_too t (Actor name) x z follower b h unseen = hidden_with t x z follower b (id_of t name) h unseen
hidden_too t (Peer host) x z follower b h unseen = hidden_from t host x z follower b h unseen
