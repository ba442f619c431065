-- Activities that block nobody.
use Rattle.std.proofs.Common.{◌≡◌, ℕ, Bool, true, false, List, [], ◌∷◌, ◌++◌, Option, Some, None, refl, ◌∙◌}
use Rattle.std.specs.Prelude.{◌&&◌, ◌||◌, not}
use Rattle.std.specs.List.{list_any}
use Rattle.std.proofs.lemmas.List.Folds.{list_any-append}
use Rattle.fedi_town.proofs.Lists.{first_none, other_none, or_none, list_any-agree}
use Rattle.fedi_town.specs.Relations.{is_block_of, blocks, has_block_between, is_about, is_follow_of, is_following, follows}
use Rattle.fedi_town.specs.Seeing.{sees, sees_as, sees_with, reaches, is_of_peer, is_for_follower, is_follower_from, is_followed_from}
use Rattle.fedi_town.specs.Towns.{Town, id_of, is_by}
use Rattle.fedi_town.specs.declared.act.Act.{Act}
use Rattle.fedi_town.specs.declared.caller.Caller.{Caller}
use Rattle.fedi_town.specs.declared.caller.Caller.TheVariants.{Nobody, Actor, Peer}

pub record AreQuiet (xs : List Act) : Type 0 where
  pub quiet : (a b : List ℕ) → list_any (is_block_of a b) xs ≡ false

abbrev pub with_acts : Town → List Act → Town
with_acts t xs = record t { acts = t.acts ++ xs }

pub blocks-quiet : (t : Town) (xs : List Act) → AreQuiet xs → (a b : List ℕ) → blocks (with_acts t xs) a b ≡ blocks t a b
blocks-quiet t xs q a b = list_any-append (is_block_of a b) t.acts xs ∙ or_none (blocks t a b) (list_any (is_block_of a b) xs) (q.quiet a b)

pub is_between-quiet : (t : Town) (xs : List Act) → AreQuiet xs → (a b : List ℕ) → has_block_between (with_acts t xs) a b ≡ has_block_between t a b
unfolding has_block_between
is_between-quiet t xs q a b = rw (blocks-quiet t xs q a b, blocks-quiet t xs q b a) refl

-- ---- Follows, if none of the new activities is seen

-- if one test passes, another does too
none_of : {A : Type 0} (p s : A → Bool) → ((x : A) → p x ≡ true → s x ≡ true) → (xs : List A) → list_any s xs ≡ false → list_any p xs ≡ false
none_of p s all [] none = refl
none_of p s all (x ∷ xs) none =
    let here : s x ≡ false = first_none (s x) (list_any s xs) none in
    elim (p x) as (λ b. p x ≡ b → (b || list_any p xs) ≡ false) [
      | true ↦ λ e. absurd (let f : s x ≡ true = all x e in cc)
      | false ↦ λ e. none_of p s all xs (other_none (s x) (list_any s xs) none)
    ] refl

inner_true : (a b c : Bool) → (a && (b && c)) ≡ true → b ≡ true
inner_true true true c e = refl
inner_true true false c e = absurd cc
inner_true false b c e = absurd cc

own_follow : (t : Town) (id a : List ℕ) (x : Act) → is_follow_of id a x ≡ true → sees_as t id x ≡ true
unfolding is_follow_of sees_as
own_follow t id a x e = rw (inner_true _ (is_by id x) (is_about a x) e) refl

follows-quiet : (t : Town) (xs : List Act) (id a : List ℕ) → list_any (sees_as t id) xs ≡ false → follows (with_acts t xs) id a ≡ follows t id a
follows-quiet t xs id a unseen =
    list_any-append (is_follow_of id a) t.acts xs
    ∙ or_none (follows t id a) (list_any (is_follow_of id a) xs) (none_of (is_follow_of id a) (sees_as t id) (own_follow t id a) xs unseen)

sees_as-quiet : (t : Town) (xs : List Act) → AreQuiet xs → (id : List ℕ) → list_any (sees_as t id) xs ≡ false → (x : Act) → sees_as (with_acts t xs) id x ≡ sees_as t id x
unfolding sees_as is_for_follower
sees_as-quiet t xs q id unseen x = rw (is_between-quiet t xs q id x.author, follows-quiet t xs id x.author unseen) refl

reaches-quiet : (t : Town) (xs : List Act) → AreQuiet xs → (host author recipient : List ℕ) → reaches (with_acts t xs) host author recipient ≡ reaches t host author recipient
unfolding reaches
reaches-quiet t xs q host author recipient = rw (is_between-quiet t xs q recipient author) refl

follower-quiet : (t : Town) (xs : List Act) → AreQuiet xs → (host author : List ℕ) (f : Act) → is_follower_from (with_acts t xs) host author f ≡ is_follower_from t host author f
unfolding is_follower_from
follower-quiet t xs q host author f = rw (reaches-quiet t xs q host author f.author) refl

second_true : (a b : Bool) → (a && b) ≡ true → b ≡ true
second_true true b e = e
second_true false b e = absurd cc

pub first_true : (a b : Bool) → (a && b) ≡ true → a ≡ true
first_true true b e = refl
first_true false b e = absurd cc

peer_sees : (p of_peer c : Bool) → of_peer ≡ true → (p || (of_peer || c)) ≡ true
peer_sees true b c e = refl
peer_sees false b c e = rw e refl

own_follower : (t : Town) (host author : List ℕ) (f : Act) → is_follower_from t host author f ≡ true → sees t (Peer host) f ≡ true
unfolding is_follower_from reaches sees
own_follower t host author f e =
    peer_sees f.is_public (is_of_peer host f.author) _ (first_true (is_of_peer host f.author) _ (second_true (is_following author f) _ e))

followers-quiet : (t : Town) (xs : List Act) → AreQuiet xs → (host author : List ℕ) → list_any (sees t (Peer host)) xs ≡ false
    → is_followed_from (with_acts t xs) host author ≡ is_followed_from t host author
followers-quiet t xs q host author unseen =
    list_any-agree (is_follower_from (with_acts t xs) host author) (is_follower_from t host author) (follower-quiet t xs q host author) (t.acts ++ xs)
    ∙ list_any-append (is_follower_from t host author) t.acts xs
    ∙ or_none (list_any (is_follower_from t host author) t.acts) (list_any (is_follower_from t host author) xs)
    (none_of (is_follower_from t host author) (sees t (Peer host)) (own_follower t host author) xs unseen)

sees_with-quiet : (t : Town) (xs : List Act) → AreQuiet xs → (id : Option (List ℕ)) → list_any (sees_with t id) xs ≡ false → (x : Act) → sees_with (with_acts t xs) id x ≡ sees_with t id x
sees_with-quiet t xs q None unseen x = refl
sees_with-quiet t xs q (Some id) unseen x = sees_as-quiet t xs q id unseen x

-- what the caller sees of the others stays the same if the caller sees none of the new ones
pub sees-quiet : (t : Town) (xs : List Act) → AreQuiet xs → (c : Caller) → list_any (sees t c) xs ≡ false → (x : Act) → sees (with_acts t xs) c x ≡ sees t c x
unfolding sees
sees-quiet t xs q Nobody unseen x = refl
sees-quiet t xs q (Actor name) unseen x = sees_with-quiet t xs q (id_of t name) unseen x
sees-quiet t xs q (Peer host) unseen x =
    rw (
      list_any-agree (reaches (with_acts t xs) host x.author) (reaches t host x.author) (reaches-quiet t xs q host x.author) x.recipients,
      followers-quiet t xs q host x.author unseen,
    ) refl
