-- A peer and this host do not change, so the post for a recipient does not either.
use Rattle.std.proofs.Common.{◌≡◌, ℕ, Bool, true, false, List, [], ◌∷◌, ◌++◌, Option, Some, None, is_some, refl, sym, ap, subst, ◌∙◌, append-nil, append_assoc}
use Rattle.std.specs.Prelude.{IsTrue, if◌then◌else◌}
use Rattle.std.specs.List.{find, fold}
use Rattle.std.proofs.lemmas.Bool.{and_parts}
use Rattle.std.proofs.lemmas.List.Sums.{fold-append}
use Rattle.fedi_address.specs.Iris.{host_of}
use Rattle.fedi_delivery.specs.Deliveries.{lookup_by, lookup_to, peer_for, post_by, post_to}
use Rattle.fedi_log.specs.Log.{Log, history_of}
use Rattle.fedi_log.proofs.Growing.{history_append}
use Rattle.fedi_log.specs.declared.items.Pair.{Pair}
use Rattle.fedi_objects.specs.declared.entry.Entry.{Entry}
use Rattle.fedi_town.specs.declared.addition.Addition.{Addition}
use Rattle.fedi_town.specs.declared.addition.Addition.TheVariants as additions
use Rattle.fedi_town.specs.declared.act.Peer.{Peer}
use Rattle.fedi_town.specs.Histories.{addition_of, step, town, with_addition}
use Rattle.fedi_town.specs.Legal.{IsLegal}
use Rattle.fedi_town.specs.Towns.{Town, empty_town, has_host}
use Rattle.fedi_logged.specs.Claiming.{IsPostSince}
use Rattle.fedi_logged.proofs.Hosts.{host_stays}

-- ---- peers are only added

-- these peers, followed by more
record HasMore (before after : List Peer) : Type 0 where
  more : List Peer
  is : after ≡ before ++ more

none_more : (peers : List Peer) → HasMore peers peers
none_more peers = record { more = []; is = sym (append-nil peers) }

added : (t : Town) (a : Addition) → HasMore t.peers (with_addition t a).peers
added t additions.Nothing = none_more t.peers
added t (additions.Host host) = none_more t.peers
added t (additions.Member member) = none_more t.peers
added t (additions.Peer peer) = record { more = peer ∷ []; is = refl }
added t (additions.Activity a) = none_more t.peers
added t (additions.Inbox id owner) = none_more t.peers
added t (additions.Attempt attempt) = none_more t.peers

all_added : (t : Town) (h : List Entry) → HasMore t.peers (fold step t h).peers
all_added t [] = none_more t.peers
all_added t (e ∷ h) =
    let first = added t (addition_of t e) in
    let rest = all_added (step t e) h in
    record {
      more = first.more ++ rest.more;
      is = rest.is ∙ ap (λ (ps : List Peer). ps ++ rest.more) first.is ∙ append_assoc t.peers first.more rest.more;
    }

found_first : (p : Peer → Bool) (xs ys : List Peer) → is_some (find p xs) ≡ true → find p (xs ++ ys) ≡ find p xs
found_first p [] ys some = absurd cc
found_first p (x ∷ xs) ys some =
    elim (p x) as (λ b. is_some (if b then Some x else find p xs) ≡ true → (if b then Some x else find p (xs ++ ys)) ≡ (if b then Some x else find p xs)) [
      | true ↦ λ s. refl
      | false ↦ λ s. found_first p xs ys s
    ] some

peer_stays : (a b : List Entry) (recipient : List ℕ) → is_some (peer_for (town a) recipient) ≡ true → peer_for (town (a ++ b)) recipient ≡ peer_for (town a) recipient
unfolding peer_for
peer_stays a b recipient some =
    let grown = all_added (town a) b in
    ap (λ (t : Town). find (has_host (host_of recipient)) t.peers) (fold-append step empty_town a b)
    ∙ ap (find (has_host (host_of recipient))) grown.is
    ∙ found_first (has_host (host_of recipient)) (town a).peers grown.more some

-- ---- the post

both_some : (own : Option (List ℕ)) (p : Option Peer) (recipient : List ℕ) → is_some (lookup_by own p recipient) ≡ true → (is_some own ≡ true) × (is_some p ≡ true)
both_some None p recipient some = absurd cc
both_some (Some own) None recipient some = absurd cc
both_some (Some own) (Some p) recipient some = (refl, refl)

post_stays : (a b : List Entry) (recipient inbox body : List ℕ) → IsLegal (a ++ b) → is_some (lookup_to (town a) recipient) ≡ true
    → post_to (town (a ++ b)) recipient inbox body ≡ post_to (town a) recipient inbox body
post_stays a b recipient inbox body legal some =
    let there = both_some (town a).host (peer_for (town a) recipient) recipient some in
    λ i. post_by (host_stays a b legal there.0 i) (peer_stays a b recipient there.1 i) inbox body

-- the post at this log is the post at each earlier log that had a lookup
pub post_since : (history : List Entry) (log : Log) (p : Pair) (inbox body text : List ℕ) → history ≡ history_of log → IsLegal history
    → Some text ≡ post_to (town history) p.recipient inbox body → IsPostSince log p inbox body text
post_since history log p inbox body text held legal is = λ seen more begins some.
    let grown : history ≡ history_of seen ++ history_of more = held ∙ ap history_of begins ∙ history_append seen more in
    is ∙ ap (λ (h : List Entry). post_to (town h) p.recipient inbox body) grown
    ∙ post_stays (history_of seen) (history_of more) p.recipient inbox body (subst IsLegal grown legal) some
