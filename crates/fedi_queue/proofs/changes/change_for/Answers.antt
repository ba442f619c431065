use Rattle.std.proofs.Common.{◌≡◌, true, inl, inr, ap, ◌∙◌, length, Option, refl}
use Rattle.fedi_effects.specs.Holdings.{coming}
use Rattle.fedi_objects.specs.declared.entry.Entry.{Entry}
use Rattle.fedi_queue.proofs.Addressed.{known_at}
use Rattle.fedi_queue.proofs.Fitting.{added_fits, rebuilt_fits}
use Rattle.fedi_queue.proofs.Growing.{is_plain}
use Rattle.fedi_queue.specs.Rows.{rows_from}
use Rattle.fedi_queue.proofs.changes.change_for.Goals as goal
use Rattle.fedi_town.specs.Queues.{is_at_peer}

pub returns-in_ok-rows_of_all-in-PeerSet-clause-fits : goal.returns-in_ok-rows_of_all-in-PeerSet-clause-fits
returns-in_ok-rows_of_all-in-PeerSet-clause-fits c =
    rw c.in-PeerSet.is (rebuilt_fits _ _ _ _ _ _ _ c.in_ok-rows_of_all-in-PeerSet.ensures)

pub returns-in_ok-rows_of_coming-in-Hosted-clause-fits : goal.returns-in_ok-rows_of_coming-in-Hosted-clause-fits
returns-in_ok-rows_of_coming-in-Hosted-clause-fits c =
    let t = c.args.facts.now.town in
    let plain : is_plain c.args.entry.now ≡ true =
    elim c.in-Hosted.is as (λ _. is_plain c.args.entry.now ≡ true) [
      | inl h ↦ rw h.2 refl
      | inr o ↦ elim o as (λ _. is_plain c.args.entry.now ≡ true) [
        | inl h ↦ rw h.4 refl
        | inr p ↦ elim p as (λ _. is_plain c.args.entry.now ≡ true) [ inl h ↦ rw h.4 refl | inr h ↦ rw h.4 refl ]
      ]
    ] in
    added_fits t c.args.entry.now _ (known_at _ _ c.requires.town c.requires.legal) c.requires.admissible plain
    (c.in_ok-rows_of_coming-in-Hosted.ensures ∙ ap (λ (room : Option Entry). rows_from t (is_at_peer t) (length t.acts) (coming t room)) c.requires.room)
