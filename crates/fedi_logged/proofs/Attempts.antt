-- Exchanges, one after another, and attempts: their exchanges and outcomes.
use Rattle.std.proofs.Common.{◌≡◌, ℕ, ◌≤◌, arith, List, [], ◌∷◌, ◌++◌, length, Option, Some, None, Result, Ok, Err, refl, sym, ap, subst, ◌∙◌, append_assoc, append-nil}
use Rattle.std.specs.Prelude.{All, IsTrue, map, slice_get}
use Rattle.std.specs.Char.{digit_value, is_ascii_digit}
use Rattle.std.specs.Str.Parse.{digits_value}
use Rattle.std.specs.declared.alloc.AllocError.{AllocError}
use Rattle.std.proofs.lemmas.Bool.{and_parts, leb-true}
use Rattle.std.proofs.lemmas.List.{map-append}
use Rattle.std.proofs.lemmas.List.Sums.{fold-append}
use Rattle.std.proofs.lemmas.Str.{digit_value_digit}
use Rattle.fedi_delivery.specs.declared.replies.Found.{Found}
use Rattle.fedi_delivery.specs.declared.replies.Found.TheVariants.{Inbox, Ended}
use Rattle.fedi_delivery.specs.declared.sending.Outgoing.{Outgoing}
use Rattle.fedi_delivery.specs.Deliveries.{IsOutgoing, post_to}
use Rattle.fedi_delivery.specs.Exchanges.{Exchanges, LooksUp, Posts, Told, asking_for, count_after}
use Rattle.fedi_delivery.specs.Replies.{EndsLookup, EndsPost, HasHead, IsCameOfPost, IsFoundIn, IsLookedUp}
use Rattle.fedi_entry.specs.Fields.{MayCome}
use Rattle.fedi_objects.specs.declared.entry.Came.{Came}
use Rattle.fedi_objects.specs.declared.entry.Sent.{Sent}
use Rattle.fedi_objects.specs.declared.entry.Sent.TheVariants.{Lookup, Post}
use Rattle.fedi_objects.specs.declared.entry.What.{What}
use Rattle.fedi_objects.specs.declared.entry.What.TheVariants.{Failed, NoHead, BadActor, Status}
use Rattle.fedi_outside.specs.Links.{AddsRow}
use Rattle.fedi_town.specs.declared.act.Act.{Act}
use Rattle.fedi_town.specs.Towns.{Town}
use Rattle.fedi_logged.specs.Attempts.{AddsRows, EndsAttempt, Exchange, HasExchanged, IsBegun, IsLookup, ShowsCame, count_after_each}

-- ---- exchanges

rows-none : {A : Type 0} (rows : Option (List A)) → AddsRows rows rows []
rows-none None = tt
rows-none (Some xs) = sym (append-nil xs)

rows-one : {A : Type 0} (before now : Option (List A)) (x : A) → AddsRow before now x → AddsRows before now (x ∷ [])
rows-one before None x row = tt
rows-one None (Some told) x row = absurd row
rows-one (Some before) (Some told) x row = row

rows-more : {A : Type 0} (first before now : Option (List A)) (xs ys : List A) → AddsRows first before xs → AddsRows before now ys → AddsRows first now (xs ++ ys)
rows-more first before None xs ys was more = tt
rows-more first None (Some told) xs ys was more = absurd more
rows-more None (Some before) (Some told) xs ys was more = absurd was
rows-more {A} (Some first) (Some before) (Some told) xs ys was more = more ∙ ap (λ (l : List A). l ++ ys) was ∙ append_assoc first xs ys

pub exchanged_none : (w : Told) → HasExchanged w w []
exchanged_none w = record { asked = rows-none w.asked; heard = rows-none w.heard; faults = refl }

pub exchanged_one : (before now : Told) (x : Exchange) → Exchanges before now x.asking x.heard → HasExchanged before now (x ∷ [])
exchanged_one before now x e = record {
  asked = rows-one before.asked now.asked x.asking e.asked;
  heard = rows-one before.heard now.heard x.heard e.heard;
  faults = e.faults;
}

pub exchanged_more : (first before now : Told) (xs ys : List Exchange) → HasExchanged first before xs → HasExchanged before now ys → HasExchanged first now (xs ++ ys)
exchanged_more first before now xs ys was more = record {
  asked = subst (AddsRows first.asked now.asked) (sym (map-append (λ (x : Exchange). x.asking) xs ys))
      (rows-more first.asked before.asked now.asked (map (λ (x : Exchange). x.asking) xs) (map (λ (x : Exchange). x.asking) ys) was.asked more.asked);
  heard = subst (AddsRows first.heard now.heard) (sym (map-append (λ (x : Exchange). x.heard) xs ys))
      (rows-more first.heard before.heard now.heard (map (λ (x : Exchange). x.heard) xs) (map (λ (x : Exchange). x.heard) ys) was.heard more.heard);
  faults = more.faults ∙ ap (λ (n : ℕ). count_after_each n ys) was.faults
      ∙ sym (fold-append (λ (n : ℕ) (x : Exchange). count_after x.heard n) first.faults xs ys);
}

-- an attempt that was finished was begun
pub shown_begun : (t : Town) (id recipient : List ℕ) (exchanges : List Exchange) (came : Came) → ShowsCame t id recipient exchanges came → IsBegun t id recipient exchanges
shown_begun t id recipient [] came shows = absurd shows
shown_begun t id recipient (l ∷ []) came shows = shows.0
shown_begun t id recipient (l ∷ p ∷ []) came shows = (shows.0, shows.1, shows.2, shows.3)
shown_begun t id recipient (l ∷ p ∷ x ∷ xs) came shows = absurd shows

-- ---- the possible outcomes

digit-most : (c : ℕ) → IsTrue (is_ascii_digit c) → digit_value c ≤ 9
digit-most c is =
    let parts = and_parts _ _ is in
    let low : 48 ≤ c = leb-true 48 c parts.0 in
    let high : c ≤ 57 = leb-true c 57 parts.1 in
    omega (arith, high, digit_value_digit c (low, high))

three-most : (ds : List ℕ) → length ds ≡ 3 → All (λ b. IsTrue (is_ascii_digit b)) ds → digits_value 10 ds ≤ 999
three-most [] three all = absurd (omega (arith, three))
three-most (a ∷ []) three all = absurd (omega (arith, three))
three-most (a ∷ b ∷ []) three all = absurd (omega (arith, three))
three-most (a ∷ b ∷ c ∷ []) three all =
    omega (arith, digit-most a (all 0 0 (omega arith)), digit-most b (all 1 0 (omega arith)), digit-most c (all 2 0 (omega arith)))
three-most (a ∷ b ∷ c ∷ d ∷ ds) three all = absurd (omega (arith, three))

-- a status has three digits
status-may : (step : Sent) (reply rest : List ℕ) (status : ℕ) → HasHead reply status rest → MayCome step (Status status)
status-may Lookup reply rest status h = (h.known, let most = three-most h.head.digits h.reads.0.digits.0 h.reads.0.digits.1 in omega (arith, most, h.status_is))
status-may Post reply rest status h = (h.known, let most = three-most h.head.digits h.reads.0.digits.0 h.reads.0.digits.1 in omega (arith, most, h.status_is))

-- the outcome of a lookup
pub lookup_may : (recipient : List ℕ) (row : Option (List ℕ)) (came : Came) → IsFoundIn recipient row (Ended came) → MayCome came.step came.what
lookup_may recipient None came shows = let is : came ≡ record { step = Lookup; what = Failed } = cc in rw is tt
lookup_may recipient (Some reply) came shows = of came.step came.what shows.0 shows.1
  where
    of : (step : Sent) (what : What) → step ≡ Lookup → EndsLookup recipient reply what → MayCome step what
    of step Failed is ends = absurd ends
    of Lookup NoHead is ends = tt
    of Post NoHead is ends = tt
    of Lookup BadActor is ends = tt
    of Post BadActor is ends = absurd cc
    of step (Status status) is ends = status-may step reply ends.0 status ends.1

-- the outcome of a post
pub post_may : (row : Option (List ℕ)) (came : Came) → IsCameOfPost row came → MayCome came.step came.what
post_may None came shows = rw shows tt
post_may (Some reply) came shows = of came.step came.what shows.0 shows.1
  where
    of : (step : Sent) (what : What) → step ≡ Post → EndsPost reply what → MayCome step what
    of step Failed is ends = absurd ends
    of Lookup NoHead is ends = tt
    of Post NoHead is ends = tt
    of step BadActor is ends = absurd ends
    of step (Status status) is ends = status-may step reply ends.0 status ends.1

-- ---- the exchanges of an attempt

-- the lookup was sent
record Looked (t : Town) (recipient : List ℕ) (asked heard : Told) (result : Result Found AllocError) : Type 0 where
  exchange : Exchange
  lookup : IsLookup t recipient exchange
  shows : IsLookedUp recipient exchange.heard result
  exchanged : HasExchanged asked heard (exchange ∷ [])

looked : (t : Town) (a : Act) (recipient : List ℕ) (o : Outgoing) (address request : List ℕ) (asked heard : Told) (result : Result Found AllocError) → IsOutgoing t a recipient o
    → address ≡ o.address → request ≡ o.lookup.items → LooksUp asked heard (asking_for address request) recipient result → Looked t recipient asked heard result
looked t a recipient o address request asked heard result out is_address is_request l = record {
  exchange = record { asking = asking_for address request; heard = l.row };
  lookup = (out.address ∙ ap (λ (b : List ℕ). Some b) (sym is_address), out.lookup ∙ ap (λ (b : List ℕ). Some b) (sym is_request));
  shows = l.shows;
  exchanged = exchanged_one asked heard (record { asking = asking_for address request; heard = l.row }) l.exchange;
}

-- there was no memory for the requests
pub none_sent : (t : Town) (id recipient : List ℕ) (link : Told) (e : AllocError) → EndsAttempt t id recipient link link (Err e)
none_sent t id recipient link e = ([], tt, exchanged_none link)

-- the reply to the lookup ended the attempt, or there was no memory to read it
pub lookup_ended : (t : Town) (a : Act) (id recipient : List ℕ) (o : Outgoing) (address request : List ℕ) (asked heard : Told) (came : Came) → IsOutgoing t a recipient o
    → address ≡ o.address → request ≡ o.lookup.items → LooksUp asked heard (asking_for address request) recipient (Ok (Ended came)) → EndsAttempt t id recipient asked heard (Ok came)
lookup_ended t a id recipient o address request asked heard came out is_address is_request l =
    let x = looked t a recipient o address request asked heard (Ok (Ended came)) out is_address is_request l in
    (x.exchange ∷ [], (x.lookup, x.shows), x.exchanged)

pub lookup_begun : (t : Town) (a : Act) (id recipient : List ℕ) (o : Outgoing) (address request : List ℕ) (asked heard : Told) (result : Result Found AllocError) (e : AllocError)
    → IsOutgoing t a recipient o → address ≡ o.address → request ≡ o.lookup.items → LooksUp asked heard (asking_for address request) recipient result
    → EndsAttempt t id recipient asked heard (Err e)
lookup_begun t a id recipient o address request asked heard result e out is_address is_request l =
    let x = looked t a recipient o address request asked heard result out is_address is_request l in
    (x.exchange ∷ [], x.lookup, x.exchanged)

-- the inbox was found, and the activity was posted to it
pub post_ended : (t : Town) (a : Act) (k : ℕ) (id recipient inbox : List ℕ) (o : Outgoing) (address request post : List ℕ) (asked heard later : Told) (came : Came)
    → IsOutgoing t a recipient o → slice_get t.acts k ≡ Some a → a.activity.id ≡ Some id → address ≡ o.address → request ≡ o.lookup.items
    → Some post ≡ post_to t recipient inbox o.body.items → LooksUp asked heard (asking_for address request) recipient (Ok (Inbox inbox))
    → Posts heard later (asking_for address post) came → EndsAttempt t id recipient asked later (Ok came)
post_ended t a k id recipient inbox o address request post asked heard later came out got named is_address is_request is_post l p =
    let x = looked t a recipient o address request asked heard (Ok (Inbox inbox)) out is_address is_request l in
    let y : Exchange = record { asking = asking_for address post; heard = p.row } in (
      x.exchange ∷ y ∷ [],
      (
        inbox,
        x.lookup,
        x.shows,
        (
          k,
          a,
          got,
          named,
          out.address ∙ ap (λ (b : List ℕ). Some b) (sym is_address),
          ap (λ (b : List ℕ). post_to t recipient inbox b) (sym out.body) ∙ sym is_post,
        ),
        p.shows,
      ),
      exchanged_more asked heard later (x.exchange ∷ []) (y ∷ []) x.exchanged (exchanged_one heard later y p.exchange),
    )
