-- What is heard of a request shows exactly one thing.
use Rattle.std.proofs.Common.{◌≡◌, ℕ, List, Option, Some, None, refl, sym, ap, ◌∙◌, subst}
use Rattle.httparse.specs.Grammar.{status_code}
use Rattle.httparse.proofs.GrammarLemmas.{response_unique}
use Rattle.fedi_objects.specs.declared.entry.Came.{Came}
use Rattle.fedi_objects.specs.declared.entry.What.{What}
use Rattle.fedi_objects.specs.declared.entry.What.TheVariants.{Failed, NoHead, BadActor, Status}
use Rattle.fedi_reading.specs.Bodies.{IsBodyOf}
use Rattle.fedi_delivery.specs.declared.replies.Found.{Found}
use Rattle.fedi_delivery.specs.declared.replies.Found.TheVariants.{Inbox, Ended}
use Rattle.fedi_delivery.specs.Replies.{EndsLookup, EndsPost, HasHead, IsCameOfPost, IsFoundIn, IsShown, NamesInbox, ShowsOnce}

-- a reply has only one head
head_once : (reply : List ℕ) (s t : ℕ) (r q : List ℕ) → HasHead reply s r → HasHead reply t q → (s ≡ t) × (r ≡ q)
head_once reply s t r q x y =
    let same = response_unique reply x.head y.head r q x.reads y.reads in
    (x.status_is ∙ (ap (λ h. status_code h) same.0 ∙ sym y.status_is), same.1)

came_once : (a b : Came) → a.step ≡ b.step → a.what ≡ b.what → a ≡ b
came_once a b step what = λ i. record { step = step i; what = what i }

-- ---- the post

post_ends_once : (reply : List ℕ) (a b : What) → EndsPost reply a → EndsPost reply b → a ≡ b
post_ends_once reply Failed b x y = absurd x
post_ends_once reply NoHead Failed x y = absurd y
post_ends_once reply NoHead NoHead x y = refl
post_ends_once reply NoHead BadActor x y = absurd y
post_ends_once reply NoHead (Status s) x y = absurd (x s y.0 y.1)
post_ends_once reply BadActor b x y = absurd x
post_ends_once reply (Status s) Failed x y = absurd y
post_ends_once reply (Status s) NoHead x y = absurd (y s x.0 x.1)
post_ends_once reply (Status s) BadActor x y = absurd y
post_ends_once reply (Status s) (Status t) x y = ap (λ n. Status n) (head_once reply s t x.0 y.0 x.1 y.1).0

post_once : (row : Option (List ℕ)) (a b : Came) → IsCameOfPost row a → IsCameOfPost row b → a ≡ b
post_once None a b x y = x ∙ sym y
post_once (Some reply) a b x y = came_once a b (x.0 ∙ sym y.0) (post_ends_once reply a.what b.what x.1 y.1)

-- ---- the lookup

lookup_ends_once : (recipient reply : List ℕ) (a b : What) → EndsLookup recipient reply a → EndsLookup recipient reply b → a ≡ b
lookup_ends_once recipient reply Failed b x y = absurd x
lookup_ends_once recipient reply NoHead Failed x y = absurd y
lookup_ends_once recipient reply NoHead NoHead x y = refl
lookup_ends_once recipient reply NoHead BadActor x y = absurd (x 200 y.0 y.1)
lookup_ends_once recipient reply NoHead (Status s) x y = absurd (x s y.0 y.1)
lookup_ends_once recipient reply BadActor Failed x y = absurd y
lookup_ends_once recipient reply BadActor NoHead x y = absurd (y 200 x.0 x.1)
lookup_ends_once recipient reply BadActor BadActor x y = refl
lookup_ends_once recipient reply BadActor (Status s) x y = absurd (y.2 (head_once reply s 200 y.0 x.0 y.1 x.1).0)
lookup_ends_once recipient reply (Status s) Failed x y = absurd y
lookup_ends_once recipient reply (Status s) NoHead x y = absurd (y s x.0 x.1)
lookup_ends_once recipient reply (Status s) BadActor x y = absurd (x.2 (head_once reply s 200 x.0 y.0 x.1 y.1).0)
lookup_ends_once recipient reply (Status s) (Status t) x y = ap (λ n. Status n) (head_once reply s t x.0 y.0 x.1 y.1).0

inbox_once : (recipient r q i j : List ℕ) → r ≡ q → NamesInbox recipient r i → NamesInbox recipient q j → i ≡ j
inbox_once recipient r q i j same x y = cc (same, x.1.1, y.1.1, x.2, y.2)

-- if an inbox is named, the attempt continues
goes_on : (recipient reply inbox : List ℕ) (w : What) → IsShown recipient reply (Inbox inbox) → EndsLookup recipient reply w → ⊥
goes_on recipient reply inbox Failed x y = y
goes_on recipient reply inbox NoHead x y = y 200 x.0 x.1
goes_on recipient reply inbox BadActor x y =
    let same = (head_once reply 200 200 x.0 y.0 x.1 y.1).1 in
    cc (x.2.2, y.2 x.2.0 (subst (λ (r : List ℕ). IsBodyOf r x.2.0) same x.2.1))
goes_on recipient reply inbox (Status s) x y = y.2 (head_once reply s 200 y.0 x.0 y.1 x.1).0

shown_once : (recipient reply : List ℕ) (a b : Found) → IsShown recipient reply a → IsShown recipient reply b → a ≡ b
shown_once recipient reply (Inbox i) (Inbox j) x y =
    ap (λ (k : List ℕ). Inbox k) (inbox_once recipient x.0 y.0 i j (head_once reply 200 200 x.0 y.0 x.1 y.1).1 x.2 y.2)
shown_once recipient reply (Inbox i) (Ended b) x y = absurd (goes_on recipient reply i b.what x y.1)
shown_once recipient reply (Ended a) (Inbox j) x y = absurd (goes_on recipient reply j a.what y x.1)
shown_once recipient reply (Ended a) (Ended b) x y =
    ap (λ (c : Came). Ended c) (came_once a b (x.0 ∙ sym y.0) (lookup_ends_once recipient reply a.what b.what x.1 y.1))

lookup_once : (recipient : List ℕ) (row : Option (List ℕ)) (a b : Found) → IsFoundIn recipient row a → IsFoundIn recipient row b → a ≡ b
lookup_once recipient None a b x y = x ∙ sym y
lookup_once recipient (Some reply) a b x y = shown_once recipient reply a b x y

pub replies_once : ShowsOnce
replies_once = record { lookup = lookup_once; post = post_once }
