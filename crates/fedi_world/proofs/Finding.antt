-- Which attempt or server is found.
use Rattle.std.proofs.Common.{inl, inr, ⊎_elim, zero, suc, nat_eq, eq-eqb, ◌≡◌, ◌≢◌, ℕ, ◌+◌, ◌<◌, ◌≤◌, Bool, true, false, List, [], ◌∷◌, length, Option, Some, None, arith, refl, sym, ap, ◌∙◌, subst}
use Rattle.std.specs.Prelude.{◌⊎◌, slice_get, slice_index_or}
use Rattle.std.proofs.lemmas.Bool.{eqb-true}
use Rattle.fedi_logged.specs.Logs.{MachineLog}
use Rattle.std.specs.Str.{bytes_eq}
use Rattle.fedi_town.specs.Histories.{town}
use Rattle.fedi_town.proofs.Texts.{bytes_eq-is, bytes_eq-same}
use Rattle.fedi_worlds.specs.Worlds.{is_open}
use Rattle.fedi_worlds.proofs.Places.{some_is}
use Rattle.fedi_world.specs.declared.parts.Packet.{Packet}
use Rattle.fedi_world.specs.declared.parts.Pending.{Pending}
use Rattle.fedi_world.specs.Ending.{HasNoOpen, HasNoOpenAt, IsOpenAt, IsOpenOf}
use Rattle.fedi_world.specs.Reading.{IsNowhere}
use Rattle.fedi_world.specs.Scenes.{stage_of}
use Rattle.fedi_world.proofs.Causes.{at_below}
use Rattle.fedi_world.proofs.Spots.{index_is}

-- ---- by its number

pub found_at : (attempts : List Pending) (n : ℕ) (a : Pending) (r : Bool) → n < length attempts → a ≡ slice_index_or attempts n a → r ≡ is_open (stage_of a.stage) → r ≡ true → IsOpenAt attempts n
found_at attempts n a r below is open_is holds = record { attempt = a; there = index_is attempts n a below is; open_yet = sym open_is ∙ holds }

pub shut_at : (attempts : List Pending) (n : ℕ) (a : Pending) (r : Bool) → n < length attempts → a ≡ slice_index_or attempts n a → r ≡ is_open (stage_of a.stage) → r ≡ false → HasNoOpenAt attempts n
shut_at attempts n a r below is open_is fails = λ b at. subst (λ (x : Pending). is_open (stage_of x.stage) ≡ false) (some_is a b (sym (index_is attempts n a below is) ∙ at)) (sym open_is ∙ fails)

pub none_at : (attempts : List Pending) (n : ℕ) → length attempts ≤ n → HasNoOpenAt attempts n
none_at attempts n past = λ b at. absurd (at_below attempts n b at past)

-- ---- by its last request

differ : {A : Type 0} (o : Option A) (x : A) → o ≡ Some x → o ≡ None → ⊥
differ o x is none = cc

pub unsent : (requests : List Packet) (attempts : List Pending) (request : ℕ) → slice_get requests request ≡ None → HasNoOpen requests attempts request
unsent requests attempts request none = λ q a sent there open_yet. absurd (differ (slice_get requests request) q sent none)

pub none_of : (requests : List Packet) (attempts : List Pending) (request : ℕ) (q : Packet) → slice_get requests request ≡ Some q
    → ((a : Pending) → slice_get attempts q.attempt ≡ Some a → is_open (stage_of a.stage) ≡ true → a.request ≢ request) → HasNoOpen requests attempts request
none_of requests attempts request q sent nobody = λ p a sent' there open_yet.
    let same : p ≡ q = some_is p q (sym sent' ∙ sent) in
    nobody a (ap (λ (x : Packet). slice_get attempts x.attempt) (sym same) ∙ there) open_yet

pub no_attempt : (requests : List Packet) (attempts : List Pending) (request : ℕ) (q : Packet) → slice_get requests request ≡ Some q → slice_get attempts q.attempt ≡ None
    → HasNoOpen requests attempts request
no_attempt requests attempts request q sent none = none_of requests attempts request q sent (λ a there open_yet. absurd (differ (slice_get attempts q.attempt) a there none))

pub shut_of : (requests : List Packet) (attempts : List Pending) (request : ℕ) (q : Packet) (a : Pending) → slice_get requests request ≡ Some q → slice_get attempts q.attempt ≡ Some a
    → is_open (stage_of a.stage) ≡ false → HasNoOpen requests attempts request
shut_of requests attempts request q a sent there shut = none_of requests attempts request q sent (λ b there' open_yet.
    let same : b ≡ a = some_is b a (sym there' ∙ there) in
    let clash : true ≡ false = sym open_yet ∙ ap (λ (x : Pending). is_open (stage_of x.stage)) same ∙ shut in absurd cc)

pub other_of : (requests : List Packet) (attempts : List Pending) (request : ℕ) (q : Packet) (a : Pending) → slice_get requests request ≡ Some q → slice_get attempts q.attempt ≡ Some a
    → a.request ≢ request → HasNoOpen requests attempts request
other_of requests attempts request q a sent there other = none_of requests attempts request q sent (λ b there' open_yet last.
    let same : b ≡ a = some_is b a (sym there' ∙ there) in
    other (ap (λ (x : Pending). x.request) (sym same) ∙ last))

-- ---- by its host

pub other_host : (o : Option (List ℕ)) (own text host : List ℕ) (b : Bool) → o ≡ Some own → text ≡ own → b ≡ bytes_eq text host → b ≡ false → o ≢ Some host
other_host o own text host b is text_is eq fails same =
    let one : own ≡ host = some_is own host (sym is ∙ same) in
    let clash : true ≡ false = sym (bytes_eq-same host) ∙ (ap (λ (t : List ℕ). bytes_eq t host) (sym (text_is ∙ one)) ∙ (sym eq ∙ fails)) in cc

pub same_host : (o : Option (List ℕ)) (own text host : List ℕ) (b : Bool) → o ≡ Some own → text ≡ own → b ≡ bytes_eq text host → b ≡ true → o ≡ Some host
same_host o own text host b is text_is eq holds = is ∙ ap (λ (t : List ℕ). Some t) (sym text_is ∙ bytes_eq-is text host (sym eq ∙ holds))

-- one more server has another host
pub next_nowhere : {P : Type 0} (seats : List (MachineLog P)) (host : List ℕ) (n : ℕ) (m : MachineLog P) → n < length seats → m ≡ slice_index_or seats n m
    → ((town m.core.history).host ≢ Some host)
    → ((k : ℕ) (x : MachineLog P) → k < n → slice_get seats k ≡ Some x → (town x.core.history).host ≢ Some host)
    → (k : ℕ) (x : MachineLog P) → k < n + 1 → slice_get seats k ≡ Some x → (town x.core.history).host ≢ Some host
next_nowhere {P} seats host n m below is other before k x less at =
    ⊎_elim (λ (earlier : k < n). before k x earlier at)
    (λ (here : k ≡ n). λ same.
    let one : m ≡ x = some_is m x (sym (index_is seats n m below is) ∙ (ap (λ (j : ℕ). slice_get seats j) (sym here) ∙ at)) in
    other (ap (λ (y : MachineLog P). (town y.core.history).host) one ∙ same))
    (split k n less)
  where
    split : (k n : ℕ) → k < n + 1 → (k < n) ⊎ (k ≡ n)
    split k n less = by (nat_eq k n) refl
      where
        by : (b : Bool) → nat_eq k n ≡ b → (k < n) ⊎ (k ≡ n)
        by true same = inr (eqb-true k n same)
        by false apart = inl (let other : k ≢ n = λ same. let clash : true ≡ false = sym (eq-eqb k n same) ∙ apart in cc in omega (arith, less, other))

pub all_nowhere : {P : Type 0} (seats : List (MachineLog P)) (host : List ℕ) (n : ℕ) → length seats ≤ n
    → ((k : ℕ) (x : MachineLog P) → k < n → slice_get seats k ≡ Some x → (town x.core.history).host ≢ Some host) → IsNowhere seats host
all_nowhere {P} seats host n past none k x at = none k x (inside seats k x n at past) at
  where
    inside : (xs : List (MachineLog P)) (k : ℕ) (x : MachineLog P) (n : ℕ) → slice_get xs k ≡ Some x → length xs ≤ n → k < n
    inside [] k x n at past = absurd cc
    inside (y ∷ xs) zero x n at past = omega (arith, past)
    inside (y ∷ xs) (suc k) x zero at past = absurd (omega (arith, past))
    inside (y ∷ xs) (suc k) x (suc n) at past = let rest = inside xs k x n at (omega (arith, past)) in omega (arith, rest)
