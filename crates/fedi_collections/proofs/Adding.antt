-- Tokens that are written one after the other.
use Rattle.std.proofs.Common.{◌≡◌, ℕ, subst, List, [], ◌∷◌, ◌++◌, Result, Ok, Err, OnOk}
use Rattle.std.proofs.lemmas.List.{flat_map_more}
use Rattle.std.specs.List.{flat_map}
use Rattle.json.specs.Token.{Token}
use Rattle.json.specs.Written.{Written, Writes}
use Rattle.fedi_objects.proofs.Additions.{then}
use Rattle.fedi_objects.specs.Writing.{Adds}

-- one token was written
pub one_added : {x y : Written} (t : Token) {E : Type 0} (r : Result (Unit {0}) E) → Writes r x y t → OnOk r (Adds (t ∷ []) x y)
one_added t (Ok u) w = record { tokens = w.ok; before = w.room.0 }
one_added t (Err e) w = tt

-- one after the other, if the second may fail
pub then_added : {x y : Written} (ts us : List Token) (z : Written) → Adds ts x y → {E : Type 0} (r : Result (Unit {0}) E) → OnOk r (Adds us y z)
    → OnOk r (Adds (ts ++ us) x z)
then_added ts us z a (Ok u) b = then a b
then_added ts us z a (Err e) b = tt

-- the same tokens, under another name
pub added_as : {x y : Written} (tokens : List ℕ → List Token) (a b : List ℕ) → a ≡ b → Adds (tokens a) x y → Adds (tokens b) x y
added_as {x} {y} tokens a b same = subst (λ text. Adds (tokens text) x y) same

-- more, after what was written in a loop
pub more_added : {A : Type 0} {x y : Written} (before : List Token) (tokens : A → List Token) (done : List A) (next : A) (z : Written)
    → Adds (before ++ flat_map tokens done) x y → Adds (tokens next) y z → Adds (before ++ flat_map tokens (done ++ next ∷ [])) x z
more_added {A} {x} {y} before tokens done next z a b =
    subst (λ ts. Adds ts x z) (flat_map_more tokens before done next) (then a b)
