-- Lemmas on what is taken from a source.
use Rattle.std.proofs.Common.{◌≡◌, ℕ, List, [], ◌++◌, Bool, false, Option, inl, inr, ◌⊎◌, refl, sym, ap, subst, ◌∙◌, append_assoc, append-nil}
use Rattle.std.proofs.KnownBytes.{Consumes-trans, Consumes-nil}
use Rattle.fedi_http.specs.Chunks.{Ending, Part, Tells}
use Rattle.fedi_http.specs.Moves.{Reads, StopsReading}
use Rattle.fedi_http.specs.declared.read_error.ReadError.{ReadError}
use Rattle.fedi_http.specs.declared.read_error.ReadError.TheVariants.{End, CutShort, Refused, ReadFault, Memory}

-- nothing is taken
pub reads_none : {T : Type 0} (left_of : T → Option (List ℕ)) (faults_of : T → ℕ) (beside_of : T → Option (List ℕ) × ℕ) (a : T) (Lacks : Type 0) (P : List ℕ → Type 0)
    → P [] → Reads left_of faults_of beside_of a a false Lacks P
reads_none left_of faults_of beside_of a Lacks P holds =
    record { more = []; taken = Consumes-nil (left_of a); holds = holds; idle = inr (refl, refl); beside = refl; faults = refl }

-- either something was lacking, or both reads took nothing
idle_on : {T : Type 0} (a b c : T) (Lacks Then All : Type 0) (P : List ℕ → Type 0) (m n : List ℕ) → Lacks ⊎ ((b ≡ a) × (m ≡ [])) → P m → Then ⊎ ((c ≡ b) × (n ≡ []))
    → (Lacks → All) → (P [] → Then → All) → All ⊎ ((c ≡ a) × (m ++ n ≡ []))
idle_on a b c Lacks Then All P m n (inl lacks) holds two first second = inl (first lacks)
idle_on a b c Lacks Then All P m n (inr same) holds (inl lacks) first second = inl (second (subst P same.1 holds) lacks)
idle_on a b c Lacks Then All P m n (inr same) holds (inr also) first second =
    inr (also.0 ∙ same.0, ap (λ (l : List ℕ). l ++ n) same.1 ∙ also.1)

-- bytes are taken, and then more; the first reads do not fail
pub reads_then : {T : Type 0} (left_of : T → Option (List ℕ)) (faults_of : T → ℕ) (beside_of : T → Option (List ℕ) × ℕ) (a b c : T) (failed : Bool)
    (Lacks Then All : Type 0) (P Q R : List ℕ → Type 0) → Reads left_of faults_of beside_of a b false Lacks P → Reads left_of faults_of beside_of b c failed Then Q
    → (Lacks → All) → (P [] → Then → All) → ((m n : List ℕ) → P m → Q n → R (m ++ n)) → Reads left_of faults_of beside_of a c failed All R
reads_then left_of faults_of beside_of a b c failed Lacks Then All P Q R one two first second join = record {
  more = one.more ++ two.more;
  taken = Consumes-trans (left_of a) (left_of b) (left_of c) one.more two.more one.taken two.taken;
  holds = join one.more two.more one.holds two.holds;
  idle = idle_on a b c Lacks Then All P one.more two.more one.idle one.holds two.idle first second;
  beside = two.beside ∙ one.beside;
  faults = rw one.faults at two.faults;
}

-- the same bytes, with facts that follow
pub reads_as : {T : Type 0} (left_of : T → Option (List ℕ)) (faults_of : T → ℕ) (beside_of : T → Option (List ℕ) × ℕ) (a b : T) (failed : Bool)
    (Lacks All : Type 0) (P Q : List ℕ → Type 0) → Reads left_of faults_of beside_of a b failed Lacks P
    → (Lacks → All) → ((m : List ℕ) → P m → Q m) → Reads left_of faults_of beside_of a b failed All Q
reads_as left_of faults_of beside_of a b failed Lacks All P Q one first then = record {
  more = one.more;
  taken = one.taken;
  holds = then one.more one.holds;
  idle = elim one.idle [ inl lacks ↦ inl (first lacks) | inr same ↦ inr same ];
  beside = one.beside;
  faults = one.faults;
}

-- the pending bytes grew, and grow again if they lacked something
pub grown : {T : Type 0} (left_of : T → Option (List ℕ)) (faults_of : T → ℕ) (beside_of : T → Option (List ℕ) × ℕ) (a b c : T) (failed : Bool)
    (X : List ℕ → Type 0) (p q r : List ℕ) → Reads left_of faults_of beside_of a b false (X p) (λ m. q ≡ p ++ m) → X q
    → Reads left_of faults_of beside_of b c failed (Unit {0}) (λ m. r ≡ q ++ m) → Reads left_of faults_of beside_of a c failed (X p) (λ m. r ≡ p ++ m)
grown left_of faults_of beside_of a b c failed X p q r one lacks two =
    reads_then left_of faults_of beside_of a b c failed (X p) (Unit {0}) (X p) (λ m. q ≡ p ++ m) (λ m. r ≡ q ++ m) (λ m. r ≡ p ++ m) one two
    (λ h. h) (λ none _. subst X (none ∙ append-nil p) lacks)
    (λ m n is more. more ∙ ap (λ (l : List ℕ). l ++ n) is ∙ append_assoc p m n)

-- what holds of the pending bytes holds of those that were pending, followed by those that were
-- taken
pub read_of : {T : Type 0} (left_of : T → Option (List ℕ)) (faults_of : T → ℕ) (beside_of : T → Option (List ℕ) × ℕ) (a b : T) (failed : Bool)
    (Lacks : Type 0) (p q : List ℕ) (P : List ℕ → Type 0) → Reads left_of faults_of beside_of a b failed Lacks (λ m. q ≡ p ++ m) → P q
    → Reads left_of faults_of beside_of a b failed Lacks (λ m. P (p ++ m))
read_of left_of faults_of beside_of a b failed Lacks p q P one holds =
    reads_as left_of faults_of beside_of a b failed Lacks Lacks (λ m. q ≡ p ++ m) (λ m. P (p ++ m)) one (λ h. h) (λ m is. subst P is holds)

-- an error inside a part says that the bytes end in it
pub part_told : (e : ReadError) (P : Ending → Type 0) → StopsReading e → P Part → Tells e P
part_told End P stops part = absurd stops
part_told CutShort P stops part = part
part_told (Refused refusal) P stops part = absurd stops
part_told ReadFault P stops part = part
part_told Memory P stops part = part

-- what an error says about the ending may be weakened
pub told_as : (e : ReadError) (P Q : Ending → Type 0) → ((o : Ending) → P o → Q o) → Tells e P → Tells e Q
told_as End P Q f told = told
told_as CutShort P Q f told = f Part told
told_as (Refused refusal) P Q f (inl wrong) = inl (wrong.0, f _ wrong.1)
told_as (Refused refusal) P Q f (inr long) = inr (long.0, f _ long.1)
told_as ReadFault P Q f told = f Part told
told_as Memory P Q f told = f Part told

-- the pending bytes lacked something, and no more arrived
pub stopped : {T : Type 0} (left_of : T → Option (List ℕ)) (faults_of : T → ℕ) (beside_of : T → Option (List ℕ) × ℕ) (a b c : T) (failed : Bool)
    (X : List ℕ → Type 0) (P : List ℕ → Ending → Type 0) (p q r : List ℕ) (e : ReadError) → Reads left_of faults_of beside_of a b false (X p) (λ m. q ≡ p ++ m) → X q
    → Reads left_of faults_of beside_of b c failed (Unit {0}) (λ m. r ≡ q ++ m) → r ≡ q → StopsReading e → P q Part
    → Reads left_of faults_of beside_of a c failed (X p) (λ m. Tells e (P (p ++ m)))
stopped left_of faults_of beside_of a b c failed X P p q r e one lacks two same stops part =
    read_of left_of faults_of beside_of a c failed (X p) p r (λ (l : List ℕ). Tells e (P l)) (grown left_of faults_of beside_of a b c failed X p q r one lacks two)
    (subst (λ (l : List ℕ). Tells e (P l)) (sym same) (part_told e (P q) stops part))

-- bytes are taken after those at hand, and then more
pub reads_on : {T : Type 0} (left_of : T → Option (List ℕ)) (faults_of : T → ℕ) (beside_of : T → Option (List ℕ) × ℕ) (a b c : T) (failed : Bool) (entry : List ℕ)
    (Lacks Then All : Type 0) (P Q R : List ℕ → Type 0) → Reads left_of faults_of beside_of a b false Lacks (λ m. P (entry ++ m))
    → Reads left_of faults_of beside_of b c failed Then Q → (Lacks → All) → (P entry → Then → All) → ((bytes n : List ℕ) → P bytes → Q n → R (bytes ++ n))
    → Reads left_of faults_of beside_of a c failed All (λ m. R (entry ++ m))
reads_on left_of faults_of beside_of a b c failed entry Lacks Then All P Q R one two first second join =
    reads_then left_of faults_of beside_of a b c failed Lacks Then All (λ m. P (entry ++ m)) Q (λ m. R (entry ++ m)) one two first
    (λ held lacks. second (subst P (append-nil entry) held) lacks)
    (λ m n held more. subst R (append_assoc entry m n) (join (entry ++ m) n held more))

-- nothing is read yet
pub pending_start : {T : Type 0} (left_of : T → Option (List ℕ)) (faults_of : T → ℕ) (beside_of : T → Option (List ℕ) × ℕ) (a : T) (X : List ℕ → Type 0) (p : List ℕ)
    → Reads left_of faults_of beside_of a a false (X p) (λ m. p ≡ p ++ m)
pending_start left_of faults_of beside_of a X p = reads_none left_of faults_of beside_of a (X p) (λ m. p ≡ p ++ m) (sym (append-nil p))
