-- What follows if the bytes of a disk are known.
use Rattle.std.proofs.Common.{◌≡◌, ℕ, Bool, true, List, Option, Some, None, refl, sym, ap, subst}
use Rattle.std.specs.Prelude.{IfSome, is_some, option_map}
use Rattle.fedi_journal.specs.Chains.{chained}
use Rattle.fedi_outside.specs.Known.{records_told}
use Rattle.fedi_outside.specs.Disks.{DiskState}
use Rattle.fedi_outside.specs.Keepers.{IfTold}

-- it holds of the bytes, if it holds of whatever they are
pub each_some : (o : Option (List ℕ)) {P : List ℕ → Type 0} → ((bytes : List ℕ) → o ≡ Some bytes → P bytes) → IfSome o P
each_some None f = tt
each_some (Some bytes) f = f bytes refl

-- of records that are known
pub of_told : (told : Bool) (records : Option (List (List ℕ))) (rs : List (List ℕ)) (P : List (List ℕ) → Type 0) → told ≡ true → records ≡ Some rs
    → IfTold told records P → P rs
of_told told records rs P is_told is h = subst (λ (o : Option (List (List ℕ))). IfTold true o P) is (subst (λ (b : Bool). IfTold b records P) is_told h)

-- known records are those of known bytes
pub told_bytes : (f : List ℕ → List (List ℕ)) (o : Option (List ℕ)) (rs : List (List ℕ)) → option_map f o ≡ Some rs → (bytes : List ℕ) × (o ≡ Some bytes)
told_bytes f None rs is = absurd (cc is)
told_bytes f (Some bytes) rs is = (bytes, refl)

pub untold_bytes : (f : List ℕ → List (List ℕ)) (o : Option (List ℕ)) → option_map f o ≡ None → o ≡ None
untold_bytes f None is = refl
untold_bytes f (Some bytes) is = absurd (cc is)

pub is_told : (f : List ℕ → List (List ℕ)) (o : Option (List ℕ)) (rs : List (List ℕ)) → option_map f o ≡ Some rs → is_some o ≡ true
is_told f o rs is = ap is_some (told_bytes f o rs is).1

pub told_alike : (f g : List ℕ → List (List ℕ)) (h : List (List ℕ) → List (List ℕ)) (a b : Option (List ℕ)) → option_map g b ≡ option_map h (option_map f a)
    → is_some b ≡ is_some a
told_alike f g h None None is = refl
told_alike f g h None (Some y) is = absurd (cc is)
told_alike f g h (Some x) None is = absurd (cc is)
told_alike f g h (Some x) (Some y) is = refl

-- the same disk by another name
pub records_here : {D : Type 0} (shown : D → DiskState) (count : ℕ) (a b : D) → a ≡ b → records_told chained count (shown b) ≡ records_told chained count (shown a)
records_here shown count a b same = ap (λ d. records_told chained count (shown d)) (sym same)

pub faults_here : {D : Type 0} (shown : D → DiskState) (a b : D) → a ≡ b → (shown b).faults ≡ (shown a).faults
faults_here shown a b same = ap (λ d. (shown d).faults) (sym same)
